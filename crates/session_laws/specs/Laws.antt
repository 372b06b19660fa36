-- The laws of sessions, which the functions of `laws` state.
use Rattle.std.specs.Prelude.{◌≡◌, ℕ, List, [], ◌∷◌, ◌++◌, ◌&&◌, map, true, false, Option, Some, Ok, Err}
use Rattle.phx_message.specs.declared.message.Message.{Message}
use Rattle.phx_message.specs.declared.message.MsgRef.{MsgRef}
use Rattle.presence_journal.specs.declared.rows.Item.{Item}
use Rattle.presence_journal.specs.History.{History}
use Rattle.presence_journal.specs.Present.{listed}
use Rattle.presence_journal.specs.Queue.{Queued, queue, topic_of, taken, is_waiting}
use Rattle.presence_journal.specs.Table.{IsLegal}
use Rattle.presence_metas.specs.Listing.{Listing}
use Rattle.tracker_shard.specs.declared.fault.ShardFault.TheVariants.{OutOfMemory}
use Rattle.channel_rules.specs.declared.refusal.Refusal.TheVariants.{Table}
use Rattle.channel_rules.specs.Asks.{Ask, Answer, Call}
use Rattle.channel_rules.specs.Delivering.{delivery}
use Rattle.channel_rules.specs.Frames.{message_of}
use Rattle.channel_rules.specs.InForce.{Joined}
use Rattle.session_laws.specs.Mirrors.{mirror_from, Mirrors, given_to, given_by}
use Rattle.presence_stdio.specs.Local.{LocalStep, answer_in, after_in, played}
use Rattle.session_laws.specs.Keeping.{fresh}
use Rattle.session_laws.specs.Turns.{Turn, heard, is_join, answered_ok, joined_by, in_force, Turned, AllTurned}
use Rattle.channel_rules.specs.Outcome.{Follows}
use Rattle.channel_rules.specs.InForce.{InForce}
use Rattle.channel_rules.specs.Rules.{End, answers, rules}
use Rattle.channel_rules.specs.Said.{Said}
use Rattle.channel_rules.specs.Script.{Script}

-- what a lent shard answers, and the history that it leaves, are the sequential table's, unless memory is wanted
abbrev pub AnswersByTable : Type 0
AnswersByTable = (pid : ℕ) (old new : History) (q : Ask) (a : Answer q) → LocalStep pid old q a new
    → (a ≡ Err (Table OutOfMemory) → ⊥) → (a ≡ answer_in pid old q) × (new ≡ after_in pid old q)

-- want of memory leaves the history as it was
abbrev pub WantStays : Type 0
WantStays = (pid : ℕ) (old new : History) (q : Ask) → LocalStep pid old q (Err (Table OutOfMemory)) new → new ≡ old

-- Over a lent shard a script that is answered was played against the table: what it says, what is in force after it
-- and the new history are a function of the script, the asking session's number and the history.
abbrev pub IsPlayed : Script End → Type 0
IsPlayed script =
    (pid : ℕ) (said : List Said) (s : InForce) (old new : History)
    → Follows (LocalStep pid) script old new (Ok (answers said s)) → played pid script old ≡ (answers said s, new)

abbrev pub RulesArePlayed : Type 0
RulesArePlayed = (routes : List (List ℕ × ℕ)) (s : InForce) (m : Message) → IsPlayed (rules routes s m)

abbrev pub DeliveriesArePlayed : Type 0
DeliveriesArePlayed = (max : ℕ) (s : InForce) → IsPlayed (delivery max s)

-- The frames of what a present subscriber took since its last State, followed by those of what waits for it, lead a
-- client's lists, whatever they were, to mirror the present rows of its topic.
abbrev pub FramesMirror : Type 0
FramesMirror =
    (h : History) → IsLegal h → (n : ℕ) (t : List ℕ) → topic_of h n ≡ Some t → (q : List Item) → queue h n ≡ Queued q
    → (join_ref : Option MsgRef) (before : Listing)
    → Mirrors (mirror_from before (map (message_of join_ref t) (taken h n ++ q))) (listed h t)

-- once nothing waits for it, all frames that it was ever given do
abbrev pub AllFramesMirror : Type 0
AllFramesMirror =
    (h : History) → IsLegal h → (n : ℕ) (t : List ℕ) → topic_of h n ≡ Some t → is_waiting (queue h n) ≡ false
    → (join_ref : Option MsgRef) (before : Listing)
    → Mirrors (mirror_from before (map (message_of join_ref t) (given_to h n))) (listed h t)

-- a call of a lent shard gives a subscriber what it answers to its take, and nothing else does
abbrev pub CallsGive : Type 0
CallsGive = (pid : ℕ) (old new : History) (q : Ask) (a : Answer q) → LocalStep pid old q a new → (n : ℕ)
    → given_to new n ≡ given_to old n ++ given_by q a n

-- Whatever a port answers: after turns of a session that had joined nothing, none of which left it failed, in force are the topics whose last
-- join was answered ok and that have no later leave.
abbrev pub InForceByTurns : Type 0
InForceByTurns = (routes : List (List ℕ × ℕ)) (pid : ℕ) (turns : List Turn) (s : InForce)
    → AllTurned routes (fresh pid) turns s → s.joined ≡ in_force routes turns

-- a join that was answered ok is of a topic with a kind, and the port gave it a subscriber
abbrev pub OkJoinsAreGiven : Type 0
OkJoinsAreGiven =
    (routes : List (List ℕ × ℕ)) (s : InForce) (m : Message) (calls : List Call) (said : List Said) (t : InForce)
    → Turned routes s (heard m calls said) t
    → (is_join m && answered_ok said) ≡ true → (j : Joined) × (joined_by routes (heard m calls said) ≡ j ∷ [])
