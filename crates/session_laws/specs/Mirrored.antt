-- What a client that folds all that a session wrote holds of each joined topic.
use Rattle.std.specs.Prelude.{◌≡◌, ◌≤◌, ◌⊎◌, ℕ, List, [], ◌∷◌, length, IsTrue, true, Option, Some, None, Result, Ok, Err}
use Rattle.std.specs.List.{AllByRecursion}
use Rattle.hook_registry.specs.declared.hooks.PresenceHooks.{Ghosts}
use Rattle.serde_json.specs.Data.{Members}
use Rattle.presence_base.specs.Names.{is_node_name}
use Rattle.presence_base.specs.Refs.{IsCount}
use Rattle.phx_message.specs.Orderly.{MembersAreOrderly}
use Rattle.phx_message.specs.Reading.{decoded}
use Rattle.phx_message.specs.declared.message.Message.{Message}
use Rattle.phx_message.specs.declared.message.TheConstants.Limits as the_limits
use Rattle.presence_journal.specs.Present.{listed}
use Rattle.session_laws.specs.Keeping.{IsSaid, InStep, client_lists}
use Rattle.session_laws.specs.Mirrors.{Mirrors}
use Rattle.channel_rules.specs.Said.{EachBy, text_of}
use Rattle.presence_stdio.specs.Run.{run}
use Rattle.presence_stdio.specs.Session.{State, Speech, start, answer, voice_of}
use Rattle.presence_stdio.specs.declared.fault.LineFault.{LineFault}
use Rattle.presence_options.specs.declared.options.StdioOptions.{StdioOptions}

abbrev pub goes_on : Result State LineFault → (State → Option State) → Option State
goes_on (Ok s) next = next s
goes_on (Err f) next = None

-- the state after these lines, where each is answered
abbrev pub after_lines : State → List (List ℕ) → Option State
after_lines s [] = Some s
after_lines s (l ∷ ls) = goes_on (answer s l).next (λ t. after_lines t ls)

-- the message is what its text is decoded to, where that is within the frame limit
abbrev pub IsReadBack : Message → Type 0
IsReadBack m = length (text_of m) ≤ the_limits.FRAME.bytes → decoded the_limits.FRAME (text_of m) ≡ Ok m

-- what is fetched has its names in byte order, each once, and so have the objects in it, and its whole numbers are of 64 bits
abbrev pub FetchesOrderly : {S : Type 0} → Ghosts S → S → Type 0
FetchesOrderly H hooks = (kind : ℕ) (topic key : List ℕ) (e : Members) → H.fetched hooks kind topic key e
    → MembersAreOrderly e

-- the client's lists of each joined topic have its present rows after these messages
abbrev pub MirrorAll : List Message → State → Type 0
MirrorAll ms s = AllByRecursion (λ j. Mirrors (client_lists j.topic [] ms) (listed s.shard j.topic)) s.session.joined

-- Answers and items were said, and nothing waits for a joined topic. Whatever these hooks added, the client's lists have the present rows after the messages that tell what
-- was said; and each of these is read back, where nothing is added or what is fetched is orderly.
pub record IsMirrored {S : Type 0} (H : Ghosts S) (hooks : S) (speech : Speech) (s : State) : Type 0 where
  pub said : AllByRecursion IsSaid speech.said
  pub in_step : InStep s.session s.shard
  pub mirrors : (ms : List Message) → EachBy (voice_of H hooks).worded speech.said ms → MirrorAll ms s
  pub read_back : (ms : List Message) → EachBy (voice_of H hooks).worded speech.said ms → (H.plain hooks ≡ true)
      ⊎ FetchesOrderly H hooks → AllByRecursion IsReadBack ms

-- so it is behind each line of every input, as long as the lines are answered
abbrev pub MirroredBehindLines : {S : Type 0} → Ghosts S → S → StdioOptions → Type 0
MirroredBehindLines H hooks o = (lines : List (List ℕ)) (s : State) → after_lines (start o) lines ≡ Some s
    → IsMirrored H hooks (run (start o) lines).speech s

abbrev pub JoinedAreMirrored : {S : Type 0} → Ghosts S → S → Type 0
JoinedAreMirrored H hooks = (o : StdioOptions) → IsTrue (is_node_name o.name) → IsCount o.incarnation
    → MirroredBehindLines H hooks o
