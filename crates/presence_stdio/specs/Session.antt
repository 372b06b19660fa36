-- What one session over one shard says to a line, and how that is written.
-- The engine takes `State`, `start` and `answer` from here, and knows nothing else of sessions and shards.
use Rattle.std.specs.Prelude.{◌≡◌, ℕ, List, [], ◌∷◌, ◌++◌, false, None, Option, Some, if◌then◌else◌, Result, Ok, Err, String, Vec}
use Rattle.std.specs.Global.{Global}
use Rattle.phx_message.specs.declared.message.Message.{Message}
use Rattle.phx_message.specs.declared.message.MessageFault.{MessageFault}
use Rattle.hook_registry.specs.declared.hooks.PresenceHooks.{Ghosts}
use Rattle.presence_journal.specs.History.{History, begun}
use Rattle.phx_message.specs.Reading.{decoded}
use Rattle.phx_message.specs.declared.message.TheConstants.Limits as the_limits
use Rattle.channel_session.specs.Delivery.{DeliveredBy, delivery}
use Rattle.channel_session.specs.declared.frames.Delivery.{Delivery}
use Rattle.channel_session.specs.Ran.{RanBy}
use Rattle.channel_session.specs.declared.fault.SessionFault.{SessionFault}
use Rattle.channel_rules.specs.InForce.{InForce}
use Rattle.channel_rules.specs.Said.{Said, WritesAll, NotesAll}
use Rattle.presence_stdio.specs.Local.{LocalStep, played}
use Rattle.channel_rules.specs.Rules.{End, answers, full, memory, rules}
use Rattle.channel_session.specs.Wording.{worded_by, noted_by}
use Rattle.channel_session.specs.declared.fault.SessionFault.TheVariants.{ShardFull, Failed}
use Rattle.presence_stdio.specs.Reading.{line_message}
use Rattle.presence_stdio.specs.declared.fault.LineFault.{LineFault}
use Rattle.presence_stdio.specs.declared.fault.LineFault.TheVariants.{Message as no_message, Session as stopped_by}
use Rattle.presence_journal.specs.declared.limits.TheConstants.{MAX_TAKEN}
use Rattle.presence_stdio.specs.declared.local.LocalSession.{LocalSession}
use Rattle.presence_stdio.specs.declared.local.Output.{Output}
use Rattle.presence_options.specs.declared.options.StdioOptions.{StdioOptions}

-- what is kept between two lines: the routes, what the session holds, and the shard's journal
abbrev pub State : Type 0
State = LocalSession

-- the session of number 1, which has joined nothing, and an empty journal
abbrev pub start : StdioOptions → State
start o = record {
  routes = o.routes;
  session = record { pid = 1; failed = false; joined = []; cut_short = None };
  shard = begun (record { name = o.name; incarnation = o.incarnation });
}

-- ---- how what is said is written

-- these texts, each with a line feed behind it
abbrev pub printed : List (List ℕ) → List ℕ
printed [] = []
printed (t ∷ ts) = t ++ 10 ∷ printed ts

-- which messages what is said may be told by, and which notices what a delivery says may have
pub record Voice : Type 1 where
  pub worded : Said → Message → Type 0
  pub noted : Said → List (List ℕ) → Type 0

-- the voice of hooks, by what their closures may answer
abbrev pub voice_of : {S : Type 0} → Ghosts S → S → Voice
voice_of H hooks = record { worded = worded_by H hooks; noted = noted_by H hooks }

-- what is said to the client, and what of it a delivery said
pub record Speech : Type 0 where
  pub said : List Said
  pub dealt : List Said

abbrev pub silence : Speech
silence = record { said = []; dealt = [] }

abbrev pub and_then : Speech → Speech → Speech
and_then a b = record { said = a.said ++ b.said; dealt = a.dealt ++ b.dealt }

-- a line's own answer, which no delivery said
abbrev pub answering : List Said → Speech
answering said = record { said = said; dealt = [] }

-- what a delivery said
abbrev pub dealing : List Said → Speech
dealing said = record { said = said; dealt = said }

-- these are texts of what is said, and notices of what was dealt, a line each
pub record Says (v : Voice) (speech : Speech) (text notes : List ℕ) : Type 0 where
  pub texts : List (List ℕ)
  pub worded : WritesAll v.worded speech.said texts
  pub text_is : text ≡ printed texts
  pub notices : List (List ℕ)
  pub noted : NotesAll v.noted speech.dealt notices
  pub notes_are : notes ≡ printed notices

-- what is said to a line, and then the state for the next one or the fault that ends the run
pub record Answer : Type 0 where
  pub speech : Speech
  pub next : Result State LineFault

-- this is said, and then the run ends
abbrev pub ends : Speech → LineFault → Answer
ends speech f = record { speech = speech; next = Err f }

-- what was delivered is said behind the line's own answer
abbrev pub delivered : List (List ℕ × ℕ) → Speech → End → History → Answer
delivered routes speech (answers said s) h =
    record { speech = and_then speech (dealing said); next = Ok (record { routes = routes; session = s; shard = h }) }
delivered routes speech full h = ends speech (stopped_by ShardFull)
delivered routes speech memory h = ends speech (stopped_by ShardFull)

-- One delivery takes all that ever waits for a topic.
abbrev pub with_delivery : List (List ℕ × ℕ) → Speech → InForce → History → Answer
with_delivery routes speech s h = let x = played s.pid (delivery MAX_TAKEN s) h in delivered routes speech x.0 x.1

-- what the rules answer, and then a delivery
abbrev pub ruled : List (List ℕ × ℕ) → End → History → Answer
ruled routes (answers said s) h = with_delivery routes (answering said) s h
ruled routes full h = ends silence (stopped_by ShardFull)
ruled routes memory h = ends silence (stopped_by ShardFull)

abbrev pub answer_to : State → Result Message MessageFault → Answer
answer_to s (Err f) = ends silence (no_message f)
answer_to s (Ok m) = let x = played s.session.pid (rules s.routes s.session m) s.shard in ruled s.routes x.0 x.1

-- A session that has failed answers nothing further. No line that is answered leaves such a session.
abbrev pub answer : State → List ℕ → Answer
answer s line = if s.session.failed then ends silence (stopped_by Failed) else answer_to s (line_message line)

-- ---- the code's answer

abbrev pub next_of : Option LineFault → State → Result State LineFault
next_of None after = Ok after
next_of (Some f) after = Err f

-- the output has texts and notices of this answer, and this state comes after it
pub record Tells (v : Voice) (a : Answer) (after : State) (o : Output) : Type 0 where
  pub says : Says v a.speech o.text.items o.notes.items
  pub next : a.next ≡ next_of o.fault after

abbrev pub AnswersLine : Voice → State → State → List ℕ → Output → Type 0
AnswersLine v s after line o = Tells v (answer s line) after o

-- a line that is no message changes nothing
abbrev pub Keeps : Option LineFault → State → State → Type 0
Keeps (Some (no_message f)) s after = after ≡ s
Keeps _ s after = Unit {0}

-- what one text came to over the shard
abbrev pub Answered : Voice → List (List ℕ × ℕ) → List ℕ → InForce → History → History → InForce
    → Result (Vec (String Global) Global) SessionFault → Type 0
Answered v routes text s old new after r =
    RanBy v.worded (LocalStep s.pid) routes s (decoded the_limits.CLIENT text) old new after r

-- by the voice of these hooks
abbrev pub AnsweredBy : {S : Type 0} → Ghosts S → S → List (List ℕ × ℕ) → List ℕ → InForce → History → History → InForce
    → Result (Vec (String Global) Global) SessionFault → Type 0
AnsweredBy H hooks routes text s old new after r = Answered (voice_of H hooks) routes text s old new after r

-- and one delivery
abbrev pub Dealt : Voice → InForce → History → History → InForce → Result Delivery SessionFault → Type 0
Dealt v s old new after r = DeliveredBy v.worded v.noted (LocalStep s.pid) MAX_TAKEN s old new after r

-- the output is what a delivery behind this text answers, whatever it is a text of
abbrev pub TellsDelivery : Voice → State → List ℕ → State → Output → Type 0
TellsDelivery v s text after o =
    (said : List Said) (texts : List (List ℕ)) → WritesAll v.worded said texts → text ≡ printed texts
    → Tells v (with_delivery s.routes (answering said) s.session s.shard) after o
