-- What the engine needs to know of a session: the bytes that are kept of a line tell its answer, and a line that isn't kept whole ends the run.
use Rattle.std.proofs.Common.{◌≡◌, ◌≤◌, ◌<◌, ◌+◌, ℕ, List, length, take, Bool, true, false, cond, Result, Ok, Err, sym, ap, ◌∙◌, arith}
use Rattle.phx_message.specs.declared.message.Message.{Message}
use Rattle.phx_message.specs.declared.message.MessageFault.{MessageFault}
use Rattle.phx_message.specs.declared.message.MessageFault.TheVariants.{TooLong}
use Rattle.channel_session.specs.declared.fault.SessionFault.TheVariants.{Failed}
use Rattle.presence_stdio.specs.declared.fault.LineFault.{LineFault}
use Rattle.presence_stdio.specs.declared.fault.LineFault.TheVariants.{Session}
use Rattle.presence_stdio.specs.Reading.{line_limit}
use Rattle.presence_stdio.specs.Session.{State, Answer, silence, answer, answer_to, ends}
use Rattle.presence_stdio.proofs.Messages.{line_too_long, kept_message}

abbrev read_by : State → Result Message MessageFault → Answer
read_by s read = cond s.session.failed (ends silence (Session Failed)) (answer_to s read)

-- the bytes that are kept of a line tell its answer
pub kept_answer : (s : State) (line : List ℕ) → answer s (take (line_limit + 1) line) ≡ answer s line
kept_answer s line = ap (read_by s) (kept_message line)

ok_not_err : (after : State) (f : LineFault) → ◌≡◌ {A = Result State LineFault} (Err f) (Ok after) → ⊥
ok_not_err after f h = cc

too_long_ends : (b : Bool) (s after : State) → (cond b (ends silence (Session Failed)) (answer_to s (Err TooLong))).next ≡ Ok after → ⊥
too_long_ends true s after h = ok_not_err after _ h
too_long_ends false s after h = ok_not_err after _ h

or_longer : (n k : ℕ) → (n < k → ⊥) → k ≤ n
or_longer n k h = omega (arith, h)

-- a line after which the run goes on is whole
pub is_whole : (s after : State) (line : List ℕ) → (answer s line).next ≡ Ok after → length line ≤ line_limit
is_whole s after line h = or_longer line_limit (length line) (λ long. too_long_ends s.session.failed s after (ap (λ r. (read_by s r).next) (sym (line_too_long line long)) ∙ h))
