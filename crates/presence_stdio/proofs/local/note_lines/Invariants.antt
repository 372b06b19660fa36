use Rattle.std.proofs.Common.{◌≡◌, ◌++◌, drop}
use Rattle.presence_stdio.specs.Session.{printed}
use Rattle.presence_stdio.proofs.local.note_lines.Given as goal

-- what was noted, followed by what is left
abbrev pub invariant-loop-notice : goal.invariant-loop-notice
invariant-loop-notice l = printed l.notices ≡ l.notes.items ++ printed (drop l.notice-index l.notices)
