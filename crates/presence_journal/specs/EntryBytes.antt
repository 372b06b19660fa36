-- How many bytes an entry keeps beside itself: those of a meta, of what is shouted, of what another node told, and of dots
-- that are taken out or put in the place of others. The dots of a list are not among them, since lists share theirs.
use Rattle.std.specs.Prelude.{ℕ, ◌+◌, ◌*◌, List, [], ◌∷◌, length}
use Rattle.serde_json.specs.Written.{compact_text}
use Rattle.orswot_core.specs.Telling.{ToldValue}
use Rattle.presence_base.specs.declared.dots.Dot.{Dot}
use Rattle.presence_base.specs.declared.row.Row.{Row}
use Rattle.presence_journal.specs.declared.entry.Outcome.{Outcome}
use Rattle.presence_journal.specs.declared.entry.Outcome.TheVariants as outcomes_are
use Rattle.presence_journal.specs.declared.step.Step.{Step}
use Rattle.presence_journal.specs.declared.step.Step.TheVariants as steps_are

-- a row that is told takes 256 bytes beside its meta
abbrev pub rows_bytes : List (Dot × Row) → ℕ
rows_bytes [] = 0
rows_bytes (x ∷ xs) = 256 + length (compact_text x.1.meta) + rows_bytes xs

-- a range takes 64, a dot 56
abbrev pub told_bytes : ToldValue → ℕ
told_bytes t = rows_bytes t.live + 64 * length t.ranges + 56 * length t.extras

abbrev pub step_bytes : Step → ℕ
step_bytes (steps_are.Track pid topic key meta) = length (compact_text meta)
step_bytes (steps_are.Update pid topic key meta) = length (compact_text meta)
step_bytes (steps_are.Shout topic payload) = length (compact_text payload)
step_bytes (steps_are.Merge told) = told_bytes told
step_bytes _ = 0

abbrev pub outcome_bytes : Outcome → ℕ
outcome_bytes (outcomes_are.Removed dots) = 56 * length dots
outcome_bytes (outcomes_are.Reborn pairs) = 112 * length pairs
outcome_bytes _ = 0

abbrev pub entry_bytes : Step → Outcome → ℕ
entry_bytes s o = step_bytes s + outcome_bytes o
