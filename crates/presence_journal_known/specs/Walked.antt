-- What a walk over the entries of a journal keeps: a set of what their history says of each dot.
use Rattle.std.specs.Prelude.{◌≡◌, true, Option, Some, None}
use Rattle.std.specs.FinSet as set
use Rattle.std.specs.FinMap as map
use Rattle.presence_base.specs.declared.dots.Dot.{Dot}
use Rattle.orswot_core.specs.Telling.{ToldValue}
use Rattle.presence_base.specs.declared.row.Row.{Row}
use Rattle.orswot_core.specs.Limits.{is_row}
use Rattle.orswot_core.specs.Sets.{DotRows, with_dot}
use Rattle.presence_journal.specs.declared.step.Step.TheVariants as steps_are
use Rattle.presence_journal.specs.History.{History, Then, with_prev, known, live}
use Rattle.presence_journal.specs.declared.step.Step.{Step}
use Rattle.presence_journal.specs.declared.entry.Entry.{Entry}
use Rattle.presence_journal.specs.Table.{IsLegal}

-- the set covers the known dots, and has the live rows
pub record Holds (h : History) (s : DotRows) : Type 0 where
  pub known : (d : Dot) → set.contains s.covered d ≡ known h d
  pub live : (d : Dot) → map.get s.live d ≡ live h d

-- the set holds what is so after any entry that merges this
abbrev pub IsMergeAfter : History → ToldValue → DotRows → Type 0
IsMergeAfter h t s = (e : Entry) → IsLegal (Then h e) → e.step ≡ steps_are.Merge t → Holds (Then h e) s

-- with the row that a step makes under a dot, where it makes one
abbrev pub with_made : DotRows → Option Row → Dot → DotRows
with_made s None d = s
with_made s (Some r) d = with_dot s d r

-- with the row of the old dot under the new one
abbrev pub with_again : DotRows → Dot × Dot → DotRows
with_again s p = with_made s (with_prev p.1 (map.get s.live p.1)) p.0

-- a row that is made is within the limits of rows
abbrev pub IsMadeWithin : Option Row → Type 0
IsMadeWithin o = (r : Row) → o ≡ Some r → is_row r ≡ true

-- what a step tells
abbrev pub told_in : Step → Option ToldValue
told_in (steps_are.Merge t) = Some t
told_in _ = None
