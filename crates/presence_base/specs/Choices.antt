-- What two answers, or a truth value, come to.
use Rattle.std.specs.Prelude.{ℕ, Bool, true, false, Option, Some, None}

-- the first of two that is there
abbrev pub first_some : {A : Type 0} → Option A → Option A → Option A
first_some (Some x) o = Some x
first_some None o = o

abbrev pub one_if : Bool → ℕ
one_if true = 1
one_if false = 0
