-- The members of a line: which JSON values are numbers within limits, names, replicas, dots and ranges.
use Rattle.std.specs.Prelude.{ℕ, List, ◌&&◌, nat_le, Option, Some, None}
use Rattle.serde_json.specs.Data.{unsigned, Data, number, string}
use Rattle.presence_base.specs.declared.dots.TheConstants.{MAX_COUNT}
use Rattle.presence_base.specs.declared.dots.Replica.{Replica}
use Rattle.presence_base.specs.declared.dots.Dot.{Dot}
use Rattle.presence_base.specs.Names.{is_node_name, guarded}

infixl 10 ◌>>=◌
abbrev pub ◌>>=◌ : {A B : Type 0} → Option A → (A → Option B) → Option B
None >>= f = None
(Some x) >>= f = f x

-- a whole number without a sign
abbrev pub whole_in : Data → Option ℕ
whole_in (number (unsigned n)) = Some n
whole_in _ = None

-- such a number from low to high
abbrev pub within : ℕ → ℕ → ℕ → Option ℕ
within low high n = guarded (nat_le low n && nat_le n high) n

abbrev pub number_in : ℕ → ℕ → Data → Option ℕ
number_in low high d = whole_in d >>= within low high

-- an incarnation or a dot's count; where a range begins or ends, or a count that may be none
abbrev pub count_in : Data → Option ℕ
count_in d = number_in 1 MAX_COUNT d

abbrev pub bound_in : Data → Option ℕ
bound_in d = number_in 0 MAX_COUNT d

abbrev pub text_in : Data → Option (List ℕ)
text_in (string s) = Some s
text_in _ = None

abbrev pub name_in : Data → Option (List ℕ)
name_in d = text_in d >>= (λ s. guarded (is_node_name s) s)

abbrev pub replica_in : Data → Data → Option Replica
replica_in name incarnation = do
  n ← name_in name
  i ← count_in incarnation
  Some (record { name = n; incarnation = i })

abbrev pub dot_in : Data → Data → Data → Option Dot
dot_in name incarnation count = do
  r ← replica_in name incarnation
  n ← count_in count
  Some (record { replica = r; count = n })
