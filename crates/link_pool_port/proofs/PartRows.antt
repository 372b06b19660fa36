-- The rows of a part, counted one by one: up to where they are more than a part has.
use Rattle.std.proofs.Common.{◌≡◌, ℕ, suc, ◌+◌, ◌-◌, ◌<◌, ◌≤◌, max, true, cond, nat_le, List, ◌∷◌, length, get_or, drop, map, refl, ap, subst, arith}
use Rattle.std.specs.List.{filter}
use Rattle.std.proofs.lemmas.Bool.Decides.{nat_tests}
use Rattle.std.proofs.lemmas.List.{drop_more}
use Rattle.presence_base.specs.declared.dots.Dot.{Dot}
use Rattle.presence_base.specs.declared.row.Row.{Row}
use Rattle.presence_journal_cuts.specs.Parting.{is_up_to}
use Rattle.link_lines.specs.Values.{row_value}
use Rattle.link_pool_port.specs.declared.parts.TheConstants.{MAX_PART_BYTES}
use Rattle.link_pool_port.specs.Lengths.{counted, size_of, sizes}
use Rattle.link_pool_port.specs.Parts.{is_over}

-- the bytes of the rows up to a count
abbrev pub bytes_up_to : ℕ → List (Dot × Row) → ℕ
bytes_up_to m rows = sizes (map row_value (filter (λ x. is_up_to m x.0) rows))

-- of all rows, of which these are left, so many bytes are left of a part: up to any count that none of the others is above
abbrev pub AreLeft : (left last : ℕ) → (rest all : List (Dot × Row)) → Type 0
AreLeft left last rest all =
    (left ≤ MAX_PART_BYTES) × ((m : ℕ) → last ≤ m → bytes_up_to m rest + MAX_PART_BYTES ≤ left + bytes_up_to m all)

pub all_left : (all : List (Dot × Row)) → AreLeft MAX_PART_BYTES 0 all all
all_left all = (omega arith, λ m le. omega arith)

takes : (m : ℕ) (x : Dot × Row) (rest : List (Dot × Row)) → x.0.count ≤ m → bytes_up_to m (x ∷ rest) ≡ size_of (row_value x) + 1 + bytes_up_to m rest
takes m x rest le = ap (λ b. sizes (map row_value (cond b (x ∷ filter (λ y. is_up_to m y.0) rest) (filter (λ y. is_up_to m y.0) rest)))) is
  where
    is : nat_le x.0.count m ≡ true
    is = grind (arith, nat_tests, le)

limit : MAX_PART_BYTES ≡ 262144
limit = refl

-- a row for which there is room
pub row_more : (left last bytes : ℕ) (x : Dot × Row) (rest all : List (Dot × Row)) → bytes ≡ counted (size_of (row_value x) + 1) → bytes ≤ left
    → AreLeft left last (x ∷ rest) all → AreLeft (left - bytes) (max last x.0.count) rest all
row_more left last bytes x rest all is room before = (
  omega (arith, before.0),
  λ m le.
      omega (arith, exact, room, before.1 m (omega (arith, le)), takes m x rest (omega (arith, le))),
)
  where
    exact : bytes ≡ size_of (row_value x) + 1
    exact = omega (arith, is, room, before.0, limit)

past_up_to : (m left last bytes : ℕ) (x : Dot × Row) (rest all : List (Dot × Row)) → last ≤ m → x.0.count ≤ m → bytes ≡ counted (size_of (row_value x) + 1) → left < bytes
    → AreLeft left last (x ∷ rest) all → is_over (filter (λ y. is_up_to m y.0) all) ≡ true
past_up_to m left last bytes x rest all low up is none before = grind (arith, nat_tests, more)
  where
    more : MAX_PART_BYTES < bytes_up_to m all
    more = omega (arith, is, none, before.1 m low, takes m x rest up)

-- one for which there is none: with it they are more than a part has
pub row_past : (left last bytes : ℕ) (x : Dot × Row) (rest all : List (Dot × Row)) → bytes ≡ counted (size_of (row_value x) + 1) → left < bytes
    → AreLeft left last (x ∷ rest) all → is_over (filter (λ y. is_up_to (suc (max last x.0.count - 1)) y.0) all) ≡ true
row_past left last bytes x rest all is none before =
    past_up_to (suc (max last x.0.count - 1)) left last bytes x rest all (omega arith) (omega arith) is none before

-- the same of the row in its place
pub row_more_at : (left last bytes i : ℕ) (x : Dot × Row) (rows : List (Dot × Row)) → i < length rows → bytes ≡ counted (size_of (row_value (get_or rows i x)) + 1) → bytes ≤ left
    → AreLeft left last (drop i rows) rows → AreLeft (left - bytes) (max last (get_or rows i x).0.count) (drop (i + 1) rows) rows
row_more_at left last bytes i x rows inside is room before =
    row_more left last bytes (get_or rows i x) (drop (i + 1) rows) rows is room (subst (λ rest. AreLeft left last rest rows) (drop_more rows i x inside) before)

pub row_past_at : (left last bytes i : ℕ) (x : Dot × Row) (rows : List (Dot × Row)) → i < length rows → bytes ≡ counted (size_of (row_value (get_or rows i x)) + 1) → left < bytes
    → AreLeft left last (drop i rows) rows → is_over (filter (λ y. is_up_to (suc (max last (get_or rows i x).0.count - 1)) y.0) rows) ≡ true
row_past_at left last bytes i x rows inside is none before =
    row_past left last bytes (get_or rows i x) (drop (i + 1) rows) rows is none (subst (λ rest. AreLeft left last rest rows) (drop_more rows i x inside) before)
