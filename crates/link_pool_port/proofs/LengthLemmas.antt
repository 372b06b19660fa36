-- How many bytes are written.
use Rattle.std.proofs.Common.{◌≡◌, ℕ, zero, suc, ◌+◌, ◌*◌, ◌/◌, ◌%◌, ◌^◌, ◌<◌, ◌≤◌, true, List, [], ◌∷◌, ◌++◌, length, decimal, refl, sym, ◌∙◌, ap, subst, arith, ⊎_elim, max, codes, map}
use Rattle.std.proofs.lemmas.Fmt.{decimal_by_steps, length-decimal-le, decimal_digit}
use Rattle.std.proofs.lemmas.List.{length-append}
use Rattle.std.proofs.lemmas.Bool.{cases_lt}
use Rattle.json.specs.Print.{escape_byte, escape, quoted}
use Rattle.serde_json.specs.Data.{Data, string}
use Rattle.serde_json.specs.View.{items_of}
use Rattle.serde_json.specs.Written.{compact_text, items_text}
use Rattle.orswot_core.specs.Telling.{ToldValue}
use Rattle.link_lines.specs.Values.{array_of, range_value, row_value, whole}
use Rattle.link_lines.specs.Writing.{text_of}
use Rattle.link_pool_port.specs.Lengths.{counted, size_of, sizes}
use Rattle.link_pool_port.specs.Parts.{told_line}

-- ---- digits

more_digits : (m : ℕ) (ds : List ℕ) → 10 ≤ m → m / 10 < 10 ^ length ds → m < 10 ^ length (ds ++ (48 + m % 10) ∷ [])
more_digits m ds l h = subst (λ k. m < 10 ^ k) (sym one) (omega (arith, h))
  where
    one : length (ds ++ (48 + m % 10) ∷ []) ≡ suc (length ds)
    one = omega (arith, length-append ds ((48 + m % 10) ∷ []))

below : (n : ℕ) → n < 2 ^ 64 → n < 10 ^ length (decimal n)
below = decimal_by_steps (λ m ds. m < 10 ^ length ds) (λ m l. omega arith) more_digits

tens : (i j : ℕ) → i ≤ j → 10 ^ i ≤ 10 ^ j
tens zero zero le = omega arith
tens zero (suc j) le = omega (arith, tens zero j (omega arith))
tens (suc i) zero le = absurd (omega arith)
tens (suc i) (suc j) le = omega (arith, tens i j (omega arith))

pub digits_some : (n k : ℕ) → n < 2 ^ 64 → 10 ^ k ≤ n → n < 10 * 10 ^ k → k + 1 ≡ length (decimal n)
digits_some n k small low high = go (length (decimal n)) (below n small) (length-decimal-le (suc k) n (omega arith) (omega (arith, high)) small)
  where
    go : (l : ℕ) → n < 10 ^ l → l ≤ suc k → k + 1 ≡ l
    go l under le = ⊎_elim (λ a. omega (arith, a, le)) (λ b. absurd (omega (arith, tens l k b, low, under))) (cases_lt k l)

pub digits_none : (n : ℕ) → n ≡ 0 → 1 ≡ length (decimal n)
digits_none n is = sym (ap (λ m. length (decimal m)) is ∙ ap length (decimal_digit 0 (omega arith)))

pub ruleset digits_of = (digits_some, digits_none)

-- ---- bytes

pub quotes_end : (n : ℕ) (s : List ℕ) → n < 2 ^ 64 → counted n ≡ counted (length (escape s) + 2) → n ≡ counted (length (quoted s))
quotes_end n s small is = omega (arith, is, length-append (escape s) (34 ∷ []))

-- ---- lists

later_size : (ds : List Data) → length (items_text true (items_of ds)) ≡ 1 + sizes ds
later_size [] = refl
later_size (d ∷ ds) = omega (arith, length-append (compact_text d) (items_text true (items_of ds)), later_size ds)

pub list_size : (ds : List Data) → size_of (array_of ds) ≡ 1 + max 1 (sizes ds)
list_size [] = refl
list_size (d ∷ ds) = omega (arith, length-append (compact_text d) (items_text true (items_of ds)), later_size ds)

told_word : size_of (string (codes "told")) ≡ 6
unfolding escape_byte
told_word = refl

pub told_size : (shard : ℕ) (t : ToldValue) → length (text_of (told_line shard t)) ≡ length (decimal shard) + (1 + max 1 (sizes (map range_value t.ranges))) + (1 + max 1 (sizes (map row_value t.live))) + 13
told_size shard t =
    let ranges = array_of (map range_value t.ranges) in
    let live = array_of (map row_value t.live) in
    omega (
      arith,
      list_size (string (codes "told") ∷ whole shard ∷ array_of (ranges ∷ live ∷ []) ∷ []),
      list_size (ranges ∷ live ∷ []),
      list_size (map range_value t.ranges),
      list_size (map row_value t.live),
      told_word,
    )
