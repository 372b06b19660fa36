-- The lines that were read stand at the front of an input whose bytes are known.
use Rattle.std.proofs.Common.{◌≡◌, ◌≤◌, ◌<◌, ◌+◌, ℕ, List, [], ◌∷◌, ◌++◌, length, take, Bool, true, false, nat_le, Option, Some, None, refl, sym, ap, ◌∙◌, arith, rules}
use Rattle.std.proofs.lemmas.Grind.{common_steps}
use Rattle.std.proofs.lemmas.Bool.Decides.{nat_tests}
use Rattle.std.specs.Io.KnownBytes.{IsAtEnd}
use Rattle.presence_stdio.specs.Bytes.{IsWhole, HasRead}
use Rattle.phx_message.specs.Lines.{lacks_feed}
use Rattle.presence_stdio.specs.Lines.{lines_of, first_line}
use Rattle.presence_stdio.proofs.Splits.{plain_first, first_line-append}

none_more : {A : Type 0} (xs : List A) → xs ++ [] ≡ xs
none_more xs = search rules

-- the lines that were read are all
pub all_lines : (limit : ℕ) (input : List ℕ) (left : Option (List ℕ)) (lines : List (List ℕ)) (part : List ℕ) → HasRead limit (Some input) left lines part → part ≡ [] → IsAtEnd left → lines_of input ≡ lines
all_lines limit input None lines part h none ended = absurd h.splits
all_lines limit input (Some rest) lines part h none ended = h.splits.begins ∙ rw (none, ended) (none_more lines)

no_feed_first : (part rest : List ℕ) → lacks_feed part ≡ false → first_line (part ++ rest) ≡ first_line part
no_feed_first [] rest h = absurd (true_false h)
  where
    true_false : true ≡ false → ⊥
    true_false h = cc
no_feed_first (b ∷ part) rest h = grind (arith, nat_tests, no_feed_first part rest)

-- of the first line that follows, so many bytes were read as are kept
pub kept_front : (limit : ℕ) (part rest : List ℕ) → IsWhole limit part (Some rest) → first_line part ≡ take (limit + 1) (first_line (part ++ rest))
kept_front limit part rest w = at_feed (lacks_feed part) refl
  where
    whole_line : (line : List ℕ) → length line ≤ limit + 1 → take (limit + 1) line ≡ line
    whole_line line h = grind (arith, common_steps)

    first_short : (xs : List ℕ) → length (first_line xs) ≤ length xs
    first_short [] = omega arith
    first_short (b ∷ xs) = grind (arith, nat_tests, first_short xs)

    cut : (xs ys : List ℕ) → length xs ≡ limit + 1 → take (limit + 1) (xs ++ ys) ≡ xs
    cut xs ys h = grind (arith, common_steps)

    bounded : length (first_line part) ≤ limit + 1
    bounded = omega (arith, first_short part, w.is_part.short)

    or_full : (n : ℕ) → n ≤ limit + 1 → (n ≤ limit → ⊥) → n ≡ limit + 1
    or_full n h k = omega (arith, h, k)

    plain : lacks_feed part ≡ true → first_line part ≡ take (limit + 1) (first_line (part ++ rest))
    plain lacks = at_limit (nat_le (length part) limit) refl
      where
        at_limit : (t : Bool) → nat_le (length part) limit ≡ t → first_line part ≡ take (limit + 1) (first_line (part ++ rest))
        at_limit true e =
            let short : length part ≤ limit = grind (arith, nat_tests) in
            let gone : rest ≡ [] = w.ends lacks short in
            sym (ap (λ v. take (limit + 1) (first_line (part ++ v))) gone ∙ ap (λ v. take (limit + 1) (first_line v)) (none_more part) ∙ whole_line (first_line part) bounded)
        at_limit false e =
            let long : limit < length part = grind (arith, nat_tests) in
            let full : length part ≡ limit + 1 = omega (arith, w.is_part.short) in
            plain_first part lacks ∙ sym (ap (take (limit + 1)) (first_line-append part rest lacks) ∙ cut part (first_line rest) full)

    at_feed : (t : Bool) → lacks_feed part ≡ t → first_line part ≡ take (limit + 1) (first_line (part ++ rest))
    at_feed true lacks = plain lacks
    at_feed false fed = sym (ap (take (limit + 1)) (no_feed_first part rest fed) ∙ whole_line (first_line part) bounded)
