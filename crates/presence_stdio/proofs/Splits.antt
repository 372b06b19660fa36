-- Lines of an input, cut at its line feeds.
use Rattle.std.proofs.Common.{◌≡◌, ◌==◌, ◌+◌, ◌≤◌, ◌<◌, ℕ, List, [], ◌∷◌, ◌++◌, length, take, Bool, true, false, not, cond, refl, ap, subst, ◌∙◌, rules, arith, Option}
use Rattle.std.proofs.lemmas.List.Folds.{list_all-append}
use Rattle.std.proofs.lemmas.Bool.Decides.{nat_tests}
use Rattle.std.proofs.lemmas.Grind.{common_steps}
use Rattle.std.specs.Io.KnownBytes.{Keeps, Consumes}
use Rattle.presence_stdio.specs.Bytes.{FindsEnd, TakesLine, BreaksLine}
use Rattle.phx_message.specs.Lines.{lacks_feed}
use Rattle.presence_stdio.specs.Lines.{onto, lines_of, first_line, after_line}
use Rattle.presence_stdio.proofs.Known.{consumes-then, consumes-keeps}

pub first_line-append : (line ys : List ℕ) → lacks_feed line ≡ true → first_line (line ++ ys) ≡ line ++ first_line ys
first_line-append [] ys h = refl
first_line-append (b ∷ line) ys h = grind (arith, nat_tests, first_line-append line ys)

pub after_line-append : (line ys : List ℕ) → lacks_feed line ≡ true → after_line (line ++ ys) ≡ after_line ys
after_line-append [] ys h = refl
after_line-append (b ∷ line) ys h = grind (arith, nat_tests, after_line-append line ys)

onto-lines : (b : ℕ) (bs : List ℕ) → lines_of bs ≡ first_line bs ∷ lines_of (after_line bs) → onto b (lines_of bs) ≡ (b ∷ first_line bs) ∷ lines_of (after_line bs)
onto-lines b bs h = ap (onto b) h

lines_at : (t : Bool) (b : ℕ) (bs : List ℕ) → (0 < length bs → lines_of bs ≡ first_line bs ∷ lines_of (after_line bs))
    → cond t ([] ∷ lines_of bs) (onto b (lines_of bs)) ≡ cond t [] (b ∷ first_line bs) ∷ lines_of (cond t bs (after_line bs))
lines_at true b bs h = refl
lines_at false b [] h = refl
lines_at false b (c ∷ bs) h = onto-lines b (c ∷ bs) (h (omega arith))

-- an input that isn't empty is its first line, and the lines after it
pub lines_of-first : (bs : List ℕ) → 0 < length bs → lines_of bs ≡ first_line bs ∷ lines_of (after_line bs)
lines_of-first [] h = absurd (omega arith)
lines_of-first (b ∷ bs) h = lines_at (b == 10) b bs (λ more. lines_of-first bs more)

take_all : (n : ℕ) (xs : List ℕ) → length xs ≤ n → take n xs ≡ xs
take_all n xs h = grind (arith, common_steps)

none_more : (xs : List ℕ) → xs ++ [] ≡ xs
none_more xs = search rules

-- ---- what reading a line comes to

pub plain_first : (line : List ℕ) → lacks_feed line ≡ true → first_line line ≡ line
plain_first [] h = refl
plain_first (b ∷ line) h = grind (arith, nat_tests, plain_first line)

plain_after : (line : List ℕ) → lacks_feed line ≡ true → after_line line ≡ []
plain_after [] h = refl
plain_after (b ∷ line) h = grind (arith, nat_tests, plain_after line)

feed_marks : (line ys : List ℕ) → lacks_feed (line ++ 10 ∷ ys) ≡ true → ⊥
feed_marks [] ys h = cc
feed_marks (b ∷ line) ys h = grind (arith, nat_tests, feed_marks line ys)

-- the end of the input is the end of a line that has some bytes
pub line_at_end : (limit : ℕ) (a b c : Option (List ℕ)) (line : List ℕ) → lacks_feed line ≡ true → length line ≤ limit → 0 < length line → Consumes a b line → FindsEnd b c → TakesLine limit a c line
line_at_end limit a b c line plain short some h k = record {
  part = line;
  taken = subst (Consumes a c) (none_more line) (consumes-then a b c line [] h k.0);
  is_whole = record { some = some; is_part = record { one = plain_after line plain; short = omega arith }; ends = λ _ _. k.1 };
  is_line = plain_first line plain;
}

-- so is a line feed
pub line_at_feed : (limit : ℕ) (a b c : Option (List ℕ)) (line : List ℕ) → lacks_feed line ≡ true → length line ≤ limit → Consumes a b line → Consumes b c (10 ∷ []) → TakesLine limit a c line
line_at_feed limit a b c line plain short h k = record {
  part = line ++ 10 ∷ [];
  taken = consumes-then a b c line (10 ∷ []) h k;
  is_whole = record { some = fed; is_part = record { one = after_line-append line (10 ∷ []) plain; short = within }; ends = λ lacks. absurd (feed_marks line [] lacks) };
  is_line = first_line-append line (10 ∷ []) plain ∙ none_more line;
}
  where
    fed : 0 < length (line ++ 10 ∷ [])
    fed = grind (arith, common_steps)

    within : length (line ++ 10 ∷ []) ≤ limit + 1
    within = grind (arith, common_steps)

-- a line that goes past the limit
pub line_full : (limit : ℕ) (a b : Option (List ℕ)) (line : List ℕ) → lacks_feed line ≡ true → length line ≡ limit + 1 → Consumes a b line → TakesLine limit a b line
line_full limit a b line plain full h = record {
  part = line;
  taken = h;
  is_whole = record { some = omega arith; is_part = record { one = plain_after line plain; short = omega arith }; ends = λ _ short. absurd (omega arith) };
  is_line = plain_first line plain;
}

-- a fault within a line
pub line_stopped : (limit : ℕ) (a b c : Option (List ℕ)) (line : List ℕ) → lacks_feed line ≡ true → length line ≤ limit → Consumes a b line → Keeps b c → BreaksLine limit a c
line_stopped limit a b c line plain short h k = record {
  part = line;
  taken = consumes-keeps a b c line h k;
  is_part = record { one = plain_after line plain; short = omega arith };
  plain = plain;
}

-- a byte was read that found no room
pub line_unkept : (limit : ℕ) (a b c : Option (List ℕ)) (line : List ℕ) (x : ℕ) → lacks_feed line ≡ true → length line ≤ limit → Consumes a b line → Consumes b c (x ∷ []) → (x ≡ 10 → ⊥) → BreaksLine limit a c
line_unkept limit a b c line x plain short h k other = record {
  part = line ++ x ∷ [];
  taken = consumes-then a b c line (x ∷ []) h k;
  is_part = record { one = plain_after (line ++ x ∷ []) all_plain; short = within };
  plain = all_plain;
}
  where
    all_plain : lacks_feed (line ++ x ∷ []) ≡ true
    all_plain = list_all-append (λ b. not (b == 10)) line (x ∷ []) ∙ grind (arith, nat_tests)

    within : length (line ++ x ∷ []) ≤ limit + 1
    within = grind (arith, common_steps)
