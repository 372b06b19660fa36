-- What was read of a reader: whole lines, and then a part of one more.
use Rattle.std.proofs.Common.{◌≡◌, ◌==◌, ◌≤◌, ◌<◌, ℕ, List, [], ◌∷◌, ◌++◌, length, Bool, true, false, not, ◌&&◌, cond, Option, Some, None, refl, sym, ap, subst, ◌∙◌, append_assoc, arith}
use Rattle.std.proofs.lemmas.Bool.Decides.{nat_tests}
use Rattle.std.proofs.lemmas.List.Folds.{list_all-append}
use Rattle.std.specs.Io.KnownBytes.{Consumes, IsAtEnd}
use Rattle.presence_stdio.specs.Bytes.{IsPart, TakesLine, Splits, HasRead}
use Rattle.phx_message.specs.Lines.{lacks_feed}
use Rattle.presence_stdio.specs.Lines.{onto, lines_of, first_line, after_line, is_line}
use Rattle.presence_stdio.proofs.Splits.{plain_first}

-- nothing was read yet
pub reads_none : (limit : ℕ) (before : Option (List ℕ)) → HasRead limit before before [] []
reads_none limit before = record { each = refl; splits = start before }
  where
    start : (o : Option (List ℕ)) → Splits o o [] []
    start None = tt
    start (Some input) = record { front = []; cut = refl; begins = refl }

-- these bytes follow whole lines
pub reads_part : (limit : ℕ) (before mid left : Option (List ℕ)) (lines : List (List ℕ)) (part : List ℕ) → HasRead limit before mid lines [] → Consumes mid left part → HasRead limit before left lines part
reads_part limit before mid left lines part h k = record { each = h.each; splits = more before mid left h.splits k }
  where
    more : (a b c : Option (List ℕ)) → Splits a b lines [] → Consumes b c part → Splits a c lines part
    more None b c s k = tt
    more (Some input) None c s k = absurd s
    more (Some input) (Some rest) None s k = absurd k
    more (Some input) (Some rest) (Some next) s k = record { front = s.front; cut = s.cut ∙ ap (λ v. s.front ++ v) k; begins = s.begins ∙ ap (λ v. lines ++ lines_of v) k }

-- the bytes of a line stand in front of the lines that follow
pub lines_of-part : (part rest : List ℕ) → 0 < length part → after_line part ≡ [] → (lacks_feed part ≡ true → rest ≡ []) → lines_of (part ++ rest) ≡ first_line part ∷ lines_of rest
lines_of-part [] rest some one ends = absurd (omega arith)
lines_of-part (b ∷ bs) rest some one ends = at_byte (b == 10) b bs one ends (λ k h e. lines_of-part bs rest k h e)
  where
    at_byte : (t : Bool) (b : ℕ) (bs : List ℕ) → cond t bs (after_line bs) ≡ [] → ((not t && lacks_feed bs) ≡ true → rest ≡ [])
        → (0 < length bs → after_line bs ≡ [] → (lacks_feed bs ≡ true → rest ≡ []) → lines_of (bs ++ rest) ≡ first_line bs ∷ lines_of rest)
        → cond t ([] ∷ lines_of (bs ++ rest)) (onto b (lines_of (bs ++ rest))) ≡ cond t [] (b ∷ first_line bs) ∷ lines_of rest
    at_byte true b bs one ends more = ap (λ v. [] ∷ lines_of (v ++ rest)) one
    at_byte false b [] one ends more = let gone : rest ≡ [] = ends refl in rw gone refl
    at_byte false b (c ∷ bs) one ends more = ap (onto b) (more (omega arith) one ends)

first_plain : (bs : List ℕ) → lacks_feed (first_line bs) ≡ true
first_plain [] = refl
first_plain (b ∷ bs) = grind (arith, nat_tests, first_plain bs)

short_line : (limit : ℕ) (line : List ℕ) → lacks_feed line ≡ true → length line ≤ limit → (is_line limit line && true) ≡ true
short_line limit line plain short = grind (arith, nat_tests)

both : (a b : Bool) → a ≡ true → b ≡ true → (a && b) ≡ true
both a b h k = rw (h, k) refl

-- one more line
pub reads_more : (limit : ℕ) (before mid left : Option (List ℕ)) (lines : List (List ℕ)) (line : List ℕ) → HasRead limit before mid lines [] → TakesLine limit mid left line → length line ≤ limit
    → HasRead limit before left (lines ++ line ∷ []) []
reads_more limit before mid left lines line h t short = record {
  each = list_all-append (is_line limit) lines (line ∷ []) ∙ both _ _ h.each (short_line limit line (subst (λ v. lacks_feed v ≡ true) t.is_line (first_plain t.part)) short);
  splits = more before mid left h.splits t.taken t.is_whole.ends;
}
  where
    more : (a b c : Option (List ℕ)) → Splits a b lines [] → Consumes b c t.part → (lacks_feed t.part ≡ true → length t.part ≤ limit → IsAtEnd c) → Splits a c (lines ++ line ∷ []) []
    more None b c s k ends = tt
    more (Some input) None c s k ends = absurd s
    more (Some input) (Some rest) None s k ends = absurd k
    more (Some input) (Some rest) (Some next) s k ends =
        let gone = λ (lacks : lacks_feed t.part ≡ true). ends lacks (let same : t.part ≡ line = sym (plain_first t.part lacks) ∙ t.is_line in let long = ap length same in omega arith) in
        let first = lines_of-part t.part next t.is_whole.some t.is_whole.is_part.one gone in record {
          front = s.front ++ t.part;
          cut = s.cut ∙ ap (λ v. s.front ++ v) k ∙ sym (append_assoc s.front t.part next);
          begins = s.begins ∙ ap (λ v. lines ++ lines_of v) k ∙ ap (λ v. lines ++ v) first ∙ ap (λ v. lines ++ v ∷ lines_of next) t.is_line ∙ sym (append_assoc lines (line ∷ []) (lines_of next));
        }

-- no byte is of one line
pub none_part : (limit : ℕ) → IsPart limit []
none_part limit = record { one = refl; short = omega arith }
