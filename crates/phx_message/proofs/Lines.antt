-- The text of an orderly value without floats has no line feed in it.
use Rattle.std.proofs.Common.{◌≡◌, ℕ, suc, ◌+◌, ◌/◌, ◌%◌, ◌^◌, ◌<◌, ◌≤◌, pos, negsuc, List, [], ◌∷◌, ◌++◌, length, get_or, Bool, true, false, cond, ◌==◌, ◌||◌, not, nat_lt, decimal, refl, ap, ◌∙◌, arith}
use Rattle.std.proofs.lemmas.Bool.{eqb-true, ne_eqb, and_from, or_parts}
use Rattle.std.proofs.lemmas.Fmt.{decimal_is_IsNumeral}
use Rattle.std.proofs.lemmas.List.Folds.{list_all-append}
use Rattle.std.proofs.lemmas.Str.Parse.{digit_at}
use Rattle.std.specs.Char.{digit_char}
use Rattle.json.specs.Print.{escape_letter, escape_byte, escape, quoted}
use Rattle.serde_json.specs.Data.{Num, unsigned, negative, float, null, boolean, number, string, array, object, Items, no_items, item, Members, no_members, member}
use Rattle.serde_json.specs.Written.{number_text, has_float, items_have_float, members_have_float, comma_if, compact_text, items_text, members_text}
use Rattle.phx_message.specs.Lines.{lacks_feed, TextsAreLines}
use Rattle.phx_message.specs.Orderly.{Is64Bits, AreOrderly, MembersAreOrderly}

both_lack : (xs ys : List ℕ) → lacks_feed xs ≡ true → lacks_feed ys ≡ true → lacks_feed (xs ++ ys) ≡ true
both_lack xs ys h k = list_all-append (λ b. not (b == 10)) xs ys ∙ and_from _ _ h k

one_more : (x : ℕ) (xs : List ℕ) → (x == 10) ≡ false → lacks_feed xs ≡ true → lacks_feed (x ∷ xs) ≡ true
one_more x xs h k = and_from _ _ (ap not h) k

-- ---- numbers

high_bytes : (ds : List ℕ) → ((i : ℕ) → i < length ds → 48 ≤ get_or ds i 0) → lacks_feed ds ≡ true
high_bytes [] h = refl
high_bytes (d ∷ ds) h = let first = h 0 (omega arith) in one_more d ds (ne_eqb d 10 (λ e. omega arith)) (high_bytes ds (λ i l. h (suc i) (omega arith)))

decimal_lacks : (n : ℕ) → n < 2 ^ 64 → lacks_feed (decimal n) ≡ true
decimal_lacks n h = high_bytes (decimal n) (λ i l. (digit_at _ i (decimal_is_IsNumeral n h).0.1 l).0)

number_lacks : (n : Num) → Is64Bits n → has_float (number n) ≡ false → lacks_feed (number_text n) ≡ true
number_lacks (unsigned n) h whole = decimal_lacks n h
number_lacks (negative (pos n)) h whole = absurd h
number_lacks (negative (negsuc n)) h whole = one_more 45 (decimal (suc n)) refl (decimal_lacks (suc n) (omega arith))
number_lacks (float x) h whole = absurd (cc)

-- ---- strings

digit_high : (d : ℕ) → (digit_char d == 10) ≡ false
digit_high d = split (nat_lt d 10)
  where
    split : (b : Bool) → (cond b (48 + d) (87 + d) == 10) ≡ false
    split true = ne_eqb (48 + d) 10 (λ e. omega arith)
    split false = ne_eqb (87 + d) 10 (λ e. omega arith)

letter_high : (x : ℕ) → (x == 10) ≡ false → (escape_letter x == 10) ≡ false
letter_high x h = split (x == 34 || x == 92) (x == 8) (x == 12) (x == 10) (x == 13) (x == 9)
  where
    split : (p q r s t u : Bool) → (cond p x (cond q 98 (cond r 102 (cond s 110 (cond t 114 (cond u 116 0))))) == 10) ≡ false
    split true q r s t u = h
    split false true r s t u = refl
    split false false true s t u = refl
    split false false false true t u = refl
    split false false false false true u = refl
    split false false false false false true = refl
    split false false false false false false = refl

escape_lacks_byte : (x : ℕ) (b : Bool) → (x == 10) ≡ b → lacks_feed (escape_byte x) ≡ true
unfolding escape_byte
escape_lacks_byte x true e = let is : x ≡ 10 = eqb-true x 10 e in rw is refl
escape_lacks_byte x false e = split (nat_lt 0 (escape_letter x)) (nat_lt x 32)
  where
    split : (a b : Bool) → lacks_feed (cond a (92 ∷ escape_letter x ∷ []) (cond b (92 ∷ 117 ∷ 48 ∷ 48 ∷ digit_char (x / 16) ∷ digit_char (x % 16) ∷ []) (x ∷ []))) ≡ true
    split true b = one_more (escape_letter x) [] (letter_high x e) refl
    split false true = one_more (digit_char (x / 16)) (digit_char (x % 16) ∷ []) (digit_high (x / 16)) (one_more (digit_char (x % 16)) [] (digit_high (x % 16)) refl)
    split false false = one_more x [] e refl

escape_lacks : (s : List ℕ) → lacks_feed (escape s) ≡ true
escape_lacks [] = refl
escape_lacks (x ∷ s) = both_lack (escape_byte x) (escape s) (escape_lacks_byte x (x == 10) refl) (escape_lacks s)

quoted_lacks : (s : List ℕ) → lacks_feed (quoted s) ≡ true
quoted_lacks s = both_lack (escape s) (34 ∷ []) (escape_lacks s) refl

-- ---- values

comma_lacks : (later : Bool) → lacks_feed (comma_if later) ≡ true
comma_lacks true = refl
comma_lacks false = refl

boolean_lacks : (b : Bool) → lacks_feed (compact_text (boolean b)) ≡ true
boolean_lacks true = refl
boolean_lacks false = refl

mutual
  pub text_lacks : TextsAreLines
  text_lacks null h whole = refl
  text_lacks (boolean b) h whole = boolean_lacks b
  text_lacks (number n) h whole = number_lacks n h whole
  text_lacks (string s) h whole = quoted_lacks s
  text_lacks (array ds) h whole = items_lack false ds h whole
  text_lacks (object ms) h whole = members_lack false ms h whole

  items_lack : (later : Bool) (ds : Items) → AreOrderly ds → items_have_float ds ≡ false → lacks_feed (items_text later ds) ≡ true
  items_lack later no_items h whole = refl
  items_lack later (item d ds) h whole =
      let p = or_parts (has_float d) _ whole in
      both_lack (comma_if later) _ (comma_lacks later) (both_lack (compact_text d) _ (text_lacks d h.0 p.0) (items_lack true ds h.1 p.1))

  members_lack : (later : Bool) (ms : Members) → MembersAreOrderly ms → members_have_float ms ≡ false → lacks_feed (members_text later ms) ≡ true
  members_lack later no_members h whole = refl
  members_lack later (member k d ms) h whole =
      let p = or_parts (has_float d) _ whole in
      both_lack (comma_if later) _ (comma_lacks later)
      (both_lack (quoted k) _ (quoted_lacks k) (both_lack (compact_text d) _ (text_lacks d h.1 p.0) (members_lack true ms h.2 p.1)))
