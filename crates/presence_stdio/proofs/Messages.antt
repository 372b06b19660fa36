-- Which message a line is.
use Rattle.std.proofs.Common.{◌≡◌, ◌≤◌, ◌<◌, ◌+◌, ℕ, List, length, take, Bool, true, false, nat_lt, Some, None, Err, refl, sym, ap, ◌∙◌, arith}
use Rattle.std.specs.Str.{IsUtf8, is_utf8}
use Rattle.std.proofs.lemmas.Str.{IsUtf8-from_is_utf8, is_utf8-from_IsUtf8}
use Rattle.std.proofs.lemmas.Bool.Decides.{nat_tests}
use Rattle.std.proofs.lemmas.Grind.{common_steps}
use Rattle.phx_message.specs.Reading.{decoded}
use Rattle.phx_message.specs.declared.message.Limits.{Limits}
use Rattle.phx_message.specs.declared.message.MessageFault.TheVariants.{TooLong, NotJson}
use Rattle.phx_message.specs.declared.message.TheConstants.Limits as the_limits
use Rattle.presence_stdio.specs.Reading.{bytes_fault, message_in, line_message, line_limit}

within : (n : ℕ) (line : List ℕ) → length line ≤ n → nat_lt n (length line) ≡ false
within n line h = grind (arith, nat_tests)

beyond : (n : ℕ) (line : List ℕ) → n < length line → nat_lt n (length line) ≡ true
beyond n line h = grind (arith, nat_tests)

-- a line of UTF-8 within the limit is what its text is
pub line_of_text : (limits : Limits) (line : List ℕ) → length line ≤ limits.bytes → IsUtf8 line → message_in limits line ≡ decoded limits line
unfolding message_in
line_of_text limits line h utf8 = rw (within limits.bytes line h, is_utf8-from_IsUtf8 line utf8) refl

no_text : (b : Bool) (line : List ℕ) → is_utf8 line ≡ b → ¬ (IsUtf8 line) → b ≡ false
no_text true line e lacks = absurd (lacks (IsUtf8-from_is_utf8 line e))
no_text false line e lacks = refl

-- a line that is no UTF-8 is no JSON
pub line_of_bytes : (limits : Limits) (line : List ℕ) → length line ≤ limits.bytes → ¬ (IsUtf8 line) → message_in limits line ≡ Err NotJson
unfolding message_in
line_of_bytes limits line h lacks = rw (within limits.bytes line h, no_text (is_utf8 line) line refl lacks) refl

-- nothing is wrong with the bytes of a text within the limit
pub bytes_of_text : (limits : Limits) (line : List ℕ) → length line ≤ limits.bytes → IsUtf8 line → bytes_fault limits line ≡ None
bytes_of_text limits line h utf8 = rw (within limits.bytes line h, is_utf8-from_IsUtf8 line utf8) refl

pub bytes_of_none : (limits : Limits) (line : List ℕ) → length line ≤ limits.bytes → ¬ (IsUtf8 line) → bytes_fault limits line ≡ Some NotJson
bytes_of_none limits line h lacks = rw (within limits.bytes line h, no_text (is_utf8 line) line refl lacks) refl

pub bytes_too_many : (limits : Limits) (line : List ℕ) → limits.bytes < length line → bytes_fault limits line ≡ Some TooLong
bytes_too_many limits line h = rw (beyond limits.bytes line h) refl

pub too_long : (limits : Limits) (line : List ℕ) → limits.bytes < length line → message_in limits line ≡ Err TooLong
unfolding message_in
too_long limits line h = rw (beyond limits.bytes line h) refl

pub line_too_long : (line : List ℕ) → line_limit < length line → line_message line ≡ Err TooLong
line_too_long line h = too_long the_limits.CLIENT line h

cut_long : (n : ℕ) (l : List ℕ) → n < length l → n < length (take (n + 1) l)
cut_long n l h = grind (arith, common_steps)

cut_short : (n : ℕ) (l : List ℕ) → length l ≤ n → take (n + 1) l ≡ l
cut_short n l h = grind (arith, common_steps)

-- the bytes that are kept of a line tell its message
pub kept_within : (limits : Limits) (line : List ℕ) → message_in limits (take (limits.bytes + 1) line) ≡ message_in limits line
kept_within limits line = kept (nat_lt limits.bytes (length line)) line refl
  where
    kept : (b : Bool) (l : List ℕ) → nat_lt limits.bytes (length l) ≡ b → message_in limits (take (limits.bytes + 1) l) ≡ message_in limits l
    kept true l e =
        let long : limits.bytes < length l = grind (arith, nat_tests) in
        too_long limits (take (limits.bytes + 1) l) (cut_long limits.bytes l long) ∙ sym (too_long limits l long)
    kept false l e =
        let short : length l ≤ limits.bytes = grind (arith, nat_tests) in
        ap (message_in limits) (cut_short limits.bytes l short)

pub kept_message : (line : List ℕ) → line_message (take (line_limit + 1) line) ≡ line_message line
kept_message line = kept_within the_limits.CLIENT line
