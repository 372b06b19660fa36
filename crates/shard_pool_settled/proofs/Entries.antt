-- Where the entry of a number stands in a journal's list, and how many of the list's entries have a seat.
use Rattle.std.proofs.Common.{◌≡◌, ◌<◌, ◌≤◌, ◌-◌, ◌+◌, ℕ, zero, suc, List, [], ◌∷◌, Some, None, Bool, true, false, cond, nat_eq, refl, sym, ap, ◌∙◌, arith}
use Rattle.std.specs.Prelude.{slice_get}
use Rattle.std.proofs.lemmas.Bool.{eqb-true}
use Rattle.std.proofs.lemmas.Bool.Decides.{Decides-eqb}
use Rattle.presence_journal.specs.declared.entry.Entry.{Entry}
use Rattle.presence_journal.specs.declared.entry.Start.{Start}
use Rattle.presence_journal.specs.History.{History, Begin, Then, onto, start_of, last_number}
use Rattle.presence_journal.specs.Table.{IsLegal}
use Rattle.presence_journal.proofs.HistoryLemmas.{legal_before}
use Rattle.shard_pool_settled.specs.Seated.{entry_at, seated, seated_in}

pub seated-onto : (h : History) (es : List Entry) → seated (onto h es) ≡ seated h + seated_in es
unfolding seated
seated-onto h [] = omega arith
seated-onto h (e ∷ es) = omega (arith, seated-onto (Then h e) es)

seated_begin : (s : Start) → seated (Begin s) ≡ 0
unfolding seated
seated_begin s = refl

pub seated_whole : (s : Start) (es : List Entry) (whole : History) (n : ℕ) → onto (Begin s) es ≡ whole → n ≡ seated_in es → n ≡ seated whole
seated_whole s es whole n w is = omega (arith, is, seated-onto (Begin s) es, seated_begin s, ap seated w)

unequal : (a b : ℕ) (r : Bool) → nat_eq a b ≡ r → (a ≡ b → ⊥) → r ≡ false
unequal a b true e n = absurd (n (eqb-true a b e))
unequal a b false e n = refl

other : (a b : ℕ) → (a ≡ b → ⊥) → nat_eq a b ≡ false
other a b n = unequal a b (nat_eq a b) refl n

number_is : (h : History) (e : Entry) (es : List Entry) → IsLegal (onto (Then h e) es) → e.number ≡ last_number h + 1
number_is h e es l = (legal_before (Then h e) es l).2

pub at_skipped : (h : History) (e : Entry) (n : ℕ) → (e.number ≡ n → ⊥) → entry_at (Then h e) n ≡ entry_at h n
unfolding entry_at
at_skipped h e n ne = ap (λ b. cond b (Some e) (entry_at h n)) (other e.number n ne)

-- later entries have higher numbers
pub at_before : (h : History) (es : List Entry) (n : ℕ) → IsLegal (onto h es) → n ≤ last_number h → entry_at (onto h es) n ≡ entry_at h n
unfolding last_number
at_before h [] n l low = refl
at_before h (e ∷ es) n l low =
    let p = number_is h e es l in
    at_before (Then h e) es n l (omega (arith, p)) ∙ at_skipped h e n (λ q. omega (arith, p, q))

at_found : (h : History) (e : Entry) (n : ℕ) → e.number ≡ n → nat_eq e.number n ≡ true → entry_at (Then h e) n ≡ Some e
unfolding entry_at
at_found h e n is t = ap (λ b. cond b (Some e) (entry_at h n)) t

-- the entries of a list have the numbers that follow
pub at_place : (h : History) (es : List Entry) (n k : ℕ) → IsLegal (onto h es) → n ≡ last_number h + k + 1 → entry_at h n ≡ None → entry_at (onto h es) n ≡ slice_get es k
unfolding last_number
at_place h [] n k l is none = none
at_place h (e ∷ es) n zero l is none =
    let p = number_is h e es l in
    let q : e.number ≡ n = omega (arith, p, is) in
    at_before (Then h e) es n l (omega (arith, q)) ∙ at_found h e n q ((Decides-eqb e.number n).1 q)
at_place h (e ∷ es) n (suc k) l is none =
    let p = number_is h e es l in
    at_place (Then h e) es n k l (omega (arith, p, is)) (at_skipped h e n (λ q. omega (arith, p, is, q)) ∙ none)

nothing_below : (s : Start) (n : ℕ) → entry_at (Begin s) n ≡ None
unfolding entry_at
nothing_below s n = refl

pub at_index : (s : Start) (es : List Entry) (whole : History) (n : ℕ) → s ≡ start_of whole → onto (Begin (start_of whole)) es ≡ whole → IsLegal whole → s.number < n → slice_get es (n - s.number - 1) ≡ entry_at whole n
unfolding last_number
at_index s es whole n is w l above =
    let here : onto (Begin s) es ≡ whole = ap (λ x. onto (Begin x) es) is ∙ w in
    sym (at_place (Begin s) es n (n - s.number - 1) (rw here l) (omega (arith, above)) (nothing_below s n)) ∙ ap (λ h. entry_at h n) here

pub at_none : (s : Start) (es : List Entry) (whole : History) (n : ℕ) → s ≡ start_of whole → onto (Begin (start_of whole)) es ≡ whole → IsLegal whole → n ≤ s.number → None ≡ entry_at whole n
unfolding last_number
at_none s es whole n is w l below =
    let here : onto (Begin s) es ≡ whole = ap (λ x. onto (Begin x) es) is ∙ w in
    sym (nothing_below s n) ∙ sym (at_before (Begin s) es n (rw here l) below) ∙ ap (λ h. entry_at h n) here
