-- A life by its parts, and how many counts it used.
use Rattle.std.proofs.Common.{◌≡◌, ℕ, zero, suc, ◌+◌, ◌<◌, ◌≤◌, true, not, List, Result, Ok, Err, OnErr, refl, ap, subst, arith, inl, inr}
use Rattle.std.specs.Prelude.{◌⊎◌}
use Rattle.std.proofs.lemmas.Bool.{and_parts, and_from, both_ways, cases_lt}
use Rattle.presence_base.specs.declared.dots.Replica.{Replica}
use Rattle.presence_base.specs.declared.dots.Dot.{Dot}
use Rattle.presence_base.specs.declared.row.Row.{Row}
use Rattle.orswot_core.specs.Full.{dot_of}
use Rattle.presence_journal.specs.History.{History, own, count, status, is_gone, known, covered, IsTop}
use Rattle.presence_journal.specs.Table.{IsLegal}
use Rattle.presence_journal.proofs.HistoryLemmas.{known_from, legal_knows, status-own}
use Rattle.node_world.specs.World.{LifeValue}

abbrev the_life : History → List (Dot × Row) → LifeValue
the_life h xs = record { history = h; made = xs }

-- a life whose parts stay
pub life_same : {A E : Type 0} (q : Result A E) (g h : History) (xs ys : List (Dot × Row)) → OnErr q (g ≡ h) → OnErr q (xs ≡ ys) → OnErr q (the_life g xs ≡ the_life h ys)
life_same (Err e) g h xs ys p k = λ i. the_life (p i) (k i)
life_same (Ok x) g h xs ys p k = tt

pub history_same : {A E : Type 0} (q : Result A E) (g h : History) (xs : List (Dot × Row)) → OnErr q (g ≡ h) → OnErr q (the_life g xs ≡ the_life h xs)
history_same (Err e) g h xs p = λ i. the_life (p i) xs
history_same (Ok x) g h xs p = tt

pub ruleset parts_same = (life_same, history_same)

-- ---- how many counts a life used

top_own : (h : History) → IsLegal h → (n : ℕ) → IsTop h (own h) n → n ≡ count h
top_own h legal n top = go (cases_lt n (count h))
  where
    above : n < count h → ⊥
    above l =
        let k : known h (dot_of (own h) (n + 1)) ≡ true = known_from h legal (dot_of (own h) (n + 1)) refl (omega arith) (omega (arith, l)) in
        both_ways (covered h (dot_of (own h) (n + 1))) top.next (and_from (known h (dot_of (own h) (n + 1))) (not (is_gone (status h (own h)))) k (ap (λ s. not (is_gone s)) (status-own h)))

    below : 1 ≤ n → n ≤ count h
    below pos =
        let k : known h (dot_of (own h) n) ≡ true = (and_parts (known h (dot_of (own h) n)) (not (is_gone (status h (own h)))) (top.below n pos (omega arith))).0 in
        ((legal_knows h legal).of_own (dot_of (own h) n) refl k).1

    low : n ≤ count h
    low = small n refl
      where
        small : (m : ℕ) → n ≡ m → n ≤ count h
        small zero e = omega (arith, e)
        small (suc m) e = below (omega (arith, e))

    go : (n < count h) ⊎ (count h ≤ n) → n ≡ count h
    go (inl l) = absurd (above l)
    go (inr l) = omega (arith, l, low)

pub count_is : (h : History) (r : Replica) (n : ℕ) → IsLegal h → r ≡ own h → IsTop h r n → n ≡ count h
count_is h r n legal same top = top_own h legal n (subst (λ q. IsTop h q n) same top)

pub ruleset counted = (count_is)
