-- Maps in which an entry is put.
use Rattle.std.proofs.Common.{◌≡◌, ℕ, Bool, true, false, cond, List, [], ◌∷◌, ◌++◌, Some, Result, Ok, Err, OnOk, refl, sym, ◌∙◌, ap, subst}
use Rattle.std.specs.BTreeMap.{BTreeMap, get}
use Rattle.std.specs.declared.alloc.AllocError.{AllocError}
use Rattle.presence_base.specs.Order.{text_cmp, same_text}
use Rattle.serve_rations.specs.Ledgers.{SetsIf, or_nothing, taken_at}
use Rattle.serve_rations.specs.Connections.{IsNow, SameRows, rows_of, same_number}
use Rattle.serve_rations.specs.declared.amount.Amount.{Amount}
use Rattle.serve_rations.specs.declared.ledger.Ledger.{Ledger}
use Rattle.serve_rations.specs.declared.ration.Kept.{Kept}
use Rattle.serve_rations.specs.declared.rations.Rations.{Rations}
use Rattle.serve_rations.proofs.Same.{same_text-true}

abbrev pub Topics : Type 0
Topics = BTreeMap (List ℕ) Amount

-- what is taken of a topic that is put in
pub taken_put : (m n : Topics) (t : List ℕ) (a : Amount) → ((u : List ℕ) → get text_cmp n u ≡ cond (same_text t u) (Some a) (get text_cmp m u)) → (u : List ℕ) → or_nothing (get text_cmp n u) ≡ cond (same_text t u) a (or_nothing (get text_cmp m u))
taken_put m n t a puts u = ap or_nothing (puts u) ∙ go (same_text t u)
  where
    go : (b : Bool) → or_nothing (cond b (Some a) (get text_cmp m u)) ≡ cond b a (or_nothing (get text_cmp m u))
    go true = refl
    go false = refl

-- nothing is charged: of this topic is taken what was
pub stays : (m : Topics) (t u : List ℕ) → or_nothing (get text_cmp m u) ≡ cond (same_text t u) (or_nothing (get text_cmp m t)) (or_nothing (get text_cmp m u))
stays m t u = go (same_text t u) refl
  where
    go : (b : Bool) → same_text t u ≡ b → or_nothing (get text_cmp m u) ≡ cond b (or_nothing (get text_cmp m t)) (or_nothing (get text_cmp m u))
    go true e = ap (λ (k : List ℕ). or_nothing (get text_cmp m k)) (sym (same_text-true t u e))
    go false e = refl

-- a topic that wasn't kept is put in
pub put_anew : (old mid : Ledger) (n : Topics) (t k : List ℕ) (tried all is : Amount) (set : Bool) → set ≡ false → SetsIf set old t tried mid → k ≡ t → all ≡ is
    → ((u : List ℕ) → get text_cmp n u ≡ cond (same_text k u) (Some all) (get text_cmp mid.topics u)) → (u : List ℕ) → or_nothing (get text_cmp n u) ≡ cond (same_text t u) is (taken_at old u)
put_anew old mid n t k tried all is set e sets key much puts u =
    let same : mid ≡ old = (subst (λ b. SetsIf b old t tried mid) e sets).1 in
    taken_put mid.topics n k all puts u ∙ (λ i. cond (same_text (key i) u) (much i) (taken_at (same i) u))

-- a row behind the others of a connection, once that is kept
pub row_added : (old mid new : Rations) (pid : ℕ) (row is : Kept) (r : Result (Unit {0}) AllocError) → row ≡ is → SameRows old mid
    → OnOk r (IsNow mid pid (rows_of mid pid ++ row ∷ []) new) → OnOk r (IsNow old pid (rows_of old pid ++ is ∷ []) new)
row_added old mid new pid row is (Ok x) one same now = λ p. now p ∙ (λ i. cond (same_number pid p) (same pid i ++ one i ∷ []) (same p i))
row_added old mid new pid row is (Err e) one same now = now
