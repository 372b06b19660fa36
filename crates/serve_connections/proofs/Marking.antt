-- The connection at a token is marked.
use Rattle.std.proofs.Common.{◌≡◌, ◌≢◌, ℕ, zero, suc, ◌<◌, ◌≤◌, Bool, true, false, List, [], ◌∷◌, length, map, get_or, Some, None, refl, sym, ap, ◌∙◌, inl, inr, arith}
use Rattle.std.specs.Prelude.{◌==◌, ◌||◌, slice_get}
use Rattle.std.proofs.lemmas.Bool.{cases_eq}
use Rattle.slab.specs.Slab.{Slab, get, with_value, Updates}
use Rattle.slab.proofs.SlabLemmas.{Updates-with_value}
use Rattle.serve_connections.specs.declared.client.Client.{Client}
use Rattle.serve_connections.specs.Working.{readied, marked}
use Rattle.serve_connections.specs.Places.{served, AreKept}
use Rattle.serve_connections.proofs.Places.{some_token, unequal}

or_true : (b : Bool) → (b || true) ≡ true
or_true false = refl
or_true true = refl

or_no : (b : Bool) → (b || false) ≡ b
or_no false = refl
or_no true = refl

equal : (j k : ℕ) (b : Bool) → (j == k) ≡ b → j ≡ k → (j == k) ≡ true
equal j k true e s = e
equal j k false e s = absurd (grind (arith, e, s))

module _ {S : Type 0} where
  marked_here : (t : ℕ) (c : Client S) → c.token ≡ t → marked t c ≡ readied c
  marked_here t c e = rw (equal c.token t (c.token == t) refl e, or_true c.ready) refl

  marked_there : (t : ℕ) (c : Client S) → c.token ≢ t → marked t c ≡ c
  marked_there t c d = rw (unequal c.token t (c.token == t) refl d, or_no c.ready) refl

  updated_marked : (old new : Slab (Client S)) (t : ℕ) (d : Client S) (ks : List ℕ) → Updates old new t (Some (readied d)) → get old t ≡ Some d → AreKept old ks → served new ks ≡ map (marked t) (served old ks)
  updated_marked old new t d [] u e h = refl
  updated_marked old new t d (k ∷ ks) u e h =
      let some = some_token (get old k) k h.0 in
      let rest = updated_marked old new t d ks u e h.1.1 in
      elim (cases_eq k t) [
        | inl same ↦
            let is : get new k ≡ Some (readied d) = ap (get new) same ∙ u.changed in
            let was : get old k ≡ Some d = ap (get old) same ∙ e in
            let one : some.0 ≡ d = let x : Some some.0 ≡ Some d = sym some.1 ∙ was in cc in
            let token : d.token ≡ t = ap (λ (x : Client S). x.token) (sym one) ∙ some.2 ∙ same in
            rw (is, was) (rw (marked_here t d token) (ap (λ cs. readied d ∷ cs) rest))
        | inr other ↦
            let token : some.0.token ≢ t = λ x. other (sym some.2 ∙ x) in
            rw (u.others k other, some.1) (rw (marked_there t some.0 token) (ap (λ cs. some.0 ∷ cs) rest))
      ]

  -- the connection at a token gets ready: it keeps its key, and is the one that is marked
  pub marked_kept : (slab : Slab (Client S)) (t : ℕ) (c d : Client S) (ks : List ℕ) → get slab t ≡ Some c → d ≡ readied c → AreKept slab ks → AreKept (with_value slab t d) ks
  marked_kept slab t c d [] e r h = tt {0}
  marked_kept slab t c d (k ∷ ks) e r h =
      let u = Updates-with_value slab t d (rw e refl) in
      let some = some_token (get slab k) k h.0 in
      elim (cases_eq k t) [
        | inl same ↦
            let is : get (with_value slab t d) k ≡ Some (readied c) = ap (get (with_value slab t d)) same ∙ u.changed ∙ ap Some r in
            let one : some.0 ≡ c = let x : Some some.0 ≡ Some c = sym some.1 ∙ ap (get slab) same ∙ e in cc in
            (rw is (ap Some (ap (λ (x : Client S). x.token) (sym one) ∙ some.2)), (h.1.0, marked_kept slab t c d ks e r h.1.1))
        | inr other ↦ (rw (u.others k other) h.0, (h.1.0, marked_kept slab t c d ks e r h.1.1))
      ]

  pub marked_served : (slab : Slab (Client S)) (t : ℕ) (c d : Client S) (ks : List ℕ) → get slab t ≡ Some c → d ≡ readied c → AreKept slab ks → served (with_value slab t d) ks ≡ map (marked t) (served slab ks)
  marked_served slab t c d ks e r h =
      let u : Updates slab (with_value slab t (readied c)) t (Some (readied c)) = Updates-with_value slab t (readied c) (rw e refl) in
      rw r (updated_marked slab (with_value slab t (readied c)) t c ks u e h)

  pub unmarked_served : (slab : Slab (Client S)) (t : ℕ) (ks : List ℕ) → get slab t ≡ None → AreKept slab ks → served slab ks ≡ map (marked t) (served slab ks)
  unmarked_served slab t [] e h = refl
  unmarked_served slab t (k ∷ ks) e h =
      let some = some_token (get slab k) k h.0 in
      let rest = unmarked_served slab t ks e h.1.1 in
      let other : some.0.token ≢ t = λ x. absurd (grind (arith, e, some.1, some.2, x)) in
      rw some.1 (rw (marked_there t some.0 other) (ap (λ cs. some.0 ∷ cs) rest))

  -- the connection at a place
  pub served_get : (slab : Slab (Client S)) (ks : List ℕ) (i z : ℕ) → AreKept slab ks → i < length ks → get slab (get_or ks i z) ≡ slice_get (served slab ks) i
  served_get slab [] i z h lt = absurd (omega (arith, lt))
  served_get slab (k ∷ ks) zero z h lt = let some = some_token (get slab k) k h.0 in rw some.1 refl
  served_get slab (k ∷ ks) (suc i) z h lt = let some = some_token (get slab k) k h.0 in rw some.1 (served_get slab ks i z h.1.1 (omega arith))

  pub served_past : (slab : Slab (Client S)) (ks : List ℕ) (i : ℕ) → AreKept slab ks → length ks ≤ i → slice_get (served slab ks) i ≡ None
  served_past slab [] i h le = refl
  served_past slab (k ∷ ks) zero h le = absurd (omega (arith, le))
  served_past slab (k ∷ ks) (suc i) h le = let some = some_token (get slab k) k h.0 in rw some.1 (served_past slab ks i h.1.1 (omega (arith, le)))
