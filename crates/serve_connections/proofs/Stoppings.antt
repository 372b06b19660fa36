-- The connection at a token is told that the server stops.
use Rattle.std.proofs.Common.{◌≡◌, ◌≢◌, ℕ, Bool, true, false, List, [], ◌∷◌, Option, Some, None, refl, sym, ap, ◌∙◌, inl, inr, arith}
use Rattle.std.specs.Prelude.{◌==◌}
use Rattle.std.proofs.lemmas.Bool.{cases_eq}
use Rattle.slab.specs.Slab.{Slab, get, with_value, Updates}
use Rattle.slab.proofs.SlabLemmas.{Updates-with_value}
use Rattle.serve_connections.specs.declared.client.Client.{Client}
use Rattle.serve_connections.specs.Working.{StopsAt, StopsIf, StopsOne}
use Rattle.serve_connections.specs.Places.{served, AreKept}
use Rattle.serve_connections.proofs.Places.{some_token, unequal}

equal : (j k : ℕ) (b : Bool) → (j == k) ≡ b → j ≡ k → (j == k) ≡ true
equal j k true e s = e
equal j k false e s = absurd (grind (arith, e, s))

module _ {S : Type 0} (contents : S → Option (List ℕ)) where
  pub stops_if_number : (b : Bool) (c d : Client S) → StopsIf contents b c d → d.number ≡ c.number
  stops_if_number true c d h = ap (λ x. x.number) h.client
  stops_if_number false c d h = ap (λ x. x.number) h

  stops_here : (t : ℕ) (c d : Client S) → c.token ≡ t → StopsOne contents c d → StopsIf contents (c.token == t) c d
  stops_here t c d e s = rw (equal c.token t (c.token == t) refl e) s

  stays_there : (t : ℕ) (c : Client S) → c.token ≢ t → StopsIf contents (c.token == t) c c
  stays_there t c d = rw (unequal c.token t (c.token == t) refl d) refl

  updated_stopped : (old new : Slab (Client S)) (t : ℕ) (c d : Client S) (ks : List ℕ) → Updates old new t (Some d) → get old t ≡ Some c → StopsOne contents c d → AreKept old ks → StopsAt contents t (served old ks) (served new ks)
  updated_stopped old new t c d [] u e s h = tt {0}
  updated_stopped old new t c d (k ∷ ks) u e s h =
      let some = some_token (get old k) k h.0 in
      let rest = updated_stopped old new t c d ks u e s h.1.1 in
      elim (cases_eq k t) [
        | inl same ↦
            let is : get new k ≡ Some d = ap (get new) same ∙ u.changed in
            let was : get old k ≡ Some c = ap (get old) same ∙ e in
            let one : some.0 ≡ c = let x : Some some.0 ≡ Some c = sym some.1 ∙ was in cc in
            let token : c.token ≡ t = ap (λ (x : Client S). x.token) (sym one) ∙ some.2 ∙ same in
            rw (is, was) (stops_here t c d token s, rest)
        | inr other ↦
            let token : some.0.token ≢ t = λ x. other (sym some.2 ∙ x) in
            rw (u.others k other, some.1) (stays_there t some.0 token, rest)
      ]

  -- it keeps its key, and is the one that is told
  pub stopped_served : (slab : Slab (Client S)) (t : ℕ) (c d : Client S) (ks : List ℕ) → get slab t ≡ Some c → StopsOne contents c d → AreKept slab ks → StopsAt contents t (served slab ks) (served (with_value slab t d) ks)
  stopped_served slab t c d ks e s h =
      updated_stopped slab (with_value slab t d) t c d ks (Updates-with_value slab t d (rw e refl)) e s h

  pub none_stopped : (slab : Slab (Client S)) (t : ℕ) (ks : List ℕ) → get slab t ≡ None → AreKept slab ks → StopsAt contents t (served slab ks) (served slab ks)
  none_stopped slab t [] e h = tt {0}
  none_stopped slab t (k ∷ ks) e h =
      let some = some_token (get slab k) k h.0 in
      let rest = none_stopped slab t ks e h.1.1 in
      let other : some.0.token ≢ t = λ x. absurd (grind (arith, e, some.1, some.2, x)) in
      rw some.1 (stays_there t some.0 other, rest)

module _ {S : Type 0} where
  pub stopped_kept : (slab : Slab (Client S)) (t : ℕ) (c d : Client S) (ks : List ℕ) → get slab t ≡ Some c → d.token ≡ c.token → AreKept slab ks → AreKept (with_value slab t d) ks
  stopped_kept slab t c d [] e same h = tt {0}
  stopped_kept slab t c d (k ∷ ks) e same h =
      let u = Updates-with_value slab t d (rw e refl) in
      let some = some_token (get slab k) k h.0 in
      elim (cases_eq k t) [
        | inl here ↦
            let is : get (with_value slab t d) k ≡ Some d = ap (get (with_value slab t d)) here ∙ u.changed in
            let one : some.0 ≡ c = let x : Some some.0 ≡ Some c = sym some.1 ∙ ap (get slab) here ∙ e in cc in
            (rw is (ap Some (same ∙ ap (λ (x : Client S). x.token) (sym one) ∙ some.2)), (h.1.0, stopped_kept slab t c d ks e same h.1.1))
        | inr other ↦ (rw (u.others k other) h.0, (h.1.0, stopped_kept slab t c d ks e same h.1.1))
      ]
