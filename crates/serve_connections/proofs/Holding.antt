-- The connection at a token is held.
use Rattle.std.proofs.Common.{◌≡◌, ◌≢◌, ℕ, Bool, true, false, List, [], ◌∷◌, map, Some, None, refl, sym, ap, ◌∙◌, inl, inr, arith}
use Rattle.std.specs.Prelude.{◌==◌, ◌&&◌}
use Rattle.std.proofs.lemmas.Bool.{cases_eq}
use Rattle.slab.specs.Slab.{Slab, get, with_value, Updates}
use Rattle.slab.proofs.SlabLemmas.{Updates-with_value}
use Rattle.serve_connections.specs.declared.client.Client.{Client}
use Rattle.serve_connections.specs.Working.{unreadied, held}
use Rattle.serve_connections.specs.Places.{served, AreKept}
use Rattle.serve_connections.proofs.Places.{some_token, unequal}

and_false : (b : Bool) → (b && false) ≡ false
and_false false = refl
and_false true = refl

and_true : (b : Bool) → (b && true) ≡ b
and_true false = refl
and_true true = refl

equal : (j k : ℕ) (b : Bool) → (j == k) ≡ b → j ≡ k → (j == k) ≡ true
equal j k true e s = e
equal j k false e s = absurd (grind (arith, e, s))

module _ {S : Type 0} where
  held_here : (t : ℕ) (c : Client S) → c.token ≡ t → held t c ≡ unreadied c
  held_here t c e = rw (equal c.token t (c.token == t) refl e, and_false c.ready) refl

  held_there : (t : ℕ) (c : Client S) → c.token ≢ t → held t c ≡ c
  held_there t c d = rw (unequal c.token t (c.token == t) refl d, and_true c.ready) refl

  updated_held : (old new : Slab (Client S)) (t : ℕ) (d : Client S) (ks : List ℕ) → Updates old new t (Some (unreadied d)) → get old t ≡ Some d → AreKept old ks → served new ks ≡ map (held t) (served old ks)
  updated_held old new t d [] u e h = refl
  updated_held old new t d (k ∷ ks) u e h =
      let some = some_token (get old k) k h.0 in
      let rest = updated_held old new t d ks u e h.1.1 in
      elim (cases_eq k t) [
        | inl same ↦
            let is : get new k ≡ Some (unreadied d) = ap (get new) same ∙ u.changed in
            let was : get old k ≡ Some d = ap (get old) same ∙ e in
            let one : some.0 ≡ d = let x : Some some.0 ≡ Some d = sym some.1 ∙ was in cc in
            let token : d.token ≡ t = ap (λ (x : Client S). x.token) (sym one) ∙ some.2 ∙ same in
            rw (is, was) (rw (held_here t d token) (ap (λ cs. unreadied d ∷ cs) rest))
        | inr other ↦
            let token : some.0.token ≢ t = λ x. other (sym some.2 ∙ x) in
            rw (u.others k other, some.1) (rw (held_there t some.0 token) (ap (λ cs. some.0 ∷ cs) rest))
      ]

  -- the connection at a token gets no turn: it keeps its key, and is the one that is held
  pub held_kept : (slab : Slab (Client S)) (t : ℕ) (c d : Client S) (ks : List ℕ) → get slab t ≡ Some c → d ≡ unreadied c → AreKept slab ks → AreKept (with_value slab t d) ks
  held_kept slab t c d [] e r h = tt {0}
  held_kept slab t c d (k ∷ ks) e r h =
      let u = Updates-with_value slab t d (rw e refl) in
      let some = some_token (get slab k) k h.0 in
      elim (cases_eq k t) [
        | inl same ↦
            let is : get (with_value slab t d) k ≡ Some (unreadied c) = ap (get (with_value slab t d)) same ∙ u.changed ∙ ap Some r in
            let one : some.0 ≡ c = let x : Some some.0 ≡ Some c = sym some.1 ∙ ap (get slab) same ∙ e in cc in
            (rw is (ap Some (ap (λ (x : Client S). x.token) (sym one) ∙ some.2)), (h.1.0, held_kept slab t c d ks e r h.1.1))
        | inr other ↦ (rw (u.others k other) h.0, (h.1.0, held_kept slab t c d ks e r h.1.1))
      ]

  pub held_served : (slab : Slab (Client S)) (t : ℕ) (c d : Client S) (ks : List ℕ) → get slab t ≡ Some c → d ≡ unreadied c → AreKept slab ks → served (with_value slab t d) ks ≡ map (held t) (served slab ks)
  held_served slab t c d ks e r h =
      let u : Updates slab (with_value slab t (unreadied c)) t (Some (unreadied c)) = Updates-with_value slab t (unreadied c) (rw e refl) in
      rw r (updated_held slab (with_value slab t (unreadied c)) t c ks u e h)

  pub unheld_served : (slab : Slab (Client S)) (t : ℕ) (ks : List ℕ) → get slab t ≡ None → AreKept slab ks → served slab ks ≡ map (held t) (served slab ks)
  unheld_served slab t [] e h = refl
  unheld_served slab t (k ∷ ks) e h =
      let some = some_token (get slab k) k h.0 in
      let rest = unheld_served slab t ks e h.1.1 in
      let other : some.0.token ≢ t = λ x. absurd (grind (arith, e, some.1, some.2, x)) in
      rw some.1 (rw (held_there t some.0 other) (ap (λ cs. some.0 ∷ cs) rest))
