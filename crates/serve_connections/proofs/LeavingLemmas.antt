-- Those that have ended go.
use Rattle.std.proofs.Common.{◌≡◌, ◌≢◌, ℕ, zero, suc, ◌+◌, ◌<◌, ◌≤◌, Bool, true, false, List, [], ◌∷◌, length, get_or, Option, Some, None, is_some, refl, sym, ap, ◌∙◌, arith}
use Rattle.std.specs.Prelude.{◌==◌, cond, filter}
use Rattle.slab.specs.Slab.{Slab, get, Updates}
use Rattle.serve_connections.specs.declared.client.Client.{Client}
use Rattle.serve_connections.specs.Working.{ended_at, goes_on}
use Rattle.serve_connections.specs.Places.{served, is_among, AreKept, left, AreLeft}
use Rattle.serve_connections.proofs.Places.{or_false, differs, differs_here, some_token}

module _ {S : Type 0} where
  -- what holds of a loop that has let go of those before place i
  abbrev pub LeftTo : Slab (Client S) → Slab (Client S) → List ℕ → ℕ → Type 0
  LeftTo old now [] i = Unit {0}
  LeftTo old now (k ∷ ks) zero = (get now k ≡ get old k) × LeftTo old now ks zero
  LeftTo old now (k ∷ ks) (suc i) = (get now k ≡ left (get old k)) × LeftTo old now ks i

  pub left_none : (slab : Slab (Client S)) (ks : List ℕ) → LeftTo slab slab ks 0
  left_none slab [] = tt {0}
  left_none slab (k ∷ ks) = (refl, left_none slab ks)

  pub left_all : (old now : Slab (Client S)) (ks : List ℕ) (i : ℕ) → length ks ≤ i → LeftTo old now ks i → AreLeft old now ks
  left_all old now [] i e h = tt {0}
  left_all old now (k ∷ ks) zero e h = absurd (omega (arith, e))
  left_all old now (k ∷ ks) (suc i) e h = (h.0, left_all old now ks i (omega (arith, e)) h.1)

  -- at the loop's place nothing is changed yet
  pub left_here : (old now : Slab (Client S)) (ks : List ℕ) (i z : ℕ) → i < length ks → LeftTo old now ks i → get now (get_or ks i z) ≡ get old (get_or ks i z)
  left_here old now [] i z lt h = absurd (omega (arith, lt))
  left_here old now (k ∷ ks) zero z lt h = h.0
  left_here old now (k ∷ ks) (suc i) z lt h = left_here old now ks i z (omega arith) h.1

  -- what is done at a key that is not among these is not seen
  left_untouched : (old now new : Slab (Client S)) (key : ℕ) (ks : List ℕ) (i : ℕ) → ((j : ℕ) → j ≢ key → get new j ≡ get now j) → is_among key ks ≡ false → LeftTo old now ks i → LeftTo old new ks i
  left_untouched old now new key [] i u a h = tt {0}
  left_untouched old now new key (k ∷ ks) zero u a h =
      let parts = or_false (k == key) (is_among key ks) a in
      (u k (differs_here k key parts.0) ∙ h.0, left_untouched old now new key ks zero u parts.1 h.1)
  left_untouched old now new key (k ∷ ks) (suc i) u a h =
      let parts = or_false (k == key) (is_among key ks) a in
      (u k (differs_here k key parts.0) ∙ h.0, left_untouched old now new key ks i u parts.1 h.1)

  left_step : (old now new : Slab (Client S)) (ks : List ℕ) (i z : ℕ) → i < length ks → AreKept old ks
      → get new (get_or ks i z) ≡ left (get old (get_or ks i z)) → ((j : ℕ) → j ≢ get_or ks i z → get new j ≡ get now j)
      → LeftTo old now ks i → LeftTo old new ks (suc i)
  left_step old now new [] i z lt kept e u h = tt {0}
  left_step old now new (k ∷ ks) zero z lt kept e u h = (e, left_untouched old now new k ks zero u kept.1.0 h.1)
  left_step old now new (k ∷ ks) (suc i) z lt kept e u h =
      let other : get_or ks i z ≢ k = differs k ks i z kept.1.0 (omega arith) in
      (u k (λ same. other (sym same)) ∙ h.0, left_step old now new ks i z (omega arith) kept.1.1 e u h.1)

  left_is : (o : Option (Client S)) → ended_at o ≡ false → left o ≡ o
  left_is None e = refl
  left_is (Some c) e = rw e refl

  left_gone : (o : Option (Client S)) → ended_at o ≡ true → left o ≡ None
  left_gone None e = refl
  left_gone (Some c) e = rw e refl

  -- the one at the loop's place has ended, and was taken from its key
  pub left_ended : (old now new : Slab (Client S)) (ks : List ℕ) (i z : ℕ) → i < length ks → AreKept old ks
      → ended_at (get now (get_or ks i z)) ≡ true → Updates now new (get_or ks i z) None → LeftTo old now ks i → LeftTo old new ks (i + 1)
  left_ended old now new ks i z lt kept e u h =
      let here = left_here old now ks i z lt h in
      let gone : left (get old (get_or ks i z)) ≡ None = left_gone (get old (get_or ks i z)) (ap ended_at (sym here) ∙ e) in
      let next : i + 1 ≡ suc i = omega arith in
      rw next (left_step old now new ks i z lt kept (u.changed ∙ sym gone) u.others h)

  -- it goes on
  pub left_going : (old now : Slab (Client S)) (ks : List ℕ) (i z : ℕ) → i < length ks → AreKept old ks
      → ended_at (get now (get_or ks i z)) ≡ false → LeftTo old now ks i → LeftTo old now ks (i + 1)
  left_going old now ks i z lt kept e h =
      let here = left_here old now ks i z lt h in
      let stays : left (get old (get_or ks i z)) ≡ get old (get_or ks i z) = left_is (get old (get_or ks i z)) (ap ended_at (sym here) ∙ e) in
      let next : i + 1 ≡ suc i = omega arith in
      rw next (left_step old now now ks i z lt kept (here ∙ sym stays) (λ j d. refl) h)

  -- ---- the keys that are kept

  -- the keys where there is one
  abbrev pub filled : Slab (Client S) → List ℕ → List ℕ
  filled slab ks = filter (λ k. is_some (get slab k)) ks

  filled_among : (slab : Slab (Client S)) (j : ℕ) (ks : List ℕ) → is_among j ks ≡ false → is_among j (filled slab ks) ≡ false
  filled_among slab j [] h = refl
  filled_among slab j (k ∷ ks) h =
      let parts = or_false (k == j) (is_among j ks) h in
      by_some (is_some (get slab k)) parts.0 (filled_among slab j ks parts.1)
    where
      by_some : (b : Bool) → (k == j) ≡ false → is_among j (filled slab ks) ≡ false → is_among j (cond b (k ∷ filled slab ks) (filled slab ks)) ≡ false
      by_some true d h = rw d h
      by_some false d h = h

  kept_by : (old new : Slab (Client S)) (k : ℕ) (ks : List ℕ) (b : Bool) (c : Client S) → goes_on c ≡ b → c.token ≡ k → get new k ≡ cond b (Some c) None
      → is_among k (filled new ks) ≡ false → AreKept new (filled new ks) → AreKept new (filled new (k ∷ ks))
  kept_by old new k ks true c g t e a h = rw e (rw e (ap Some t), (a, h))
  kept_by old new k ks false c g t e a h = rw e h

  pub left_kept : (old new : Slab (Client S)) (ks : List ℕ) → AreKept old ks → AreLeft old new ks → AreKept new (filled new ks)
  left_kept old new [] kept h = tt {0}
  left_kept old new (k ∷ ks) kept h =
      let some = some_token (get old k) k kept.0 in
      let here : get new k ≡ cond (goes_on some.0) (Some some.0) None = h.0 ∙ ap left some.1 in
      kept_by old new k ks (goes_on some.0) some.0 refl some.2 here (filled_among new k ks kept.1.0) (left_kept old new ks kept.1.1 h.1)

  served_by : (new : Slab (Client S)) (k : ℕ) (ks : List ℕ) (cs : List (Client S)) (b : Bool) (c : Client S) → get new k ≡ cond b (Some c) None
      → served new (filled new ks) ≡ filter goes_on cs → served new (filled new (k ∷ ks)) ≡ cond b (c ∷ filter goes_on cs) (filter goes_on cs)
  served_by new k ks cs true c e h = rw (e, e) (ap (λ ds. c ∷ ds) h)
  served_by new k ks cs false c e h = rw e h

  pub left_served : (old new : Slab (Client S)) (ks : List ℕ) → AreKept old ks → AreLeft old new ks → served new (filled new ks) ≡ filter goes_on (served old ks)
  left_served old new [] kept h = refl
  left_served old new (k ∷ ks) kept h =
      let some = some_token (get old k) k kept.0 in
      let here : get new k ≡ cond (goes_on some.0) (Some some.0) None = h.0 ∙ ap left some.1 in
      rw some.1 (served_by new k ks (served old ks) (goes_on some.0) some.0 here (left_served old new ks kept.1.1 h.1))

  pub filled_length : (slab : Slab (Client S)) (ks : List ℕ) → length (filled slab ks) ≤ length ks
  filled_length slab [] = omega arith
  filled_length slab (k ∷ ks) = by_some (is_some (get slab k)) (filled_length slab ks)
    where
      by_some : (b : Bool) → length (filled slab ks) ≤ length ks → length (cond b (k ∷ filled slab ks) (filled slab ks)) ≤ suc (length ks)
      by_some true le = omega (arith, le)
      by_some false le = omega (arith, le)
