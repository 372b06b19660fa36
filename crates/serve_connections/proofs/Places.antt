-- What is done at one key of the slab, seen as what is done at one place of the list.
use Rattle.std.proofs.Common.{◌≡◌, ◌≢◌, ℕ, zero, suc, ◌+◌, ◌<◌, ◌≤◌, Bool, true, false, List, [], ◌∷◌, ◌++◌, length, get_or, slice_set, Option, Some, None, refl, sym, ap, ◌∙◌, inl, inr, arith}
use Rattle.std.specs.Prelude.{◌==◌, ◌||◌}
use Rattle.std.proofs.lemmas.Bool.{cases_eq}
use Rattle.std.proofs.lemmas.List.{take_all, set-get_or}
use Rattle.slab.specs.Slab.{Slab, get, with_value, Updates}
use Rattle.slab.proofs.SlabLemmas.{Updates-with_value}
use Rattle.serve_connections.specs.declared.client.Client.{Client}
use Rattle.serve_connections.specs.Places.{before, served, token_of, is_among, AreKept}
use Rattle.serve_connections.specs.Working.{Chained, Pairwise}
use Rattle.serve_connections.proofs.Lists.{ChainedTo, chained_next, PairwiseTo, pairwise_next}

pub or_false : (a b : Bool) → (a || b) ≡ false → (a ≡ false) × (b ≡ false)
or_false false b h = (refl, h)
or_false true b h = absurd cc

pub differs_here : (j k : ℕ) → (j == k) ≡ false → j ≢ k
differs_here j k h e = absurd (grind (arith, h, e))

pub unequal : (j k : ℕ) (b : Bool) → (j == k) ≡ b → j ≢ k → (j == k) ≡ false
unequal j k false e d = e
unequal j k true e d = absurd (d (grind (arith, e)))

-- a key that is among none of these is at no place of them
pub differs : (k : ℕ) (ks : List ℕ) (i z : ℕ) → is_among k ks ≡ false → i < length ks → get_or ks i z ≢ k
differs k [] i z h lt = absurd (omega (arith, lt))
differs k (j ∷ ks) zero z h lt = differs_here j k (or_false (j == k) (is_among k ks) h).0
differs k (j ∷ ks) (suc i) z h lt = differs k ks i z (or_false (j == k) (is_among k ks) h).1 (omega arith)

more_among : (k key : ℕ) (ks : List ℕ) → is_among k ks ≡ false → key ≢ k → is_among k (ks ++ key ∷ []) ≡ false
more_among k key [] h d = rw (unequal key k (key == k) refl d) refl
more_among k key (j ∷ ks) h d =
    let parts = or_false (j == k) (is_among k ks) h in
    rw parts.0 (more_among k key ks parts.1 d)

module _ {S : Type 0} where
  pub some_token : (o : Option (Client S)) (k : ℕ) → token_of o ≡ Some k → (c : Client S) × (o ≡ Some c) × (c.token ≡ k)
  some_token None k h = absurd cc
  some_token (Some c) k h = (c, refl, cc)

  -- what is done at a key that is not among these is not seen
  untouched : (old new : Slab (Client S)) (key : ℕ) (slot : Option (Client S)) (ks : List ℕ) → Updates old new key slot → is_among key ks ≡ false → served new ks ≡ served old ks
  untouched old new key slot [] u h = refl
  untouched old new key slot (k ∷ ks) u h =
      let parts = or_false (k == key) (is_among key ks) h in
      let here : get new k ≡ get old k = u.others k (differs_here k key parts.0) in
      rw here (ap (before (get old k)) (untouched old new key slot ks u parts.1))

  pub kept_length : (slab : Slab (Client S)) (ks : List ℕ) → AreKept slab ks → length (served slab ks) ≡ length ks
  kept_length slab [] h = refl
  kept_length slab (k ∷ ks) h =
      let some = some_token (get slab k) k h.0 in
      let rest = kept_length slab ks h.1.1 in
      rw some.1 (omega (arith, rest))

  -- the connection at a key is the one at the key's place
  pub at_place : (slab : Slab (Client S)) (ks : List ℕ) (i z : ℕ) (c x : Client S) → AreKept slab ks → i < length ks → get slab (get_or ks i z) ≡ Some c → get_or (served slab ks) i x ≡ c
  at_place slab [] i z c x h lt e = absurd (omega (arith, lt))
  at_place slab (k ∷ ks) zero z c x h lt e = rw e refl
  at_place slab (k ∷ ks) (suc i) z c x h lt e =
      let some = some_token (get slab k) k h.0 in
      rw some.1 (at_place slab ks i z c x h.1.1 (omega arith) e)

  -- one that is led on at its key keeps its key
  pub updated_kept : (old new : Slab (Client S)) (key : ℕ) (c : Client S) (ks : List ℕ) → Updates old new key (Some c) → c.token ≡ key → AreKept old ks → AreKept new ks
  updated_kept old new key c [] u e h = tt {0}
  updated_kept old new key c (k ∷ ks) u e h =
      elim (cases_eq k key) [
        | inl same ↦ (rw same (rw u.changed (ap Some e)), (h.1.0, updated_kept old new key c ks u e h.1.1))
        | inr other ↦ (rw (u.others k other) h.0, (h.1.0, updated_kept old new key c ks u e h.1.1))
      ]

  -- it is led on at its place
  pub updated_served : (old new : Slab (Client S)) (ks : List ℕ) (i z : ℕ) (c : Client S) → Updates old new (get_or ks i z) (Some c) → AreKept old ks → i < length ks → served new ks ≡ slice_set (served old ks) i c
  updated_served old new [] i z c u h lt = absurd (omega (arith, lt))
  updated_served old new (k ∷ ks) zero z c u h lt =
      let some = some_token (get old k) k h.0 in
      rw (u.changed, some.1) (ap (λ cs. c ∷ cs) (untouched old new k (Some c) ks u h.1.0))
  updated_served old new (k ∷ ks) (suc i) z c u h lt =
      let some = some_token (get old k) k h.0 in
      let other : get_or ks i z ≢ k = differs k ks i z h.1.0 (omega arith) in
      let here : get new k ≡ get old k = u.others k (λ e. other (sym e)) in
      rw (here, some.1) (ap (λ cs. some.0 ∷ cs) (updated_served old new ks i z c u h.1.1 (omega arith)))

  -- ---- one more

  among_none : (slab : Slab (Client S)) (key : ℕ) (ks : List ℕ) → get slab key ≡ None → AreKept slab ks → is_among key ks ≡ false
  among_none slab key [] e h = refl
  among_none slab key (k ∷ ks) e h = elim (cases_eq k key) [
    | inl same ↦ absurd (no same)
    | inr other ↦ rw (unequal k key (k == key) refl other) (among_none slab key ks e h.1.1)
  ]
    where
      no : k ≡ key → ⊥
      no same = let t : token_of (get slab k) ≡ Some k = h.0 in absurd (grind (arith, t, e, same))

  -- a connection whose key is new stands behind the others
  pub pushed_kept : (old new : Slab (Client S)) (key : ℕ) (c : Client S) (ks : List ℕ) → Updates old new key (Some c) → get old key ≡ None → c.token ≡ key → AreKept old ks → AreKept new (ks ++ key ∷ [])
  pushed_kept old new key c [] u was e h = (rw u.changed (ap Some e), (refl, tt {0}))
  pushed_kept old new key c (k ∷ ks) u was e h =
      let some = some_token (get old k) k h.0 in
      let other : key ≢ k = λ same. absurd (grind (arith, was, some.1, same)) in
      (rw (u.others k (λ same. other (sym same))) h.0, (more_among k key ks h.1.0 other, pushed_kept old new key c ks u was e h.1.1))

  pub pushed_served : (old new : Slab (Client S)) (key : ℕ) (c : Client S) (ks : List ℕ) → Updates old new key (Some c) → get old key ≡ None → AreKept old ks → served new (ks ++ key ∷ []) ≡ served old ks ++ c ∷ []
  pushed_served old new key c [] u was h = rw u.changed refl
  pushed_served old new key c (k ∷ ks) u was h =
      let some = some_token (get old k) k h.0 in
      let other : k ≢ key = λ same. absurd (grind (arith, was, some.1, same)) in
      rw (u.others k other, some.1) (ap (λ cs. some.0 ∷ cs) (pushed_served old new key c ks u was h.1.1))

  -- a slab with more room has the same connections
  pub same_kept : (a b : Slab (Client S)) (ks : List ℕ) → b.slots ≡ a.slots → AreKept a ks → AreKept b ks
  same_kept a b [] e h = tt {0}
  same_kept a b (k ∷ ks) e h = (rw e h.0, (h.1.0, same_kept a b ks e h.1.1))

  pub same_served : (a b : Slab (Client S)) (ks : List ℕ) → b.slots ≡ a.slots → served b ks ≡ served a ks
  same_served a b [] e = refl
  same_served a b (k ∷ ks) e = rw e (ap (before (get a k)) (same_served a b ks e))

  -- ---- a loop over the keys

  token_at : (slab : Slab (Client S)) (ks : List ℕ) (i z : ℕ) (c : Client S) → AreKept slab ks → i < length ks → get slab (get_or ks i z) ≡ Some c → c.token ≡ get_or ks i z
  token_at slab [] i z c h lt e = absurd (omega (arith, lt))
  token_at slab (k ∷ ks) zero z c h lt e =
      let some = some_token (get slab k) k h.0 in
      let same : some.0 ≡ c = let t : Some some.0 ≡ Some c = sym some.1 ∙ e in cc in
      ap (λ (x : Client S). x.token) (sym same) ∙ some.2
  token_at slab (k ∷ ks) (suc i) z c h lt e = token_at slab ks i z c h.1.1 (omega arith) e

  -- at each place there is one
  pub some_at : (slab : Slab (Client S)) (ks : List ℕ) (i z : ℕ) → AreKept slab ks → i < length ks → get slab (get_or ks i z) ≡ None → ⊥
  some_at slab [] i z h lt e = absurd (omega (arith, lt))
  some_at slab (k ∷ ks) zero z h lt e =
      let t : token_of (get slab k) ≡ Some k = h.0 in
      let n : token_of (get slab k) ≡ None = ap token_of e in
      absurd cc
  some_at slab (k ∷ ks) (suc i) z h lt e = some_at slab ks i z h.1.1 (omega arith) e

  written_kept : (slab : Slab (Client S)) (ks : List ℕ) (i z : ℕ) (c d : Client S) → i < length ks → get slab (get_or ks i z) ≡ Some c → d.token ≡ c.token → AreKept slab ks → AreKept (with_value slab (get_or ks i z) d) ks
  written_kept slab ks i z c d lt e t h =
      updated_kept slab (with_value slab (get_or ks i z) d) (get_or ks i z) d ks
      (Updates-with_value slab (get_or ks i z) d (rw e refl)) (t ∙ token_at slab ks i z c h lt e) h

  written_served : (slab : Slab (Client S)) (ks : List ℕ) (i z : ℕ) (c d : Client S) → i < length ks → get slab (get_or ks i z) ≡ Some c → AreKept slab ks → served (with_value slab (get_or ks i z) d) ks ≡ slice_set (served slab ks) i d
  written_served slab ks i z c d lt e h =
      updated_served slab (with_value slab (get_or ks i z) d) ks i z d
      (Updates-with_value slab (get_or ks i z) d (rw e refl)) h lt

  -- the connection at the next key was led on
  pub chained_at : {P : Type 0} (R : Client S → Client S → P → P → Type 0) (first slab : Slab (Client S)) (ks : List ℕ) (i z : ℕ) (c d : Client S) (a b p : P)
      → i < length ks → get slab (get_or ks i z) ≡ Some c → d.token ≡ c.token → R c d b p
      → AreKept slab ks × ChainedTo R (served first ks) (served slab ks) i a b
      → AreKept (with_value slab (get_or ks i z) d) ks × ChainedTo R (served first ks) (served (with_value slab (get_or ks i z) d) ks) (i + 1) a p
  chained_at {P} R first slab ks i z c d a b p lt e t r h =
      let kept : AreKept slab ks = h.0 in
      let within : i < length (served slab ks) = omega (arith, lt, kept_length slab ks kept) in
      let here : get_or (served slab ks) i c ≡ c = at_place slab ks i z c c kept lt e in
      let step : R (get_or (served slab ks) i c) d b p = rw here r in (
        written_kept slab ks i z c d lt e t kept,
        rw (written_served slab ks i z c d lt e kept) (chained_next R (served first ks) (served slab ks) i c d a b p within step h.1),
      )

  pub pairwise_at : (R : Client S → Client S → Type 0) (first slab : Slab (Client S)) (ks : List ℕ) (i z : ℕ) (c d : Client S)
      → i < length ks → get slab (get_or ks i z) ≡ Some c → d.token ≡ c.token → R c d
      → AreKept slab ks × PairwiseTo R (served first ks) (served slab ks) i
      → AreKept (with_value slab (get_or ks i z) d) ks × PairwiseTo R (served first ks) (served (with_value slab (get_or ks i z) d) ks) (i + 1)
  pairwise_at R first slab ks i z c d lt e t r h =
      let kept : AreKept slab ks = h.0 in
      let within : i < length (served slab ks) = omega (arith, lt, kept_length slab ks kept) in
      let here : get_or (served slab ks) i c ≡ c = at_place slab ks i z c c kept lt e in
      let step : R (get_or (served slab ks) i c) d = rw here r in (
        written_kept slab ks i z c d lt e t kept,
        rw (written_served slab ks i z c d lt e kept) (pairwise_next R (served first ks) (served slab ks) i c d within step h.1),
      )

  kept_at : (slab : Slab (Client S)) (ks : List ℕ) (i z : ℕ) → AreKept slab ks → i < length ks → (c : Client S) × (get slab (get_or ks i z) ≡ Some c)
  kept_at slab [] i z h lt = absurd (omega (arith, lt))
  kept_at slab (k ∷ ks) zero z h lt = let some = some_token (get slab k) k h.0 in (some.0, some.1)
  kept_at slab (k ∷ ks) (suc i) z h lt = kept_at slab ks i z h.1.1 (omega arith)

  -- the connection at the next key was passed over
  pub chained_over : {P : Type 0} (R : Client S → Client S → P → P → Type 0) (first slab : Slab (Client S)) (ks : List ℕ) (i z : ℕ) (a b : P)
      → i < length ks → ((c : Client S) → get slab (get_or ks i z) ≡ Some c → R c c b b)
      → AreKept slab ks × ChainedTo R (served first ks) (served slab ks) i a b
      → AreKept slab ks × ChainedTo R (served first ks) (served slab ks) (i + 1) a b
  chained_over {P} R first slab ks i z a b lt same h =
      let kept : AreKept slab ks = h.0 in
      let one = kept_at slab ks i z kept lt in
      let within : i < length (served slab ks) = omega (arith, lt, kept_length slab ks kept) in
      let here : get_or (served slab ks) i one.0 ≡ one.0 = at_place slab ks i z one.0 one.0 kept lt one.1 in
      let step : R (get_or (served slab ks) i one.0) one.0 b b = rw here (same one.0 one.1) in
      let stays : slice_set (served slab ks) i one.0 ≡ served slab ks = ap (slice_set (served slab ks) i) (sym here) ∙ set-get_or (served slab ks) i one.0 in
      let next = chained_next R (served first ks) (served slab ks) i one.0 one.0 a b b within step h.1 in
      (kept, rw stays at next)

  pub pairwise_over : (R : Client S → Client S → Type 0) (first slab : Slab (Client S)) (ks : List ℕ) (i z : ℕ)
      → i < length ks → ((c : Client S) → get slab (get_or ks i z) ≡ Some c → R c c)
      → AreKept slab ks × PairwiseTo R (served first ks) (served slab ks) i
      → AreKept slab ks × PairwiseTo R (served first ks) (served slab ks) (i + 1)
  pairwise_over R first slab ks i z lt same h =
      let kept : AreKept slab ks = h.0 in
      let one = kept_at slab ks i z kept lt in
      let within : i < length (served slab ks) = omega (arith, lt, kept_length slab ks kept) in
      let here : get_or (served slab ks) i one.0 ≡ one.0 = at_place slab ks i z one.0 one.0 kept lt one.1 in
      let step : R (get_or (served slab ks) i one.0) one.0 = rw here (same one.0 one.1) in
      let stays : slice_set (served slab ks) i one.0 ≡ served slab ks = ap (slice_set (served slab ks) i) (sym here) ∙ set-get_or (served slab ks) i one.0 in
      let next = pairwise_next R (served first ks) (served slab ks) i one.0 one.0 within step h.1 in
      (kept, rw stays at next)

  -- each was led on
  pub chained_all : {P : Type 0} (R : Client S → Client S → P → P → Type 0) (first slab : Slab (Client S)) (ks : List ℕ) (i : ℕ) (a b : P)
      → length ks ≤ i → AreKept first ks → AreKept slab ks × ChainedTo R (served first ks) (served slab ks) i a b → Chained R (served first ks) (served slab ks) a b
  chained_all R first slab ks i a b le kept h =
      let old = take_all i (served first ks) (omega (arith, le, kept_length first ks kept)) in
      let new = take_all i (served slab ks) (omega (arith, le, kept_length slab ks h.0)) in
      rw (old, new) at h.1.0

  pub pairwise_all : (R : Client S → Client S → Type 0) (first slab : Slab (Client S)) (ks : List ℕ) (i : ℕ)
      → length ks ≤ i → AreKept first ks → AreKept slab ks × PairwiseTo R (served first ks) (served slab ks) i → Pairwise R (served first ks) (served slab ks)
  pairwise_all R first slab ks i le kept h =
      let old = take_all i (served first ks) (omega (arith, le, kept_length first ks kept)) in
      let new = take_all i (served slab ks) (omega (arith, le, kept_length slab ks h.0)) in
      rw (old, new) at h.1.0
