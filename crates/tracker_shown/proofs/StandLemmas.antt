-- The order of stands: where two are the same, and which lie between two ends.
use Rattle.std.proofs.Common.{◌≡◌, ℕ, Bool, true, false, not, ◌&&◌, nat_eq, List, refl, sym, ◌∙◌, ap, Ordering, Less, Equal, Greater, is_eq}
use Rattle.std.specs.Ordering.{nat_cmp, ordering_then, eq_by_cmp, is_le, is_lt, is_gt}
use Rattle.std.specs.Cmp.{nat_cmp_total, tied_itself, Equal-is, eq_by_cmp_equiv}
use Rattle.std.specs.FinMap.{nat_cmp-IsAntisymmetric}
use Rattle.std.proofs.lemmas.Bool.{and_parts, eqb-true, eq-eqb}
use Rattle.presence_base.specs.declared.dots.Dot.{Dot}
use Rattle.presence_base.specs.Order.{text_cmp, dot_cmp, same_text, same_dot}
use Rattle.presence_journal.specs.declared.rows.Place.{Place}
use Rattle.presence_journal.proofs.Same.{is_eq-then, text_total, same_text-true, same_dot-true}
use Rattle.tracker_shown.specs.declared.stand.Mark.{Mark}
use Rattle.tracker_shown.specs.declared.stand.Mark.TheVariants.{First, At, Last}
use Rattle.tracker_shown.specs.declared.stand.Holder.{Holder}
use Rattle.tracker_shown.specs.declared.stand.Holder.TheVariants.{Room, Session}
use Rattle.tracker_shown.specs.declared.stand.Stand.{Stand}
use Rattle.tracker_shown.specs.contracts.stand.HolderOrd.TheImpl.{ghosts}
use Rattle.tracker_shown.specs.Stands.{stand_cmp, same_stand, stand, is_between, topic_ends, key_ends}

abbrev pub holder_cmp : Holder → Holder → Ordering
holder_cmp = ghosts.cmp

abbrev pub same_holder : Holder → Holder → Bool
same_holder = eq_by_cmp holder_cmp

-- numbers tie where they are equal
pub nat_ties : (a b : ℕ) → is_eq (nat_cmp a b) ≡ nat_eq a b
nat_ties a b = go (is_eq (nat_cmp a b)) (nat_eq a b) refl refl
  where
    go : (x y : Bool) → is_eq (nat_cmp a b) ≡ x → nat_eq a b ≡ y → x ≡ y
    go true true e f = refl
    go false false e f = refl
    go true false e f = let same : a ≡ b = nat_cmp-IsAntisymmetric a b ((Equal-is (nat_cmp a b)).0 e) in let t : nat_eq a b ≡ true = eq-eqb a b same in absurd (cc)
    go false true e f = let t : is_eq (nat_cmp a b) ≡ true = ap (λ k. is_eq (nat_cmp a k)) (sym (eqb-true a b f)) ∙ ap is_eq (tied_itself nat_cmp_total a) in absurd (cc)

pub same_text-sym : (a b : List ℕ) → same_text a b ≡ same_text b a
same_text-sym a b = (eq_by_cmp_equiv text_total).symm a b

pub text_tied : (t : List ℕ) → text_cmp t t ≡ Equal
text_tied t = tied_itself text_total t

pub holder_tied : (w : Holder) → holder_cmp w w ≡ Equal
holder_tied Room = refl
holder_tied (Session n) = tied_itself nat_cmp_total n

pub holder_exact : (v w : Holder) → holder_cmp v w ≡ Equal → v ≡ w
holder_exact Room Room e = refl
holder_exact Room (Session n) e = let f : Less ≡ Equal = e in absurd (cc)
holder_exact (Session m) Room e = let f : Greater ≡ Equal = e in absurd (cc)
holder_exact (Session m) (Session n) e = ap Session (nat_cmp-IsAntisymmetric m n e)

pub same_sessions : (m n : ℕ) → same_holder (Session m) (Session n) ≡ nat_eq m n
same_sessions m n = nat_ties m n

-- where two stands of rows are the same
pub same_parts : (v w : Holder) (t u : List ℕ) (p q : Place) → same_stand (stand v t p) (stand w u q) ≡ (same_holder v w && (same_text t u && (same_text p.key q.key && same_dot p.dot q.dot)))
same_parts v w t u p q =
    is_eq-then (holder_cmp v w) (ordering_then (text_cmp t u) (ordering_then (text_cmp p.key q.key) (dot_cmp p.dot q.dot)))
    ∙ ap (λ b. same_holder v w && b) (is_eq-then (text_cmp t u) (ordering_then (text_cmp p.key q.key) (dot_cmp p.dot q.dot))
    ∙ ap (λ b. same_text t u && b) (is_eq-then (text_cmp p.key q.key) (dot_cmp p.dot q.dot)))

-- what differs in a later part is not the same
pub never : (a b c : Ordering) → is_eq c ≡ false → is_eq (ordering_then a (ordering_then b c)) ≡ false
never Less b c e = refl
never Greater b c e = refl
never Equal Less c e = refl
never Equal Greater c e = refl
never Equal Equal c e = e

pub not_then : (a b : Ordering) → is_eq b ≡ false → is_eq (ordering_then a b) ≡ false
not_then Less b e = refl
not_then Equal b e = e
not_then Greater b e = refl

-- a stand that is the same as that of a row is that of the row
pub exact_at : (w : Holder) (t : List ℕ) (p : Place) (s : Stand) → same_stand (stand w t p) s ≡ true → stand w t p ≡ s
exact_at w t p s e = go s.holder s.topic s.key s.dot e
  where
    apart : (v : Holder) (u : List ℕ) (a : Mark (List ℕ)) (b : Mark Dot) → same_stand (stand w t p) (record { holder = v; topic = u; key = a; dot = b }) ≡ false → same_stand (stand w t p) (record { holder = v; topic = u; key = a; dot = b }) ≡ true → stand w t p ≡ record { holder = v; topic = u; key = a; dot = b }
    apart v u a b f g = let h : true ≡ false = sym g ∙ f in absurd (cc)

    go : (v : Holder) (u : List ℕ) (a : Mark (List ℕ)) (b : Mark Dot) → same_stand (stand w t p) (record { holder = v; topic = u; key = a; dot = b }) ≡ true → stand w t p ≡ record { holder = v; topic = u; key = a; dot = b }
    go v u First b g = apart v u First b (never (holder_cmp w v) (text_cmp t u) Greater refl) g
    go v u Last b g = apart v u Last b (never (holder_cmp w v) (text_cmp t u) Less refl) g
    go v u (At k) First g = apart v u (At k) First (never (holder_cmp w v) (text_cmp t u) (ordering_then (text_cmp p.key k) Greater) (not_then (text_cmp p.key k) Greater refl)) g
    go v u (At k) Last g = apart v u (At k) Last (never (holder_cmp w v) (text_cmp t u) (ordering_then (text_cmp p.key k) Less) (not_then (text_cmp p.key k) Less refl)) g
    go v u (At k) (At d) g =
        let all = and_parts (same_holder w v) (same_text t u && (same_text p.key k && same_dot p.dot d)) (sym (same_parts w v t u p (record { key = k; dot = d })) ∙ g) in
        let rest = and_parts (same_text t u) (same_text p.key k && same_dot p.dot d) all.1 in
        let last = and_parts (same_text p.key k) (same_dot p.dot d) rest.1 in
        let h : w ≡ v = holder_exact w v ((Equal-is (holder_cmp w v)).0 all.0) in
        let x : t ≡ u = same_text-true t u rest.0 in
        let y : p.key ≡ k = same_text-true p.key k last.0 in
        let z : p.dot ≡ d = same_dot-true p.dot d last.1 in
        λ i. record { holder = h i; topic = x i; key = At (y i); dot = At (z i) }

-- what lies between two ends of one holder and topic is of these
pinch : (a b c d : Ordering) → (is_le (ordering_then a (ordering_then b c)) && not (is_lt (ordering_then a (ordering_then b d)))) ≡ true → (a ≡ Equal) × (b ≡ Equal)
pinch Less b c d e = let f : false ≡ true = e in absurd (cc)
pinch Greater b c d e = let f : false ≡ true = e in absurd (cc)
pinch Equal Less c d e = let f : false ≡ true = e in absurd (cc)
pinch Equal Greater c d e = let f : false ≡ true = e in absurd (cc)
pinch Equal Equal c d e = (refl, refl)

-- the stand is of the holder and the topic
abbrev pub IsOf : Holder → List ℕ → Stand → Type 0
IsOf w t s = (s.holder ≡ w) × (s.topic ≡ t)

pinched : (w : Holder) (t : List ℕ) (s : Stand) → (holder_cmp w s.holder ≡ Equal) × (text_cmp t s.topic ≡ Equal) → IsOf w t s
pinched w t s h = (sym (holder_exact w s.holder h.0), sym (same_text-true t s.topic (ap is_eq h.1)))

pub of_topic_ends : (w : Holder) (t : List ℕ) (s : Stand) → is_between (topic_ends w t) s ≡ true → IsOf w t s
of_topic_ends w t s e = pinched w t s (pinch (holder_cmp w s.holder) (text_cmp t s.topic) _ _ e)

pub of_key_ends : (w : Holder) (t k : List ℕ) (s : Stand) → is_between (key_ends w t k) s ≡ true → IsOf w t s
of_key_ends w t k s e = pinched w t s (pinch (holder_cmp w s.holder) (text_cmp t s.topic) _ _ e)

-- each row of a topic lies between its ends
pub in_topic : (w : Holder) (t : List ℕ) (p : Place) → is_between (topic_ends w t) (stand w t p) ≡ true
in_topic w t p = λ i. is_le (ordering_then (holder_tied w i) (ordering_then (text_tied t i) Less)) && not (is_lt (ordering_then (holder_tied w i) (ordering_then (text_tied t i) Greater)))

-- and those of a key between the key's
pub in_key : (w : Holder) (t k : List ℕ) (p : Place) → is_between (key_ends w t k) (stand w t p) ≡ same_text k p.key
in_key w t k p =
    (λ i. is_le (ordering_then (holder_tied w i) (ordering_then (text_tied t i) (ordering_then (text_cmp k p.key) Less))) && not (is_lt (ordering_then (holder_tied w i) (ordering_then (text_tied t i) (ordering_then (text_cmp k p.key) Greater)))))
    ∙ go (text_cmp k p.key)
  where
    go : (o : Ordering) → (is_le (ordering_then o Less) && not (is_lt (ordering_then o Greater))) ≡ is_eq o
    go Less = refl
    go Equal = refl
    go Greater = refl

-- the ends stand in order
pub topic_forward : (w : Holder) (t : List ℕ) → is_gt (stand_cmp (topic_ends w t).first (topic_ends w t).last) ≡ false
topic_forward w t = λ i. is_gt (ordering_then (holder_tied w i) (ordering_then (text_tied t i) Less))

pub key_forward : (w : Holder) (t k : List ℕ) → is_gt (stand_cmp (key_ends w t k).first (key_ends w t k).last) ≡ false
key_forward w t k = λ i. is_gt (ordering_then (holder_tied w i) (ordering_then (text_tied t i) (ordering_then (text_tied k i) Less)))
