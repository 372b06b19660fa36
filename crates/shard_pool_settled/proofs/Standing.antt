-- What the tests of agreeing receipts and journals say in words.
use Rattle.std.proofs.Common.{◌≡◌, ℕ, ◌+◌, List, [], ◌∷◌, All, Option, Some, None, Bool, true, false, ◌&&◌, nat_eq, refl, sym, ap, ◌∙◌, is_eq}
use Rattle.std.specs.Prelude.{slice_get}
use Rattle.std.specs.Bool.{beq}
use Rattle.std.specs.Cmp.{IsTotalOrder, tied_itself, Equal-is}
use Rattle.std.specs.Cmp.Lexicographic.{slice_cmp}
use Rattle.std.proofs.lemmas.Bool.{eqb-true, and_parts}
use Rattle.std.proofs.lemmas.Cmp.{on_total, then_total, lists_total}
use Rattle.std.proofs.lemmas.Bool.Decides.{Decides-eqb}
use Rattle.std.proofs.lemmas.List.Elements.{All-nil, All-cons, All-head, All-tail}
use Rattle.serde_json.specs.Data.{null}
use Rattle.serde_json.specs.Written.{compact_text}
use Rattle.presence_base.specs.declared.dots.Dot.{Dot}
use Rattle.presence_base.specs.Order.{same_text, same_replica, same_dot, dot_cmp}
use Rattle.presence_journal.specs.declared.step.Step.{Step}
use Rattle.presence_journal.specs.declared.step.Step.TheVariants as steps_are
use Rattle.presence_journal.specs.declared.entry.Outcome.{Outcome}
use Rattle.presence_journal.specs.declared.entry.Outcome.TheVariants as outcomes_are
use Rattle.presence_journal.specs.declared.entry.Entry.{Entry}
use Rattle.presence_journal.specs.History.{History}
use Rattle.presence_journal.proofs.Same.{same_text-true, same_text-refl, same_replica-true, same_replica-refl, same_dot-true, same_dot-refl, is_eq-then, dot_total, dot_cmp-IsAntisymmetric}
use Rattle.std.specs.FinMap.{IsAntisymmetric, slice_cmp-IsAntisymmetric}
use Rattle.shard_pool_settled.specs.declared.receipt.Receipt.{Receipt}
use Rattle.presence_journal.specs.ListedDots.{same_dots}
use Rattle.shard_pool_settled.specs.Alike.{same_value, pair_cmp, same_pairs, same_step, same_outcome}
use Rattle.shard_pool_settled.specs.Seated.{entry_at}
use Rattle.shard_pool_settled.specs.Settled.{is_seat, is_entry, is_in, is_told, all_told, seats_told}
use Rattle.shard_pool_settled.specs.Words.{AreAlike, Stands, EachStands, ToldStand, StandingAreTold}

same_dots-true : (a b : List Dot) → same_dots a b ≡ true → a ≡ b
same_dots-true a b h = slice_cmp-IsAntisymmetric dot_cmp-IsAntisymmetric a b ((Equal-is (slice_cmp dot_cmp a b)).0 h)

same_dots-refl : (a : List Dot) → same_dots a a ≡ true
same_dots-refl a = ap is_eq (tied_itself (lists_total dot_total) a)

-- two tests that both pass

both : (a b : Bool) → a ≡ true → b ≡ true → (a && b) ≡ true
both true true p q = refl
both false b p q = cc
both true false p q = cc

beq-true : (a b : Bool) → beq a b ≡ true → a ≡ b
beq-true true true e = refl
beq-true false false e = refl
beq-true true false e = cc
beq-true false true e = cc

beq-refl : (a : Bool) → beq a a ≡ true
beq-refl true = refl
beq-refl false = refl

eqb-refl : (n : ℕ) → nat_eq n n ≡ true
eqb-refl n = (Decides-eqb n n).1 refl

-- outcomes

pair_total : IsTotalOrder pair_cmp
pair_total = then_total (on_total (λ (p : Dot × Dot). p.0) dot_total) (on_total (λ (p : Dot × Dot). p.1) dot_total)

pair_cmp-IsAntisymmetric : IsAntisymmetric pair_cmp
pair_cmp-IsAntisymmetric p q e =
    let parts = and_parts (same_dot p.0 q.0) (same_dot p.1 q.1) (sym (is_eq-then (dot_cmp p.0 q.0) (dot_cmp p.1 q.1)) ∙ ap is_eq e) in
    λ i. (same_dot-true p.0 q.0 parts.0 i, same_dot-true p.1 q.1 parts.1 i)

pairs_same : (ps qs : List (Dot × Dot)) → same_pairs ps qs ≡ true → ps ≡ qs
pairs_same ps qs e = slice_cmp-IsAntisymmetric pair_cmp-IsAntisymmetric ps qs ((Equal-is (slice_cmp pair_cmp ps qs)).0 e)

same_pairs-refl : (ps : List (Dot × Dot)) → same_pairs ps ps ≡ true
same_pairs-refl ps = ap is_eq (tied_itself (lists_total pair_total) ps)

outcomes_same : (a b : Outcome) → same_outcome a b ≡ true → a ≡ b
outcomes_same (outcomes_are.Added d) (outcomes_are.Added x) e = ap (λ y. outcomes_are.Added y) (sym (same_dot-true x d e))
outcomes_same (outcomes_are.Added d) _ e = absurd (cc)
outcomes_same outcomes_are.AlreadyTracked outcomes_are.AlreadyTracked e = refl
outcomes_same outcomes_are.AlreadyTracked _ e = absurd (cc)
outcomes_same (outcomes_are.Replaced d o) (outcomes_are.Replaced x y) e =
    let p = and_parts (same_dot x d) (same_dot y o) e in
    let q : x ≡ d = same_dot-true x d p.0 in
    let r : y ≡ o = same_dot-true y o p.1 in
    λ i. outcomes_are.Replaced (sym q i) (sym r i)
outcomes_same (outcomes_are.Replaced d o) _ e = absurd (cc)
outcomes_same outcomes_are.NoPresence outcomes_are.NoPresence e = refl
outcomes_same outcomes_are.NoPresence _ e = absurd (cc)
outcomes_same (outcomes_are.Removed ds) (outcomes_are.Removed xs) e = ap (λ y. outcomes_are.Removed y) (sym (same_dots-true xs ds e))
outcomes_same (outcomes_are.Removed ds) _ e = absurd (cc)
outcomes_same (outcomes_are.Shown ds) (outcomes_are.Shown xs) e = ap (λ y. outcomes_are.Shown y) (sym (same_dots-true xs ds e))
outcomes_same (outcomes_are.Shown ds) _ e = absurd (cc)
outcomes_same (outcomes_are.Subscribed n) (outcomes_are.Subscribed m) e = ap (λ y. outcomes_are.Subscribed y) (sym (eqb-true m n e))
outcomes_same (outcomes_are.Subscribed n) _ e = absurd (cc)
outcomes_same (outcomes_are.Taken s n) (outcomes_are.Taken t m) e =
    let p = and_parts (beq t s) (nat_eq m n) e in
    let q : t ≡ s = beq-true t s p.0 in
    let r : m ≡ n = eqb-true m n p.1 in
    λ i. outcomes_are.Taken (sym q i) (sym r i)
outcomes_same (outcomes_are.Taken s n) _ e = absurd (cc)
outcomes_same outcomes_are.Ended outcomes_are.Ended e = refl
outcomes_same outcomes_are.Ended _ e = absurd (cc)
outcomes_same outcomes_are.Sent outcomes_are.Sent e = refl
outcomes_same outcomes_are.Sent _ e = absurd (cc)
outcomes_same outcomes_are.Noted outcomes_are.Noted e = refl
outcomes_same outcomes_are.Noted _ e = absurd (cc)
outcomes_same (outcomes_are.CutAt f t) (outcomes_are.CutAt x y) e =
    let p = and_parts (nat_eq x f) (nat_eq y t) e in
    let q : x ≡ f = eqb-true x f p.0 in
    let r : y ≡ t = eqb-true y t p.1 in
    λ i. outcomes_are.CutAt (sym q i) (sym r i)
outcomes_same (outcomes_are.CutAt f t) _ e = absurd (cc)
outcomes_same outcomes_are.Merged outcomes_are.Merged e = refl
outcomes_same outcomes_are.Merged _ e = absurd (cc)
outcomes_same (outcomes_are.Reborn ps) (outcomes_are.Reborn qs) e = ap outcomes_are.Reborn (sym (pairs_same qs ps e))
outcomes_same (outcomes_are.Reborn ps) _ e = absurd (cc)

same_outcomes : (a : Outcome) → same_outcome a a ≡ true
same_outcomes (outcomes_are.Added d) = same_dot-refl d
same_outcomes outcomes_are.AlreadyTracked = refl
same_outcomes (outcomes_are.Replaced d o) = both (same_dot d d) (same_dot o o) (same_dot-refl d) (same_dot-refl o)
same_outcomes outcomes_are.NoPresence = refl
same_outcomes (outcomes_are.Removed ds) = same_dots-refl ds
same_outcomes (outcomes_are.Shown ds) = same_dots-refl ds
same_outcomes (outcomes_are.Subscribed n) = eqb-refl n
same_outcomes (outcomes_are.Taken s n) = both (beq s s) (nat_eq n n) (beq-refl s) (eqb-refl n)
same_outcomes outcomes_are.Ended = refl
same_outcomes outcomes_are.Sent = refl
same_outcomes outcomes_are.Noted = refl
same_outcomes (outcomes_are.CutAt f t) = both (nat_eq f f) (nat_eq t t) (eqb-refl f) (eqb-refl t)
same_outcomes outcomes_are.Merged = refl
same_outcomes (outcomes_are.Reborn ps) = same_pairs-refl ps

-- steps

steps_alike : (a b : Step) → same_step a b ≡ true → AreAlike a b
steps_alike (steps_are.Track p t k m) (steps_are.Track pp t2 kk mm) e =
    let p0 = and_parts (nat_eq pp p) (same_text t2 t && (same_text kk k && same_value mm m)) e in
    let p1 = and_parts (same_text t2 t) (same_text kk k && same_value mm m) p0.1 in
    let p2 = and_parts (same_text kk k) (same_value mm m) p1.1 in
    let qp : pp ≡ p = eqb-true pp p p0.0 in
    let qt : t2 ≡ t = same_text-true t2 t p1.0 in
    let qk : kk ≡ k = same_text-true kk k p2.0 in
    record { seated = refl; rest = λ i. steps_are.Track (sym qp i) (sym qt i) (sym qk i) null; text = sym (same_text-true (compact_text mm) (compact_text m) p2.1) }
steps_alike (steps_are.Track p t k m) _ e = absurd (cc)
steps_alike (steps_are.Update p t k m) (steps_are.Update pp t2 kk mm) e =
    let p0 = and_parts (nat_eq pp p) (same_text t2 t && (same_text kk k && same_value mm m)) e in
    let p1 = and_parts (same_text t2 t) (same_text kk k && same_value mm m) p0.1 in
    let p2 = and_parts (same_text kk k) (same_value mm m) p1.1 in
    let qp : pp ≡ p = eqb-true pp p p0.0 in
    let qt : t2 ≡ t = same_text-true t2 t p1.0 in
    let qk : kk ≡ k = same_text-true kk k p2.0 in
    record { seated = refl; rest = λ i. steps_are.Update (sym qp i) (sym qt i) (sym qk i) null; text = sym (same_text-true (compact_text mm) (compact_text m) p2.1) }
steps_alike (steps_are.Update p t k m) _ e = absurd (cc)
steps_alike (steps_are.Untrack p t k) (steps_are.Untrack pp t2 kk) e =
    let p0 = and_parts (nat_eq pp p) (same_text t2 t && same_text kk k) e in
    let p1 = and_parts (same_text t2 t) (same_text kk k) p0.1 in
    let qp : pp ≡ p = eqb-true pp p p0.0 in
    let qt : t2 ≡ t = same_text-true t2 t p1.0 in
    let qk : kk ≡ k = same_text-true kk k p1.1 in
    record { seated = refl; rest = λ i. steps_are.Untrack (sym qp i) (sym qt i) (sym qk i); text = refl }
steps_alike (steps_are.Untrack p t k) _ e = absurd (cc)
steps_alike (steps_are.UntrackAll p t) (steps_are.UntrackAll pp t2) e =
    let p0 = and_parts (nat_eq pp p) (same_text t2 t) e in
    let qp : pp ≡ p = eqb-true pp p p0.0 in
    let qt : t2 ≡ t = same_text-true t2 t p0.1 in
    record { seated = refl; rest = λ i. steps_are.UntrackAll (sym qp i) (sym qt i); text = refl }
steps_alike (steps_are.UntrackAll p t) _ e = absurd (cc)
steps_alike (steps_are.List t) (steps_are.List t2) e =
    let qt : t2 ≡ t = same_text-true t2 t e in
    record { seated = refl; rest = λ i. steps_are.List (sym qt i); text = refl }
steps_alike (steps_are.List t) _ e = absurd (cc)
steps_alike (steps_are.Get t k) (steps_are.Get t2 kk) e =
    let p0 = and_parts (same_text t2 t) (same_text kk k) e in
    let qt : t2 ≡ t = same_text-true t2 t p0.0 in
    let qk : kk ≡ k = same_text-true kk k p0.1 in
    record { seated = refl; rest = λ i. steps_are.Get (sym qt i) (sym qk i); text = refl }
steps_alike (steps_are.Get t k) _ e = absurd (cc)
steps_alike (steps_are.Subscribe t) (steps_are.Subscribe t2) e =
    let qt : t2 ≡ t = same_text-true t2 t e in
    record { seated = refl; rest = λ i. steps_are.Subscribe (sym qt i); text = refl }
steps_alike (steps_are.Subscribe t) _ e = absurd (cc)
steps_alike (steps_are.Take n m) (steps_are.Take nn mm) e =
    let p0 = and_parts (nat_eq nn n) (nat_eq mm m) e in
    let qn : nn ≡ n = eqb-true nn n p0.0 in
    let qm : mm ≡ m = eqb-true mm m p0.1 in
    record { seated = refl; rest = λ i. steps_are.Take (sym qn i) (sym qm i); text = refl }
steps_alike (steps_are.Take n m) _ e = absurd (cc)
steps_alike (steps_are.Unsubscribe n) (steps_are.Unsubscribe nn) e =
    let qn : nn ≡ n = eqb-true nn n e in
    record { seated = refl; rest = λ i. steps_are.Unsubscribe (sym qn i); text = refl }
steps_alike (steps_are.Unsubscribe n) _ e = absurd (cc)
steps_alike (steps_are.Shout t m) (steps_are.Shout t2 mm) e =
    let p0 = and_parts (same_text t2 t) (same_value mm m) e in
    let qt : t2 ≡ t = same_text-true t2 t p0.0 in
    record { seated = refl; rest = λ i. steps_are.Shout (sym qt i) null; text = sym (same_text-true (compact_text mm) (compact_text m) p0.1) }
steps_alike (steps_are.Shout t m) _ e = absurd (cc)
steps_alike (steps_are.Heard r n) (steps_are.Heard rr nn) e =
    let p0 = and_parts (same_replica rr r) (nat_eq nn n) e in
    let qr : rr ≡ r = same_replica-true rr r p0.0 in
    let qn : nn ≡ n = eqb-true nn n p0.1 in
    record { seated = refl; rest = λ i. steps_are.Heard (sym qr i) (sym qn i); text = refl }
steps_alike (steps_are.Heard r n) _ e = absurd (cc)
steps_alike (steps_are.Tick n) (steps_are.Tick nn) e =
    let qn : nn ≡ n = eqb-true nn n e in
    record { seated = refl; rest = λ i. steps_are.Tick (sym qn i); text = refl }
steps_alike (steps_are.Tick n) _ e = absurd (cc)
steps_alike (steps_are.PermDown r) (steps_are.PermDown rr) e =
    let qr : rr ≡ r = same_replica-true rr r e in
    record { seated = refl; rest = λ i. steps_are.PermDown (sym qr i); text = refl }
steps_alike (steps_are.PermDown r) _ e = absurd (cc)
steps_alike steps_are.Cut steps_are.Cut e = record { seated = refl; rest = refl; text = refl }
steps_alike steps_are.Cut _ e = absurd (cc)
steps_alike (steps_are.Merge t) _ e = absurd (cc)
steps_alike (steps_are.Rebirth i) _ e = absurd (cc)

-- and the other way round

alike_steps : (a b : Step) → AreAlike a b → same_step a b ≡ true
alike_steps (steps_are.Track p t k m) (steps_are.Track pp t2 kk mm) l =
    let alike = l.rest in
    let qp : pp ≡ p = cc in
    let qt : t2 ≡ t = cc in
    let qk : kk ≡ k = cc in
    both (nat_eq pp p) (same_text t2 t && (same_text kk k && same_value mm m)) (ap (λ s. nat_eq s p) qp ∙ eqb-refl p) (both (same_text t2 t) (same_text kk k && same_value mm m) (ap (λ s. same_text s t) qt ∙ same_text-refl t) (both (same_text kk k) (same_value mm m) (ap (λ s. same_text s k) qk ∙ same_text-refl k) (ap (λ s. same_text s (compact_text m)) (sym l.text) ∙ same_text-refl (compact_text m))))
alike_steps (steps_are.Track p t k m) _ l = let alike = l.rest in absurd (cc)
alike_steps (steps_are.Update p t k m) (steps_are.Update pp t2 kk mm) l =
    let alike = l.rest in
    let qp : pp ≡ p = cc in
    let qt : t2 ≡ t = cc in
    let qk : kk ≡ k = cc in
    both (nat_eq pp p) (same_text t2 t && (same_text kk k && same_value mm m)) (ap (λ s. nat_eq s p) qp ∙ eqb-refl p) (both (same_text t2 t) (same_text kk k && same_value mm m) (ap (λ s. same_text s t) qt ∙ same_text-refl t) (both (same_text kk k) (same_value mm m) (ap (λ s. same_text s k) qk ∙ same_text-refl k) (ap (λ s. same_text s (compact_text m)) (sym l.text) ∙ same_text-refl (compact_text m))))
alike_steps (steps_are.Update p t k m) _ l = let alike = l.rest in absurd (cc)
alike_steps (steps_are.Untrack p t k) (steps_are.Untrack pp t2 kk) l =
    let alike = l.rest in
    let qp : pp ≡ p = cc in
    let qt : t2 ≡ t = cc in
    let qk : kk ≡ k = cc in
    both (nat_eq pp p) (same_text t2 t && same_text kk k) (ap (λ s. nat_eq s p) qp ∙ eqb-refl p) (both (same_text t2 t) (same_text kk k) (ap (λ s. same_text s t) qt ∙ same_text-refl t) (ap (λ s. same_text s k) qk ∙ same_text-refl k))
alike_steps (steps_are.Untrack p t k) _ l = let alike = l.rest in absurd (cc)
alike_steps (steps_are.UntrackAll p t) (steps_are.UntrackAll pp t2) l =
    let alike = l.rest in
    let qp : pp ≡ p = cc in
    let qt : t2 ≡ t = cc in
    both (nat_eq pp p) (same_text t2 t) (ap (λ s. nat_eq s p) qp ∙ eqb-refl p) (ap (λ s. same_text s t) qt ∙ same_text-refl t)
alike_steps (steps_are.UntrackAll p t) _ l = let alike = l.rest in absurd (cc)
alike_steps (steps_are.List t) (steps_are.List t2) l =
    let alike = l.rest in
    let qt : t2 ≡ t = cc in
    ap (λ s. same_text s t) qt ∙ same_text-refl t
alike_steps (steps_are.List t) _ l = let alike = l.rest in absurd (cc)
alike_steps (steps_are.Get t k) (steps_are.Get t2 kk) l =
    let alike = l.rest in
    let qt : t2 ≡ t = cc in
    let qk : kk ≡ k = cc in
    both (same_text t2 t) (same_text kk k) (ap (λ s. same_text s t) qt ∙ same_text-refl t) (ap (λ s. same_text s k) qk ∙ same_text-refl k)
alike_steps (steps_are.Get t k) _ l = let alike = l.rest in absurd (cc)
alike_steps (steps_are.Subscribe t) (steps_are.Subscribe t2) l =
    let alike = l.rest in
    let qt : t2 ≡ t = cc in
    ap (λ s. same_text s t) qt ∙ same_text-refl t
alike_steps (steps_are.Subscribe t) _ l = let alike = l.rest in absurd (cc)
alike_steps (steps_are.Take n m) (steps_are.Take nn mm) l =
    let alike = l.rest in
    let qn : nn ≡ n = cc in
    let qm : mm ≡ m = cc in
    both (nat_eq nn n) (nat_eq mm m) (ap (λ s. nat_eq s n) qn ∙ eqb-refl n) (ap (λ s. nat_eq s m) qm ∙ eqb-refl m)
alike_steps (steps_are.Take n m) _ l = let alike = l.rest in absurd (cc)
alike_steps (steps_are.Unsubscribe n) (steps_are.Unsubscribe nn) l =
    let alike = l.rest in
    let qn : nn ≡ n = cc in
    ap (λ s. nat_eq s n) qn ∙ eqb-refl n
alike_steps (steps_are.Unsubscribe n) _ l = let alike = l.rest in absurd (cc)
alike_steps (steps_are.Shout t m) (steps_are.Shout t2 mm) l =
    let alike = l.rest in
    let qt : t2 ≡ t = cc in
    both (same_text t2 t) (same_value mm m) (ap (λ s. same_text s t) qt ∙ same_text-refl t) (ap (λ s. same_text s (compact_text m)) (sym l.text) ∙ same_text-refl (compact_text m))
alike_steps (steps_are.Shout t m) _ l = let alike = l.rest in absurd (cc)
alike_steps (steps_are.Heard r n) (steps_are.Heard rr nn) l =
    let alike = l.rest in
    let qr : rr ≡ r = cc in
    let qn : nn ≡ n = cc in
    both (same_replica rr r) (nat_eq nn n) (ap (λ s. same_replica s r) qr ∙ same_replica-refl r) (ap (λ s. nat_eq s n) qn ∙ eqb-refl n)
alike_steps (steps_are.Heard r n) _ l = let alike = l.rest in absurd (cc)
alike_steps (steps_are.Tick n) (steps_are.Tick nn) l =
    let alike = l.rest in
    let qn : nn ≡ n = cc in
    ap (λ s. nat_eq s n) qn ∙ eqb-refl n
alike_steps (steps_are.Tick n) _ l = let alike = l.rest in absurd (cc)
alike_steps (steps_are.PermDown r) (steps_are.PermDown rr) l =
    let alike = l.rest in
    let qr : rr ≡ r = cc in
    ap (λ s. same_replica s r) qr ∙ same_replica-refl r
alike_steps (steps_are.PermDown r) _ l = let alike = l.rest in absurd (cc)
alike_steps steps_are.Cut steps_are.Cut l = refl
alike_steps steps_are.Cut _ l = let alike = l.rest in absurd (cc)
alike_steps (steps_are.Merge t) _ l = let merge = l.seated in absurd (cc)
alike_steps (steps_are.Rebirth i) _ l = let rebirth = l.seated in absurd (cc)

-- one receipt

is_seat-is : (i : ℕ) (o : Option ℕ) → is_seat i o ≡ true → o ≡ Some i
is_seat-is i (Some s) e = ap (λ x. Some x) (eqb-true s i e)
is_seat-is i None e = absurd (cc)

entry_stands : (js : List History) (i : ℕ) (r : Receipt) (h : History) (o : Option Entry) → slice_get js r.shard ≡ Some h → entry_at h r.number ≡ o → is_entry i r o ≡ true → Stands js i r
entry_stands js i r h None at is e = absurd (cc)
entry_stands js i r h (Some x) at is e =
    let p = and_parts (is_seat i x.seat) (same_step r.step x.step && same_outcome r.outcome x.outcome) e in
    let q = and_parts (same_step r.step x.step) (same_outcome r.outcome x.outcome) p.1 in
    record { journal = h; shard = at; entry = x; number = is; seat = is_seat-is i x.seat p.0; step = steps_alike r.step x.step q.0; outcome = outcomes_same r.outcome x.outcome q.1 }

told_stands : (js : List History) (i : ℕ) (r : Receipt) (o : Option History) → slice_get js r.shard ≡ o → is_in i r o ≡ true → Stands js i r
told_stands js i r None at e = absurd (cc)
told_stands js i r (Some h) at e = entry_stands js i r h (entry_at h r.number) at refl e

stands_told : (js : List History) (i : ℕ) (r : Receipt) → Stands js i r → is_told js i r ≡ true
stands_told js i r s =
    ap (is_in i r) s.shard ∙ ap (is_entry i r) s.number
    ∙ both (is_seat i s.entry.seat) (same_step r.step s.entry.step && same_outcome r.outcome s.entry.outcome) (ap (is_seat i) s.seat ∙ eqb-refl i)
    (both (same_step r.step s.entry.step) (same_outcome r.outcome s.entry.outcome) (alike_steps r.step s.entry.step s.step) (ap (λ o. same_outcome o s.entry.outcome) s.outcome ∙ same_outcomes s.entry.outcome))

-- all receipts

all_stand : (js : List History) (i : ℕ) (rs : List Receipt) → all_told js i rs ≡ true → All (Stands js i) rs
all_stand js i [] e = All-nil (Stands js i)
all_stand js i (r ∷ rs) e =
    let p = and_parts (is_told js i r) (all_told js i rs) e in
    All-cons (Stands js i) r rs (told_stands js i r (slice_get js r.shard) refl p.0) (all_stand js i rs p.1)

each_stands : (js : List History) (i : ℕ) (rss : List (List Receipt)) → seats_told js i rss ≡ true → EachStands js i rss
each_stands js i [] e = tt
each_stands js i (rs ∷ rss) e =
    let p = and_parts (all_told js i rs) (seats_told js (i + 1) rss) e in
    (all_stand js i rs p.0, each_stands js (i + 1) rss p.1)

all_are_told : (js : List History) (i : ℕ) (rs : List Receipt) → All (Stands js i) rs → all_told js i rs ≡ true
all_are_told js i [] s = refl
all_are_told js i (r ∷ rs) s = both (is_told js i r) (all_told js i rs) (stands_told js i r (All-head (Stands js i) r rs s)) (all_are_told js i rs (All-tail (Stands js i) r rs s))

each_is_told : (js : List History) (i : ℕ) (rss : List (List Receipt)) → EachStands js i rss → seats_told js i rss ≡ true
each_is_told js i [] s = refl
each_is_told js i (rs ∷ rss) s = both (all_told js i rs) (seats_told js (i + 1) rss) (all_are_told js i rs s.0) (each_is_told js (i + 1) rss s.1)

pub told_stand : ToldStand
told_stand js rss e = each_stands js 0 rss e

pub standing_are_told : StandingAreTold
standing_are_told js rss s = each_is_told js 0 rss s
