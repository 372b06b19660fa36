-- The orders of texts, dots and places are total, and tie only what is equal.
use Rattle.std.proofs.Common.{◌≡◌, ℕ, true, ◌&&◌, List, refl, sym, ◌∙◌, ap, Ordering, Less, Equal, Greater, is_eq}
use Rattle.std.specs.Ordering.{nat_cmp, ordering_then, eq_by_cmp}
use Rattle.std.specs.Cmp.{IsTotalOrder, nat_cmp_total, Equal-is, eq_by_cmp_equiv, tied_itself}
use Rattle.std.proofs.lemmas.Cmp.{on_total, then_total, nat_list_cmp_total}
use Rattle.std.proofs.lemmas.Bool.{and_parts}
use Rattle.std.specs.FinMap.{IsAntisymmetric, nat_cmp-IsAntisymmetric, slice_cmp-IsAntisymmetric}
use Rattle.presence_base.specs.declared.dots.Replica.{Replica}
use Rattle.presence_base.specs.declared.dots.Dot.{Dot}
use Rattle.presence_base.specs.Order.{text_cmp, replica_cmp, dot_cmp, same_text, same_replica, same_dot}
use Rattle.presence_journal.specs.declared.rows.Place.{Place}
use Rattle.presence_journal.specs.Present.{place_cmp}

-- a chain of two orders ties where both do
pub is_eq-then : (a b : Ordering) → is_eq (ordering_then a b) ≡ (is_eq a && is_eq b)
is_eq-then Less b = refl
is_eq-then Equal b = refl
is_eq-then Greater b = refl

equal : (o : Ordering) → is_eq o ≡ true → o ≡ Equal
equal o e = (Equal-is o).0 e

-- texts

pub text_total : IsTotalOrder text_cmp
text_total = nat_list_cmp_total

pub same_text-true : (a b : List ℕ) → same_text a b ≡ true → a ≡ b
same_text-true a b h = slice_cmp-IsAntisymmetric nat_cmp-IsAntisymmetric a b (equal (text_cmp a b) h)

pub same_text-refl : (a : List ℕ) → same_text a a ≡ true
same_text-refl a = ap is_eq (tied_itself text_total a)

-- replicas

pub replica_total : IsTotalOrder replica_cmp
replica_total = then_total (on_total (λ (r : Replica). r.name) nat_list_cmp_total) (on_total (λ (r : Replica). r.incarnation) nat_cmp_total)

pub same_replica-true : (a b : Replica) → same_replica a b ≡ true → a ≡ b
same_replica-true a b h =
    let parts = and_parts (is_eq (text_cmp a.name b.name)) (is_eq (nat_cmp a.incarnation b.incarnation)) (sym (is_eq-then (text_cmp a.name b.name) (nat_cmp a.incarnation b.incarnation)) ∙ h) in
    let p : a.name ≡ b.name = same_text-true a.name b.name parts.0 in
    let q : a.incarnation ≡ b.incarnation = nat_cmp-IsAntisymmetric a.incarnation b.incarnation (equal (nat_cmp a.incarnation b.incarnation) parts.1) in
    λ i. record { name = p i; incarnation = q i }

pub same_replica-refl : (a : Replica) → same_replica a a ≡ true
same_replica-refl a = ap is_eq (tied_itself replica_total a)

-- dots

pub dot_total : IsTotalOrder dot_cmp
dot_total = then_total (on_total (λ (d : Dot). d.replica) replica_total) (on_total (λ (d : Dot). d.count) nat_cmp_total)

pub same_dot-true : (a b : Dot) → same_dot a b ≡ true → a ≡ b
same_dot-true a b h =
    let parts = and_parts (is_eq (replica_cmp a.replica b.replica)) (is_eq (nat_cmp a.count b.count)) (sym (is_eq-then (replica_cmp a.replica b.replica) (nat_cmp a.count b.count)) ∙ h) in
    let p : a.replica ≡ b.replica = same_replica-true a.replica b.replica parts.0 in
    let q : a.count ≡ b.count = nat_cmp-IsAntisymmetric a.count b.count (equal (nat_cmp a.count b.count) parts.1) in
    λ i. record { replica = p i; count = q i }

pub same_dot-refl : (a : Dot) → same_dot a a ≡ true
same_dot-refl a = ap is_eq (tied_itself dot_total a)

pub same_dot-sym : (a b : Dot) → same_dot a b ≡ same_dot b a
same_dot-sym a b = (eq_by_cmp_equiv dot_total).symm a b

-- places

pub place_total : IsTotalOrder place_cmp
place_total = then_total (on_total (λ (p : Place). p.key) nat_list_cmp_total) (on_total (λ (p : Place). p.dot) dot_total)

-- one place is one key and one dot
pub same_place : (p q : Place) → eq_by_cmp place_cmp p q ≡ (same_text p.key q.key && same_dot p.dot q.dot)
same_place p q = is_eq-then (text_cmp p.key q.key) (dot_cmp p.dot q.dot)

pub place_cmp-IsAntisymmetric : IsAntisymmetric place_cmp
place_cmp-IsAntisymmetric a b h =
    let parts = and_parts (same_text a.key b.key) (same_dot a.dot b.dot) (sym (same_place a b) ∙ ap is_eq h) in
    let p : a.key ≡ b.key = same_text-true a.key b.key parts.0 in
    let q : a.dot ≡ b.dot = same_dot-true a.dot b.dot parts.1 in
    λ i. record { key = p i; dot = q i }

pub dot_cmp-IsAntisymmetric : IsAntisymmetric dot_cmp
dot_cmp-IsAntisymmetric a b h = same_dot-true a b (ap is_eq h)
