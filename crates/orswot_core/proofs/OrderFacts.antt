-- The orders of replicas and of dots are total, and only equal ones tie.
use Rattle.std.proofs.Common.{◌≡◌, true, refl, Ordering}
use Rattle.std.specs.Ordering.{is_eq, nat_cmp, ordering_then}
use Rattle.std.specs.declared.cmp.Ordering.TheVariants.{Less, Equal, Greater}
use Rattle.std.specs.Cmp.{IsTotalOrder, nat_cmp_total, then_total, on_total, eq_by_cmp_equiv}
use Rattle.std.specs.Cmp.Lexicographic.{nat_list_cmp_total, slice_cmp}
use Rattle.std.specs.FinSet as set
use Rattle.presence_base.specs.declared.dots.Replica.{Replica}
use Rattle.presence_base.specs.declared.dots.Dot.{Dot}
use Rattle.presence_base.specs.Order.{replica_cmp, dot_cmp, same_replica, same_dot}

pub replica_total : IsTotalOrder replica_cmp
replica_total = then_total (on_total (λ r. r.name) nat_list_cmp_total) (on_total (λ r. r.incarnation) nat_cmp_total)

pub dot_total : IsTotalOrder dot_cmp
dot_total = then_total (on_total (λ d. d.replica) replica_total) (on_total (λ d. d.count) nat_cmp_total)

both_equal : (o p : Ordering) → ordering_then o p ≡ Equal → (o ≡ Equal) × (p ≡ Equal)
both_equal Less p e = absurd (cc)
both_equal Equal p e = (refl, e)
both_equal Greater p e = absurd (cc)

pub replica_antisymmetric : set.IsAntisymmetric replica_cmp
replica_antisymmetric x y e =
    let parts = both_equal (slice_cmp nat_cmp x.name y.name) (nat_cmp x.incarnation y.incarnation) e in
    let names : x.name ≡ y.name = set.slice_cmp-IsAntisymmetric set.nat_cmp-IsAntisymmetric x.name y.name parts.0 in
    let incarnations : x.incarnation ≡ y.incarnation = set.nat_cmp-IsAntisymmetric x.incarnation y.incarnation parts.1 in
    λ i. record { name = names i; incarnation = incarnations i }

pub dot_antisymmetric : set.IsAntisymmetric dot_cmp
dot_antisymmetric x y e =
    let parts = both_equal (replica_cmp x.replica y.replica) (nat_cmp x.count y.count) e in
    let replicas : x.replica ≡ y.replica = replica_antisymmetric x.replica y.replica parts.0 in
    let counts : x.count ≡ y.count = set.nat_cmp-IsAntisymmetric x.count y.count parts.1 in
    λ i. record { replica = replicas i; count = counts i }

pub is_tied : (o : Ordering) → is_eq o ≡ true → o ≡ Equal
is_tied Less e = absurd (cc)
is_tied Equal e = refl
is_tied Greater e = absurd (cc)

pub dots_equal : (a b : Dot) → same_dot a b ≡ true → a ≡ b
dots_equal a b e = dot_antisymmetric a b (is_tied (dot_cmp a b) e)

pub replicas_equal : (a b : Replica) → same_replica a b ≡ true → a ≡ b
replicas_equal a b e = replica_antisymmetric a b (is_tied (replica_cmp a b) e)

pub flipped : (d q : Dot) → same_dot d q ≡ same_dot q d
flipped d q = (eq_by_cmp_equiv dot_total).symm d q

pub same_itself : (d : Dot) → same_dot d d ≡ true
same_itself d = (eq_by_cmp_equiv dot_total).refl d
