-- Replicas are told apart by their order, and equal ones are one.
use Rattle.std.proofs.Common.{◌≡◌, ℕ, IsTrue, List, ◌++◌, refl, ap, Ordering}
use Rattle.std.specs.Ordering.{nat_cmp, is_eq, ordering_then}
use Rattle.std.specs.declared.cmp.Ordering.TheVariants.{Less, Equal, Greater}
use Rattle.std.specs.Cmp.{IsTotalOrder, IsEquivalence, IsPartialEquivalence, nat_cmp_total, then_total, on_total, eq_by_cmp_equiv, partial_equiv_from_equiv}
use Rattle.std.specs.Cmp.Lexicographic.{nat_list_cmp_total, slice_cmp}
use Rattle.std.specs.FinSet as set
use Rattle.std.specs.Hash as fed
use Rattle.presence_base.specs.declared.dots.Replica.{Replica}
use Rattle.presence_base.specs.Order.{replica_cmp, same_replica}

pub replica_total : IsTotalOrder replica_cmp
replica_total = then_total (on_total (λ r. r.name) nat_list_cmp_total) (on_total (λ r. r.incarnation) nat_cmp_total)

pub same_replica_equiv : IsEquivalence same_replica
same_replica_equiv = eq_by_cmp_equiv replica_total

pub same_replica_partial : IsPartialEquivalence same_replica
same_replica_partial = partial_equiv_from_equiv same_replica_equiv

both_equal : (o p : Ordering) → ordering_then o p ≡ Equal → (o ≡ Equal) × (p ≡ Equal)
both_equal Less p e = absurd (cc)
both_equal Equal p e = (refl, e)
both_equal Greater p e = absurd (cc)

equal_from_is_eq : (o : Ordering) → IsTrue (is_eq o) → o ≡ Equal
equal_from_is_eq Less e = absurd (cc)
equal_from_is_eq Equal e = refl
equal_from_is_eq Greater e = absurd (cc)

pub same_replica_is : (x y : Replica) → IsTrue (same_replica x y) → x ≡ y
same_replica_is x y e =
    let parts = both_equal (slice_cmp nat_cmp x.name y.name) (nat_cmp x.incarnation y.incarnation)
    (equal_from_is_eq (replica_cmp x y) e) in
    let names : x.name ≡ y.name = set.slice_cmp-IsAntisymmetric set.nat_cmp-IsAntisymmetric x.name y.name parts.0 in
    let incarnations : x.incarnation ≡ y.incarnation =
    set.nat_cmp-IsAntisymmetric x.incarnation y.incarnation parts.1 in
    λ i. record { name = names i; incarnation = incarnations i }

-- what a hasher is fed of a replica
abbrev pub replica_writes : Replica → List (List ℕ)
replica_writes r = fed.str r.name ++ fed.u64 r.incarnation

pub same_replica_alike : (x y : Replica) → IsTrue (same_replica x y) → replica_writes x ≡ replica_writes y
same_replica_alike x y e = ap replica_writes (same_replica_is x y e)
