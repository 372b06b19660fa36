-- The order of places: it is total, and only equal places tie.
use Rattle.std.proofs.Common.{◌≡◌, ℕ, true, List, Ordering, refl}
use Rattle.std.specs.Ordering.{nat_cmp, ordering_then, eq_by_cmp, is_eq}
use Rattle.std.specs.declared.cmp.Ordering.TheVariants.{Less, Equal, Greater}
use Rattle.std.specs.Cmp.{IsTotalOrder, nat_cmp_total, then_total, on_total}
use Rattle.std.specs.Cmp.Lexicographic.{nat_list_cmp_total}
use Rattle.std.specs.FinMap as map
use Rattle.presence_base.specs.declared.dots.Dot.{Dot}
use Rattle.presence_base.specs.Order.{text_cmp, replica_cmp, dot_cmp, same_text, same_dot}
use Rattle.presence_journal.specs.declared.rows.Place.{Place}
use Rattle.presence_journal.specs.Present.{place_cmp}

pub replica_cmp_total : IsTotalOrder replica_cmp
replica_cmp_total = then_total (on_total (λ r. r.name) nat_list_cmp_total) (on_total (λ r. r.incarnation) nat_cmp_total)

pub dot_cmp_total : IsTotalOrder dot_cmp
dot_cmp_total = then_total (on_total (λ d. d.replica) replica_cmp_total) (on_total (λ d. d.count) nat_cmp_total)

pub place_cmp_total : IsTotalOrder place_cmp
place_cmp_total = then_total (on_total (λ p. p.key) nat_list_cmp_total) (on_total (λ p. p.dot) dot_cmp_total)

both_equal : (o p : Ordering) → ordering_then o p ≡ Equal → (o ≡ Equal) × (p ≡ Equal)
both_equal Less p e = absurd (cc)
both_equal Equal p e = (refl, e)
both_equal Greater p e = absurd (cc)

pub text_ties : map.IsAntisymmetric text_cmp
text_ties = map.slice_cmp-IsAntisymmetric map.nat_cmp-IsAntisymmetric

pub replica_ties : map.IsAntisymmetric replica_cmp
replica_ties x y e =
    let parts = both_equal (text_cmp x.name y.name) (nat_cmp x.incarnation y.incarnation) e in
    let names : x.name ≡ y.name = text_ties x.name y.name parts.0 in
    let incarnations : x.incarnation ≡ y.incarnation = map.nat_cmp-IsAntisymmetric x.incarnation y.incarnation parts.1 in
    λ i. record { name = names i; incarnation = incarnations i }

pub dot_ties : map.IsAntisymmetric dot_cmp
dot_ties x y e =
    let parts = both_equal (replica_cmp x.replica y.replica) (nat_cmp x.count y.count) e in
    let replicas : x.replica ≡ y.replica = replica_ties x.replica y.replica parts.0 in
    let counts : x.count ≡ y.count = map.nat_cmp-IsAntisymmetric x.count y.count parts.1 in
    λ i. record { replica = replicas i; count = counts i }

pub place_ties : map.IsAntisymmetric place_cmp
place_ties x y e =
    let parts = both_equal (text_cmp x.key y.key) (dot_cmp x.dot y.dot) e in
    let keys : x.key ≡ y.key = text_ties x.key y.key parts.0 in
    let dots : x.dot ≡ y.dot = dot_ties x.dot y.dot parts.1 in
    λ i. record { key = keys i; dot = dots i }

tie : (o : Ordering) → is_eq o ≡ true → o ≡ Equal
tie Less h = absurd (cc)
tie Equal h = refl
tie Greater h = absurd (cc)

pub same_text-is : (a b : List ℕ) → same_text a b ≡ true → a ≡ b
same_text-is a b h = text_ties a b (tie (text_cmp a b) h)

pub same_dot-is : (a b : Dot) → same_dot a b ≡ true → a ≡ b
same_dot-is a b h = dot_ties a b (tie (dot_cmp a b) h)

pub same_place-is : (a b : Place) → eq_by_cmp place_cmp a b ≡ true → a ≡ b
same_place-is a b h = place_ties a b (tie (place_cmp a b) h)
