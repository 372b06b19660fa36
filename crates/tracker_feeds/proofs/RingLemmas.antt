-- The map of rings, where one ring is written, put in or taken out.
use Rattle.std.proofs.Common.{◌≡◌, ◌<◌, ℕ, ◌+◌, ◌^◌, Bool, true, false, cond, ◌&&◌, nat_lt, List, [], ◌∷◌, ◌++◌, length, take, drop, get_or, Option, Some, None, option_map, IsSome, Result, Ok, Err, OnOk, OnErr, refl, sym, ◌∙◌, ap, subst, arith}
use Rattle.std.specs.Map.{lookup}
use Rattle.std.specs.BTreeMap.{get, is_at, WritesThrough}
use Rattle.std.specs.declared.sync.Arc.{Arc}
use Rattle.std.proofs.lemmas.List.{map-append, drop-map, length-map, length-drop, take_more, get_or-drop, get_or-map}
use Rattle.presence_base.specs.Order.{text_cmp, same_text}
use Rattle.presence_journal.proofs.Same.{same_text-true, same_text-refl}
use Rattle.presence_journal.specs.declared.rows.Item.{Item}
use Rattle.presence_journal.specs.Queue.{most_waiting}
use Rattle.tracker_feeds.specs.Rings.{RingMap, Seen, seen, seen_at, values, followers_in, first, joined, parted, newest, HasRoom, RoomAt, IsBelow, IsRingChanged, IsParted, SameRings}
use Rattle.tracker_feeds.specs.declared.rings.Ring.{Ring}

found_ring : (m : RingMap) (t : List ℕ) (r : Ring) → get text_cmp m t ≡ Some r → IsSome (get text_cmp m t)
found_ring m t r e = rw e refl

-- a ring that is written

pub written : (m n : RingMap) (t : List ℕ) (old new : Ring) → get text_cmp m t ≡ Some old → WritesThrough text_cmp (text_cmp t) m new n → (u : List ℕ) → get text_cmp n u ≡ cond (same_text t u) (Some new) (get text_cmp m u)
written m n t old new was through u = (through.3 (found_ring m t old was)).0 u

pub ring_changed : (f : Option Seen → Option Seen) (m n : RingMap) (t : List ℕ) (old new : Ring) → get text_cmp m t ≡ Some old → WritesThrough text_cmp (text_cmp t) m new n → Some (seen new) ≡ f (Some (seen old)) → IsRingChanged m n t f
ring_changed f m n t old new was through one u = ap (option_map seen) (written m n t old new was through u) ∙ go (same_text t u) refl
  where
    go : (b : Bool) → same_text t u ≡ b → option_map seen (cond b (Some new) (get text_cmp m u)) ≡ cond b (f (seen_at m u)) (seen_at m u)
    go true e = one ∙ ap (λ o. f (option_map seen o)) (sym was ∙ ap (get text_cmp m) (same_text-true t u e))
    go false e = refl

pub ring_kept : (m n : RingMap) (t : List ℕ) (old new : Ring) → get text_cmp m t ≡ Some old → WritesThrough text_cmp (text_cmp t) m new n → seen new ≡ seen old → SameRings m n
ring_kept m n t old new was through same u = ap (option_map seen) (written m n t old new was through u) ∙ go (same_text t u) refl
  where
    go : (b : Bool) → same_text t u ≡ b → option_map seen (cond b (Some new) (get text_cmp m u)) ≡ seen_at m u
    go true e = ap Some same ∙ ap (option_map seen) (sym was ∙ ap (get text_cmp m) (same_text-true t u e))
    go false e = refl

pub room_kept : (m n : RingMap) (t : List ℕ) (old new : Ring) → get text_cmp m t ≡ Some old → WritesThrough text_cmp (text_cmp t) m new n → (HasRoom old → HasRoom new) → (u : List ℕ) → RoomAt (get text_cmp m u) → RoomAt (get text_cmp n u)
room_kept m n t old new was through kept u r = subst RoomAt (sym (written m n t old new was through u)) (go (same_text t u) refl)
  where
    go : (b : Bool) → same_text t u ≡ b → RoomAt (cond b (Some new) (get text_cmp m u))
    go true e = kept (subst RoomAt (sym (ap (get text_cmp m) (same_text-true t u e)) ∙ was) r)
    go false e = r

pub room_here : (m n : RingMap) (t : List ℕ) (old new : Ring) → get text_cmp m t ≡ Some old → WritesThrough text_cmp (text_cmp t) m new n → HasRoom new → RoomAt (get text_cmp n t)
room_here m n t old new was through room = subst RoomAt (sym (written m n t old new was through t ∙ ap (λ b. cond b (Some new) (get text_cmp m t)) (same_text-refl t))) room

pub room_of : (o : Option Ring) (r : Ring) → o ≡ Some r → RoomAt o → HasRoom r
room_of o r e room = subst RoomAt e room

pub few_of : (o : Option Ring) (r : Ring) → o ≡ Some r → followers_in (option_map seen o) < 2 ^ 63 → r.followers < 2 ^ 63
few_of o r e few = subst (λ p. followers_in (option_map seen p) < 2 ^ 63) e few

pub below_of : (o : Option Ring) (r : Ring) → o ≡ Some r → IsBelow (option_map seen o) → r.made < 2 ^ 63
below_of o r e below = subst (λ p. IsBelow (option_map seen p)) e below

pub parted_at : (m n : RingMap) (t : List ℕ) (old new : Ring) (last : Bool) → get text_cmp m t ≡ Some old → WritesThrough text_cmp (text_cmp t) m new n → cond last None (Some (seen new)) ≡ parted (Some (seen old)) → IsParted m n t last
parted_at m n t old new last was through one u = ap (λ o. cond (last && same_text t u) None (option_map seen o)) (written m n t old new was through u) ∙ go last (same_text t u) refl one
  where
    go : (a b : Bool) → same_text t u ≡ b → cond a None (Some (seen new)) ≡ parted (Some (seen old)) → cond (a && b) None (option_map seen (cond b (Some new) (get text_cmp m u))) ≡ cond b (parted (seen_at m u)) (seen_at m u)
    go true true e p = p ∙ ap (λ o. parted (option_map seen o)) (sym was ∙ ap (get text_cmp m) (same_text-true t u e))
    go false true e p = p ∙ ap (λ o. parted (option_map seen o)) (sym was ∙ ap (get text_cmp m) (same_text-true t u e))
    go true false e p = refl
    go false false e p = refl

-- where no ring is

pub ring_absent : (f : Option Seen → Option Seen) (m n : RingMap) (t : List ℕ) → n ≡ m → get text_cmp m t ≡ None → f None ≡ None → IsRingChanged m n t f
ring_absent f m n t same none stays u = ap (λ x. seen_at x u) same ∙ go (same_text t u) refl
  where
    go : (b : Bool) → same_text t u ≡ b → seen_at m u ≡ cond b (f (seen_at m u)) (seen_at m u)
    go true e = let gone : seen_at m u ≡ None = ap (λ v. seen_at m v) (sym (same_text-true t u e)) ∙ ap (option_map seen) none in gone ∙ (sym stays ∙ ap f (sym gone))
    go false e = refl

pub parted_absent : (m n : RingMap) (t : List ℕ) → n ≡ m → get text_cmp m t ≡ None → IsParted m n t false
parted_absent m n t same none u = ring_absent parted m n t same none refl u

pub rings_same : (m n : RingMap) → n.entries ≡ m.entries → SameRings m n
rings_same m n e u = ap (λ (es : List (List ℕ × Ring)). option_map seen (lookup (is_at (text_cmp u)) es)) e

pub room_same : (m n : RingMap) → n ≡ m → (u : List ℕ) → RoomAt (get text_cmp m u) → RoomAt (get text_cmp n u)
room_same m n e u r = subst (λ (x : RingMap). RoomAt (get text_cmp x u)) (sym e) r

-- a ring that is put in, or taken out

pub ring_inserted : (f : Option Seen → Option Seen) (m n : RingMap) (t : List ℕ) (r : Ring) → get text_cmp m t ≡ None → ((u : List ℕ) → get text_cmp n u ≡ cond (same_text t u) (Some r) (get text_cmp m u)) → Some (seen r) ≡ f None → IsRingChanged m n t f
ring_inserted f m n t r none put one u = ap (option_map seen) (put u) ∙ go (same_text t u) refl
  where
    go : (b : Bool) → same_text t u ≡ b → option_map seen (cond b (Some r) (get text_cmp m u)) ≡ cond b (f (seen_at m u)) (seen_at m u)
    go true e = one ∙ ap (λ o. f (option_map seen o)) (sym none ∙ ap (get text_cmp m) (same_text-true t u e))
    go false e = refl

pub ring_begun : (m mid n : RingMap) (t k : List ℕ) (r : Ring) → mid ≡ m → k ≡ t → get text_cmp m t ≡ None → ((u : List ℕ) → get text_cmp n u ≡ cond (same_text k u) (Some r) (get text_cmp mid u)) → seen r ≡ first → IsRingChanged m n t joined
ring_begun m mid n t k r same key none put is =
    ring_inserted joined m n t r none (λ u. put u ∙ (λ i. cond (same_text (key i) u) (Some r) (get text_cmp (same i) u))) (ap Some is)

pub ring_removed : (m mid n : RingMap) (t : List ℕ) (last : Bool) → IsParted m mid t last → last ≡ true → ((u : List ℕ) → get text_cmp n u ≡ cond (same_text t u) None (get text_cmp mid u)) → IsRingChanged m n t parted
ring_removed m mid n t last gone is out u = ap (option_map seen) (out u) ∙ (go (same_text t u) ∙ (ap (λ b. cond (b && same_text t u) None (seen_at mid u)) (sym is) ∙ gone u))
  where
    go : (b : Bool) → option_map seen (cond b None (get text_cmp mid u)) ≡ cond (true && b) None (seen_at mid u)
    go true = refl
    go false = refl

pub ring_stays : (m n : RingMap) (t : List ℕ) (last : Bool) → IsParted m n t last → last ≡ false → IsRingChanged m n t parted
ring_stays m n t last gone is u = ap (λ b. cond (b && same_text t u) None (seen_at n u)) (sym is) ∙ gone u

-- two changes after one another
pub undone : (m mid n : RingMap) (t : List ℕ) → ((u : List ℕ) → parted (joined (seen_at m u)) ≡ seen_at m u) → IsRingChanged m mid t joined → IsRingChanged mid n t parted → SameRings m n
undone m mid n t back first then u = then u ∙ (ap (λ o. cond (same_text t u) (parted o) o) (first u) ∙ go (same_text t u))
  where
    go : (b : Bool) → cond b (parted (cond b (joined (seen_at m u)) (seen_at m u))) (cond b (joined (seen_at m u)) (seen_at m u)) ≡ seen_at m u
    go true = back u
    go false = refl

-- the items of a ring

cut_values : {A : Type 0} (xs : List (Arc Item A)) (b : Bool) → values (cond b xs (drop 1 xs)) ≡ cond b (values xs) (drop 1 (values xs))
cut_values xs true = refl
cut_values {A} xs false = sym (drop-map (λ (i : Arc Item A). i.value) 1 xs)

pub newest_pushed : {A : Type 0} (xs ys zs : List (Arc Item A)) (i : Arc Item A) → ys ≡ cond (nat_lt (length xs) most_waiting) xs (drop 1 xs) → zs ≡ ys ++ i ∷ [] → values zs ≡ newest (values xs) i.value
newest_pushed {A} xs ys zs i cut is =
    ap values (is ∙ ap (λ (ws : List (Arc Item A)). ws ++ i ∷ []) cut)
    ∙ (map-append (λ (j : Arc Item A). j.value) (cond (nat_lt (length xs) most_waiting) xs (drop 1 xs)) (i ∷ [])
    ∙ ap (λ (vs : List Item). vs ++ i.value ∷ []) (cut_values xs (nat_lt (length xs) most_waiting) ∙ ap (λ n. cond (nat_lt n most_waiting) (values xs) (drop 1 (values xs))) (sym (length-map xs (λ (j : Arc Item A). j.value)))))

pub length_values : {A : Type 0} (xs : List (Arc Item A)) → length (values xs) ≡ length xs
length_values {A} xs = length-map xs (λ (i : Arc Item A). i.value)

pub shared_more : {A : Type 0} (xs ys zs : List (Arc Item A)) (from i : ℕ) (x y : Arc Item A) → from + i < length xs → y ≡ get_or xs (from + i) y → x.value ≡ y.value → values ys ≡ take i (drop from (values xs)) → zs ≡ ys ++ x ∷ [] → values zs ≡ take (i + 1) (drop from (values xs))
shared_more {A} xs ys zs from i x y low here same before is =
    ap values is
    ∙ (map-append (λ (j : Arc Item A). j.value) ys (x ∷ [])
    ∙ ((λ k. before k ++ item k ∷ [])
    ∙ sym (take_more (drop from (values xs)) i y.value (omega (arith, length-drop from (values xs), length-map xs (λ (j : Arc Item A). j.value))))))
  where
    item : x.value ≡ get_or (drop from (values xs)) i y.value
    item = same ∙ (ap (λ (j : Arc Item A). j.value) here ∙ (sym (get_or-map (λ (j : Arc Item A). j.value) xs (from + i) y y.value low) ∙ sym (get_or-drop from (values xs) i y.value)))

pub on_ok : {T E : Type 0} {P Q : Type 0} (r : Result T E) → (P → Q) → OnOk r P → OnOk r Q
on_ok (Ok x) f h = f h
on_ok (Err e) f h = tt

pub on_err : {T E : Type 0} {P : Type 0} (r : Result T E) → P → OnErr r P
on_err (Ok x) h = tt
on_err (Err e) h = h
