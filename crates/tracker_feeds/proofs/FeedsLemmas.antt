-- The feeds after each call, whether it was refused or not.
use Rattle.std.proofs.Common.{◌≡◌, ◌<◌, ℕ, ◌+◌, ◌^◌, cond, nat_eq, List, [], length, Option, Some, None, option_map, is_some, Result, Ok, Err, OnOk, OnErr, refl, sym, ◌∙◌, ap, subst, arith}
use Rattle.std.specs.Ordering.{nat_cmp}
use Rattle.std.specs.Map.{lookup}
use Rattle.std.specs.BTreeMap.{BTreeMap, get, is_at}
use Rattle.std.specs.declared.sync.Arc.{Arc}
use Rattle.presence_base.specs.Order.{text_cmp, same_text}
use Rattle.tracker_feeds.specs.Fed.{found, is_followed, newcomer, left_with, items_for, SameFed, IsChanged, IsDelivered}
use Rattle.tracker_feeds.specs.Rings.{RingMap, Seen, seen, seen_at, subscriber, fed, followers_in, AreHeld, IsSound, joined, pushed, IsPut, IsDropped, IsMoved, newcomer_on}
use Rattle.presence_journal.specs.declared.rows.Item.{Item}
use Rattle.tracker_feeds.specs.declared.followers.Follower.{Follower}
use Rattle.tracker_feeds.specs.declared.rings.Ring.{Ring}
use Rattle.tracker_feeds.proofs.PutLemmas.{at_number}
use Rattle.tracker_feeds.proofs.FedLemmas.{found_is, counted_all, ring_is, same_sound, same_fed, sound_joined, changed_joined, sound_dropped, changed_dropped, sound_moved, changed_moved, sound_pushed, delivered_pushed}

-- what the map of cursors finds
pub found_at : (r : List ℕ → Option Seen) (fs : List (ℕ × Follower)) (k n : ℕ) (o : Option Follower) → o ≡ lookup (is_at (nat_cmp n)) fs → option_map (subscriber r) o ≡ found (fed r fs k) n
found_at r fs k n o e = ap (option_map (subscriber r)) (e ∙ at_number n fs) ∙ sym (found_is r fs k n)

pub looked_at : (fs : List (ℕ × Follower)) (n : ℕ) (o : Option Follower) → o ≡ lookup (is_at (nat_cmp n)) fs → lookup (nat_eq n) fs ≡ o
looked_at fs n o e = sym (e ∙ at_number n fs)

none_found : (r : List ℕ → Option Seen) (o : Option Follower) → option_map (subscriber r) o ≡ None → o ≡ None
none_found r None e = refl
none_found r (Some f) e = absurd (cc)

pub nobody : (r : List ℕ → Option Seen) (fs : List (ℕ × Follower)) (k n : ℕ) → found (fed r fs k) n ≡ None → lookup (nat_eq n) fs ≡ None
nobody r fs k n e = none_found r (lookup (nat_eq n) fs) (sym (found_is r fs k n) ∙ e)

-- no subscribers
gone_at : (rings : RingMap) (t : List ℕ) → rings.entries ≡ [] → seen_at rings t ≡ None
gone_at rings t e = ap (λ (es : List (List ℕ × Ring)). option_map seen (lookup (is_at (text_cmp t)) es)) e

pub empty_sound : (rings : RingMap) (fs : List (ℕ × Follower)) → rings.entries ≡ [] → fs ≡ [] → IsSound (seen_at rings) fs 0
empty_sound rings fs none nobody = subst (λ gs. IsSound (seen_at rings) gs 0) (sym nobody) (record {
  held = λ t. subst (λ o. AreHeld o 0) (sym (gone_at rings t none)) tt;
  counted = λ t. ap followers_in (gone_at rings t none);
  reached = λ n f e. absurd (cc);
})

pub empty_fed : (rings : RingMap) (fs : List (ℕ × Follower)) → fs ≡ [] → fed (seen_at rings) fs 0 ≡ record { subscribers = []; delivered = 0 }
empty_fed rings fs nobody = λ i. fed (seen_at rings) (nobody i) 0

-- whether a topic has a ring
some_seen : (o : Option Ring) → is_some o ≡ is_some (option_map seen o)
some_seen None = refl
some_seen (Some r) = refl

pub ring_there : (rings : RingMap) (fs : List (ℕ × Follower)) (k : ℕ) (t : List ℕ) → IsSound (seen_at rings) fs k → is_some (get text_cmp rings t) ≡ is_followed (fed (seen_at rings) fs k) t
ring_there rings fs k t s = some_seen (get text_cmp rings t) ∙ ring_is (seen_at rings) fs k t s

pub few_at : (r : List ℕ → Option Seen) (fs : List (ℕ × Follower)) (k n : ℕ) (t : List ℕ) → IsSound r fs k → n ≡ length fs → n < 2 ^ 63 → followers_in (r t) < 2 ^ 63
few_at r fs k n t s is small = omega (arith, s.counted t, counted_all t fs, is, small)

-- a subscriber more, or a refusal
module _ {T E : Type 0} (r : List ℕ → Option Seen) (q : List ℕ → Option Seen) (fs gs : List (ℕ × Follower)) (k n : ℕ) (t : List ℕ) where
  pub sound_added : (x : Result T E) → lookup (nat_eq n) fs ≡ None → OnOk x ((u : List ℕ) → q u ≡ cond (same_text t u) (joined (r u)) (r u)) → OnErr x ((u : List ℕ) → q u ≡ r u) → OnOk x (IsPut fs gs n (Some (newcomer_on t))) → OnErr x (gs ≡ fs) → IsSound r fs k → IsSound q gs k
  sound_added (Ok x) absent joins same put kept s = sound_joined r q fs gs k n t absent put joins s
  sound_added (Err e) absent joins same put kept s = same_sound r q fs gs k same kept s

  pub changed_added : (x : Result T E) → OnOk x ((u : List ℕ) → q u ≡ cond (same_text t u) (joined (r u)) (r u)) → OnOk x (IsPut fs gs n (Some (newcomer_on t))) → IsSound r fs k → OnOk x (IsChanged (fed r fs k) (fed q gs k) n (Some (newcomer t)))
  changed_added (Ok x) joins put s = changed_joined r q fs gs k n t put joins s
  changed_added (Err e) joins put s = tt

  pub same_refused : (x : Result T E) → OnErr x ((u : List ℕ) → q u ≡ r u) → OnErr x (gs ≡ fs) → OnErr x (SameFed (fed r fs k) (fed q gs k))
  same_refused (Ok x) same kept = tt
  same_refused (Err e) same kept = same_fed r q fs gs k same kept

-- by the map of cursors

pub sound_out : (r q : List ℕ → Option Seen) (m : BTreeMap ℕ Follower) (gs : List (ℕ × Follower)) (k n : ℕ) → IsDropped r q (get nat_cmp m n) → IsPut m.entries gs n None → IsSound r m.entries k → IsSound q gs k
sound_out r q m gs k n dropped put s = sound_dropped r q m.entries gs k n (subst (IsDropped r q) (at_number n m.entries) dropped) put s

pub changed_out : (r q : List ℕ → Option Seen) (m : BTreeMap ℕ Follower) (gs : List (ℕ × Follower)) (k n : ℕ) → IsDropped r q (get nat_cmp m n) → IsPut m.entries gs n None → IsSound r m.entries k → IsChanged (fed r m.entries k) (fed q gs k) n None
changed_out r q m gs k n dropped put s = changed_dropped r q m.entries gs k n (subst (IsDropped r q) (at_number n m.entries) dropped) put s

pub sound_taken : (r : List ℕ → Option Seen) (m : BTreeMap ℕ Follower) (gs : List (ℕ × Follower)) (k n max : ℕ) → IsMoved r m.entries gs n max (get nat_cmp m n) → IsSound r m.entries k → IsSound r gs k
sound_taken r m gs k n max moved s = sound_moved r m.entries gs k n max (subst (IsMoved r m.entries gs n max) (at_number n m.entries) moved) s

pub changed_taken : (r : List ℕ → Option Seen) (m : BTreeMap ℕ Follower) (gs : List (ℕ × Follower)) (k n max : ℕ) → IsMoved r m.entries gs n max (get nat_cmp m n) → IsChanged (fed r m.entries k) (fed r gs k) n (option_map (left_with max) (found (fed r m.entries k) n))
changed_taken r m gs k n max moved = changed_moved r m.entries gs k n max (subst (IsMoved r m.entries gs n max) (at_number n m.entries) moved)

-- a delivery

pub sound_delivered : {A : Type 0} (r p q : List ℕ → Option Seen) (fs : List (ℕ × Follower)) (k : ℕ) (made : BTreeMap (List ℕ) (Arc Item A)) → ((u : List ℕ) → p u ≡ r u) → ((u : List ℕ) → q u ≡ pushed (p u) (items_for made u)) → IsSound r fs k → IsSound q fs (k + 1)
sound_delivered {A} r p q fs k made same push s = sound_pushed r q fs k (λ u. option_map (λ (i : Arc Item A). i.value) (get text_cmp made u)) (λ u. push u ∙ ap (λ o. pushed o (items_for made u)) (same u)) s

pub is_delivered : {A : Type 0} (r p q : List ℕ → Option Seen) (fs : List (ℕ × Follower)) (k : ℕ) (made : BTreeMap (List ℕ) (Arc Item A)) → ((u : List ℕ) → p u ≡ r u) → ((u : List ℕ) → q u ≡ pushed (p u) (items_for made u)) → IsSound r fs k → IsDelivered (fed r fs k) (fed q fs (k + 1)) (items_for made)
is_delivered {A} r p q fs k made same push s = delivered_pushed r q fs k (λ u. option_map (λ (i : Arc Item A). i.value) (get text_cmp made u)) (λ u. push u ∙ ap (λ o. pushed o (items_for made u)) (same u)) s
