-- Rooms for many items, and many items put on their topics.
use Rattle.std.proofs.Common.{◌≡◌, ◌<◌, ℕ, Bool, true, false, cond, List, [], ◌∷◌, length, Option, Some, None, option_map, option_to_list, is_some, refl, sym, ◌∙◌, ap, subst, arith}
use Rattle.std.specs.Map.{lookup}
use Rattle.std.specs.BTreeMap.{BTreeMap, get, is_at}
use Rattle.std.specs.declared.sync.Arc.{Arc}
use Rattle.std.proofs.lemmas.Bool.{both_ways}
use Rattle.presence_base.specs.Order.{text_cmp, same_text}
use Rattle.presence_journal.proofs.Same.{same_text-true}
use Rattle.presence_journal.specs.declared.rows.Item.{Item}
use Rattle.tracker_feeds.specs.Fed.{items_for}
use Rattle.tracker_feeds.specs.Rings.{RingMap, Seen, seen_at, pushed, RoomAt, IsPushed}

-- room for each item that is no longer ahead
pub room_begun : {X : Type 0} (made rest : List (List ℕ × X)) (rings : RingMap) → rest ≡ made → (t : List ℕ) → is_some (lookup (is_at (text_cmp t)) made) ≡ true → is_some (lookup (is_at (text_cmp t)) rest) ≡ false → RoomAt (get text_cmp rings t)
room_begun made rest rings all t there ahead = absurd (both_ways (is_some (lookup (is_at (text_cmp t)) rest)) ahead (ap (λ es. is_some (lookup (is_at (text_cmp t)) es)) all ∙ there))

pub room_more : {X : Type 0} (made : Option X) (now rest : List (List ℕ × X)) (k : List ℕ) (v : X) (rings new : RingMap) (t : List ℕ) → now ≡ (k, v) ∷ rest → (is_some made ≡ true → is_some (lookup (is_at (text_cmp t)) now) ≡ false → RoomAt (get text_cmp rings t)) → (RoomAt (get text_cmp rings t) → RoomAt (get text_cmp new t)) → RoomAt (get text_cmp new k) → is_some made ≡ true → is_some (lookup (is_at (text_cmp t)) rest) ≡ false → RoomAt (get text_cmp new t)
room_more made now rest k v rings new t is before kept here there ahead = go (same_text t k) refl
  where
    go : (b : Bool) → same_text t k ≡ b → RoomAt (get text_cmp new t)
    go true e = subst (λ u. RoomAt (get text_cmp new u)) (sym (same_text-true t k e)) here
    go false e = kept (before there (ap (λ es. is_some (lookup (is_at (text_cmp t)) es)) is ∙ (ap (λ b. is_some (cond b (Some v) (lookup (is_at (text_cmp t)) rest))) e ∙ ahead)))

pub room_done : {X : Type 0} (rest : List (List ℕ × X)) (t : List ℕ) → rest ≡ [] → is_some (lookup (is_at (text_cmp t)) rest) ≡ false
room_done rest t none = ap (λ es. is_some (lookup (is_at (text_cmp t)) es)) none

-- nothing to push leaves a ring as it is
pub pushed_none : (o : Option Seen) → pushed o [] ≡ o
pushed_none None = refl
pushed_none (Some s) = refl

module _ {A : Type 0} where
  pub pushed_more : (rings new first : RingMap) (made rest all : BTreeMap (List ℕ) (Arc Item A)) (k : List ℕ) (i : Arc Item A) → get text_cmp made k ≡ Some i → ((q : List ℕ) → get text_cmp rest q ≡ cond (same_text k q) None (get text_cmp made q)) → IsPushed rings new k i.value → ((t : List ℕ) → pushed (seen_at rings t) (items_for made t) ≡ pushed (seen_at first t) (items_for all t)) → (t : List ℕ) → pushed (seen_at new t) (items_for rest t) ≡ pushed (seen_at first t) (items_for all t)
  pushed_more rings new first made rest all k i here out put before t = (λ j. pushed (put t j) (option_to_list (option_map (λ (x : Arc Item A). x.value) (out t j)))) ∙ (go (same_text k t) refl ∙ before t)
    where
      go : (b : Bool) → same_text k t ≡ b → pushed (cond b (pushed (seen_at rings t) (i.value ∷ [])) (seen_at rings t)) (option_to_list (option_map (λ (x : Arc Item A). x.value) (cond b None (get text_cmp made t)))) ≡ pushed (seen_at rings t) (items_for made t)
      go true e = pushed_none (pushed (seen_at rings t) (i.value ∷ [])) ∙ ap (λ o. pushed (seen_at rings t) (option_to_list (option_map (λ (x : Arc Item A). x.value) o))) (sym here ∙ ap (get text_cmp made) (same_text-true k t e))
      go false e = refl

  -- what is still to be pushed is on other topics
  pub others_kept : (P : List ℕ → RingMap → Type 0) (rings new : RingMap) (made rest : BTreeMap (List ℕ) (Arc Item A)) (k : List ℕ) → ((q : List ℕ) → get text_cmp rest q ≡ cond (same_text k q) None (get text_cmp made q)) → ((u : List ℕ) → same_text k u ≡ false → P u rings → P u new) → ((u : List ℕ) → is_some (get text_cmp made u) ≡ true → P u rings) → (t : List ℕ) → is_some (get text_cmp rest t) ≡ true → P t new
  others_kept P rings new made rest k out kept before t there = go (same_text k t) refl (ap is_some (sym (out t)) ∙ there)
    where
      go : (b : Bool) → same_text k t ≡ b → is_some (cond b None (get text_cmp made t)) ≡ true → P t new
      go true e f = absurd (cc)
      go false e f = kept t e (before t f)

  pub there_of : (made : BTreeMap (List ℕ) (Arc Item A)) (k : List ℕ) (i : Arc Item A) → get text_cmp made k ≡ Some i → is_some (get text_cmp made k) ≡ true
  there_of made k i e = ap is_some e

  pub pushed_all : (rings first : RingMap) (made all : BTreeMap (List ℕ) (Arc Item A)) → made.entries ≡ [] → ((t : List ℕ) → pushed (seen_at rings t) (items_for made t) ≡ pushed (seen_at first t) (items_for all t)) → (t : List ℕ) → seen_at rings t ≡ pushed (seen_at first t) (items_for all t)
  pushed_all rings first made all none before t = sym (pushed_none (seen_at rings t)) ∙ (ap (λ (es : List (List ℕ × Arc Item A)). pushed (seen_at rings t) (option_to_list (option_map (λ (x : Arc Item A). x.value) (lookup (is_at (text_cmp t)) es)))) (sym none) ∙ before t)

pub no_entries : {X : Type 0} (xs : List X) → ((0 < length xs) → ⊥) → xs ≡ []
no_entries [] f = refl
no_entries (x ∷ xs) f = absurd (f (omega arith))
