-- What is seen of rings and cursors together, and that they stay sound.
use Rattle.std.proofs.Common.{◌≡◌, ◌≤◌, ◌<◌, ℕ, suc, ◌+◌, Bool, true, false, cond, ◌||◌, nat_eq, nat_lt, List, [], ◌∷◌, length, Option, Some, None, option_map, option_to_list, is_some, refl, sym, ◌∙◌, ap, subst, arith}
use Rattle.std.specs.Map.{lookup, values_of}
use Rattle.std.proofs.lemmas.Bool.{eqb-true, lt-ltb}
use Rattle.std.proofs.lemmas.List.Sums.{sum_by-cons}
use Rattle.std.proofs.lemmas.Map.Made.{lookup-map_values}
use Rattle.std.proofs.lemmas.Option.{same_Some}
use Rattle.presence_base.specs.Order.{same_text}
use Rattle.presence_journal.proofs.Same.{same_text-refl}
use Rattle.presence_journal.specs.declared.rows.Item.{Item}
use Rattle.presence_journal.specs.Queue.{Waiting}
use Rattle.tracker_feeds.specs.Fed.{on_topic, found, is_followed, newcomer, left_with, with_more, SameFed, IsChanged, IsDelivered}
use Rattle.tracker_feeds.specs.Rings.{Seen, waiting, subscriber, fed, one_on, ones_on, followers_on, followers_in, AreHeld, IsReached, IsSound, joined, parted, pushed, IsPut, IsDropped, CanTake, IsMoved, newcomer_on, moved_to}
use Rattle.tracker_feeds.specs.declared.followers.Follower.{Follower}
use Rattle.tracker_feeds.proofs.CursorLemmas.{waits_pushed, held_pushed, reached_pushed, followers_pushed, newest_held, waits_joined, reached_joined, held_joined, followers_joined, begins_joined, waits_begun, waits_parted, reached_parted, held_parted, followers_parted}

pub found_is : (r : List ℕ → Option Seen) (fs : List (ℕ × Follower)) (k n : ℕ) → found (fed r fs k) n ≡ option_map (subscriber r) (lookup (nat_eq n) fs)
found_is r fs k n = lookup-map_values (subscriber r) (nat_eq n) fs

-- who is found is counted
pub counted_one : (u : List ℕ) (test : ℕ → Bool) (fs : List (ℕ × Follower)) → ones_on u (lookup test fs) ≤ followers_on u fs
counted_one u test [] = omega arith
counted_one u test (e ∷ fs) = go (test e.0) (counted_one u test fs)
  where
    go : (b : Bool) → ones_on u (lookup test fs) ≤ followers_on u fs → ones_on u (cond b (Some e.1) (lookup test fs)) ≤ followers_on u (e ∷ fs)
    go true l = omega (arith, sum_by-cons (one_on u) e.1 (values_of fs))
    go false l = omega (arith, sum_by-cons (one_on u) e.1 (values_of fs), l)

pub one_here : (f : Follower) → one_on f.topic f ≡ 1
one_here f = ap (λ b. cond b 1 0) (same_text-refl f.topic)

one_at : (u : List ℕ) (f : Follower) → same_text f.topic u ≡ true → one_on u f ≡ 1
one_at u f e = ap (λ b. cond b 1 0) e

none_at : (u : List ℕ) (f : Follower) → same_text f.topic u ≡ false → one_on u f ≡ 0
none_at u f e = ap (λ b. cond b 1 0) e

counted_at : (u : List ℕ) (fs : List (ℕ × Follower)) (n : ℕ) (f : Follower) → lookup (nat_eq n) fs ≡ Some f → one_on u f ≤ followers_on u fs
counted_at u fs n f is = subst (λ o. ones_on u o ≤ followers_on u fs) is (counted_one u (nat_eq n) fs)

-- no more are counted than there are
pub counted_all : (u : List ℕ) (fs : List (ℕ × Follower)) → followers_on u fs ≤ length fs
counted_all u [] = omega arith
counted_all u (e ∷ fs) = go (same_text e.1.topic u) refl (counted_all u fs)
  where
    go : (b : Bool) → same_text e.1.topic u ≡ b → followers_on u fs ≤ length fs → followers_on u (e ∷ fs) ≤ suc (length fs)
    go true q l = omega (arith, sum_by-cons (one_on u) e.1 (values_of fs), one_at u e.1 q, l)
    go false q l = omega (arith, sum_by-cons (one_on u) e.1 (values_of fs), none_at u e.1 q, l)

-- whether a topic is followed

pub followed_is : (r : List ℕ → Option Seen) (t : List ℕ) (fs : List (ℕ × Follower)) (k : ℕ) → is_followed (fed r fs k) t ≡ nat_lt 0 (followers_on t fs)
followed_is r t [] k = refl
followed_is r t (e ∷ fs) k = go (same_text e.1.topic t) refl (followed_is r t fs k)
  where
    go : (b : Bool) → same_text e.1.topic t ≡ b → is_followed (fed r fs k) t ≡ nat_lt 0 (followers_on t fs) → (b || is_followed (fed r fs k) t) ≡ nat_lt 0 (followers_on t (e ∷ fs))
    go true q rest = sym (lt-ltb 0 (followers_on t (e ∷ fs)) (omega (arith, sum_by-cons (one_on t) e.1 (values_of fs), one_at t e.1 q)))
    go false q rest = rest ∙ ap (nat_lt 0) (let z : followers_on t fs ≡ followers_on t (e ∷ fs) = omega (arith, sum_by-cons (one_on t) e.1 (values_of fs), none_at t e.1 q) in z)

there_is : (o : Option Seen) (k : ℕ) → AreHeld o k → is_some o ≡ nat_lt 0 (followers_in o)
there_is None k h = refl
there_is (Some s) k h = sym (lt-ltb 0 s.followers h.followers)

pub ring_is : (r : List ℕ → Option Seen) (fs : List (ℕ × Follower)) (k : ℕ) (t : List ℕ) → IsSound r fs k → is_some (r t) ≡ is_followed (fed r fs k) t
ring_is r fs k t s = there_is (r t) k (s.held t) ∙ (ap (nat_lt 0) (s.counted t) ∙ sym (followed_is r t fs k))

-- nothing that is seen changes

pub same_sound : (r q : List ℕ → Option Seen) (fs gs : List (ℕ × Follower)) (k : ℕ) → ((t : List ℕ) → q t ≡ r t) → gs ≡ fs → IsSound r fs k → IsSound q gs k
same_sound r q fs gs k same is s = subst (λ hs. IsSound q hs k) (sym is) (record {
  held = λ t. subst (λ o. AreHeld o k) (sym (same t)) (s.held t);
  counted = λ t. ap followers_in (same t) ∙ s.counted t;
  reached = λ n f e. subst (λ o. IsReached o f.next) (sym (same f.topic)) (s.reached n f e);
})

pub same_fed : (r q : List ℕ → Option Seen) (fs gs : List (ℕ × Follower)) (k : ℕ) → ((t : List ℕ) → q t ≡ r t) → gs ≡ fs → SameFed (fed r fs k) (fed q gs k)
same_fed r q fs gs k same is = record { subscribers = λ n. (λ i. found (fed (λ t. same t i) (is i) k) n); delivered = refl }

-- a cursor that is found, where one changes
found_in : (fs gs : List (ℕ × Follower)) (n m : ℕ) (w : Option Follower) (g : Follower) → IsPut fs gs n w → lookup (nat_eq m) gs ≡ Some g → cond (nat_eq n m) w (lookup (nat_eq m) fs) ≡ Some g
found_in fs gs n m w g put is = sym (put.lookups m) ∙ is

-- a subscriber more

pub sound_joined : (r q : List ℕ → Option Seen) (fs gs : List (ℕ × Follower)) (k n : ℕ) (t : List ℕ) → lookup (nat_eq n) fs ≡ None → IsPut fs gs n (Some (newcomer_on t)) → ((u : List ℕ) → q u ≡ cond (same_text t u) (joined (r u)) (r u)) → IsSound r fs k → IsSound q gs k
sound_joined r q fs gs k n t absent put change s = record { held = held; counted = counted; reached = reached }
  where
    f : Follower
    f = newcomer_on t

    held : (u : List ℕ) → AreHeld (q u) k
    held u = subst (λ o. AreHeld o k) (sym (change u)) (go (same_text t u))
      where
        go : (b : Bool) → AreHeld (cond b (joined (r u)) (r u)) k
        go true = held_joined (r u) k (s.held u)
        go false = s.held u

    counts : (u : List ℕ) → followers_on u gs ≡ followers_on u fs + one_on u (newcomer_on t)
    counts u = let e : followers_on u gs + 0 ≡ followers_on u fs + one_on u f = ap (λ o. followers_on u gs + ones_on u o) (sym absent) ∙ put.counts u in omega (arith, e)

    counted : (u : List ℕ) → followers_in (q u) ≡ followers_on u gs
    counted u = ap followers_in (change u) ∙ go (same_text t u) refl
      where
        go : (b : Bool) → same_text t u ≡ b → followers_in (cond b (joined (r u)) (r u)) ≡ followers_on u gs
        go true e = followers_joined (r u) ∙ omega (arith, s.counted u, counts u, one_at u f e)
        go false e = s.counted u ∙ omega (arith, counts u, none_at u f e)

    kept : (g : Follower) → IsReached (r g.topic) g.next → IsReached (q g.topic) g.next
    kept g l = subst (λ o. IsReached o g.next) (sym (change g.topic)) (go (same_text t g.topic))
      where
        go : (b : Bool) → IsReached (cond b (joined (r g.topic)) (r g.topic)) g.next
        go true = reached_joined (r g.topic) g.next l
        go false = l

    here : IsReached (q t) None
    here = subst (λ o. IsReached o None) (sym (change t ∙ ap (λ b. cond b (joined (r t)) (r t)) (same_text-refl t))) (begins_joined (r t))

    reached : (m : ℕ) (g : Follower) → lookup (nat_eq m) gs ≡ Some g → IsReached (q g.topic) g.next
    reached m g is = go (nat_eq n m) (found_in fs gs n m _ g put is)
      where
        go : (b : Bool) → cond b (Some f) (lookup (nat_eq m) fs) ≡ Some g → IsReached (q g.topic) g.next
        go true e = subst (λ (h : Follower). IsReached (q h.topic) h.next) (same_Some f g e) here
        go false e = kept g (s.reached m g e)

pub changed_joined : (r q : List ℕ → Option Seen) (fs gs : List (ℕ × Follower)) (k n : ℕ) (t : List ℕ) → IsPut fs gs n (Some (newcomer_on t)) → ((u : List ℕ) → q u ≡ cond (same_text t u) (joined (r u)) (r u)) → IsSound r fs k → IsChanged (fed r fs k) (fed q gs k) n (Some (newcomer t))
changed_joined r q fs gs k n t put change s = record { subscribers = λ m. found_is q gs k m ∙ (ap (option_map (subscriber q)) (put.lookups m) ∙ (go m (nat_eq n m) ∙ ap (cond (nat_eq n m) (Some (newcomer t))) (sym (found_is r fs k m)))); delivered = refl }
  where
    waits : (g : Follower) → IsReached (r g.topic) g.next → waiting (q g.topic) g.next ≡ waiting (r g.topic) g.next
    waits g l = ap (λ o. waiting o g.next) (change g.topic) ∙ go (same_text t g.topic)
      where
        go : (b : Bool) → waiting (cond b (joined (r g.topic)) (r g.topic)) g.next ≡ waiting (r g.topic) g.next
        go true = waits_joined (r g.topic) g.next l
        go false = refl

    other : (o : Option Follower) → ((g : Follower) → o ≡ Some g → IsReached (r g.topic) g.next) → option_map (subscriber q) o ≡ option_map (subscriber r) o
    other None l = refl
    other (Some g) l = ap (λ (w : Waiting). Some (on_topic g.topic w)) (waits g (l g refl))

    go : (m : ℕ) (b : Bool) → option_map (subscriber q) (cond b (Some (newcomer_on t)) (lookup (nat_eq m) fs)) ≡ cond b (Some (newcomer t)) (option_map (subscriber r) (lookup (nat_eq m) fs))
    go m true = ap (λ (w : Waiting). Some (on_topic t w)) (waits_begun (q t))
    go m false = other (lookup (nat_eq m) fs) (s.reached m)

-- a subscriber fewer

-- what stays on the topic of one who goes has another
others_stay : (r : List ℕ → Option Seen) (fs gs : List (ℕ × Follower)) (k n m : ℕ) (f g : Follower) → lookup (nat_eq n) fs ≡ Some f → IsPut fs gs n None → IsSound r fs k → lookup (nat_eq m) gs ≡ Some g → same_text f.topic g.topic ≡ true → 1 < followers_in (r g.topic)
others_stay r fs gs k n m f g is put s there same =
    let e : followers_on g.topic gs + one_on g.topic f ≡ followers_on g.topic fs + 0 = ap (λ o. followers_on g.topic gs + ones_on g.topic o) (sym is) ∙ put.counts g.topic in
    omega (arith, e, one_at g.topic f same, counted_at g.topic gs m g there, one_here g, s.counted g.topic)

stays : (fs gs : List (ℕ × Follower)) (n m : ℕ) (g : Follower) → IsPut fs gs n None → lookup (nat_eq m) gs ≡ Some g → lookup (nat_eq m) fs ≡ Some g
stays fs gs n m g put is = go (nat_eq n m) (found_in fs gs n m None g put is)
  where
    go : (b : Bool) → cond b None (lookup (nat_eq m) fs) ≡ Some g → lookup (nat_eq m) fs ≡ Some g
    go true e = absurd (cc)
    go false e = e

pub sound_parted : (r q : List ℕ → Option Seen) (fs gs : List (ℕ × Follower)) (k n : ℕ) (f : Follower) → lookup (nat_eq n) fs ≡ Some f → IsPut fs gs n None → ((u : List ℕ) → q u ≡ cond (same_text f.topic u) (parted (r u)) (r u)) → IsSound r fs k → IsSound q gs k
sound_parted r q fs gs k n f is put change s = record { held = held; counted = counted; reached = reached }
  where
    held : (u : List ℕ) → AreHeld (q u) k
    held u = subst (λ o. AreHeld o k) (sym (change u)) (go (same_text f.topic u))
      where
        go : (b : Bool) → AreHeld (cond b (parted (r u)) (r u)) k
        go true = held_parted (r u) k (s.held u)
        go false = s.held u

    counts : (u : List ℕ) → followers_on u gs + one_on u f ≡ followers_on u fs
    counts u = let e : followers_on u gs + one_on u f ≡ followers_on u fs + 0 = ap (λ o. followers_on u gs + ones_on u o) (sym is) ∙ put.counts u in omega (arith, e)

    counted : (u : List ℕ) → followers_in (q u) ≡ followers_on u gs
    counted u = ap followers_in (change u) ∙ go (same_text f.topic u) refl
      where
        go : (b : Bool) → same_text f.topic u ≡ b → followers_in (cond b (parted (r u)) (r u)) ≡ followers_on u gs
        go true e = followers_parted (r u) ∙ omega (arith, s.counted u, counts u, one_at u f e)
        go false e = s.counted u ∙ omega (arith, counts u, none_at u f e)

    reached : (m : ℕ) (g : Follower) → lookup (nat_eq m) gs ≡ Some g → IsReached (q g.topic) g.next
    reached m g there = subst (λ o. IsReached o g.next) (sym (change g.topic)) (go (same_text f.topic g.topic) refl)
      where
        before : IsReached (r g.topic) g.next
        before = s.reached m g (stays fs gs n m g put there)

        go : (b : Bool) → same_text f.topic g.topic ≡ b → IsReached (cond b (parted (r g.topic)) (r g.topic)) g.next
        go true e = reached_parted (r g.topic) g.next (others_stay r fs gs k n m f g is put s there e) before
        go false e = before

pub changed_parted : (r q : List ℕ → Option Seen) (fs gs : List (ℕ × Follower)) (k n : ℕ) (f : Follower) → lookup (nat_eq n) fs ≡ Some f → IsPut fs gs n None → ((u : List ℕ) → q u ≡ cond (same_text f.topic u) (parted (r u)) (r u)) → IsSound r fs k → IsChanged (fed r fs k) (fed q gs k) n None
changed_parted r q fs gs k n f is put change s = record { subscribers = λ m. found_is q gs k m ∙ (other m (lookup (nat_eq m) gs) (λ g e. e) ∙ (ap (option_map (subscriber r)) (put.lookups m) ∙ (go m (nat_eq n m) ∙ ap (cond (nat_eq n m) None) (sym (found_is r fs k m))))); delivered = refl }
  where
    waits : (m : ℕ) (g : Follower) → lookup (nat_eq m) gs ≡ Some g → waiting (q g.topic) g.next ≡ waiting (r g.topic) g.next
    waits m g there = ap (λ o. waiting o g.next) (change g.topic) ∙ go (same_text f.topic g.topic) refl
      where
        go : (b : Bool) → same_text f.topic g.topic ≡ b → waiting (cond b (parted (r g.topic)) (r g.topic)) g.next ≡ waiting (r g.topic) g.next
        go true e = waits_parted (r g.topic) g.next (others_stay r fs gs k n m f g is put s there e)
        go false e = refl

    other : (m : ℕ) (o : Option Follower) → ((g : Follower) → o ≡ Some g → lookup (nat_eq m) gs ≡ Some g) → option_map (subscriber q) o ≡ option_map (subscriber r) o
    other m None l = refl
    other m (Some g) l = ap (λ (w : Waiting). Some (on_topic g.topic w)) (waits m g (l g refl))

    go : (m : ℕ) (b : Bool) → option_map (subscriber r) (cond b None (lookup (nat_eq m) fs)) ≡ cond b None (option_map (subscriber r) (lookup (nat_eq m) fs))
    go m true = refl
    go m false = refl

-- where nobody is, nobody goes
pub changed_none : (r q : List ℕ → Option Seen) (fs gs : List (ℕ × Follower)) (k n : ℕ) → lookup (nat_eq n) fs ≡ None → IsPut fs gs n None → ((u : List ℕ) → q u ≡ r u) → IsChanged (fed r fs k) (fed q gs k) n None
changed_none r q fs gs k n is put same = record { subscribers = λ m. (λ i. found (fed (λ t. same t i) gs k) m) ∙ (found_is r gs k m ∙ (ap (option_map (subscriber r)) (put.lookups m) ∙ (go m (nat_eq n m) ∙ ap (cond (nat_eq n m) None) (sym (found_is r fs k m))))); delivered = refl }
  where
    go : (m : ℕ) (b : Bool) → option_map (subscriber r) (cond b None (lookup (nat_eq m) fs)) ≡ cond b None (option_map (subscriber r) (lookup (nat_eq m) fs))
    go m true = refl
    go m false = refl

pub sound_none : (r q : List ℕ → Option Seen) (fs gs : List (ℕ × Follower)) (k n : ℕ) → lookup (nat_eq n) fs ≡ None → IsPut fs gs n None → ((u : List ℕ) → q u ≡ r u) → IsSound r fs k → IsSound q gs k
sound_none r q fs gs k n is put same s = record {
  held = λ t. subst (λ o. AreHeld o k) (sym (same t)) (s.held t);
  counted = λ t. ap followers_in (same t) ∙ (s.counted t ∙ (let e : followers_on t gs + 0 ≡ followers_on t fs + 0 = ap (λ o. followers_on t gs + ones_on t o) (sym is) ∙ put.counts t in omega (arith, e)));
  reached = λ m g there. subst (λ o. IsReached o g.next) (sym (same g.topic)) (s.reached m g (stays fs gs n m g put there));
}

-- by who is there

pub sound_dropped : (r q : List ℕ → Option Seen) (fs gs : List (ℕ × Follower)) (k n : ℕ) → IsDropped r q (lookup (nat_eq n) fs) → IsPut fs gs n None → IsSound r fs k → IsSound q gs k
sound_dropped r q fs gs k n dropped put s = go (lookup (nat_eq n) fs) refl dropped
  where
    go : (o : Option Follower) → lookup (nat_eq n) fs ≡ o → IsDropped r q o → IsSound q gs k
    go None is d = sound_none r q fs gs k n is put d s
    go (Some f) is d = sound_parted r q fs gs k n f is put d s

pub changed_dropped : (r q : List ℕ → Option Seen) (fs gs : List (ℕ × Follower)) (k n : ℕ) → IsDropped r q (lookup (nat_eq n) fs) → IsPut fs gs n None → IsSound r fs k → IsChanged (fed r fs k) (fed q gs k) n None
changed_dropped r q fs gs k n dropped put s = go (lookup (nat_eq n) fs) refl dropped
  where
    go : (o : Option Follower) → lookup (nat_eq n) fs ≡ o → IsDropped r q o → IsChanged (fed r fs k) (fed q gs k) n None
    go None is d = changed_none r q fs gs k n is put d
    go (Some f) is d = changed_parted r q fs gs k n f is put d s

-- a take

pub can_take : (r : List ℕ → Option Seen) (fs : List (ℕ × Follower)) (k n : ℕ) (f : Follower) → IsSound r fs k → lookup (nat_eq n) fs ≡ Some f → CanTake r f
can_take r fs k n f s is = record { held = newest_held (r f.topic) k (s.held f.topic); reached = s.reached n f is }

pub sound_moved : (r : List ℕ → Option Seen) (fs gs : List (ℕ × Follower)) (k n max : ℕ) → IsMoved r fs gs n max (lookup (nat_eq n) fs) → IsSound r fs k → IsSound r gs k
sound_moved r fs gs k n max moved s = go (lookup (nat_eq n) fs) refl moved
  where
    go : (o : Option Follower) → lookup (nat_eq n) fs ≡ o → IsMoved r fs gs n max o → IsSound r gs k
    go None is e = subst (λ hs. IsSound r hs k) (sym e) s
    go (Some f) is m = record { held = s.held; counted = λ u. s.counted u ∙ counts u; reached = reached }
      where
        counts : (u : List ℕ) → followers_on u fs ≡ followers_on u gs
        counts u = let e : followers_on u gs + one_on u f ≡ followers_on u fs + one_on u f = ap (λ o. followers_on u gs + ones_on u o) (sym is) ∙ m.1.counts u in omega (arith, e)

        reached : (j : ℕ) (g : Follower) → lookup (nat_eq j) gs ≡ Some g → IsReached (r g.topic) g.next
        reached j g there = at (nat_eq n j) (found_in fs gs n j _ g m.1 there)
          where
            at : (b : Bool) → cond b (Some (moved_to f m.0)) (lookup (nat_eq j) fs) ≡ Some g → IsReached (r g.topic) g.next
            at true e = subst (λ (h : Follower). IsReached (r h.topic) h.next) (same_Some _ g e) m.2.reached
            at false e = s.reached j g e

pub changed_moved : (r : List ℕ → Option Seen) (fs gs : List (ℕ × Follower)) (k n max : ℕ) → IsMoved r fs gs n max (lookup (nat_eq n) fs) → IsChanged (fed r fs k) (fed r gs k) n (option_map (left_with max) (found (fed r fs k) n))
changed_moved r fs gs k n max moved = record { subscribers = λ m. found_is r gs k m ∙ (go m (lookup (nat_eq n) fs) refl moved ∙ ((λ i. cond (nat_eq n m) (option_map (left_with max) (sym (found_is r fs k n) i)) (sym (found_is r fs k m) i)))); delivered = refl }
  where
    same : (m : ℕ) (b : Bool) → nat_eq n m ≡ b → lookup (nat_eq n) fs ≡ None → option_map (subscriber r) (lookup (nat_eq m) fs) ≡ cond b None (option_map (subscriber r) (lookup (nat_eq m) fs))
    same m true e is = ap (λ j. option_map (subscriber r) (lookup (nat_eq j) fs)) (sym (eqb-true n m e)) ∙ ap (option_map (subscriber r)) is
    same m false e is = refl

    go : (m : ℕ) (o : Option Follower) → lookup (nat_eq n) fs ≡ o → IsMoved r fs gs n max o → option_map (subscriber r) (lookup (nat_eq m) gs) ≡ cond (nat_eq n m) (option_map (left_with max) (option_map (subscriber r) o)) (option_map (subscriber r) (lookup (nat_eq m) fs))
    go m None is e = ap (λ (hs : List (ℕ × Follower)). option_map (subscriber r) (lookup (nat_eq m) hs)) e ∙ same m (nat_eq n m) refl is
    go m (Some f) is p = ap (option_map (subscriber r)) (p.1.lookups m) ∙ at (nat_eq n m)
      where
        at : (b : Bool) → option_map (subscriber r) (cond b (Some (moved_to f p.0)) (lookup (nat_eq m) fs)) ≡ cond b (Some (left_with max (subscriber r f))) (option_map (subscriber r) (lookup (nat_eq m) fs))
        at true = ap (λ (w : Waiting). Some (on_topic f.topic w)) p.2.waits
        at false = refl

-- a delivery

pub sound_pushed : (r q : List ℕ → Option Seen) (fs : List (ℕ × Follower)) (k : ℕ) (items : List ℕ → Option Item) → ((u : List ℕ) → q u ≡ pushed (r u) (option_to_list (items u))) → IsSound r fs k → IsSound q fs (k + 1)
sound_pushed r q fs k items change s = record {
  held = λ u. subst (λ o. AreHeld o (k + 1)) (sym (change u)) (held_pushed (r u) (items u) k (s.held u));
  counted = λ u. ap followers_in (change u) ∙ (followers_pushed (r u) (items u) ∙ s.counted u);
  reached = λ n f is. subst (λ o. IsReached o f.next) (sym (change f.topic)) (reached_pushed (r f.topic) f.next (items f.topic) (s.reached n f is));
}

pub delivered_pushed : (r q : List ℕ → Option Seen) (fs : List (ℕ × Follower)) (k : ℕ) (items : List ℕ → Option Item) → ((u : List ℕ) → q u ≡ pushed (r u) (option_to_list (items u))) → IsSound r fs k → IsDelivered (fed r fs k) (fed q fs (k + 1)) (λ u. option_to_list (items u))
delivered_pushed r q fs k items change s = record { subscribers = λ n. found_is q fs (k + 1) n ∙ (go (lookup (nat_eq n) fs) (s.reached n) ∙ ap (option_map (with_more (λ u. option_to_list (items u)))) (sym (found_is r fs k n))); delivered = refl }
  where
    go : (o : Option Follower) → ((f : Follower) → o ≡ Some f → IsReached (r f.topic) f.next) → option_map (subscriber q) o ≡ option_map (with_more (λ u. option_to_list (items u))) (option_map (subscriber r) o)
    go None l = refl
    go (Some f) l = ap (λ (w : Waiting). Some (on_topic f.topic w)) (ap (λ o. waiting o f.next) (change f.topic) ∙ waits_pushed (r f.topic) f.next (items f.topic) (newest_held (r f.topic) k (s.held f.topic)) (l f refl))
