-- What waits for a subscriber, by its topic's ring and how far it has come.
use Rattle.std.proofs.Common.{◌≡◌, ◌≤◌, ◌<◌, ℕ, zero, suc, ◌+◌, ◌-◌, ◌^◌, Bool, true, false, cond, nat_lt, nat_le, min, List, [], ◌∷◌, ◌++◌, length, drop, take, Option, Some, None, option_to_list, refl, sym, ◌∙◌, ap, subst, arith, length-append, length-drop}
use Rattle.std.proofs.lemmas.Bool.{ltb-true, ltb-false, leb-true, leb-false, lt-leb, cond-true, cond-false, lt-ltb, le-ltb}
use Rattle.std.proofs.lemmas.List.{drop_all, drop-drop, drop-append-le, append-nil, take_min}
use Rattle.presence_journal.specs.declared.rows.Item.{Item}
use Rattle.presence_journal.specs.Queue.{Behind, Queued, most_waiting, queued, push_items, left_by, is_waiting}
use Rattle.tracker_feeds.specs.Fed.{items_at_most}
use Rattle.tracker_feeds.specs.Quiet.{is_idle}
use Rattle.tracker_feeds.specs.Rings.{Seen, waiting, newest, pushed, joined, parted, with_followers, followers_in, HoldsNewest, AreHeld, IsReached, IsAhead, HasSome, IsBelow}

short_queue : (q : List Item) → length q ≤ most_waiting → queued q ≡ Queued q
short_queue q l = cond-false _ _ _ (le-ltb most_waiting (length q) l)

full_queue : (q : List Item) → most_waiting < length q → queued q ≡ Behind
full_queue q l = cond-true _ _ _ (lt-ltb most_waiting (length q) l)

-- the items that wait for one who has come to n
abbrev left_of : ℕ → ℕ → List Item → List Item
left_of made n items = drop (length items - (made - n)) items

-- one item more, in a ring with the newest
more_waits : (made n : ℕ) (items : List Item) (x : Item) → length items ≡ min made 256 → n ≤ made → cond (nat_lt 256 ((made + 1) - n)) Behind (Queued (left_of (made + 1) n (newest items x))) ≡ push_items (cond (nat_lt 256 (made - n)) Behind (Queued (left_of made n items))) (x ∷ [])
more_waits made n items x held reached = go (nat_lt 256 (made - n)) (nat_lt 256 ((made + 1) - n)) (nat_lt (length items) 256) refl refl refl
  where
    go : (a b c : Bool) → nat_lt 256 (made - n) ≡ a → nat_lt 256 ((made + 1) - n) ≡ b → nat_lt (length items) 256 ≡ c → cond b Behind (Queued (left_of (made + 1) n (cond c items (drop 1 items) ++ x ∷ []))) ≡ push_items (cond a Behind (Queued (left_of made n items))) (x ∷ [])
    go true true c p q r = refl
    go true false c p q r = absurd (omega (arith, ltb-true 256 (made - n) p, ltb-false 256 ((made + 1) - n) q))
    go false true c p q r = sym (full_queue (left_of made n items ++ x ∷ []) (omega (arith, length-append (left_of made n items) (x ∷ []), length-drop (length items - (made - n)) items, ltb-false 256 (made - n) p, ltb-true 256 ((made + 1) - n) q, held, reached)))
    go false false true p q r =
        ap Queued (ap (λ k. drop k (items ++ x ∷ [])) (omega (arith, length-append items (x ∷ []), ltb-false 256 ((made + 1) - n) q, held, reached)) ∙ drop-append-le (length items - (made - n)) items (x ∷ []) (omega arith))
        ∙ sym (short_queue (left_of made n items ++ x ∷ []) (omega (arith, length-append (left_of made n items) (x ∷ []), length-drop (length items - (made - n)) items, ltb-false 256 ((made + 1) - n) q, held, reached)))
    go false false false p q r =
        ap Queued (drop-append-le (length (drop 1 items ++ x ∷ []) - ((made + 1) - n)) (drop 1 items) (x ∷ []) (omega (arith, length-append (drop 1 items) (x ∷ []), length-drop 1 items, ltb-false (length items) 256 r, ltb-false 256 ((made + 1) - n) q, held, reached))
        ∙ ap (λ ys. ys ++ x ∷ []) (drop-drop (length (drop 1 items ++ x ∷ []) - ((made + 1) - n)) 1 items ∙ ap (λ k. drop k items) (omega (arith, length-append (drop 1 items) (x ∷ []), length-drop 1 items, ltb-false (length items) 256 r, ltb-false 256 ((made + 1) - n) q, held, reached))))
        ∙ sym (short_queue (left_of made n items ++ x ∷ []) (omega (arith, length-append (left_of made n items) (x ∷ []), length-drop (length items - (made - n)) items, ltb-false 256 ((made + 1) - n) q, held, reached)))

none_more : (made n : ℕ) (items : List Item) → length items ≡ min made 256 → n ≤ made → cond (nat_lt 256 (made - n)) Behind (Queued (left_of made n items)) ≡ push_items (cond (nat_lt 256 (made - n)) Behind (Queued (left_of made n items))) []
none_more made n items held reached = go (nat_lt 256 (made - n)) refl
  where
    go : (a : Bool) → nat_lt 256 (made - n) ≡ a → cond a Behind (Queued (left_of made n items)) ≡ push_items (cond a Behind (Queued (left_of made n items))) []
    go true p = refl
    go false p = sym (ap queued (append-nil (left_of made n items)) ∙ short_queue (left_of made n items) (omega (arith, length-drop (length items - (made - n)) items, ltb-false 256 (made - n) p, held, reached)))

-- a ring that takes an item, or none, says what then waits
pub waits_pushed : (o : Option Seen) (next : Option ℕ) (i : Option Item) → HoldsNewest o → IsReached o next → waiting (pushed o (option_to_list i)) next ≡ push_items (waiting o next) (option_to_list i)
waits_pushed None next i held k = absurd k
waits_pushed (Some s) None None held k = refl
waits_pushed (Some s) None (Some x) held k = refl
waits_pushed (Some s) (Some n) None held k = none_more s.made n s.items held k
waits_pushed (Some s) (Some n) (Some x) held k = more_waits s.made n s.items x held k

pub held_pushed : (o : Option Seen) (i : Option Item) (k : ℕ) → AreHeld o k → AreHeld (pushed o (option_to_list i)) (k + 1)
held_pushed None i k h = tt
held_pushed (Some s) None k h = record { items = h.items; made = omega (arith, h.made); followers = h.followers }
held_pushed (Some s) (Some x) k h = record { items = go (nat_lt (length s.items) 256) refl; made = omega (arith, h.made); followers = h.followers }
  where
    go : (b : Bool) → nat_lt (length s.items) 256 ≡ b → length (cond b s.items (drop 1 s.items) ++ x ∷ []) ≡ min (s.made + 1) 256
    go true e = omega (arith, length-append s.items (x ∷ []), ltb-true (length s.items) 256 e, h.items)
    go false e = omega (arith, length-append (drop 1 s.items) (x ∷ []), length-drop 1 s.items, ltb-false (length s.items) 256 e, h.items)

pub reached_pushed : (o : Option Seen) (next : Option ℕ) (i : Option Item) → IsReached o next → IsReached (pushed o (option_to_list i)) next
reached_pushed None next i k = absurd k
reached_pushed (Some s) None None k = tt
reached_pushed (Some s) None (Some x) k = tt
reached_pushed (Some s) (Some n) None k = k
reached_pushed (Some s) (Some n) (Some x) k = omega (arith, k)

pub followers_pushed : (o : Option Seen) (i : Option Item) → followers_in (pushed o (option_to_list i)) ≡ followers_in o
followers_pushed None i = refl
followers_pushed (Some s) None = refl
followers_pushed (Some s) (Some x) = refl

pub newest_held : (o : Option Seen) (k : ℕ) → AreHeld o k → HoldsNewest o
newest_held None k h = tt
newest_held (Some s) k h = h.items

-- whether no item waits for one who has come to n

none_left : (is : List Item) → length is ≡ 0 → is_idle (Queued is) ≡ true
none_left [] e = refl
none_left (i ∷ is) e = absurd (omega (arith, e))

some_left : (is : List Item) → 0 < length is → is_idle (Queued is) ≡ false
some_left [] l = absurd (omega (arith, l))
some_left (i ∷ is) l = refl

pub idle_level : (s : Seen) (n : ℕ) → s.made - n ≡ 0 → is_idle (waiting (Some s) (Some n)) ≡ true
idle_level s n none = ap (λ b. is_idle (cond b Behind (Queued (left_of s.made n s.items)))) (le-ltb 256 (s.made - n) (omega (arith, none))) ∙ none_left (left_of s.made n s.items) (omega (arith, length-drop (length s.items - (s.made - n)) s.items, none))

pub idle_behind : (s : Seen) (n : ℕ) → 256 < s.made - n → is_idle (waiting (Some s) (Some n)) ≡ true
idle_behind s n far = ap (λ b. is_idle (cond b Behind (Queued (left_of s.made n s.items)))) (lt-ltb 256 (s.made - n) far)

pub busy_between : (s : Seen) (n : ℕ) → length s.items ≡ min s.made 256 → 0 < s.made - n → s.made - n ≤ 256 → is_idle (waiting (Some s) (Some n)) ≡ false
busy_between s n held some most = ap (λ b. is_idle (cond b Behind (Queued (left_of s.made n s.items)))) (le-ltb 256 (s.made - n) most) ∙ some_left (left_of s.made n s.items) (omega (arith, length-drop (length s.items - (s.made - n)) s.items, held, some, most))

some_ahead : (a : ℕ) → (a ≡ 0 → ⊥) → 0 < a
some_ahead zero e = absurd (e refl)
some_ahead (suc a) e = omega arith

-- where some are ahead, none waits only for one who is too far behind
pub idle_far : (s : Seen) (n a : ℕ) (o : Option ℕ) → HoldsNewest (Some s) → o ≡ Some n → a ≡ s.made - n → (a ≡ 0 → ⊥) → nat_lt 256 a ≡ is_idle (waiting (Some s) o)
idle_far s n a o held is e some = go (nat_lt 256 a) refl
  where
    go : (b : Bool) → nat_lt 256 a ≡ b → nat_lt 256 a ≡ is_idle (waiting (Some s) o)
    go true p = p ∙ sym (ap (λ x. is_idle (waiting (Some s) x)) is ∙ idle_behind s n (omega (arith, ltb-true 256 a p, e)))
    go false p = p ∙ sym (ap (λ x. is_idle (waiting (Some s) x)) is ∙ busy_between s n held (omega (arith, some_ahead a some, e)) (omega (arith, ltb-false 256 a p, e)))

-- a subscriber more, or one fewer, changes nothing for the others

pub waits_joined : (o : Option Seen) (next : Option ℕ) → IsReached o next → waiting (joined o) next ≡ waiting o next
waits_joined None next k = absurd k
waits_joined (Some s) None k = refl
waits_joined (Some s) (Some n) k = refl

pub reached_joined : (o : Option Seen) (next : Option ℕ) → IsReached o next → IsReached (joined o) next
reached_joined None next k = absurd k
reached_joined (Some s) None k = tt
reached_joined (Some s) (Some n) k = k

pub held_joined : (o : Option Seen) (k : ℕ) → AreHeld o k → AreHeld (joined o) k
held_joined None k h = record { items = omega arith; made = omega arith; followers = omega arith }
held_joined (Some s) k h = record { items = h.items; made = h.made; followers = omega arith }

pub followers_joined : (o : Option Seen) → followers_in (joined o) ≡ followers_in o + 1
followers_joined None = refl
followers_joined (Some s) = refl

pub begins_joined : (o : Option Seen) → IsReached (joined o) None
begins_joined None = tt
begins_joined (Some s) = tt

pub waits_begun : (o : Option Seen) → waiting o None ≡ Behind
waits_begun None = refl
waits_begun (Some s) = refl

more_left : (s : Seen) → 1 < s.followers → parted (Some s) ≡ Some (with_followers s (s.followers - 1))
more_left s l = cond-false _ _ _ (lt-leb s.followers 1 l)

pub waits_parted : (o : Option Seen) (next : Option ℕ) → 1 < followers_in o → waiting (parted o) next ≡ waiting o next
waits_parted None next l = absurd (omega (arith, l))
waits_parted (Some s) None l = ap (λ o. waiting o None) (more_left s l)
waits_parted (Some s) (Some n) l = ap (λ o. waiting o (Some n)) (more_left s l)

pub reached_parted : (o : Option Seen) (next : Option ℕ) → 1 < followers_in o → IsReached o next → IsReached (parted o) next
reached_parted None next l k = absurd k
reached_parted (Some s) None l k = subst (λ o. IsReached o None) (sym (more_left s l)) tt
reached_parted (Some s) (Some n) l k = subst (λ o. IsReached o (Some n)) (sym (more_left s l)) k

pub held_parted : (o : Option Seen) (k : ℕ) → AreHeld o k → AreHeld (parted o) k
held_parted None k h = tt
held_parted (Some s) k h = go (nat_le s.followers 1) refl
  where
    go : (b : Bool) → nat_le s.followers 1 ≡ b → AreHeld (cond b None (Some (with_followers s (s.followers - 1)))) k
    go true e = tt
    go false e = record { items = h.items; made = h.made; followers = omega (arith, leb-false s.followers 1 e) }

pub followers_parted : (o : Option Seen) → followers_in (parted o) ≡ followers_in o - 1
followers_parted None = refl
followers_parted (Some s) = go (nat_le s.followers 1) refl
  where
    go : (b : Bool) → nat_le s.followers 1 ≡ b → followers_in (cond b None (Some (with_followers s (s.followers - 1)))) ≡ s.followers - 1
    go true e = omega (arith, leb-true s.followers 1 e)
    go false e = refl

-- joining and parting again
pub parted_joined : (o : Option Seen) → HasSome o → parted (joined o) ≡ o
parted_joined None h = refl
parted_joined (Some s) h =
    cond-false _ _ _ (lt-leb (s.followers + 1) 1 (omega (arith, h)))
    ∙ (let e : (s.followers + 1) - 1 ≡ s.followers = omega arith in ap (λ (n : ℕ). Some (with_followers s n)) e)

pub has_some : (o : Option Seen) (k : ℕ) → AreHeld o k → HasSome o
has_some None k h = tt
has_some (Some s) k h = h.followers

pub below_held : (o : Option Seen) (k : ℕ) → AreHeld o k → k < 2 ^ 63 → IsBelow o
below_held None k h l = tt
below_held (Some s) k h l = omega (arith, h.made, l)

-- how many items wait

-- so many are the last ones
ahead_few : (made n a : ℕ) (items : List Item) → length items ≡ min made 256 → n ≤ made → a ≡ made - n → IsAhead (record { made = made; items = items; followers = 0 }) (Some n) (cond (nat_lt 256 a) None (Some a))
ahead_few made n a items held low is = go (nat_lt 256 a) refl
  where
    here : (b : Bool) → nat_lt 256 a ≡ b → cond (nat_lt 256 (made - n)) Behind (Queued (left_of made n items)) ≡ cond b Behind (Queued (drop (length items - a) items))
    here b e = (λ i. cond (nat_lt 256 (sym is i)) Behind (Queued (drop (length items - sym is i) items))) ∙ ap (λ c. cond c Behind (Queued (drop (length items - a) items))) e

    go : (b : Bool) → nat_lt 256 a ≡ b → IsAhead (record { made = made; items = items; followers = 0 }) (Some n) (cond b None (Some a))
    go true e = here true e
    go false e = (here false e, omega (arith, ltb-false 256 a e, held, is), omega (arith, is))

-- the number of subscribers plays no part
ahead_in : (s : Seen) (next c : Option ℕ) → IsAhead (record { made = s.made; items = s.items; followers = 0 }) next c → IsAhead s next c
ahead_in s None None k = k
ahead_in s None (Some c) k = k
ahead_in s (Some n) None k = k
ahead_in s (Some n) (Some c) k = k

pub ahead_some : (s : Seen) (n a : ℕ) (next c : Option ℕ) → HoldsNewest (Some s) → IsReached (Some s) next → next ≡ Some n → a ≡ s.made - n → c ≡ cond (nat_lt most_waiting a) None (Some a) → IsAhead s next c
ahead_some s n a next c held reached is count by =
    subst (λ o. IsAhead s o c) (sym is) (subst (IsAhead s (Some n)) (sym by) (ahead_in s (Some n) (cond (nat_lt 256 a) None (Some a)) (ahead_few s.made n a s.items held (subst (IsReached (Some s)) is reached) count)))

pub ahead_none : (s : Seen) (next : Option ℕ) → next ≡ None → IsAhead s next None
ahead_none s next is = ap (waiting (Some s)) is

-- whether anything waits

some_waits : (q : List Item) → nat_lt 0 (length q) ≡ is_waiting (Queued q)
some_waits [] = refl
some_waits (x ∷ q) = lt-ltb 0 (suc (length q)) (omega arith)

pub awaited_some : (s : Seen) (next c : Option ℕ) (a : ℕ) → IsAhead s next c → c ≡ Some a → nat_lt 0 a ≡ is_waiting (waiting (Some s) next)
awaited_some s next c a k is =
    let h : IsAhead s next (Some a) = subst (IsAhead s next) is k in
    ap (nat_lt 0) (let e : a ≡ length (drop (length s.items - a) s.items) = omega (arith, length-drop (length s.items - a) s.items, h.1) in e)
    ∙ (some_waits (drop (length s.items - a) s.items) ∙ ap is_waiting (sym h.0))

pub behind_none : (s : Seen) (next c : Option ℕ) → IsAhead s next c → c ≡ None → waiting (Some s) next ≡ Behind
behind_none s next c k is = subst (IsAhead s next) is k

pub ahead_low : (s : Seen) (next c : Option ℕ) (a : ℕ) → IsAhead s next c → c ≡ Some a → (a ≤ length s.items) × (a ≤ s.made)
ahead_low s next c a k is = let h : IsAhead s next (Some a) = subst (IsAhead s next) is k in (h.1, h.2)

-- the items of a take

pub items_some : (s : Seen) (next c : Option ℕ) (a max : ℕ) (o : Option (List Item)) → IsAhead s next c → c ≡ Some a → o ≡ Some (take max (drop (length s.items - a) s.items)) → o ≡ items_at_most max (waiting (Some s) next)
items_some s next c a max o k is e = let h : IsAhead s next (Some a) = subst (IsAhead s next) is k in e ∙ ap (items_at_most max) (sym h.0)

pub items_none : (s : Seen) (next c : Option ℕ) (max : ℕ) → IsAhead s next c → c ≡ None → None ≡ items_at_most max (waiting (Some s) next)
items_none s next c max k is = ap (items_at_most max) (sym (behind_none s next c k is))

pub last_taken : (items xs : List Item) (n a max : ℕ) → n ≡ length items → a ≤ length items → xs ≡ take (min a max) (drop (n - a) items) → Some xs ≡ Some (take max (drop (length items - a) items))
last_taken items xs n a max is low e =
    ap Some (e ∙ ((λ i. take (min a max) (drop (is i - a) items)) ∙ (ap (λ k. take k (drop (length items - a) items)) count ∙ take_min max (drop (length items - a) items))))
  where
    count : min a max ≡ min max (length (drop (length items - a) items))
    count = omega (arith, length-drop (length items - a) items, low)

-- what a take leaves

-- with d items ahead
waits_last : (made d : ℕ) (items : List Item) → length items ≡ min made 256 → d ≤ length items → cond (nat_lt 256 (made - (made - d))) Behind (Queued (left_of made (made - d) items)) ≡ Queued (drop (length items - d) items)
waits_last made d items held low =
    (let e : made - (made - d) ≡ d = omega (arith, held, low) in ap (λ k. cond (nat_lt 256 k) Behind (Queued (drop (length items - k) items))) e)
    ∙ cond-false _ _ _ (le-ltb 256 d (omega (arith, held, low)))

drop_past : (items : List Item) (a max d : ℕ) → a ≤ length items → d ≡ a - max → drop (length items - d) items ≡ drop max (drop (length items - a) items)
drop_past items a max d low is = go (nat_lt a max) refl ∙ sym (drop-drop max (length items - a) items)
  where
    go : (b : Bool) → nat_lt a max ≡ b → drop (length items - d) items ≡ drop ((length items - a) + max) items
    go true e = drop_all (length items - d) items (omega (arith, is, ltb-true a max e)) ∙ sym (drop_all ((length items - a) + max) items (omega (arith, ltb-true a max e, low)))
    go false e = ap (λ j. drop j items) (omega (arith, is, ltb-false a max e, low))

pub left_some : (s : Seen) (next c : Option ℕ) (a max r : ℕ) → HoldsNewest (Some s) → IsAhead s next c → c ≡ Some a → r ≡ s.made - (a - max) → waiting (Some s) (Some r) ≡ left_by max (waiting (Some s) next)
left_some s next c a max r held k is e =
    let h : IsAhead s next (Some a) = subst (IsAhead s next) is k in
    ap (λ n. waiting (Some s) (Some n)) e
    ∙ (waits_last s.made (a - max) s.items held (omega (arith, h.1))
    ∙ (ap Queued (drop_past s.items a max (a - max) h.1 refl) ∙ ap (left_by max) (sym h.0)))

pub left_none : (s : Seen) (next c : Option ℕ) (max r : ℕ) → HoldsNewest (Some s) → IsAhead s next c → c ≡ None → r ≡ s.made → waiting (Some s) (Some r) ≡ left_by max (waiting (Some s) next)
left_none s next c max r held k is e =
    ap (λ n. waiting (Some s) (Some n)) e
    ∙ ((let z : s.made - s.made ≡ 0 = omega arith in ap (λ k. cond (nat_lt 256 k) Behind (Queued (drop (length s.items - k) s.items))) z)
    ∙ (ap Queued (drop_all (length s.items - 0) s.items (omega arith)) ∙ ap (left_by max) (sym (behind_none s next c k is))))
