-- Whether no item waits for anybody, by all the cursors.
use Rattle.std.proofs.Common.{◌≡◌, ℕ, Bool, true, false, cond, ◌&&◌, ◌||◌, nat_eq, List, [], ◌∷◌, Option, Some, None, option_map, refl, sym, ◌∙◌, ap}
use Rattle.std.specs.List.{AllByRecursion, list_any}
use Rattle.std.specs.List.Sorted.{IsStrictlySortedBy}
use Rattle.std.specs.Map.{lookup, keys_of}
use Rattle.std.specs.Ordering.{nat_cmp}
use Rattle.std.specs.declared.cmp.Ordering.TheVariants.{Less}
use Rattle.std.proofs.lemmas.Bool.{eq-eqb, eqb-true}
use Rattle.tracker_feeds.specs.Fed.{Subscriber}
use Rattle.tracker_feeds.specs.Rings.{Seen, subscriber, fed}
use Rattle.tracker_feeds.specs.Quiet.{is_idle, TellsIdle, idle_at, all_idle}
use Rattle.tracker_feeds.specs.declared.followers.Follower.{Follower}
use Rattle.tracker_feeds.proofs.FedLemmas.{found_is}
use Rattle.tracker_feeds.proofs.ListingLemmas.{none_at}

both : (a b : Bool) → a && b ≡ true → (a ≡ true) × (b ≡ true)
both true true e = (refl, refl)
both true false e = (refl, e)
both false b e = absurd (cc)

-- where all are idle, each that is found is

each_idle : (r : List ℕ → Option Seen) (fs : List (ℕ × Follower)) (n : ℕ) (f : Follower) → all_idle r fs ≡ true → lookup (nat_eq n) fs ≡ Some f → idle_at r f ≡ true
each_idle r [] n f all here = absurd (cc)
each_idle r (e ∷ fs) n f all here =
    let parts = both (idle_at r e.1) (all_idle r fs) all in
    go (nat_eq n e.0) here parts.0 (each_idle r fs n f parts.1)
  where
    go : (b : Bool) → cond b (Some e.1) (lookup (nat_eq n) fs) ≡ Some f → idle_at r e.1 ≡ true → (lookup (nat_eq n) fs ≡ Some f → idle_at r f ≡ true) → idle_at r f ≡ true
    go true p first rest = let same : e.1 ≡ f = cc in ap (idle_at r) (sym same) ∙ first
    go false p first rest = rest p

-- else one that isn't is found under its number

abbrev One : (List ℕ → Option Seen) → List (ℕ × Follower) → Type 0
One r fs = (n : ℕ) × (f : Follower) × (lookup (nat_eq n) fs ≡ Some f) × (idle_at r f ≡ false)

there_is : (k : ℕ) (fs : List (ℕ × Follower)) (f : Follower) → lookup (nat_eq k) fs ≡ Some f → list_any (nat_eq k) (keys_of fs) ≡ true
there_is k [] f e = absurd (cc)
there_is k (x ∷ fs) f e = go (nat_eq k x.0) e (there_is k fs f)
  where
    go : (b : Bool) → cond b (Some x.1) (lookup (nat_eq k) fs) ≡ Some f → (lookup (nat_eq k) fs ≡ Some f → list_any (nat_eq k) (keys_of fs) ≡ true) → (b || list_any (nat_eq k) (keys_of fs)) ≡ true
    go true p rest = refl
    go false p rest = rest p

further : (k : ℕ) (v : Follower) (fs : List (ℕ × Follower)) (n : ℕ) (f : Follower) → AllByRecursion (λ y. nat_cmp k y ≡ Less) (keys_of fs) → lookup (nat_eq n) fs ≡ Some f → lookup (nat_eq n) ((k, v) ∷ fs) ≡ Some f
further k v fs n f above here = go (nat_eq n k) refl
  where
    go : (b : Bool) → nat_eq n k ≡ b → cond b (Some v) (lookup (nat_eq n) fs) ≡ Some f
    go true p =
        let same : n ≡ k = eqb-true n k p in
        let there : list_any (nat_eq n) (keys_of fs) ≡ true = there_is n fs f here in
        let none : list_any (nat_eq k) (keys_of fs) ≡ false = none_at k (keys_of fs) above in
        absurd (let there_k : list_any (nat_eq k) (keys_of fs) ≡ true = ap (λ i. list_any (nat_eq i) (keys_of fs)) (sym same) ∙ there in cc)
    go false p = here

one_busy : (r : List ℕ → Option Seen) (fs : List (ℕ × Follower)) → IsStrictlySortedBy nat_cmp (keys_of fs) → all_idle r fs ≡ false → One r fs
unfolding IsStrictlySortedBy
one_busy r [] sorted some = absurd (cc)
one_busy r (e ∷ fs) sorted some = go (idle_at r e.1) refl some (one_busy r fs sorted.1)
  where
    go : (b : Bool) → idle_at r e.1 ≡ b → b && all_idle r fs ≡ false → (all_idle r fs ≡ false → One r fs) → One r (e ∷ fs)
    go false p q rest = (e.0, e.1, ap (λ b. cond b (Some e.1) (lookup (nat_eq e.0) fs)) (eq-eqb e.0 e.0 refl), p)
    go true p q rest = let one = rest q in (one.0, one.1, further e.0 e.1 fs one.0 one.1 sorted.0 one.2, one.3)

-- so it is with what is seen of them

found_idle : (r : List ℕ → Option Seen) (n : ℕ) (s : Subscriber) (o : Option Follower) → option_map (subscriber r) o ≡ Some s → ((f : Follower) → o ≡ Some f → idle_at r f ≡ true) → is_idle s.waiting ≡ true
found_idle r n s None e all = absurd (cc)
found_idle r n s (Some f) e all = let same : subscriber r f ≡ s = cc in ap (λ (x : Subscriber). is_idle x.waiting) (sym same) ∙ all f refl

pub tells_idle : (r : List ℕ → Option Seen) (fs : List (ℕ × Follower)) (k : ℕ) (b : Bool) → IsStrictlySortedBy nat_cmp (keys_of fs) → b ≡ all_idle r fs → TellsIdle (fed r fs k) b
tells_idle r fs k true sorted is = λ n s found. found_idle r n s (lookup (nat_eq n) fs) (sym (found_is r fs k n) ∙ found) (λ f here. each_idle r fs n f (sym is) here)
tells_idle r fs k false sorted is =
    let one = one_busy r fs sorted (sym is) in
    (one.0, subscriber r one.1, found_is r fs k one.0 ∙ ap (option_map (subscriber r)) one.2, one.3)
