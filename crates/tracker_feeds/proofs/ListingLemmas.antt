-- The subscribers as a list.
use Rattle.std.proofs.Common.{◌≡◌, ◌≤◌, ℕ, Bool, true, false, cond, ◌&&◌, ◌||◌, nat_eq, nat_le, List, [], ◌∷◌, ◌++◌, Option, Some, None, is_some, option_map, refl, sym, ◌∙◌, ap, arith}
use Rattle.std.specs.Prelude.{map as each}
use Rattle.std.specs.List.{AllByRecursion, list_all, list_any}
use Rattle.std.specs.List.Sorted.{IsStrictlySortedBy}
use Rattle.std.specs.Map.{lookup, keys_of}
use Rattle.std.specs.Ordering.{is_eq, nat_cmp}
use Rattle.std.specs.Cmp.{unsigned_tied}
use Rattle.std.specs.declared.cmp.Ordering.TheVariants.{Less}
use Rattle.std.proofs.lemmas.Bool.{and_parts, eq-eqb, eqb-true, le-leb}
use Rattle.std.proofs.lemmas.List.{append_assoc}
use Rattle.std.proofs.lemmas.List.Folds.{list_all-append}
use Rattle.std.proofs.lemmas.Map.Made.{lookup-map_values}
use Rattle.presence_base.specs.Names.{is_short_text}
use Rattle.orswot_core.specs.Checks.{has_repeat}
use Rattle.presence_journal.specs.Queue.{Waiting, Behind, Queued, topic_at as first_topic, is_current, topic_of, queue, is_waiting}
use Rattle.presence_journal.specs.History.{History}
use Rattle.presence_journal.specs.Table.{is_subscriber}
use Rattle.presence_journal.proofs.Topics.{subscriber_low}
use Rattle.tracker_feeds.specs.Fed.{Subscriber, Fed, found, topic_at, waits_at, as_waiting}
use Rattle.tracker_feeds.specs.Rings.{Seen, subscriber, fed}
use Rattle.tracker_feeds.specs.Listed.{topics_in, AreListed, ListedAreThose, is_served, served_in, AreCurrent, CurrentAreThose}
use Rattle.tracker_feeds.specs.declared.followers.Follower.{Follower}
use Rattle.tracker_feeds.proofs.FedLemmas.{found_is}
use Rattle.tracker_feeds.proofs.LawLemmas.{topics_are_those}

-- one after another

pub listed_more : (list new : List (ℕ × List ℕ)) (all rest : List (ℕ × Follower)) (whole : List (ℕ × List ℕ)) (n : ℕ) (f : Follower) → all ≡ (n, f) ∷ rest → new ≡ list ++ (n, f.topic) ∷ [] → list ++ topics_in all ≡ whole → new ++ topics_in rest ≡ whole
listed_more list new all rest whole n f split put so_far =
    ap (λ (xs : List (ℕ × List ℕ)). xs ++ topics_in rest) put
    ∙ (append_assoc list ((n, f.topic) ∷ []) (topics_in rest)
    ∙ (ap (λ (fs : List (ℕ × Follower)). list ++ topics_in fs) (sym split) ∙ so_far))

pub short_more : (list new : List (ℕ × List ℕ)) (n : ℕ) (t : List ℕ) → new ≡ list ++ (n, t) ∷ [] → is_short_text t ≡ true → list_all (λ x. is_short_text x.1) list ≡ true → list_all (λ x. is_short_text x.1) new ≡ true
short_more list new n t put short all =
    ap (list_all (λ (x : ℕ × List ℕ). is_short_text x.1)) put
    ∙ (list_all-append (λ (x : ℕ × List ℕ). is_short_text x.1) list ((n, t) ∷ [])
    ∙ both (list_all (λ (x : ℕ × List ℕ). is_short_text x.1) list) (is_short_text t) all short)
  where
    both : (a b : Bool) → a ≡ true → b ≡ true → (a && (b && true)) ≡ true
    both true true p q = refl
    both true false p q = q
    both false b p q = p

-- no number stands twice

pub none_at : (k : ℕ) (ks : List ℕ) → AllByRecursion (λ y. nat_cmp k y ≡ Less) ks → list_any (nat_eq k) ks ≡ false
none_at k [] above = refl
none_at k (y ∷ ks) above = ap (λ b. b || list_any (nat_eq k) ks) (sym (unsigned_tied k y) ∙ ap is_eq above.0) ∙ none_at k ks above.1

pub no_number_twice : (ks : List ℕ) → IsStrictlySortedBy nat_cmp ks → has_repeat nat_eq ks ≡ false
unfolding IsStrictlySortedBy
no_number_twice [] sorted = refl
no_number_twice (k ∷ ks) sorted = ap (λ b. b || has_repeat nat_eq ks) (none_at k ks sorted.0) ∙ no_number_twice ks sorted.1

numbers_in : (fs : List (ℕ × Follower)) → each (λ (x : ℕ × List ℕ). x.0) (topics_in fs) ≡ keys_of fs
numbers_in [] = refl
numbers_in (f ∷ fs) = ap (λ (ks : List ℕ). f.0 ∷ ks) (numbers_in fs)

topic_in : (r : List ℕ → Option Seen) (fs : List (ℕ × Follower)) (k n : ℕ) → first_topic (topics_in fs) n ≡ topic_at (fed r fs k) n
topic_in r fs k n =
    lookup-map_values (λ (f : Follower). f.topic) (nat_eq n) fs
    ∙ (go (lookup (nat_eq n) fs)
    ∙ ap (option_map (λ (s : Subscriber). s.topic)) (sym (found_is r fs k n)))
  where
    go : (o : Option Follower) → option_map (λ (f : Follower). f.topic) o ≡ option_map (λ (s : Subscriber). s.topic) (option_map (subscriber r) o)
    go None = refl
    go (Some f) = refl

pub are_listed : (r : List ℕ → Option Seen) (fs : List (ℕ × Follower)) (k : ℕ) (xs : List (ℕ × List ℕ)) → xs ≡ topics_in fs → IsStrictlySortedBy nat_cmp (keys_of fs) → list_all (λ x. is_short_text x.1) xs ≡ true → AreListed (fed r fs k) xs
are_listed r fs k xs is sorted short = record {
  topics = λ n. ap (λ (ys : List (ℕ × List ℕ)). first_topic ys n) is ∙ topic_in r fs k n;
  short = short;
  once = ap (λ (ys : List (ℕ × List ℕ)). has_repeat nat_eq (each (λ (x : ℕ × List ℕ). x.0) ys)) is ∙ (ap (has_repeat nat_eq) (numbers_in fs) ∙ no_number_twice (keys_of fs) sorted);
}

-- they are those of the history

here : (n : ℕ) → nat_eq n n ≡ true
here n = eq-eqb n n refl

all_within : (last : ℕ) (xs : List (ℕ × List ℕ)) → ((n : ℕ) → is_some (first_topic xs n) ≡ true → n ≤ last) → list_all (λ x. is_short_text x.1) xs ≡ true → list_all (is_subscriber last) xs ≡ true
all_within last [] low short = refl
all_within last (x ∷ xs) low short =
    let parts = and_parts (is_short_text x.1) (list_all (λ (y : ℕ × List ℕ). is_short_text y.1) xs) short in
    both (nat_le x.0 last) (is_short_text x.1) (list_all (is_subscriber last) xs)
    (le-leb x.0 last (low x.0 (ap (λ b. is_some (cond b (Some x.1) (first_topic xs x.0))) (here x.0))))
    parts.0
    (all_within last xs (λ n there. low n (later (nat_eq n x.0) (first_topic xs n) there)) parts.1)
  where
    both : (a b c : Bool) → a ≡ true → b ≡ true → c ≡ true → ((a && b) && c) ≡ true
    both true true c p q r = r
    both true false c p q r = absurd (cc)
    both false b c p q r = absurd (cc)

    later : (b : Bool) (o : Option (List ℕ)) → is_some o ≡ true → is_some (cond b (Some x.1) o) ≡ true
    later true o there = refl
    later false o there = there

pub listed_are_those : ListedAreThose
listed_are_those h f last xs legal fed low listed = record {
  topics = λ n. there n;
  within = all_within last xs (λ n some. below n (topic_of h n) refl (ap is_some (sym (there n)) ∙ some)) listed.short;
  once = listed.once;
}
  where
    there : (n : ℕ) → first_topic xs n ≡ topic_of h n
    there n = listed.topics n ∙ topics_are_those h f n fed

    below : (n : ℕ) (o : Option (List ℕ)) → topic_of h n ≡ o → is_some o ≡ true → n ≤ last
    below n None is some = absurd (cc)
    below n (Some t) is some = omega (arith, subscriber_low h n t legal is, low)

-- those for which nothing waits

served_only : (f : Fed) (xs : List (ℕ × List ℕ)) (n : ℕ) → is_current (served_in f xs) n ≡ true → is_served (waits_at f n) ≡ true
served_only f [] n there = absurd (cc)
served_only f (x ∷ xs) n there = go (is_served (waits_at f x.0)) refl there (served_only f xs n)
  where
    head : (b : Bool) → nat_eq n x.0 ≡ b → is_served (waits_at f x.0) ≡ true → (b || is_current (served_in f xs) n) ≡ true → (is_current (served_in f xs) n ≡ true → is_served (waits_at f n) ≡ true) → is_served (waits_at f n) ≡ true
    head true e p q rest = ap (λ (k : ℕ). is_served (waits_at f k)) (eqb-true n x.0 e) ∙ p
    head false e p q rest = rest q

    go : (b : Bool) → is_served (waits_at f x.0) ≡ b → is_current (cond b (x.0 ∷ served_in f xs) (served_in f xs)) n ≡ true → (is_current (served_in f xs) n ≡ true → is_served (waits_at f n) ≡ true) → is_served (waits_at f n) ≡ true
    go true p q rest = head (nat_eq n x.0) refl p q rest
    go false p q rest = rest q

served_all : (f : Fed) (xs : List (ℕ × List ℕ)) (n : ℕ) → is_some (first_topic xs n) ≡ true → is_served (waits_at f n) ≡ true → is_current (served_in f xs) n ≡ true
served_all f [] n there p = absurd (cc)
served_all f (x ∷ xs) n there p = go (is_served (waits_at f x.0)) refl (nat_eq n x.0) refl there (λ some. served_all f xs n some p)
  where
    go : (b : Bool) → is_served (waits_at f x.0) ≡ b → (c : Bool) → nat_eq n x.0 ≡ c → is_some (cond c (Some x.1) (first_topic xs n)) ≡ true → (is_some (first_topic xs n) ≡ true → is_current (served_in f xs) n ≡ true) → is_current (cond b (x.0 ∷ served_in f xs) (served_in f xs)) n ≡ true
    go true q true e some rest = ap (λ c. c || is_current (served_in f xs) n) e
    go true q false e some rest = ap (λ c. c || is_current (served_in f xs) n) e ∙ rest some
    go false q true e some rest = let bad : is_served (waits_at f x.0) ≡ true = ap (λ (k : ℕ). is_served (waits_at f k)) (sym (eqb-true n x.0 e)) ∙ p in absurd (cc)
    go false q false e some rest = rest some

pub served_more : (f : Fed) (list new : List ℕ) (now rest : List (ℕ × List ℕ)) (whole : List ℕ) (x : ℕ × List ℕ) (b : Bool) → now ≡ x ∷ rest → b ≡ is_served (waits_at f x.0) → new ≡ list ++ cond b (x.0 ∷ []) [] → list ++ served_in f now ≡ whole → new ++ served_in f rest ≡ whole
served_more f list new now rest whole x b split is put so_far =
    ap (λ (ns : List ℕ). ns ++ served_in f rest) put
    ∙ (append_assoc list (cond b (x.0 ∷ []) []) (served_in f rest)
    ∙ (ap (λ (ns : List ℕ). list ++ ns) (either b ∙ (ap (λ c. cond c (x.0 ∷ served_in f rest) (served_in f rest)) is ∙ ap (served_in f) (sym split))) ∙ so_far))
  where
    either : (c : Bool) → cond c (x.0 ∷ []) [] ++ served_in f rest ≡ cond c (x.0 ∷ served_in f rest) (served_in f rest)
    either true = refl
    either false = refl

pub are_current : (f : Fed) (xs : List (ℕ × List ℕ)) (ns : List ℕ) → AreListed f xs → ns ≡ served_in f xs → AreCurrent f ns
are_current f xs ns listed is = record {
  only = λ n there. served_only f xs n (ap (λ (ks : List ℕ). is_current ks n) (sym is) ∙ there);
  all = λ n p. ap (λ (ks : List ℕ). is_current ks n) is ∙ served_all f xs n (ap is_some (listed.topics n) ∙ found_some (found f n) p) p;
}
  where
    found_some : (o : Option Subscriber) → is_served (option_map (λ (s : Subscriber). is_waiting s.waiting) o) ≡ true → is_some (option_map (λ (s : Subscriber). s.topic) o) ≡ true
    found_some None p = absurd (cc)
    found_some (Some s) p = refl

pub current_are_those : CurrentAreThose
current_are_those h f ns fed are = record { only = λ n there. only n (topic_of h n) refl (are.only n there); all = λ n t e q. are.all n (all n t e q) }
  where
    seen : (n : ℕ) → waits_at f n ≡ option_map (λ (s : Subscriber). is_waiting s.waiting) (option_map (as_waiting h n) (topic_of h n))
    seen n = ap (option_map (λ (s : Subscriber). is_waiting s.waiting)) (fed.subscribers n)

    none : (w : Waiting) → is_served (Some (is_waiting w)) ≡ true → w ≡ Queued []
    none Behind p = absurd (cc)
    none (Queued []) p = refl
    none (Queued (i ∷ is)) p = absurd (cc)

    only : (n : ℕ) (o : Option (List ℕ)) → topic_of h n ≡ o → is_served (waits_at f n) ≡ true → queue h n ≡ Queued []
    only n None e p =
        let bad : is_served (waits_at f n) ≡ false = ap is_served (seen n ∙ ap (λ (o : Option (List ℕ)). option_map (λ (s : Subscriber). is_waiting s.waiting) (option_map (as_waiting h n) o)) e) in absurd (cc)
    only n (Some t) e p = none (queue h n) (sym (ap is_served (seen n ∙ ap (λ (o : Option (List ℕ)). option_map (λ (s : Subscriber). is_waiting s.waiting) (option_map (as_waiting h n) o)) e)) ∙ p)

    all : (n : ℕ) (t : List ℕ) → topic_of h n ≡ Some t → queue h n ≡ Queued [] → is_served (waits_at f n) ≡ true
    all n t e q = ap is_served (seen n ∙ (ap (λ (o : Option (List ℕ)). option_map (λ (s : Subscriber). is_waiting s.waiting) (option_map (as_waiting h n) o)) e ∙ ap (λ (w : Waiting). Some (is_waiting w)) q))
