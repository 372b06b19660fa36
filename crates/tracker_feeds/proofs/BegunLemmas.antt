-- The subscribers of a Start, one after another.
use Rattle.std.proofs.Common.{◌≡◌, ℕ, ◌+◌, ◌<◌, Bool, true, false, cond, ◌||◌, nat_eq, List, [], ◌∷◌, length, get_or, drop, drop-cons, add-one, Option, Some, None, option_map, is_some, refl, sym, ◌∙◌, ap, map as each}
use Rattle.std.specs.List.{list_any}
use Rattle.std.specs.Map.{lookup}
use Rattle.std.specs.Cmp.{nat_eq_equiv}
use Rattle.std.proofs.lemmas.Bool.{both_ways, or_parts, or_right, eq-eqb, eqb-true}
use Rattle.orswot_core.specs.Checks.{has_repeat}
use Rattle.presence_journal.specs.History.{first_some}
use Rattle.presence_journal.specs.Queue.{Waiting, Queued, left_by, is_current}
use Rattle.tracker_feeds.specs.Fed.{Subscriber, Fed, on_topic, found, newcomer, first_of, left_with, IsChanged}
use Rattle.tracker_feeds.specs.Laws.{AreNewcomers, IsBegun}

abbrev pub numbers : List (ℕ × List ℕ) → List ℕ
numbers xs = each (λ (x : ℕ × List ℕ). x.0) xs

abbrev pub newcomer_of : List (ℕ × List ℕ) → ℕ → Option Subscriber
newcomer_of xs n = option_map newcomer (lookup (nat_eq n) xs)

-- where these are still to come
pub record IsBeginning (all rest : List (ℕ × List ℕ)) (f : Fed) : Type 0 where
  pub so_far : (n : ℕ) → first_some (found f n) (newcomer_of rest n) ≡ newcomer_of all n
  pub apart : (n : ℕ) → is_some (lookup (nat_eq n) rest) ≡ true → found f n ≡ None
  pub once : has_repeat nat_eq (numbers rest) ≡ false
  pub delivered : f.delivered ≡ 0

pub beginning : (all rest : List (ℕ × List ℕ)) (f : Fed) → rest ≡ all → has_repeat nat_eq (numbers all) ≡ false → f ≡ record { subscribers = []; delivered = 0 } → IsBeginning all rest f
beginning all rest f is once empty = record {
  so_far = λ n. (λ i. first_some (found (empty i) n) (newcomer_of (is i) n));
  apart = λ n e. (λ i. found (empty i) n);
  once = ap (λ xs. has_repeat nat_eq (numbers xs)) is ∙ once;
  delivered = (λ i. (empty i).delivered);
}

same_number : (n : ℕ) → nat_eq n n ≡ true
same_number n = eq-eqb n n refl

turned : (m n : ℕ) (b : Bool) → nat_eq m n ≡ b → nat_eq n m ≡ b
turned m n b e = nat_eq_equiv.symm n m ∙ e

-- the next one is nobody yet
pub next_is_free : (all now rest : List (ℕ × List ℕ)) (x : ℕ × List ℕ) (f : Fed) → now ≡ x ∷ rest → IsBeginning all now f → found f x.0 ≡ None
next_is_free all now rest x f is b = b.apart x.0 (ap (λ (xs : List (ℕ × List ℕ)). is_some (lookup (nat_eq x.0) xs)) is ∙ ap (λ c. is_some (cond c (Some x.1) (lookup (nat_eq x.0) rest))) (same_number x.0))

-- what a look-up finds is in the list
among : (m n : ℕ) (xs : List (ℕ × List ℕ)) → nat_eq m n ≡ true → is_some (lookup (nat_eq n) xs) ≡ true → list_any (nat_eq m) (numbers xs) ≡ true
among m n [] e there = there
among m n (x ∷ xs) e there = go (nat_eq n x.0) refl there (among m n xs e)
  where
    go : (b : Bool) → nat_eq n x.0 ≡ b → is_some (cond b (Some x.1) (lookup (nat_eq n) xs)) ≡ true → (is_some (lookup (nat_eq n) xs) ≡ true → list_any (nat_eq m) (numbers xs) ≡ true) → (nat_eq m x.0 || list_any (nat_eq m) (numbers xs)) ≡ true
    go true f t rest = ap (λ b. b || list_any (nat_eq m) (numbers xs)) (ap (λ k. nat_eq k x.0) (eqb-true m n e) ∙ f)
    go false f t rest = or_right (nat_eq m x.0) (list_any (nat_eq m) (numbers xs)) (rest t)

pub begun_more : (all now rest : List (ℕ × List ℕ)) (x : ℕ × List ℕ) (f g : Fed) → now ≡ x ∷ rest → IsBeginning all now f → IsChanged f g x.0 (Some (newcomer x.1)) → IsBeginning all rest g
begun_more all now rest x f g is b change = record { so_far = so_far; apart = apart; once = parts.1; delivered = change.delivered ∙ b.delivered }
  where
    parts : (list_any (nat_eq x.0) (numbers rest) ≡ false) × (has_repeat nat_eq (numbers rest) ≡ false)
    parts = or_parts (list_any (nat_eq x.0) (numbers rest)) (has_repeat nat_eq (numbers rest)) (ap (λ (xs : List (ℕ × List ℕ)). has_repeat nat_eq (numbers xs)) (sym is) ∙ b.once)

    free : found f x.0 ≡ None
    free = b.apart x.0 (ap (λ (xs : List (ℕ × List ℕ)). is_some (lookup (nat_eq x.0) xs)) is ∙ ap (λ c. is_some (cond c (Some x.1) (lookup (nat_eq x.0) rest))) (same_number x.0))

    before : (n : ℕ) → first_some (found f n) (option_map newcomer (cond (nat_eq n x.0) (Some x.1) (lookup (nat_eq n) rest))) ≡ newcomer_of all n
    before n = ap (λ (xs : List (ℕ × List ℕ)). first_some (found f n) (newcomer_of xs n)) (sym is) ∙ b.so_far n

    so_far : (n : ℕ) → first_some (found g n) (newcomer_of rest n) ≡ newcomer_of all n
    so_far n = ap (λ o. first_some o (newcomer_of rest n)) (change.subscribers n) ∙ (go (nat_eq x.0 n) refl ∙ before n)
      where
        go : (c : Bool) → nat_eq x.0 n ≡ c → first_some (cond c (Some (newcomer x.1)) (found f n)) (newcomer_of rest n) ≡ first_some (found f n) (option_map newcomer (cond (nat_eq n x.0) (Some x.1) (lookup (nat_eq n) rest)))
        go true e = (λ i. first_some (sym (ap (found f) (sym (eqb-true x.0 n e)) ∙ free) i) (option_map newcomer (cond (sym (turned x.0 n true e) i) (Some x.1) (lookup (nat_eq n) rest))))
        go false e = ap (λ c. first_some (found f n) (option_map newcomer (cond c (Some x.1) (lookup (nat_eq n) rest)))) (sym (turned x.0 n false e))

    apart : (n : ℕ) → is_some (lookup (nat_eq n) rest) ≡ true → found g n ≡ None
    apart n there = change.subscribers n ∙ go (nat_eq x.0 n) refl
      where
        go : (c : Bool) → nat_eq x.0 n ≡ c → cond c (Some (newcomer x.1)) (found f n) ≡ None
        go true e = absurd (both_ways (list_any (nat_eq x.0) (numbers rest)) parts.0 (among x.0 n rest e there))
        go false e = b.apart n (ap (λ (xs : List (ℕ × List ℕ)). is_some (lookup (nat_eq n) xs)) is ∙ (ap (λ c. is_some (cond c (Some x.1) (lookup (nat_eq n) rest))) (turned x.0 n false e) ∙ there))

all_there : (o p : Option Subscriber) → first_some o None ≡ p → o ≡ p
all_there None p e = e
all_there (Some s) p e = e

pub begun_all : (all rest : List (ℕ × List ℕ)) (f : Fed) → rest ≡ [] → IsBeginning all rest f → AreNewcomers all f
begun_all all rest f none b = record {
  subscribers = λ n. all_there (found f n) (newcomer_of all n) (ap (λ (xs : List (ℕ × List ℕ)). first_some (found f n) (newcomer_of xs n)) (sym none) ∙ b.so_far n);
  delivered = b.delivered;
}

-- the current ones, one after another: each took what was owed to it

abbrev pub first_at : List (ℕ × List ℕ) → List ℕ → ℕ → Option Subscriber
first_at topics current n = option_map (first_of (is_current current n)) (lookup (nat_eq n) topics)

-- one that is still to come, or not
abbrev pub caught : Bool → Subscriber → Subscriber
caught coming s = cond coming (left_with 1 s) s

-- where these are still to come
pub record IsCatching (topics : List (ℕ × List ℕ)) (all rest : List ℕ) (f : Fed) : Type 0 where
  pub in_the_end : (n : ℕ) → option_map (caught (is_current rest n)) (found f n) ≡ first_at topics all n
  pub served : (n : ℕ) (s : Subscriber) → found f n ≡ Some s → left_by 1 s.waiting ≡ Queued []
  pub delivered : f.delivered ≡ 0

pub catching : (topics : List (ℕ × List ℕ)) (all rest : List ℕ) (f : Fed) → rest ≡ all → AreNewcomers topics f → IsCatching topics all rest f
catching topics all rest f is new = record {
  in_the_end = λ n. ap (option_map (caught (is_current rest n))) (new.subscribers n) ∙ (ends (is_current rest n) (lookup (nat_eq n) topics) ∙ ap (λ (ns : List ℕ). first_at topics ns n) is);
  served = λ n s e. first_served n s (lookup (nat_eq n) topics) (sym (new.subscribers n) ∙ e);
  delivered = new.delivered;
}
  where
    ends : (b : Bool) (o : Option (List ℕ)) → option_map (caught b) (option_map newcomer o) ≡ option_map (first_of b) o
    ends b None = refl
    ends true (Some t) = refl
    ends false (Some t) = refl

    first_served : (n : ℕ) (s : Subscriber) (o : Option (List ℕ)) → option_map newcomer o ≡ Some s → left_by 1 s.waiting ≡ Queued []
    first_served n s None e = absurd (cc)
    first_served n s (Some t) e = let same : newcomer t ≡ s = cc in ap (λ (x : Subscriber). left_by 1 x.waiting) (sym same)

-- one that takes once more is left as it was
takes_none : (s : Subscriber) (b : Bool) → left_by 1 s.waiting ≡ Queued [] → caught b (left_with 1 s) ≡ left_with 1 s
takes_none s false e = refl
takes_none s true e = ap (λ (w : Waiting). on_topic s.topic (left_by 1 w)) e ∙ ap (on_topic s.topic) (sym e)

pub number_next : (ns : List ℕ) (i : ℕ) → i < length ns → drop i ns ≡ get_or ns i 0 ∷ drop (i + 1) ns
number_next ns i l = drop-cons ns i 0 l ∙ (λ j. get_or ns i 0 ∷ drop (sym (add-one i) j) ns)

pub caught_more : (topics : List (ℕ × List ℕ)) (all now rest : List ℕ) (x : ℕ) (f g : Fed) → now ≡ x ∷ rest → IsCatching topics all now f → IsChanged f g x (option_map (left_with 1) (found f x)) → IsCatching topics all rest g
caught_more topics all now rest x f g is b change = record { in_the_end = in_the_end; served = served; delivered = change.delivered ∙ b.delivered }
  where
    before : (n : ℕ) → option_map (caught (nat_eq n x || is_current rest n)) (found f n) ≡ first_at topics all n
    before n = ap (λ (ns : List ℕ). option_map (caught (is_current ns n)) (found f n)) (sym is) ∙ b.in_the_end n

    again : (n : ℕ) (r : Bool) (o : Option Subscriber) → ((s : Subscriber) → o ≡ Some s → left_by 1 s.waiting ≡ Queued []) → option_map (caught r) (option_map (left_with 1) o) ≡ option_map (caught true) o
    again n r None k = refl
    again n r (Some s) k = ap Some (takes_none s r (k s refl))

    in_the_end : (n : ℕ) → option_map (caught (is_current rest n)) (found g n) ≡ first_at topics all n
    in_the_end n = ap (option_map (caught (is_current rest n))) (change.subscribers n) ∙ (go (nat_eq x n) refl ∙ before n)
      where
        go : (c : Bool) → nat_eq x n ≡ c → option_map (caught (is_current rest n)) (cond c (option_map (left_with 1) (found f x)) (found f n)) ≡ option_map (caught (nat_eq n x || is_current rest n)) (found f n)
        go true e =
            ap (λ (k : ℕ). option_map (caught (is_current rest n)) (option_map (left_with 1) (found f k))) (eqb-true x n e)
            ∙ (again n (is_current rest n) (found f n) (b.served n)
            ∙ ap (λ c. option_map (caught (c || is_current rest n)) (found f n)) (sym (turned x n true e)))
        go false e = ap (λ c. option_map (caught (c || is_current rest n)) (found f n)) (sym (turned x n false e))

    served : (n : ℕ) (s : Subscriber) → found g n ≡ Some s → left_by 1 s.waiting ≡ Queued []
    served n s e = go (nat_eq x n) refl (sym (change.subscribers n) ∙ e)
      where
        took : (o : Option Subscriber) → found f x ≡ o → option_map (left_with 1) o ≡ Some s → left_by 1 s.waiting ≡ Queued []
        took None p q = absurd (cc)
        took (Some s0) p q = let same : left_with 1 s0 ≡ s = cc in ap (λ (y : Subscriber). left_by 1 y.waiting) (sym same) ∙ ap (left_by 1) (b.served x s0 p)

        go : (c : Bool) → nat_eq x n ≡ c → cond c (option_map (left_with 1) (found f x)) (found f n) ≡ Some s → left_by 1 s.waiting ≡ Queued []
        go true p q = took (found f x) refl q
        go false p q = b.served n s q

pub caught_all : (topics : List (ℕ × List ℕ)) (all rest : List ℕ) (f : Fed) → rest ≡ [] → IsCatching topics all rest f → IsBegun topics all f
caught_all topics all rest f none b = record {
  subscribers = λ n. none_coming (found f n) ∙ (ap (λ (ns : List ℕ). option_map (caught (is_current ns n)) (found f n)) (sym none) ∙ b.in_the_end n);
  delivered = b.delivered;
}
  where
    none_coming : (o : Option Subscriber) → o ≡ option_map (caught false) o
    none_coming None = refl
    none_coming (Some s) = refl
