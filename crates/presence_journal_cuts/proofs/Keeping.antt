-- What is told of a legal history keeps what every delta keeps.
use Rattle.std.proofs.Common.{◌≡◌, ℕ, ◌≤◌, Bool, true, false, cond, ◌&&◌, ◌||◌, nat_le, nat_lt, List, [], ◌∷◌, Option, Some, None, is_none, refl, sym, ◌∙◌, ap, arith}
use Rattle.std.specs.List.{AllByRecursion, list_any, list_all}
use Rattle.std.specs.List.Sorted.{IsStrictlySortedBy}
use Rattle.std.specs.Map.{lookup, keys_of}
use Rattle.std.specs.Ordering.{is_eq}
use Rattle.std.specs.Cmp.{eq_by_cmp_equiv}
use Rattle.std.specs.declared.cmp.Ordering.TheVariants.{Less}
use Rattle.std.proofs.lemmas.Bool.{and_from, and_parts, le-leb}
use Rattle.presence_base.specs.declared.dots.TheConstants.{MAX_COUNT}
use Rattle.presence_base.specs.declared.dots.Replica.{Replica}
use Rattle.presence_base.specs.declared.dots.Dot.{Dot}
use Rattle.presence_base.specs.declared.row.Row.{Row}
use Rattle.presence_base.specs.Order.{dot_cmp, same_dot, same_replica}
use Rattle.dot_context.specs.Sets.{in_range}
use Rattle.dot_context.specs.Runs.{holds}
use Rattle.orswot_core.specs.Limits.{is_count, is_dot, is_row}
use Rattle.orswot_core.specs.Checks.{has_repeat}
use Rattle.delta_range.specs.Deltas.{IsDelta}
use Rattle.delta_range.specs.Longest.{longest}
use Rattle.delta_range.proofs.RunFacts.{longest_runs, holds_longest, ends_longest}
use Rattle.presence_journal.specs.History.{History, Begin, Then, start_of, own, count, last_cut, known, shown}
use Rattle.presence_journal.specs.Table.{IsLegal, IsStart}
use Rattle.presence_journal.proofs.PresentLemmas.{shown-row}
use Rattle.presence_journal.proofs.Same.{dot_total, same_replica-true}
use Rattle.presence_journal.proofs.Walking.{count-limit}
use Rattle.presence_journal.proofs.HistoryLemmas.{legal_knows, known_parts}
use Rattle.presence_journal.proofs.Fresh.{own_is}
use Rattle.presence_journal_known.proofs.RebornLemmas.{row_limits}
use Rattle.presence_journal_cuts.specs.Chains.{AreUpTo, Counts}
use Rattle.presence_journal_cuts.specs.Cuts.{older, recent, IsCut}
use Rattle.presence_journal_cuts.specs.Parting.{AreVacant}
use Rattle.presence_journal_cuts.specs.ToldParts.{row_of_count}
use Rattle.presence_journal_cuts.proofs.Histories.{last_cut-low}

-- ---- dots

pub start_legal : (h : History) → IsLegal h → IsStart (start_of h)
start_legal (Begin s) l = l
start_legal (Then h e) l = start_legal h l.0

count_test : (n : ℕ) → 1 ≤ n → n ≤ MAX_COUNT → is_count n ≡ true
count_test n p q = and_from (nat_le 1 n) (nat_le n MAX_COUNT) (le-leb 1 n p) (le-leb n MAX_COUNT q)

pub own_limit : (h : History) → IsLegal h → is_count (own h).incarnation ≡ true
own_limit h l = let limits = (own_is h l).incarnation in count_test (own h).incarnation limits.0 limits.1

pub known_is_dot : (h : History) → IsLegal h → (d : Dot) → d.replica ≡ own h → known h d ≡ true → is_dot d ≡ true
known_is_dot h l d o k =
    let p = known_parts h l d o k in
    let most = count-limit h l in
    and_from (is_count d.replica.incarnation) (is_count d.count)
    (ap (λ (r : Replica). is_count r.incarnation) o ∙ own_limit h l)
    (count_test d.count (omega (arith, p.0)) (omega (arith, p.1, most)))

-- ---- rows

recent_parts : (h : History) (d : Dot) (r : Row) → recent h d ≡ Some r → (in_range (own h) (last_cut h) (count h) d ≡ true) × (shown h d ≡ Some r)
unfolding recent
recent_parts h d r e = go (in_range (own h) (last_cut h) (count h) d) (shown h d) e
  where
    go : (b : Bool) (o : Option Row) → cond b o None ≡ Some r → (b ≡ true) × (o ≡ Some r)
    go true o f = (refl, f)
    go false o f = absurd (cc)

recent_limits : (h : History) → IsLegal h → (d : Dot) (r : Row) → recent h d ≡ Some r → (is_dot d && is_row r) ≡ true
recent_limits h l d r e =
    let parts = recent_parts h d r e in
    let has_row = (shown-row h d r parts.1).0 in
    let mine = same_replica-true d.replica (own h) (and_parts (same_replica d.replica (own h)) (nat_lt (last_cut h) d.count && nat_le d.count (count h)) parts.0).0 in
    and_from (is_dot d) (is_row r) (known_is_dot h l d mine ((legal_knows h l).of_row d r has_row)) (row_limits h l d r has_row)

-- ---- lists in order

-- each entry is the one that a look-up of its dot finds
pub each_found : (es : List (Dot × Row)) → IsStrictlySortedBy dot_cmp (keys_of es) → AllByRecursion (λ (e : Dot × Row). lookup (same_dot e.0) es ≡ Some e.1) es
unfolding IsStrictlySortedBy
each_found [] h = tt
each_found (e ∷ es) h = (
  ap (λ b. cond b (Some e.1) (lookup (same_dot e.0) es)) ((eq_by_cmp_equiv dot_total).refl e.0),
  found_later es h.0 (each_found es h.1),
)
  where
    found_later : (xs : List (Dot × Row)) → AllByRecursion (λ y. dot_cmp e.0 y ≡ Less) (keys_of xs) → AllByRecursion (λ (x : Dot × Row). lookup (same_dot x.0) es ≡ Some x.1) xs
        → AllByRecursion (λ (x : Dot × Row). cond (same_dot x.0 e.0) (Some e.1) (lookup (same_dot x.0) es) ≡ Some x.1) xs
    found_later [] above found = tt
    found_later (x ∷ xs) above found = (
      ap (λ b. cond b (Some e.1) (lookup (same_dot x.0) es)) ((eq_by_cmp_equiv dot_total).symm x.0 e.0 ∙ ap is_eq above.0) ∙ found.0,
      found_later xs above.1 found.1,
    )

pub no_repeat : (ks : List Dot) → IsStrictlySortedBy dot_cmp ks → has_repeat same_dot ks ≡ false
unfolding IsStrictlySortedBy
no_repeat [] h = refl
no_repeat (k ∷ ks) h = ap (λ b. b || has_repeat same_dot ks) (none_tied ks h.0) ∙ no_repeat ks h.1
  where
    none_tied : (xs : List Dot) → AllByRecursion (λ y. dot_cmp k y ≡ Less) xs → list_any (same_dot k) xs ≡ false
    none_tied [] above = refl
    none_tied (x ∷ xs) above = ap (λ o. is_eq o || list_any (same_dot k) xs) above.0 ∙ none_tied xs above.1

pub all_of : (P : Dot × Row → Type 0) (p : Dot × Row → Bool) → ((x : Dot × Row) → P x → p x ≡ true) → (xs : List (Dot × Row)) → AllByRecursion P xs → list_all p xs ≡ true
all_of P p f [] h = refl
all_of P p f (x ∷ xs) h = ap (λ b. b && list_all p xs) (f x h.0) ∙ all_of P p f xs h.1

-- ---- the delta

pub cut_keeps : (h : History) → IsLegal h → (row : ℕ → Option Row) (rs free : List (ℕ × ℕ)) (xs : List (Dot × Row)) → AreUpTo (last_cut h) rs → AreVacant row (longest rs) free → ((d : Dot) → lookup (same_dot d) xs ≡ recent h d) → IsStrictlySortedBy dot_cmp (keys_of xs)
    → IsDelta (record { owner = own h; from = last_cut h; to = count h; older = free; live = xs })
cut_keeps h l row rs free xs k vacant found sorted =
    let low = last_cut-low h l in
    let most = count-limit h l in
    let each = each_found xs sorted in
    record {
      range = and_from (is_count (own h).incarnation) (nat_le (last_cut h) MAX_COUNT && nat_le (count h) MAX_COUNT) (own_limit h l)
          (and_from (nat_le (last_cut h) MAX_COUNT) (nat_le (count h) MAX_COUNT) (le-leb (last_cut h) MAX_COUNT (omega (arith, low, most))) (le-leb (count h) MAX_COUNT most));
      forward = low;
      runs = vacant.runs (longest_runs rs k.0);
      below = vacant.below (last_cut h) (ends_longest (last_cut h) rs k.1);
      rows = all_of (λ (x : Dot × Row). lookup (same_dot x.0) xs ≡ Some x.1) (λ x. is_dot x.0 && is_row x.1) (λ x f. recent_limits h l x.0 x.1 (sym (found x.0) ∙ f)) xs each;
      within = all_of (λ (x : Dot × Row). lookup (same_dot x.0) xs ≡ Some x.1) (λ x. in_range (own h) (last_cut h) (count h) x.0) (λ x f. (recent_parts h x.0 x.1 (sym (found x.0) ∙ f)).0) xs each;
      once = no_repeat (keys_of xs) sorted;
    }

pub cut_is : (h : History) → (rs free : List (ℕ × ℕ)) (xs : List (Dot × Row)) → AreUpTo (last_cut h) rs → Counts (holds rs) (older h) → AreVacant (row_of_count h) (longest rs) free → ((d : Dot) → lookup (same_dot d) xs ≡ recent h d) → IsStrictlySortedBy dot_cmp (keys_of xs)
    → IsCut h (record { owner = own h; from = last_cut h; to = count h; older = free; live = xs })
cut_is h rs free xs k counts vacant found sorted = record {
  owner = refl;
  from = refl;
  to = refl;
  before = λ n low. vacant.counts n ∙ ap (λ b. b && is_none (row_of_count h n)) (holds_longest rs n k.0 ∙ counts n low);
  rows = found;
  in_order = sorted;
}
