-- How far the counts of a replica go on, part by part.
use Rattle.std.proofs.Common.{◌≡◌, ℕ, ◌+◌, ◌<◌, ◌≤◌, Bool, true, false, nat_lt, nat_le, ◌||◌, List, [], length, get_or, take, drop, drop_of_length-le, refl, sym, ◌∙◌, ap, subst, arith}
use Rattle.std.specs.List.{list_any}
use Rattle.std.proofs.lemmas.Bool.{or_left, or_right, leb-true, leb-false}
use Rattle.std.proofs.lemmas.Bool.Decides.{nat_tests}
use Rattle.presence_base.specs.declared.dots.Dot.{Dot}
use Rattle.presence_base.specs.declared.dots.Replica.{Replica}
use Rattle.presence_base.specs.Order.{same_dot}
use Rattle.orswot_core.specs.Telling.{Range, range_has, covers}
use Rattle.presence_journal.specs.declared.entry.Entry.{Entry}
use Rattle.presence_journal.specs.declared.entry.Start.{Start}
use Rattle.presence_journal.specs.History.{History, Begin, Then, onto, own, own_after, count, count_after, is_counted, told_covers, known}
use Rattle.presence_journal.specs.Table.{IsLegal}
use Rattle.presence_journal.proofs.Walking.{IsCounted, counted_start, counted_more, own_more, drop_next}
use Rattle.presence_journal.proofs.Diffs.{legal_at}
use Rattle.presence_journal.proofs.HistoryLemmas.{legal_before, known-then}
use Rattle.presence_journal_known.specs.Reaching.{counts_of, Reaches}
use Rattle.presence_journal_known.proofs.StatusLemmas.{own-begin}
use Rattle.presence_journal_known.proofs.FrontLemmas.{front_next}
use Rattle.presence_journal_known.proofs.KnownLemmas.{known-begin}

-- a part, and the next one from there on

not_below : (a : ℕ) → false ≡ nat_lt a a
not_below a = grind (arith, nat_tests)

further : (a b c : ℕ) → nat_lt a b ≡ true → b ≤ c → true ≡ nat_lt a c
further a b c l m = grind (arith, nat_tests)

no_further : (a b : ℕ) → nat_lt a b ≡ false → a ≤ b → a ≡ b
no_further a b f l = grind (arith, nat_tests)

pub reach_none : (p : ℕ → Bool) (a : ℕ) → p (a + 1) ≡ false → Reaches p a a
reach_none p a none = record { order = omega arith; within = λ n low high. absurd (omega (arith, low, high)); next = none ∙ not_below a }

within_both : (p q : ℕ → Bool) (a b c n : ℕ) (t : Bool) → nat_le n b ≡ t → Reaches p a b → Reaches q b c → a < n → n ≤ c → (p n || q n) ≡ true
within_both p q a b c n true e f g low high = or_left (p n) (q n) (f.within n low (leb-true n b e))
within_both p q a b c n false e f g low high = or_right (p n) (q n) (g.within n (omega (arith, leb-false n b e)) high)

next_both : (p q : ℕ → Bool) (a b c : ℕ) (t : Bool) → nat_lt a b ≡ t → Reaches p a b → Reaches q b c → (p (a + 1) || q (a + 1)) ≡ nat_lt a c
next_both p q a b c true e f g = or_left (p (a + 1)) (q (a + 1)) (f.next ∙ e) ∙ further a b c e g.order
next_both p q a b c false e f g =
    ap (λ x. x || q (a + 1)) (f.next ∙ e) ∙ subst (λ (x : ℕ). q (x + 1) ≡ nat_lt x c) (sym (no_further a b e f.order)) g.next

pub reach_on : (p q : ℕ → Bool) (a b c : ℕ) → Reaches p a b → Reaches q b c → Reaches (λ n. p n || q n) a c
reach_on p q a b c f g = record {
  order = omega (arith, f.order, g.order);
  within = λ n low high. within_both p q a b c n (nat_le n b) refl f g low high;
  next = next_both p q a b c (nat_lt a b) refl f g;
}

pub reach_alike : (p q : ℕ → Bool) (a b : ℕ) → ((n : ℕ) → q n ≡ p n) → Reaches p a b → Reaches q a b
reach_alike p q a b same f = record { order = f.order; within = λ n low high. same n ∙ f.within n low high; next = same (a + 1) ∙ f.next }

-- the parts of a list, in their order

abbrev pub any_of : {A : Type 0} → (A → ℕ → Bool) → List A → ℕ → Bool
any_of has xs n = list_any (λ x. has x n) xs

-- what is reached by the rest of the list is reached by all of it
abbrev pub LeadsOn : {A : Type 0} → (A → ℕ → Bool) → List A → ℕ → ℕ → ℕ → Type 0
LeadsOn has xs i from reach = (to : ℕ) → Reaches (any_of has (drop i xs)) reach to → Reaches (any_of has xs) from to

pub leads_more : {A : Type 0} (has : A → ℕ → Bool) (xs : List A) (i from reach next : ℕ) (x : A) → i < length xs → x ≡ get_or xs i x → Reaches (has x) reach next → LeadsOn has xs i from reach → LeadsOn has xs (i + 1) from next
leads_more has xs i from reach next x lt is one before to f =
    before to (subst (λ ys. Reaches (any_of has ys) reach to) (sym (drop_next xs i x lt is)) (reach_on (has x) (any_of has (drop (i + 1) xs)) reach next to one f))

pub leads_all : {A : Type 0} (has : A → ℕ → Bool) (xs : List A) (i from reach : ℕ) → length xs ≤ i → LeadsOn has xs i from reach → Reaches (any_of has xs) from reach
leads_all has xs i from reach l before =
    before reach (subst (λ ys. Reaches (any_of has ys) reach reach) (sym (drop_of_length-le xs l)) (reach_none (any_of has []) reach refl))

abbrev pub range_counts : Replica → Range → ℕ → Bool
range_counts r g = counts_of (λ d. range_has d g) r

abbrev pub dot_counts : Replica → Dot → ℕ → Bool
dot_counts r x = counts_of (λ d. same_dot d x) r

-- what is known after so many entries

pub record ReachesTo (s : Start) (es : List Entry) (i : ℕ) (r : Replica) (from reach : ℕ) (o : Replica) (used : ℕ) : Type 0 where
  pub mine : o ≡ own (onto (Begin s) (take i es))
  pub reaches : Reaches (counts_of (known (onto (Begin s) (take i es))) r) from reach
  pub counted : IsCounted used (onto (Begin s) (take i es))

pub reaches_start : (s : Start) (es : List Entry) (r : Replica) (from reach : ℕ) → IsLegal (onto (Begin s) es) → Reaches (counts_of (covers s.content) r) from reach → ReachesTo s es 0 r from reach s.own s.count
reaches_start s es r from reach l f = record {
  mine = sym (own-begin s);
  reaches = reach_alike (counts_of (covers s.content) r) (counts_of (known (Begin s)) r) from reach (λ n. sym (known-begin s (record { replica = r; count = n }))) f;
  counted = counted_start s (legal_before (Begin s) es l);
}

entry_parts : (h : History) (e : Entry) (o : Replica) (used : ℕ) → o ≡ own (Then h e) → used ≡ count (Then h e) → (d : Dot) → known (Then h e) d ≡ ((known h d || is_counted o used d) || told_covers h e.step d)
entry_parts h e o used mine now d =
    known-then h e d
    ∙ ((λ j. known h d || (is_counted (sym mine j) (sym now j) d || told_covers h e.step d))
    ∙ sym (or_assoc (known h d) (is_counted o used d) (told_covers h e.step d)))
  where
    or_assoc : (a b c : Bool) → ((a || b) || c) ≡ (a || (b || c))
    or_assoc true b c = refl
    or_assoc false b c = refl

pub reaches_more : (s : Start) (es : List Entry) (i : ℕ) (e : Entry) (r o p : Replica) (from reach mid next used more : ℕ) → IsLegal (onto (Begin s) es) → i < length es → e ≡ get_or es i e → p ≡ own_after e.step o → more ≡ count_after e.outcome used
    → Reaches (counts_of (is_counted p more) r) reach mid → Reaches (counts_of (told_covers (onto (Begin s) (take i es)) e.step) r) mid next → ReachesTo s es i r from reach o used → ReachesTo s es (i + 1) r from next p more
reaches_more s es i e r o p from reach mid next used more l lt is owned m own_on told_on before =
    let h = onto (Begin s) (take i es) in
    let then = front_next (Begin s) es i e lt is in
    let counted : IsCounted more (Then h e) =
    subst (λ (n : ℕ). IsCounted n (Then h e)) (sym m) (counted_more used h e (legal_at (Begin s) es i e lt is l) before.counted) in
    let mine : p ≡ own (Then h e) = owned ∙ own_more o h e before.mine in
    let here = counts_of (known h) r in
    let ours = counts_of (is_counted p more) r in
    let theirs = counts_of (told_covers h e.step) r in
    let all = reach_on (λ n. here n || ours n) theirs from mid next (reach_on here ours from reach mid before.reaches own_on) told_on in
    record {
      mine = mine ∙ ap own (sym then);
      reaches = reach_alike (λ n. (here n || ours n) || theirs n) (counts_of (known (onto (Begin s) (take (i + 1) es))) r) from next
          (λ n. ap (λ (g : History). known g (record { replica = r; count = n })) then ∙ entry_parts h e p more mine counted.0 (record { replica = r; count = n })) all;
      counted = subst (λ (g : History). IsCounted more g) (sym then) counted;
    }
