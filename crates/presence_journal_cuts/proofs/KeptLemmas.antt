-- The kept deltas of a history: it has them once, and the next cut goes on from them.
use Rattle.presence_journal.proofs.HistoryLemmas.{own-then}
use Rattle.std.proofs.Common.{◌≡◌, ℕ, zero, suc, ◌≤◌, false, ◌&&◌, ◌||◌, nat_le, nat_lt, List, [], ◌∷◌, refl, sym, ◌∙◌, subst, arith, Bool, true}
use Rattle.std.specs.Map.{lookup, keys_of}
use Rattle.std.specs.List.Sorted.{IsStrictlySortedBy}
use Rattle.std.specs.FinMap.Entries.{same_entries}
use Rattle.std.proofs.lemmas.Bool.Decides.{nat_tests}
use Rattle.presence_base.specs.declared.dots.Replica.{Replica}
use Rattle.presence_base.specs.declared.dots.Dot.{Dot}
use Rattle.presence_base.specs.declared.row.Row.{Row}
use Rattle.presence_base.specs.Order.{dot_cmp, same_dot}
use Rattle.dot_context.specs.Runs.{holds}
use Rattle.dot_context.proofs.FormFacts.{same_runs}
use Rattle.orswot_core.proofs.OrderFacts.{dot_total, dot_antisymmetric}
use Rattle.orswot_core.proofs.RowFacts.{find_is}
use Rattle.orswot_core.proofs.FullFacts.{passes, to_test}
use Rattle.delta_range.specs.Deltas.{DeltaValue, IsDelta, GoesOn}
use Rattle.delta_range.specs.Keeping.{Kept, pushed, IsNext}
use Rattle.presence_journal.specs.declared.entry.Outcome.TheVariants as outcomes_are
use Rattle.presence_journal.specs.declared.entry.Start.{Start}
use Rattle.presence_journal.specs.declared.entry.Outcome.{Outcome}
use Rattle.presence_journal.specs.declared.entry.Entry.{Entry}
use Rattle.presence_journal.specs.History.{History, Begin, Then, own, last_cut, cut_after, nothing_kept}
use Rattle.presence_journal.specs.Walk.{is_rebirth, is_reborn}
use Rattle.presence_journal_known.proofs.OwnLemmas.{plain_step}
use Rattle.presence_journal.specs.Table.{IsLegal}
use Rattle.presence_journal_cuts.specs.Cuts.{IsCut}
use Rattle.presence_journal_cuts.specs.KeptDeltas.{renews_kept, IsPushed, KeepsAfter, AreKeptOf}
use Rattle.presence_journal_cuts.proofs.Histories.{CutsHere, cuts_here}

-- ---- entry by entry

pub kept-begin : (s : Start) (k : Kept) → k ≡ s.kept → AreKeptOf (Begin s) k
unfolding AreKeptOf
kept-begin s k is = is

pub begin-kept : (s : Start) (k : Kept) → AreKeptOf (Begin s) k → k ≡ s.kept
unfolding AreKeptOf
begin-kept s k of = of

pub kept-then : (h : History) (e : Entry) (k : Kept) → KeepsAfter e.outcome (AreKeptOf h) h k → AreKeptOf (Then h e) k
unfolding AreKeptOf
kept-then h e k of = of

pub then-kept : (h : History) (e : Entry) (k : Kept) → AreKeptOf (Then h e) k → KeepsAfter e.outcome (AreKeptOf h) h k
unfolding AreKeptOf
then-kept h e k of = of

pub kept_cut : (h : History) (e : Entry) (k : Kept) (from to : ℕ) → e.outcome ≡ outcomes_are.CutAt from to → IsPushed (AreKeptOf h) h k → AreKeptOf (Then h e) k
kept_cut h e k from to is p = kept-then h e k (subst (λ (o : Outcome). KeepsAfter o (AreKeptOf h) h k) (sym is) p)

others_keep : (o : Outcome) (B : Kept → Type 0) (h : History) (k : Kept) → renews_kept o ≡ false → B k → KeepsAfter o B h k
others_keep (outcomes_are.CutAt from to) B h k uncut b = absurd (cc)
others_keep (outcomes_are.Reborn ps) B h k uncut b = absurd (cc)
others_keep _ B h k uncut b = b

others_kept : (o : Outcome) (B : Kept → Type 0) (h : History) (k : Kept) → renews_kept o ≡ false → KeepsAfter o B h k → B k
others_kept (outcomes_are.CutAt from to) B h k uncut b = absurd (cc)
others_kept (outcomes_are.Reborn ps) B h k uncut b = absurd (cc)
others_kept _ B h k uncut b = b

pub kept_other : (h : History) (e : Entry) (k : Kept) → renews_kept e.outcome ≡ false → AreKeptOf h k → AreKeptOf (Then h e) k
kept_other h e k uncut of = kept-then h e k (others_keep e.outcome (AreKeptOf h) h k uncut of)

pub other_kept : (h : History) (e : Entry) (k : Kept) → renews_kept e.outcome ≡ false → AreKeptOf (Then h e) k → AreKeptOf h k
other_kept h e k uncut of = others_kept e.outcome (AreKeptOf h) h k uncut (then-kept h e k of)

-- ---- one cut

none_at_zero : (rs : List (ℕ × ℕ)) → holds rs 0 ≡ false
none_at_zero [] = refl
none_at_zero (r ∷ rs) = (λ i. (not_below r.0 i && nat_le 0 r.1) || holds rs 0) ∙ none_at_zero rs
  where
    not_below : (a : ℕ) → nat_lt a 0 ≡ false
    not_below a = grind (arith, nat_tests)

same_counts : (rs ss : List (ℕ × ℕ)) → ((n : ℕ) → 1 ≤ n → holds rs n ≡ holds ss n) → (n : ℕ) → holds rs n ≡ holds ss n
same_counts rs ss same zero = none_at_zero rs ∙ sym (none_at_zero ss)
same_counts rs ss same (suc n) = same (suc n) (omega arith)

same_live : (xs ys : List (Dot × Row)) → IsStrictlySortedBy dot_cmp (keys_of xs) → IsStrictlySortedBy dot_cmp (keys_of ys) → ((d : Dot) → lookup (same_dot d) xs ≡ lookup (same_dot d) ys) → xs ≡ ys
same_live xs ys s t same =
    same_entries dot_cmp dot_total dot_antisymmetric xs ys (passes _ (to_test dot_cmp xs s)) (passes _ (to_test dot_cmp ys t))
    (λ d. find_is xs d ∙ same d ∙ sym (find_is ys d))

-- a history cuts one delta
pub one_cut : (h : History) (c d : DeltaValue) → IsDelta c → IsDelta d → IsCut h c → IsCut h d → c ≡ d
one_cut h c d sc sd p q =
    let owner : c.owner ≡ d.owner = p.owner ∙ sym q.owner in
    let from : c.from ≡ d.from = p.from ∙ sym q.from in
    let to : c.to ≡ d.to = p.to ∙ sym q.to in
    let older : c.older ≡ d.older = same_runs c.older d.older 0 0 sc.runs sd.runs (same_counts c.older d.older (λ n low. p.before n low ∙ sym (q.before n low))) in
    let live : c.live ≡ d.live = same_live c.live d.live p.in_order q.in_order (λ x. p.rows x ∙ sym (q.rows x)) in
    λ i. record { owner = owner i; from = from i; to = to i; older = older i; live = live i }

-- ---- one of each

once_after : (o : Outcome) (B : Kept → Type 0) (h : History) (j k : Kept) → ((a b : Kept) → B a → B b → a ≡ b) → KeepsAfter o B h j → KeepsAfter o B h k → j ≡ k
once_after (outcomes_are.CutAt from to) B h j k one p q =
    let before : p.before ≡ q.before = one p.before q.before p.was q.was in
    let delta : p.delta ≡ q.delta = one_cut h p.delta q.delta p.sound q.sound p.cut q.cut in
    p.is ∙ ((λ i. pushed (before i) (delta i)) ∙ sym q.is)
once_after (outcomes_are.Reborn ps) B h j k one p q = p ∙ sym q
once_after _ B h j k one p q = one j k p q

pub one_kept : (h : History) (j k : Kept) → AreKeptOf h j → AreKeptOf h k → j ≡ k
one_kept (Begin s) j k p q = begin-kept s j p ∙ sym (begin-kept s k q)
one_kept (Then h e) j k p q = once_after e.outcome (AreKeptOf h) h j k (one_kept h) (then-kept h e j p) (then-kept h e k q)

-- ---- the next cut

abbrev NextGoesOn : Replica → ℕ → Kept → Type 0
NextGoesOn r n k = (d : DeltaValue) → GoesOn r n d → IsNext k.last d

goes_on_after : (h : History) (o : Outcome) (k : Kept) → is_reborn o ≡ false → CutsHere h o → ((j : Kept) → AreKeptOf h j → NextGoesOn (own h) (last_cut h) j) → KeepsAfter o (AreKeptOf h) h k → NextGoesOn (own h) (cut_after o (last_cut h)) k
goes_on_after h (outcomes_are.Reborn ps) k a here before p = absurd (cc)
goes_on_after h (outcomes_are.CutAt from to) k a here before p =
    let owner : own h ≡ p.delta.owner = sym p.cut.owner in
    let end : to ≡ p.delta.to = here.1 ∙ sym p.cut.to in
    λ d next. subst (λ (j : Kept). IsNext j.last d) (sym p.is) (record { owned = next.owned ∙ owner; begins = next.begins ∙ end })
goes_on_after h _ k a here before p = before k p

begin_goes_on : (s : Start) (k : Kept) → NextGoesOn s.own s.last_cut s.kept → AreKeptOf (Begin s) k → NextGoesOn (own (Begin s)) (last_cut (Begin s)) k
unfolding own last_cut
begin_goes_on s k next of = subst (NextGoesOn s.own s.last_cut) (sym (begin-kept s k of)) next

then_goes_on : (h : History) (e : Entry) (k : Kept) → is_rebirth e.step ≡ false → NextGoesOn (own h) (cut_after e.outcome (last_cut h)) k → NextGoesOn (own (Then h e)) (last_cut (Then h e)) k
unfolding last_cut
then_goes_on h e k n next = subst (λ (r : Replica). NextGoesOn r (cut_after e.outcome (last_cut h)) k) (sym (own-then h e n)) next

anew : (o : Outcome) (B : Kept → Type 0) (h : History) (k : Kept) → is_reborn o ≡ true → KeepsAfter o B h k → k ≡ nothing_kept
anew (outcomes_are.Reborn ps) B h k a of = of
anew _ B h k a of = absurd (cc)

-- what is cut next goes on from the kept deltas
pub goes_on_from : (h : History) (k : Kept) → IsLegal h → AreKeptOf h k → (d : DeltaValue) → GoesOn (own h) (last_cut h) d → IsNext k.last d
goes_on_from (Begin s) k l of = begin_goes_on s k l.kept of
goes_on_from (Then h e) k l of = go (is_reborn e.outcome) refl (λ j p. goes_on_from h j l.0 p)
  where
    go : (b : Bool) → is_reborn e.outcome ≡ b → ((j : Kept) → AreKeptOf h j → NextGoesOn (own h) (last_cut h) j) → NextGoesOn (own (Then h e)) (last_cut (Then h e)) k
    go false a ih = then_goes_on h e k (plain_step h e l a) (goes_on_after h e.outcome k a (cuts_here h e.step e.outcome l.1) ih (then-kept h e k of))
    go true a ih = λ d next. subst (λ (j : Kept). IsNext j.last d) (sym (anew e.outcome (AreKeptOf h) h k a (then-kept h e k of))) tt

pub next_cut : (h : History) (k : Kept) (d : DeltaValue) → IsLegal h → AreKeptOf h k → IsCut h d → IsNext k.last d
next_cut h k d l of cut = goes_on_from h k l of d (record { owned = cut.owner; begins = cut.from })
