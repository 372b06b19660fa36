-- A legal entry keeps closed what the next cut tells of older counts, and the chains of the own rows.
use Rattle.std.proofs.Common.{◌≡◌, ℕ, ◌+◌, ◌<◌, ◌≤◌, Bool, true, false, cond, ◌&&◌, ◌||◌, nat_eq, nat_le, nat_lt, List, [], ◌∷◌, Option, Some, None, refl, sym, ◌∙◌, ap, subst, arith, inl, inr, eqb-true, eq-eqb, leb-true, le-leb, lt-ltb}
use Rattle.std.specs.Prelude.{◌⊎◌}
use Rattle.std.proofs.lemmas.Bool.{and_parts, and_from, or_cases, or_left, or_right, both_ways, false_from_ne_true}
use Rattle.presence_base.specs.declared.dots.Dot.{Dot}
use Rattle.presence_base.specs.declared.row.Row.{Row}
use Rattle.presence_base.specs.Order.{same_dot}
use Rattle.dot_context.specs.Runs.{holds}
use Rattle.orswot_core.specs.Full.{dot_of}
use Rattle.presence_journal.specs.declared.entry.Outcome.TheVariants as outcomes_are
use Rattle.presence_journal.specs.declared.entry.Outcome.{Outcome}
use Rattle.presence_journal.specs.declared.entry.Entry.{Entry}
use Rattle.presence_journal.specs.History.{History, Then, own, count, counts_used, next_dot, has_dot, first_some, row_added, shown, last_cut, cut_after}
use Rattle.presence_journal.specs.Present.{dots_taken}
use Rattle.presence_journal.specs.Table.{IsLegal}
use Rattle.presence_journal.proofs.Same.{same_dot-true, same_dot-refl}
use Rattle.presence_journal.proofs.PresentLemmas.{shown-row}
use Rattle.presence_journal.proofs.HistoryLemmas.{IsOwnShown, Kind, Adds, Replaces, Removes, Quiet, kind_of, is_quiet, quiet_row, legal_knows, count-then, kind_plain, own-then}
use Rattle.presence_journal_cuts.specs.Cuts.{stands_for, left_at, chain_after, chain, goes, goes_by, older_after, older}
use Rattle.presence_journal_cuts.specs.Handing.{handed}
use Rattle.presence_journal_cuts.specs.KeptDeltas.{renews_kept}
use Rattle.presence_journal_cuts.proofs.Histories.{CutsHere, cuts_here, last_cut-low, own_shown}
use Rattle.presence_journal_cuts.proofs.Goings.{chain_long}
use Rattle.presence_journal_cuts.proofs.Handings.{IsHanded, is_handed, handed_own}
use Rattle.presence_journal_laws.specs.Deeds.{Deeds, removes_by, with_entry}
use Rattle.presence_journal_laws.specs.Truth.{AreDeeds, IsOwners, IsShownAt, IsClosed}
use Rattle.presence_journal_laws.proofs.Effects.{Effects, effects}
use Rattle.presence_journal_laws.proofs.Entries.{at_own}
use Rattle.presence_journal.specs.Walk.{is_rebirth, is_reborn}

-- ---- what goes with dots

abbrev Chains : Type 0
Chains = ℕ → List (ℕ × ℕ)

abbrev Reaches : Chains → List Dot → ℕ → Type 0
Reaches ch ds n = (z : Dot) × (has_dot ds z ≡ true) × ((n ≡ z.count) ⊎ (holds (ch z.count) n ≡ true))

goes_from : (ch : Chains) (ds : List Dot) (n : ℕ) → goes ch ds n ≡ true → Reaches ch ds n
goes_from ch [] n f = absurd (cc)
goes_from ch (y ∷ ys) n f = go (or_cases (stands_for ch y.count n) (goes ch ys n) f) (goes_from ch ys n)
  where
    here : (n ≡ y.count) ⊎ (holds (ch y.count) n ≡ true) → Reaches ch (y ∷ ys) n
    here r = (y, or_left (same_dot y y) (has_dot ys y) (same_dot-refl y), r)

    pick : (nat_eq n y.count ≡ true) ⊎ (holds (ch y.count) n ≡ true) → Reaches ch (y ∷ ys) n
    pick (inl e) = here (inl (eqb-true n y.count e))
    pick (inr e) = here (inr e)

    go : (stands_for ch y.count n ≡ true) ⊎ (goes ch ys n ≡ true) → (goes ch ys n ≡ true → Reaches ch ys n) → Reaches ch (y ∷ ys) n
    go (inl g) ih = pick (or_cases (nat_eq n y.count) (holds (ch y.count) n) g)
    go (inr g) ih = let p = ih g in (p.0, or_right (same_dot p.0 y) (has_dot ys p.0) p.1, p.2)

stood : (ch : Chains) (c n : ℕ) → (n ≡ c) ⊎ (holds (ch c) n ≡ true) → stands_for ch c n ≡ true
stood ch c n (inl e) = or_left (nat_eq n c) (holds (ch c) n) (eq-eqb n c e)
stood ch c n (inr e) = or_right (nat_eq n c) (holds (ch c) n) e

goes_to : (ch : Chains) (ds : List Dot) (n : ℕ) → Reaches ch ds n → goes ch ds n ≡ true
goes_to ch [] n p = let q = p.1 in absurd (cc)
goes_to ch (y ∷ ys) n p = go (or_cases (same_dot p.0 y) (has_dot ys p.0) p.1) (λ m. goes_to ch ys n (p.0, m, p.2))
  where
    go : (same_dot p.0 y ≡ true) ⊎ (has_dot ys p.0 ≡ true) → (has_dot ys p.0 ≡ true → goes ch ys n ≡ true) → goes ch (y ∷ ys) n ≡ true
    go (inl e) ih = or_left (stands_for ch y.count n) (goes ch ys n) (subst (λ (z : Dot). stands_for ch z.count n ≡ true) (same_dot-true p.0 y e) (stood ch (p.0).count n p.2))
    go (inr m) ih = or_right (stands_for ch y.count n) (goes ch ys n) (ih m)

-- a dot that an update takes out is the old row's
one_taken : (old d : Dot) → has_dot (old ∷ []) d ≡ true → d.count ≡ old.count
one_taken old d f = go (or_cases (same_dot d old) false f)
  where
    go : (same_dot d old ≡ true) ⊎ (false ≡ true) → d.count ≡ old.count
    go (inl g) = ap (λ (z : Dot). z.count) (same_dot-true d old g)
    go (inr g) = absurd (cc)

-- ---- an entry that is neither a cut nor a rebirth

uncut_after : (o : Outcome) (n : ℕ) → renews_kept o ≡ false → cut_after o n ≡ n
uncut_after (outcomes_are.CutAt a b) n q = absurd (cc)
uncut_after (outcomes_are.Reborn ps) n q = absurd (cc)
uncut_after _ n q = refl

uncut_older : (o : Outcome) (last : ℕ) (ch : Chains) (old : ℕ → Bool) (n : ℕ) → renews_kept o ≡ false → older_after o last ch old n ≡ (old n || (nat_le n last && goes_by o ch n))
uncut_older (outcomes_are.CutAt a b) last ch old n q = absurd (cc)
uncut_older (outcomes_are.Reborn ps) last ch old n q = absurd (cc)
uncut_older _ last ch old n q = refl

goes_quiet : (o : Outcome) (ch : Chains) (n : ℕ) → is_quiet o ≡ true → goes_by o ch n ≡ goes ch (dots_taken o) n
goes_quiet (outcomes_are.Replaced a b) ch n q = absurd (cc)
goes_quiet _ ch n q = refl

unreplaced : (o : Outcome) (ch : Chains) (c : ℕ) → is_quiet o ≡ true → chain_after o ch c ≡ ch c
unreplaced (outcomes_are.Replaced a b) ch c q = absurd (cc)
unreplaced (outcomes_are.Reborn ps) ch c q = absurd (cc)
unreplaced _ ch c q = refl

module _ (x : Deeds) (h : History) (e : Entry) (are : AreDeeds x) (l : IsLegal (Then h e)) (lasts : is_rebirth e.step ≡ false) (o : IsOwners x h) (c : IsClosed x h) where
  abbrev y : Deeds
  y = with_entry x h e

  kind : Kind h e.step e.outcome
  kind = kind_of h e.step e.outcome lasts l.1

  plain : is_reborn e.outcome ≡ false
  plain = kind_plain h e.step e.outcome kind

  did : Effects h e
  did = effects h e kind

  own_low : (d : Dot) → IsOwnShown h d → (0 < d.count) × (d.count ≤ count h)
  own_low d s = let k = legal_knows h l.0 in k.of_own d s.own (k.of_row d s.row (shown-row h d s.row s.shown).0)

  shown_low : (n : ℕ) → IsShownAt h n → (0 < n) × (n ≤ count h)
  shown_low n s = own_low (dot_of (own h) n) (record { row = s.0; shown = s.1; own = refl })

  at_count : (d : Dot) → IsOwnShown h d → IsShownAt h d.count
  at_count d s = (s.row, ap (shown h) (at_own (own h) d s.own) ∙ s.shown)

  last_low : last_cut h ≤ count h
  last_low = last_cut-low h l.0

  abbrev Taken : ℕ → Type 0
  Taken n = has_dot (dots_taken e.outcome) (dot_of (own h) n) ≡ true

  taken_own : (z : Dot) → has_dot (dots_taken e.outcome) z ≡ true → IsOwnShown h z
  taken_own z f = (did.taken z f).2

  taken_count : (z : Dot) → has_dot (dots_taken e.outcome) z ≡ true → Taken z.count
  taken_count z f = ap (has_dot (dots_taken e.outcome)) (at_own (own h) z (taken_own z f).own) ∙ f

  new_removal : (m n : ℕ) → y.removes m n ≡ true → (x.removes m n ≡ true) ⊎ ((m ≡ count h + 1) × Taken n)
  new_removal m n f = go (or_cases (x.removes m n) (removes_by h e.outcome m n) f)
    where
      go : (x.removes m n ≡ true) ⊎ (removes_by h e.outcome m n ≡ true) → (x.removes m n ≡ true) ⊎ ((m ≡ count h + 1) × (has_dot (dots_taken e.outcome) (dot_of (own h) n) ≡ true))
      go (inl k) = inl k
      go (inr k) = let p = and_parts (nat_eq m (count h + 1)) (has_dot (dots_taken e.outcome) (dot_of (own h) n)) k in inr (eqb-true m (count h + 1) p.0, p.1)

  removal_low : (m n : ℕ) → x.removes m n ≡ true → (0 < n) × (n < m) × (m ≤ count h)
  removal_low m n k = let p = are.targets_in m n k in (p.0, p.1, omega (arith, p.2, o.used))

  removal_above : (m n : ℕ) → y.removes m n ≡ true → 0 < m
  removal_above m n f = go (new_removal m n f)
    where
      go : (x.removes m n ≡ true) ⊎ ((m ≡ count h + 1) × Taken n) → 0 < m
      go (inl k) = let p = removal_low m n k in omega (arith, p.0, p.1)
      go (inr k) = omega (arith, k.0)

  -- ---- what is shown

  abbrev Comes : Type 0
  Comes = (r : Row) × (row_added e.step e.outcome (next_dot h) ≡ Some r)

  shown_cases : (n : ℕ) → IsShownAt (Then h e) n → ((n ≡ count h + 1) × Comes) ⊎ (IsShownAt h n × (has_dot (dots_taken e.outcome) (dot_of (own h) n) ≡ false))
  shown_cases n s = go (row_added e.step e.outcome (dot_of (own h) n)) (has_dot (dots_taken e.outcome) (dot_of (own h) n)) refl refl (sym (own_shown h e (dot_of (own h) n) l plain refl) ∙ (ap (λ q. shown (Then h e) (dot_of q n)) (sym (own-then h e lasts)) ∙ s.1))
    where
      go : (a : Option Row) (b : Bool) → row_added e.step e.outcome (dot_of (own h) n) ≡ a → has_dot (dots_taken e.outcome) (dot_of (own h) n) ≡ b → first_some a (cond b None (shown h (dot_of (own h) n))) ≡ Some s.0
          → ((n ≡ count h + 1) × ((r : Row) × (row_added e.step e.outcome (next_dot h) ≡ Some r))) ⊎ (IsShownAt h n × (has_dot (dots_taken e.outcome) (dot_of (own h) n) ≡ false))
      go (Some r) b p q g = let at = (did.added (dot_of (own h) n) r p).0 in inl (ap (λ (d : Dot). d.count) at, (r, ap (row_added e.step e.outcome) (sym at) ∙ p))
      go None true p q g = absurd (cc)
      go None false p q g = inr ((s.0, g), q)

  -- ---- what an update hands on from a row that was shown

  module _ (old : Dot) (w : IsOwnShown h old) where
    abbrev Handed : ℕ → Type 0
    Handed n = holds (handed (chain h old.count) old.count) n ≡ true

    handed_cases : IsHanded (chain h old.count) old.count
    handed_cases = is_handed (chain h old.count) old.count (chain_long h l.0 old.count)

    handed_itself : Handed old.count
    handed_itself = handed_own (chain h old.count) old.count (chain_long h l.0 old.count) (own_low old w).0

    handed_low : (n : ℕ) → 0 < n → Handed n → n ≤ old.count
    handed_low n pos f = go handed_cases
      where
        pick : (holds (chain h old.count) n ≡ true) ⊎ (nat_eq n old.count ≡ true) → n ≤ old.count
        pick (inl g) = omega (arith, c.chain_low old.count n (at_count old w) pos g)
        pick (inr g) = omega (arith, eqb-true n old.count g)

        go : IsHanded (chain h old.count) old.count → n ≤ old.count
        go (inl is) = pick (or_cases (holds (chain h old.count) n) (nat_eq n old.count) (sym (is n (omega (arith, pos))) ∙ f))
        go (inr is) = leb-true n old.count (and_parts (nat_lt 0 n) (nat_le n old.count) (sym (is.0 n) ∙ f)).1

    handed_closed : (m n : ℕ) → x.removes m n ≡ true → Handed m → Handed n
    handed_closed m n k f = go handed_cases
      where
        low : (0 < n) × (n < m) × (m ≤ count h)
        low = removal_low m n k

        at_or_above : 0 < m
        at_or_above = omega (arith, low.0, low.1)

        pick : (holds (chain h old.count) m ≡ true) ⊎ (nat_eq m old.count ≡ true) → holds (chain h old.count) n ≡ true
        pick (inl g) = c.chain_closed old.count m n (at_count old w) g k
        pick (inr g) = c.chain_first old.count n (at_count old w) (ap (λ z. x.removes z n) (sym (eqb-true m old.count g)) ∙ k)

        go : IsHanded (chain h old.count) old.count → Handed n
        go (inl is) =
            is n (omega (arith, low.0))
            ∙ or_left (holds (chain h old.count) n) (nat_eq n old.count)
            (pick (or_cases (holds (chain h old.count) m) (nat_eq m old.count) (sym (is m (omega (arith, at_or_above))) ∙ f)))
        go (inr is) =
            is.0 n
            ∙ and_from (nat_lt 0 n) (nat_le n old.count) (lt-ltb 0 n low.0)
            (le-leb n old.count (omega (arith, low.1, handed_low m at_or_above f)))

  -- ---- what goes with the entry

  abbrev Goes : ℕ → Type 0
  Goes n = goes_by e.outcome (chain h) n ≡ true

  record GoesWith : Type 0 where
    taken : (n : ℕ) → Taken n → Goes n
    closed : (m n : ℕ) → x.removes m n ≡ true → Goes m → Goes n

  goes_replaced : (old : Dot) → e.outcome ≡ outcomes_are.Replaced (next_dot h) old → IsOwnShown h old → GoesWith
  goes_replaced old q w = record {
    taken = λ n f. is n ∙ (ap (holds (handed (chain h old.count) old.count)) (old_taken n f) ∙ handed_itself old w);
    closed = λ m n k f. is n ∙ handed_closed old w m n k (sym (is m) ∙ f);
  }
    where
      is : (n : ℕ) → goes_by e.outcome (chain h) n ≡ holds (handed (chain h old.count) old.count) n
      is n = ap (λ z. goes_by z (chain h) n) q

      old_taken : (n : ℕ) → has_dot (dots_taken e.outcome) (dot_of (own h) n) ≡ true → n ≡ old.count
      old_taken n f = one_taken old (dot_of (own h) n) (sym (ap (λ z. has_dot (dots_taken z) (dot_of (own h) n)) q) ∙ f)

  goes_others : ((n : ℕ) → goes_by e.outcome (chain h) n ≡ goes (chain h) (dots_taken e.outcome) n) → GoesWith
  goes_others is = record {
    taken = λ n f. is n ∙ goes_to (chain h) (dots_taken e.outcome) n (dot_of (own h) n, f, inl refl);
    closed = λ m n k f. is n ∙ goes_to (chain h) (dots_taken e.outcome) n (going m n k (goes_from (chain h) (dots_taken e.outcome) m (sym (is m) ∙ f)));
  }
    where
      going : (m n : ℕ) → x.removes m n ≡ true → Reaches (chain h) (dots_taken e.outcome) m → Reaches (chain h) (dots_taken e.outcome) n
      going m n k r = (r.0, r.1, inr (pick r.2))
        where
          up : IsShownAt h r.0.count
          up = at_count r.0 (taken_own r.0 r.1)

          pick : (m ≡ r.0.count) ⊎ (holds (chain h r.0.count) m ≡ true) → holds (chain h r.0.count) n ≡ true
          pick (inl q) = c.chain_first r.0.count n up (ap (λ z. x.removes z n) (sym q) ∙ k)
          pick (inr q) = c.chain_closed r.0.count m n up q k

  goes_with : GoesWith
  goes_with = go kind
    where
      go : Kind h e.step e.outcome → GoesWith
      go (Adds r m q s) = goes_others (λ n. ap (λ z. goes_by z (chain h) n) q ∙ sym (ap (λ z. goes (chain h) (dots_taken z) n) q))
      go (Replaces r old m q s w) = goes_replaced old q w
      go (Removes d ds q s a k) = goes_others (λ n. ap (λ z. goes_by z (chain h) n) q ∙ sym (ap (λ z. goes (chain h) (dots_taken z) n) q))
      go (Quiet q) = goes_others (λ n. goes_quiet e.outcome (chain h) n q)

  -- ---- older counts

  abbrev Now : ℕ → Type 0
  Now n = (older h n ≡ true) ⊎ ((n ≤ last_cut h) × Goes n)

  record OlderIs : Type 0 where
    low : (n : ℕ) → 0 < n → older (Then h e) n ≡ true → n ≤ last_cut (Then h e)
    all : (m n : ℕ) → y.removes m n ≡ true → last_cut (Then h e) < m → n ≤ last_cut (Then h e) → older (Then h e) n ≡ true
    closed : (m n : ℕ) → y.removes m n ≡ true → older (Then h e) m ≡ true → older (Then h e) n ≡ true

  older_uncut : renews_kept e.outcome ≡ false → OlderIs
  unfolding older last_cut
  older_uncut un = record { low = low; all = all; closed = closed }
    where
      last : cut_after e.outcome (last_cut h) ≡ last_cut h
      last = uncut_after e.outcome (last_cut h) un

      is : (n : ℕ) → older_after e.outcome (last_cut h) (chain h) (older h) n ≡ (older h n || (nat_le n (last_cut h) && goes_by e.outcome (chain h) n))
      is n = uncut_older e.outcome (last_cut h) (chain h) (older h) n un

      now : (n : ℕ) → older_after e.outcome (last_cut h) (chain h) (older h) n ≡ true → Now n
      now n f = go (or_cases (older h n) (nat_le n (last_cut h) && goes_by e.outcome (chain h) n) (sym (is n) ∙ f))
        where
          go : (older h n ≡ true) ⊎ ((nat_le n (last_cut h) && goes_by e.outcome (chain h) n) ≡ true) → Now n
          go (inl g) = inl g
          go (inr g) = let p = and_parts (nat_le n (last_cut h)) (goes_by e.outcome (chain h) n) g in inr (leb-true n (last_cut h) p.0, p.1)

      from_old : (n : ℕ) → older h n ≡ true → older_after e.outcome (last_cut h) (chain h) (older h) n ≡ true
      from_old n f = is n ∙ or_left (older h n) (nat_le n (last_cut h) && goes_by e.outcome (chain h) n) f

      from_going : (n : ℕ) → n ≤ last_cut h → Goes n → older_after e.outcome (last_cut h) (chain h) (older h) n ≡ true
      from_going n m r = is n ∙ or_right (older h n) (nat_le n (last_cut h) && goes_by e.outcome (chain h) n) (and_from (nat_le n (last_cut h)) (goes_by e.outcome (chain h) n) (le-leb n (last_cut h) m) r)

      low : (n : ℕ) → 0 < n → older_after e.outcome (last_cut h) (chain h) (older h) n ≡ true → n ≤ cut_after e.outcome (last_cut h)
      low n pos f = go (now n f)
        where
          go : Now n → n ≤ cut_after e.outcome (last_cut h)
          go (inl g) = omega (arith, c.older_low n pos g, last)
          go (inr g) = omega (arith, g.0, last)

      all : (m n : ℕ) → y.removes m n ≡ true → cut_after e.outcome (last_cut h) < m → n ≤ cut_after e.outcome (last_cut h) → older_after e.outcome (last_cut h) (chain h) (older h) n ≡ true
      all m n f a b = go (new_removal m n f)
        where
          go : (x.removes m n ≡ true) ⊎ ((m ≡ count h + 1) × Taken n) → older_after e.outcome (last_cut h) (chain h) (older h) n ≡ true
          go (inl k) = from_old n (c.older_all m n k (omega (arith, a, last)) (omega (arith, b, last)))
          go (inr k) = from_going n (omega (arith, b, last)) (goes_with.taken n k.1)

      closed : (m n : ℕ) → y.removes m n ≡ true → older_after e.outcome (last_cut h) (chain h) (older h) m ≡ true → older_after e.outcome (last_cut h) (chain h) (older h) n ≡ true
      closed m n f g = go (new_removal m n f) (now m g)
        where
          low_of : Now m → m ≤ last_cut h
          low_of (inl q) = c.older_low m (removal_above m n f) q
          low_of (inr q) = q.0

          go : (x.removes m n ≡ true) ⊎ ((m ≡ count h + 1) × Taken n) → Now m → older_after e.outcome (last_cut h) (chain h) (older h) n ≡ true
          go (inl k) (inl q) = from_old n (c.older_closed m n k q)
          go (inl k) (inr q) = from_going n (omega (arith, q.0, (removal_low m n k).1)) (goes_with.closed m n k q.1)
          go (inr k) q = absurd (omega (arith, k.0, low_of q, last_low))

  -- a cut tells all older counts, and every count is below its end
  older_cut : (a b : ℕ) → e.outcome ≡ outcomes_are.CutAt a b → OlderIs
  unfolding older last_cut
  older_cut a b q = record { low = λ n pos f. absurd (none n f); all = λ m n f u v. absurd (ended m n f u); closed = λ m n f g. absurd (none m g) }
    where
      none : (n : ℕ) → older_after e.outcome (last_cut h) (chain h) (older h) n ≡ true → ⊥
      none n f = let g : false ≡ true = sym (ap (λ z. older_after z (last_cut h) (chain h) (older h) n) q) ∙ f in absurd (cc)

      end : cut_after e.outcome (last_cut h) ≡ count h
      end = ap (λ z. cut_after z (last_cut h)) q ∙ (subst (CutsHere h) q (cuts_here h e.step e.outcome l.1)).1

      ended : (m n : ℕ) → y.removes m n ≡ true → cut_after e.outcome (last_cut h) < m → ⊥
      ended m n f u = go (new_removal m n f)
        where
          go : (x.removes m n ≡ true) ⊎ ((m ≡ count h + 1) × (has_dot (dots_taken e.outcome) (dot_of (own h) n) ≡ true)) → ⊥
          go (inl k) = omega (arith, (removal_low m n k).2, end, u)
          go (inr k) = let g : false ≡ true = sym (ap (λ z. has_dot (dots_taken z) (dot_of (own h) n)) q) ∙ k.1 in absurd (cc)

  older_is : OlderIs
  older_is = go e.outcome refl
    where
      go : (z : Outcome) → e.outcome ≡ z → OlderIs
      go (outcomes_are.CutAt a b) q = older_cut a b q
      go (outcomes_are.Added d) q = older_uncut (ap renews_kept q)
      go (outcomes_are.Replaced d old) q = older_uncut (ap renews_kept q)
      go outcomes_are.AlreadyTracked q = older_uncut (ap renews_kept q)
      go outcomes_are.NoPresence q = older_uncut (ap renews_kept q)
      go (outcomes_are.Removed ds) q = older_uncut (ap renews_kept q)
      go (outcomes_are.Shown ds) q = older_uncut (ap renews_kept q)
      go (outcomes_are.Subscribed n) q = older_uncut (ap renews_kept q)
      go (outcomes_are.Taken s i) q = older_uncut (ap renews_kept q)
      go outcomes_are.Ended q = older_uncut (ap renews_kept q)
      go outcomes_are.Sent q = older_uncut (ap renews_kept q)
      go outcomes_are.Noted q = older_uncut (ap renews_kept q)
      go outcomes_are.Merged q = older_uncut (ap renews_kept q)
      go (outcomes_are.Reborn ps) q = let f : false ≡ true = sym plain ∙ ap is_reborn q in absurd (cc)

  -- ---- chains

  record ChainsAre : Type 0 where
    first : (b n : ℕ) → IsShownAt (Then h e) b → y.removes b n ≡ true → holds (chain (Then h e) b) n ≡ true
    closed : (b m n : ℕ) → IsShownAt (Then h e) b → holds (chain (Then h e) b) m ≡ true → y.removes m n ≡ true → holds (chain (Then h e) b) n ≡ true
    low : (b n : ℕ) → IsShownAt (Then h e) b → 0 < n → holds (chain (Then h e) b) n ≡ true → n < b
    unused : (b n : ℕ) → count (Then h e) < b → 0 < n → holds (chain (Then h e) b) n ≡ false

  -- of a row that was shown before and has its chain still
  module _ (b : ℕ) (s : IsShownAt h b) where
    old_first : (n : ℕ) → y.removes b n ≡ true → holds (chain h b) n ≡ true
    old_first n f = go (new_removal b n f)
      where
        go : (x.removes b n ≡ true) ⊎ ((b ≡ count h + 1) × Taken n) → holds (chain h b) n ≡ true
        go (inl k) = c.chain_first b n s k
        go (inr k) = absurd (omega (arith, k.0, (shown_low b s).1))

    old_closed : (m n : ℕ) → holds (chain h b) m ≡ true → y.removes m n ≡ true → holds (chain h b) n ≡ true
    old_closed m n f g = go (new_removal m n g)
      where
        go : (x.removes m n ≡ true) ⊎ ((m ≡ count h + 1) × Taken n) → holds (chain h b) n ≡ true
        go (inl k) = c.chain_closed b m n s f k
        go (inr k) = absurd (omega (arith, k.0, c.chain_low b m s (removal_above m n g) f, (shown_low b s).1))

  abbrev Before : ℕ → Type 0
  Before b = ((b ≡ count h + 1) × Comes) ⊎ (IsShownAt h b × (has_dot (dots_taken e.outcome) (dot_of (own h) b) ≡ false))

  -- an entry that replaces no row
  chains_same : ((b : ℕ) → chain (Then h e) b ≡ chain h b) → ((n : ℕ) → Comes → Taken n → ⊥) → ChainsAre
  chains_same same apart = record { first = first; closed = closed; low = low; unused = λ b n u pos. at b n ∙ c.chain_unused b n (omega (arith, u, count-then h e plain)) pos }
    where
      at : (b n : ℕ) → holds (chain (Then h e) b) n ≡ holds (chain h b) n
      at b n = ap (λ (rs : List (ℕ × ℕ)). holds rs n) (same b)

      unused_here : (b n : ℕ) → b ≡ count h + 1 → 0 < n → holds (chain h b) n ≡ true → ⊥
      unused_here b n p pos f = both_ways (holds (chain h b) n) (c.chain_unused b n (omega (arith, p)) pos) f

      first : (b n : ℕ) → IsShownAt (Then h e) b → y.removes b n ≡ true → holds (chain (Then h e) b) n ≡ true
      first b n s f = at b n ∙ go (shown_cases b s)
        where
          fresh : b ≡ count h + 1 → Comes → (x.removes b n ≡ true) ⊎ ((b ≡ count h + 1) × Taken n) → holds (chain h b) n ≡ true
          fresh p r (inl k) = absurd (omega (arith, p, (removal_low b n k).2))
          fresh p r (inr k) = absurd (apart n r k.1)

          go : Before b → holds (chain h b) n ≡ true
          go (inl p) = fresh p.0 p.1 (new_removal b n f)
          go (inr p) = old_first b p.0 n f

      closed : (b m n : ℕ) → IsShownAt (Then h e) b → holds (chain (Then h e) b) m ≡ true → y.removes m n ≡ true → holds (chain (Then h e) b) n ≡ true
      closed b m n s f g = at b n ∙ go (shown_cases b s)
        where
          go : Before b → holds (chain h b) n ≡ true
          go (inl p) = absurd (unused_here b m p.0 (removal_above m n g) (sym (at b m) ∙ f))
          go (inr p) = old_closed b p.0 m n (sym (at b m) ∙ f) g

      low : (b n : ℕ) → IsShownAt (Then h e) b → 0 < n → holds (chain (Then h e) b) n ≡ true → n < b
      low b n s pos f = go (shown_cases b s)
        where
          go : Before b → n < b
          go (inl p) = absurd (unused_here b n p.0 pos (sym (at b n) ∙ f))
          go (inr p) = c.chain_low b n p.0 pos (sym (at b n) ∙ f)

  -- an update hands the old row's chain on
  chains_replaced : (old : Dot) → e.outcome ≡ outcomes_are.Replaced (next_dot h) old → IsOwnShown h old → ChainsAre
  unfolding chain
  chains_replaced old q w = record { first = first; closed = closed; low = low; unused = unused }
    where
      below : (0 < old.count) × (old.count ≤ count h)
      below = own_low old w

      now : (b : ℕ) → chain_after e.outcome (chain h) b ≡ cond (nat_eq b (count h + 1)) (handed (chain h old.count) old.count) (left_at old.count (chain h) b)
      now b = ap (λ z. chain_after z (chain h) b) q

      at_next : (b n : ℕ) → b ≡ count h + 1 → holds (chain_after e.outcome (chain h) b) n ≡ holds (handed (chain h old.count) old.count) n
      at_next b n p = ap (λ (rs : List (ℕ × ℕ)). holds rs n) (now b ∙ ap (λ z. cond z (handed (chain h old.count) old.count) (left_at old.count (chain h) b)) (eq-eqb b (count h + 1) p))

      elsewhere : (b : ℕ) → (b ≡ count h + 1 → ⊥) → (b ≡ old.count → ⊥) → chain_after e.outcome (chain h) b ≡ chain h b
      elsewhere b u v =
          now b
          ∙ ((λ i. cond (false_from_ne_true (nat_eq b (count h + 1)) (λ f. u (eqb-true b (count h + 1) f)) i) (handed (chain h old.count) old.count) (left_at old.count (chain h) b))
          ∙ ap (λ z. cond z [] (chain h b)) (false_from_ne_true (nat_eq b old.count) (λ f. v (eqb-true b old.count f))))

      kept : (b n : ℕ) → IsShownAt h b → has_dot (dots_taken e.outcome) (dot_of (own h) b) ≡ false → holds (chain_after e.outcome (chain h) b) n ≡ holds (chain h b) n
      kept b n s f = ap (λ (rs : List (ℕ × ℕ)). holds rs n) (elsewhere b (λ p. omega (arith, p, (shown_low b s).1)) (λ p. both_ways (has_dot (dots_taken e.outcome) (dot_of (own h) b)) f (is_taken p)))
        where
          is_taken : b ≡ old.count → has_dot (dots_taken e.outcome) (dot_of (own h) b) ≡ true
          is_taken p =
              ap (λ z. has_dot (dots_taken e.outcome) (dot_of (own h) z)) p
              ∙ (ap (has_dot (dots_taken e.outcome)) (at_own (own h) old w.own)
              ∙ (ap (λ z. has_dot (dots_taken z) old) q ∙ or_left (same_dot old old) false (same_dot-refl old)))

      old_taken : (n : ℕ) → has_dot (dots_taken e.outcome) (dot_of (own h) n) ≡ true → n ≡ old.count
      old_taken n f = one_taken old (dot_of (own h) n) (sym (ap (λ z. has_dot (dots_taken z) (dot_of (own h) n)) q) ∙ f)

      first : (b n : ℕ) → IsShownAt (Then h e) b → y.removes b n ≡ true → holds (chain_after e.outcome (chain h) b) n ≡ true
      first b n s f = go (shown_cases b s)
        where
          fresh : b ≡ count h + 1 → (x.removes b n ≡ true) ⊎ ((b ≡ count h + 1) × (has_dot (dots_taken e.outcome) (dot_of (own h) n) ≡ true)) → holds (handed (chain h old.count) old.count) n ≡ true
          fresh p (inl k) = absurd (omega (arith, p, (removal_low b n k).2))
          fresh p (inr k) = ap (holds (handed (chain h old.count) old.count)) (old_taken n k.1) ∙ handed_itself old w

          go : ((b ≡ count h + 1) × Comes) ⊎ (IsShownAt h b × (has_dot (dots_taken e.outcome) (dot_of (own h) b) ≡ false)) → holds (chain_after e.outcome (chain h) b) n ≡ true
          go (inl p) = at_next b n p.0 ∙ fresh p.0 (new_removal b n f)
          go (inr p) = kept b n p.0 p.1 ∙ old_first b p.0 n f

      closed : (b m n : ℕ) → IsShownAt (Then h e) b → holds (chain_after e.outcome (chain h) b) m ≡ true → y.removes m n ≡ true → holds (chain_after e.outcome (chain h) b) n ≡ true
      closed b m n s f g = go (shown_cases b s)
        where
          fresh : holds (handed (chain h old.count) old.count) m ≡ true → (x.removes m n ≡ true) ⊎ ((m ≡ count h + 1) × (has_dot (dots_taken e.outcome) (dot_of (own h) n) ≡ true)) → holds (handed (chain h old.count) old.count) n ≡ true
          fresh k (inl r) = handed_closed old w m n r k
          fresh k (inr r) = absurd (omega (arith, r.0, handed_low old w m (removal_above m n g) k, below.1))

          go : ((b ≡ count h + 1) × Comes) ⊎ (IsShownAt h b × (has_dot (dots_taken e.outcome) (dot_of (own h) b) ≡ false)) → holds (chain_after e.outcome (chain h) b) n ≡ true
          go (inl p) = at_next b n p.0 ∙ fresh (sym (at_next b m p.0) ∙ f) (new_removal m n g)
          go (inr p) = kept b n p.0 p.1 ∙ old_closed b p.0 m n (sym (kept b m p.0 p.1) ∙ f) g

      low : (b n : ℕ) → IsShownAt (Then h e) b → 0 < n → holds (chain_after e.outcome (chain h) b) n ≡ true → n < b
      low b n s pos f = go (shown_cases b s)
        where
          go : ((b ≡ count h + 1) × Comes) ⊎ (IsShownAt h b × (has_dot (dots_taken e.outcome) (dot_of (own h) b) ≡ false)) → n < b
          go (inl p) = omega (arith, p.0, handed_low old w n pos (sym (at_next b n p.0) ∙ f), below.1)
          go (inr p) = c.chain_low b n p.0 pos (sym (kept b n p.0 p.1) ∙ f)

      unused : (b n : ℕ) → count (Then h e) < b → 0 < n → holds (chain_after e.outcome (chain h) b) n ≡ false
      unused b n u pos =
          ap (λ (rs : List (ℕ × ℕ)). holds rs n) (elsewhere b (λ p. omega (arith, p, u, count-then h e plain, ap counts_used q)) (λ p. omega (arith, p, u, count-then h e plain, below.1)))
          ∙ c.chain_unused b n (omega (arith, u, count-then h e plain)) pos

  chains_are : ChainsAre
  unfolding chain
  chains_are = go kind
    where
      go : Kind h e.step e.outcome → ChainsAre
      go (Adds r m q s) = chains_same (λ b. ap (λ z. chain_after z (chain h) b) q) (λ n r f. let g : false ≡ true = sym (ap (λ z. has_dot (dots_taken z) (dot_of (own h) n)) q) ∙ f in absurd (cc))
      go (Replaces r old m q s w) = chains_replaced old q w
      go (Removes d ds q s a k) = chains_same (λ b. ap (λ z. chain_after z (chain h) b) q) (λ n r f. let g : None ≡ Some r.0 = sym (ap (λ z. row_added e.step z (next_dot h)) q) ∙ r.1 in absurd (cc))
      go (Quiet q) = chains_same (λ b. unreplaced e.outcome (chain h) b q) (λ n r f. let g : None ≡ Some r.0 = sym (quiet_row e.step e.outcome (next_dot h) q) ∙ r.1 in absurd (cc))

  pub closed_then : IsClosed (with_entry x h e) (Then h e)
  closed_then = record {
    older_low = older_is.low;
    older_all = older_is.all;
    older_closed = older_is.closed;
    chain_first = chains_are.first;
    chain_closed = chains_are.closed;
    chain_low = chains_are.low;
    chain_unused = chains_are.unused;
  }
