-- What an entry changes, put in.
use Rattle.std.proofs.Common.{◌≡◌, ℕ, ◌+◌, ◌≤◌, Bool, true, false, cond, ◌&&◌, ◌||◌, nat_le, List, [], ◌++◌, Option, Some, None, refl, sym, ◌∙◌, ap, subst}
use Rattle.std.specs.BTreeMap.{get}
use Rattle.presence_base.specs.declared.dots.Dot.{Dot}
use Rattle.presence_base.specs.declared.row.Row.{Row}
use Rattle.presence_base.specs.Order.{dot_cmp, same_dot}
use Rattle.dot_context.specs.Runs.{holds, AreLong}
use Rattle.delta_range.specs.Longest.{up_to}
use Rattle.delta_range.proofs.RunFacts.{long_append, long_up_to, ends_up_to}
use Rattle.presence_journal.specs.declared.entry.Outcome.TheVariants as outcomes_are
use Rattle.presence_journal.specs.declared.entry.Outcome.{Outcome}
use Rattle.presence_journal.specs.declared.entry.Entry.{Entry}
use Rattle.presence_journal.specs.History.{History, Then, count, counts_used, cut_after, first_some, has_dot, row_added}
use Rattle.presence_journal.specs.Present.{dots_taken}
use Rattle.presence_journal.specs.Table.{IsLegal}
use Rattle.presence_journal.specs.Walk.{row_at, without_dots}
use Rattle.presence_journal.proofs.Same.{same_dot-sym, same_dot-true}
use Rattle.orswot_core.specs.Sets.{DotRows as DotSet}
use Rattle.presence_journal_known.specs.ByDot.{Alike, over}
use Rattle.presence_journal_cuts.specs.Chains.{Chains, AreChains, AreUpTo, TakesIn, kept_chain, unless_cut, recent_after}
use Rattle.presence_journal_cuts.specs.Cuts.{goes_by}
use Rattle.presence_journal_cuts.proofs.Handings.{long_handed}
use Rattle.presence_journal_cuts.proofs.RunLemmas.{all_append}
use Rattle.presence_journal_cuts.proofs.KeptLemmas.{kept_other}
use Rattle.presence_journal_cuts.specs.declared.change.Link.{Link}
use Rattle.presence_journal_cuts.specs.declared.change.Change.{Change}
use Rattle.presence_journal_cuts.specs.declared.untold.Untold.{Untold}
use Rattle.presence_journal_cuts.specs.Untold.{AreBelow, AreSettled, Follows}
use Rattle.presence_journal_cuts.specs.KeptDeltas.{renews_kept, AreKeptOf}
use Rattle.presence_journal_cuts.specs.Changes.{DotRows, told_in, dot_in, IsNew, IsWithoutDot, IsLinkOf, IsChange, IsLinked, LosesChains}
use Rattle.presence_journal_cuts.proofs.FreshLemmas.{added_stays}
use Rattle.presence_journal_cuts.proofs.ChainLemmas.{Hands, hands_on, stays_long, chains_then, unused_then, few_then, others_gone, links_gone, older_then, settled_then}
use Rattle.presence_journal_cuts.proofs.UntoldLemmas.{taken, uncut_plain}

abbrev Runs : Type 0
Runs = List (ℕ × ℕ)

-- ---- older counts

pub stays_last : (o : Outcome) (last : ℕ) → renews_kept o ≡ false → last ≡ cut_after o last
stays_last (outcomes_are.CutAt from to) last uncut = absurd (cc)
stays_last (outcomes_are.Reborn ps) last uncut = absurd (cc)
stays_last _ last uncut = refl

low_taken : (last : ℕ) (old gone new : Runs) → new ≡ old ++ gone → AreUpTo last gone → AreUpTo last old → AreUpTo last new
low_taken last old gone new is more k = subst (AreUpTo last) (sym is) (long_append old gone k.0 more.0, all_append (λ r. nat_le r.1 last) old gone k.1 more.1)

-- what goes with an update is at or below the last cut
links_low : (last unsettled : ℕ) (m : Chains) (o : Outcome) (l : Link) (gone : Runs) → AreChains m → IsLinkOf unsettled o m (Some l) → gone ≡ cond l.is_told (up_to last l.chain) [] → AreUpTo last gone
links_low last unsettled m (outcomes_are.Replaced new old) l gone long hands is = subst (AreUpTo last) (sym is) (go l.is_told)
  where
    chain_long : AreLong l.chain
    chain_long = subst AreLong (sym hands.chain) (long_handed (kept_chain m old.count) old.count (long old.count))

    go : (b : Bool) → AreUpTo last (cond b (up_to last l.chain) [])
    go true = (long_up_to last l.chain chain_long, ends_up_to last l.chain)
    go false = (tt, refl)
links_low last unsettled m _ l gone long none is = absurd (cc)

pub changes_plain : (last unsettled : ℕ) (m : Chains) (e : Entry) (c : Change) → ((d : Dot) → row_at c.row d ≡ row_added e.step e.outcome d) → c.link ≡ None → IsLinkOf unsettled e.outcome m None → TakesIn last m (told_in unsettled (dots_taken e.outcome)) [] c.gone.items → AreUpTo last c.gone.items → IsChange last unsettled m e c
changes_plain last unsettled m e c row none link counts low = record {
  row = row;
  link = subst (IsLinkOf unsettled e.outcome m) (sym none) link;
  counts = others_gone last unsettled m e.outcome c.gone.items link counts;
  low = low;
}

pub changes_linked : (last unsettled : ℕ) (m : Chains) (e : Entry) (c : Change) (l : Link) → AreChains m → ((d : Dot) → row_at c.row d ≡ row_added e.step e.outcome d) → c.link ≡ Some l → IsLinkOf unsettled e.outcome m (Some l) → c.gone.items ≡ cond l.is_told (up_to last l.chain) [] → IsChange last unsettled m e c
changes_linked last unsettled m e c l long row some link is = record {
  row = row;
  link = subst (IsLinkOf unsettled e.outcome m) (sym some) link;
  counts = links_gone last unsettled m e.outcome l c.gone.items link is;
  low = links_low last unsettled m e.outcome l c.gone.items long link is;
}

-- ---- rows

pub no_cut : (o : Outcome) (x : Option Row) → renews_kept o ≡ false → x ≡ unless_cut o x
no_cut (outcomes_are.CutAt from to) x uncut = absurd (cc)
no_cut _ x uncut = refl

at_added : (gone : Bool) (a x : Option Row) → ((r : Row) → a ≡ Some r → gone ≡ false) → cond gone None (first_some a x) ≡ first_some a (cond gone None x)
at_added gone None x stays = refl
at_added false (Some r) x stays = refl
at_added true (Some r) x stays = let f : true ≡ false = stays r refl in absurd (cc)

rows_taken : (h : History) (e : Entry) (f g : Dot → Option Row) (o : Option (Dot × Row)) → IsLegal (Then h e) → renews_kept e.outcome ≡ false → ((d : Dot) → row_at o d ≡ row_added e.step e.outcome d)
    → Alike g (without_dots (dots_taken e.outcome) (over (row_at o) f)) → Alike g (recent_after e f)
rows_taken h e f g o l uncut is after d =
    after d
    ∙ (ap (λ x. cond (has_dot (dots_taken e.outcome) d) None (first_some x (f d))) (is d)
    ∙ (at_added (has_dot (dots_taken e.outcome) d) (row_added e.step e.outcome d) (f d) (λ r there. added_stays h e d r l there)
    ∙ no_cut e.outcome (first_some (row_added e.step e.outcome d) (without_dots (dots_taken e.outcome) f d)) uncut))

-- without the new row it is as before
pub back : (o : Option (Dot × Row)) (x : Option Dot) (m n k : DotRows) → x ≡ dot_in o → IsNew o m → Alike (get dot_cmp n) (over (row_at o) (get dot_cmp m)) → IsWithoutDot x n k → Alike (get dot_cmp k) (get dot_cmp m)
back o x m n k is new there out = go o (subst (λ y. IsWithoutDot y n k) is out) new there
  where
    at : (r : Dot × Row) (d : Dot) (b : Bool) → same_dot r.0 d ≡ b → get dot_cmp m r.0 ≡ None → cond b None (first_some (cond (same_dot d r.0) (Some r.1) None) (get dot_cmp m d)) ≡ get dot_cmp m d
    at r d true p none = sym (ap (get dot_cmp m) (sym (same_dot-true r.0 d p)) ∙ none)
    at r d false p none = ap (λ b. first_some (cond b (Some r.1) None) (get dot_cmp m d)) (sym (same_dot-sym r.0 d) ∙ p)

    go : (y : Option (Dot × Row)) → IsWithoutDot (dot_in y) n k → IsNew y m → Alike (get dot_cmp n) (over (row_at y) (get dot_cmp m)) → Alike (get dot_cmp k) (get dot_cmp m)
    go None w none a = λ d. w d ∙ a d
    go (Some r) w none a = λ d. w d ∙ (ap (cond (same_dot r.0 d) None) (a d) ∙ at r d (same_dot r.0 d) refl none)

-- ---- all of it

pub committed : (u v : Untold) (e : Entry) (c : Change) (w : Chains) → renews_kept e.outcome ≡ false → IsChange u.last u.unsettled u.chains e c → v.own ≡ u.own → v.count ≡ u.count + counts_used e.outcome → v.last ≡ u.last → v.unsettled ≡ u.unsettled
    → v.older.items ≡ u.older.items ++ c.gone.items → IsLinked c.link u.chains w → LosesChains (dots_taken e.outcome) w v.chains
    → Alike (get dot_cmp v.rows) (without_dots (dots_taken e.outcome) (over (row_at c.row) (get dot_cmp u.rows))) → v.kept ≡ u.kept → (s : DotSet) → Follows u e s v
committed u v e c w uncut change owns counts last opens older put lost rows deltas s h l own_rows k =
    let hands : Hands e.outcome (kept_chain u.chains) (kept_chain v.chains) = hands_on u.unsettled e.outcome u.chains w v.chains c.link change.link put lost in
    taken u v e h l (uncut_plain e.outcome uncut) k (record {
      chains = chains_then h e u.chains v.chains l (uncut_plain e.outcome uncut) k.chains k.unused hands;
      unused = unused_then h e u.chains v.chains l (uncut_plain e.outcome uncut) k.chains k.unused hands;
      long = stays_long e.outcome u.chains v.chains hands k.long;
      few = subst (λ n. AreBelow (count (Then h e)) n (kept_chain v.chains)) (sym opens) (few_then h e u.unsettled (kept_chain u.chains) (kept_chain v.chains) l (uncut_plain e.outcome uncut) k.few hands);
      settled = subst (λ n. AreSettled n v.unsettled (kept_chain v.chains) v.older.items) (sym last) (subst (λ n. AreSettled u.last n (kept_chain v.chains) v.older.items) (sym opens)
          (settled_then e.outcome u.last u.unsettled (kept_chain u.chains) (kept_chain v.chains) u.older.items v.older.items k.settled hands after));
      unsettled = subst (λ n. n ≤ v.unsettled) (sym last) (subst (λ n. u.last ≤ n) (sym opens) k.unsettled);
      counts = λ n low. older_then h e u.last u.chains u.older.items v.older.items n l uncut k.chains k.last k.counts low (after n low);
      low = subst (λ n. AreUpTo n v.older.items) (sym last) (low_taken u.last u.older.items c.gone.items v.older.items older change.low k.low);
      rows = rows_taken h e (get dot_cmp u.rows) (get dot_cmp v.rows) c.row l uncut change.row rows;
      kept = subst (AreKeptOf (Then h e)) (sym deltas) (kept_other h e u.kept uncut k.kept);
      last = last ∙ stays_last e.outcome u.last uncut;
      own = owns;
      count = counts;
    })
  where
    after : (n : ℕ) → 1 ≤ n → holds v.older.items n ≡ (holds u.older.items n || (nat_le n u.last && goes_by e.outcome (kept_chain u.chains) n))
    after n low = ap (λ (rs : Runs). holds rs n) older ∙ change.counts u.older.items k.settled k.unsettled n low
