-- Behind entries that were asked and answered the same, histories that say the same still do.
use Rattle.std.proofs.Common.{◌≡◌, ◌↔◌, ℕ, ◌+◌, ◌<◌, ◌≤◌, Bool, true, false, cond, not, ◌&&◌, ◌||◌, nat_eq, nat_le, List, [], ◌∷◌, length, Option, Some, None, refl, sym, ◌∙◌, ap, subst, arith}
use Rattle.std.specs.Prelude.{max}
use Rattle.std.specs.List.{AllByRecursion}
use Rattle.presence_base.specs.declared.dots.Replica.{Replica}
use Rattle.presence_base.specs.declared.dots.Dot.{Dot}
use Rattle.presence_base.specs.declared.row.Row.{Row}
use Rattle.std.specs.Map.{lookup}
use Rattle.replica_status.specs.declared.standing.Standing.{Standing}
use Rattle.replica_status.specs.declared.standing.Standing.TheVariants.{Unheard, Up, Down, Gone}
use Rattle.replica_status.specs.Table.{put_down}
use Rattle.presence_base.specs.Order.{same_replica, same_dot}
use Rattle.orswot_core.specs.Telling.{ToldValue, covers, live_row}
use Rattle.delta_range.specs.Deltas.{DeltaValue}
use Rattle.delta_range.specs.Keeping.{Kept}
use Rattle.presence_journal.specs.declared.step.Step.TheVariants as steps_are
use Rattle.presence_journal.specs.declared.entry.Outcome.TheVariants as outcomes_are
use Rattle.presence_journal.specs.declared.step.Step.{Step}
use Rattle.presence_journal.specs.declared.entry.Outcome.{Outcome}
use Rattle.presence_journal.specs.declared.entry.Entry.{Entry}
use Rattle.presence_journal.specs.History.{History, Then, own, reborn, with_prev, row_again, count, counts_used, time, time_of, standing, standing_after, status, is_gone, last_cut, cut_after, next_dot, is_counted, told_covers, known, covered, first_some, has_dot, row_added, removed, row, live, shown}
use Rattle.presence_journal.specs.Present.{dots_taken}
use Rattle.presence_journal.specs.Table.{IsLegal, own_dots, reborn_from}
use Rattle.presence_journal.specs.Walk.{tells, is_rebirth, is_reborn}
use Rattle.presence_journal.specs.Merges.{is_of_rows, row_taken_in}
use Rattle.presence_journal.proofs.PresentLemmas.{shown-row}
use Rattle.presence_journal.proofs.Same.{same_replica-true}
use Rattle.presence_journal.proofs.Reborn.{IsAgain, again_of, own_dot, same_own_dots, again_parts}
use Rattle.presence_journal.proofs.HistoryLemmas.{Kind, IsOwnShown, kind_of, kind_plain, own_again, count_again, removed_again, row_again-is, again_unknown, first_none, is_own, legal_knows, known-then, live_by, own-then, count-then, shown-live, one_added}
use Rattle.presence_journal.proofs.Merges.{merge_is_live, own_steps_alone}
use Rattle.presence_journal_cuts.specs.Chains.{Counts}
use Rattle.presence_journal_cuts.specs.Cuts.{goes, chain, chain_after, older, older_after, IsCut}
use Rattle.presence_journal_cuts.specs.Handing.{handed}
use Rattle.dot_context.specs.Runs.{holds}
use Rattle.presence_journal_cuts.specs.KeptDeltas.{KeepsAfter, AreKeptOf}
use Rattle.presence_journal_cuts.proofs.KeptLemmas.{kept-then, then-kept}
use Rattle.presence_journal_cuts.specs.Checkpoints.{kept_row}
use Rattle.presence_journal_laws.specs.Later.{IsLike}
use Rattle.presence_journal_laws.proofs.Alikes.{status_from, hears_same, known_same, and_false}
use Rattle.presence_journal_laws.proofs.AlikeRows.{live_same, shown_same}
use Rattle.presence_journal_laws.proofs.AlikeTold.{turned, cut_of}
use Rattle.presence_journal_laws.proofs.Thens.{standing-then, time-then, cut-then, chain-then, older-then, there_before, taken_shown}

-- ---- a merge

pub record IsMerge (s : Step) : Type 0 where
  pub told : ToldValue
  pub is : s ≡ steps_are.Merge told

merge_of : (s : Step) → tells s ≡ true → IsMerge s
merge_of (steps_are.Merge t) f = record { told = t; is = refl }
merge_of _ f = absurd (cc)

no_rows_of : (s : Step) → tells s ≡ true → is_of_rows s ≡ false
no_rows_of (steps_are.Merge t) f = refl
no_rows_of _ f = absurd (cc)

-- ---- kept deltas

-- what an entry keeps by what one history kept and cuts, it keeps by another that keeps and cuts the same
carried : (g h : History) (o : Outcome) (k : Kept) → ((j : Kept) → AreKeptOf g j → AreKeptOf h j) → ((c : DeltaValue) → IsCut g c → IsCut h c) → KeepsAfter o (AreKeptOf g) g k → KeepsAfter o (AreKeptOf h) h k
carried g h (outcomes_are.CutAt from to) k keeps cuts p = record {
  before = p.before;
  was = keeps p.before p.was;
  delta = p.delta;
  cut = cuts p.delta p.cut;
  sound = p.sound;
  is = p.is;
}
carried g h (outcomes_are.Reborn ps) k keeps cuts p = p
carried g h _ k keeps cuts p = keeps k p

-- ---- chains

module _ (g h : History) (a : IsLike g h) where
  told_same : (s : Step) (d : Dot) → told_covers g s d ≡ told_covers h s d
  told_same (steps_are.Merge t) d = λ i. hears_same g h a d.replica i && covers t d
  told_same _ d = refl

  goes_same : (ds : List Dot) (n : ℕ) → 1 ≤ n → AllByRecursion (IsOwnShown h) ds → goes (chain g) ds n ≡ goes (chain h) ds n
  goes_same [] n low all = refl
  goes_same (d ∷ ds) n low all = λ i. (nat_eq n d.count || holds (a.chains d all.0.row all.0.own all.0.shown i) n) || goes_same ds n low all.1 i

  older_same : (o : Outcome) (n : ℕ) → 1 ≤ n → AllByRecursion (IsOwnShown h) (dots_taken o) → older_after o (last_cut g) (chain g) (older g) n ≡ older_after o (last_cut h) (chain h) (older h) n
  older_same (outcomes_are.CutAt from to) n low all = refl
  older_same (outcomes_are.Replaced new old) n low all = λ i. a.older n low i || (nat_le n (a.last_cut i) && holds (handed (a.chains old all.0.row all.0.own all.0.shown i) old.count) n)
  older_same (outcomes_are.Removed ds) n low all = λ i. a.older n low i || (nat_le n (a.last_cut i) && goes_same ds n low all i)
  older_same (outcomes_are.Reborn ps) n low all = refl
  older_same _ n low all = λ i. a.older n low i || (nat_le n (a.last_cut i) && false)

  chain_same : (o : Outcome) (c : ℕ) → AllByRecursion (IsOwnShown h) (dots_taken o) → chain g c ≡ chain h c → chain_after o (chain g) c ≡ chain_after o (chain h) c
  chain_same (outcomes_are.Replaced new old) c all e = λ i. cond (nat_eq c new.count) (handed (a.chains old all.0.row all.0.own all.0.shown i) old.count) (cond (nat_eq c old.count) [] (e i))
  chain_same (outcomes_are.Reborn ps) c all e = refl
  chain_same _ c all e = e

-- an own row that an entry brings is under the next dot
comes_next : (h : History) (e : Entry) (d : Dot) (r : Row) → IsLegal (Then h e) → is_rebirth e.step ≡ false → d.replica ≡ own h → shown h d ≡ None → shown (Then h e) d ≡ Some r → d ≡ next_dot h
comes_next h e d r l n o none some = go (tells e.step) refl
  where
    before : live h d ≡ None
    before = sym (shown-live h d o) ∙ none

    after : live (Then h e) d ≡ Some r
    after = sym (shown-live (Then h e) d (o ∙ sym (own-then h e n))) ∙ some

    kind : Kind h e.step e.outcome
    kind = kind_of h e.step e.outcome n l.1

    added : (x : Option Row) (b : Bool) → row_added e.step e.outcome d ≡ x → first_some x (cond b None None) ≡ Some r → d ≡ next_dot h
    added (Some x) b is f = (one_added h e d x kind is).0
    added None true is f = absurd (cc)
    added None false is f = absurd (cc)

    go : (b : Bool) → tells e.step ≡ b → d ≡ next_dot h
    go false t = added (row_added e.step e.outcome d) (has_dot (dots_taken e.outcome) d) refl
        (ap (λ x. first_some (row_added e.step e.outcome d) (cond (has_dot (dots_taken e.outcome) d) None x)) (sym before)
        ∙ (sym (live_by h e d (legal_knows h l.0) kind t) ∙ after))
    go true t =
        let same = ((own_steps_alone h e l (no_rows_of e.step t)).1 d o).live in
        let w : None ≡ Some r = sym before ∙ (sym same ∙ after) in
        absurd (cc)

-- ---- one entry more of each

module _ (g h : History) (e f : Entry) (a : IsLike g h) (lg : IsLegal (Then g e)) (lh : IsLegal (Then h f)) (p : e.step ≡ f.step) (q : e.outcome ≡ f.outcome) (n : is_rebirth f.step ≡ false) where
  ng : is_rebirth e.step ≡ false
  ng = ap is_rebirth p ∙ n

  plain_g : is_reborn e.outcome ≡ false
  plain_g = kind_plain g e.step e.outcome (kind_of g e.step e.outcome ng lg.1)

  plain_h : is_reborn f.outcome ≡ false
  plain_h = kind_plain h f.step f.outcome (kind_of h f.step f.outcome n lh.1)

  own_next : own (Then g e) ≡ own (Then h f)
  own_next = own-then g e ng ∙ (a.own ∙ sym (own-then h f n))

  count_next : count (Then g e) ≡ count (Then h f)
  count_next = count-then g e plain_g ∙ ((λ i. a.count i + counts_used (q i)) ∙ sym (count-then h f plain_h))

  standing_next : (r : Replica) → same_replica r (own (Then h f)) ≡ false → standing (Then g e) r ≡ standing (Then h f) r
  standing_next r apart =
      standing-then g e r
      ∙ ((λ i. standing_after (a.own i) (p i) (max (a.time i) (time_of (p i))) r (a.standings r (ap (same_replica r) (sym (own-then h f n)) ∙ apart) i))
      ∙ sym (standing-then h f r))

  status_next : (r : Replica) → status (Then g e) r ≡ status (Then h f) r
  status_next = status_from (Then g e) (Then h f) own_next standing_next

  told_next : (d : Dot) → told_covers g e.step d ≡ told_covers h f.step d
  told_next d = told_same g h a e.step d ∙ ap (λ s. told_covers h s d) p

  known_next : (d : Dot) → is_gone (status (Then h f) d.replica) ≡ false → known (Then g e) d ≡ known (Then h f) d
  known_next d there =
      known-then g e d
      ∙ ((λ i. known_same g h a d (there_before h f d.replica lh there) i || (is_counted (own_next i) (count_next i) d || told_next d i))
      ∙ sym (known-then h f d))

  covered_next : (d : Dot) → covered (Then g e) d ≡ covered (Then h f) d
  covered_next d = go (is_gone (status (Then h f) d.replica)) refl
    where
      go : (b : Bool) → is_gone (status (Then h f) d.replica) ≡ b → covered (Then g e) d ≡ covered (Then h f) d
      go true gone =
          ap (λ b. known (Then g e) d && not b) (ap is_gone (status_next d.replica) ∙ gone)
          ∙ (and_false (known (Then g e) d)
          ∙ sym (ap (λ b. known (Then h f) d && not b) gone ∙ and_false (known (Then h f) d)))
      go false there = λ i. known_next d there i && not (is_gone (status_next d.replica i))

  live_next : (d : Dot) → is_gone (status (Then h f) d.replica) ≡ false → live (Then g e) d ≡ live (Then h f) d
  live_next d there = go (tells e.step) refl
    where
      before : is_gone (status h d.replica) ≡ false
      before = there_before h f d.replica lh there

      go : (b : Bool) → tells e.step ≡ b → live (Then g e) d ≡ live (Then h f) d
      go false t =
          live_by g e d (legal_knows g lg.0) (kind_of g e.step e.outcome ng lg.1) t
          ∙ ((λ i. first_some (row_added (p i) (q i) d) (cond (has_dot (dots_taken (q i)) d) None (live_same g h a d before i)))
          ∙ sym (live_by h f d (legal_knows h lh.0) (kind_of h f.step f.outcome n lh.1) (ap tells (sym p) ∙ t)))
      go true t =
          let m = merge_of e.step t in
          merge_is_live g e lg m.told m.is d
          ∙ ((λ i. cond (hears_same g h a d.replica i) (row_taken_in (live_same g h a d before i) (known_same g h a d before i) (live_row m.told d) (covers m.told d)) (live_same g h a d before i))
          ∙ sym (merge_is_live h f lh m.told (sym p ∙ m.is) d))

  kept_next : (d : Dot) → kept_row (Then g e) d ≡ kept_row (Then h f) d
  kept_next d = go (is_gone (status (Then h f) d.replica)) refl
    where
      go : (b : Bool) → is_gone (status (Then h f) d.replica) ≡ b → kept_row (Then g e) d ≡ kept_row (Then h f) d
      go true gone =
          ap (λ b. cond b None (live (Then g e) d)) (ap is_gone (status_next d.replica) ∙ gone)
          ∙ sym (ap (λ b. cond b None (live (Then h f) d)) gone)
      go false there = λ i. cond (is_gone (status_next d.replica i)) None (live_next d there i)

  taken : AllByRecursion (IsOwnShown h) (dots_taken f.outcome)
  taken = taken_shown h f.step f.outcome (kind_of h f.step f.outcome n lh.1)

  older_next : Counts (older (Then g e)) (older (Then h f))
  older_next m low =
      older-then g e m
      ∙ (ap (λ o. older_after o (last_cut g) (chain g) (older g) m) q
      ∙ (older_same g h a f.outcome m low taken
      ∙ sym (older-then h f m)))

  chain_next : (c : ℕ) → chain g c ≡ chain h c → chain (Then g e) c ≡ chain (Then h f) c
  chain_next c same =
      chain-then g e c
      ∙ (ap (λ o. chain_after o (chain g) c) q
      ∙ (chain_same g h a f.outcome c taken same
      ∙ sym (chain-then h f c)))

  chains_next : (d : Dot) (r : Row) → d.replica ≡ own (Then h f) → shown (Then h f) d ≡ Some r → chain (Then g e) d.count ≡ chain (Then h f) d.count
  chains_next d r o s = chain_next d.count (go (shown h d) refl)
    where
      mine : d.replica ≡ own h
      mine = o ∙ own-then h f n

      go : (x : Option Row) → shown h d ≡ x → chain g d.count ≡ chain h d.count
      go (Some x) is = a.chains d x mine is
      go None is =
          let next : d.count ≡ count h + 1 = ap (λ (x : Dot). x.count) (comes_next h f d r lh n mine is s) in
          a.unused d.count (omega (arith, next))

  unused_next : (c : ℕ) → count (Then h f) < c → chain (Then g e) c ≡ chain (Then h f) c
  unused_next c l = chain_next c (a.unused c (omega (arith, l, count-then h f plain_h)))

  deltas_next : (k : Kept) → AreKeptOf (Then g e) k ↔ AreKeptOf (Then h f) k
  deltas_next k = (
    λ of. kept-then h f k (subst (λ (o : Outcome). KeepsAfter o (AreKeptOf h) h k) q (carried g h e.outcome k (λ j. (a.deltas j).0) (λ c. cut_of h g c (turned g h a)) (then-kept g e k of))),
    λ of. kept-then g e k (subst (λ (o : Outcome). KeepsAfter o (AreKeptOf g) g k) (sym q) (carried h g f.outcome k (λ j. (a.deltas j).1) (λ c. cut_of g h c a) (then-kept h f k of))),
  )

  alike_plain : IsLike (Then g e) (Then h f)
  alike_plain = record {
    standings = standing_next;
    covers = covered_next;
    rows = kept_next;
    older = older_next;
    chains = chains_next;
    unused = unused_next;
    deltas = deltas_next;
    time = time-then g e ∙ ((λ i. max (a.time i) (time_of (p i))) ∙ sym (time-then h f));
    last_cut = cut-then g e ∙ ((λ i. cut_after (q i) (a.last_cut i)) ∙ sym (cut-then h f));
    own = own_next;
    count = count_next;
  }

-- ---- a rebirth of each

abbrev incarnation_of : Step → ℕ
incarnation_of (steps_are.Rebirth i) = i
incarnation_of _ = 0

standing_down : (o : Replica) (s : Step) (t : ℕ) (r : Replica) (x : Standing) → is_rebirth s ≡ true → same_replica r o ≡ true → standing_after o s t r x ≡ Gone
standing_down o (steps_are.Rebirth i) t r x n f = ap (λ b. cond b (put_down x) x) f ∙ down x
  where
    down : (x : Standing) → put_down x ≡ Gone
    down Unheard = refl
    down (Up heard) = refl
    down (Down heard) = refl
    down Gone = refl
standing_down o _ t r x n f = absurd (cc)

-- what is live of the new replica are the rows that were shown
live_new : (h : History) (e : Entry) (d : Dot) (w : IsAgain h e.step e.outcome) → IsLegal h → d.replica ≡ own (Then h e) → live (Then h e) d ≡ row_again (shown h) (lookup (same_dot d) (reborn_from (reborn (own h) w.incarnation) 0 (own_dots h)))
unfolding live
live_new h e d w l o =
    (λ i. cond (removed_again h e d w i) None (row_again-is h e d w i))
    ∙ ((λ i. cond (unremoved i) None (first_some (rowless i) (row_again (row h) (lookup (same_dot d) (reborn_from (reborn (own h) w.incarnation) 0 (own_dots h))))))
    ∙ found (lookup (same_dot d) (reborn_from (reborn (own h) w.incarnation) 0 (own_dots h))) refl)
  where
    unknown : known h d ≡ true → ⊥
    unknown = again_unknown h d w.incarnation w.fresh (o ∙ own_again h e w)

    unremoved : removed h d ≡ false
    unremoved = go (removed h d) refl
      where
        go : (b : Bool) → removed h d ≡ b → b ≡ false
        go false f = refl
        go true f = absurd (unknown ((legal_knows h l).of_removed d f))

    rowless : row h d ≡ None
    rowless = go (row h d) refl
      where
        go : (x : Option Row) → row h d ≡ x → x ≡ None
        go None f = refl
        go (Some r) f = absurd (unknown ((legal_knows h l).of_row d r f))

    found : (x : Option Dot) → lookup (same_dot d) (reborn_from (reborn (own h) w.incarnation) 0 (own_dots h)) ≡ x → row_again (row h) x ≡ row_again (shown h) x
    found None f = refl
    found (Some old) f =
        let g = own_dot h old (again_parts (reborn (own h) w.incarnation) 0 (own_dots h) d old f).3 in
        ap (with_prev old) ((shown-row h old g.row g.shown).0 ∙ sym g.shown)

-- and of any other one the same as before
live_stays : (h : History) (e : Entry) (d : Dot) (w : IsAgain h e.step e.outcome) → same_replica d.replica (own (Then h e)) ≡ false → live (Then h e) d ≡ live h d
unfolding live
live_stays h e d w f =
    (λ i. cond (removed_again h e d w i) None (row_again-is h e d w i))
    ∙ (ap (λ x. cond (removed h d) None (first_some (row h d) (row_again (row h) x))) (none (lookup (same_dot d) (reborn_from (reborn (own h) w.incarnation) 0 (own_dots h))) refl)
    ∙ ap (λ o. cond (removed h d) None o) (first_none (row h d)))
  where
    none : (x : Option Dot) → lookup (same_dot d) (reborn_from (reborn (own h) w.incarnation) 0 (own_dots h)) ≡ x → x ≡ None
    none None p = refl
    none (Some old) p =
        let o : d.replica ≡ own (Then h e) = (again_parts (reborn (own h) w.incarnation) 0 (own_dots h) d old p).0 ∙ sym (own_again h e w) in
        let q : true ≡ false = sym (is_own (Then h e) d o) ∙ f in
        absurd (cc)

module _ (g h : History) (e f : Entry) (a : IsLike g h) (lg : IsLegal (Then g e)) (lh : IsLegal (Then h f)) (p : e.step ≡ f.step) (q : e.outcome ≡ f.outcome) (v : IsAgain g e.step e.outcome) (w : IsAgain h f.step f.outcome) where
  new_same : reborn (own g) v.incarnation ≡ reborn (own h) w.incarnation
  new_same = let n : v.incarnation ≡ w.incarnation = ap incarnation_of (sym v.step ∙ (p ∙ w.step)) in λ i. reborn (a.own i) (n i)

  dots_same : own_dots g ≡ own_dots h
  dots_same = same_own_dots g h a.own (shown_same g h a)

  own_anew : own (Then g e) ≡ own (Then h f)
  own_anew = own_again g e v ∙ (new_same ∙ sym (own_again h f w))

  count_anew : count (Then g e) ≡ count (Then h f)
  count_anew = count_again g e v ∙ (ap length dots_same ∙ sym (count_again h f w))

  standing_anew : (r : Replica) → same_replica r (own (Then h f)) ≡ false → standing (Then g e) r ≡ standing (Then h f) r
  standing_anew r apart = standing-then g e r ∙ (go (same_replica r (own h)) refl ∙ sym (standing-then h f r))
    where
      go : (b : Bool) → same_replica r (own h) ≡ b → standing_after (own g) e.step (max (time g) (time_of e.step)) r (standing g r) ≡ standing_after (own h) f.step (max (time h) (time_of f.step)) r (standing h r)
      go false o = λ i. standing_after (a.own i) (p i) (max (a.time i) (time_of (p i))) r (a.standings r o i)
      go true o =
          standing_down (own g) e.step (max (time g) (time_of e.step)) r (standing g r) (ap is_rebirth v.step) (ap (same_replica r) a.own ∙ o)
          ∙ sym (standing_down (own h) f.step (max (time h) (time_of f.step)) r (standing h r) (ap is_rebirth w.step) o)

  status_anew : (r : Replica) → status (Then g e) r ≡ status (Then h f) r
  status_anew = status_from (Then g e) (Then h f) own_anew standing_anew

  known_anew : (d : Dot) → is_gone (status (Then h f) d.replica) ≡ false → known (Then g e) d ≡ known (Then h f) d
  known_anew d there =
      known-then g e d
      ∙ ((λ i. known_same g h a d (there_before h f d.replica lh there) i || (is_counted (own_anew i) (count_anew i) d || (told_same g h a e.step d ∙ ap (λ s. told_covers h s d) p) i))
      ∙ sym (known-then h f d))

  covered_anew : (d : Dot) → covered (Then g e) d ≡ covered (Then h f) d
  covered_anew d = go (is_gone (status (Then h f) d.replica)) refl
    where
      go : (b : Bool) → is_gone (status (Then h f) d.replica) ≡ b → covered (Then g e) d ≡ covered (Then h f) d
      go true gone =
          ap (λ b. known (Then g e) d && not b) (ap is_gone (status_anew d.replica) ∙ gone)
          ∙ (and_false (known (Then g e) d)
          ∙ sym (ap (λ b. known (Then h f) d && not b) gone ∙ and_false (known (Then h f) d)))
      go false there = λ i. known_anew d there i && not (is_gone (status_anew d.replica i))

  live_anew : (d : Dot) → is_gone (status (Then h f) d.replica) ≡ false → live (Then g e) d ≡ live (Then h f) d
  live_anew d there = go (same_replica d.replica (own (Then h f))) refl
    where
      again : (x : Option Dot) → row_again (shown g) x ≡ row_again (shown h) x
      again None = refl
      again (Some old) = ap (with_prev old) (shown_same g h a old)

      go : (b : Bool) → same_replica d.replica (own (Then h f)) ≡ b → live (Then g e) d ≡ live (Then h f) d
      go true o =
          let mine = same_replica-true d.replica (own (Then h f)) o in
          live_new g e d v lg.0 (mine ∙ sym own_anew)
          ∙ (again (lookup (same_dot d) (reborn_from (reborn (own g) v.incarnation) 0 (own_dots g)))
          ∙ ((λ i. row_again (shown h) (lookup (same_dot d) (reborn_from (new_same i) 0 (dots_same i))))
          ∙ sym (live_new h f d w lh.0 mine)))
      go false o = live_stays g e d v (ap (same_replica d.replica) own_anew ∙ o) ∙ (live_same g h a d (there_before h f d.replica lh there) ∙ sym (live_stays h f d w o))

  kept_anew : (d : Dot) → kept_row (Then g e) d ≡ kept_row (Then h f) d
  kept_anew d = go (is_gone (status (Then h f) d.replica)) refl
    where
      go : (b : Bool) → is_gone (status (Then h f) d.replica) ≡ b → kept_row (Then g e) d ≡ kept_row (Then h f) d
      go true gone =
          ap (λ b. cond b None (live (Then g e) d)) (ap is_gone (status_anew d.replica) ∙ gone)
          ∙ sym (ap (λ b. cond b None (live (Then h f) d)) gone)
      go false there = λ i. cond (is_gone (status_anew d.replica i)) None (live_anew d there i)

  older_anew : Counts (older (Then g e)) (older (Then h f))
  older_anew m low =
      older-then g e m
      ∙ (ap (λ o. older_after o (last_cut g) (chain g) (older g) m) v.outcome
      ∙ sym (older-then h f m ∙ ap (λ o. older_after o (last_cut h) (chain h) (older h) m) w.outcome))

  chain_anew : (c : ℕ) → chain (Then g e) c ≡ chain (Then h f) c
  chain_anew c =
      chain-then g e c
      ∙ (ap (λ o. chain_after o (chain g) c) v.outcome
      ∙ sym (chain-then h f c ∙ ap (λ o. chain_after o (chain h) c) w.outcome))

  deltas_anew : (k : Kept) → AreKeptOf (Then g e) k ↔ AreKeptOf (Then h f) k
  deltas_anew k = (
    λ of. kept-then h f k (subst (λ (o : Outcome). KeepsAfter o (AreKeptOf h) h k) q (carried g h e.outcome k (λ j. (a.deltas j).0) (λ c. cut_of h g c (turned g h a)) (then-kept g e k of))),
    λ of. kept-then g e k (subst (λ (o : Outcome). KeepsAfter o (AreKeptOf g) g k) (sym q) (carried h g f.outcome k (λ j. (a.deltas j).1) (λ c. cut_of g h c a) (then-kept h f k of))),
  )

  alike_anew : IsLike (Then g e) (Then h f)
  alike_anew = record {
    standings = standing_anew;
    covers = covered_anew;
    rows = kept_anew;
    older = older_anew;
    chains = λ d r o s. chain_anew d.count;
    unused = λ c l. chain_anew c;
    deltas = deltas_anew;
    time = time-then g e ∙ ((λ i. max (a.time i) (time_of (p i))) ∙ sym (time-then h f));
    last_cut = cut-then g e ∙ ((λ i. cut_after (q i) (a.last_cut i)) ∙ sym (cut-then h f));
    own = own_anew;
    count = count_anew;
  }

pub alike_next : (g h : History) (e f : Entry) → IsLike g h → IsLegal (Then g e) → IsLegal (Then h f) → e.step ≡ f.step → e.outcome ≡ f.outcome → IsLike (Then g e) (Then h f)
alike_next g h e f a lg lh p q = go (is_rebirth f.step) refl
  where
    go : (b : Bool) → is_rebirth f.step ≡ b → IsLike (Then g e) (Then h f)
    go false n = alike_plain g h e f a lg lh p q n
    go true n = alike_anew g h e f a lg lh p q (again_of g e.step e.outcome (ap is_rebirth p ∙ n) lg.1) (again_of h f.step f.outcome n lh.1)
