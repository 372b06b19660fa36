-- A life that goes on: the rows that it made, and when it can.
use Rattle.std.proofs.Common.{◌≡◌, ℕ, ◌+◌, Bool, true, false, cond, is_some, List, [], ◌∷◌, ◌++◌, drop, Option, Some, None, Err, append_assoc, refl, sym, ◌∙◌, ap, subst}
use Rattle.std.specs.FinMap as map
use Rattle.std.proofs.lemmas.Option.{same_Some}
use Rattle.presence_base.specs.declared.dots.Replica.{Replica}
use Rattle.presence_base.specs.declared.dots.Dot.{Dot}
use Rattle.presence_base.specs.declared.row.Row.{Row}
use Rattle.orswot_core.specs.Sets.{DotRows}
use Rattle.presence_journal.specs.declared.step.Step.TheVariants as steps_are
use Rattle.presence_journal.specs.declared.entry.Outcome.TheVariants as outcomes_are
use Rattle.presence_journal.specs.declared.step.Step.{Step}
use Rattle.presence_journal.specs.declared.entry.Outcome.{Outcome}
use Rattle.presence_journal.specs.declared.entry.Entry.{Entry}
use Rattle.presence_journal.specs.History.{History, Then, own, reborn, is_full, is_gone, status, removed, row, live}
use Rattle.presence_journal.specs.Table.{IsLegal, accepted, after, next_entry, own_dots, reborn_from, reborn_rows, can_be_reborn, outcome_of}
use Rattle.presence_journal.specs.Walk.{pairs_in, is_reborn}
use Rattle.presence_journal.proofs.HistoryLemmas.{after-accepted, legal_knows, own_again, again_unknown, removed_again, status-own}
use Rattle.presence_journal.proofs.FoldOthers.{accepted_is}
use Rattle.presence_journal.proofs.Reborn.{IsAgain, again_of}
use Rattle.presence_journal_known.specs.LeftOut.{HoldsCovered}
use Rattle.tracker_shard.specs.declared.fault.ShardFault.{ShardFault}
use Rattle.tracker_shard.specs.declared.fault.ShardFault.TheVariants.{AlreadyTracked, NoPresence, ClockFull, JournalFull, NoSub, BadIncarnation, OutOfMemory}
use Rattle.tracker_shard.specs.Steps.{Made, IsDue, refusal, AnswersPairs}
use Rattle.node_world.specs.World.{LifeValue, gone_on, under, before_rows, rows_under, with_row}
use Rattle.node_world.specs.GoingOn.{going_on, AreMade}
use Rattle.node_world.proofs.Taken.{stands}

-- ---- the rows under new dots, one pair after another

pub more_under : (f : Dot → Option Row) (ps : List (Dot × Dot)) (i : ℕ) (p : Dot × Dot) (xs ys all : List (Dot × Row)) → drop i ps ≡ p ∷ drop (i + 1) ps
    → ys ≡ with_row xs (under p.0 (f p.0)) → xs ++ rows_under f (drop i ps) ≡ all → ys ++ rows_under f (drop (i + 1) ps) ≡ all
more_under f ps i p xs ys all at is before =
    ap (λ zs. zs ++ rest) is ∙ (go (under p.0 (f p.0)) ∙ (ap (λ qs. xs ++ rows_under f qs) (sym at) ∙ before))
  where
    rest : List (Dot × Row)
    rest = rows_under f (drop (i + 1) ps)

    go : (o : Option (Dot × Row)) → with_row xs o ++ rest ≡ xs ++ before_rows o rest
    go None = refl
    go (Some x) = append_assoc xs (x ∷ []) rest

nothing_more : (xs : List (Dot × Row)) → xs ++ [] ≡ xs
nothing_more [] = refl
nothing_more (x ∷ xs) = ap (λ ys. x ∷ ys) (nothing_more xs)

pub all_under : (f : Dot → Option Row) (qs : List (Dot × Dot)) (xs all : List (Dot × Row)) → qs ≡ [] → xs ++ rows_under f qs ≡ all → xs ≡ all
all_under f qs xs all none is = sym (nothing_more xs) ∙ (ap (λ zs. xs ++ rows_under f zs) (sym none) ∙ is)

-- ---- they are those of the history

under_same : (f g : Dot → Option Row) (r : Replica) (n : ℕ) (ds : List Dot) → ((d : Dot) → d.replica ≡ r → f d ≡ g d) → rows_under f (reborn_from r n ds) ≡ rows_under g (reborn_from r n ds)
under_same f g r n [] same = refl
under_same f g r n (d ∷ ds) same =
    let new : Dot = record { replica = r; count = n + 1 } in
    λ i. before_rows (under new (same new refl i)) (under_same f g r (n + 1) ds same i)

module _ (h : History) (e : Entry) (w : IsAgain h e.step e.outcome) (legal : IsLegal (Then h e)) (s : DotRows) (holds : HoldsCovered (Then h e) s) where
  -- nothing of the new one was removed
  unremoved : (d : Dot) → d.replica ≡ own (Then h e) → removed (Then h e) d ≡ false
  unremoved d o = removed_again h e d w ∙ go (removed h d) refl
    where
      go : (b : Bool) → removed h d ≡ b → b ≡ false
      go false f = refl
      go true f = absurd (again_unknown h d w.incarnation w.fresh (o ∙ own_again h e w) ((legal_knows h legal.0).of_removed d f))

  live_is_row : (d : Dot) → d.replica ≡ own (Then h e) → map.get s.live d ≡ row (Then h e) d
  unfolding live
  live_is_row d o =
      holds.live d
      ∙ (ap (λ r. cond (is_gone (status (Then h e) r)) None (live (Then h e) d)) o
      ∙ (ap (λ x. cond (is_gone x) None (live (Then h e) d)) (status-own (Then h e))
      ∙ ap (λ b. cond b None (row (Then h e) d)) (unremoved d o)))

  pub made_are : (pairs : List (Dot × Dot)) → e.outcome ≡ outcomes_are.Reborn pairs → rows_under (map.get s.live) pairs ≡ rows_under (row (Then h e)) pairs
  made_are pairs is =
      let same : pairs ≡ reborn_from (own (Then h e)) 0 (own_dots h) = ap pairs_in (sym is ∙ w.outcome) ∙ ap (λ r. reborn_from r 0 (own_dots h)) (sym (own_again h e w)) in
      ap (rows_under (map.get s.live)) same
      ∙ (under_same (map.get s.live) (row (Then h e)) (own (Then h e)) 0 (own_dots h) live_is_row
      ∙ ap (rows_under (row (Then h e))) (sym same))

-- ---- where it goes on

abbrev the_life : History → List (Dot × Row) → LifeValue
the_life h xs = record { history = h; made = xs }

taken : (h : History) (s : Step) (o : Outcome) → is_some (accepted h s) ≡ true → outcome_of h s ≡ Some o → accepted h s ≡ Some o
unfolding accepted
taken h s o some is = go (is_full h) some
  where
    go : (b : Bool) → is_some (cond b None (outcome_of h s)) ≡ true → cond b None (outcome_of h s) ≡ Some o
    go true k = absurd (cc)
    go false k = is

module _ (l : LifeValue) (h new : History) (i : ℕ) (legal : IsLegal h) (here : l.history ≡ h) where
  abbrev s : Step
  s = steps_are.Rebirth i

  pub goes_on : (pairs : List (Dot × Dot)) (xs : List (Dot × Row)) → Made h new None s → outcome_of h s ≡ Some (outcomes_are.Reborn pairs) → AreMade new pairs xs
      → Some (the_life new xs) ≡ going_on i l (accepted l.history s)
  goes_on pairs xs made is rows =
      ap Some (λ j. record { history = (journal ∙ sym same) j; made = (rows.are ∙ (under ∙ ap (λ g. rows_under (row g) pairs) (sym same))) j })
      ∙ ((λ j. Some (gone_on i pairs (record { history = sym here j; made = l.made })))
      ∙ sym (ap (going_on i l) (ap (λ g. accepted g s) here ∙ p)))
    where
      o : Outcome
      o = outcomes_are.Reborn pairs

      p : accepted h s ≡ Some o
      p = taken h s o made.accepted is

      ok : (is_full h ≡ false) × (outcome_of h s ≡ Some o)
      ok = accepted_is h s o p

      e : Entry
      e = next_entry h s None o

      same : after h s None ≡ Then h e
      same = after-accepted h s None o ok.1 ok.0

      journal : new ≡ Then h e
      journal = made.journal ∙ same

      next : IsLegal (Then h e)
      next = (legal, ok.1, refl, ok.0, refl)

      under : rows_under (map.get rows.set.live) pairs ≡ rows_under (row (Then h e)) pairs
      under = made_are h e (again_of h e.step e.outcome refl ok.1) next rows.set (subst (λ g. HoldsCovered g rows.set) journal rows.holds) pairs refl

  -- ---- where it doesn't

  outcome_again : (o : Outcome) → outcome_of h s ≡ Some o → is_reborn o ≡ true
  unfolding outcome_of
  outcome_again o e = go (can_be_reborn h i) e
    where
      go : (b : Bool) → reborn_rows b (reborn (own h) i) (own_dots h) ≡ Some o → is_reborn o ≡ true
      go true k = ap is_reborn (sym (same_Some (outcomes_are.Reborn (reborn_from (reborn (own h) i) 0 (own_dots h))) o k))
      go false k = absurd (cc)

  refused : (f : ShardFault) → (f ≡ OutOfMemory → ⊥) → AnswersPairs h i (Err f) → IsDue {A = List (Dot × Dot)} (Err f) (refusal true h s) → accepted h s ≡ None
  refused AlreadyTracked g a d = let k : false ≡ true = outcome_again outcomes_are.AlreadyTracked a in absurd (cc)
  refused NoPresence g a d = let k : false ≡ true = outcome_again outcomes_are.NoPresence a in absurd (cc)
  refused ClockFull g a d = stands h s true ClockFull (λ n. absurd (cc)) d
  refused JournalFull g a d = stands h s true JournalFull (λ n. absurd (cc)) d
  refused NoSub g a d = stands h s true NoSub (λ n. absurd (cc)) d
  refused BadIncarnation g a d = stands h s true BadIncarnation (λ n. absurd (cc)) d
  refused OutOfMemory g a d = absurd (g refl)

  pub stays : (f : ShardFault) → (f ≡ OutOfMemory → ⊥) → AnswersPairs h i (Err f) → IsDue {A = List (Dot × Dot)} (Err f) (refusal true h s) → None ≡ going_on i l (accepted l.history s)
  stays f g a d = sym (ap (going_on i l) (ap (λ x. accepted x s) here ∙ refused f g a d))
