-- One step of each of two histories that say the same.
use Rattle.std.proofs.Common.{◌≡◌, ℕ, Bool, true, false, cond, Option, Some, None, refl, sym, ◌∙◌, ap, subst}
use Rattle.presence_journal.specs.declared.step.Step.{Step}
use Rattle.presence_journal.specs.declared.entry.Outcome.{Outcome}
use Rattle.presence_journal.specs.History.{History, Then, is_full}
use Rattle.presence_journal.specs.Table.{IsLegal, is_step, outcome_of, next_entry, with_outcome, accepted, after}
use Rattle.presence_journal.proofs.FoldOthers.{refused_stays}
use Rattle.presence_journal.proofs.HistoryLemmas.{after-accepted}
use Rattle.presence_journal_laws.specs.Later.{IsLike, is_of_subscribers, StepsLeaveAlike}
use Rattle.presence_journal_laws.proofs.AlikeTold.{turned}
use Rattle.presence_journal_laws.proofs.Outcomes.{same_outcomes}
use Rattle.presence_journal_laws.proofs.Silent.{silent_alike}
use Rattle.presence_journal_laws.proofs.Next.{alike_next}
use Rattle.presence_journal_laws.proofs.Later.{itself, chained}

-- where there is room, the history after a step is by the table's outcome
pub after_is : (h : History) (s : Step) (seat : Option ℕ) (o : Option Outcome) → is_full h ≡ false → outcome_of h s ≡ o → after h s seat ≡ with_outcome h s seat o
unfolding accepted
after_is h s seat None room e = refused_stays h s seat (ap (λ b. cond b None (outcome_of h s)) room ∙ e)
after_is h s seat (Some o) room e = after-accepted h s seat o e room

pub legal_next : (h : History) (s : Step) (seat : Option ℕ) (o : Outcome) → IsLegal h → is_full h ≡ false → is_step s ≡ true → outcome_of h s ≡ Some o → IsLegal (Then h (next_entry h s seat o))
legal_next h s seat o l room i e = (l, e, refl, room, i)

-- a step of a subscriber leaves a history alike
after_silent : (h : History) (s : Step) (seat : Option ℕ) → IsLegal h → is_full h ≡ false → is_step s ≡ true → is_of_subscribers s ≡ true → IsLike (after h s seat) h
after_silent h s seat l room i of = go (outcome_of h s) refl
  where
    go : (o : Option Outcome) → outcome_of h s ≡ o → IsLike (after h s seat) h
    go None e = subst (λ (x : History). IsLike x h) (sym (after_is h s seat None room e)) (itself h)
    go (Some o) e = subst (λ (x : History). IsLike x h) (sym (after_is h s seat (Some o) room e)) (silent_alike h (next_entry h s seat o) (legal_next h s seat o l room i e) of)

pub steps_leave_alike : StepsLeaveAlike
steps_leave_alike g h a lg lh rg rh s i x y = go (is_of_subscribers s) refl
  where
    both : (o : Option Outcome) → outcome_of g s ≡ o → outcome_of h s ≡ o → IsLike (with_outcome g s x o) (with_outcome h s y o)
    both None e f = a
    both (Some o) e f = alike_next g h (next_entry g s x o) (next_entry h s y o) a (legal_next g s x o lg rg i e) (legal_next h s y o lh rh i f) refl refl

    go : (b : Bool) → is_of_subscribers s ≡ b → IsLike (after g s x) (after h s y)
    go true of = chained (after g s x) g (after h s y) (after_silent g s x lg rg i of) (chained g h (after h s y) a (turned (after h s y) h (after_silent h s y lh rh i of)))
    go false of =
        let same = same_outcomes g h a s of in
        let g_is : after g s x ≡ with_outcome g s x (outcome_of h s) = after_is g s x (outcome_of h s) rg same in
        let h_is : after h s y ≡ with_outcome h s y (outcome_of h s) = after_is h s y (outcome_of h s) rh refl in
        subst (λ (z : History). IsLike z (after h s y)) (sym g_is) (subst (IsLike (with_outcome g s x (outcome_of h s))) (sym h_is) (both (outcome_of h s) same refl))
