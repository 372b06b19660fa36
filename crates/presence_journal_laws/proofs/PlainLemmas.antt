-- Cuts without chains, and what another node makes of them, computed.
use Rattle.std.proofs.Common.{◌≡◌, ℕ, zero, suc, ◌≤◌, true, false, cond, ◌&&◌, ◌||◌, nat_eq, nat_lt, nat_le, List, [], ◌∷◌, Some, None, refl, sym, ◌∙◌, ap, subst, arith}
use Rattle.std.specs.Prelude.{is_none}
use Rattle.std.specs.List.Sorted.{IsStrictlySortedBy}
use Rattle.std.proofs.lemmas.Bool.{and_from, or_right}
use Rattle.std.proofs.lemmas.Bool.Decides.{nat_tests}
use Rattle.presence_base.specs.declared.dots.Dot.{Dot}
use Rattle.presence_base.specs.Order.{same_replica, same_dot}
use Rattle.dot_context.specs.Runs.{holds}
use Rattle.dot_context.specs.Sets.{run_dots}
use Rattle.dot_context.proofs.SetFacts.{and_false, in_run_dots}
use Rattle.orswot_core.specs.Telling.{covers, is_among, lies_in, live_row, tells_removed}
use Rattle.delta_range.specs.Deltas.{DeltaValue, telling}
use Rattle.presence_journal.specs.declared.step.Step.TheVariants as steps_are
use Rattle.presence_journal.specs.declared.entry.Outcome.TheVariants as outcomes_are
use Rattle.presence_journal.specs.declared.step.Step.{Step}
use Rattle.presence_journal.specs.History.{History, Then, start_of, first_some, own, count, last_cut, last_number, entry_count, time, standing, status, hears, known, removed, row, live, shown}
use Rattle.presence_journal.specs.Present.{dots}
use Rattle.presence_journal.specs.Table.{IsLegal, outcome_of, after, accepted}
use Rattle.presence_journal.specs.Laws.{empty, dot, row_of, here, track, update, untrack}
use Rattle.presence_journal_laws.proofs.WorkedTables.{ran_is}
use Rattle.presence_journal_cuts.specs.Cuts.{chain, older, recent, IsCut}
use Rattle.presence_journal_cuts.specs.Handing.{handed}
use Rattle.presence_journal_cuts.specs.ToldParts.{row_of_count}
use Rattle.presence_journal_laws.specs.Plain.{older_plain, IsPlainCut, node_a, tracked, untracked, first_delta, third_delta, hearer, NeedChains}
use Rattle.presence_journal_laws.proofs.Runs.{empty_legal, ran_legal, entry, neither}
use Rattle.presence_journal_cuts.proofs.Starts.{first_none}
use Rattle.presence_journal_cuts.proofs.Histories.{recent-begin, recent-then}

-- ---- the owner

abbrev first_steps : List Step
first_steps = track 1 ∷ []

abbrev all_steps : List Step
all_steps = track 1 ∷ steps_are.Cut ∷ update 1 ∷ steps_are.Cut ∷ untrack 1 ∷ []

abbrev once : History
once = Then empty (entry 1 (track 1) (outcomes_are.Added (dot 1)))

abbrev told_once : History
told_once = Then once (entry 2 steps_are.Cut (outcomes_are.CutAt 0 1))

abbrev twice : History
twice = Then told_once (entry 3 (update 1) (outcomes_are.Replaced (dot 2) (dot 1)))

abbrev told_twice : History
told_twice = Then twice (entry 4 steps_are.Cut (outcomes_are.CutAt 1 2))

abbrev out : History
out = Then told_twice (entry 5 (untrack 1) (outcomes_are.Removed (dot 2 ∷ [])))

is_once : tracked ≡ once
unfolding own count status removed row live shown last_number entry_count dots outcome_of
is_once = ran_is empty first_steps

is_out : untracked ≡ out
unfolding own count status removed row live shown last_number entry_count dots outcome_of last_cut
is_out = ran_is empty all_steps

once_legal : IsLegal once
once_legal = subst IsLegal is_once (ran_legal empty first_steps empty_legal refl)

out_legal : IsLegal out
out_legal = subst IsLegal is_out (ran_legal empty all_steps empty_legal refl)

-- ---- what it cuts

recent_once : (d : Dot) → recent once d ≡ cond (same_dot d (dot 1)) (Some (row_of 1 here None)) None
recent_once d =
    recent-then empty (entry 1 (track 1) (outcomes_are.Added (dot 1))) d once_legal refl
    ∙ (ap (λ o. first_some (cond (same_dot d (dot 1)) (Some (row_of 1 here None)) None) o) (recent-begin (start_of empty) d)
    ∙ first_none (cond (same_dot d (dot 1)) (Some (row_of 1 here None)) None))

recent_out : (d : Dot) → recent out d ≡ None
recent_out d =
    recent-then told_twice (entry 5 (untrack 1) (outcomes_are.Removed (dot 2 ∷ []))) d out_legal refl
    ∙ (ap (λ o. cond (same_dot d (dot 2) || false) None o) (recent-then twice (entry 4 steps_are.Cut (outcomes_are.CutAt 1 2)) d out_legal.0 refl)
    ∙ neither (same_dot d (dot 2) || false))

cut_once : IsPlainCut once first_delta
unfolding own count last_cut older_plain IsStrictlySortedBy
cut_once = record {
  owner = refl;
  from = refl;
  to = refl;
  before = λ n low. and_false (nat_le n 0);
  rows = λ d. sym (recent_once d);
  in_order = (tt, tt);
}

second_alone : (n : ℕ) → ((nat_lt 1 n && nat_le n 2) || false) ≡ (nat_le n 2 && ((nat_eq n 2 || false) || false))
second_alone n = grind (arith, nat_tests)

cut_out : IsPlainCut out third_delta
unfolding own count last_cut older_plain IsStrictlySortedBy
cut_out = record {
  owner = refl;
  from = refl;
  to = refl;
  before = λ n low. second_alone n;
  rows = λ d. sym (recent_out d);
  in_order = tt;
}

-- ---- what the other node makes of it

one_to_three : (P : ℕ → Type 0) → P 1 → P 2 → P 3 → (n : ℕ) → 1 ≤ n → n ≤ 3 → P n
one_to_three P a b c zero p q = absurd (omega arith)
one_to_three P a b c (suc zero) p q = a
one_to_three P a b c (suc (suc zero)) p q = b
one_to_three P a b c (suc (suc (suc zero))) p q = c
one_to_three P a b c (suc (suc (suc (suc n)))) p q = absurd (omega arith)

knows : (n : ℕ) → 1 ≤ n → n ≤ 3 → known (hearer third_delta) (dot n) ≡ true
unfolding after accepted outcome_of entry_count last_number known own count hears status standing time
knows = one_to_three (λ n. known (hearer third_delta) (dot n) ≡ true) refl refl refl

counts_three : count untracked ≡ 3
unfolding count
counts_three = ap count is_out

went : shown untracked (dot 1) ≡ None
unfolding own status standing time removed row live shown
went = ap (λ h. shown h (dot 1)) is_out

shows : shown (hearer third_delta) (dot 1) ≡ Some (row_of 1 here None)
unfolding after accepted outcome_of entry_count last_number own hears status standing time removed row live shown
shows = refl

shows_by : (c : DeltaValue) → shown (hearer c) (dot 1) ≡ cond (tells_removed (telling c) (dot 1)) None (Some (row_of 1 here None))
unfolding after accepted outcome_of entry_count last_number own hears status standing time removed row live shown
shows_by c = refl

its_owner : (c : DeltaValue) → IsCut untracked c → c.owner ≡ node_a
unfolding own
its_owner c cut = cut.owner ∙ ap own is_out

first_older : older untracked 1 ≡ true
unfolding older chain handed last_cut
first_older = ap (λ h. older h 1) is_out

first_went : row_of_count untracked 1 ≡ None
unfolding own removed row live
first_went = ap (λ h. row_of_count h 1) is_out

has_first : (c : DeltaValue) → IsCut untracked c → holds c.older 1 ≡ true
has_first c cut = cut.before 1 (omega arith) ∙ (λ i. first_older i && is_none (first_went i))

tells_first : (c : DeltaValue) → IsCut untracked c → tells_removed (telling c) (dot 1) ≡ true
tells_first c cut =
    let told : is_among (run_dots c.owner c.older) (dot 1) ≡ true =
    in_run_dots (dot 1) c.owner c.older ∙ and_from (same_replica node_a c.owner) (holds c.older 1) (ap (same_replica node_a) (its_owner c cut)) (has_first c cut) in
    and_from (covers (telling c) (dot 1)) (is_none (live_row (telling c) (dot 1)))
    (or_right (lies_in (telling c).ranges (dot 1)) (is_among (run_dots c.owner c.older) (dot 1)) told)
    (ap is_none (cut.rows (dot 1) ∙ (ap (λ h. recent h (dot 1)) is_out ∙ recent_out (dot 1))))

pub need_chains : NeedChains
need_chains = record {
  first = subst (λ h. IsPlainCut h first_delta) (sym is_once) cut_once;
  third = subst (λ h. IsPlainCut h third_delta) (sym is_out) cut_out;
  caught_up = λ n low top. knows n low (omega (arith, top, counts_three));
  went = went;
  stays = shows;
  goes = λ c cut. shows_by c ∙ ap (λ b. cond b None (Some (row_of 1 here None))) (tells_first c cut);
}
