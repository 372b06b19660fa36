-- Three runs, computed.
use Rattle.std.proofs.Common.{◌≡◌, ℕ, zero, suc, ◌<◌, ◌≤◌, true, [], ◌∷◌, Some, None, refl, sym, ◌∙◌, ap, arith}
use Rattle.orswot_core.specs.Full.{dot_of}
use Rattle.presence_journal.specs.declared.entry.Outcome.TheVariants as outcomes_are
use Rattle.presence_journal.specs.declared.step.Step.{Step}
use Rattle.presence_journal.specs.declared.entry.Outcome.{Outcome}
use Rattle.presence_journal.specs.declared.entry.Entry.{Entry}
use Rattle.presence_journal.specs.History.{History, Then, own, count, last_number, entry_count, time, standing, status, hears, known, removed, row, live, shown}
use Rattle.presence_journal.specs.Present.{dots}
use Rattle.presence_journal.specs.Table.{outcome_of, after, accepted}
use Rattle.presence_journal.specs.Laws.{empty, dot, track, untrack}
use Rattle.presence_journal_laws.proofs.WorkedTables.{ran_is}
use Rattle.presence_journal_laws.specs.Plain.{node_a, tracked}
use Rattle.node_world.specs.Claims.{IsCaughtUp}
use Rattle.node_world.specs.Needs.{first_row, taken_out, hearer, NeedCounts, NeedGone, NeedRemovals, NeedRules}

only_one : (P : ℕ → Type 0) → P 1 → (m n : ℕ) → m ≡ 1 → 0 < n → n ≤ m → P n
only_one P x m zero e p q = absurd (omega arith)
only_one P x m (suc zero) e p q = x
only_one P x m (suc (suc n)) e p q = absurd (omega (arith, e, q))

abbrev entry : ℕ → Step → Outcome → Entry
entry n s o = record { number = n; seat = None; step = s; outcome = o }

abbrev once : History
once = Then empty (entry 1 (track 1) (outcomes_are.Added (dot 1)))

abbrev out : History
out = Then once (entry 2 (untrack 1) (outcomes_are.Removed (dot 1 ∷ [])))

is_once : tracked ≡ once
unfolding own count status removed row live shown last_number entry_count dots outcome_of
is_once = ran_is empty (track 1 ∷ [])

is_out : taken_out ≡ out
unfolding own count status removed row live shown last_number entry_count dots outcome_of
is_out = ran_is empty (track 1 ∷ untrack 1 ∷ [])

counts_one : count tracked ≡ 1
unfolding count
counts_one = ap count is_once

one_count : (n : ℕ) → 0 < n → n ≤ count tracked → known hearer (dot_of node_a n) ≡ true
unfolding after accepted outcome_of entry_count last_number known own count hears status standing time removed row live shown dots
one_count n p q = only_one (λ n. known hearer (dot_of node_a n) ≡ true) refl (count tracked) n counts_one p q

is_level : IsCaughtUp hearer node_a (count tracked)
unfolding after accepted outcome_of entry_count last_number own count hears status standing time
is_level = record { all = one_count; up = refl }

stays : shown hearer (dot 1) ≡ Some first_row
unfolding after accepted outcome_of entry_count last_number own hears status standing time removed row live shown
stays = refl

went : shown taken_out (dot 1) ≡ None
unfolding own status standing time removed row live shown count
went = ap (λ h. shown h (dot 1)) is_out

counted : count taken_out ≡ suc (count tracked)
unfolding count
counted = ap count is_out ∙ sym (ap suc counts_one)

need_counts : NeedCounts
need_counts = record { level = is_level; stays = stays; went = went; counted = counted }

need_gone : NeedGone
unfolding after accepted outcome_of entry_count last_number known own count hears status standing time removed row live shown dots
need_gone = record { over = refl; has = refl; hidden = refl }

need_removals : NeedRemovals
unfolding after accepted outcome_of entry_count last_number known own count hears status standing time removed row live shown dots
need_removals = record { over = refl; tells = refl; up = refl; hidden = refl }

pub need_rules : NeedRules
need_rules = record { counts = need_counts; gone = need_gone; removals = need_removals }
