-- The worked checkpoint, computed.
use Rattle.std.proofs.Common.{◌≡◌, ℕ, ◌<◌, ◌≤◌, Bool, true, false, cond, not, ◌&&◌, ◌||◌, nat_eq, nat_lt, nat_le, List, [], ◌∷◌, Option, Some, None, refl, sym, ◌∙◌, ap, subst, arith}
use Rattle.std.specs.Option.{unwrap_or}
use Rattle.std.proofs.lemmas.Bool.{lt-leb}
use Rattle.std.proofs.lemmas.Bool.Decides.{nat_tests}
use Rattle.presence_base.specs.declared.dots.Replica.{Replica}
use Rattle.presence_base.specs.declared.dots.Dot.{Dot}
use Rattle.presence_base.specs.declared.row.Row.{Row}
use Rattle.presence_base.specs.Order.{same_replica, same_dot}
use Rattle.dot_context.specs.Runs.{holds}
use Rattle.dot_context.specs.Sets.{listed}
use Rattle.orswot_core.specs.Telling.{covers, live_row}
use Rattle.replica_status.specs.declared.standing.Standing.TheVariants.{Unheard, Gone}
use Rattle.replica_status.specs.declared.status.Status.TheVariants as status_is
use Rattle.replica_status.specs.Table.{status_of}
use Rattle.replica_status.specs.Boards.{standing_in}
use Rattle.presence_journal.specs.declared.step.Step.TheVariants as steps_are
use Rattle.presence_journal.specs.declared.entry.Outcome.TheVariants as outcomes_are
use Rattle.presence_journal.specs.declared.entry.Entry.{Entry}
use Rattle.presence_journal.specs.History.{History, Then, nothing_kept, own, count, last_number, entry_count, time, standing, status, is_up, is_gone, hears, last_cut, is_counted, told_covers, known, covered, first_some, row_added, row_brought, told_row, removed, row, live, shown}
use Rattle.presence_journal.specs.Present.{dots}
use Rattle.presence_journal.specs.Queue.{topic_at, topic_of}
use Rattle.presence_journal.specs.Table.{IsLegal, outcome_of}
use Rattle.presence_journal.specs.Laws.{empty, dot, room, row_of, subscribe}
use Rattle.presence_journal.proofs.HistoryLemmas.{known-then}
use Rattle.presence_journal.proofs.Same.{same_replica-true, same_dot-true}
use Rattle.presence_journal_laws.proofs.WorkedTables.{ran_is}
use Rattle.presence_journal_cuts.specs.Chains.{Counts}
use Rattle.presence_journal_cuts.specs.Cuts.{chain_in, chain, older}
use Rattle.presence_journal_cuts.specs.Handing.{handed}
use Rattle.presence_journal_cuts.specs.KeptDeltas.{AreKeptOf}
use Rattle.presence_journal_laws.proofs.Runs.{empty_legal, ran_legal, entry, neither}
use Rattle.presence_journal_cuts.proofs.Sound.{covered_own}
use Rattle.presence_journal_cuts.specs.Checkpoints.{kept_row, StandsFor, IsCheckpoint}
use Rattle.presence_journal_laws.specs.Worked.{node_a, node_b, plain, dot_of_b, told_by_b, track_one, update_one, worked_steps, worked_run, worked_start, StartStands}
use Rattle.presence_journal_laws.proofs.Alikes.{and_false}
use Rattle.presence_journal_laws.proofs.AlikeRows.{shown-kept}

-- ---- the run

abbrev first : History
first = Then empty (entry 1 subscribe (outcomes_are.Subscribed 1))

abbrev second : History
second = Then first (entry 2 track_one (outcomes_are.Added (dot 1)))

abbrev third : History
third = Then second (entry 3 (steps_are.Merge told_by_b) outcomes_are.Merged)

abbrev fourth : History
fourth = Then third (entry 4 (steps_are.PermDown node_b) outcomes_are.Noted)

abbrev whole : History
whole = Then fourth (entry 5 update_one (outcomes_are.Replaced (dot 2) (dot 1)))

is_whole : worked_run ≡ whole
unfolding own count status standing time hears removed row live shown last_number entry_count dots outcome_of
is_whole = ran_is empty worked_steps

whole_legal : IsLegal whole
whole_legal = subst IsLegal is_whole (ran_legal empty worked_steps empty_legal refl)

-- ---- what is covered

own_whole : own whole ≡ node_a
unfolding own
own_whole = refl

count_whole : count whole ≡ 2
unfolding count
count_whole = refl

number_whole : last_number whole ≡ 5
unfolding last_number
number_whole = refl

gone_b : (r : Replica) → same_replica r node_a ≡ false → same_replica r node_b ≡ true → is_gone (status whole r) ≡ true
unfolding status standing own time
gone_b r e f = λ i. is_gone (cond (e i) status_is.Up (status_of (cond (f i) Gone Unheard)))

unknown_then : (h : History) (e : Entry) (d : Dot) → same_replica d.replica (own (Then h e)) ≡ false → told_covers h e.step d ≡ false → known h d ≡ false → known (Then h e) d ≡ false
unknown_then h e d apart told none = known-then h e d ∙ (λ i. none i || ((apart i && (nat_lt 0 d.count && nat_le d.count (count (Then h e)))) || told i))

-- no dot of any other replica is known
unknown_whole : (d : Dot) → same_replica d.replica node_a ≡ false → same_replica d.replica node_b ≡ false → known whole d ≡ false
unfolding own known
unknown_whole d e f =
    let told : told_covers second (steps_are.Merge told_by_b) d ≡ false = (λ i. hears second d.replica && (((f i && (nat_lt 0 d.count && nat_le d.count 1)) || false) || false)) ∙ and_false (hears second d.replica) in
    let one = unknown_then empty (entry 1 subscribe (outcomes_are.Subscribed 1)) d e refl refl in
    let two = unknown_then first (entry 2 track_one (outcomes_are.Added (dot 1))) d e refl one in
    let three = unknown_then second (entry 3 (steps_are.Merge told_by_b) outcomes_are.Merged) d e told two in
    let four = unknown_then third (entry 4 (steps_are.PermDown node_b) outcomes_are.Noted) d e refl three in
    unknown_then fourth (entry 5 update_one (outcomes_are.Replaced (dot 2) (dot 1))) d e refl four

or_none : (x : Bool) → ((x || false) || false) ≡ x
or_none true = refl
or_none false = refl

covered_whole : (d : Dot) → covers worked_start.content d ≡ covered whole d
covered_whole d = go (same_replica d.replica node_a) (same_replica d.replica node_b) refl refl
  where
    none : (b : Bool) → same_replica d.replica node_a ≡ false → same_replica d.replica node_b ≡ b → covered whole d ≡ false
    none true e f = ap (λ b. known whole d && not b) (gone_b d.replica e f) ∙ and_false (known whole d)
    none false e f = ap (λ b. b && not (is_gone (status whole d.replica))) (unknown_whole d e f)

    go : (a b : Bool) → same_replica d.replica node_a ≡ a → same_replica d.replica node_b ≡ b → covers worked_start.content d ≡ covered whole d
    go true b e f =
        or_none (same_replica d.replica node_a && (nat_lt 0 d.count && nat_le d.count 2))
        ∙ sym (covered_own whole d whole_legal (same_replica-true d.replica node_a e ∙ sym own_whole) ∙ (λ i. is_counted (own_whole i) (count_whole i) d))
    go false b e f = (λ i. ((e i && (nat_lt 0 d.count && nat_le d.count 2)) || false) || false) ∙ sym (none b e f)

-- ---- what is live

rowless_then : (h : History) (e : Entry) (d : Dot) → row h d ≡ None → row_added e.step e.outcome d ≡ None → row_brought e.outcome (row h) (told_row h e.step d) d ≡ None → row (Then h e) d ≡ None
unfolding row
rowless_then h e d a b c = λ i. first_some (a i) (first_some (b i) (c i))

rowless_whole : (d : Dot) → same_dot d (dot 1) ≡ false → same_dot d (dot 2) ≡ false → same_dot d dot_of_b ≡ false → row whole d ≡ None
unfolding row
rowless_whole d p q r =
    let told : told_row second (steps_are.Merge told_by_b) d ≡ None = (λ i. cond (hears second d.replica) (cond (r i) (Some (row_of 7 plain None)) None) None) ∙ neither (hears second d.replica) in
    let one = rowless_then empty (entry 1 subscribe (outcomes_are.Subscribed 1)) d refl refl refl in
    let two = rowless_then first (entry 2 track_one (outcomes_are.Added (dot 1))) d one (λ i. cond (p i) (Some (row_of 1 plain None)) None) refl in
    let three = rowless_then second (entry 3 (steps_are.Merge told_by_b) outcomes_are.Merged) d two refl told in
    let four = rowless_then third (entry 4 (steps_are.PermDown node_b) outcomes_are.Noted) d three refl refl in
    rowless_then fourth (entry 5 update_one (outcomes_are.Replaced (dot 2) (dot 1))) d four (λ i. cond (q i) (Some (row_of 1 plain (Some (dot 1)))) None) refl

kept_none : (h : History) (d : Dot) → row h d ≡ None → kept_row h d ≡ None
unfolding live
kept_none h d e = (λ i. cond (is_gone (status h d.replica)) None (cond (removed h d) None (e i))) ∙ (ap (λ x. cond (is_gone (status h d.replica)) None x) (neither (removed h d)) ∙ neither (is_gone (status h d.replica)))

rows_at : (d x : Dot) → same_dot d x ≡ true → live_row worked_start.content x ≡ kept_row whole x → live_row worked_start.content d ≡ kept_row whole d
rows_at d x e = subst (λ (y : Dot). live_row worked_start.content y ≡ kept_row whole y) (sym (same_dot-true d x e))

rows_one : live_row worked_start.content (dot 1) ≡ kept_row whole (dot 1)
unfolding own hears status standing time removed row live
rows_one = refl

rows_two : live_row worked_start.content (dot 2) ≡ kept_row whole (dot 2)
unfolding own hears status standing time removed row live
rows_two = refl

rows_b : live_row worked_start.content dot_of_b ≡ kept_row whole dot_of_b
unfolding own hears status standing time removed row live
rows_b = refl

rows_whole : (d : Dot) → live_row worked_start.content d ≡ kept_row whole d
rows_whole d = go (same_dot d (dot 1)) (same_dot d (dot 2)) (same_dot d dot_of_b) refl refl refl
  where
    go : (a b c : Bool) → same_dot d (dot 1) ≡ a → same_dot d (dot 2) ≡ b → same_dot d dot_of_b ≡ c → live_row worked_start.content d ≡ kept_row whole d
    go true b c p q r = rows_at d (dot 1) p rows_one
    go false true c p q r = rows_at d (dot 2) q rows_two
    go false false true p q r = rows_at d dot_of_b r rows_b
    go false false false p q r = (λ i. cond (q i) (Some (row_of 1 plain (Some (dot 1)))) None) ∙ sym (kept_none whole d (rowless_whole d p q r))

-- ---- standings, older counts, chains and topics

standing_whole : (r : Replica) → standing_in worked_start.standings r ≡ standing whole r
unfolding standing time
standing_whole r = go (same_replica r node_b)
  where
    go : (b : Bool) → unwrap_or (cond b (Some Gone) None) Unheard ≡ cond b Gone Unheard
    go true = refl
    go false = refl

not_low : (n : ℕ) → 1 ≤ n → nat_le n 0 ≡ false
not_low n low = lt-leb n 0 low

older_whole : Counts (holds worked_start.older) (older whole)
unfolding older last_cut
older_whole n low =
    let z = not_low n low in
    sym (λ i. ((((false || (z i && false)) || (z i && false)) || (z i && false)) || (z i && false)) || (z i && holds (handed (chain fourth 1) 1) n))

chain_two : chain_in worked_start.chains 2 ≡ chain whole 2
unfolding chain handed
chain_two = refl

other_count : (c : ℕ) → 2 < c → nat_eq c 2 ≡ false
other_count c l = grind (arith, nat_tests)

no_count : (b : Bool) → cond {A = List (ℕ × ℕ)} b [] [] ≡ []
no_count true = refl
no_count false = refl

chain_unused : (c : ℕ) → nat_eq c 2 ≡ false → chain_in worked_start.chains c ≡ chain whole c
unfolding chain
chain_unused c e =
    ap (λ b. listed (cond b (Some ((0, 1) ∷ [])) None)) e
    ∙ sym ((λ i. cond (e i) (handed [] 1) (cond (nat_eq c 1) [] [])) ∙ no_count (nat_eq c 1))

under : (b : Bool) (o : Option Row) (r : Row) → cond b o None ≡ Some r → o ≡ Some r
under true o r e = e
under false o r e = absurd (cc)

-- the new row alone is shown
shown_two : (d : Dot) (r : Row) → shown whole d ≡ Some r → d ≡ dot 2
shown_two d r s = go (same_dot d (dot 2)) refl (rows_whole d ∙ under (is_up (status whole d.replica)) (kept_row whole d) r (shown-kept whole d ∙ s))
  where
    go : (b : Bool) → same_dot d (dot 2) ≡ b → cond b (Some (row_of 1 plain (Some (dot 1)))) None ≡ Some r → d ≡ dot 2
    go true e f = same_dot-true d (dot 2) e
    go false e f = absurd (cc)

turn : (n : ℕ) → nat_eq n 1 ≡ nat_eq 1 n
turn n = grind (arith, nat_tests)

topic_whole : (n : ℕ) → topic_at worked_start.subscribers n ≡ topic_of whole n
unfolding topic_of
topic_whole n = ap (λ b. cond b (Some room) None) (turn n)

deltas_whole : AreKeptOf whole nothing_kept
unfolding AreKeptOf
deltas_whole = refl

time_whole : worked_start.time ≡ time whole
unfolding time
time_whole = refl

cut_whole : worked_start.last_cut ≡ last_cut whole
unfolding last_cut
cut_whole = refl

-- ---- the Start

stands_whole : StandsFor whole worked_start
stands_whole = record {
  number = omega (arith, number_whole);
  covers = covered_whole;
  rows = rows_whole;
  sound = refl;
  standings = λ r f. standing_whole r;
  older = older_whole;
  low = (tt, refl);
  chains = λ d r o s.
      let c : d.count ≡ 2 = ap (λ (x : Dot). x.count) (shown_two d r s) in
      subst (λ (k : ℕ). chain_in worked_start.chains k ≡ chain whole k) (sym c) chain_two;
  unused = λ c l. chain_unused c (other_count c (omega (arith, l, count_whole)));
  long = ((omega arith, tt), tt);
  deltas = deltas_whole;
  topics = topic_whole;
  subscribers = refl;
  once = refl;
  current = λ n f. absurd (cc);
  seated = omega arith;
  time = time_whole;
  last_cut = cut_whole;
  own = sym own_whole;
  count = sym count_whole;
}

pub start_stands : StartStands
start_stands = subst (λ (h : History). IsCheckpoint h worked_start) (sym is_whole) (record {
  legal = whole_legal;
  room = omega (arith, number_whole);
  stands = stands_whole;
})
