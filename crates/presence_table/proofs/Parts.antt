-- The plain table of a history keeps each part of what the history says.
use Rattle.std.proofs.Common.{◌≡◌, ℕ, ◌+◌, max, Bool, true, false, cond, ◌&&◌, ◌||◌, nat_lt, [], ◌∷◌, Option, Some, None, is_none, option_map, refl, sym, ◌∙◌, ap, arith}
use Rattle.std.specs.FinMap as map
use native.Mathlib.Nat.{max-zero}
use Rattle.presence_base.specs.declared.dots.Replica.{Replica}
use Rattle.presence_base.specs.declared.dots.Dot.{Dot}
use Rattle.presence_base.specs.declared.row.Row.{Row}
use Rattle.presence_base.specs.Order.{same_replica}
use Rattle.orswot_core.specs.Telling.{covers, live_row}
use Rattle.replica_status.specs.declared.standing.Standing.{Standing}
use Rattle.presence_journal.specs.declared.step.Step.TheVariants as steps_are
use Rattle.presence_journal.specs.declared.entry.Outcome.TheVariants as outcomes_are
use Rattle.presence_journal.specs.declared.step.Step.{Step}
use Rattle.presence_journal.specs.declared.entry.Outcome.{Outcome}
use Rattle.presence_journal.specs.declared.entry.Entry.{Entry}
use Rattle.presence_journal.specs.declared.entry.Start.{Start}
use Rattle.presence_journal.specs.History as journal
use Rattle.presence_journal.specs.History.{History, Begin, Then}
use Rattle.presence_journal.specs.Queue as queues
use Rattle.presence_journal.specs.Table.{IsLegal}
use Rattle.presence_journal.proofs.Same.{dot_total}
use Rattle.presence_journal.proofs.Lookups.{cond_none}
use Rattle.presence_table.specs.Others as others
use Rattle.presence_table.specs.Others.{Others}
use Rattle.presence_table.specs.Plain.{Table, opened, moved, stepped, table}
use Rattle.presence_table.specs.Plain as plain
use Rattle.presence_table.specs.Laws.{KeepsParts}
use Rattle.presence_table.proofs.Rooms.{KeepsRows}
use Rattle.presence_table.proofs.Rows.{find_lookup, hears_same, rows_then}
use Rattle.presence_table.proofs.Subscribers.{at_topic, waits_more, told_same, subscriber_then}

-- the start

live_first : (c : Bool) (o : Option Row) → o ≡ cond (c && is_none o) None o
live_first c None = sym (cond_none (c && true))
live_first true (Some x) = refl
live_first false (Some x) = refl

first_rows : (s : Start) (d : Dot) → map.get (opened s).rows d ≡ journal.live (Begin s) d
unfolding journal.live journal.removed journal.row
first_rows s d = map.get-from_entries dot_total s.content.live d ∙ (find_lookup s.content.live d ∙ live_first (covers s.content d) (live_row s.content d))

first_parts : (s : Start) → KeepsParts (Begin s) (opened s)
unfolding journal.own journal.count journal.last_number journal.entry_count journal.last_cut journal.standing journal.time journal.known journal.has_dots queues.topic_of queues.queue
first_parts s =
    record {
      own = refl;
      count = refl;
      last = refl;
      entries = refl;
      last_cut = refl;
      rows = first_rows s;
      standing = λ r. refl;
      time = refl;
      known = λ d. refl;
      named = λ r. refl;
      subscribers = λ n. refl;
    }

-- counts and times

count_same : (o : Outcome) (n : ℕ) → plain.count_after o n ≡ journal.count_after o n
count_same (outcomes_are.Added d) n = refl
count_same (outcomes_are.Replaced d old) n = refl
count_same (outcomes_are.Removed (d ∷ ds)) n = refl
count_same (outcomes_are.Removed []) n = omega arith
count_same (outcomes_are.Reborn pairs) n = refl
count_same _ n = omega arith

time_same : (s : Step) (n : ℕ) → others.time_after s n ≡ max n (journal.time_of s)
time_same (steps_are.Heard replica now) n = refl
time_same (steps_are.Tick now) n = refl
time_same _ n = sym (max-zero n)

-- what is known of others

stands_same : (own : Replica) (s : Step) (n : ℕ) (r : Replica) (x : Standing) → others.standing_after own s (others.time_after s n) r x ≡ journal.standing_after own s (max n (journal.time_of s)) r x
stands_same own (steps_are.Heard replica now) n r x = refl
stands_same own (steps_are.Tick now) n r x = refl
stands_same own (steps_are.PermDown replica) n r x = refl
stands_same own (steps_are.Rebirth i) n r x = refl
stands_same own _ n r x = refl

own_same : (s : Step) (r : Replica) → others.own_after s r ≡ journal.own_after s r
own_same (steps_are.Rebirth i) r = refl
own_same _ r = refl

module _ (h : History) (t : Table) (heard : (r : Replica) → others.hears t.own t.others r ≡ journal.hears h r) where
  dots_same : (s : Step) (d : Dot) → others.merged_dot t.own t.others s d ≡ journal.told_covers h s d
  dots_same (steps_are.Merge told) d = ap (λ b. b && covers told d) (heard d.replica)
  dots_same _ d = refl

  replicas_same : (s : Step) (r : Replica) → others.merged_replica t.own t.others s r ≡ journal.told_of h s r
  replicas_same (steps_are.Merge told) r = ap (λ b. b && others.tells_of r told) (heard r)
  replicas_same _ r = refl

cut_same : (o : Outcome) (n : ℕ) → plain.cut_after o n ≡ journal.cut_after o n
cut_same (outcomes_are.CutAt from to) n = refl
cut_same (outcomes_are.Reborn pairs) n = refl
cut_same _ n = refl

-- an entry

module _ (h : History) (e : Entry) (l : IsLegal (Then h e)) (t : Table) (k : KeepsParts h t) where
  before : KeepsRows h t
  before = record { own = k.own; standing = k.standing; rows = k.rows }

  own_then : others.own_after e.step t.own ≡ journal.own (Then h e)
  unfolding journal.own
  own_then = own_same e.step t.own ∙ ap (journal.own_after e.step) k.own

  count_then : plain.count_after e.outcome t.count ≡ journal.count (Then h e)
  unfolding journal.count
  count_then = count_same e.outcome t.count ∙ ap (journal.count_after e.outcome) k.count

  cut_then : plain.cut_after e.outcome t.last_cut ≡ journal.last_cut (Then h e)
  unfolding journal.last_cut
  cut_then = cut_same e.outcome t.last_cut ∙ ap (journal.cut_after e.outcome) k.last_cut

  last_then : t.last + 1 ≡ journal.last_number (Then h e)
  unfolding journal.last_number
  last_then = ap (λ n. n + 1) k.last ∙ sym l.2

  entries_then : t.entries + 1 ≡ journal.entry_count (Then h e)
  unfolding journal.entry_count
  entries_then = ap (λ n. n + 1) k.entries

  time_then : others.time_after e.step t.others.time ≡ journal.time (Then h e)
  unfolding journal.time
  time_then = time_same e.step t.others.time ∙ ap (λ n. max n (journal.time_of e.step)) k.time

  standing_then : (r : Replica) → others.standing_after t.own e.step (others.time_after e.step t.others.time) r (t.others.standing r) ≡ journal.standing (Then h e) r
  unfolding journal.standing
  standing_then r =
      stands_same t.own e.step t.others.time r (t.others.standing r)
      ∙ (λ i. journal.standing_after (k.own i) e.step (max (k.time i) (journal.time_of e.step)) r (k.standing r i))

  known_then : (d : Dot) → (t.others.known d || (others.is_counted (others.own_after e.step t.own) (plain.count_after e.outcome t.count) d || others.merged_dot t.own t.others e.step d)) ≡ journal.known (Then h e) d
  unfolding journal.known
  known_then d = λ i. k.known d i || (journal.is_counted (own_then i) (count_then i) d || dots_same h t (hears_same h t before) e.step d i)

  named_then : (r : Replica) → (t.others.named r || ((same_replica r (others.own_after e.step t.own) && nat_lt 0 (plain.count_after e.outcome t.count)) || others.merged_replica t.own t.others e.step r)) ≡ journal.has_dots (Then h e) r
  unfolding journal.has_dots
  named_then r = λ i. k.named r i || ((same_replica r (own_then i) && nat_lt 0 (count_then i)) || replicas_same h t (hears_same h t before) e.step r i)

  behind : KeepsRows (Then h e) (moved t e.step e.outcome)
  behind = record { own = own_then; standing = standing_then; rows = rows_then h t before e l k.known }

  subscribers_then : (n : ℕ) → plain.subscriber_after e.step (t.last + 1) n (option_map (waits_more e.step n (plain.told t (moved t e.step e.outcome) e.step)) (t.subscribers n)) ≡ at_topic (queues.topic_of (Then h e) n) (queues.queue (Then h e) n)
  subscribers_then n =
      subscriber_then h e (t.last + 1) n (plain.told t (moved t e.step e.outcome) e.step) (t.subscribers n) (ap (λ m. m + 1) k.last ∙ sym l.2)
      (told_same h e t (moved t e.step e.outcome) before behind) (k.subscribers n)

  parts_then : KeepsParts (Then h e) (stepped t e.step e.outcome)
  unfolding stepped
  parts_then =
      record {
        own = own_then;
        count = count_then;
        last = last_then;
        entries = entries_then;
        last_cut = cut_then;
        rows = behind.rows;
        standing = standing_then;
        time = time_then;
        known = known_then;
        named = named_then;
        subscribers = subscribers_then;
      }

pub keeps_parts : (h : History) → IsLegal h → KeepsParts h (table h)
unfolding table
keeps_parts (Begin s) l = first_parts s
keeps_parts (Then h e) l = parts_then h e l (table h) (keeps_parts h l.0)
