-- What an owner ever did, under each of its counts. A checkpoint forgets entries, but no deeds.
use Rattle.std.specs.Prelude.{ℕ, ◌+◌, Bool, false, cond, ◌&&◌, ◌||◌, nat_eq, Option, None}
use Rattle.presence_base.specs.declared.dots.Replica.{Replica}
use Rattle.presence_base.specs.declared.row.Row.{Row}
use Rattle.presence_base.specs.Order.{same_replica}
use Rattle.orswot_core.specs.Full.{dot_of}
use Rattle.presence_journal.specs.declared.entry.Outcome.{Outcome}
use Rattle.presence_journal.specs.declared.entry.Entry.{Entry}
use Rattle.presence_journal.specs.History.{History, own, count, counts_used, next_dot, has_dot, first_some, row_added, dot_removed}
use Rattle.presence_journal.specs.Present.{dots_taken}

-- How many counts it used; the row that it added under a count; whether a count has no row any more: its row went, or it is
-- a removal's own and never had one; and whether the one count removed the row of the other.
pub record Deeds : Type 0 where
  pub used : ℕ
  pub made : ℕ → Option Row
  pub went : ℕ → Bool
  pub removes : ℕ → ℕ → Bool

abbrev pub no_deeds : Deeds
no_deeds = record { used = 0; made = λ n. None; went = λ n. false; removes = λ c n. false }

-- an outcome that takes rows out does so under the next count
abbrev pub removes_by : History → Outcome → ℕ → ℕ → Bool
removes_by h o c n = nat_eq c (count h + 1) && has_dot (dots_taken o) (dot_of (own h) n)

-- and what an entry behind a history does
abbrev pub with_entry : Deeds → History → Entry → Deeds
with_entry x h e = record {
  used = x.used + counts_used e.outcome;
  made = λ n. first_some (x.made n) (row_added e.step e.outcome (dot_of (own h) n));
  went = λ n. x.went n || dot_removed e.outcome (next_dot h) (dot_of (own h) n);
  removes = λ c n. x.removes c n || removes_by h e.outcome c n;
}

-- what each replica did
abbrev pub AllDeeds : Type 0
AllDeeds = Replica → Deeds

abbrev pub put : {A : Type 0} → Replica → A → (Replica → A) → Replica → A
put r x f q = cond (same_replica q r) x (f q)
