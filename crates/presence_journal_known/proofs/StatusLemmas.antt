-- The standing of a replica, entry by entry.
use Rattle.std.proofs.Common.{◌≡◌, ℕ, ◌+◌, ◌<◌, true, false, cond, refl, sym, ◌∙◌, ap, List, length, get_or, not, ◌&&◌}
use Rattle.std.specs.Prelude.{max}
use Rattle.presence_base.specs.declared.dots.Replica.{Replica}
use Rattle.presence_base.specs.Order.{same_replica}
use Rattle.replica_status.specs.declared.standing.Standing.{Standing}
use Rattle.replica_status.specs.declared.status.Status.TheVariants as status_is
use Rattle.replica_status.specs.Table.{status_of}
use Rattle.replica_status.specs.Boards.{standing_in}
use Rattle.presence_journal.specs.declared.entry.Entry.{Entry}
use Rattle.presence_journal.specs.declared.entry.Start.{Start}
use Rattle.presence_journal.specs.History.{History, Begin, Then, onto, own, own_after, time_of, time, standing_after, standing, status, is_gone, hears}
use Rattle.presence_journal.proofs.Walking.{Reached, drop_next}

-- the own replica is up, and the status of another is that of its standing

pub status_up : (h : History) (r : Replica) → same_replica r (own h) ≡ true → status_is.Up ≡ status h r
unfolding status
status_up h r e = sym (ap (λ b. cond b status_is.Up (status_of (standing h r))) e)

pub status_other : (h : History) (r : Replica) → same_replica r (own h) ≡ false → status_of (standing h r) ≡ status h r
unfolding status
status_other h r e = sym (ap (λ b. cond b status_is.Up (status_of (standing h r))) e)

-- this is the own replica, the greatest time, and the standing of the replica
pub record Stands (o r : Replica) (t : ℕ) (x : Standing) (h : History) : Type 0 where
  pub mine : o ≡ own h
  pub now : t ≡ time h
  pub stands : x ≡ standing h r

pub stands_start : (r : Replica) (s : Start) → Stands s.own r s.time (standing_in s.standings r) (Begin s)
unfolding own time standing
stands_start r s = record { mine = refl; now = refl; stands = refl }

pub stands_more : (o p r : Replica) (t u : ℕ) (x y : Standing) (h : History) (e : Entry) → p ≡ own_after e.step o → u ≡ max t (time_of e.step) → y ≡ standing_after o e.step u r x → Stands o r t x h → Stands p r u y (Then h e)
unfolding own time standing
stands_more o p r t u x y h e mine later next s = record {
  mine = mine ∙ ap (own_after e.step) s.mine;
  now = later ∙ ap (λ n. max n (time_of e.step)) s.now;
  stands = next
      ∙ (ap (λ n. standing_after o e.step n r x) later
      ∙ (λ i. standing_after (s.mine i) e.step (max (s.now i) (time_of e.step)) r (s.stands i)));
}

pub own-begin : (s : Start) → own (Begin s) ≡ s.own
unfolding own
own-begin s = refl

-- one entry more, of any history
pub passed_more : (whole : History) (es : List Entry) (i : ℕ) (e : Entry) (P Q : History → Type 0) → i < length es → e ≡ get_or es i e → ((h : History) → P h → Q (Then h e)) → Reached whole es i P → Reached whole es (i + 1) Q
passed_more whole es i e P Q lt is step r = record {
  front = Then r.front e;
  rest = ap (onto r.front) (sym (drop_next es i e lt is)) ∙ r.rest;
  here = step r.front r.here;
}

pub hears_not_own : (h : History) (r : Replica) → same_replica r (own h) ≡ true → false ≡ hears h r
unfolding hears
hears_not_own h r e = sym (ap (λ b. not b && not (is_gone (status h r))) e)

pub hears_other : (h : History) (r : Replica) → same_replica r (own h) ≡ false → not (is_gone (status h r)) ≡ hears h r
unfolding hears
hears_other h r e = sym (ap (λ b. not b && not (is_gone (status h r))) e)
