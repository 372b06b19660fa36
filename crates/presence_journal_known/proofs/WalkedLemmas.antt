-- What a set that holds a history holds after one more entry.
use Rattle.std.proofs.Common.{◌≡◌, Bool, true, false, cond, ◌&&◌, ◌||◌, Option, Some, None, refl, sym, ◌∙◌, ap}
use Rattle.std.specs.Prelude.{is_none}
use Rattle.std.specs.FinSet as set
use Rattle.std.specs.FinMap as map
use Rattle.presence_base.specs.declared.dots.Dot.{Dot}
use Rattle.presence_base.specs.declared.row.Row.{Row}
use Rattle.presence_base.specs.Order.{dot_cmp}
use Rattle.orswot_core.specs.Telling.{ToldValue, covers, live_row, cut_to}
use Rattle.orswot_core.proofs.CutFacts.{cut_tells}
use Rattle.orswot_core.specs.Sets.{DotRows, joined_row}
use Rattle.orswot_core.specs.Laws.{TakesIn}
use Rattle.presence_journal.specs.declared.entry.Start.{Start}
use Rattle.presence_journal.specs.History.{History, Begin, hears, known, row, removed, live}
use Rattle.presence_journal.specs.Merges.{row_taken_in}
use Rattle.presence_journal.proofs.Merges.{merge_is_known, merge_is_live}
use Rattle.presence_journal_known.specs.Walked.{Holds, IsMergeAfter}

same_choice : (l : Option Row) (k : Bool) (r : Option Row) (c : Bool) → joined_row l k r c ≡ row_taken_in l k r c
same_choice (Some x) k (Some y) c = refl
same_choice (Some x) k None c = refl
same_choice None k (Some y) c = refl
same_choice None k None c = refl

unheard : (l : Option Row) (k : Bool) → joined_row l k None false ≡ l
unheard (Some x) k = refl
unheard None k = refl

-- a join with what is heard alone
heard_row : (b : Bool) (l : Option Row) (k : Bool) (r : Option Row) (c : Bool) → joined_row l k (cond b r None) (b && c) ≡ cond b (row_taken_in l k r c) l
heard_row true l k r c = same_choice l k r c
heard_row false l k r c = unheard l k

pub merged : (h : History) (t : ToldValue) (s u : DotRows) → Holds h s → TakesIn s (cut_to (hears h) t) u → IsMergeAfter h t u
merged h t s u holds takes e legal is = record {
  known = λ d.
      (takes d).0
      ∙ ((λ i. holds.known d i || (cut_tells (hears h) t d).0 i)
      ∙ sym (merge_is_known h e legal t is d));
  live = λ d.
      (takes d).1
      ∙ ((λ i. joined_row (holds.live d i) (holds.known d i) ((cut_tells (hears h) t d).1 i) ((cut_tells (hears h) t d).0 i))
      ∙ (heard_row (hears h d.replica) (live h d) (known h d) (live_row t d) (covers t d)
      ∙ sym (merge_is_live h e legal t is d)));
}

-- a Start: what it covers is known, and its rows are live

known-begin : (s : Start) (d : Dot) → covers s.content d ≡ known (Begin s) d
unfolding known
known-begin s d = refl

live-begin : (s : Start) (d : Dot) → live_row s.content d ≡ live (Begin s) d
unfolding live row removed
live-begin s d = go (covers s.content d) (live_row s.content d)
  where
    go : (b : Bool) (o : Option Row) → o ≡ cond (b && is_none o) None o
    go true None = refl
    go true (Some r) = refl
    go false o = refl

-- an empty set that takes this in
pub kept : (s : Start) (x u : DotRows) → x ≡ record { covered = set.empty; live = map.empty } → TakesIn x s.content u → Holds (Begin s) u
kept s x u empty takes = record {
  known = λ d.
      (takes d).0
      ∙ ((λ i. set.contains (empty i).covered d || covers s.content d)
      ∙ (ap (λ b. b || covers s.content d) (set.contains-empty dot_cmp d)
      ∙ known-begin s d));
  live = λ d.
      (takes d).1
      ∙ ((λ i. joined_row (map.get (empty i).live d) (set.contains (empty i).covered d) (live_row s.content d) (covers s.content d))
      ∙ ((λ i. joined_row (map.get-empty dot_cmp d i) (set.contains-empty dot_cmp d i) (live_row s.content d) (covers s.content d))
      ∙ (alone (live_row s.content d) (covers s.content d)
      ∙ live-begin s d)));
}
  where
    alone : (o : Option Row) (b : Bool) → joined_row None false o b ≡ o
    alone None b = refl
    alone (Some r) b = refl
