-- What is told of two deltas in turn, in whatever forms.
use Rattle.std.proofs.Common.{◌≡◌, ◌+◌, Bool, false, cond, not, ◌&&◌, ◌||◌, List, ℕ, Option, Some, None, refl, sym, ◌∙◌, ap, subst, arith}
use Rattle.std.specs.Prelude.{is_none}
use Rattle.std.specs.FinSet as set
use Rattle.std.specs.FinMap as map
use Rattle.presence_base.specs.declared.dots.Replica.{Replica}
use Rattle.presence_base.specs.declared.dots.Dot.{Dot}
use Rattle.presence_base.specs.declared.row.Row.{Row}
use Rattle.presence_base.specs.Order.{same_replica}
use Rattle.replica_status.specs.declared.status.Status.{Status}
use Rattle.orswot_core.specs.declared.form.Form.{Form}
use Rattle.orswot_core.specs.declared.form.Form.TheVariants.{One}
use Rattle.orswot_core.specs.Telling.{ToldValue, covers, live_row, tells_removed}
use Rattle.orswot_core.specs.Sets.{DotRows, joined_row}
use Rattle.orswot_core.specs.Laws.{TakesIn}
use Rattle.delta_range.specs.Deltas.{DeltaValue, telling, telling_in, IsDelta, GoesOn}
use Rattle.delta_range.specs.Joining.{joined}
use Rattle.delta_range.proofs.FormFacts.{tells_the_same}
use Rattle.delta_range.proofs.ViewFacts.{tells_in_turn}
use Rattle.presence_journal.specs.declared.step.Step.TheVariants as steps_are
use Rattle.presence_journal.specs.declared.entry.Outcome.TheVariants as outcomes_are
use Rattle.presence_journal.specs.History.{History, Then, own, count, entry_count, last_number, is_full, standing, status, is_up, is_gone, hears, is_counted, known, first_some, removed, row, live, shown}
use Rattle.presence_journal.specs.Present.{of_topic, present}
use Rattle.presence_journal.specs.Table.{after, outcome_of, next_entry}
use Rattle.presence_journal.proofs.Fold.{same_present}
use Rattle.presence_journal.proofs.HistoryLemmas.{after-accepted, known-then}
use Rattle.presence_journal_laws.specs.Joined.{merged, SayTheSame, MergesInTurn}
use Rattle.presence_journal_laws.specs.Forms.{FormsTellInTurn, merged_in, FormsMergeInTurn}

-- told values that say the same of each dot
pub record TellsAlike (t u : ToldValue) : Type 0 where
  pub covers : (d : Dot) → covers t d ≡ covers u d
  pub rows : (d : Dot) → live_row t d ≡ live_row u d

pub in_forms : (f g : Form) (d : DeltaValue) → TellsAlike (telling_in f d) (telling_in g d)
in_forms f g d = record { covers = λ q. (tells_the_same f g d q).0; rows = λ q. (tells_the_same f g d q).1 }

-- ---- sets

takes_alike : (s x : DotRows) (t u : ToldValue) → TellsAlike t u → TakesIn s t x → TakesIn s u x
takes_alike s x t u a k = λ d. (
  (k d).0 ∙ ap (λ b. set.contains s.covered d || b) (a.covers d),
  (k d).1 ∙ (λ i. joined_row (map.get s.live d) (set.contains s.covered d) (a.rows d i) (a.covers d i)),
)

pub forms_tell_in_turn : FormsTellInTurn
forms_tell_in_turn f g k s x y z a b da db next first second both =
    tells_in_turn s x y z a b da db next (takes_alike s x (telling_in f a) (telling a) (in_forms f One a) first)
    (takes_alike x y (telling_in g b) (telling b) (in_forms g One b) second)
    (takes_alike s z (telling_in k (joined a b)) (telling (joined a b)) (in_forms k One (joined a b)) both)

-- ---- histories

-- the history with the entry of a merge
abbrev told : ToldValue → History → History
told t h = Then h (next_entry h (steps_are.Merge t) None outcomes_are.Merged)

told_is : (h : History) (t : ToldValue) → is_full h ≡ false → after h (steps_are.Merge t) None ≡ told t h
unfolding outcome_of
told_is h t room = after-accepted h (steps_are.Merge t) None outcomes_are.Merged refl room

own_told : (h : History) (t : ToldValue) → own (told t h) ≡ own h
unfolding own
own_told h t = refl

count_told : (h : History) (t : ToldValue) → count (told t h) ≡ count h
unfolding count
count_told h t = let none : count h + 0 ≡ count h = omega arith in none

status_told : (h : History) (t : ToldValue) (r : Replica) → status (told t h) r ≡ status h r
unfolding status standing own
status_told h t r = refl

full_told : (h : History) (t u : ToldValue) → is_full (told t h) ≡ is_full (told u h)
unfolding entry_count last_number
full_told h t u = refl

hears-is : (h : History) (r : Replica) → hears h r ≡ (not (same_replica r (own h)) && not (is_gone (status h r)))
unfolding hears
hears-is h r = refl

known_told : (h : History) (t : ToldValue) (q : Dot) → known (told t h) q ≡ (known h q || (is_counted (own h) (count h) q || (hears h q.replica && covers t q)))
known_told h t q =
    known-then h (next_entry h (steps_are.Merge t) None outcomes_are.Merged) q
    ∙ (λ i. known h q || (is_counted (own_told h t i) (count_told h t i) q || (hears h q.replica && covers t q)))

removed_told : (h : History) (t : ToldValue) (q : Dot) → removed (told t h) q ≡ (removed h q || (hears h q.replica && tells_removed t q))
unfolding removed
removed_told h t q = refl

row_told : (h : History) (t : ToldValue) (q : Dot) → row (told t h) q ≡ first_some (row h q) (cond (hears h q.replica) (live_row t q) None)
unfolding row
row_told h t q = refl

-- the histories say the same of each dot and replica
record AreAlike (g h : History) : Type 0 where
  own : own g ≡ own h
  count : count g ≡ count h
  status : (r : Replica) → status g r ≡ status h r
  known : (d : Dot) → known g d ≡ known h d
  removed : (d : Dot) → removed g d ≡ removed h d
  rows : (d : Dot) → row g d ≡ row h d

same_history : (h : History) → AreAlike h h
same_history h = record { own = refl; count = refl; status = λ r. refl; known = λ d. refl; removed = λ d. refl; rows = λ d. refl }

hears_alike : (g h : History) → AreAlike g h → (r : Replica) → hears g r ≡ hears h r
hears_alike g h a r = hears-is g r ∙ ((λ i. not (same_replica r (a.own i)) && not (is_gone (a.status r i))) ∙ sym (hears-is h r))

told_alike : (g h : History) (t u : ToldValue) → AreAlike g h → TellsAlike t u → AreAlike (told t g) (told u h)
told_alike g h t u a k = record {
  own = own_told g t ∙ (a.own ∙ sym (own_told h u));
  count = count_told g t ∙ (a.count ∙ sym (count_told h u));
  status = λ r. status_told g t r ∙ (a.status r ∙ sym (status_told h u r));
  known = λ d.
      known_told g t d
      ∙ ((λ i. a.known d i || (is_counted (a.own i) (a.count i) d || (hears_alike g h a d.replica i && k.covers d i)))
      ∙ sym (known_told h u d));
  removed = λ d.
      removed_told g t d
      ∙ ((λ i. a.removed d i || (hears_alike g h a d.replica i && (k.covers d i && is_none (k.rows d i))))
      ∙ sym (removed_told h u d));
  rows = λ d.
      row_told g t d
      ∙ ((λ i. first_some (a.rows d i) (cond (hears_alike g h a d.replica i) (k.rows d i) None))
      ∙ sym (row_told h u d));
}

live_alike : (g h : History) → AreAlike g h → (d : Dot) → live g d ≡ live h d
unfolding live
live_alike g h a d = λ i. cond (a.removed d i) None (a.rows d i)

shown_alike : (g h : History) → AreAlike g h → (d : Dot) → shown g d ≡ shown h d
unfolding shown
shown_alike g h a d = λ i. cond (is_up (a.status d.replica i)) (live_alike g h a d i) None

alike_say : (g h : History) → AreAlike g h → SayTheSame g h
alike_say g h a = record {
  known = a.known;
  removed = a.removed;
  live = live_alike g h a;
  present = λ t. same_present g h t (λ d. ap (of_topic t) (shown_alike g h a d));
}

say_both : (g h k : History) → SayTheSame g h → SayTheSame h k → SayTheSame g k
say_both g h k a b = record {
  known = λ d. a.known d ∙ b.known d;
  removed = λ d. a.removed d ∙ b.removed d;
  live = λ d. a.live d ∙ b.live d;
  present = λ t. a.present t ∙ b.present t;
}

pub forms_merge_in_turn : MergesInTurn → FormsMergeInTurn
forms_merge_in_turn in_turn f g k h a b da db next room more =
    subst (λ z. SayTheSame z (merged_in k h (joined a b))) (sym two)
    (subst (SayTheSame (told (telling_in g b) (told (telling_in f a) h))) (sym (told_is h (telling_in k (joined a b)) room))
    (say_both (told (telling_in g b) (told (telling_in f a) h)) (told (telling b) (told (telling a) h)) (told (telling_in k (joined a b)) h) (alike_say _ _ parts)
    (say_both (told (telling b) (told (telling a) h)) (told (telling (joined a b)) h) (told (telling_in k (joined a b)) h) plain (alike_say _ _ whole))))
  where
    first : merged_in f h a ≡ told (telling_in f a) h
    first = told_is h (telling_in f a) room

    two : merged_in g (merged_in f h a) b ≡ told (telling_in g b) (told (telling_in f a) h)
    two = told_is (merged_in f h a) (telling_in g b) more ∙ ap (told (telling_in g b)) first

    parts : AreAlike (told (telling_in g b) (told (telling_in f a) h)) (told (telling b) (told (telling a) h))
    parts =
        told_alike (told (telling_in f a) h) (told (telling a) h) (telling_in g b) (telling b)
        (told_alike h h (telling_in f a) (telling a) (same_history h) (in_forms f One a)) (in_forms g One b)

    whole : AreAlike (told (telling (joined a b)) h) (told (telling_in k (joined a b)) h)
    whole = told_alike h h (telling (joined a b)) (telling_in k (joined a b)) (same_history h) (in_forms One k (joined a b))

    plain_room : is_full (merged h a) ≡ false
    plain_room = ap is_full (told_is h (telling a) room) ∙ (full_told h (telling a) (telling_in f a) ∙ (ap is_full (sym first) ∙ more))

    plain : SayTheSame (told (telling b) (told (telling a) h)) (told (telling (joined a b)) h)
    plain =
        subst (λ z. SayTheSame z (told (telling (joined a b)) h)) (told_is (merged h a) (telling b) plain_room ∙ ap (told (telling b)) (told_is h (telling a) room))
        (subst (SayTheSame (merged (merged h a) b)) (told_is h (telling (joined a b)) room) (in_turn h a b da db next room plain_room))
