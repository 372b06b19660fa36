-- In histories that say the same, each step that is not a subscriber's has one outcome.
use Rattle.std.proofs.Common.{◌≡◌, ℕ, ◌^◌, Bool, true, false, not, cond, ◌&&◌, nat_eq, nat_lt, nat_le, List, [], ◌∷◌, Some, None, refl, ◌∙◌, ap}
use Rattle.std.specs.List.{filter}
use Rattle.presence_base.specs.declared.dots.Dot.{Dot}
use Rattle.presence_base.specs.declared.row.Row.{Row}
use Rattle.presence_base.specs.Order.{same_replica}
use Rattle.presence_journal.specs.declared.step.Step.TheVariants as steps_are
use Rattle.presence_journal.specs.declared.entry.Outcome.TheVariants as outcomes_are
use Rattle.replica_status.specs.declared.status.Status.{Status}
use Rattle.replica_status.specs.declared.status.Status.TheVariants as status_is
use Rattle.presence_base.specs.declared.dots.Replica.{Replica}
use Rattle.presence_journal.specs.History.{History, own, reborn, status, is_gone, has_dots}
use Rattle.presence_journal.proofs.Reborn.{same_own_dots, same_has}
use Rattle.presence_journal.specs.Present.{dots_of}
use Rattle.presence_journal.specs.Table.{has_key, rows_of_pid, rows_of_key, listed_key, tracked, updated, untracked, reborn_rows, is_unheard, can_be_reborn, outcome_of}
use Rattle.presence_journal_laws.specs.Later.{IsLike, SameOutcomes}
use Rattle.presence_journal_laws.proofs.Alikes.{next_same, status_same, known_same}
use Rattle.presence_journal_laws.proofs.AlikeRows.{listed_same, shown_same}

module _ (g h : History) (a : IsLike g h) where
  pid_same : (pid : ℕ) (t : List ℕ) → rows_of_pid g pid t ≡ rows_of_pid h pid t
  unfolding rows_of_pid
  pid_same pid t = λ i. filter (λ (x : Dot × Row). same_replica x.0.replica (a.own i) && nat_eq x.1.pid pid) (listed_same g h a t i)

  key_same : (pid : ℕ) (t key : List ℕ) → rows_of_key g pid t key ≡ rows_of_key h pid t key
  unfolding rows_of_key
  key_same pid t key = ap (filter (has_key key)) (pid_same pid t)

  listed_key_same : (t key : List ℕ) → listed_key g t key ≡ listed_key h t key
  unfolding listed_key
  listed_key_same t key = ap (filter (has_key key)) (listed_same g h a t)

  tracked_same : (xs : List (Dot × Row)) → tracked g xs ≡ tracked h xs
  tracked_same [] = λ i. cond (nat_lt (a.count i) (2 ^ 62)) (Some (outcomes_are.Added (next_same g h a i))) None
  tracked_same (x ∷ xs) = refl

  updated_same : (xs : List (Dot × Row)) → updated g xs ≡ updated h xs
  updated_same [] = refl
  updated_same (x ∷ xs) = λ i. cond (nat_lt (a.count i) (2 ^ 62)) (Some (outcomes_are.Replaced (next_same g h a i) x.0)) None

  untracked_same : (ds : List Dot) → untracked g ds ≡ untracked h ds
  untracked_same [] = refl
  untracked_same (d ∷ ds) = λ i. cond (nat_lt (a.count i) (2 ^ 62)) (Some (outcomes_are.Removed (d ∷ ds))) None

-- rebirths

unheard_there : (x : Status) → is_unheard x ≡ true → is_gone x ≡ false
unheard_there status_is.Unheard f = refl
unheard_there status_is.Up f = absurd (cc)
unheard_there status_is.Down f = absurd (cc)
unheard_there status_is.Gone f = absurd (cc)

module _ (g h : History) (a : IsLike g h) where
  unheard_same : (r : Replica) → (is_unheard (status g r) && not (has_dots g r)) ≡ (is_unheard (status h r) && not (has_dots h r))
  unheard_same r = ap (λ x. is_unheard x && not (has_dots g r)) (status_same g h a r) ∙ go (is_unheard (status h r)) refl
    where
      go : (b : Bool) → is_unheard (status h r) ≡ b → (b && not (has_dots g r)) ≡ (b && not (has_dots h r))
      go false u = refl
      go true u = ap not (same_has g h r (λ d o. known_same g h a d (ap (λ q. is_gone (status h q)) o ∙ unheard_there (status h r) u)))

  can_same : (i : ℕ) → can_be_reborn g i ≡ can_be_reborn h i
  unfolding can_be_reborn
  can_same i =
      (λ j. nat_lt (a.own j).incarnation i && (nat_le i (2 ^ 62) && (is_unheard (status g (reborn (a.own j) i)) && not (has_dots g (reborn (a.own j) i)))))
      ∙ ap (λ b. nat_lt (own h).incarnation i && (nat_le i (2 ^ 62) && b)) (unheard_same (reborn (own h) i))

pub same_outcomes : SameOutcomes
unfolding outcome_of
same_outcomes g h a (steps_are.Track pid topic key meta) f = ap (tracked g) (key_same g h a pid topic key) ∙ tracked_same g h a (rows_of_key h pid topic key)
same_outcomes g h a (steps_are.Update pid topic key meta) f = ap (updated g) (key_same g h a pid topic key) ∙ updated_same g h a (rows_of_key h pid topic key)
same_outcomes g h a (steps_are.Untrack pid topic key) f = ap (λ xs. untracked g (dots_of xs)) (key_same g h a pid topic key) ∙ untracked_same g h a (dots_of (rows_of_key h pid topic key))
same_outcomes g h a (steps_are.UntrackAll pid topic) f = ap (λ xs. untracked g (dots_of xs)) (pid_same g h a pid topic) ∙ untracked_same g h a (dots_of (rows_of_pid h pid topic))
same_outcomes g h a (steps_are.List topic) f = ap (λ xs. Some (outcomes_are.Shown (dots_of xs))) (listed_same g h a topic)
same_outcomes g h a (steps_are.Get topic key) f = ap (λ xs. Some (outcomes_are.Shown (dots_of xs))) (listed_key_same g h a topic key)
same_outcomes g h a (steps_are.Subscribe topic) f = absurd (cc)
same_outcomes g h a (steps_are.Take n max) f = absurd (cc)
same_outcomes g h a (steps_are.Unsubscribe n) f = absurd (cc)
same_outcomes g h a (steps_are.Shout topic payload) f = refl
same_outcomes g h a (steps_are.Heard replica now) f = refl
same_outcomes g h a (steps_are.Tick now) f = refl
same_outcomes g h a (steps_are.PermDown replica) f = refl
same_outcomes g h a steps_are.Cut f = λ i. Some (outcomes_are.CutAt (a.last_cut i) (a.count i))
same_outcomes g h a (steps_are.Merge told) f = refl
same_outcomes g h a (steps_are.Rebirth i) f = λ j. reborn_rows (can_same g h a i j) (reborn (a.own j) i) (same_own_dots g h a.own (shown_same g h a) j)
