-- What a step comes to in a plain table, and what the table shows.
use Rattle.std.proofs.Common.{◌≡◌, ℕ, ◌+◌, ◌^◌, Bool, true, false, cond, not, ◌&&◌, nat_eq, nat_lt, nat_le, List, [], ◌∷◌, Option, Some, None, option_map, filter, refl, sym, ◌∙◌, ap}
use Rattle.std.specs.FinMap as map
use Rattle.presence_base.specs.declared.dots.Replica.{Replica}
use Rattle.presence_base.specs.declared.dots.Dot.{Dot}
use Rattle.presence_base.specs.declared.row.Row.{Row}
use Rattle.presence_base.specs.Order.{same_replica}
use Rattle.replica_status.specs.Table.{is_unheard}
use Rattle.presence_journal.specs.declared.step.Step.TheVariants as steps_are
use Rattle.presence_journal.specs.declared.entry.Outcome.TheVariants as outcomes_are
use Rattle.presence_journal.specs.declared.step.Step.{Step}
use Rattle.presence_journal.specs.declared.entry.Outcome.{Outcome}
use Rattle.presence_journal.specs.History as journal
use Rattle.presence_journal.specs.History.{History}
use Rattle.presence_journal.specs.Present as rooms
use Rattle.presence_journal.specs.Queue.{Waiting, Behind, Queued, topic_of, queue, listed_for, given as steps_given, items_given}
use Rattle.presence_journal.specs.Table.{IsLegal, rows_of_pid, rows_of_key, listed_key, own_shown, put_rows, own_dots, reborn_from}
use Rattle.presence_journal.specs.Table as steps
use Rattle.presence_journal.proofs.Same.{dot_total, dot_cmp-IsAntisymmetric, same_replica-true}
use Rattle.presence_journal.proofs.Reborn.{get_own}
use Rattle.presence_journal.proofs.HistoryLemmas.{shown-live}
use Rattle.presence_table.specs.Others as others
use Rattle.presence_table.specs.Plain.{Table, Subscriber, table}
use Rattle.presence_table.specs.Plain as plain
use Rattle.presence_table.specs.Laws.{KeepsParts, SaysTheSame, TableIsPlain}
use Rattle.presence_table.proofs.Subscribers.{at_topic}
use Rattle.presence_table.proofs.Rooms.{KeepsRows, status_is_kept, present_is_kept}
use Rattle.presence_table.proofs.Rows.{get_kept}
use Rattle.presence_table.proofs.Parts.{keeps_parts}

renewed_same : (r : Replica) (n : ℕ) (ds : List Dot) → others.renewed r n ds ≡ reborn_from r n ds
renewed_same r n [] = refl
renewed_same r n (d ∷ ds) = ap (λ ps. (record { replica = r; count = n + 1 }, d) ∷ ps) (renewed_same r (n + 1) ds)

of_present : (o : Option (List ℕ)) (w : Waiting) (f : Waiting → Outcome) → option_map (λ (x : Subscriber). f x.waiting) (at_topic o w) ≡ steps.for_present o (f w)
of_present None w f = refl
of_present (Some t) w f = refl

taking_same : (max : ℕ) (w : Waiting) → plain.taking max w ≡ steps.take_outcome max w
taking_same max Behind = refl
taking_same max (Queued q) = refl

gives_same : (rows : List (Dot × Row)) (max : ℕ) (w : Waiting) → plain.given_of rows max w ≡ steps_given rows max w
gives_same rows max Behind = refl
gives_same rows max (Queued q) = refl

module _ (h : History) (t : Table) (k : KeepsParts h t) where
  keeps : KeepsRows h t
  keeps = record { own = k.own; standing = k.standing; rows = k.rows }

  pub listed_same : (topic : List ℕ) → plain.listed t topic ≡ rooms.listed h topic
  unfolding rooms.in_order
  listed_same topic = ap plain.in_order (present_is_kept h t keeps topic)

  pub mine_same : (pid : ℕ) (topic : List ℕ) → plain.mine t pid topic ≡ rows_of_pid h pid topic
  unfolding rows_of_pid
  mine_same pid topic = λ i. filter (λ (x : Dot × Row). same_replica x.0.replica (k.own i) && nat_eq x.1.pid pid) (listed_same topic i)

  pub key_same : (pid : ℕ) (topic key : List ℕ) → plain.under key (plain.mine t pid topic) ≡ rows_of_key h pid topic key
  unfolding rows_of_key
  key_same pid topic key = ap (plain.under key) (mine_same pid topic)

  pub listed_key_same : (topic key : List ℕ) → plain.under key (plain.listed t topic) ≡ listed_key h topic key
  unfolding listed_key
  listed_key_same topic key = ap (plain.under key) (listed_same topic)

  next_same : plain.next_dot t ≡ journal.next_dot h
  next_same = λ i. record { replica = k.own i; count = k.count i + 1 }

  tracked_same : (xs : List (Dot × Row)) → plain.tracked t xs ≡ steps.tracked h xs
  tracked_same [] = λ i. cond (nat_lt (k.count i) (2 ^ 62)) (Some (outcomes_are.Added (next_same i))) None
  tracked_same (x ∷ xs) = refl

  updated_same : (xs : List (Dot × Row)) → plain.updated t xs ≡ steps.updated h xs
  updated_same [] = refl
  updated_same (x ∷ xs) = λ i. cond (nat_lt (k.count i) (2 ^ 62)) (Some (outcomes_are.Replaced (next_same i) x.0)) None

  untracked_same : (ds : List Dot) → plain.untracked t ds ≡ steps.untracked h ds
  untracked_same [] = refl
  untracked_same (d ∷ ds) = λ i. cond (nat_lt (k.count i) (2 ^ 62)) (Some (outcomes_are.Removed (d ∷ ds))) None

  -- rebirths

  own_row : (d : Dot) → map.get (plain.own_rows t) d ≡ map.get (put_rows (own_shown h) (rooms.dots h)) d
  own_row d =
      get_kept t.rows (λ x. same_replica x.replica t.own) d
      ∙ ((λ i. cond (same_replica d.replica (k.own i)) (k.rows d i) None)
      ∙ (go (same_replica d.replica (journal.own h)) refl ∙ sym (get_own h d)))
    where
      go : (b : Bool) → same_replica d.replica (journal.own h) ≡ b → cond b (journal.live h d) None ≡ cond b (journal.shown h d) None
      go true f = sym (shown-live h d (same_replica-true d.replica (journal.own h) f))
      go false f = refl

  own_dots_same : map.keys (plain.own_rows t) ≡ own_dots h
  unfolding own_dots
  own_dots_same = ap (λ (m : others.Rows). map.keys m) (map.same_map dot_total dot_cmp-IsAntisymmetric (plain.own_rows t) (put_rows (own_shown h) (rooms.dots h)) own_row)

  can_same : (i : ℕ) → others.can_be_reborn t.own t.others i ≡ steps.can_be_reborn h i
  unfolding steps.can_be_reborn
  can_same i =
      (λ j. nat_lt (k.own j).incarnation i && (nat_le i (2 ^ 62)
      && (is_unheard (others.status (k.own j) t.others (others.reborn (k.own j) i)) && not (t.others.named (others.reborn (k.own j) i)))))
      ∙ (λ j. nat_lt (journal.own h).incarnation i && (nat_le i (2 ^ 62)
      && (is_unheard (stands (others.reborn (journal.own h) i) j) && not (k.named (others.reborn (journal.own h) i) j))))
    where
      stands : (r : Replica) → others.status (journal.own h) t.others r ≡ journal.status h r
      stands r = ap (λ o. others.status o t.others r) (sym k.own) ∙ status_is_kept h t keeps r

  reborn_same : (i : ℕ) → plain.reborn_as t i ≡ outcomes_are.Reborn (reborn_from (journal.reborn (journal.own h) i) 0 (own_dots h))
  reborn_same i =
      (λ j. outcomes_are.Reborn (others.renewed (others.reborn (k.own j) i) 0 (own_dots_same j)))
      ∙ ap outcomes_are.Reborn (renewed_same (others.reborn (journal.own h) i) 0 (own_dots h))

  pub given_same : (n : ℕ) (topic : List ℕ) → topic_of h n ≡ Some topic → (max : ℕ) → plain.given t n max ≡ items_given h n max
  given_same n topic there max =
      ap (plain.given_to t max) (k.subscribers n ∙ ap (λ o. at_topic o (queue h n)) there)
      ∙ (ap (λ rows. plain.given_of rows max (queue h n)) (listed_same topic)
      ∙ (gives_same (rooms.listed h topic) max (queue h n)
      ∙ sym (ap (λ o. steps_given (listed_for h o) max (queue h n)) there)))

  pub outcome_same : (s : Step) → plain.outcome_of t s ≡ steps.outcome_of h s
  unfolding plain.outcome_of steps.outcome_of
  outcome_same (steps_are.Track pid topic key meta) = ap (plain.tracked t) (key_same pid topic key) ∙ tracked_same (rows_of_key h pid topic key)
  outcome_same (steps_are.Update pid topic key meta) = ap (plain.updated t) (key_same pid topic key) ∙ updated_same (rows_of_key h pid topic key)
  outcome_same (steps_are.Untrack pid topic key) = ap (λ xs. plain.untracked t (plain.dots_of xs)) (key_same pid topic key) ∙ untracked_same (rooms.dots_of (rows_of_key h pid topic key))
  outcome_same (steps_are.UntrackAll pid topic) = ap (λ xs. plain.untracked t (plain.dots_of xs)) (mine_same pid topic) ∙ untracked_same (rooms.dots_of (rows_of_pid h pid topic))
  outcome_same (steps_are.List topic) = ap (λ xs. Some (outcomes_are.Shown (plain.dots_of xs))) (listed_same topic)
  outcome_same (steps_are.Get topic key) = ap (λ xs. Some (outcomes_are.Shown (plain.dots_of xs))) (listed_key_same topic key)
  outcome_same (steps_are.Subscribe topic) = ap (λ n. Some (outcomes_are.Subscribed (n + 1))) k.last
  outcome_same (steps_are.Take n max) = ap (option_map (λ (x : Subscriber). plain.taking max x.waiting)) (k.subscribers n) ∙ (of_present (topic_of h n) (queue h n) (plain.taking max) ∙ ap (steps.for_present (topic_of h n)) (taking_same max (queue h n)))
  outcome_same (steps_are.Unsubscribe n) = ap (option_map (λ (x : Subscriber). outcomes_are.Ended)) (k.subscribers n) ∙ of_present (topic_of h n) (queue h n) (λ w. outcomes_are.Ended)
  outcome_same (steps_are.Shout topic payload) = refl
  outcome_same (steps_are.Heard replica now) = refl
  outcome_same (steps_are.Tick now) = refl
  outcome_same (steps_are.PermDown replica) = refl
  outcome_same steps_are.Cut = λ i. Some (outcomes_are.CutAt (k.last_cut i) (k.count i))
  outcome_same (steps_are.Merge told) = refl
  outcome_same (steps_are.Rebirth i) = λ j. cond (can_same i j) (Some (reborn_same i j)) None

  pub says_the_same : SaysTheSame h t
  says_the_same =
      record {
        parts = k;
        status = status_is_kept h t keeps;
        present = present_is_kept h t keeps;
        listed = listed_same;
        of_session = mine_same;
        of_key = listed_key_same;
        given = given_same;
        outcome = outcome_same;
      }

pub table_is_plain : TableIsPlain
table_is_plain h l = says_the_same h (table h) (keeps_parts h l)
