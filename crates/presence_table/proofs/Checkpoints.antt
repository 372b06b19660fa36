-- A checkpoint keeps the plain table.
use Rattle.std.proofs.Common.{◌≡◌, ℕ, ◌+◌, ◌^◌, Bool, true, false, cond, not, ◌&&◌, nat_eq, nat_lt, nat_le, List, [], ◌∷◌, Option, Some, None, option_map, filter, refl, sym, ◌∙◌, ap, subst}
use Rattle.std.specs.FinMap as map
use Rattle.std.proofs.lemmas.Bool.{and_parts}
use Rattle.presence_base.specs.declared.dots.Replica.{Replica}
use Rattle.presence_base.specs.declared.dots.Dot.{Dot}
use Rattle.presence_base.specs.declared.row.Row.{Row}
use Rattle.presence_base.specs.Order.{same_replica}
use Rattle.orswot_core.specs.Telling.{covers}
use Rattle.replica_status.specs.Boards.{standing_in}
use Rattle.replica_status.specs.declared.standing.Standing.{Standing}
use Rattle.replica_status.specs.declared.status.Status.{Status}
use Rattle.replica_status.specs.declared.status.Status.TheVariants as status_is
use Rattle.replica_status.specs.Table.{status_of, is_unheard}
use Rattle.presence_journal.specs.declared.step.Step.TheVariants as steps_are
use Rattle.presence_journal.specs.declared.entry.Outcome.TheVariants as outcomes_are
use Rattle.presence_journal.specs.declared.step.Step.{Step}
use Rattle.presence_journal.specs.declared.entry.Start.{Start}
use Rattle.presence_journal.specs.History as journal
use Rattle.presence_journal.specs.History.{History, Begin}
use Rattle.presence_journal.specs.Present.{of_topic}
use Rattle.presence_journal.specs.Queue as queues
use Rattle.presence_journal.specs.Queue.{Waiting, Behind, Queued}
use Rattle.presence_journal.specs.Walk.{keyed}
use Rattle.presence_journal.proofs.Same.{dot_total, dot_cmp-IsAntisymmetric}
use Rattle.presence_journal.proofs.Lookups.{same_rows}
use Rattle.presence_journal.proofs.Reborn.{known_has, some_known}
use Rattle.presence_journal_cuts.specs.Checkpoints.{StandsFor}
use Rattle.tracker_index.specs.Starting.{LeavesQueues}
use Rattle.presence_table.specs.Others as others
use Rattle.presence_table.specs.Others.{is_up, is_gone}
use Rattle.presence_table.specs.Plain.{Table, Subscriber, opened, table}
use Rattle.presence_table.specs.Plain as plain
use Rattle.presence_table.specs.Laws.{KeepsParts}
use Rattle.presence_table.specs.Checkpoints.{is_kept, waits_again, is_answered_alike, GoesOn, CheckpointKeepsTable}
use Rattle.presence_table.proofs.Subscribers.{at_topic}
use Rattle.presence_table.proofs.Rooms.{status_is_kept, get_present}
use Rattle.presence_table.proofs.Rows.{get_kept, find_lookup, gone_same}
use Rattle.presence_table.proofs.Parts.{keeps_parts}

abbrev goes_on : Bool → Subscriber → Subscriber
goes_on stay x = record x { waiting = waits_again stay x.waiting }

-- a replica that is up is not gone, nor is one that is not heard yet
up_kept : (x : Status) (o : Option Row) → cond (is_up x) (cond (not (is_gone x)) o None) None ≡ cond (is_up x) o None
up_kept status_is.Unheard o = refl
up_kept status_is.Up o = refl
up_kept status_is.Down o = refl
up_kept status_is.Gone o = refl

unheard_kept : (x : Status) (b : Bool) → (is_unheard x && not (b && not (is_gone x))) ≡ (is_unheard x && not b)
unheard_kept status_is.Unheard true = refl
unheard_kept status_is.Unheard false = refl
unheard_kept status_is.Up b = refl
unheard_kept status_is.Down b = refl
unheard_kept status_is.Gone b = refl

own_kept : (b : Bool) (x : Standing) (o : Option Row) → cond b (cond (not (is_gone (cond b status_is.Up (status_of x)))) o None) None ≡ cond b o None
own_kept true x o = refl
own_kept false x o = refl

turned : (b : Bool) (o : Option Row) → cond b None o ≡ cond (not b) o None
turned true o = refl
turned false o = refl

still_ended : (stay : Bool) (o : Option Subscriber) → option_map (λ (x : Subscriber). outcomes_are.Ended) (option_map (goes_on stay) o) ≡ option_map (λ (x : Subscriber). outcomes_are.Ended) o
still_ended stay None = refl
still_ended stay (Some x) = refl

-- what follows from the parts

module _ (stay : Bool) (t u : Table)
    (own : u.own ≡ t.own) (count : u.count ≡ t.count) (last_cut : u.last_cut ≡ t.last_cut)
    (rows : (d : Dot) → map.get u.rows d ≡ cond (is_kept t d.replica) (map.get t.rows d) None)
    (standing : (r : Replica) → same_replica r t.own ≡ false → u.others.standing r ≡ t.others.standing r)
    (named : (r : Replica) → u.others.named r ≡ (t.others.named r && is_kept t r))
    (subscribers : (n : ℕ) → u.subscribers n ≡ option_map (goes_on stay) (t.subscribers n)) where
  status_same : (r : Replica) → plain.status u r ≡ plain.status t r
  status_same r = (λ i. cond (same_replica r (own i)) status_is.Up (status_of (u.others.standing r))) ∙ go (same_replica r t.own) refl
    where
      go : (b : Bool) → same_replica r t.own ≡ b → cond b status_is.Up (status_of (u.others.standing r)) ≡ cond b status_is.Up (status_of (t.others.standing r))
      go true e = refl
      go false e = ap status_of (standing r e)

  rows_same : u.rows ≡ map.retain_keys t.rows (λ d. is_kept t d.replica)
  rows_same =
      map.same_map dot_total dot_cmp-IsAntisymmetric u.rows (map.retain_keys t.rows (λ d. is_kept t d.replica))
      (λ d. rows d ∙ sym (get_kept t.rows (λ x. is_kept t x.replica) d))

  present_same : (topic : List ℕ) → plain.present u topic ≡ plain.present t topic
  present_same topic =
      same_rows (plain.present u topic) (plain.present t topic)
      (λ p. get_present u topic p
      ∙ ((λ i. keyed p.key (of_topic topic (cond (is_up (status_same p.dot.replica i)) (rows p.dot i) None)))
      ∙ (ap (λ o. keyed p.key (of_topic topic o)) (up_kept (plain.status t p.dot.replica) (map.get t.rows p.dot))
      ∙ sym (get_present t topic p))))

  listed_same : (topic : List ℕ) → plain.listed u topic ≡ plain.listed t topic
  listed_same topic = ap plain.in_order (present_same topic)

  mine_same : (pid : ℕ) (topic : List ℕ) → plain.mine u pid topic ≡ plain.mine t pid topic
  mine_same pid topic = λ i. filter (λ (x : Dot × Row). same_replica x.0.replica (own i) && nat_eq x.1.pid pid) (listed_same topic i)

  next_same : plain.next_dot u ≡ plain.next_dot t
  next_same = λ i. record { replica = own i; count = count i + 1 }

  tracked_same : (xs : List (Dot × Row)) → plain.tracked u xs ≡ plain.tracked t xs
  tracked_same [] = λ i. cond (nat_lt (count i) (2 ^ 62)) (Some (outcomes_are.Added (next_same i))) None
  tracked_same (x ∷ xs) = refl

  updated_same : (xs : List (Dot × Row)) → plain.updated u xs ≡ plain.updated t xs
  updated_same [] = refl
  updated_same (x ∷ xs) = λ i. cond (nat_lt (count i) (2 ^ 62)) (Some (outcomes_are.Replaced (next_same i) x.0)) None

  untracked_same : (ds : List Dot) → plain.untracked u ds ≡ plain.untracked t ds
  untracked_same [] = refl
  untracked_same (d ∷ ds) = λ i. cond (nat_lt (count i) (2 ^ 62)) (Some (outcomes_are.Removed (d ∷ ds))) None

  own_row : (d : Dot) → map.get (plain.own_rows u) d ≡ map.get (plain.own_rows t) d
  own_row d =
      get_kept u.rows (λ x. same_replica x.replica u.own) d
      ∙ ((λ i. cond (same_replica d.replica (own i)) (rows d i) None)
      ∙ (own_kept (same_replica d.replica t.own) (t.others.standing d.replica) (map.get t.rows d)
      ∙ sym (get_kept t.rows (λ x. same_replica x.replica t.own) d)))

  own_rows_same : plain.own_rows u ≡ plain.own_rows t
  own_rows_same = map.same_map dot_total dot_cmp-IsAntisymmetric (plain.own_rows u) (plain.own_rows t) own_row

  unheard_same : (r : Replica) → (is_unheard (plain.status u r) && not (u.others.named r)) ≡ (is_unheard (plain.status t r) && not (t.others.named r))
  unheard_same r = (λ i. is_unheard (status_same r i) && not (named r i)) ∙ unheard_kept (plain.status t r) (t.others.named r)

  can_same : (i : ℕ) → others.can_be_reborn u.own u.others i ≡ others.can_be_reborn t.own t.others i
  can_same i =
      (λ j. nat_lt (own j).incarnation i && (nat_le i (2 ^ 62)
      && (is_unheard (others.status u.own u.others (others.reborn (own j) i)) && not (u.others.named (others.reborn (own j) i)))))
      ∙ ap (λ b. nat_lt t.own.incarnation i && (nat_le i (2 ^ 62) && b)) (unheard_same (others.reborn t.own i))

  reborn_same : (i : ℕ) → plain.reborn_as u i ≡ plain.reborn_as t i
  reborn_same i = λ j. outcomes_are.Reborn (others.renewed (others.reborn (own j) i) 0 (map.keys (own_rows_same j)))

  outcome_same : (s : Step) → is_answered_alike s ≡ true → plain.outcome_of u s ≡ plain.outcome_of t s
  unfolding plain.outcome_of
  outcome_same (steps_are.Track pid topic key meta) a = ap (λ xs. plain.tracked u (plain.under key xs)) (mine_same pid topic) ∙ tracked_same (plain.under key (plain.mine t pid topic))
  outcome_same (steps_are.Update pid topic key meta) a = ap (λ xs. plain.updated u (plain.under key xs)) (mine_same pid topic) ∙ updated_same (plain.under key (plain.mine t pid topic))
  outcome_same (steps_are.Untrack pid topic key) a = ap (λ xs. plain.untracked u (plain.dots_of (plain.under key xs))) (mine_same pid topic) ∙ untracked_same (plain.dots_of (plain.under key (plain.mine t pid topic)))
  outcome_same (steps_are.UntrackAll pid topic) a = ap (λ xs. plain.untracked u (plain.dots_of xs)) (mine_same pid topic) ∙ untracked_same (plain.dots_of (plain.mine t pid topic))
  outcome_same (steps_are.List topic) a = ap (λ xs. Some (outcomes_are.Shown (plain.dots_of xs))) (listed_same topic)
  outcome_same (steps_are.Get topic key) a = ap (λ xs. Some (outcomes_are.Shown (plain.dots_of (plain.under key xs)))) (listed_same topic)
  outcome_same (steps_are.Subscribe topic) a = absurd (cc)
  outcome_same (steps_are.Take n max) a = absurd (cc)
  outcome_same (steps_are.Unsubscribe n) a = ap (option_map (λ (x : Subscriber). outcomes_are.Ended)) (subscribers n) ∙ still_ended stay (t.subscribers n)
  outcome_same (steps_are.Shout topic payload) a = refl
  outcome_same (steps_are.Heard replica now) a = refl
  outcome_same (steps_are.Tick now) a = refl
  outcome_same (steps_are.PermDown replica) a = refl
  outcome_same steps_are.Cut a = λ i. Some (outcomes_are.CutAt (last_cut i) (count i))
  outcome_same (steps_are.Merge told) a = refl
  outcome_same (steps_are.Rebirth i) a = λ j. cond (can_same i j) (Some (reborn_same i j)) None

-- the parts themselves

left_again : (w : Waiting) → queues.left_waiting w ≡ waits_again true w
left_again Behind = refl
left_again (Queued []) = refl
left_again (Queued (x ∷ xs)) = refl

module _ (h : History) (s : Start) (c : StandsFor h s) (t : Table) (k : KeepsParts h t) where
  kept_same : (r : Replica) → not (journal.is_gone (journal.status h r)) ≡ is_kept t r
  kept_same r = sym (ap (λ x. not (is_gone x)) (status_is_kept h t (record { own = k.own; standing = k.standing; rows = k.rows }) r) ∙ ap not (gone_same (journal.status h r)))

  known_then : (d : Dot) → covers s.content d ≡ (t.others.known d && is_kept t d.replica)
  known_then d = c.covers d ∙ (λ i. sym (k.known d) i && kept_same d.replica i)

  rows_then : (d : Dot) → map.get (opened s).rows d ≡ cond (is_kept t d.replica) (map.get t.rows d) None
  rows_then d =
      map.get-from_entries dot_total s.content.live d
      ∙ (find_lookup s.content.live d
      ∙ (c.rows d
      ∙ (turned (journal.is_gone (journal.status h d.replica)) (journal.live h d)
      ∙ (λ i. cond (kept_same d.replica i) (sym (k.rows d) i) None))))

  -- a replica has dots that are known where one of them is
  named_then : (r : Replica) → others.tells_of r s.content ≡ (t.others.named r && is_kept t r)
  unfolding journal.has_dots journal.known
  named_then r = go (journal.has_dots (Begin s) r) (journal.has_dots h r) (not (journal.is_gone (journal.status h r))) refl refl refl ∙ (λ i. sym (k.named r) i && kept_same r i)
    where
      go : (a b x : Bool) → journal.has_dots (Begin s) r ≡ a → journal.has_dots h r ≡ b → not (journal.is_gone (journal.status h r)) ≡ x → a ≡ (b && x)
      go true b x e f q =
          let some = some_known (Begin s) r e in
          let p = and_parts (journal.known h some.dot) (not (journal.is_gone (journal.status h some.dot.replica))) (sym (c.covers some.dot) ∙ some.has) in
          λ i. ((sym (known_has h some.dot p.0) ∙ (ap (journal.has_dots h) some.of ∙ f)) i
          && (sym p.1 ∙ (ap (λ z. not (journal.is_gone (journal.status h z))) some.of ∙ q)) i)
      go false false x e f q = refl
      go false true false e f q = refl
      go false true true e f q =
          let some = some_known h r f in
          let w : true ≡ false =
          sym (ap (journal.has_dots (Begin s)) (sym some.of)
          ∙ known_has (Begin s) some.dot (c.covers some.dot
          ∙ (λ i. some.has i && (ap (λ z. not (journal.is_gone (journal.status h z))) some.of ∙ q) i)))
          ∙ e in
          absurd (cc)

  module _ (stay : Bool) (left : LeavesQueues stay h (Begin s)) where
    waits : (n : ℕ) (topic : List ℕ) → queues.topic_of h n ≡ Some topic → queues.queue (Begin s) n ≡ waits_again stay (queues.queue h n)
    unfolding queues.topic_of
    waits n topic e = go stay left
      where
        go : (b : Bool) → LeavesQueues b h (Begin s) → queues.queue (Begin s) n ≡ waits_again b (queues.queue h n)
        go true l = l n topic e ∙ left_again (queues.queue h n)
        go false l = l n topic (c.topics n ∙ e)

    subscribers_then : (n : ℕ) → (opened s).subscribers n ≡ option_map (goes_on stay) (t.subscribers n)
    unfolding queues.queue
    subscribers_then n =
        ap (λ o. at_topic o (queues.queue (Begin s) n)) (c.topics n)
        ∙ (go (queues.topic_of h n) refl
        ∙ ap (option_map (goes_on stay)) (sym (k.subscribers n)))
      where
        go : (o : Option (List ℕ)) → queues.topic_of h n ≡ o → at_topic o (queues.queue (Begin s) n) ≡ option_map (goes_on stay) (at_topic o (queues.queue h n))
        go None e = refl
        go (Some topic) e = ap (λ w. Some (record { topic = topic; waiting = w })) (waits n topic e)

    own_then : s.own ≡ t.own
    own_then = c.own ∙ sym k.own

    count_then : s.count ≡ t.count
    count_then = c.count ∙ sym k.count

    cut_then : s.last_cut ≡ t.last_cut
    cut_then = c.last_cut ∙ sym k.last_cut

    standing_then : (r : Replica) → same_replica r t.own ≡ false → standing_in s.standings r ≡ t.others.standing r
    standing_then r e = c.standings r (ap (same_replica r) (sym k.own) ∙ e) ∙ sym (k.standing r)

    goes_on_there : GoesOn stay t (opened s)
    goes_on_there =
        record {
          own = own_then;
          count = count_then;
          last = c.number ∙ ap (λ n. n + 1) (sym k.last);
          entries = refl;
          last_cut = cut_then;
          rows = rows_same stay t (opened s) own_then count_then cut_then rows_then standing_then named_then subscribers_then;
          standing = standing_then;
          time = c.time ∙ sym k.time;
          known = known_then;
          named = named_then;
          subscribers = subscribers_then;
          status = status_same stay t (opened s) own_then count_then cut_then rows_then standing_then named_then subscribers_then;
          present = present_same stay t (opened s) own_then count_then cut_then rows_then standing_then named_then subscribers_then;
          listed = listed_same stay t (opened s) own_then count_then cut_then rows_then standing_then named_then subscribers_then;
          outcome = outcome_same stay t (opened s) own_then count_then cut_then rows_then standing_then named_then subscribers_then;
        }

pub checkpoint_keeps_table : CheckpointKeepsTable
unfolding table
checkpoint_keeps_table stay h g b left =
    subst (λ x. GoesOn stay (table h) (table x)) (sym b.begins)
    (goes_on_there h b.start b.stands.stands.stands (table h) (keeps_parts h b.stands.stands.legal) stay (subst (LeavesQueues stay h) b.begins left))
