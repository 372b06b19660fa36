-- What a checkpoint leaves of a plain table: all but what is known of replicas that are gone, and what waits for subscribers.
use Rattle.std.specs.Prelude.{◌≡◌, ℕ, ◌+◌, Bool, true, false, not, ◌&&◌, List, [], option_map}
use Rattle.std.specs.FinMap as map
use Rattle.presence_base.specs.declared.dots.Replica.{Replica}
use Rattle.presence_base.specs.declared.dots.Dot.{Dot}
use Rattle.presence_base.specs.Order.{same_replica}
use Rattle.presence_journal.specs.declared.step.Step.{Step}
use Rattle.presence_journal.specs.declared.step.Step.TheVariants as steps_are
use Rattle.presence_journal.specs.History.{History}
use Rattle.presence_journal.specs.Queue.{Waiting, Behind, Queued}
use Rattle.tracker_index.specs.Starting.{IsBegunAgain, LeavesQueues}
use Rattle.presence_table.specs.Others.{is_gone}
use Rattle.presence_table.specs.Plain.{Table, Subscriber, status, present, listed, outcome_of, table}

-- a replica that the table hasn't given up for good
abbrev pub is_kept : Table → Replica → Bool
is_kept t r = not (is_gone (status t r))

-- whether those for whom nothing waits stay so; each other is behind
abbrev pub waits_again : Bool → Waiting → Waiting
waits_again true (Queued []) = Queued []
waits_again stay w = Behind

-- a subscribe answers with its number, and a take with what waits
abbrev pub is_answered_alike : Step → Bool
is_answered_alike (steps_are.Subscribe topic) = false
is_answered_alike (steps_are.Take n max) = false
is_answered_alike s = true

-- The table `u` goes on where `t` ends. Of a replica that is gone only the standing stays.
pub record GoesOn (stay : Bool) (t u : Table) : Type 0 where
  pub own : u.own ≡ t.own
  pub count : u.count ≡ t.count
  pub last : u.last ≡ t.last + 1
  pub entries : u.entries ≡ 1
  pub last_cut : u.last_cut ≡ t.last_cut
  pub rows : u.rows ≡ map.retain_keys t.rows (λ d. is_kept t d.replica)
  pub standing : (r : Replica) → same_replica r t.own ≡ false → u.others.standing r ≡ t.others.standing r
  pub time : u.others.time ≡ t.others.time
  pub known : (d : Dot) → u.others.known d ≡ (t.others.known d && is_kept t d.replica)
  pub named : (r : Replica) → u.others.named r ≡ (t.others.named r && is_kept t r)
  pub subscribers : (n : ℕ) → u.subscribers n
      ≡ option_map (λ (x : Subscriber). record x { waiting = waits_again stay x.waiting }) (t.subscribers n)
  -- so it shows the same, and steps come to the same
  pub status : (r : Replica) → status u r ≡ status t r
  pub present : (topic : List ℕ) → present u topic ≡ present t topic
  pub listed : (topic : List ℕ) → listed u topic ≡ listed t topic
  pub outcome : (s : Step) → is_answered_alike s ≡ true → outcome_of u s ≡ outcome_of t s

-- what `Shard::checkpoint_keeping_current` and, where nobody is to stay current, `Shard::checkpoint` make of a history
abbrev pub CheckpointKeepsTable : Type 0
CheckpointKeepsTable = (stay : Bool) (h g : History) → IsBegunAgain h g → LeavesQueues stay h g
    → GoesOn stay (table h) (table g)
