-- That the plain table of a history says what the history says.
use Rattle.std.specs.Prelude.{◌≡◌, ℕ, List, Some, option_map}
use Rattle.std.specs.FinMap as map
use Rattle.presence_base.specs.declared.dots.Replica.{Replica}
use Rattle.presence_base.specs.declared.dots.Dot.{Dot}
use Rattle.presence_journal.specs.declared.step.Step.{Step}
use Rattle.presence_journal.specs.History as journal
use Rattle.presence_journal.specs.History.{History}
use Rattle.presence_journal.specs.Present as rooms
use Rattle.presence_journal.specs.Queue as queues
use Rattle.presence_journal.specs.Table as steps
use Rattle.presence_table.specs.Plain.{Table, table}
use Rattle.presence_table.specs.Plain as plain

-- each part of the table is what the entries of the history say
pub record KeepsParts (h : History) (t : Table) : Type 0 where
  pub own : t.own ≡ journal.own h
  pub count : t.count ≡ journal.count h
  pub last : t.last ≡ journal.last_number h
  pub entries : t.entries ≡ journal.entry_count h
  pub last_cut : t.last_cut ≡ journal.last_cut h
  pub rows : (d : Dot) → map.get t.rows d ≡ journal.live h d
  pub standing : (r : Replica) → t.others.standing r ≡ journal.standing h r
  pub time : t.others.time ≡ journal.time h
  pub known : (d : Dot) → t.others.known d ≡ journal.known h d
  pub named : (r : Replica) → t.others.named r ≡ journal.has_dots h r
  pub subscribers : (n : ℕ) → t.subscribers n
      ≡ option_map (λ topic. record { topic = topic; waiting = queues.queue h n }) (queues.topic_of h n)

-- what it shows and what a step comes to are what the history shows and has for it
pub record SaysTheSame (h : History) (t : Table) : Type 0 where
  pub parts : KeepsParts h t
  pub status : (r : Replica) → plain.status t r ≡ journal.status h r
  pub present : (topic : List ℕ) → plain.present t topic ≡ rooms.present h topic
  pub listed : (topic : List ℕ) → plain.listed t topic ≡ rooms.listed h topic
  pub of_session : (pid : ℕ) (topic : List ℕ) → plain.mine t pid topic ≡ steps.rows_of_pid h pid topic
  pub of_key : (topic key : List ℕ) → plain.under key (plain.listed t topic) ≡ steps.listed_key h topic key
  pub given : (n : ℕ) (topic : List ℕ) → queues.topic_of h n ≡ Some topic → (max : ℕ)
      → plain.given t n max ≡ queues.items_given h n max
  pub outcome : (s : Step) → plain.outcome_of t s ≡ steps.outcome_of h s

abbrev pub TableIsPlain : Type 0
TableIsPlain = (h : History) → steps.IsLegal h → SaysTheSame h (table h)
