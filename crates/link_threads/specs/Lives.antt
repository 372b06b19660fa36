-- What comes of shards that are to go on under a higher incarnation, and of those that could not yet.
use Rattle.std.specs.Prelude.{◌≡◌, ℕ, zero, suc, Bool, true, false, Option, Some, None, List, Result, Ok, Err}
use Rattle.presence_base.specs.declared.dots.Dot.{Dot}
use Rattle.presence_journal.specs.History.{History, own}
use Rattle.tracker_shard.specs.declared.fault.ShardFault.{ShardFault}
use Rattle.tracker_shard.specs.declared.fault.ShardFault.TheVariants.{BadIncarnation}
use Rattle.shard_pool.specs.Unseated.{IsBehindOf, IsRebornMade}
use Rattle.link_rules.specs.declared.lives.Came.{Came}
use Rattle.link_rules.specs.declared.lives.Came.TheVariants.{Now, Later, Never}
use Rattle.link_rules.specs.declared.lives.Coming.{Coming}
use Rattle.link_rules.specs.declared.lives.Life.{Life}
use Rattle.link_rules.specs.Lives.{and_came, is_due, life_retried, none_came}

-- a shard where somebody told of the incarnation never goes on under it; any other refusal passes
abbrev pub came_of : {A : Type 0} → Result A ShardFault → Came
came_of (Ok pairs) = Now
came_of (Err BadIncarnation) = Never
came_of (Err fault) = Later

-- a shard was not to go on: the incarnation that was read of it isn't below that one
pub record IsLeft (Here : History → Type 0) (i : ℕ) : Type 0 where
  pub found : ℕ
  pub read : IsBehindOf Here (λ h. found ≡ (own h).incarnation)
  pub left : is_due found i ≡ false

-- a shard was to go on, and this came of it
pub record HasCome (Here : History → Type 0) (i : ℕ) (came : Came) : Type 0 where
  pub found : ℕ
  pub read : IsBehindOf Here (λ h. found ≡ (own h).incarnation)
  pub due : is_due found i ≡ true
  pub reply : Result (List (Dot × Dot)) ShardFault
  pub reborn : IsBehindOf Here (λ h. IsRebornMade h i reply)
  pub is : came ≡ came_of reply

-- what came of a shard that goes on under an incarnation where its own is below it
abbrev pub IsCameAt : (History → Type 0) → ℕ → Option Came → Type 0
IsCameAt Here i None = IsLeft Here i
IsCameAt Here i (Some came) = HasCome Here i came

-- and this came of one shard more
abbrev pub and_option : Coming → Option Came → Coming
and_option all None = all
and_option all (Some came) = and_came all came

-- what came of the shards before one, and of that one
pub record AndOne (Here : History → Type 0) (i : ℕ) (Before : Coming → Type 0) (all : Coming) : Type 0 where
  pub before : Coming
  pub were : Before before
  pub came : Option Came
  pub one : IsCameAt Here i came
  pub is : all ≡ and_option before came

-- what came of the first so many shards, of which none is left out; `here` tells which histories are those of a shard's number
abbrev pub AllCame : (ℕ → History → Type 0) → ℕ → ℕ → Coming → Type 0
AllCame here i zero all = all ≡ none_came
AllCame here i (suc n) all = AndOne (here n) i (AllCame here i n) all

-- each shard was to go on under the life's incarnation, and the life is that behind what came of it
pub record IsTriedAgain (here : ℕ → History → Type 0) (shards : ℕ) (old new : Life) : Type 0 where
  pub came : Coming
  pub all : AllCame here old.own.incarnation shards came
  pub is : new ≡ life_retried old came

-- whether some shard could not go on yet: then each is tried again, and else none
abbrev pub TriesWhere : (late : Bool) → (ℕ → History → Type 0) → ℕ → Life → Life → Type 0
TriesWhere false here shards old new = new ≡ old
TriesWhere true here shards old new = IsTriedAgain here shards old new

abbrev pub TriesLate : (ℕ → History → Type 0) → ℕ → Life → Life → Type 0
TriesLate here shards old new = TriesWhere old.is_late here shards old new
