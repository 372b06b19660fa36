-- What a port answers over which long states come in pieces.
use Rattle.std.specs.Prelude.{◌≡◌, ◌⊎◌, ℕ, Bool, true, false, if◌then◌else◌, List, [], ◌∷◌, Option, Some, None, Result, Ok, Err, is_ok}
use Rattle.presence_base.specs.declared.dots.Dot.{Dot}
use Rattle.presence_base.specs.declared.row.Row.{Row}
use Rattle.presence_journal.specs.declared.rows.Item.{Item}
use Rattle.presence_journal.specs.declared.rows.Item.TheVariants.{State}
use Rattle.channel_pieces.specs.Pieces.{begun, is_to, is_within, without, Tells}
use Rattle.channel_pieces.specs.declared.piece.TheConstants.{MAX_LISTED_BYTES}
use Rattle.channel_pieces.specs.declared.telling.UntoldState.{UntoldState}
use Rattle.channel_rules.specs.Asks.{Ask, Answer, list, get, take, unsubscribe, waits}
use Rattle.tracker_shard.specs.declared.fault.ShardFault.TheVariants.{OutOfMemory}
use Rattle.channel_rules.specs.declared.refusal.Refusal.{Refusal}
use Rattle.channel_rules.specs.declared.refusal.Refusal.TheVariants.{OverRation, Table}
use Rattle.tracker_shard.specs.declared.shard.Sub.{Sub}

-- What comes next is given, or memory ran out and the same is untold.
abbrev pub TellsOr : Option UntoldState → Result (List Item) Refusal → Option UntoldState → Type 0
TellsOr untold (Ok items) after = Tells untold items after
TellsOr untold (Err fault) after = (fault ≡ Table OutOfMemory) × (after ≡ untold)

-- the rows of a state that comes alone
abbrev pub lone : List Item → Option (List (Dot × Row))
lone (State rows ∷ []) = Some rows
lone _ = None

-- Items are given on as they are, but for a state that comes alone: what comes first of it is.
abbrev pub GivesAlone : Option (List (Dot × Row)) → List ℕ → ℕ → List Item → Result (List Item) Refusal
    → Option UntoldState → Type 0
GivesAlone None topic number items answer after = (answer ≡ Ok items) × (after ≡ None)
GivesAlone (Some rows) topic number items answer after = TellsOr (Some (begun topic number rows)) answer after

abbrev pub GivesOn : List ℕ → ℕ → List Item → Result (List Item) Refusal → Option UntoldState → Type 0
GivesOn topic number items answer after = GivesAlone (lone items) topic number items answer after

abbrev pub GivesAnswer : List ℕ → ℕ → Result (List Item) Refusal → Result (List Item) Refusal
    → Option UntoldState → Type 0
GivesAnswer topic number (Ok items) answer after = GivesOn topic number items answer after
GivesAnswer topic number (Err fault) answer after = (answer ≡ Err fault) × (after ≡ None)

-- To whom a state is being told its next piece is given, and to any other nothing.
abbrev pub GivesPiece : Bool → UntoldState → Result (List Item) Refusal → Option UntoldState → Type 0
GivesPiece true u answer after = TellsOr (Some u) answer after
GivesPiece false u answer after = (answer ≡ Ok []) × (after ≡ Some u)

-- nothing more is told to a subscriber that is gone
abbrev pub left_by : Bool → List ℕ → ℕ → Option UntoldState → Option UntoldState
left_by gone topic number untold = if gone then without topic number untold else untold

-- rows that a reply lists are given with no change, and more are refused
abbrev pub Lists : List (Dot × Row) → Result (List (Dot × Row)) Refusal → Type 0
Lists rows (Ok given) = (is_within MAX_LISTED_BYTES rows ≡ true) × (given ≡ rows)
Lists rows (Err OverRation) = is_within MAX_LISTED_BYTES rows ≡ false
Lists rows (Err (Table OutOfMemory)) = Unit {0}
Lists rows (Err fault) = ⊥

abbrev pub ListsAnswer : Result (List (Dot × Row)) Refusal → Result (List (Dot × Row)) Refusal → Type 0
ListsAnswer (Ok rows) answer = Lists rows answer
ListsAnswer (Err fault) answer = answer ≡ Err fault

module _ {P : Type 0} (step : P → (q : Ask) → Answer q → P → Type 0) where
  -- The port inside is asked, unless memory runs out before.
  abbrev pub Asks : List ℕ → Sub → ℕ → P → Result (List Item) Refusal → P → Option UntoldState → Type 0
  Asks topic sub max old answer new after =
      (inner : Result (List Item) Refusal) × step old (take topic sub max) inner new
      × GivesAnswer topic sub.number inner answer after

  abbrev pub Wants : P → Result (List Item) Refusal → P → Option UntoldState → Type 0
  Wants old answer new after = (answer ≡ Err (Table OutOfMemory)) × (new ≡ old) × (after ≡ None)

  -- Where nothing is untold the port inside is asked, and else it isn't.
  abbrev pub Takes : Option UntoldState → List ℕ → Sub → ℕ → P → Result (List Item) Refusal → P → Option UntoldState
      → Type 0
  Takes None topic sub max old answer new after =
      Asks topic sub max old answer new after ⊎ Wants old answer new after
  Takes (Some u) topic sub max old answer new after =
      (new ≡ old) × GivesPiece (is_to topic sub.number u) u answer after

  -- While a state is being told something waits for its subscriber, and for nobody else.
  abbrev pub Waits : Option UntoldState → List ℕ → Sub → P → Result Bool Refusal → P → Type 0
  Waits None topic sub old answer new = step old (waits topic sub) answer new
  Waits (Some u) topic sub old answer new = (answer ≡ Ok (is_to topic sub.number u)) × (new ≡ old)

  -- The port is asked as a session asks it, and what is untold changes with what is taken.
  abbrev pub Piecewise : P × Option UntoldState → (q : Ask) → Answer q → P × Option UntoldState → Type 0
  Piecewise old (take topic sub max) a new = Takes old.1 topic sub max old.0 a new.0 new.1
  Piecewise old (waits topic sub) a new = Waits old.1 topic sub old.0 a new.0 × (new.1 ≡ old.1)
  Piecewise old (unsubscribe topic sub) a new =
      step old.0 (unsubscribe topic sub) a new.0 × (new.1 ≡ left_by (is_ok a) topic sub.number old.1)
  Piecewise old (list topic) a new =
      (inner : Result (List (Dot × Row)) Refusal) × step old.0 (list topic) inner new.0 × ListsAnswer inner a
      × (new.1 ≡ old.1)
  Piecewise old (get topic key) a new =
      (inner : Result (List (Dot × Row)) Refusal) × step old.0 (get topic key) inner new.0 × ListsAnswer inner a
      × (new.1 ≡ old.1)
  Piecewise old q a new = step old.0 q a new.0 × (new.1 ≡ old.1)
