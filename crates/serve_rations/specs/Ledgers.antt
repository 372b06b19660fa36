-- What is taken of each topic, how it is charged and how it is given back.
use Rattle.std.specs.Prelude.{◌≡◌, ℕ, List, Bool, true, false, if◌then◌else◌, Option, None, Some, Result, Ok, Err}
use Rattle.std.specs.BTreeMap.{get}
use Rattle.std.specs.declared.alloc.AllocError.{AllocError}
use Rattle.presence_base.specs.Order.{text_cmp, same_text}
use Rattle.serve_rations.specs.Amounts.{nothing, together, without, has_room}
use Rattle.serve_rations.specs.declared.amount.Amount.{Amount}
use Rattle.serve_rations.specs.declared.ledger.Ledger.{Ledger}

abbrev pub or_nothing : Option Amount → Amount
or_nothing None = nothing
or_nothing (Some amount) = amount

-- what is taken of a topic
abbrev pub taken_at : Ledger → List ℕ → Amount
taken_at ledger topic = or_nothing (get text_cmp ledger.topics topic)

-- what is left of a topic once so much is given back
abbrev pub left_at : Ledger → List ℕ → Amount → Amount
left_at ledger topic less = without (taken_at ledger topic) less

-- So much is taken of this topic, and of each other what was.
abbrev pub Stands : Ledger → List ℕ → Amount → Ledger → Type 0
Stands old topic amount new = (t : List ℕ) → taken_at new t ≡ (if same_text topic t then amount else taken_at old t)

-- Of each topic what was.
abbrev pub Same : Ledger → Ledger → Type 0
Same old new = (t : List ℕ) → taken_at new t ≡ taken_at old t

-- So much is taken of a topic that is kept; one that isn't stays so.
abbrev pub SetsIf : Bool → Ledger → List ℕ → Amount → Ledger → Type 0
SetsIf true old topic amount new = Stands old topic amount new
SetsIf false old topic amount new = (get text_cmp old.topics topic ≡ None) × (new ≡ old)

-- what is taken of a topic once so much more was asked for, where there was room or not
abbrev pub charged_at : Ledger → List ℕ → Amount → Bool → Amount
charged_at ledger topic more has_room = if has_room then together (taken_at ledger topic) more else taken_at ledger topic

-- The answer is whether the topic's budget has room for so much more, and then it is taken; else nothing is, and
-- nothing where memory is wanting.
abbrev pub Charges : Amount → Ledger → List ℕ → Amount → Result Bool AllocError → Ledger → Type 0
Charges budget old topic more (Ok answer) new =
    (answer ≡ has_room budget (taken_at old topic) more) × Stands old topic (charged_at old topic more answer) new
Charges budget old topic more (Err want) new = Same old new

-- So much of the topic is given back.
abbrev pub Releases : Ledger → List ℕ → Amount → Ledger → Type 0
Releases old topic less new = Stands old topic (left_at old topic less) new

-- There was a ledger that answered so, and one to which so much was given back: of one that others change too nothing else is known.
abbrev pub ChargesSome : Amount → List ℕ → Amount → Result Bool AllocError → Type 0
ChargesSome budget topic more answer = (old : Ledger) × (new : Ledger) × Charges budget old topic more answer new

abbrev pub ReleasesSome : List ℕ → Amount → Type 0
ReleasesSome topic less = (old : Ledger) × (new : Ledger) × Releases old topic less new
