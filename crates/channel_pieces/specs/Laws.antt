-- The law of pieces.
use Rattle.std.specs.Prelude.{◌≡◌, List, [], ◌∷◌, drop, Option, Some, None}
use Rattle.presence_journal.specs.declared.rows.Item.{Item}
use Rattle.presence_journal.specs.Present.{RowMap}
use Rattle.presence_journal.specs.Queue.{fold_from}
use Rattle.channel_pieces.specs.Pieces.{telling, TellsNext}
use Rattle.channel_pieces.specs.declared.telling.UntoldState.{UntoldState}

-- what is yet to be told of a state, as one item
abbrev pub untold_items : Option UntoldState → List Item
untold_items None = []
untold_items (Some u) = telling u.told (drop u.told u.rows) ∷ []

-- Whatever table a client has: what comes next, followed by what is then yet to be told, is folded as what was to be told before.
abbrev pub PiecesFold : Type 0
PiecesFold = (u : UntoldState) (item : Item) (after : Option UntoldState) → TellsNext u item after → (m : RowMap)
    → fold_from m (item ∷ untold_items after) ≡ fold_from m (untold_items (Some u))
