-- A checkpoint leaves the parts that are told from a count on as they were.
use Rattle.std.specs.Prelude.{◌↔◌, ℕ, Option}
use Rattle.delta_range.specs.Deltas.{DeltaValue}
use Rattle.presence_journal.specs.declared.entry.Start.{Start}
use Rattle.presence_journal.specs.History.{History, Begin}
use Rattle.presence_journal_cuts.specs.ToldParts.{IsPart, IsPartWhereItFits}
use Rattle.presence_journal_cuts.specs.Checkpoints.{IsCheckpoint}

abbrev pub KeepsParts : Type 0
KeepsParts = (h : History) (s : Start) → IsCheckpoint h s → (n : ℕ) (d : DeltaValue) → IsPart h n d ↔ IsPart (Begin s) n d

-- and so the one that goes as far as it can, or that there is none
abbrev pub KeepsLargestParts : Type 0
KeepsLargestParts = (h : History) (s : Start) → IsCheckpoint h s → (n : ℕ) (o : Option DeltaValue)
    → IsPartWhereItFits h n o ↔ IsPartWhereItFits (Begin s) n o
