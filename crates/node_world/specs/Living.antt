-- What becomes of a shard's history where a node cuts, or begins again.
use Rattle.std.specs.Prelude.{◌≡◌, ◌^◌, Bool, true, false, is_some, nat_lt, Option, Some, None}
use Rattle.orswot_core.specs.declared.form.Form.{Form}
use Rattle.orswot_core.specs.Telling.{ToldValue}
use Rattle.presence_journal.specs.declared.step.Step.TheVariants as steps_are
use Rattle.presence_journal.specs.declared.entry.Start.{Start}
use Rattle.presence_journal.specs.History.{History, Begin, last_number}
use Rattle.presence_journal.specs.Table.{accepted, after}
use Rattle.presence_journal_cuts.specs.Checkpoints.{IsCheckpoint}
use Rattle.node_world.specs.World.{TellsCut}

-- a cut that was accepted tells something, in a form
abbrev pub CutsIf : Form → Bool → History → History → Option ToldValue → Type 0
CutsIf form true h g (Some t) = TellsCut form h t × (g ≡ after h steps_are.Cut None)
CutsIf form true h g None = ⊥
CutsIf form false h g (Some t) = ⊥
CutsIf form false h g None = g ≡ h

abbrev pub Cuts : Form → History → History → Option ToldValue → Type 0
Cuts form h g o = CutsIf form (is_some (accepted h steps_are.Cut)) h g o

-- where a number is left, the history begins again with a Start that stands for it
abbrev pub BeginsIf : Bool → History → History → Type 0
BeginsIf true h g = (s : Start) × IsCheckpoint h s × (g ≡ Begin s)
BeginsIf false h g = g ≡ h

abbrev pub BeginsAgain : History → History → Type 0
BeginsAgain h g = BeginsIf (nat_lt (last_number h) (2 ^ 62)) h g
