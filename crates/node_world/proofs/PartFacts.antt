-- What a shard tells in part.
use Rattle.std.proofs.Common.{◌≡◌, ℕ, true, sym, subst}
use Rattle.orswot_core.specs.declared.form.Form.{Form}
use Rattle.orswot_core.specs.Telling.{ToldValue}
use Rattle.delta_range.specs.Deltas.{DeltaValue, telling_in, IsDelta}
use Rattle.presence_journal.specs.StepLimits.{is_heard}
use Rattle.presence_journal.specs.History.{History}
use Rattle.presence_journal_cuts.specs.ToldParts.{IsPart}
use Rattle.presence_journal_cuts.specs.Parting.{up_to}
use Rattle.presence_journal_cuts.proofs.CutShort.{parts_cut_short}
use Rattle.node_world.specs.World.{TellsPart}

pub part_told : (form : Form) (h : History) (n : ℕ) (t : ToldValue) (d : DeltaValue) → IsPart h n d → IsDelta d → t ≡ telling_in form d → is_heard t ≡ true → TellsPart form h n t
part_told form h n t d part sound tells limits = record { delta = d; part = part; sound = sound; is = tells; limits = limits }

pub short_part : (h : History) (n m : ℕ) (d e : DeltaValue) → IsPart h n d → IsDelta d → e ≡ up_to m d → IsPart h n e
short_part h n m d e part sound same = subst (IsPart h n) (sym same) (parts_cut_short h n m d part sound)

pub ruleset parts = (part_told, short_part)
