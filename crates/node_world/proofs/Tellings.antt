-- What is told is within the limits of what is heard, where the names and texts of its rows are.
use Rattle.std.proofs.Common.{◌≡◌, true}
use Rattle.std.specs.List.{list_all}
use Rattle.orswot_core.specs.declared.form.Form.{Form}
use Rattle.orswot_core.specs.declared.form.Form.TheVariants.{One, Two}
use Rattle.orswot_core.specs.Limits.{are_texts}
use Rattle.delta_range.specs.Deltas.{DeltaValue, telling_in, IsDelta}
use Rattle.delta_range.proofs.FormFacts.{delta_told_in}
use Rattle.presence_journal.specs.StepLimits.{is_heard, is_named}
use Rattle.node_world.proofs.OthersLemmas.{heard_told}

pub heard_delta : (form : Form) (d : DeltaValue) → IsDelta d → list_all is_named d.live ≡ true → list_all (λ x. are_texts x.1) d.live ≡ true → is_heard (telling_in form d) ≡ true
heard_delta One d k n x = heard_told (telling_in One d) (delta_told_in One d k) n x
heard_delta Two d k n x = heard_told (telling_in Two d) (delta_told_in Two d k) n x

pub ruleset heard = (heard_told, heard_delta)
