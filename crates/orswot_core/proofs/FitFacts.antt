-- What is told where it fits.
use Rattle.std.proofs.Common.{◌≡◌, Option, Some, None}
use Rattle.orswot_core.specs.declared.form.Form.{Form}
use Rattle.orswot_core.specs.Telling.{ToldValue}
use Rattle.orswot_core.specs.Checks.{WhereItFits}

-- of what is told, more is said
pub fits_still : (form : Form) (P Q : ToldValue → Type 0) → ((t : ToldValue) → P t → Q t) → (o : Option ToldValue) → WhereItFits form P o → WhereItFits form Q o
fits_still form P Q f (Some t) h = (f t h.0, h.1)
fits_still form P Q f None h = (h.0, f h.0 h.1, h.2)
