-- Fitting: what a delta tells, counted before a dot or a range is made of its older runs.
use Rattle.std.specs.Prelude.{ℕ, Bool, not, length}
use Rattle.orswot_core.specs.declared.form.Form.{Form}
use Rattle.orswot_core.specs.declared.form.Form.TheVariants.{One, Two}
use Rattle.orswot_core.specs.Checks.{is_too_many_in}
pub use Rattle.orswot_core.specs.Full.{counts_in}
use Rattle.delta_range.specs.Deltas.{DeltaValue, telling_in}

-- how much the form has for the older runs: an extra for each count, or a range for each run
abbrev pub older_in : Form → DeltaValue → ℕ
older_in One d = counts_in d.older
older_in Two d = length d.older

-- it tells no more in the form than a node takes in
abbrev pub fits_line : Form → DeltaValue → Bool
fits_line form d = not (is_too_many_in form (telling_in form d))
