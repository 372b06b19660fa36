-- The beat of a cut, and what it tells.
use Rattle.std.specs.Prelude.{ℕ, Bool, false, not, ◌&&◌, Some, None, cond}
use Rattle.orswot_core.specs.declared.form.Form.{Form}
use Rattle.orswot_core.specs.declared.form.Form.TheVariants.{Two}
use Rattle.delta_range.specs.Deltas.{DeltaValue}
use Rattle.delta_range.specs.Fitting.{fits_line}
use Rattle.link_lines.specs.declared.lines.Line.{Line}
use Rattle.link_lines.specs.declared.lines.Line.TheVariants as lines
use Rattle.link_pool_port.specs.Asking.{beat_line}
use Rattle.link_pool_port.specs.Parts.{is_large}

-- the count up to which the cut goes, and nothing of what it tells
abbrev pub bare_line : ℕ → DeltaValue → Line
bare_line shard d = lines.Beat shard d.owner d.to None

-- in the second form a beat tells no more than is told whole
abbrev pub is_large_beat : Form → Line → Bool
is_large_beat Two (lines.Beat k r c (Some t)) = is_large k t.told
is_large_beat _ _ = false

-- what the cut tells in the form goes along where a node takes that in, and in the second form a short line has room for it
abbrev pub fitting_line : Form → ℕ → DeltaValue → Line
fitting_line form shard d = cond (fits_line form d && not (is_large_beat form (beat_line form shard d)))
    (beat_line form shard d) (bare_line shard d)
