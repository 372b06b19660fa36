-- What a history tells in whole.
use Rattle.orswot_core.specs.declared.form.Form.{Form}
use Rattle.orswot_core.specs.Telling.{ToldValue}
use Rattle.orswot_core.specs.Sets.{DotRows}
use Rattle.orswot_core.specs.Full.{IsFullIn}
use Rattle.presence_journal.specs.History.{History}
use Rattle.presence_journal_known.specs.LeftOut.{HoldsCovered}

-- all that is told of the set that is covered, in a form: in the first for each replica with a covered dot the range up to its top,
-- and the covered dots above; in the second the covered dots as ranges that don't meet; and every live row of a replica that is not gone
abbrev pub IsFullOf : Form → History → ToldValue → Type 0
IsFullOf form h t = (s : DotRows) × HoldsCovered h s × IsFullIn form s t
