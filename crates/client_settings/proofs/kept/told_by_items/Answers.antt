use Rattle.std.proofs.Common.{rules}
use Rattle.client_settings.proofs.Items.{unmarked}
use Rattle.client_settings.proofs.kept.told_by_items.Goals as goal
use Rattle.client_settings.proofs.kept.told_by_items.Goals.{in_default-via-then-items-lt2, in_default-via-in-len2+else-is_mark, in_default-via-else-items-lt2+else-items-lt3+then-items-lt4, in_default-via-in-len4+else-is_mark-2, in_default-via-else-items-lt2+else-items-lt3+else-items-lt4+else-items-lt5}

pub returns-in_default : goal.returns-in_default
returns-in_default c = elim c.in_default.branch [
  | in_default-via-then-items-lt2 w ↦ search (rules, unmarked)
  | in_default-via-in-len2+else-is_mark w ↦ search (rules, unmarked)
  | in_default-via-else-items-lt2+else-items-lt3+then-items-lt4 w ↦ search (rules, unmarked)
  | in_default-via-in-len4+else-is_mark-2 w ↦ search (rules, unmarked)
  | in_default-via-else-items-lt2+else-items-lt3+else-items-lt4+else-items-lt5 w ↦ search (rules, unmarked)
]
