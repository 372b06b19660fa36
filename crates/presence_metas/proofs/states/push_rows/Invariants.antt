use Rattle.std.proofs.Common.{◌≡◌, ◌++◌, None, option_copied, drop, string_bytes}
use Rattle.presence_metas.specs.Texts.{rest_text}
use Rattle.presence_metas.proofs.states.push_rows.Given as goal

abbrev pub invariant-loop-dot : goal.invariant-loop-dot
invariant-loop-dot l = string_bytes l.text ++ rest_text (option_copied l.last) (drop l.dot-index l.rows) ≡ string_bytes l.initial.text ++ rest_text None l.rows
