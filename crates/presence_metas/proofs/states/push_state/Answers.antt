use Rattle.std.proofs.Common.{string_bytes}
use Rattle.presence_metas.proofs.InOrder.{state_behind}
use Rattle.presence_metas.proofs.states.push_state.Goals as goal

pub returns : goal.returns
returns c = state_behind c.push_rows.result (string_bytes c.args.text.now) _ (string_bytes c.push_rows.new.text) c.args.rows.now c.requires c.in_ok-push_str.ensures.bytes c.push_rows.ensures
