use Rattle.std.proofs.Common.{◌≡◌}
use Rattle.serde_json.specs.View.{members_view}
use Rattle.presence_metas.specs.Frames.{all_have_metas}
use Rattle.presence_metas.proofs.frame.each_tells_metas.Given as goal

-- what is left decides
abbrev pub invariant-loop-key : goal.invariant-loop-key
invariant-loop-key l = all_have_metas (members_view l.members.entries) ≡ all_have_metas (members_view l._key-iterator)
