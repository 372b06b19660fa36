use Rattle.std.proofs.Common.{◌≡◌, map}
use Rattle.std.specs.List.{fold}
use Rattle.serde_json.specs.Data.{no_members}
use Rattle.serde_json.specs.View.{members_view}
use Rattle.presence_metas.specs.Values.{with_key}
use Rattle.presence_metas.proofs.presences.Presences.to_value.Given as goal

abbrev pub invariant-loop-key : goal.invariant-loop-key
invariant-loop-key l = fold with_key (members_view l.members.entries) (map (λ e. (e.0, e.1.items)) l.key-iterator) ≡ fold with_key no_members l.self
