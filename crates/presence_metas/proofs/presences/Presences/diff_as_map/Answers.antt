use Rattle.presence_metas.proofs.FoldLaws.{applied_as_map}
use Rattle.presence_metas.proofs.presences.Presences.diff_as_map.Goals as goal

pub returns : goal.returns
returns c = applied_as_map c.args.self.now c.args.diff.now c.keys_rise.ensures c.keys_rise-2.ensures c.keys_rise-3.ensures
