use Rattle.std.proofs.Common.{refl}
use Rattle.tracker_known.proofs.KnownLemmas.{follows_tick}
use Rattle.tracker_known.proofs.known.Known.apply_tick.Goals as goal

pub returns : goal.returns
returns c = follows_tick c.args.self.now _ c.args.now c.max-time.result c.max-time.ensures c.forget_faded.ensures c.tick.ensures refl
