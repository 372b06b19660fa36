use Rattle.std.proofs.Common.{◌≡◌, ◌++◌, drop}
use Rattle.presence_metas.specs.Listing.{joined_metas}
use Rattle.presence_metas.proofs.tracked.take_in.Given as goal

abbrev pub invariant-loop-meta : goal.invariant-loop-meta
invariant-loop-meta l = l.all.items ++ drop l.meta-index l.joined ≡ joined_metas l.fn.metas.items l.joined
