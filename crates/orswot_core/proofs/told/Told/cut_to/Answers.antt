use Rattle.std.proofs.Common.{◌∙◌, ap}
use Rattle.std.specs.List.{filter}
use Rattle.orswot_core.proofs.CutFacts.{cut_parts}
use Rattle.orswot_core.proofs.told.Told.cut_to.Goals as goal

pub new-requires : goal.new-requires
new-requires g c =
    cut_parts (g.T.ReplicaTest.picks c.args.test.now) (record { ranges = c.self.inside.ranges.items; extras = c.self.inside.extras.items; live = c.self.inside.live.items })
    c.in_ok-ranges.ranges.items c.in_ok-extras.extras.items c.in_ok-live.live.items c.self.invariant
    (c.in_ok-ranges.ensures ∙ ap (filter (λ x. g.T.ReplicaTest.picks c.args.test.now x.0)) c.deref.ensures.value)
    (c.in_ok-extras.ensures ∙ ap (filter (λ x. g.T.ReplicaTest.picks c.args.test.now x.replica)) c.deref-2.ensures.value)
    (c.in_ok-live.ensures ∙ ap (filter (λ x. g.T.ReplicaTest.picks c.args.test.now x.0.replica)) c.deref-3.ensures.value)
