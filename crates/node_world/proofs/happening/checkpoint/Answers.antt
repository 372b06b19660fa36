use Rattle.std.proofs.Common.{length, refl}
use Rattle.std.proofs.lemmas.Option.{slice_get_read, slice_get_past}
use Rattle.node_world.specs.Lives.{seen}
use Rattle.node_world.proofs.Events.{begin_some, begin_none}
use Rattle.node_world.proofs.happening.checkpoint.Goals as goal

pub returns-in-Some-clause-begins : goal.returns-in-Some-clause-begins
returns-in-Some-clause-begins c =
    begin_some c.checkpoint.result (seen c.args.lives.now) (seen c.checkpoint.new.lives) c.args.present.now c.args.node c.in-Some.own.now (slice_get_read c.args.present.now (length c.args.present.now) c.args.node c.in-Some.own.now refl c.in-Some.ensures.lookup.3.0 c.in-Some.ensures.lookup.1) c.checkpoint.ensures.turns

pub returns-in-None-clause-begins : goal.returns-in-None-clause-begins
returns-in-None-clause-begins c = λ t. begin_none (seen c.args.lives.now) c.args.present.now c.args.node t (slice_get_past c.args.present.now c.args.node c.in-None.ensures.lookup.3)
