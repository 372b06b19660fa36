use Rattle.node_world.proofs.Claims.{never_invented, never_resurrected, caught_up_is_always_equal}
use Rattle.node_world.proofs.Begun.{runs_from, names_are}
use Rattle.node_world.proofs.running.run.Goals as goal

pub returns-clause-runs : goal.returns-clause-runs
returns-clause-runs c = runs_from c.args.names.now c.args.events.now c.in_ok-world.world c.apply_all.new.world c.in_ok-world.ensures c.in_ok-apply_all.ensures

pub returns-clause-nothing_invented : goal.returns-clause-nothing_invented
returns-clause-nothing_invented c =
    never_invented c.args.names.now c.args.events.now c.apply_all.new.world (names_are c.args.names.now c.read_names.ensures c.requires)
    (runs_from c.args.names.now c.args.events.now c.in_ok-world.world c.apply_all.new.world c.in_ok-world.ensures c.in_ok-apply_all.ensures)

pub returns-clause-nothing_resurrected : goal.returns-clause-nothing_resurrected
returns-clause-nothing_resurrected c = λ early late e v f g. never_resurrected c.args.names.now early late v c.apply_all.new.world (names_are c.args.names.now c.read_names.ensures c.requires) f g

pub returns-clause-caught_up_is_equal : goal.returns-clause-caught_up_is_equal
returns-clause-caught_up_is_equal c =
    caught_up_is_always_equal c.args.names.now c.args.events.now c.apply_all.new.world (names_are c.args.names.now c.read_names.ensures c.requires)
    (runs_from c.args.names.now c.args.events.now c.in_ok-world.world c.apply_all.new.world c.in_ok-world.ensures c.in_ok-apply_all.ensures)
