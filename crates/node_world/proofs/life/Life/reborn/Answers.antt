use Rattle.std.proofs.Common.{sym, ◌∙◌, subst}
use Rattle.presence_journal.specs.Table.{IsLegal}
use Rattle.node_world.specs.GoingOn.{AreMade}
use Rattle.node_world.proofs.GoneOn.{goes_on, stays}
use Rattle.node_world.proofs.life.Life.reborn.Goals as goal

pub returns-in_ok-made-in-Ok : goal.returns-in_ok-made-in-Ok
returns-in_ok-made-in-Ok c =
    let h = c.in_ok-shard.shard in
    let here = sym (c.in_ok-shard.ensures ∙ (c.in_ok-copy.ensures.cases ∙ c.journal.ensures.journal)) in
    goes_on c.args.self.now h c.rebirth.new.self c.args.incarnation (subst IsLegal here c.journal.ensures.legal) here
    c.in-Ok.pairs c.in_ok-made-in-Ok.made.items c.in-Ok.ensures.step c.in-Ok.ensures.answer
    (subst (λ g. AreMade g c.in-Ok.pairs c.in_ok-made-in-Ok.made.items) c.journal-in-Ok.ensures.journal
    (subst (λ ps. AreMade c.journal-in-Ok.result.now ps c.in_ok-made-in-Ok.made.items) c.as_slice.ensures c.in_ok-made-in-Ok.ensures))

pub returns-in_ok-refused-in-Err : goal.returns-in_ok-refused-in-Err
returns-in_ok-refused-in-Err c =
    let h = c.in_ok-shard.shard in
    let here = sym (c.in_ok-shard.ensures ∙ (c.in_ok-copy.ensures.cases ∙ c.journal.ensures.journal)) in
    stays c.args.self.now h c.rebirth.new.self c.args.incarnation (subst IsLegal here c.journal.ensures.legal) here
    c.in-Err.fault c.in_ok-refused-in-Err.ensures.good c.in-Err.ensures.answer c.in-Err.ensures.due
