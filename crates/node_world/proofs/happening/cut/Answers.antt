use Rattle.std.proofs.Common.{length, refl, [], ◌∷◌, ◌++◌, ap, ◌∙◌}
use Rattle.std.proofs.lemmas.Option.{slice_get_read}
use Rattle.node_world.specs.Lives.{seen}
use Rattle.node_world.proofs.Events.{cut_told, cut_nothing}
use Rattle.node_world.proofs.happening.cut.Goals as goal

pub returns-in-Ok-Some-clause-cuts : goal.returns-in-Ok-Some-clause-cuts
returns-in-Ok-Some-clause-cuts c =
    cut_told c.args.form (seen c.args.lives.now) (seen c.cut.new.lives) c.args.present.now c.args.node c.in-Some.own.now c.args.told.now.items c.push_reserved.new.self.items c.in-Ok-Some.one (slice_get_read c.args.present.now (length c.args.present.now) c.args.node c.in-Some.own.now refl c.in-Some.ensures.lookup.3.0 c.in-Some.ensures.lookup.1)
    (rw c.in-Ok-Some.field-0-is at c.in-Ok-Some.ensures.cut) (c.push_reserved.ensures.items ∙ ap (λ xs. xs ++ c.in-Ok-Some.one ∷ []) c.reserve.ensures.items)

pub returns-in-Ok-None-clause-cuts : goal.returns-in-Ok-None-clause-cuts
returns-in-Ok-None-clause-cuts c =
    cut_nothing c.args.form (seen c.args.lives.now) (seen c.cut.new.lives) c.args.present.now c.args.node c.in-Some.own.now c.args.told.now.items c.reserve.new.self.items (slice_get_read c.args.present.now (length c.args.present.now) c.args.node c.in-Some.own.now refl c.in-Some.ensures.lookup.3.0 c.in-Some.ensures.lookup.1)
    (rw c.in-Ok-None.field-0-is at c.in-Ok-None.ensures.cut) c.reserve.ensures.items
