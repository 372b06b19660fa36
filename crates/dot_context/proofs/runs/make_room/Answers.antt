use Rattle.std.proofs.Common.{◌∙◌, sym}
use Rattle.dot_context.proofs.StepFacts.{opened, room_opened}
use Rattle.dot_context.proofs.runs.make_room.Goals as goal

pub returns-in-Ok-clause-opens : goal.returns-in-Ok-clause-opens
returns-in-Ok-clause-opens c = opened c.args.runs.now.entries c.insert.new.self.entries c.args.from c.requires (sym c.touches.ensures ∙ c.if-touches.false) c.in-Ok.ensures.entries

pub returns-in-Ok-clause-ok : goal.returns-in-Ok-clause-ok
returns-in-Ok-clause-ok c = room_opened c.args.runs.now.entries c.insert.new.self.entries c.args.from c.requires (sym c.touches.ensures ∙ c.if-touches.false) c.in-Ok.ensures.entries
