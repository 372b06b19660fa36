use Rattle.dot_context.proofs.StepFacts.{swept}
use Rattle.std.proofs.Common.{refl}
use Rattle.dot_context.proofs.runs.sweep.Goals as goal

pub returns-then-is_hollow_at : goal.returns-then-is_hollow_at
returns-then-is_hollow_at c = swept c.args.runs.now.entries c.remove.new.self.entries c.args.from c.requires (c.if-is_hollow_at.ensures.found refl) c.remove.ensures.entries c.remove.ensures.updates.1
