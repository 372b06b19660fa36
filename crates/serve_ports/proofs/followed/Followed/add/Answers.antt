use Rattle.std.proofs.Common.{inr, sym, ◌∙◌}
use Rattle.serve_ports.proofs.FollowLemmas.{there_already}
use Rattle.serve_ports.proofs.followed.Followed.add.Goals as goal

pub returns-then-contains : goal.returns-then-contains
returns-then-contains c = inr (λ t. there_already c.args.self.now.has_all c.args.self.now.topics c.args.topic.now t (sym c.contains.ensures ∙ c.if-contains.true))
