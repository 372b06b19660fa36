use Rattle.std.proofs.Common.{◌∙◌, ap, subst}
use Rattle.presence_base.specs.declared.dots.Replica.{Replica}
use Rattle.dot_context.specs.Sets.{TellsIfAny}
use Rattle.tracker_known.specs.Standings.{status_at}
use Rattle.tracker_known.proofs.ToldAgainLemmas.{can_be}
use Rattle.tracker_known.proofs.known.Known.can_be_reborn.Goals as goal

pub returns : goal.returns
returns c =
    let k = c.args.self.now in
    λ h known.
    c.can_go_on.ensures
    ∙ can_be h k c.args.incarnation c.status-status.result c.has_dots-has_dots.result known
    (c.status-status.ensures ∙ ap (status_at k.others) c.reborn-new.ensures)
    (subst (λ (r : Replica). TellsIfAny k.set.covered r c.has_dots-has_dots.result) c.reborn-new.ensures c.has_dots-has_dots.ensures)
