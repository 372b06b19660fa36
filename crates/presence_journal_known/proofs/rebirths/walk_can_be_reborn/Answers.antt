use Rattle.std.proofs.Common.{◌∙◌, ap, subst}
use Rattle.presence_base.specs.declared.dots.Replica.{Replica}
use Rattle.dot_context.specs.Sets.{TellsIfAny}
use Rattle.presence_journal.specs.History.{reborn, status}
use Rattle.presence_journal_known.proofs.PairsLemmas.{can_go_on_is}
use Rattle.presence_journal_known.proofs.rebirths.walk_can_be_reborn.Goals as goal

pub returns : goal.returns
returns c =
    let h = c.args.journal.now in
    c.can_go_on.ensures
    ∙ can_go_on_is h c.in_ok-set.set c.own-own.result c.in_ok-set.ensures c.own-own.ensures c.args.incarnation c.walk_status-status.result c.has_dots-has_dots.result
    (c.walk_status-status.ensures ∙ ap (status h) (c.life-new.ensures ∙ ap (λ (o : Replica). reborn o c.args.incarnation) c.own-own.ensures))
    (subst (λ (r : Replica). TellsIfAny c.in_ok-set.set.covered r c.has_dots-has_dots.result) c.life-new.ensures c.has_dots-has_dots.ensures)
