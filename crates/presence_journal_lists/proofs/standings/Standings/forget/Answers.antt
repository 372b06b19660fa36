use Rattle.std.proofs.Common.{List, subst}
use Rattle.presence_base.specs.declared.dots.Replica.{Replica}
use Rattle.replica_status.specs.declared.standing.Standing.{Standing}
use Rattle.replica_status.specs.declared.standing.Standing.TheVariants.{Unheard}
use Rattle.presence_journal_lists.specs.Standings.{Puts, all_of}
use Rattle.presence_journal_lists.proofs.StandingLemmas.{out_puts}
use Rattle.presence_journal_lists.proofs.standings.Standings.forget.Goals as goal

pub returns : goal.returns
returns c =
    let r = c.args.replica.now in
    let g = c.self.inside.gone in
    let h = c.take_out.new.gone in
    let n = c.remove.new.self in
    subst (λ (xs : List (Replica × Standing)). Puts xs (all_of h n) r Unheard) c.self.view_is
    (out_puts g h c.self.inside.others n r c.self.invariant c.take_out.ensures.ordered c.take_out.ensures.out c.remove.ensures.updates.0)
