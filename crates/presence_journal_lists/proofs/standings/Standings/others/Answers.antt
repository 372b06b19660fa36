use Rattle.std.proofs.Common.{List, subst}
use Rattle.presence_base.specs.declared.dots.Replica.{Replica}
use Rattle.replica_status.specs.declared.standing.Standing.{Standing}
use Rattle.presence_journal_lists.specs.Standings.{TellsOthers}
use Rattle.presence_journal_lists.proofs.StandingLemmas.{tells_others}
use Rattle.presence_journal_lists.proofs.standings.Standings.others.Goals as goal

pub returns : goal.returns
returns c =
    let m = c.self.inside.others in
    subst (λ (xs : List (Replica × Standing)). TellsOthers xs m) c.self.view_is (tells_others c.self.inside.gone m c.self.invariant)
