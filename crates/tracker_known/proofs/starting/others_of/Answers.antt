use Rattle.std.proofs.Common.{refl, subst, List}
use Rattle.presence_base.specs.declared.dots.Replica.{Replica}
use Rattle.replica_status.specs.declared.standing.Standing.{Standing}
use Rattle.replica_status.specs.declared.standing.Standing.TheVariants.{Unheard}
use Rattle.presence_journal_lists.specs.Standings.{Puts}
use Rattle.tracker_known.proofs.StartLemmas.{others_begin}
use Rattle.tracker_known.proofs.starting.others_of.Goals as goal

pub returns : goal.returns
returns c =
    let s = c.args.start.now in
    others_begin s _ refl refl (subst (λ (xs : List (Replica × Standing)). Puts xs c.forget.new.self s.own Unheard) c.in_ok-standings.ensures.cases c.forget.ensures)
