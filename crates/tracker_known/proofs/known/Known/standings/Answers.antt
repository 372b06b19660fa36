use Rattle.std.proofs.Common.{◌≡◌, List, ◌∙◌, ap}
use Rattle.presence_base.specs.declared.dots.Replica.{Replica}
use Rattle.replica_status.specs.declared.standing.Standing.{Standing}
use Rattle.replica_status.specs.Boards.{standing_in}
use Rattle.presence_journal.specs.History.{History}
use Rattle.tracker_known.specs.Known.{IsKnownOf}
use Rattle.tracker_known.specs.Starts.{ListsStandings}
use Rattle.tracker_known.proofs.StartLemmas.{copied}
use Rattle.tracker_known.proofs.known.Known.standings.Goals as goal

pub returns : goal.returns
returns c =
    let k = c.args.self.now in
    let xs = k.others.standings in
    let lists : (ys : List (Replica × Standing)) → ys ≡ xs → (h : History) → IsKnownOf h k → ListsStandings h ys = λ ys same h known r other. ap (λ (zs : List (Replica × Standing)). standing_in zs r) same ∙ known.others.standing r other in
    copied (λ ys. ys ≡ xs) (λ ys. (h : History) → IsKnownOf h k → ListsStandings h ys) _ lists c.clone.result c.clone.ensures.cases
