use Rattle.std.proofs.Common.{ℕ, refl, subst}
use Rattle.presence_journal_lists.specs.Standings.{Ticks}
use Rattle.tracker_known.proofs.OthersLemmas.{ticked}
use Rattle.tracker_known.proofs.others.Others.tick.Goals as goal

pub returns : goal.returns
returns c = ticked c.args.now c.args.self.now _ refl c.max-time.ensures (subst (λ (t : ℕ). Ticks t c.args.self.now.standings c.tick.new.self) c.max-time.ensures c.tick.ensures)
