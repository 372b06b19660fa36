-- A join of a session that has as many topics as it may have.
use Rattle.std.proofs.Common.{◌≡◌, ◌≤◌, ℕ, List, true, false, nat_le, Result, codes, arith}
use Rattle.std.proofs.lemmas.Bool.Decides.{nat_tests}
use Rattle.phx_message.specs.declared.message.Message.{Message}
use Rattle.channel_rules.specs.Asks.{Ask, Answer}
use Rattle.channel_rules.specs.Outcome.{Follows, GivesEnd}
use Rattle.channel_rules.specs.InForce.{InForce}
use Rattle.channel_rules.specs.Rules.{End, refuses, within}
use Rattle.channel_rules.specs.Said.{Said}
use Rattle.channel_rules.specs.Script.{Script}
use Rattle.channel_rules.specs.declared.stop.Stop.{Stop}
use Rattle.channel_rules.specs.declared.topics.TheConstants.{MAX_TOPICS}
use Rattle.channel_rules.proofs.Once.{at_once}

pub full_within : {P : Type 0} (step : P → (q : Ask) → Answer q → P → Type 0) (count : ℕ) (before : List Said) (s : InForce) (m : Message) (next : Script End) (port : P) (r : Result End Stop)
    → MAX_TOPICS ≤ count → GivesEnd (refuses before s m (codes "too many topics")) false r → Follows step (within count before s m next) port port r
full_within step count before s m next port r many gives =
    let full : nat_le MAX_TOPICS count ≡ true = grind (arith, nat_tests) in
    rw full (at_once step (refuses before s m (codes "too many topics")) port r gives)
