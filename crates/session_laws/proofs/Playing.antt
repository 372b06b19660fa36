-- Over a lent shard what the rules and deliveries say is played against the table.
use Rattle.std.proofs.Common.{◌≡◌, List, []}
use Rattle.channel_rules.specs.Delivering.{delivery}
use Rattle.channel_rules.specs.InForce.{InForce}
use Rattle.channel_rules.specs.Rules.{End, answers, memory, rules}
use Rattle.channel_rules.specs.Said.{Said}
use Rattle.channel_rules.specs.Script.{Script}
use Rattle.presence_stdio.specs.Local.{Heeds}
use Rattle.presence_stdio.proofs.Heeding.{rules_heed, delivers_heed}
use Rattle.presence_stdio.proofs.Locals.{played_is}
use Rattle.session_laws.specs.Laws.{IsPlayed, RulesArePlayed, DeliveriesArePlayed}

answers_apart : (said : List Said) (s : InForce) → answers said s ≡ memory → ⊥
answers_apart said s e = cc

is_played : (script : Script End) → Heeds memory script → IsPlayed script
is_played script h pid said s old new follows = played_is memory pid script follows.made (answers said s) old new h follows.ends follows.calls (answers_apart said s)

pub rules_are_played : RulesArePlayed
rules_are_played routes s m = is_played (rules routes s m) (rules_heed routes s m)

pub deliveries_are_played : DeliveriesArePlayed
deliveries_are_played max s = is_played (delivery max s) (delivers_heed max s s.joined [])
