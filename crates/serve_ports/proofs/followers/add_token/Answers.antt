use Rattle.std.proofs.Common.{sym}
use Rattle.serve_ports.proofs.FollowerLemmas.{gained, begun}
use Rattle.serve_ports.proofs.followers.add_token.Goals as goal

pub returns-in-Some : goal.returns-in-Some
returns-in-Some c =
    let new = c.add_one.new.tokens in
    gained c.args.by_topic.now (c.get_mut.follows.lender new) c.args.topic.now c.args.token c.in-Some.tokens.now new (sym c.in-Some.ensures.value) (c.get_mut.follows.holds new) c.in_ok-add_one.ensures

pub returns : goal.returns
returns c =
    begun c.args.by_topic.now c.get_mut.follows.lender-at-none c.insert.new.self c.args.topic.now c.in_ok-key.key c.args.token c.in_ok-tokens.tokens
    c.get_mut.follows.holds-at-none c.in_ok-key.ensures.cases (sym c.in_default.ensures.value) c.in_ok-insert.ensures.updates.0 c.in_ok-tokens.ensures
