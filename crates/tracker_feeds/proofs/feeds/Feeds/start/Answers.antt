use Rattle.std.proofs.Common.{◌+◌, drop, get_or, refl, arith}
use Rattle.std.proofs.lemmas.List.{drop_all}
use Rattle.tracker_feeds.proofs.BegunLemmas.{catching, number_next, caught_more, caught_all}
use Rattle.tracker_feeds.proofs.feeds.Feeds.start.Goals as goal

pub loop-number-init : goal.loop-number-init
loop-number-init c = catching c.args.subscribers.now c.args.current.now c.args.current.now c.in_ok-feeds.feeds refl c.in_ok-feeds.ensures

pub loop-number-preserved : goal.loop-number-preserved
loop-number-preserved c =
    let l = c.loop-number in
    let ns = c.args.current.now in
    caught_more c.args.subscribers.now ns (drop l.number-index ns) (drop (l.number-index + 1) ns) (get_or ns l.number-index 0) l.feeds c.took.new.self (number_next ns l.number-index c.loop-number-test.true) l.invariant c.took.ensures

pub returns : goal.returns
returns c =
    let l = c.loop-number in
    let ns = c.args.current.now in
    caught_all c.args.subscribers.now ns (drop l.number-index ns) l.feeds (drop_all l.number-index ns (omega arith)) l.invariant
