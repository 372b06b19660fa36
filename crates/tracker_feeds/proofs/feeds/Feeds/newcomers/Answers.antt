use Rattle.std.proofs.Common.{◌+◌, drop, refl, arith}
use Rattle.std.proofs.lemmas.List.{drop_all}
use Rattle.presence_journal.proofs.Walking.{drop_next as list_next}
use Rattle.tracker_feeds.proofs.BegunLemmas.{beginning, next_is_free, begun_more, begun_all}
use Rattle.tracker_feeds.proofs.feeds.Feeds.newcomers.Goals as goal

pub loop-subscriber-init : goal.loop-subscriber-init
loop-subscriber-init c = beginning c.args.subscribers.now c.args.subscribers.now c.new-feeds.result refl c.requires c.new-feeds.ensures

pub subscribe-requires : goal.subscribe-requires
subscribe-requires c =
    let l = c.loop-subscriber in
    let xs = c.args.subscribers.now in
    let x = c.subscriber-item.result in
    next_is_free xs (drop l.subscriber-index xs) (drop (l.subscriber-index + 1) xs) x l.feeds (list_next xs l.subscriber-index x c.loop-subscriber-test.true c.subscriber-item.is) l.invariant

pub loop-subscriber-preserved : goal.loop-subscriber-preserved
loop-subscriber-preserved c =
    let l = c.loop-subscriber in
    let xs = c.args.subscribers.now in
    let x = c.subscriber-item.result in
    begun_more xs (drop l.subscriber-index xs) (drop (l.subscriber-index + 1) xs) x l.feeds c.subscribe.new.self (list_next xs l.subscriber-index x c.loop-subscriber-test.true c.subscriber-item.is) l.invariant c.in_ok-subscribe.ensures.ok

pub returns : goal.returns
returns c =
    let l = c.loop-subscriber in
    begun_all c.args.subscribers.now (drop l.subscriber-index c.args.subscribers.now) l.feeds (drop_all l.subscriber-index c.args.subscribers.now (omega arith)) l.invariant
