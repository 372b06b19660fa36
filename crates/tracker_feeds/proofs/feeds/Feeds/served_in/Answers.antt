use Rattle.std.proofs.Common.{◌+◌, drop, ℕ, List, ◌++◌, sym, ◌∙◌, ap, arith}
use Rattle.std.proofs.lemmas.List.{drop_all, append-nil}
use Rattle.presence_journal.proofs.Walking.{drop_next as list_next}
use Rattle.tracker_feeds.specs.Listed.{served_in}
use Rattle.tracker_feeds.proofs.ListingLemmas.{served_more}
use Rattle.tracker_feeds.proofs.feeds.Feeds.served_in.Goals as goal

pub loop-subscriber-preserved : goal.loop-subscriber-preserved
loop-subscriber-preserved c =
    let l = c.loop-subscriber in
    let xs = c.args.subscribers.now in
    let x = c.subscriber-item.result in
    served_more c.args.self.now l.numbers.items c.push_if.new.list.items (drop l.subscriber-index xs) (drop (l.subscriber-index + 1) xs) (served_in c.args.self.now xs) x c.is_served-is_served.result (list_next xs l.subscriber-index x c.loop-subscriber-test.true c.subscriber-item.is) c.is_served-is_served.ensures c.in_ok-push_if.ensures l.invariant

pub returns : goal.returns
returns c =
    let l = c.loop-subscriber in
    let xs = c.args.subscribers.now in
    sym (append-nil l.numbers.items) ∙ (ap (λ (ys : List (ℕ × List ℕ)). l.numbers.items ++ served_in c.args.self.now ys) (sym (drop_all l.subscriber-index xs (omega arith))) ∙ l.invariant)
