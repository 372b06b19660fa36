use Rattle.std.proofs.Common.{ℕ, List, ◌++◌, sym, ◌∙◌, ap}
use Rattle.std.proofs.lemmas.List.{append-nil}
use Rattle.tracker_feeds.specs.Listed.{topics_in}
use Rattle.tracker_feeds.specs.declared.followers.Follower.{Follower}
use Rattle.tracker_feeds.proofs.ListingLemmas.{listed_more, short_more}
use Rattle.tracker_feeds.proofs.listing.listed_topics.Goals as goal

pub loop-number-preserved : goal.loop-number-preserved
loop-number-preserved c =
    let l = c.loop-number in
    record {
      topics = listed_more l.list.items c.push_topic.new.list.items l.number-iterator c.next.new.self (topics_in c.args.followers.now.entries) c.in-Some.number.now c.in-Some.follower.now c.in-Some.ensures.steps c.in_ok-push_topic.ensures.put l.invariant.topics;
      short = short_more l.list.items c.push_topic.new.list.items c.in-Some.number.now c.in-Some.follower.now.topic c.in_ok-push_topic.ensures.put c.push_topic.ensures.short l.invariant.short;
    }

pub returns-clause-topics : goal.returns-clause-topics
returns-clause-topics c =
    let l = c.loop-number in
    sym (append-nil l.list.items) ∙ (ap (λ (fs : List (ℕ × Follower)). l.list.items ++ topics_in fs) (sym c.in-None.ensures.steps.0) ∙ l.invariant.topics)
