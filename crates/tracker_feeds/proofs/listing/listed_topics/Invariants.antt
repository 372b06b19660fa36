use Rattle.std.proofs.Common.{◌≡◌, ◌++◌, true}
use Rattle.std.specs.List.{list_all}
use Rattle.presence_base.specs.Names.{is_short_text}
use Rattle.tracker_feeds.specs.Listed.{topics_in}
use Rattle.tracker_feeds.proofs.listing.listed_topics.Given as goal

abbrev pub invariant-loop-number : goal.invariant-loop-number
invariant-loop-number l = record {
  topics : l.list.items ++ topics_in l.number-iterator ≡ topics_in l.followers.entries;
  short : list_all (λ x. is_short_text x.1) l.list.items ≡ true;
}
