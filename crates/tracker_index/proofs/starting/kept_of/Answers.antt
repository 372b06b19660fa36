use Rattle.tracker_index.proofs.StartingLemmas.{fed_begins_at, listed_once}
use Rattle.tracker_index.proofs.starting.kept_of.Goals as goal

pub start-requires : goal.start-requires
start-requires c = listed_once c.args.start.now c.as_slice.result.now c.as_slice.ensures c.requires

pub returns-clause-kept : goal.returns-clause-kept
returns-clause-kept c = record {
  known = c.in_ok-known.ensures;
  shown = c.in_ok-shown.ensures;
  feeds = fed_begins_at c.args.start.now c.as_slice.result.now c.as_slice-2.result.now c.in_ok-feeds.feeds c.as_slice.ensures c.as_slice-2.ensures c.in_ok-feeds.ensures;
  untold = c.in_ok-untold.ensures c.requires;
}
