use Rattle.tracker_index.proofs.IndexedLemmas.{shown_begins, fed_begins}
use Rattle.tracker_index.proofs.parts.Parts.new.Goals as goal

pub returns-clause-kept : goal.returns-clause-kept
returns-clause-kept c = record {
  known = c.new-known.ensures;
  shown = shown_begins c.args.own.now c.new-shown.result c.new-shown.ensures.own c.new-shown.ensures.rows;
  feeds = fed_begins c.args.own.now c.new-feeds.result c.new-feeds.ensures;
  untold = c.new-untold.ensures;
}
