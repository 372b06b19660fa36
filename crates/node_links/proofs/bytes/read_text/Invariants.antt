use Rattle.std.proofs.Common.{◌≡◌, length, true}
use Rattle.std.specs.Io.KnownBytes.{Consumes}
use Rattle.node_links.specs.Bytes.{lacks_feed}
use Rattle.node_links.proofs.bytes.read_text.Given as goal

-- what was read is the text so far
abbrev pub invariant-loop-turn : goal.invariant-loop-turn
invariant-loop-turn g l = record {
  plain : lacks_feed l.text.items ≡ true;
  turns : length l.text.items ≡ l._turn;
  taken : Consumes (g.R.Read.remaining l.initial.reader) (g.R.Read.remaining l.reader) l.text.items;
}
