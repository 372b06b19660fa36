use Rattle.std.proofs.Common.{◌≡◌, ◌++◌, string_bytes, drop}
use Rattle.serve_metrics.specs.Lines.{each_numbered, naming_of, numbered_lines}
use Rattle.serve_metrics.proofs.text.numbered_text.Given as goal

abbrev pub invariant-loop-number : goal.invariant-loop-number
invariant-loop-number l =
    string_bytes l.text ++ each_numbered (naming_of l.family) l.number (drop l.number l.counts)
    ≡ string_bytes l.fn.text ++ numbered_lines (naming_of l.family) l.counts
