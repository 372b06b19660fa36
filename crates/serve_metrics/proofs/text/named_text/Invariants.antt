use Rattle.std.proofs.Common.{◌≡◌, ◌++◌, string_bytes, drop}
use Rattle.serve_metrics.specs.Lines.{each_named, named_lines, naming_of, values_of}
use Rattle.serve_metrics.proofs.text.named_text.Given as goal

abbrev pub invariant-loop-value : goal.invariant-loop-value
invariant-loop-value l =
    string_bytes l.text ++ each_named (naming_of l.family) (values_of (drop l.value-index l.counts))
    ≡ string_bytes l.fn.text ++ named_lines (naming_of l.family) (values_of l.counts)
