use Rattle.std.proofs.Common.{◌≡◌, ◌++◌, drop, map, string_bytes}
use Rattle.tokens.specs.Making.{rest_text}
use Rattle.tokens.proofs.making.push_rest.Given as goal

-- behind what is written comes what is left
abbrev pub invariant-loop-pattern : goal.invariant-loop-pattern
invariant-loop-pattern l =
    string_bytes l.fn.text ++ rest_text (map string_bytes l.patterns)
    ≡ string_bytes l.text ++ rest_text (map string_bytes (drop l.pattern-index l.patterns))
