use Rattle.std.proofs.Common.{◌≡◌, ◌++◌, map, drop, string_bytes}
use Rattle.presence_stdio.specs.Session.{printed}
use Rattle.presence_stdio.proofs.local.add_lines.Given as goal

-- what was told, followed by what is left
abbrev pub invariant-loop-line : goal.invariant-loop-line
invariant-loop-line l =
    l.fn.text.items ++ printed (map string_bytes l.texts)
    ≡ l.text.items ++ printed (map string_bytes (drop l.line-index l.texts))
