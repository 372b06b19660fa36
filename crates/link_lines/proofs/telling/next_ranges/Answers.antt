use Rattle.std.proofs.Common.{◌++◌, ap, subst}
use Rattle.json_parts.specs.Items.{Begins}
use Rattle.json.specs.Tree.{items_tokens}
use Rattle.link_lines.specs.Results.{or_bad}
use Rattle.link_lines.specs.Telling.{range_in}
use Rattle.link_lines.proofs.Lists.{next_found, not_array, no_list}
use Rattle.link_lines.proofs.telling.next_ranges.Goals as goal

pub returns-in-Array : goal.returns-in-Array
returns-in-Array c = λ js rest at.
    let b = subst (λ r. Begins js rest c.begin.new.reader r) c.in-Array.is (c.begin.ensures.begun js rest at) in
    next_found (λ v. v.items) range_in js b.0 b.1 rest c.ranges_in.new.reader c.ranges_in.result b.2 b.4 (c.ranges_in.ensures b.0 (items_tokens b.1 ++ rest) b.3)

pub returns-in_default : goal.returns-in_default
returns-in_default c = λ js rest at.
    let other = not_array c.begin.result c.in_default.not-Array in
    ap or_bad (no_list range_in js rest c.begin.new.reader c.begin.result (c.begin.ensures.begun js rest at) other)
