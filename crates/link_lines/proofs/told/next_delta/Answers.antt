use Rattle.std.proofs.Common.{◌++◌, sym, subst}
use Rattle.json.specs.Json as json
use Rattle.json.specs.Tree.{items_tokens}
use Rattle.json_parts.specs.Items.{Begins}
use Rattle.link_lines.specs.Results.{Answers}
use Rattle.link_lines.specs.Told.{delta_in}
use Rattle.link_lines.proofs.ToldParts.{never_begun, begun_array, null_delta, no_delta, not_read}
use Rattle.link_lines.proofs.told.next_delta.Goals as goal

pub returns-in-Null-clause-delta : goal.returns-in-Null-clause-delta
returns-in-Null-clause-delta c = λ j more rest at.
    let b = subst (Begins (json.item j more) rest c.begin.new.reader) c.in-Null.is (c.begin.ensures.begun (json.item j more) rest at) in
    null_delta c.args.shard c.args.hearer c.args.replica.now j more b.0 b.1

pub returns-in-Array-clause-delta : goal.returns-in-Array-clause-delta
returns-in-Array-clause-delta c = λ j more rest at.
    let b = subst (Begins (json.item j more) rest c.begin.new.reader) c.in-Array.is (c.begin.ensures.begun (json.item j more) rest at) in
    subst (λ d. Answers c.delta_of.result (delta_in c.args.shard c.args.hearer c.args.replica.now d)) (sym (begun_array j more b.0 b.1 b.2))
    (c.delta_of.ensures b.0 (items_tokens b.1 ++ rest) b.3)

pub returns-in_default-clause-delta : goal.returns-in_default-clause-delta
returns-in_default-clause-delta c = λ j more rest at.
    let other = not_read c.begin.result c.in_default.not-Null c.in_default.not-Array in
    no_delta c.args.shard c.args.hearer c.args.replica.now j more rest c.begin.new.reader c.begin.result (c.begin.ensures.begun (json.item j more) rest at) other

pub returns-in-Null-clause-none : goal.returns-in-Null-clause-none
returns-in-Null-clause-none c = λ rest at.
    let b = subst (Begins json.no_items rest c.begin.new.reader) c.in-Null.is (c.begin.ensures.begun json.no_items rest at) in
    absurd (never_begun json.null b.0 b.1)

pub returns-in-Array-clause-none : goal.returns-in-Array-clause-none
returns-in-Array-clause-none c = λ rest at.
    let b = subst (Begins json.no_items rest c.begin.new.reader) c.in-Array.is (c.begin.ensures.begun json.no_items rest at) in
    absurd (never_begun (json.array b.0) b.1 b.2)
