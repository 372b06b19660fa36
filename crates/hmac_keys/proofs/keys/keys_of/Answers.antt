use Rattle.std.proofs.Common.{◌∙◌, ap, rules}
use Rattle.std.specs.Str.Iter.{lines_rest, lines_steps}
use Rattle.hmac_keys.specs.Lines.{bytes_of}
use Rattle.hmac_keys.proofs.Reading.{all_left, none_left, one_fails, one_less}
use Rattle.hmac_keys.proofs.keys.keys_of.Goals as goal

pub loop-line-init : goal.loop-line-init
loop-line-init c =
    rw c.new-keys.ensures.items (all_left c.args.text.now (ap lines_rest c.into_iter-line-iterator.ensures.into_iter_gives ∙ c.lines-line-items.ensures.rest))

pub loop-line-preserved : goal.loop-line-preserved
loop-line-preserved c =
    one_less lines_steps c.loop-line.line-iterator c.next.new.self c.args.text.now c.in-Some.line (bytes_of c.loop-line.keys) _ c.loop-line.invariant c.in-Some.ensures.steps c.in_ok-add.ensures

pub returns-in_err-add : goal.returns-in_err-add
returns-in_err-add c =
    let fails = one_fails lines_steps c.loop-line.line-iterator c.next.new.self c.args.text.now c.in-Some.line (bytes_of c.loop-line.keys) _ c.loop-line.invariant c.in-Some.ensures.steps c.in_err-add.ensures in
    search (fails, rules)

pub returns : goal.returns
returns c = rw (none_left lines_steps c.loop-line.line-iterator c.next.new.self c.args.text.now (bytes_of c.loop-line.keys) c.loop-line.invariant c.in-None.ensures.steps) c.some_of.ensures
