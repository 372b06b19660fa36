use Rattle.std.proofs.Common.{rules, ◌∙◌}
use Rattle.presence_base.proofs.Compact.{value_in-read, is_compact}
use Rattle.presence_base.proofs.json_text.JsonText.new.Goals as goal

pub invariant_of-result : goal.invariant_of-result
invariant_of-result c =
    is_compact _ _ (rw (c.in_ok-text.ensures.ok, c.as_str.ensures.value) (c.in_ok-written.ensures.reads_back c.requires.depth))
    (c.in_ok-text.ensures.ok ∙ c.as_str.ensures.value ∙ c.in_ok-written.ensures.text c.requires.floats)

pub returns : goal.returns
returns c =
    value_in-read _ _ (rw (c.in_ok-text.ensures.ok, c.as_str.ensures.value) (c.in_ok-written.ensures.reads_back c.requires.depth))
