use Rattle.std.proofs.Common.{option_map, string_bytes, sym, ap, ◌∙◌}
use Rattle.client_settings.proofs.Told.{told_behind, left_out}
use Rattle.client_settings.proofs.telling.all_told.Goals as goal

pub loop-text-preserved-in-Continue-branch-4 : goal.loop-text-preserved-in-Continue-branch-4
loop-text-preserved-in-Continue-branch-4 c =
    told_behind c.args.events.now c.args.pid c.loop-text.yielded c.loop-text.told.items _ c.in-Some.text c.in-Some-2.text
    c.loop-text.invariant (sym (ap (option_map string_bytes) c.in-Some-2.is) ∙ c.in_ok-text.ensures) c.in_ok-push.ensures.items

pub loop-text-preserved : goal.loop-text-preserved
loop-text-preserved c =
    left_out c.args.events.now c.args.pid c.loop-text.yielded c.loop-text.told.items c.in-Some.text c.loop-text.invariant
    (sym (ap (option_map string_bytes) c.in_default.is) ∙ c.in_ok-text.ensures)
