use Rattle.std.proofs.Common.{sym, ◌∙◌, ap}
use Rattle.std.specs.List.{list_all}
use Rattle.orswot_core.specs.Limits.{are_texts}
use Rattle.presence_journal.specs.StepLimits.{is_named}
use Rattle.node_world.proofs.Tellings.{heard_delta}
use Rattle.node_world.proofs.telling.read_delta.Goals as goal

pub returns : goal.returns
returns c =
    heard_delta c.args.form c.args.delta.now c.live.ensures.delta (sym (ap (list_all is_named) c.live.ensures.live) ∙ c.read_rows.ensures.names)
    (sym (ap (list_all (λ x. are_texts x.1)) c.live.ensures.live) ∙ c.read_rows.ensures.texts)
