use Rattle.std.proofs.Common.{sym, ◌∙◌, ap, drop, ◌+◌}
use Rattle.std.proofs.lemmas.List.{drop_all}
use Rattle.std.specs.List.{list_all}
use Rattle.orswot_core.specs.Limits.{are_texts}
use Rattle.presence_journal.specs.StepLimits.{is_named}
use Rattle.orswot_core.proofs.LoopFacts.{next_rest, first_true}
use Rattle.tracker_known.proofs.listing.read_rows.Goals as goal

pub loop-row-preserved : goal.loop-row-preserved
loop-row-preserved c =
    let rest = next_rest c.args.live.now c.loop-row.row-index c.row-item.result c.loop-row-test.true c.row-item.is in
    record {
      names = first_true is_named c.row-item.result (drop (c.loop-row.row-index + 1) c.args.live.now) (drop c.loop-row.row-index c.args.live.now) rest c.read_row.ensures.names ∙ c.loop-row.invariant.names;
      texts = first_true (λ x. are_texts x.1) c.row-item.result (drop (c.loop-row.row-index + 1) c.args.live.now) (drop c.loop-row.row-index c.args.live.now) rest c.read_row.ensures.texts ∙ c.loop-row.invariant.texts;
    }

pub returns-clause-names : goal.returns-clause-names
returns-clause-names c = sym c.loop-row.invariant.names ∙ ap (list_all is_named) (drop_all c.loop-row.row-index c.args.live.now c.loop-row-test.false)

pub returns-clause-texts : goal.returns-clause-texts
returns-clause-texts c = sym c.loop-row.invariant.texts ∙ ap (list_all (λ x. are_texts x.1)) (drop_all c.loop-row.row-index c.args.live.now c.loop-row-test.false)
