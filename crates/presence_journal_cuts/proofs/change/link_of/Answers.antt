use Rattle.std.proofs.Common.{◌≡◌, refl, sym, ◌∙◌}
use Rattle.presence_journal.specs.declared.entry.Outcome.TheVariants.{Replaced}
use Rattle.presence_journal_cuts.proofs.ChainLemmas.{is_link}
use Rattle.presence_journal_cuts.proofs.change.link_of.Goals as goal

pub returns : goal.returns
returns c =
    let new = c.get-new.result.now in
    let old = c.get-old.result.now in
    let came : c.args.outcome.now ≡ Replaced new old = c.in-Replaced.is ∙ (λ i. Replaced (sym c.get-new.ensures i) (sym c.get-old.ensures i)) in
    is_link c.args.unsettled c.args.outcome.now c.args.chains.now new old (record { to = new.count; chain = c.in_ok-chain.chain; is_told = c.may_be_untold-is_told.result }) came c.requires refl c.in_ok-chain.ensures c.may_be_untold-is_told.ensures
