use Rattle.std.proofs.Common.{sym, ◌∙◌, ap, subst}
use Rattle.std.proofs.lemmas.Result.{on_ok_weaker}
use Rattle.presence_base.specs.declared.dots.Dot.{Dot}
use Rattle.presence_journal.specs.declared.entry.Outcome.{Outcome}
use Rattle.presence_journal_cuts.specs.Chains.{TakesInBy, kept_chain}
use Rattle.presence_journal_cuts.specs.Handing.{handed}
use Rattle.presence_journal_cuts.proofs.Handings.{long_handed}
use Rattle.presence_journal_cuts.proofs.RunLemmas.{handed_more, handed_up_to}
use Rattle.presence_journal_cuts.proofs.older.push_gone_by.Goals as goal

pub returns-in_ok-chain-in-Replaced-clause-counts : goal.returns-in_ok-chain-in-Replaced-clause-counts
returns-in_ok-chain-in-Replaced-clause-counts c =
    let k = c.in-Replaced.old.count in
    on_ok_weaker c.push_up_to.result
    (λ more. subst (λ (o : Outcome). TakesInBy o c.args.last c.args.chains.now c.args.runs.now.items c.push_up_to.new.runs.items) (sym c.in-Replaced.is)
    (λ n low. handed_more c.args.last n c.args.runs.now.items c.push_up_to.new.runs.items c.as_slice.result.now (handed (kept_chain c.args.chains.now k) k) (c.as_slice.ensures ∙ (c.in_ok-chain-in-Replaced.ensures ∙ ap (λ (d : Dot). handed (kept_chain c.args.chains.now d.count) d.count) c.get.ensures)) more))
    c.push_up_to.ensures

pub returns-in_ok-chain-in-Replaced-clause-kept : goal.returns-in_ok-chain-in-Replaced-clause-kept
returns-in_ok-chain-in-Replaced-clause-kept c =
    let k = c.in-Replaced.old.count in
    on_ok_weaker c.push_up_to.result
    (λ more long low. handed_up_to c.args.last c.args.runs.now.items c.push_up_to.new.runs.items c.as_slice.result.now (handed (kept_chain c.args.chains.now k) k) (c.as_slice.ensures ∙ (c.in_ok-chain-in-Replaced.ensures ∙ ap (λ (d : Dot). handed (kept_chain c.args.chains.now d.count) d.count) c.get.ensures)) (long_handed (kept_chain c.args.chains.now k) k (long k)) more low)
    c.push_up_to.ensures
