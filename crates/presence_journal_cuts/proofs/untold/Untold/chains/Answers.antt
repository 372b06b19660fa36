use Rattle.std.proofs.Common.{ℕ, List, sym, ◌∙◌, subst}
use Rattle.std.specs.List.{AllByRecursion}
use Rattle.dot_context.specs.Runs.{AreLong}
use Rattle.presence_journal_cuts.proofs.ListingLemmas.{are_listed}
use Rattle.presence_journal_cuts.proofs.untold.Untold.chains.Goals as goal

pub returns : goal.returns
returns c = λ h kept. are_listed h c.args.self.now c.new.result (c.new.ensures ∙ c.in_ok-list.ensures.chains)
    (λ long. subst (AllByRecursion (λ (x : ℕ × List (ℕ × ℕ)). AreLong x.1)) (sym c.new.ensures) (c.in_ok-list.ensures.long long)) kept
