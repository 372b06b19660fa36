use Rattle.std.proofs.Common.{List, ℕ, ◌++◌, sym, ◌∙◌, ap, subst}
use Rattle.std.proofs.lemmas.List.{append-nil}
use Rattle.std.specs.List.{AllByRecursion}
use Rattle.std.proofs.lemmas.List.Elements.{recursion_from_All}
use Rattle.dot_context.specs.Runs.{AreLong}
use Rattle.presence_journal_cuts.proofs.ListingLemmas.{found_long}
use Rattle.presence_journal_cuts.proofs.listing.listed_chains.Goals as goal

pub returns-clause-chains : goal.returns-clause-chains
returns-clause-chains c =
    let l = c.loop-count in
    sym (append-nil l.list.items) ∙ (ap (λ (xs : List (ℕ × List (ℕ × ℕ))). l.list.items ++ xs) (sym c.in-None.ensures.steps.0) ∙ l.invariant)

pub returns-clause-long : goal.returns-clause-long
returns-clause-long c = λ long. subst (AllByRecursion (λ (x : ℕ × List (ℕ × ℕ)). AreLong x.1)) (sym (returns-clause-chains c)) (found_long c.args.chains.now long (recursion_from_All _ _ c.iter-count-items.ensures.found))
