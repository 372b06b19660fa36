use Rattle.std.proofs.Common.{◌≡◌, ap, ◌∙◌, subst, rules, IfOk}
use Rattle.std.proofs.lemmas.List.Sorted.{IsNonDecreasingBy-from_sort_by_key}
use Rattle.delta_range.specs.Longest.{longest, coalesced}
use Rattle.delta_range.proofs.RunFacts.{sorted_coalesced}
use Rattle.delta_range.proofs.runs.longest.Goals as goal

pub returns : goal.returns
returns c =
    let made : coalesced c.deref.result.now ≡ longest c.args.runs.items =
    ap coalesced c.deref.ensures.value
    ∙ sorted_coalesced c.args.runs.items c.sort_by_key.new.self.items c.requires c.in_ok-sort_by_key.ensures.permutation (IsNonDecreasingBy-from_sort_by_key (λ r. r.0) _ c.in_ok-sort_by_key.ensures.sorted (λ a r q k. search rules)) in
    subst (λ l. IfOk c.coalesced.result (λ v. v.items ≡ l)) made c.coalesced.ensures
