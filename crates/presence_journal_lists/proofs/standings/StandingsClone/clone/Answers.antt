use Rattle.std.proofs.Common.{◌≡◌, ◌∙◌}
use Rattle.std.proofs.lemmas.List.Elements.{same_from_all_zip}
use Rattle.presence_journal_lists.proofs.StandingLemmas.{same_pair, copy_kept, copy_view}
use Rattle.presence_journal_lists.proofs.standings.StandingsClone.clone.Goals as goal

pub invariant_of-result : goal.invariant_of-result
invariant_of-result c =
    let m = c.self.inside.others in
    let n = c.in_ok-others.others in
    copy_kept c.self.inside.gone c.in_ok-gone.gone m n c.in_ok-gone.ensures.cases.0 c.in_ok-gone.ensures.cases.1 (same_from_all_zip _ m.entries n.entries c.in_ok-others.ensures.cases (λ p q h. same_pair p q h)) c.self.invariant

pub returns : goal.returns
returns c =
    let m = c.self.inside.others in
    let n = c.in_ok-others.others in
    record { cases = copy_view c.self.inside.gone c.in_ok-gone.gone m n c.in_ok-gone.ensures.cases.0 c.in_ok-gone.ensures.cases.1 (same_from_all_zip _ m.entries n.entries c.in_ok-others.ensures.cases (λ p q h. same_pair p q h)) ∙ c.self.view_is }
