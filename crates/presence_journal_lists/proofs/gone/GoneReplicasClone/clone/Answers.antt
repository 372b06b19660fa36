use Rattle.std.proofs.lemmas.List.Elements.{same_from_all_zip}
use Rattle.presence_journal_lists.proofs.StandingLemmas.{same_pair}
use Rattle.presence_journal_lists.proofs.gone.GoneReplicasClone.clone.Goals as goal

pub returns : goal.returns
returns c =
    let g = c.args.self.now in
    let first = same_from_all_zip _ g.first.entries c.in_ok-first.first.entries c.in_ok-first.ensures.cases (λ p q h. same_pair p q h) in
    let further = same_from_all_zip _ g.further.entries c.in_ok-further.further.entries c.in_ok-further.ensures.cases (λ p q h. same_pair p q h) in
    record { cases = (first, further) }
