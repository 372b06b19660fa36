use Rattle.std.proofs.Common.{List, sym, ◌∙◌, ap}
use Rattle.presence_base.specs.declared.dots.Replica.{Replica}
use Rattle.replica_status.specs.declared.standing.Standing.{Standing}
use Rattle.replica_status.specs.Boards.{standing_in}
use Rattle.presence_journal_lists.proofs.StandingLemmas.{read_gone, read_other}
use Rattle.presence_journal_lists.proofs.standings.Standings.standing.Goals as goal

pub returns-then-is_among : goal.returns-then-is_among
returns-then-is_among c =
    let r = c.args.replica.now in
    read_gone _ _ r c.self.invariant (sym c.is_among.ensures ∙ c.if-is_among.true) ∙ ap (λ (xs : List (Replica × Standing)). standing_in xs r) c.self.view_is

pub returns : goal.returns
returns c =
    let r = c.args.replica.now in
    c.standing_among.ensures ∙ (read_other _ _ r c.self.invariant (sym c.is_among.ensures ∙ c.if-is_among.false) ∙ ap (λ (xs : List (Replica × Standing)). standing_in xs r) c.self.view_is)
