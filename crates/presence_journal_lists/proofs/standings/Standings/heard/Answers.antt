use Rattle.std.proofs.Common.{List, sym, ◌∙◌, ap, subst}
use Rattle.presence_base.specs.declared.dots.Replica.{Replica}
use Rattle.replica_status.specs.declared.standing.Standing.{Standing}
use Rattle.replica_status.specs.Boards.{standing_in}
use Rattle.replica_status.specs.Table.{heard_at}
use Rattle.presence_journal_lists.specs.Standings.{Puts, all_of}
use Rattle.presence_journal_lists.proofs.StandingLemmas.{read_gone, heard_gone, heard_kept, unchanged_kept, heard_as}
use Rattle.presence_journal_lists.proofs.standings.Standings.heard.Goals as goal

pub returns-then-is_among-clause-ok : goal.returns-then-is_among-clause-ok
returns-then-is_among-clause-ok c =
    let r = c.args.replica in
    heard_gone c.args.self.now r c.args.time
    (sym
    (read_gone c.self.inside.gone c.self.inside.others r c.self.invariant (sym c.is_among.ensures ∙ c.if-is_among.true)
    ∙ ap (λ (xs : List (Replica × Standing)). standing_in xs r) c.self.view_is))

pub invariant_of-self : goal.invariant_of-self
invariant_of-self c = unchanged_kept c.self.inside.gone c.self.inside.others c.insert.new.self c.self.invariant c.in_err-insert.ensures.err

pub invariant_of-self-2 : goal.invariant_of-self-2
invariant_of-self-2 c =
    heard_kept c.self.inside.gone c.self.inside.others c.insert.new.self c.args.replica c.heard_at-standing.result c.self.invariant (sym c.is_among.ensures ∙ c.if-is_among.false)
    c.in_ok-insert.ensures.updates.0

pub returns-clause-ok : goal.returns-clause-ok
returns-clause-ok c =
    let r = c.args.replica in
    let g = c.self.inside.gone in
    let n = c.insert.new.self in
    subst (λ (xs : List (Replica × Standing)). Puts xs (all_of g n) r (heard_at c.args.time (standing_in xs r))) c.self.view_is
    (heard_as g c.self.inside.others n r c.args.time c.heard_at-standing.result c.self.invariant (sym c.is_among.ensures ∙ c.if-is_among.false)
    (c.heard_at-standing.ensures ∙ ap (heard_at c.args.time) c.standing_among.ensures) c.in_ok-insert.ensures.updates.0)
