use Rattle.std.proofs.Common.{refl, ◌∙◌, ap, sym, subst}
use Rattle.std.specs.Prelude.{max}
use Rattle.replica_status.specs.declared.standing.Standing.{Standing}
use Rattle.presence_journal.specs.History.{Begin, onto}
use Rattle.presence_journal.proofs.Walking.{reached_none, reached_all}
use Rattle.presence_journal_known.proofs.StatusLemmas.{Stands, stands_start, stands_more, passed_more}
use Rattle.presence_journal_known.proofs.statuses.standing_after.Goals as goal

pub loop-entry-init : goal.loop-entry-init
loop-entry-init c =
    let s = c.args.start.now in
    let r = c.args.replica.now in
    let es = c.args.entries.now in
    reached_none s (onto (Begin s) es) es (Stands s.own r s.time c.standing-standing.result) refl
    (subst (λ (x : Standing). Stands s.own r s.time x (Begin s)) (sym c.standing-standing.ensures) (stands_start r s))

pub loop-entry-preserved : goal.loop-entry-preserved
loop-entry-preserved c =
    let l = c.loop-entry in
    let r = c.args.replica.now in
    let es = c.args.entries.now in
    passed_more (onto (Begin c.args.start.now) es) es l.entry-index c.entry-item.result (Stands l.own r l.time l.standing) (Stands c.own_after-own.result r c.max-time.result c.next_standing-standing.result) c.loop-entry-test.true c.entry-item.is
    (λ h. stands_more l.own c.own_after-own.result r l.time c.max-time.result l.standing c.next_standing-standing.result h c.entry-item.result c.own_after-own.ensures (c.max-time.ensures ∙ ap (max l.time) c.time_of_step.ensures) c.next_standing-standing.ensures) l.invariant

pub returns : goal.returns
returns c =
    let es = c.args.entries.now in
    (reached_all (onto (Begin c.args.start.now) es) es c.loop-entry.entry-index (Stands c.loop-entry.own c.args.replica.now c.loop-entry.time c.loop-entry.standing) c.loop-entry-test.false c.loop-entry.invariant).stands
