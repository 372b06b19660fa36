use Rattle.std.proofs.Common.{◌≡◌, refl, ◌∙◌}
use Rattle.presence_journal.specs.History.{Begin, onto, own}
use Rattle.presence_journal.proofs.Walking.{reached_none, reached_plain, reached_all, own_begin, own_more}
use Rattle.presence_journal.proofs.journal.own_of.Goals as goal

pub loop-entry-init : goal.loop-entry-init
loop-entry-init c =
    let s = c.args.start.now in
    let es = c.args.entries.now in
    reached_none s (onto (Begin s) es) es (λ h. s.own ≡ own h) refl (own_begin s)

pub loop-entry-preserved : goal.loop-entry-preserved
loop-entry-preserved c =
    let l = c.loop-entry in
    let es = c.args.entries.now in
    reached_plain (onto (Begin c.args.start.now) es) es l.entry-index c.entry-item.result (λ h. l.own ≡ own h) (λ h. c.own_after-own.result ≡ own h) c.loop-entry-test.true c.entry-item.is
    (λ h is. c.own_after-own.ensures ∙ own_more l.own h c.entry-item.result is) l.invariant

pub returns : goal.returns
returns c =
    let es = c.args.entries.now in
    reached_all (onto (Begin c.args.start.now) es) es c.loop-entry.entry-index (λ h. c.loop-entry.own ≡ own h) c.loop-entry-test.false c.loop-entry.invariant
