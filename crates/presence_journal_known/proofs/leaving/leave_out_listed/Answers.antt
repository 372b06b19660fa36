use Rattle.std.proofs.Common.{◌++◌, refl}
use Rattle.presence_journal.specs.History.{Begin, onto}
use Rattle.presence_journal_lists.specs.Standings.{first_list, gone_list}
use Rattle.presence_journal_known.specs.LeftOut.{is_named}
use Rattle.presence_journal_known.proofs.LeftLemmas.{left_none, both_listed}
use Rattle.presence_journal_known.proofs.leaving.leave_out_listed.Goals as goal

pub returns : goal.returns
returns c =
    let s = c.args.start.now in
    let es = c.args.entries.now in
    let h = onto (Begin s) es in
    let g = c.parts.result.0.now in
    let names = gone_list g.further.entries in
    let others = c.parts.result.1.now.entries in
    let first = c.leave_out_first.new.set in
    let further = c.leave_out_names.new.set in
    let last = c.leave_out_others.new.set in
    both_listed h s.standings (first_list g.first.entries) (names ++ others) (is_named s.own es) c.args.set.now first last c.parts.ensures c.leave_out_first.ensures
    (λ later. both_listed h (names ++ others) names others later first further last refl c.leave_out_names.ensures c.leave_out_others.ensures)
    (left_none s es c.args.set.now c.requires)
