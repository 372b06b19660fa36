use Rattle.std.proofs.Common.{◌^◌, nat_le, sym, ◌∙◌, ap, arith}
use Rattle.std.proofs.lemmas.Bool.{le-leb}
use Rattle.presence_journal.proofs.HistoryLemmas.{full_by_entries, full_by_number}
use Rattle.presence_journal.proofs.journal.Journal.is_full.Goals as goal

pub returns-then-len : goal.returns-then-len
returns-then-len c =
    let j = c.self.inside in
    le-leb 262143 c.len.result c.if-len.true ∙ sym (full_by_entries j.start j.entries c.args.self.now c.self.view_is (omega (arith, c.len.ensures, c.if-len.true)))

pub returns-else-len : goal.returns-else-len
returns-else-len c =
    let j = c.self.inside in
    ap (nat_le (2 ^ 62)) c.last_number.ensures.number ∙ sym (full_by_number j.start j.entries c.args.self.now c.self.view_is (omega (arith, c.len.ensures, c.if-len.false)))
