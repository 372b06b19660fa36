use Rattle.std.proofs.Common.{◌<◌, ◌≤◌, ◌∙◌, arith}
use Rattle.std.proofs.lemmas.Bool.Decides.{nat_tests}
use Rattle.shard_pool_settled.proofs.Entries.{at_index, at_none}
use Rattle.shard_pool_settled.proofs.seated.numbered_entry.Goals as goal

pub returns : goal.returns
returns c =
    let above : c.start.result.now.number < c.args.number = let t = c.if-number-first.false in grind (arith, nat_tests) in
    c.placed_entry.ensures ∙ at_index c.start.result.now c.entries-entries.result.now c.args.journal.now c.args.number c.start.ensures c.entries-entries.ensures.history c.entries-entries.ensures.legal above

pub returns-then-number-first : goal.returns-then-number-first
returns-then-number-first c =
    let below : c.args.number ≤ c.start.result.now.number = let t = c.if-number-first.true in grind (arith, nat_tests) in
    at_none c.start.result.now c.entries-entries.result.now c.args.journal.now c.args.number c.start.ensures c.entries-entries.ensures.history c.entries-entries.ensures.legal below
