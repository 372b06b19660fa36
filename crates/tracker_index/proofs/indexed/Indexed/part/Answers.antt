use Rattle.std.proofs.Common.{◌≡◌, ◌+◌, ◌≤◌, ◌-◌, length, refl, sym, ◌∙◌, subst, arith}
use Rattle.presence_journal_cuts.specs.ToldParts.{IsLargestPart}
use Rattle.presence_journal_cuts.specs.Parting.{end_of, rows_above}
use Rattle.tracker_index.proofs.OwnRowLemmas.{part_sound_seen, part_seen, none_seen}
use Rattle.tracker_index.proofs.indexed.Indexed.part.Goals as goal

pub returns-then-len-ge-MAX_ROWS : goal.returns-then-len-ge-MAX_ROWS
returns-then-len-ge-MAX_ROWS c =
    let x = c.self.inside in
    let es = c.rows_of.result in
    let from = c.min-from.result in
    let last = c.count-last.result in
    none_seen c.args.self.now x.journal x.parts c.self.view_is c.requires c.self.invariant c.own-own.result last es es c.own-own.ensures c.count-last.ensures c.rows_of.ensures c.rows_of.ensures
    c.args.count from 0 (end_of from last 0 es) c.in_ok-older.older.items (rows_above from 0 es) c.min-from.ensures c.in_ok-older.ensures refl refl
    (omega (arith, c.len.ensures, c.if-len-ge-MAX_ROWS.true))

pub new-requires : goal.new-requires
new-requires c =
    let x = c.self.inside in
    part_sound_seen c.args.self.now x.journal x.parts c.self.view_is c.requires c.self.invariant c.own-own.result c.count-last.result c.rows_of.result c.rows_of-2.result c.own-own.ensures c.count-last.ensures c.rows_of.ensures c.rows_of-2.ensures
    c.args.count c.min-from.result (65535 - c.len-2.result) c.in_ok-live.to c.in_ok-older.older.items c.in_ok-live.live.items c.min-from.ensures c.in_ok-older.ensures c.in_ok-live.ensures.end c.in_ok-live.ensures.rows

pub returns : goal.returns
returns c =
    let x = c.self.inside in
    subst (IsLargestPart c.args.self.now.history c.args.count) (sym c.new.ensures)
    (part_seen c.args.self.now x.journal x.parts c.self.view_is c.requires c.self.invariant c.own-own.result c.count-last.result c.rows_of.result c.rows_of-2.result c.own-own.ensures c.count-last.ensures c.rows_of.ensures c.rows_of-2.ensures
    c.args.count c.min-from.result (65535 - c.len-2.result) c.in_ok-live.to c.in_ok-older.older.items c.in_ok-live.live.items c.min-from.ensures c.in_ok-older.ensures c.in_ok-live.ensures.end c.in_ok-live.ensures.rows
    (omega (arith, c.len-2.ensures, c.len.ensures, c.if-len-ge-MAX_ROWS.false)))
