use Rattle.std.proofs.Common.{◌+◌, drop, get_or, ap}
use Rattle.std.proofs.lemmas.List.{drop_all, get_or_default}
use Rattle.presence_journal.specs.History.{Begin, onto}
use Rattle.presence_journal.proofs.Walking.{drop_next}
use Rattle.presence_journal_lists.specs.Standings.{gone_life, gone_lives}
use Rattle.presence_journal_known.proofs.LeftLemmas.{rest_one, rest_done}
use Rattle.presence_journal_known.proofs.leaving.leave_out_lives.Goals as goal

pub loop-life-init : goal.loop-life-init
loop-life-init c = λ later o. o

pub loop-life-preserved : goal.loop-life-preserved
loop-life-preserved c =
    let l = c.loop-life in
    let name = c.args.name.now in
    let ns = c.args.lives.now in
    let n = get_or ns l.life-index 0 in
    rest_one (onto (Begin c.args.start.now) c.args.entries.now) (gone_lives name ns) (gone_lives name (drop l.life-index ns)) (gone_lives name (drop (l.life-index + 1) ns)) (gone_life name n) c.args.set.now l.set c.forget_gone.new.set
    (ap (gone_lives name) (drop_next ns l.life-index n c.loop-life-test.true (get_or_default ns l.life-index 0 n c.loop-life-test.true))) c.forget_gone.ensures l.invariant

pub returns : goal.returns
returns c =
    let l = c.loop-life in
    let name = c.args.name.now in
    let ns = c.args.lives.now in
    rest_done (onto (Begin c.args.start.now) c.args.entries.now) (gone_lives name ns) (gone_lives name (drop l.life-index ns)) c.args.set.now l.set (ap (gone_lives name) (drop_all l.life-index ns c.loop-life-test.false)) l.invariant
