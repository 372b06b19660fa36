use Rattle.std.proofs.Common.{◌≡◌, ◌+◌, ◌∙◌, subst, List, arith}
use Rattle.std.specs.Prelude.{Result, Ok, Err, IfOk}
use Rattle.presence_base.specs.declared.dots.Dot.{Dot}
use Rattle.presence_base.specs.declared.row.Row.{Row}
use Rattle.presence_journal_known.proofs.NumberedLemmas.{AreNumbered, none_numbered, room_for_one, more_numbered, all_numbered}
use Rattle.presence_journal_known.proofs.rebirths.number_dots.Goals as goal

pub loop-dot-init : goal.loop-dot-init
loop-dot-init c =
    none_numbered c.args.replica.now c.args.rows c.into_iter-dot-iterator.result c.new-pairs.result.items c.into_iter-dot-iterator.ensures.into_iter_gives c.new-pairs.ensures.items

pub overflow_add-count : goal.overflow_add-count
overflow_add-count c =
    let l = c.loop-dot in
    let at = subst (λ (rest : List (Dot × Row)). AreNumbered c.args.replica.now c.args.rows rest l.pairs.items l.count) c.in-Some.ensures.steps l.invariant in
    let room = room_for_one c.args.replica.now c.args.rows c.next.new.self (c.in-Some.dot.now, c.in-Some._row.now) l.pairs.items l.count c.requires at in
    omega (arith, room)

pub loop-dot-preserved : goal.loop-dot-preserved
loop-dot-preserved c =
    let l = c.loop-dot in
    let at = subst (λ (rest : List (Dot × Row)). AreNumbered c.args.replica.now c.args.rows rest l.pairs.items l.count) c.in-Some.ensures.steps l.invariant in
    more_numbered c.args.replica.now c.args.rows c.next.new.self (c.in-Some.dot.now, c.in-Some._row.now) l.pairs.items c.push.new.self.items l.count c.in_ok-push.ensures.items at

given : {E : Type 0} (r : Result (List (Dot × Dot)) E) (these those : List (Dot × Dot)) → IfOk r (λ ps. ps ≡ these) → these ≡ those → IfOk r (λ ps. ps ≡ those)
given (Ok ps) these those is same = is ∙ same
given (Err e) these those is same = tt

pub returns : goal.returns
returns c =
    let l = c.loop-dot in
    given _ _ _ c.new.ensures (all_numbered c.args.replica.now c.args.rows l.dot-iterator l.pairs.items l.count c.in-None.ensures.steps.0 l.invariant)
