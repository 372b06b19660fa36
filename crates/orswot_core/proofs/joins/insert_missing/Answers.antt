use Rattle.std.proofs.Common.{◌≡◌, Some, refl, ◌∙◌, sym}
use Rattle.std.specs.BTreeMap.{get}
use Rattle.std.proofs.lemmas.List.Elements.{All-same, All-head, All-rest}
use Rattle.std.specs.FinSet as set
use Rattle.orswot_core.specs.Sets.{is_missing, Rows}
use Rattle.presence_base.specs.Order.{dot_cmp}
use Rattle.presence_base.specs.declared.dots.Dot.{Dot}
use Rattle.presence_base.specs.declared.row.Row.{Row}
use Rattle.orswot_core.proofs.RowFacts.{moved_first, moved_one, skip_one, kept_one, missing_found}
use Rattle.orswot_core.proofs.joins.insert_missing.Goals as goal

abbrev Found : Rows → Dot × Row → Type 0
Found m e = get dot_cmp m e.0 ≡ Some e.1

pub loop-dot-init : goal.loop-dot-init
loop-dot-init c =
    let all = c.into_iter-dot-iterator.ensures.into_iter_gives ∙ c.iter-dot-items.ensures.rest in
    record {
      found = All-same (Found c.args.others.now) _ _ all c.iter-dot-items.ensures.found;
      kept = λ q h. refl;
      moved = λ q h none. moved_first c.args.live.now c.args.others.now c.into_iter-dot-iterator.result q all none;
    }

pub loop-dot-preserved-in-Continue-branch-2 : goal.loop-dot-preserved-in-Continue-branch-2
loop-dot-preserved-in-Continue-branch-2 c =
    let split = c.in-Some.ensures.steps in
    let before = c.loop-dot.invariant in
    let here = All-head (Found c.args.others.now) (c.in-Some.dot.now, c.in-Some.row.now) c.next.new.self (All-same (Found c.args.others.now) _ _ (sym split) before.found) in
    record {
      found = All-rest (Found c.args.others.now) (c.in-Some.dot.now, c.in-Some.row.now) c.next.new.self c.loop-dot.dot-iterator split before.found;
      kept = λ q h. kept_one c.loop-dot.live c.insert_row.new.live c.args.live.now (λ d. is_missing (set.contains c.args.covered.now d) (get dot_cmp c.args.others.now d)) c.in-Some.dot.now c.in_ok-row.row q
          (missing_found (set.contains c.args.covered.now c.in-Some.dot.now) (get dot_cmp c.args.others.now c.in-Some.dot.now) c.in-Some.row.now (sym c.covers.ensures ∙ c.if-not-covers.true) here) h c.in_ok-insert_row.ensures.ok (before.kept q h);
      moved = λ q h none. moved_one c.loop-dot.live c.insert_row.new.live c.args.others.now c.in-Some.dot.now c.in-Some.row.now c.in_ok-row.row c.loop-dot.dot-iterator c.next.new.self q
          c.in_ok-row.ensures.cases here split c.in_ok-insert_row.ensures.ok (before.moved q h none);
    }

pub loop-dot-preserved : goal.loop-dot-preserved
loop-dot-preserved c =
    let split = c.in-Some.ensures.steps in
    let before = c.loop-dot.invariant in
    record {
      found = All-rest (Found c.args.others.now) (c.in-Some.dot.now, c.in-Some.row.now) c.next.new.self c.loop-dot.dot-iterator split before.found;
      kept = before.kept;
      moved = λ q h none. skip_one c.loop-dot.live c.args.others.now c.args.covered.now c.in-Some.dot.now c.in-Some.row.now c.loop-dot.dot-iterator c.next.new.self q
          (sym c.covers.ensures ∙ c.if-not-covers.false) h split (before.moved q h none);
    }
