use Rattle.std.proofs.Common.{◌≡◌, ◌++◌, ◌∷◌, [], true, sym, ◌∙◌, subst}
use Rattle.dot_context.specs.Runs.{AreLong}
use Rattle.delta_range.specs.Deltas.{is_delta, IsDelta, older_told}
use Rattle.delta_range.proofs.DeltaFacts.{older_long, delta_keeps, runs_made, parts_made, delta_given}
use Rattle.delta_range.proofs.delta.Delta.of_told.Goals as goal

pub longest-requires : goal.longest-requires
longest-requires c =
    let t = c.args.told.now in
    subst AreLong
    (sym (runs_made t c.in-Some.range.now c.in-Some.before.now c.extras.result.now c.in_ok-runs.runs.items c.push_ends.new.runs.items
    (sym c.ranges-2.ensures.ranges ∙ c.in-Some.ensures.cases.0) c.extras.ensures.extras c.in_ok-runs.ensures c.in_ok-push_ends.ensures))
    (older_long t (sym c.has_delta_form.ensures ∙ c.if-not-has_delta_form.false) c.extras.ensures.told)

pub new-requires : goal.new-requires
new-requires c =
    let t = c.args.told.now in
    let split = sym c.ranges-2.ensures.ranges ∙ c.in-Some.ensures.cases.0 in
    subst IsDelta
    (sym (parts_made t c.in-Some.range.now c.in-Some.before.now c.in_ok-older.older.items c.in_ok-live.live.items c.live.result.now c.push_ends.new.runs.items
    split c.in_ok-older.ensures
    (runs_made t c.in-Some.range.now c.in-Some.before.now c.extras.result.now c.in_ok-runs.runs.items c.push_ends.new.runs.items split c.extras.ensures.extras c.in_ok-runs.ensures c.in_ok-push_ends.ensures)
    c.in_ok-live.ensures c.live.ensures.live))
    (delta_keeps t (sym c.has_delta_form.ensures ∙ c.if-not-has_delta_form.false) c.extras.ensures.told)

pub returns-clause-delta : goal.returns-clause-delta
returns-clause-delta c =
    let t = c.args.told.now in
    let split = sym c.ranges-2.ensures.ranges ∙ c.in-Some.ensures.cases.0 in
    delta_given t (sym c.has_delta_form.ensures ∙ c.if-not-has_delta_form.false) c.new.result
    (c.new.ensures ∙ parts_made t c.in-Some.range.now c.in-Some.before.now c.in_ok-older.older.items c.in_ok-live.live.items c.live.result.now c.push_ends.new.runs.items
    split c.in_ok-older.ensures
    (runs_made t c.in-Some.range.now c.in-Some.before.now c.extras.result.now c.in_ok-runs.runs.items c.push_ends.new.runs.items split c.extras.ensures.extras c.in_ok-runs.ensures c.in_ok-push_ends.ensures)
    c.in_ok-live.ensures c.live.ensures.live)
