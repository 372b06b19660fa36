use Rattle.std.proofs.Common.{◌≡◌, ◌++◌, sym, ◌∙◌, ap, subst, arith}
use Rattle.delta_range.specs.Deltas.{DeltaValue, IsDelta, GoesOn}
use Rattle.delta_range.specs.Joining.{joined, Joined}
use Rattle.delta_range.specs.Growing.{runs_with, rows_left, IsRemoval}
use Rattle.delta_range.proofs.GrowthFacts.{grown_joined, both_deltas}
use Rattle.delta_range.proofs.ViewFacts.{tells_both}
use Rattle.delta_range.proofs.delta.Delta.plan_join.Goals as goal

abbrev inside : goal.In-Ok-reserve → DeltaValue
inside c = record { owner = c.self.inside.owner; from = c.self.inside.from; to = c.self.inside.to; older = c.self.inside.older.items; live = c.self.inside.live.items }

goes_on : (c : goal.In-Ok-reserve) → GoesOn (inside c).owner (inside c).to c.args.next.now
goes_on c = subst (λ (d : DeltaValue). GoesOn d.owner d.to c.args.next.now) (sym c.self.view_is) c.requires.follows

removes : (c : goal.In-Ok-reserve) → IsRemoval c.args.removal (inside c) c.args.next.now
removes c = subst (λ (d : DeltaValue). IsRemoval c.args.removal d c.args.next.now) (sym c.self.view_is) c.requires.removal

pub invariant_of-result : goal.invariant_of-result
invariant_of-result c = (
  both_deltas (inside c) c.args.next.now c.args.removal c.reserve.new.self.items c.in-Ok.rows.items c.to-end.result
      c.self.invariant c.live.ensures.delta (goes_on c) (removes c) c.reserve.ensures.items (c.in-Ok.ensures ∙ c.live.ensures.live) c.to-end.ensures,
  omega (arith, c.in-Ok-reserve.ensures.ok, c.len.ensures, c.in-Ok.rows.ok, c.reserve.new.self.ok),
)

after : (c : goal.In-Ok-reserve)
    → ◌≡◌ {A = DeltaValue} (record { owner = c.self.inside.owner; from = c.self.inside.from; to = c.to-end.result; older = runs_with c.args.removal c.self.inside.older.items; live = rows_left c.args.removal c.reserve.new.self.items ++ c.in-Ok.rows.items })
    (joined c.args.self c.args.next.now)
after c =
    grown_joined (inside c) c.args.next.now c.args.removal c.reserve.new.self.items c.in-Ok.rows.items c.to-end.result
    (removes c) c.reserve.ensures.items (c.in-Ok.ensures ∙ c.live.ensures.live) c.to-end.ensures
    ∙ ap (λ (d : DeltaValue). joined d c.args.next.now) c.self.view_is

pub returns-in-Ok-reserve-clause-after : goal.returns-in-Ok-reserve-clause-after
returns-in-Ok-reserve-clause-after c = after c

pub returns-in-Ok-reserve-clause-joined : goal.returns-in-Ok-reserve-clause-joined
returns-in-Ok-reserve-clause-joined c =
    subst (Joined c.args.self c.args.next.now) (sym (after c))
    (tells_both c.args.self c.args.next.now (subst IsDelta c.self.view_is c.self.invariant) c.live.ensures.delta c.requires.follows)
