use Rattle.std.proofs.Common.{◌∙◌, ap}
use Rattle.std.specs.FinSet as set
use Rattle.orswot_core.specs.Sets.{with_dot}
use Rattle.orswot_core.proofs.RowFacts.{row_put, rows_same, by_result, on_ok, on_err, same_rows}
use Rattle.orswot_core.proofs.SoundFacts.{none_uncovered, sound_at, sound_like, add_keeps, dot_counted}
use Rattle.std.specs.BTreeMap.{get}
use Rattle.presence_base.specs.Order.{dot_cmp}
use Rattle.orswot_core.proofs.set.Orswot.add.Goals as goal

pub add_row-requires-clause-counted : goal.add_row-requires-clause-counted
add_row-requires-clause-counted c = dot_counted c.args.dot c.requires.dot

pub add_row-requires-clause-new : goal.add_row-requires-clause-new
add_row-requires-clause-new c =
    none_uncovered c.args.dot (set.contains c.self.inside.covered c.args.dot) (get dot_cmp c.self.inside.live c.args.dot) (sound_at c.self.inside.covered c.self.inside.live c.self.invariant c.args.dot)
    (ap (λ v. set.contains v.covered c.args.dot) c.self.view_is ∙ c.requires.new)

pub invariant_of-self : goal.invariant_of-self
invariant_of-self c = by_result c.add_row.result c.add_row.ensures.ok c.add_row.ensures.err
    (λ p. add_keeps c.self.inside.covered c.add_row.new.covered c.self.inside.live c.add_row.new.live c.args.dot c.args.row c.requires.dot c.requires.row c.self.invariant p.0 p.1)
    (λ p. sound_like c.self.inside.covered c.add_row.new.covered c.self.inside.live c.add_row.new.live p.0 p.1 c.self.invariant)

pub returns-clause-ok : goal.returns-clause-ok
returns-clause-ok c = on_ok c.add_row.result
    (λ p. same_rows _ (with_dot c.args.self.now c.args.dot c.args.row)
    (p.0 ∙ ap (λ v. set.insert v.covered c.args.dot) c.self.view_is)
    (row_put c.self.inside.live c.add_row.new.live c.args.self.now.live c.args.dot c.args.row (ap (λ v. v.live) c.self.view_is) p.1))
    c.add_row.ensures.ok

pub returns-clause-err : goal.returns-clause-err
returns-clause-err c = on_err c.add_row.result
    (λ p. same_rows _ c.args.self.now
    (p.0 ∙ ap (λ v. v.covered) c.self.view_is)
    (rows_same c.self.inside.live c.add_row.new.live c.args.self.now.live (ap (λ v. v.live) c.self.view_is) p.1))
    c.add_row.ensures.err
