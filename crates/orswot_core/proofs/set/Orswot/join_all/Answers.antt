use Rattle.std.proofs.Common.{◌∙◌, ap}
use Rattle.std.specs.FinSet as set
use Rattle.std.specs.FinMap as map
use Rattle.orswot_core.proofs.RowFacts.{rows_same, by_result, on_ok, on_err, same_rows}
use Rattle.orswot_core.proofs.SoundFacts.{sound_like, live_is_covered, join_keeps, is_join, joins_other, other_sound}
use Rattle.orswot_core.proofs.set.Orswot.join_all.Goals as goal

pub join_rows-requires : goal.join_rows-requires
join_rows-requires c = live_is_covered c.self.inside.covered c.self.inside.live c.self.invariant

pub invariant_of-self : goal.invariant_of-self
invariant_of-self c = by_result c.join_rows.result c.join_rows.ensures.ok c.join_rows.ensures.err
    (λ p. join_keeps c.self.inside.covered c.join_rows.new.covered c.self.inside.live c.join_rows.new.live (set.contains c.args.other.now.covered) (map.get c.args.other.now.live)
    (other_sound c.other.inside.covered c.other.inside.live c.args.other.now c.other.view_is c.other.invariant) c.self.invariant
    (joins_other c.self.inside.covered c.join_rows.new.covered c.other.inside.covered c.self.inside.live c.join_rows.new.live c.other.inside.live c.args.other.now c.other.view_is p.0 p.1))
    (λ p. sound_like c.self.inside.covered c.join_rows.new.covered c.self.inside.live c.join_rows.new.live p.0 p.1 c.self.invariant)

pub returns-clause-ok : goal.returns-clause-ok
returns-clause-ok c = on_ok c.join_rows.result
    (λ p. is_join c.self.inside.covered c.join_rows.new.covered c.self.inside.live c.join_rows.new.live c.args.self.now (set.contains c.args.other.now.covered) (map.get c.args.other.now.live) c.self.view_is
    (joins_other c.self.inside.covered c.join_rows.new.covered c.other.inside.covered c.self.inside.live c.join_rows.new.live c.other.inside.live c.args.other.now c.other.view_is p.0 p.1))
    c.join_rows.ensures.ok

pub returns-clause-err : goal.returns-clause-err
returns-clause-err c = on_err c.join_rows.result
    (λ p. same_rows _ c.args.self.now
    (p.0 ∙ ap (λ v. v.covered) c.self.view_is)
    (rows_same c.self.inside.live c.join_rows.new.live c.args.self.now.live (ap (λ v. v.live) c.self.view_is) p.1))
    c.join_rows.ensures.err
