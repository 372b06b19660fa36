use Rattle.std.proofs.Common.{◌∙◌, ap}
use Rattle.orswot_core.proofs.RowFacts.{rows_same, by_result, on_ok, on_err, same_rows}
use Rattle.orswot_core.proofs.SoundFacts.{sound_like, remove_keeps, is_removed, dot_counted}
use Rattle.orswot_core.proofs.set.Orswot.remove.Goals as goal

pub remove_rows-requires-clause-event : goal.remove_rows-requires-clause-event
remove_rows-requires-clause-event c = dot_counted c.args.event c.requires.event

pub invariant_of-self : goal.invariant_of-self
invariant_of-self c = by_result c.remove_rows.result c.remove_rows.ensures.ok c.remove_rows.ensures.err
    (λ p. remove_keeps c.self.inside.covered c.remove_rows.new.covered c.self.inside.live c.remove_rows.new.live c.args.dots.now c.args.event c.requires.dots c.requires.event c.self.invariant p)
    (λ p. sound_like c.self.inside.covered c.remove_rows.new.covered c.self.inside.live c.remove_rows.new.live p.0 p.1 c.self.invariant)

pub returns-clause-ok : goal.returns-clause-ok
returns-clause-ok c = on_ok c.remove_rows.result
    (λ p. is_removed c.self.inside.covered c.remove_rows.new.covered c.self.inside.live c.remove_rows.new.live c.args.self.now c.args.dots.now c.args.event c.self.view_is p)
    c.remove_rows.ensures.ok

pub returns-clause-err : goal.returns-clause-err
returns-clause-err c = on_err c.remove_rows.result
    (λ p. same_rows _ c.args.self.now
    (p.0 ∙ ap (λ v. v.covered) c.self.view_is)
    (rows_same c.self.inside.live c.remove_rows.new.live c.args.self.now.live (ap (λ v. v.live) c.self.view_is) p.1))
    c.remove_rows.ensures.err
