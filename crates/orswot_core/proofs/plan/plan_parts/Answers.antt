use Rattle.std.proofs.Common.{refl, sym, ◌∙◌, ap, cond, None, subst}
use Rattle.std.specs.List.{list_any}
use Rattle.std.specs.FinSet as set
use Rattle.std.specs.BTreeMap.{get}
use Rattle.presence_base.specs.Order.{dot_cmp, same_dot}
use Rattle.orswot_core.specs.Sets.{rows_of, leaving, ArePlanned, IsJoin}
use Rattle.orswot_core.proofs.RowFacts.{same_rows, rows_same}
use Rattle.orswot_core.proofs.SoundFacts.{sound_like}
use Rattle.orswot_core.proofs.PlanFacts.{put_back, is_before, is_after, are_planned}
use Rattle.orswot_core.proofs.plan.plan_parts.Goals as goal

pub invariant_of-result : goal.invariant_of-result
invariant_of-result c = sound_like c.args.covered c.args.covered c.args.live c.drop_dots.new.live refl (put_back c.args.covered c.args.parts.heard c.args.live c.args.parts.rows c.insert_missing.new.live c.drop_dots.new.live c.args.parts.added.items c.args.parts.gone.items
    c.requires.needed c.requires.sound c.insert_missing.ensures.kept
    (λ q. c.drop_dots.ensures q ∙ ap (λ l. cond (list_any (same_dot q) l) None (get dot_cmp c.insert_missing.new.live q)) c.deref.ensures.value)) c.requires.sound

pub returns-in-Err-clause-err : goal.returns-in-Err-clause-err
returns-in-Err-clause-err c = same_rows _ (record { covered = c.args.covered; live = rows_of c.args.live.entries }) refl (rows_same c.args.live c.drop_dots.new.live (rows_of c.args.live.entries) refl (put_back c.args.covered c.args.parts.heard c.args.live c.args.parts.rows c.insert_missing.new.live c.drop_dots.new.live c.args.parts.added.items c.args.parts.gone.items
    c.requires.needed c.requires.sound c.insert_missing.ensures.kept
    (λ q. c.drop_dots.ensures q ∙ ap (λ l. cond (list_any (same_dot q) l) None (get dot_cmp c.insert_missing.new.live q)) c.deref.ensures.value)))

pub invariant_of-result-in-Ok-plan_join : goal.invariant_of-result-in-Ok-plan_join
invariant_of-result-in-Ok-plan_join c =
    subst (λ p. ArePlanned (record { before = leaving p.held (rows_of c.insert_missing.new.live.entries) c.args.parts.added.items; after = leaving (set.union p.held p.more) (rows_of c.insert_missing.new.live.entries) c.args.parts.gone.items })) (sym c.in-Ok-plan_join.ensures.ok)
    (are_planned c.args.covered c.args.parts.heard c.args.live c.args.parts.rows c.insert_missing.new.live c.args.parts.added.items c.args.parts.gone.items
    c.requires.needed c.requires.sound c.in-Ok.ensures.kept c.in-Ok.ensures.ok)

pub returns-in-Ok-plan_join-clause-before : goal.returns-in-Ok-plan_join-clause-before
returns-in-Ok-plan_join-clause-before c =
    ap (λ p. leaving p.held (rows_of c.insert_missing.new.live.entries) c.args.parts.added.items) c.in-Ok-plan_join.ensures.ok
    ∙ is_before c.args.covered c.args.parts.heard c.args.live c.args.parts.rows c.insert_missing.new.live c.args.parts.added.items c.args.parts.gone.items c.requires.needed c.requires.sound c.in-Ok.ensures.kept

pub returns-in-Ok-plan_join-clause-joined : goal.returns-in-Ok-plan_join-clause-joined
returns-in-Ok-plan_join-clause-joined c =
    subst (λ p. IsJoin (record { covered = c.args.covered; live = rows_of c.args.live.entries }) (set.contains c.args.parts.heard) (get dot_cmp c.args.parts.rows) (leaving (set.union p.held p.more) (rows_of c.insert_missing.new.live.entries) c.args.parts.gone.items))
    (sym c.in-Ok-plan_join.ensures.ok)
    (is_after c.args.covered c.args.parts.heard c.args.live c.args.parts.rows c.insert_missing.new.live c.args.parts.added.items c.args.parts.gone.items c.requires.needed c.requires.sound c.in-Ok.ensures.kept c.in-Ok.ensures.ok)

pub invariant_of-result-in-Err-plan_join : goal.invariant_of-result-in-Err-plan_join
invariant_of-result-in-Err-plan_join c = sound_like c.args.covered c.in-Err-plan_join.covered c.args.live c.drop_dots-in-Err-plan_join.new.live c.in-Err-plan_join.ensures.err (put_back c.args.covered c.args.parts.heard c.args.live c.args.parts.rows c.insert_missing.new.live c.drop_dots-in-Err-plan_join.new.live c.args.parts.added.items c.args.parts.gone.items
    c.requires.needed c.requires.sound c.insert_missing.ensures.kept
    (λ q. c.drop_dots-in-Err-plan_join.ensures q ∙ ap (λ l. cond (list_any (same_dot q) l) None (get dot_cmp c.insert_missing.new.live q)) c.deref-in-Err-plan_join.ensures.value)) c.requires.sound

pub returns-clause-err : goal.returns-clause-err
returns-clause-err c = same_rows _ (record { covered = c.args.covered; live = rows_of c.args.live.entries }) c.in-Err-plan_join.ensures.err (rows_same c.args.live c.drop_dots-in-Err-plan_join.new.live (rows_of c.args.live.entries) refl (put_back c.args.covered c.args.parts.heard c.args.live c.args.parts.rows c.insert_missing.new.live c.drop_dots-in-Err-plan_join.new.live c.args.parts.added.items c.args.parts.gone.items
    c.requires.needed c.requires.sound c.insert_missing.ensures.kept
    (λ q. c.drop_dots-in-Err-plan_join.ensures q ∙ ap (λ l. cond (list_any (same_dot q) l) None (get dot_cmp c.insert_missing.new.live q)) c.deref-in-Err-plan_join.ensures.value)))
