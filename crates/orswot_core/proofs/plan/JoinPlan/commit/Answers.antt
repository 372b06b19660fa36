use Rattle.std.proofs.Common.{◌∙◌, ap, cond, None}
use Rattle.std.specs.List.{list_any}
use Rattle.std.specs.BTreeMap.{get}
use Rattle.presence_base.specs.Order.{dot_cmp, same_dot}
use Rattle.std.specs.FinSet as set
use Rattle.std.specs.FinMap as map
use Rattle.orswot_core.specs.Sets.{rows_of, is_sound, without_rows}
use Rattle.orswot_core.proofs.RowFacts.{same_rows}
use Rattle.orswot_core.proofs.PlanFacts.{rows_left}
use Rattle.orswot_core.proofs.plan.JoinPlan.commit.Goals as goal

pub invariant_of-result : goal.invariant_of-result
invariant_of-result c = λ q.
    ap (λ s. is_sound q (set.contains s q) (map.get (rows_of c.drop_dots.new.live.entries) q)) c.commit.ensures
    ∙ ap (λ m. is_sound q (set.contains (set.union c.self.inside.covered.held c.self.inside.covered.more) q) (map.get m q)) (rows_left c.self.inside.live c.drop_dots.new.live c.self.inside.gone.items (λ d. c.drop_dots.ensures d ∙ ap (λ l. cond (list_any (same_dot d) l) None (get dot_cmp c.self.inside.live d)) c.deref.ensures.value))
    ∙ c.self.invariant.sound_after q

pub returns : goal.returns
returns c =
    same_rows _ (record { covered = (set.union c.self.inside.covered.held c.self.inside.covered.more); live = without_rows (rows_of c.self.inside.live.entries) c.self.inside.gone.items }) c.commit.ensures
    (rows_left c.self.inside.live c.drop_dots.new.live c.self.inside.gone.items (λ d. c.drop_dots.ensures d ∙ ap (λ l. cond (list_any (same_dot d) l) None (get dot_cmp c.self.inside.live d)) c.deref.ensures.value))
    ∙ ap (λ p. p.after) c.self.view_is
