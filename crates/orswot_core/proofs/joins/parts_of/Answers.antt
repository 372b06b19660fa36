use Rattle.std.proofs.Common.{◌≡◌, ◌&&◌, ◌||◌, not, is_some, sym, ◌∙◌, ap}
use Rattle.std.specs.List.{list_any}
use Rattle.std.specs.Map.{lookup}
use Rattle.std.specs.FinSet as set
use Rattle.std.specs.BTreeMap.{get}
use Rattle.presence_base.specs.declared.dots.Dot.{Dot}
use Rattle.presence_base.specs.Order.{dot_cmp, same_dot}
use Rattle.orswot_core.specs.Telling.{range_has, covers, live_row}
use Rattle.orswot_core.specs.Sets.{is_sound, is_left}
use Rattle.orswot_core.proofs.SoundFacts.{told_sound}
use Rattle.orswot_core.proofs.joins.parts_of.Goals as goal

heard_is : (c : goal.In_ok-gone) (q : Dot) → set.contains c.in_ok-heard.heard q ≡ covers c.args.told.now q
heard_is c q =
    c.in_ok-heard.ensures q
    ∙ ap (λ gs. list_any (range_has q) gs || list_any (same_dot q) c.extras.result.now) c.ranges-2.ensures.ranges
    ∙ ap (λ es. list_any (range_has q) c.args.told.now.ranges || list_any (same_dot q) es) c.extras.ensures.extras

rows_are : (c : goal.In_ok-gone) (q : Dot) → get dot_cmp c.in_ok-rows.rows q ≡ live_row c.args.told.now q
rows_are c q = c.in_ok-rows.ensures q ∙ ap (lookup (same_dot q)) c.live.ensures.live

pub returns-clause-heard : goal.returns-clause-heard
returns-clause-heard c = λ q. heard_is c q

pub returns-clause-rows : goal.returns-clause-rows
returns-clause-rows c = λ q. rows_are c q

pub returns-clause-needed : goal.returns-clause-needed
returns-clause-needed c = record {
  sound = λ q. ap (λ b. is_sound q b (get dot_cmp c.in_ok-rows.rows q)) (heard_is c q) ∙ ap (is_sound q (covers c.args.told.now q)) (rows_are c q) ∙ told_sound c.args.told.now c.extras.ensures.told q;
  added = λ q. c.in_ok-added.ensures q
      ∙ ap (λ l. not (set.contains c.args.covered.now q) && is_some (lookup (same_dot q) l)) c.live-2.ensures.live
      ∙ ap (λ o. not (set.contains c.args.covered.now q) && is_some o) (sym (rows_are c q));
  gone = λ q. c.in_ok-gone.ensures q ∙ ap (λ b. is_left (get dot_cmp c.args.live.now q) (get dot_cmp c.in_ok-rows.rows q) && b) (sym (heard_is c q));
}
