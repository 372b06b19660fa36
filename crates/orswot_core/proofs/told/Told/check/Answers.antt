use Rattle.std.proofs.Common.{◌≡◌, Bool, true, false, ◌&&◌, ◌||◌, refl, sym, ◌∙◌, ap}
use Rattle.std.specs.List.{list_any, list_all}
use Rattle.presence_base.specs.Order.{same_dot}
use Rattle.presence_base.specs.declared.dots.Dot.{Dot}
use Rattle.presence_base.specs.declared.row.Row.{Row}
use Rattle.orswot_core.specs.Limits.{is_dot, is_row, is_range, are_texts, is_on_shard}
use Rattle.orswot_core.specs.Telling.{range_has}
use Rattle.orswot_core.specs.Checks.{has_repeat, dots_of, is_forward, is_raw_row}
use Rattle.orswot_core.proofs.LoopFacts.{all_weaker}
use Rattle.orswot_core.proofs.told.Told.check.Goals as goal

numbers : (d r m : Bool) → (d && (r && m)) ≡ true → (d && r) ≡ true
numbers true true m h = refl
numbers true false m h = absurd (cc)
numbers false r m h = absurd (cc)

pub invariant_of-result : goal.invariant_of-result
invariant_of-result c = record {
  forward = ap (list_all is_forward) (sym c.deref-2.ensures.value) ∙ sym c.are_ranges_forward.ensures ∙ c.if-not-are_ranges_forward.false;
  ranges = ap (list_all is_range) (sym c.deref-3.ensures.value) ∙ sym c.are_ranges_within.ensures ∙ c.if-not-are_ranges_within.false;
  extras = ap (list_all is_dot) (sym c.deref-else-not-are_ranges_within.ensures.value) ∙ sym c.are_dots_within.ensures ∙ c.if-not-are_dots_within.false;
  rows = ap (list_all (λ (x : Dot × Row). is_dot x.0 && is_row x.1)) c.in_ok-live.ensures.1 ∙ all_weaker (is_raw_row c.args.shard c.args.shards) (λ x. is_dot x.0 && is_row x.1) (λ x h. numbers (is_dot x.0) (is_row x.1) (are_texts x.1 && is_on_shard c.args.shard c.args.shards x.1) h) c.args.raw.live.items c.in_ok-live.ensures.0;
  covered =
      ap (λ gs. list_all (λ (x : Dot × Row). list_any (range_has x.0) gs || list_any (same_dot x.0) c.args.raw.extras.items) c.in_ok-live.live.items) (sym c.deref-4.ensures.value)
      ∙ ap (λ es. list_all (λ (x : Dot × Row). list_any (range_has x.0) c.deref-4.result.now || list_any (same_dot x.0) es) c.in_ok-live.live.items) (sym c.deref-5.ensures.value)
      ∙ ap (list_all (λ (x : Dot × Row). list_any (range_has x.0) c.deref-4.result.now || list_any (same_dot x.0) c.deref-5.result.now)) (sym c.deref-6.ensures.value)
      ∙ sym c.in_ok-are_live_covered.ensures ∙ c.if-not-branch.false;
  once = ap (λ l. has_repeat same_dot (dots_of l)) (sym c.deref-7.ensures.value) ∙ sym c.in_ok-has_live_twice.ensures ∙ c.if-branch-2.false;
}
