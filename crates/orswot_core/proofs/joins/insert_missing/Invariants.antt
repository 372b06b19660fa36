use Rattle.std.proofs.Common.{◌≡◌, false, Some, None}
use Rattle.std.specs.List.{All}
use Rattle.std.specs.Map.{lookup}
use Rattle.std.specs.Ordering.{is_eq}
use Rattle.std.specs.FinSet as set
use Rattle.std.specs.BTreeMap.{get}
use Rattle.presence_base.specs.Order.{dot_cmp}
use Rattle.presence_base.specs.declared.dots.Dot.{Dot}
use Rattle.presence_base.specs.declared.row.Row.{Row}
use Rattle.orswot_core.specs.Sets.{first_row, is_missing}
use Rattle.orswot_core.proofs.joins.insert_missing.Given as goal

abbrev pub invariant-loop-dot : goal.invariant-loop-dot
invariant-loop-dot l = record {
  found : All (λ (e : Dot × Row). get dot_cmp l.others e.0 ≡ Some e.1) l.dot-iterator;
  kept : (q : Dot) → is_missing (set.contains l.covered q) (get dot_cmp l.others q) ≡ false → get dot_cmp l.live q ≡ get dot_cmp l.fn.live q;
  moved : (q : Dot) → set.contains l.covered q ≡ false → get dot_cmp l.fn.live q ≡ None → first_row (get dot_cmp l.live q) (lookup (λ k. is_eq (dot_cmp q k)) l.dot-iterator) ≡ get dot_cmp l.others q;
}
