-- What a plan of a join holds: the set as it was, and the joined one.
use Rattle.std.proofs.Common.{◌≡◌, Bool, true, false, cond, ◌||◌, List, refl, sym, ◌∙◌, ap, Option, Some, None, is_some}
use Rattle.std.specs.List.{list_any}
use Rattle.std.specs.FinSet as set
use Rattle.std.specs.FinMap as map
use Rattle.std.specs.BTreeMap.{get}
use Rattle.presence_base.specs.declared.dots.Dot.{Dot}
use Rattle.presence_base.specs.declared.row.Row.{Row}
use Rattle.presence_base.specs.Order.{dot_cmp, same_dot}
use Rattle.dot_context.specs.Sets.{DotSet}
use Rattle.orswot_core.specs.Sets.{Rows, DotRows, rows_of, is_sound, IsSound, is_missing, AreNeeded, IsJoin, joined_row, leaving, without_rows, ArePlanned}
use Rattle.orswot_core.proofs.OrderFacts.{dot_total, dot_antisymmetric}
use Rattle.orswot_core.proofs.RowFacts.{seen_row, same_rows, uncovered_none, told_at}
use Rattle.orswot_core.proofs.SoundFacts.{live_is_covered, joined_sound, without_rows_at}

-- what was inserted is taken out again
before_at : (o mid : Option Row) (c added : Bool) (r : Option Row) → (is_some o ≡ true → c ≡ true) → added ≡ is_missing c r → (is_missing c r ≡ false → mid ≡ o) → cond added None mid ≡ o
before_at o mid true added r f e k = ap (λ b. cond b None mid) e ∙ k refl
before_at o mid false added None f e k = ap (λ b. cond b None mid) e ∙ k refl
before_at o mid false added (Some x) f e k = ap (λ b. cond b None mid) e ∙ sym (uncovered_none o false f refl)

-- nothing but missing rows changed
abbrev pub Keeps : DotSet → Rows → Rows → Rows → Type 0
Keeps s rows m mid = (q : Dot) → is_missing (set.contains s q) (get dot_cmp rows q) ≡ false → get dot_cmp mid q ≡ get dot_cmp m q

pub put_back : (s heard : DotSet) (m rows mid n : Rows) (adds takes : List Dot) → AreNeeded s m heard rows adds takes → IsSound s (rows_of m.entries) → Keeps s rows m mid
    → ((q : Dot) → get dot_cmp n q ≡ cond (list_any (same_dot q) adds) None (get dot_cmp mid q)) → (q : Dot) → get dot_cmp n q ≡ get dot_cmp m q
put_back s heard m rows mid n adds takes needed sound kept step q =
    step q ∙ before_at (get dot_cmp m q) (get dot_cmp mid q) (set.contains s q) (list_any (same_dot q) adds) (get dot_cmp rows q) (live_is_covered s m sound q) (needed.added q) (kept q)

pub is_before : (s heard : DotSet) (m rows mid : Rows) (adds takes : List Dot) → AreNeeded s m heard rows adds takes → IsSound s (rows_of m.entries) → Keeps s rows m mid
    → leaving s (rows_of mid.entries) adds ≡ record { covered = s; live = rows_of m.entries }
is_before s heard m rows mid adds takes needed sound kept =
    same_rows (leaving s (rows_of mid.entries) adds) (record { covered = s; live = rows_of m.entries }) refl
    (map.same_map dot_total dot_antisymmetric (without_rows (rows_of mid.entries) adds) (rows_of m.entries) (λ q.
    without_rows_at (rows_of mid.entries) adds q
    ∙ ap (cond (list_any (same_dot q) adds) None) (seen_row mid q)
    ∙ before_at (get dot_cmp m q) (get dot_cmp mid q) (set.contains s q) (list_any (same_dot q) adds) (get dot_cmp rows q) (live_is_covered s m sound q) (needed.added q) (kept q)
    ∙ sym (seen_row m q)))

pub is_after : (s heard : DotSet) (m rows mid : Rows) (adds takes : List Dot) → AreNeeded s m heard rows adds takes → IsSound s (rows_of m.entries) → Keeps s rows m mid
    → ((q : Dot) → set.contains s q ≡ false → get dot_cmp m q ≡ None → get dot_cmp mid q ≡ get dot_cmp rows q)
    → IsJoin (record { covered = s; live = rows_of m.entries }) (set.contains heard) (get dot_cmp rows) (leaving (set.union s heard) (rows_of mid.entries) takes)
is_after s heard m rows mid adds takes needed sound kept moved = λ q. (
  set.contains-union dot_total s heard q,
  told_at (get dot_cmp m q) (get dot_cmp mid q) (map.get (without_rows (rows_of mid.entries) takes) q) (get dot_cmp rows q)
      (set.contains s q) (set.contains heard q) (list_any (same_dot q) takes)
      (live_is_covered s m sound q) (λ e. kept q (ap (λ b. is_missing b (get dot_cmp rows q)) e)) (moved q) (needed.gone q)
      (without_rows_at (rows_of mid.entries) takes q ∙ ap (cond (list_any (same_dot q) takes) None) (seen_row mid q))
      ∙ ap (λ o. joined_row o (set.contains s q) (get dot_cmp rows q) (set.contains heard q)) (sym (seen_row m q)),
)

pub sound_join : (v w : DotRows) (has : Dot → Bool) (row : Dot → Option Row) → IsSound v.covered v.live → ((q : Dot) → is_sound q (has q) (row q) ≡ true) → IsJoin v has row w → IsSound w.covered w.live
sound_join v w has row h other j = λ q.
    ap (λ b. is_sound q b (map.get w.live q)) ((j q).0)
    ∙ ap (is_sound q (set.contains v.covered q || has q)) ((j q).1)
    ∙ joined_sound q (set.contains v.covered q) (has q) (map.get v.live q) (row q) (h q) (other q)

pub are_planned : (s heard : DotSet) (m rows mid : Rows) (adds takes : List Dot) → AreNeeded s m heard rows adds takes → IsSound s (rows_of m.entries) → Keeps s rows m mid
    → ((q : Dot) → set.contains s q ≡ false → get dot_cmp m q ≡ None → get dot_cmp mid q ≡ get dot_cmp rows q)
    → ArePlanned (record { before = leaving s (rows_of mid.entries) adds; after = leaving (set.union s heard) (rows_of mid.entries) takes })
are_planned s heard m rows mid adds takes needed sound kept moved = record {
  sound_before = λ q. ap (λ v. is_sound q (set.contains v.covered q) (map.get v.live q)) (is_before s heard m rows mid adds takes needed sound kept) ∙ sound q;
  sound_after = sound_join (record { covered = s; live = rows_of m.entries }) (leaving (set.union s heard) (rows_of mid.entries) takes) (set.contains heard) (get dot_cmp rows) sound needed.sound
      (is_after s heard m rows mid adds takes needed sound kept moved);
}

-- rows that are taken out
pub rows_left : (m n : Rows) (ds : List Dot) → ((q : Dot) → get dot_cmp n q ≡ cond (list_any (same_dot q) ds) None (get dot_cmp m q)) → rows_of n.entries ≡ without_rows (rows_of m.entries) ds
rows_left m n ds step = map.same_map dot_total dot_antisymmetric (rows_of n.entries) (without_rows (rows_of m.entries) ds) (λ q.
    seen_row n q ∙ step q ∙ ap (cond (list_any (same_dot q) ds) None) (sym (seen_row m q)) ∙ sym (without_rows_at (rows_of m.entries) ds q))
