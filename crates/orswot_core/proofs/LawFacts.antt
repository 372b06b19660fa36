-- The laws of joins: dot by dot, by cases on what each side has, and then for whole sets.
use Rattle.std.proofs.Common.{◌≡◌, Bool, true, false, is_none, ◌&&◌, ◌||◌, List, [], ◌∷◌, Option, Some, None, is_some, refl, sym, ◌∙◌, ap, subst, cond, true≢false}
use Rattle.std.specs.FinSet as set
use Rattle.std.specs.FinMap as map
use Rattle.presence_base.specs.declared.dots.Dot.{Dot}
use Rattle.presence_base.specs.declared.row.Row.{Row}
use Rattle.orswot_core.specs.Telling.{ToldValue, covers, live_row}
use Rattle.orswot_core.specs.Sets.{DotRows, joined_row}
use Rattle.orswot_core.specs.Laws.{RemovalsAreHeard, TakesInAll, Knows, Idempotent, Commutative, Associative, RemovedStays, Learns, JoinsKeepKnown, StepsKeepKnown, KnownChangesNothing, OldChangesNothing}
use Rattle.std.specs.List.{list_any}
use Rattle.presence_base.specs.Order.{dot_cmp, same_dot}
use Rattle.orswot_core.proofs.OrderFacts.{dot_total, dot_antisymmetric, dots_equal}
use Rattle.orswot_core.proofs.RowFacts.{same_rows}
use Rattle.orswot_core.proofs.SoundFacts.{only_covered, told_sound, without_rows_at}

-- two sets that have the same at each dot are the same
pub same_at : (x y : DotRows) → ((d : Dot) → (set.contains x.covered d ≡ set.contains y.covered d) × (map.get x.live d ≡ map.get y.live d)) → x ≡ y
same_at x y h = same_rows x y
    (set.same_set dot_total dot_antisymmetric x.covered y.covered (λ d. (h d).0))
    (map.same_map dot_total dot_antisymmetric x.live y.live (λ d. (h d).1))

or_self : (b : Bool) → (b || b) ≡ b
or_self true = refl
or_self false = refl

or_turned : (a b : Bool) → (a || b) ≡ (b || a)
or_turned true true = refl
or_turned true false = refl
or_turned false true = refl
or_turned false false = refl

or_groups : (a b c : Bool) → ((a || b) || c) ≡ (a || (b || c))
or_groups true b c = refl
or_groups false b c = refl

row_self : (o : Option Row) (b : Bool) → joined_row o b o b ≡ o
row_self None b = refl
row_self (Some r) b = refl

row_turned : (o o' : Option Row) (b b' : Bool) → ((r r' : Row) → o ≡ Some r → o' ≡ Some r' → r ≡ r') → joined_row o b o' b' ≡ joined_row o' b' o b
row_turned None None b b' h = refl
row_turned None (Some r') b b' h = refl
row_turned (Some r) None b b' h = refl
row_turned (Some r) (Some r') b b' h = ap (λ x. Some x) (h r r' refl refl)

row_groups : (o o' o'' : Option Row) (b b' b'' : Bool) → (is_some o ≡ true → b ≡ true) → (is_some o' ≡ true → b' ≡ true) → (is_some o'' ≡ true → b'' ≡ true)
    → joined_row (joined_row o b o' b') (b || b') o'' b'' ≡ joined_row o b (joined_row o' b' o'' b'') (b' || b'')
row_groups None None None b b' b'' h h' h'' = refl
row_groups None None (Some r) true true b'' h h' h'' = refl
row_groups None None (Some r) true false b'' h h' h'' = refl
row_groups None None (Some r) false true b'' h h' h'' = refl
row_groups None None (Some r) false false b'' h h' h'' = refl
row_groups None (Some r) None true b' true h h' h'' = refl
row_groups None (Some r) None true b' false h h' h'' = refl
row_groups None (Some r) None false b' true h h' h'' = refl
row_groups None (Some r) None false b' false h h' h'' = refl
row_groups None (Some r) (Some r') true b' b'' h h' h'' = refl
row_groups None (Some r) (Some r') false b' b'' h h' h'' = refl
row_groups (Some r) None None b true true h h' h'' = refl
row_groups (Some r) None None b true false h h' h'' = refl
row_groups (Some r) None None b false true h h' h'' = refl
row_groups (Some r) None None b false false h h' h'' = refl
row_groups (Some r) None (Some r') true true b'' h h' h'' = refl
row_groups (Some r) None (Some r') false true b'' h h' h'' = refl
row_groups (Some r) None (Some r') b false b'' h h' h'' = refl
row_groups (Some r) (Some r') None b true true h h' h'' = refl
row_groups (Some r) (Some r') None b false true h h' h'' = refl
row_groups (Some r) (Some r') None b b' false h h' h'' = refl
row_groups (Some r) (Some r') (Some r'') b b' b'' h h' h'' = refl

row_stays : (o' : Option Row) (b' : Bool) → joined_row None true o' b' ≡ None
row_stays None b' = refl
row_stays (Some r) b' = refl

pub idempotent : Idempotent
idempotent s x h = same_at x s (λ d. ((h d).0 ∙ or_self (set.contains s.covered d), (h d).1 ∙ row_self (map.get s.live d) (set.contains s.covered d)))

pub commutative : Commutative
commutative a b x y agree h h' = same_at x y (λ d. (
  (h d).0 ∙ or_turned (set.contains a.covered d) (set.contains b.covered d) ∙ sym ((h' d).0),
  (h d).1 ∙ row_turned (map.get a.live d) (map.get b.live d) (set.contains a.covered d) (set.contains b.covered d) (agree d) ∙ sym ((h' d).1),
))

pub associative : Associative
associative a b c ab bc x y ha hb hc hab hx hbc hy = same_at x y (λ d. (
  (hx d).0 ∙ ap (λ v. v || set.contains c.covered d) ((hab d).0) ∙ or_groups (set.contains a.covered d) (set.contains b.covered d) (set.contains c.covered d)
      ∙ ap (λ v. set.contains a.covered d || v) (sym ((hbc d).0)) ∙ sym ((hy d).0),
  (hx d).1
      ∙ ap (λ v. joined_row v (set.contains ab.covered d) (map.get c.live d) (set.contains c.covered d)) ((hab d).1)
      ∙ ap (λ v. joined_row (joined_row (map.get a.live d) (set.contains a.covered d) (map.get b.live d) (set.contains b.covered d)) v (map.get c.live d) (set.contains c.covered d)) ((hab d).0)
      ∙ row_groups (map.get a.live d) (map.get b.live d) (map.get c.live d) (set.contains a.covered d) (set.contains b.covered d) (set.contains c.covered d)
      (only_covered d (set.contains a.covered d) (map.get a.live d) (ha d)) (only_covered d (set.contains b.covered d) (map.get b.live d) (hb d)) (only_covered d (set.contains c.covered d) (map.get c.live d) (hc d))
      ∙ ap (λ v. joined_row (map.get a.live d) (set.contains a.covered d) v (set.contains b.covered d || set.contains c.covered d)) (sym ((hbc d).1))
      ∙ ap (λ v. joined_row (map.get a.live d) (set.contains a.covered d) (map.get bc.live d) v) (sym ((hbc d).0))
      ∙ sym ((hy d).1),
))

-- a dot that is covered and has no row gets none
stays_removed : (c : Bool) (o o' : Option Row) (b' : Bool) → c ≡ true → o ≡ None → joined_row o c o' b' ≡ None
stays_removed c o o' b' covered none = ap (λ v. joined_row v c o' b') none ∙ ap (λ v. joined_row None v o' b') covered ∙ row_stays o' b'

pub removed_stays : RemovedStays
removed_stays s x has row d covered none h = (
  (h d).0 ∙ ap (λ v. v || has d) covered,
  (h d).1 ∙ stays_removed (set.contains s.covered d) (map.get s.live d) (row d) (has d) covered none,
)

or_last : (a : Bool) → (a || true) ≡ true
or_last true = refl
or_last false = refl

pub learns : Learns
learns s x t h d has = (
  (h d).0 ∙ ap (λ b. set.contains s.covered d || b) has ∙ or_last (set.contains s.covered d),
  λ none.
      (h d).1 ∙ ap (λ o. joined_row (map.get s.live d) (set.contains s.covered d) o (covers t d)) none
      ∙ ap (joined_row (map.get s.live d) (set.contains s.covered d) None) has
      ∙ taken_out (map.get s.live d) (set.contains s.covered d),
)
  where
    taken_out : (o : Option Row) (c : Bool) → joined_row o c None true ≡ None
    taken_out None c = refl
    taken_out (Some r) c = refl

told_both : (c : Bool) (o : Option Row) → (c && is_none o) ≡ true → (c ≡ true) × (o ≡ None)
told_both true None h = (refl, refl)
told_both true (Some r) h = absurd (cc)
told_both false o h = absurd (cc)

pub removals_heard : RemovalsAreHeard
removals_heard s x t d told h =
    let both = told_both (covers t d) (live_row t d) told in
    let known = learns s x t h d both.0 in
    (known.0, known.1 both.1)

pub joins_keep : JoinsKeepKnown
joins_keep s x t has row known h d told =
    let here = known d told in (
      (h d).0 ∙ ap (λ b. b || has d) here.0,
      λ none. (h d).1 ∙ stays_removed (set.contains s.covered d) (map.get s.live d) (row d) (has d) here.0 (here.1 none),
    )

pub steps_keep : StepsKeepKnown
steps_keep s t known = (
  λ d r new q told.
      let here = known q told in
      let other : same_dot q d ≡ false = differs q d here.0 new in (
        set.contains-insert dot_total s.covered d q ∙ ap (λ b. same_dot q d || b) here.0 ∙ or_last (same_dot q d),
        λ none. map.get-insert dot_total s.live d r q ∙ ap (λ b. cond b (Some r) (map.get s.live q)) other ∙ here.1 none,
      ),
  λ ds event q told.
      let here = known q told in (
        set.contains-insert dot_total (set.union s.covered (set.from_list ds)) event q
            ∙ ap (λ b. same_dot q event || b) (set.contains-union dot_total s.covered (set.from_list ds) q ∙ ap (λ b. b || set.contains (set.from_list {R = dot_cmp} ds) q) here.0)
            ∙ or_last (same_dot q event),
        λ none. without_rows_at s.live ds q ∙ none_either (list_any (same_dot q) ds) (map.get s.live q) (here.1 none),
      ),
)
  where
    differs : (q d : Dot) → set.contains s.covered q ≡ true → set.contains s.covered d ≡ false → same_dot q d ≡ false
    differs q d has new = apart (same_dot q d) (λ same. true≢false (sym has ∙ ap (set.contains s.covered) (dots_equal q d same) ∙ new))
      where
        apart : (b : Bool) → (b ≡ true → ⊥) → b ≡ false
        apart true f = absurd (f refl)
        apart false f = refl

    none_either : (b : Bool) (o : Option Row) → o ≡ None → cond b None o ≡ None
    none_either true o e = refl
    none_either false o e = e

-- at one dot: what is known there changes nothing
nothing_new : (o r : Option Row) (c t : Bool) → (t ≡ true → c ≡ true) → (t ≡ true → r ≡ None → o ≡ None) → (is_some r ≡ true → t ≡ true) → joined_row o c r t ≡ o
nothing_new (Some x) (Some y) c t f g h = refl
nothing_new (Some x) None c true f g h = sym (g refl refl)
nothing_new (Some x) None c false f g h = refl
nothing_new None (Some y) c true f g h = ap (λ b. cond b None (Some y)) (f refl)
nothing_new None (Some y) c false f g h = absurd (true≢false (sym (h refl)))
nothing_new None None c t f g h = refl

covered_before : (c t : Bool) → (t ≡ true → c ≡ true) → (c || t) ≡ c
covered_before true t f = refl
covered_before false true f = sym (f refl)
covered_before false false f = refl

pub known_changes_nothing : KnownChangesNothing
known_changes_nothing s x t told known h = same_at x s (λ d. (
  (h d).0 ∙ covered_before (set.contains s.covered d) (covers t d) (λ has. (known d has).0),
  (h d).1 ∙ nothing_new (map.get s.live d) (live_row t d) (set.contains s.covered d) (covers t d) (λ has. (known d has).0) (λ has. (known d has).1)
      (only_covered d (covers t d) (live_row t d) (told_sound t told d)),
))

all_keep : (x y : DotRows) (t : ToldValue) (others : List ToldValue) → Knows x t → TakesInAll x others y → Knows y t
all_keep x y t [] known h = subst (λ s. Knows s t) (sym h) known
all_keep x y t (u ∷ us) known h = all_keep h.0 y t us (joins_keep x h.0 t (covers u) (live_row u) known h.1) h.2

pub old_changes_nothing : OldChangesNothing
old_changes_nothing s x y z old others told hx hy hz = known_changes_nothing y z old told (all_keep x y old others (learns s x old hx) hy) hz
