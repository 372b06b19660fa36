-- What a told value takes out, range by range and extra by extra.
use Rattle.std.proofs.Common.{◌≡◌, ℕ, ◌+◌, ◌<◌, ◌≤◌, Bool, true, false, cond, not, ◌&&◌, ◌||◌, List, length, drop, get_or, None, is_some, refl, sym, ◌∙◌, ap, drop_of_length-le}
use Rattle.std.specs.List.{list_any}
use Rattle.std.specs.BTreeSet.{BTreeSet, contains}
use Rattle.std.specs.FinMap as map
use Rattle.std.proofs.lemmas.Bool.{and_parts}
use Rattle.presence_base.specs.declared.dots.Dot.{Dot}
use Rattle.presence_base.specs.declared.row.Row.{Row}
use Rattle.presence_base.specs.Order.{dot_cmp, same_dot, same_replica}
use Rattle.orswot_core.specs.Telling.{Range, ToldValue, range_has, lies_in, is_among, covers, live_row}
use Rattle.orswot_core.specs.Checks.{dots_of}
use Rattle.orswot_core.proofs.OrderFacts.{dots_equal, flipped}
use Rattle.std.specs.BTreeMap.{get}
use Rattle.orswot_core.specs.Sets.{LiveRows, Rows, first_row}
use Rattle.presence_journal.proofs.Same.{same_replica-true}
use Rattle.presence_journal.proofs.Walking.{drop_next}
use Rattle.tracker_known.specs.declared.others.Others.{Others}
use Rattle.tracker_known.specs.Picks.{Gathers, shows_told, is_out, out_of, out_ranges, out_extras}
use Rattle.tracker_known.proofs.GatherLemmas.{gathers_like, gathers_none, compose}

-- the dots that are told live

pub dots_before : (c b : Bool) → c ≡ false → (c || b) ≡ b
dots_before c b none = ap (λ x. x || b) none

pub dots_after : (xs : List (Dot × Row)) (i : ℕ) (x : Dot × Row) (q : Dot) (b c : Bool) → i < length xs → x ≡ get_or xs i x → c ≡ cond (same_dot x.0 q) true b → (c || list_any (same_dot q) (dots_of (drop (i + 1) xs))) ≡ (b || list_any (same_dot q) (dots_of (drop i xs)))
dots_after xs i x q b c less is put =
    ap (λ y. y || list_any (same_dot q) (dots_of (drop (i + 1) xs))) (put ∙ ap (λ y. cond y true b) (flipped x.0 q))
    ∙ (go (same_dot q x.0) b (list_any (same_dot q) (dots_of (drop (i + 1) xs)))
    ∙ ap (λ l. b || list_any (same_dot q) (dots_of l)) (sym (drop_next xs i x less is)))
  where
    go : (s y r : Bool) → (cond s true y || r) ≡ (y || (s || r))
    go true true r = refl
    go true false r = refl
    go false y r = refl

pub dots_at_end : (xs : List (Dot × Row)) (i : ℕ) (q : Dot) (b : Bool) → length xs ≤ i → b ≡ (b || list_any (same_dot q) (dots_of (drop i xs)))
dots_at_end xs i q b done = sym (go b) ∙ ap (λ l. b || list_any (same_dot q) (dots_of l)) (sym (drop_of_length-le xs done))
  where
    go : (x : Bool) → (x || false) ≡ x
    go true = refl
    go false = refl

-- of one range

in_range-replica : (g : Range) (q : Dot) → range_has q g ≡ true → same_replica q.replica g.0 ≡ true
in_range-replica g q has = (and_parts (same_replica q.replica g.0) _ has).0

never : (b : Bool) → (b && false) ≡ false
never true = refl
never false = refl

-- a dot that is out, or not
pub dot_out : (source : LiveRows) (out : Dot → Bool) (d : Dot) (m n : Rows) → out d ≡ true → Gathers source (λ q. same_dot q d) m n → Gathers source (λ q. same_dot q d && out q) m n
dot_out source out d m n is gathers = gathers_like source (λ q. same_dot q d) (λ q. same_dot q d && out q) m n (λ q. go q (same_dot q d) refl) gathers
  where
    go : (q : Dot) (b : Bool) → same_dot q d ≡ b → b ≡ (b && out q)
    go q true e = sym (ap out (dots_equal q d e) ∙ is)
    go q false e = refl

pub dot_in : (source : LiveRows) (out : Dot → Bool) (d : Dot) (m : Rows) → out d ≡ false → Gathers source (λ q. same_dot q d && out q) m m
dot_in source out d m is = gathers_none source (λ q. same_dot q d && out q) m (λ q. go q (same_dot q d) refl)
  where
    go : (q : Dot) (b : Bool) → same_dot q d ≡ b → (b && out q) ≡ false
    go q true e = ap out (dots_equal q d e) ∙ is
    go q false e = refl

-- the rows of the range's replica are shown, or not

shown_range : (o : Others) (g : Range) (b : Bool) → shows_told o g.0 ≡ b → (q : Dot) → range_has q g ≡ true → shows_told o q.replica ≡ b
shown_range o g b shows q has = ap (shows_told o) (same_replica-true q.replica g.0 (in_range-replica g q has)) ∙ shows

pub range_shown : (source : LiveRows) (o : Others) (told : BTreeSet Dot) (g : Range) (m n : Rows) → shows_told o g.0 ≡ true → Gathers source (out_of told g) m n → Gathers source (λ q. shows_told o q.replica && out_of told g q) m n
range_shown source o told g m n shows gathers = gathers_like source (out_of told g) (λ q. shows_told o q.replica && out_of told g q) m n (λ q. go q (range_has q g) refl) gathers
  where
    go : (q : Dot) (b : Bool) → range_has q g ≡ b → (b && not (contains dot_cmp told q)) ≡ (shows_told o q.replica && (b && not (contains dot_cmp told q)))
    go q true e = ap (λ b. b && not (contains dot_cmp told q)) (sym (shown_range o g true shows q e))
    go q false e = sym (never (shows_told o q.replica))

pub range_hidden : (source : LiveRows) (o : Others) (told : BTreeSet Dot) (g : Range) (m : Rows) → shows_told o g.0 ≡ false → Gathers source (λ q. shows_told o q.replica && out_of told g q) m m
range_hidden source o told g m hidden = gathers_none source (λ q. shows_told o q.replica && out_of told g q) m (λ q. go q (range_has q g) refl)
  where
    go : (q : Dot) (b : Bool) → range_has q g ≡ b → (shows_told o q.replica && (b && not (contains dot_cmp told q))) ≡ false
    go q true e = ap (λ b. b && not (contains dot_cmp told q)) (shown_range o g false hidden q e)
    go q false e = never (shows_told o q.replica)

-- one extra

pub extra_out : (source : LiveRows) (o : Others) (told : BTreeSet Dot) (d : Dot) (m n : Rows) → (shows_told o d.replica && not (contains dot_cmp told d)) ≡ true → Gathers source (λ q. same_dot q d) m n → Gathers source (λ q. shows_told o q.replica && (same_dot q d && not (contains dot_cmp told q))) m n
extra_out source o told d m n is gathers = gathers_like source (λ q. same_dot q d) (λ q. shows_told o q.replica && (same_dot q d && not (contains dot_cmp told q))) m n (λ q. go q (same_dot q d) refl) gathers
  where
    go : (q : Dot) (b : Bool) → same_dot q d ≡ b → b ≡ (shows_told o q.replica && (b && not (contains dot_cmp told q)))
    go q true e = sym (ap (λ (x : Dot). shows_told o x.replica && not (contains dot_cmp told x)) (dots_equal q d e) ∙ is)
    go q false e = sym (never (shows_told o q.replica))

pub extra_in : (source : LiveRows) (o : Others) (told : BTreeSet Dot) (d : Dot) (m : Rows) → (shows_told o d.replica && not (contains dot_cmp told d)) ≡ false → Gathers source (λ q. shows_told o q.replica && (same_dot q d && not (contains dot_cmp told q))) m m
extra_in source o told d m is = gathers_none source (λ q. shows_told o q.replica && (same_dot q d && not (contains dot_cmp told q))) m (λ q. go q (same_dot q d) refl)
  where
    go : (q : Dot) (b : Bool) → same_dot q d ≡ b → (shows_told o q.replica && (b && not (contains dot_cmp told q))) ≡ false
    go q true e = ap (λ (x : Dot). shows_told o x.replica && not (contains dot_cmp told x)) (dots_equal q d e) ∙ is
    go q false e = never (shows_told o q.replica)

-- one of several, and the rest
one_and_rest : (s a b n : Bool) → (s && ((a || b) && n)) ≡ ((s && (a && n)) || (s && (b && n)))
one_and_rest false a b n = refl
one_and_rest true true b true = refl
one_and_rest true true true false = refl
one_and_rest true true false false = refl
one_and_rest true false b n = refl

pub ranges_split : (o : Others) (told : BTreeSet Dot) (gs : List Range) (i : ℕ) (g : Range) → i < length gs → g ≡ get_or gs i g → (q : Dot) → out_ranges o told (drop i gs) q ≡ ((shows_told o q.replica && out_of told g q) || out_ranges o told (drop (i + 1) gs) q)
ranges_split o told gs i g less is q = ap (λ l. out_ranges o told l q) (drop_next gs i g less is) ∙ one_and_rest (shows_told o q.replica) (range_has q g) (lies_in (drop (i + 1) gs) q) (not (contains dot_cmp told q))

pub ranges_done : (o : Others) (told : BTreeSet Dot) (gs : List Range) (i : ℕ) → length gs ≤ i → (q : Dot) → out_ranges o told (drop i gs) q ≡ false
ranges_done o told gs i done q = ap (λ l. out_ranges o told l q) (drop_of_length-le gs done) ∙ never (shows_told o q.replica)

pub extras_split : (o : Others) (told : BTreeSet Dot) (ds : List Dot) (i : ℕ) (d : Dot) → i < length ds → d ≡ get_or ds i d → (q : Dot) → out_extras o told (drop i ds) q ≡ ((shows_told o q.replica && (same_dot q d && not (contains dot_cmp told q))) || out_extras o told (drop (i + 1) ds) q)
extras_split o told ds i d less is q = ap (λ l. out_extras o told l q) (drop_next ds i d less is) ∙ one_and_rest (shows_told o q.replica) (same_dot q d) (is_among (drop (i + 1) ds) q) (not (contains dot_cmp told q))

pub extras_done : (o : Others) (told : BTreeSet Dot) (ds : List Dot) (i : ℕ) → length ds ≤ i → (q : Dot) → out_extras o told (drop i ds) q ≡ false
extras_done o told ds i done q = ap (λ l. out_extras o told l q) (drop_of_length-le ds done) ∙ never (shows_told o q.replica)

-- of both

pub both_out : (source : LiveRows) (o : Others) (t : ToldValue) (live : BTreeSet Dot) (k m n : Rows) → ((q : Dot) → contains dot_cmp live q ≡ is_some (live_row t q)) → Gathers source (out_ranges o live t.ranges) k m → Gathers source (out_extras o live t.extras) m n → Gathers source (is_out o t) k n
both_out source o t live k m n told first second q =
    second q
    ∙ (ap (λ x. first_row (cond (out_extras o live t.extras q) (map.get source q) None) x) (first q)
    ∙ (compose (get dot_cmp k q) (map.get source q) (out_ranges o live t.ranges q) (out_extras o live t.extras q)
    ∙ ap (λ b. first_row (cond b (map.get source q) None) (get dot_cmp k q)) (sym (one_and_rest (shows_told o q.replica) (lies_in t.ranges q) (is_among t.extras q) (not (contains dot_cmp live q))) ∙ ap (λ b. shows_told o q.replica && (covers t q && not b)) (told q))))
