-- The difference of a topic, by the rows of a turn.
use Rattle.std.proofs.Common.{◌≡◌, ℕ, Bool, true, false, cond, ◌||◌, List, [], ◌∷◌, Option, Some, None, is_some, refl, sym, ◌∙◌, ap}
use Rattle.std.specs.Prelude.{map as each}
use Rattle.std.specs.List.{IsDistinct}
use Rattle.std.specs.Map.{lookup, keys_of}
use Rattle.std.proofs.lemmas.Option.{same_Some}
use Rattle.presence_base.specs.declared.dots.Dot.{Dot}
use Rattle.presence_base.specs.declared.row.Row.{Row}
use Rattle.presence_base.specs.Order.{same_text, same_dot}
use Rattle.presence_journal.specs.declared.rows.Place.{Place}
use Rattle.presence_journal.specs.declared.entry.Entry.{Entry}
use Rattle.presence_journal.specs.History.{History, Then, shown}
use Rattle.presence_journal.specs.Present.{RowMap, of_topic, in_order}
use Rattle.presence_journal.specs.Queue.{diff_item, diff_of}
use Rattle.presence_journal.specs.Walk.{IsTableOf}
use Rattle.presence_journal.proofs.Diffs.{diff_is}
use Rattle.presence_journal.proofs.Lookups.{table_of_placed}
use Rattle.presence_journal.proofs.PresentLemmas.{shown-row, row-stays}
use Rattle.tracker_shown.specs.declared.turn.Turn.{Turn}
use Rattle.tracker_shown.specs.Turns.{came, joins_at, leaves_at, IsTurn}
use Rattle.tracker_shown.specs.Placing.{ListsPlaced}
use Rattle.tracker_feeds.specs.declared.diffs.Changes.{Changes}
use Rattle.tracker_feeds.specs.Making.{IsDiffOf, has_topic}

-- a dot has one row, whenever it is shown
same_row : (h : History) (e : Entry) (d : Dot) (r s : Row) → shown h d ≡ Some r → shown (Then h e) d ≡ Some s → r ≡ s
same_row h e d r s f g = same_Some r s (sym (row-stays h e d r (shown-row h d r f).0) ∙ (shown-row (Then h e) d s g).0)

-- what came of a topic's rows, where a row that stays is the same
came_on : (t : List ℕ) (a b : Option Row) → ((r s : Row) → a ≡ Some r → b ≡ Some s → r ≡ s) → of_topic t (came a b) ≡ cond (is_some (of_topic t a)) None (of_topic t b)
came_on t None b same = refl
came_on t (Some r) None same = go (is_some (of_topic t (Some r)))
  where
    go : (c : Bool) → None ≡ cond {A = Option Row} c None None
    go true = refl
    go false = refl
came_on t (Some r) (Some s) same = go (same_text r.topic t) ∙ ap (λ (x : Row). cond (is_some (cond (same_text r.topic t) (Some r) None)) None (of_topic t (Some x))) (same r s refl refl)
  where
    go : (c : Bool) → None ≡ cond (is_some (cond c (Some r) None)) None (cond c (Some r) None)
    go true = refl
    go false = refl

-- the lists of two tables by place are the difference
pub diff_placed : (c : Changes) (t : List ℕ) (js ls : List (Dot × Row)) → ListsPlaced c.joins t js → ListsPlaced c.leaves t ls → IsDiffOf c t (record { joins = js; leaves = ls })
diff_placed c t js ls joins leaves h e is =
    diff_is h e t js ls (λ d. of_topic t (joins_at h e d)) (λ d. of_topic t (leaves_at h e d))
    (λ d. came_on t (shown h d) (shown (Then h e) d) (same_row h e d))
    (λ d. came_on t (shown (Then h e) d) (shown h d) (λ r s f g. sym (same_row h e d s r g f)))
    (λ m table. joins (joins_at h e) m is.joins table)
    (λ m table. leaves (leaves_at h e) m is.leaves table)

-- no row of the topic is found where the list has none
none_found : (t : List ℕ) (d : Dot) (xs : List (Dot × Row)) → has_topic xs t ≡ false → of_topic t (lookup (same_dot d) xs) ≡ None
none_found t d [] e = refl
none_found t d (x ∷ xs) e = go (same_dot d x.0) (same_text x.1.topic t) refl e (none_found t d xs)
  where
    go : (a b : Bool) → same_text x.1.topic t ≡ b → (b || has_topic xs t) ≡ false → (has_topic xs t ≡ false → of_topic t (lookup (same_dot d) xs) ≡ None) → of_topic t (cond a (Some x.1) (lookup (same_dot d) xs)) ≡ None
    go a true f g ih = absurd (cc)
    go true false f g ih = ap (λ b. cond b (Some x.1) None) f
    go false false f g ih = ih g

none_twice : IsDistinct same_dot (keys_of {K = Dot} {X = Row} [])
unfolding IsDistinct
none_twice = tt

-- an empty table has no rows
nothing : (m : RowMap) → IsTableOf (λ d. None) m → [] ≡ in_order m
unfolding in_order
nothing m table = ap (each (λ (e : Place × Row). (e.0.dot, e.1))) (table_of_placed [] m none_twice table)

-- a topic that has no row of the turn is left as it was
pub quiet_topic : (h : History) (e : Entry) (x : Turn) (t : List ℕ) → IsTurn h e x → has_topic x.joins.items t ≡ false → has_topic x.leaves.items t ≡ false → diff_item (diff_of h e t) ≡ []
quiet_topic h e x t is no_join no_leave =
    ap diff_item (sym (diff_is h e t [] [] (λ d. None) (λ d. None)
    (λ d. sym (none_found t d x.joins.items no_join) ∙ (ap (of_topic t) (is.joins.found d) ∙ came_on t (shown h d) (shown (Then h e) d) (same_row h e d)))
    (λ d. sym (none_found t d x.leaves.items no_leave) ∙ (ap (of_topic t) (is.leaves.found d) ∙ came_on t (shown (Then h e) d) (shown h d) (λ r s f g. sym (same_row h e d s r g f))))
    nothing nothing))
