-- Rows of any kind at their places.
use Rattle.std.proofs.Common.{◌≡◌, ℕ, ◌+◌, cond, List, [], ◌∷◌, drop, Option, Some, None, refl, sym, ◌∙◌, ap}
use Rattle.std.specs.BTreeMap.{get}
use Rattle.presence_base.specs.declared.dots.Dot.{Dot}
use Rattle.presence_base.specs.declared.dots.Replica.{Replica}
use Rattle.presence_base.specs.declared.row.Row.{Row}
use Rattle.presence_journal.specs.declared.rows.Place.{Place}
use Rattle.tracker_shown.specs.declared.stand.Stand.{Stand}
use Rattle.tracker_shown.specs.declared.stand.Holder.TheVariants.{Room}
use Rattle.tracker_shown.specs.declared.placed.Placed.{Placed}
use Rattle.tracker_shown.specs.Stands.{stand_cmp, stand, stand_of}
use Rattle.tracker_shown.specs.Kept.{Kept, IsPut}
use Rattle.tracker_shown.specs.ShownTurns.{set_all}
use Rattle.tracker_shown.specs.Placing.{place_all, PlacesAll, IsOfRows}
use Rattle.tracker_shown.proofs.TurnLemmas.{placed_from}
use Rattle.tracker_shown.proofs.StandLemmas.{same_parts}

-- what is kept once the first i rows are put in, and what is left to put in
abbrev pub PlacedTo : List (Dot × Row) → ℕ → Kept → Kept → Type 0
PlacedTo xs i m n = (q : Stand) → place_all (drop i xs) q (get stand_cmp n q) ≡ place_all xs q (get stand_cmp m q)

pub place_more : (xs : List (Dot × Row)) (i : ℕ) (x : Dot × Row) (m k n : Kept) → drop i xs ≡ x ∷ drop (i + 1) xs → IsPut k n (stand_of Room x.0 x.1) (Some x.1) → PlacedTo xs i m k → PlacedTo xs (i + 1) m n
place_more xs i x m k n e put told q =
    ap (place_all (drop (i + 1) xs) q) (put q)
    ∙ (ap (λ ys. place_all ys q (get stand_cmp k q)) (sym e) ∙ told q)

pub place_end : (xs : List (Dot × Row)) (i : ℕ) (m n : Kept) → drop i xs ≡ [] → PlacedTo xs i m n → PlacesAll xs m n
place_end xs i m n e told q = ap (λ ys. place_all ys q (get stand_cmp n q)) (sym e) ∙ told q

-- a row put to its place is one set for the room
place_is : (o : Replica) (xs : List (Dot × Row)) (t : List ℕ) (p : Place) (now : Option Row) → place_all xs (stand Room t p) now ≡ set_all (λ r. Some r) o xs Room t p now
place_is o [] t p now = refl
place_is o (x ∷ xs) t p now =
    ap (λ b. place_all xs (stand Room t p) (cond b (Some x.1) now)) (same_parts Room Room x.1.topic t (record { key = x.1.key; dot = x.0 }) p)
    ∙ place_is o xs t p _

pub rows_placed : (xs : List (Dot × Row)) (m : Kept) (x : Placed) → ((q : Stand) → get stand_cmp m q ≡ None) → PlacesAll xs m x.rows → IsOfRows xs x
rows_placed xs m x nothing places f is t p =
    places (stand Room t p)
    ∙ (ap (place_all xs (stand Room t p)) (nothing (stand Room t p))
    ∙ (place_is p.dot.replica xs t p None ∙ placed_from p.dot.replica f xs is t p))
