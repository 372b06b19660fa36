-- What is kept of the rows that are shown, and what lies between a history and the next one.
use Rattle.std.specs.Prelude.{◌≡◌, ℕ, Bool, true, cond, ◌&&◌, nat_eq, List, Option, Some, None, ◌⊎◌}
use Rattle.std.specs.BTreeMap.{BTreeMap, get}
use Rattle.std.specs.FinMap as map
use Rattle.presence_base.specs.declared.dots.Replica.{Replica}
use Rattle.presence_base.specs.declared.dots.Dot.{Dot}
use Rattle.presence_base.specs.declared.row.Row.{Row}
use Rattle.presence_base.specs.Order.{same_text, same_replica, same_dot}
use Rattle.presence_journal.specs.declared.rows.Place.{Place}
use Rattle.presence_journal.specs.declared.entry.Entry.{Entry}
use Rattle.presence_journal.specs.History.{History, Then, own}
use Rattle.presence_journal.specs.Present.{present}
use Rattle.tracker_shown.specs.declared.stand.Holder.{Holder}
use Rattle.tracker_shown.specs.declared.stand.Holder.TheVariants.{Room, Session}
use Rattle.tracker_shown.specs.declared.stand.Stand.{Stand}
use Rattle.tracker_shown.specs.declared.shown.Shown.{Shown}
use Rattle.tracker_shown.specs.Stands.{stand_cmp, same_stand, stand}

abbrev pub Kept : Type 0
Kept = BTreeMap Stand Row

-- the row that is kept for a holder on a topic, at a place
abbrev pub kept_at : Kept → Holder → List ℕ → Place → Option Row
kept_at m w t p = get stand_cmp m (stand w t p)

abbrev pub IsNothing : Kept → Type 0
IsNothing m = (w : Holder) (t : List ℕ) (p : Place) → kept_at m w t p ≡ None

-- a row is kept for all that see its topic, and an own row for its session
abbrev pub is_for : Replica → Holder → Dot → Row → Bool
is_for o Room d r = true
is_for o (Session pid) d r = same_replica d.replica o && nat_eq r.pid pid

-- what a holder has of a row under a dot
abbrev pub held_by : Replica → Holder → Dot → Option Row → Option Row
held_by o w d None = None
held_by o w d (Some r) = cond (is_for o w d r) (Some r) None

-- what a holder has at a place of a topic
abbrev pub held : History → Holder → List ℕ → Place → Option Row
held g w t p = held_by (own g) w p.dot (map.get (present g t) p)

-- the present rows are kept, and the own ones for their sessions
pub record IsShownOf (g : History) (x : Shown) : Type 0 where
  pub own : x.own ≡ own g
  pub rows : (w : Holder) (t : List ℕ) (p : Place) → kept_at x.rows w t p ≡ held g w t p

-- what f says of a history whose rows are kept
abbrev pub IsAsShown : {A : Type 0} → Shown → (History → A) → A → Type 0
IsAsShown x f a = (g : History) → IsShownOf g x → a ≡ f g

abbrev pub IsEither : Option Row → Option Row → Option Row → Type 0
IsEither x a b = (x ≡ a) ⊎ (x ≡ b)

-- the present row at a place
abbrev pub present_at : History → List ℕ → List ℕ → Dot → Option Row
present_at g t k d = map.get (present g t) (record { key = k; dot = d })

-- each place is as before an entry or as after it
abbrev pub AreBetween : History → Entry → Kept → Type 0
AreBetween g e m =
    (w : Holder) (t : List ℕ) (p : Place)
    → IsEither (kept_at m w t p) (held g w t p) (held (Then g e) w t p)

pub record IsBetween (g : History) (e : Entry) (x : Shown) : Type 0 where
  pub own : x.own ≡ own g
  pub rows : AreBetween g e x.rows

-- each place is as after the entry, under the own replica before it
pub record IsBrought (g : History) (e : Entry) (x : Shown) : Type 0 where
  pub own : x.own ≡ own g
  pub rows : (w : Holder) (t : List ℕ) (p : Place) → kept_at x.rows w t p ≡ held (Then g e) w t p

-- with one stand changed
abbrev pub IsPut : Kept → Kept → Stand → Option Row → Type 0
IsPut m n s v = (q : Stand) → get stand_cmp n q ≡ cond (same_stand s q) v (get stand_cmp m q)

abbrev pub IsSame : Kept → Kept → Type 0
IsSame m n = (q : Stand) → get stand_cmp n q ≡ get stand_cmp m q

-- a row under a dot belongs there
abbrev pub belongs : Replica → Dot → Row → Holder → List ℕ → Place → Bool
belongs o d r w t p = is_for o w d r && (same_text r.topic t && (same_text r.key p.key && same_dot d p.dot))

-- v wherever the row belongs, and all else as it was
abbrev pub IsSet : Replica → Dot → Row → Option Row → Kept → Kept → Type 0
IsSet o d r v m n =
    (w : Holder) (t : List ℕ) (p : Place)
    → kept_at n w t p ≡ cond (belongs o d r w t p) v (kept_at m w t p)

-- the same, or here and there as it was
abbrev pub IsPartlySet : Replica → Dot → Row → Option Row → Kept → Kept → Type 0
IsPartlySet o d r v m n =
    (w : Holder) (t : List ℕ) (p : Place)
    → IsEither (kept_at n w t p) (kept_at m w t p) (cond (belongs o d r w t p) v (kept_at m w t p))

-- the same of all that is shown
abbrev pub IsSetIn : Dot → Row → Option Row → Shown → Shown → Type 0
IsSetIn d r v x y = IsSet x.own d r v x.rows y.rows

abbrev pub IsPartlySetIn : Dot → Row → Option Row → Shown → Shown → Type 0
IsPartlySetIn d r v x y = IsPartlySet x.own d r v x.rows y.rows
