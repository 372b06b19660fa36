-- The states of topics that are kept beside the rows.
use Rattle.std.specs.Prelude.{◌≡◌, ℕ, true, false, cond, List, Option, Some, None, ◌⊎◌}
use Rattle.std.specs.BTreeMap.{BTreeMap, get}
use Rattle.std.specs.List.{AllByRecursion}
use Rattle.presence_base.specs.declared.dots.Dot.{Dot}
use Rattle.presence_base.specs.declared.row.Row.{Row}
use Rattle.presence_base.specs.Order.{text_cmp, same_text}
use Rattle.presence_journal.specs.declared.rows.Place.{Place}
use Rattle.tracker_shown.specs.declared.stand.Holder.{Holder}
use Rattle.tracker_shown.specs.declared.stand.Holder.TheVariants.{Room}
use Rattle.tracker_shown.specs.Kept.{Kept, kept_at}
use Rattle.tracker_shown.specs.Listing.{Lists, everywhere}

abbrev pub StateMap : Type 0
StateMap = BTreeMap (List ℕ) (List (Dot × Row))

-- the state of a topic, where it is kept
abbrev pub state_at : StateMap → List ℕ → Option (List (Dot × Row))
state_at ss t = get text_cmp ss t

-- each state lists the rows that are kept of its topic
abbrev pub AreStatesOf : Kept → StateMap → Type 0
AreStatesOf m ss = (t : List ℕ) (v : List (Dot × Row)) → state_at ss t ≡ Some v → Lists m Room t everywhere v

abbrev pub IsNoState : StateMap → Type 0
IsNoState ss = (t : List ℕ) → state_at ss t ≡ None

abbrev pub IsSameStates : StateMap → StateMap → Type 0
IsSameStates ss us = (t : List ℕ) → state_at us t ≡ state_at ss t

-- only states that were kept before
abbrev pub LosesSome : StateMap → StateMap → Type 0
LosesSome ss us = (t : List ℕ) (v : List (Dot × Row)) → state_at us t ≡ Some v → state_at ss t ≡ Some v

-- without the state of one topic
abbrev pub Forgets : List ℕ → StateMap → StateMap → Type 0
Forgets u ss us = (t : List ℕ) → state_at us t ≡ cond (same_text u t) None (state_at ss t)

-- none of these rows is of the topic
abbrev pub AreOfOthers : List ℕ → List (Dot × Row) → Type 0
AreOfOthers t xs = AllByRecursion (λ (x : Dot × Row). same_text x.1.topic t ≡ false) xs

-- only states that were kept before, of topics that none of these rows is of
abbrev pub ForgetsAll : List (Dot × Row) → StateMap → StateMap → Type 0
ForgetsAll xs ss us =
    (t : List ℕ) (v : List (Dot × Row)) → state_at us t ≡ Some v → (state_at ss t ≡ Some v) × AreOfOthers t xs

-- only states that were kept before, and this one
abbrev pub KeepsToo : List ℕ → List (Dot × Row) → StateMap → StateMap → Type 0
KeepsToo u s ss us =
    (t : List ℕ) (v : List (Dot × Row))
    → state_at us t ≡ Some v → (state_at ss t ≡ Some v) ⊎ ((same_text u t ≡ true) × (v ≡ s))

-- what is kept on the topics that none of these rows is of stays as it was
abbrev pub LeavesOthers : List (Dot × Row) → Kept → Kept → Type 0
LeavesOthers xs m n = (w : Holder) (t : List ℕ) (p : Place) → AreOfOthers t xs → kept_at n w t p ≡ kept_at m w t p
