-- Which connections have nothing to do, and what is noted of that.
use Rattle.std.specs.Prelude.{◌≡◌, ℕ, Bool, true, false, not, ◌&&◌, ◌⊎◌, List, [], ◌∷◌, ◌++◌, Option, Some, None, slice_get}
use mathlib.Core.HLevel.{×_prop}
use denote.Struct.Props as logic
use Rattle.slab.specs.Slab.{Slab, get}
use Rattle.serve_connections.specs.declared.client.Client.{Client}
use Rattle.serve_connections.specs.Working.{goes_on}

module _ {S : Type 0} where
  -- it takes no turn, nothing of it waits to be sent, and it hasn't ended
  abbrev pub rests : Client S → Bool
  rests c = not c.ready && (not c.unsent && goes_on c)

  abbrev pub rests_at : Option (Client S) → Bool
  rests_at None = false
  rests_at (Some c) = rests c

  -- where it is noted that there is nothing to do, nobody there has
  abbrev pub holds_at : Bool → Option (Client S) → Bool
  holds_at false o = true
  holds_at true None = true
  holds_at true (Some c) = rests c

  -- What is found at a place: the connection there, or none where it has nothing to do.
  abbrev pub FindsDue : Option (Client S) → Option (Client S) → Type 0
  FindsDue o (Some c) = o ≡ Some c
  FindsDue o None = holds_at true o ≡ true

abbrev pub is_true : Option Bool → Bool
is_true None = false
is_true (Some b) = b

-- it was noted that the connection at this key has nothing to do
abbrev pub is_noted : List Bool → ℕ → Bool
is_noted notes k = is_true (slice_get notes k)

-- One key more may have a note, which says nothing yet.
abbrev pub HasRoom : List Bool → List Bool → Type 0
HasRoom old new = (new ≡ old) ⊎ (new ≡ old ++ false ∷ [])

module _ {S : Type 0} where
  -- what is noted of these keys holds
  abbrev pub AreAtRest : Slab (Client S) → List Bool → List ℕ → Type 0
  AreAtRest slab notes [] = Unit {0}
  AreAtRest slab notes (k ∷ ks) = (holds_at (is_noted notes k) (get slab k) ≡ true) × AreAtRest slab notes ks

  -- that it does is a fact
  pub rest_prop : (slab : Slab (Client S)) (notes : List Bool) (keys : List ℕ) → IsProp (AreAtRest slab notes keys)
  rest_prop slab notes [] = Prim.hlevel logic.props
  rest_prop slab notes (k ∷ ks) = ×_prop (Prim.hlevel logic.props) (rest_prop slab notes ks)
