-- Where a worker keeps its connections: each at a key of a slab, and the keys in order of the connections' numbers.
use Rattle.std.specs.Prelude.{◌≡◌, ℕ, Bool, false, ◌==◌, ◌||◌, List, [], ◌∷◌, Option, Some, None, cond}
use mathlib.Core.HLevel.{×_prop}
use denote.Struct.Props as logic
use Rattle.slab.specs.Slab.{Slab, get}
use Rattle.serve_connections.specs.declared.client.Client.{Client}
use Rattle.serve_connections.specs.Turning.{Around}
use Rattle.serve_connections.specs.declared.moment.Moment.{Moment}
use Rattle.serve_connections.specs.Working.{goes_on, DeliversAll, ServesAll}

module _ {S : Type 0} where
  -- what is at a key stands before the others
  abbrev pub before : Option (Client S) → List (Client S) → List (Client S)
  before None cs = cs
  before (Some c) cs = c ∷ cs

  -- the connections at these keys, in their order
  abbrev pub served : Slab (Client S) → List ℕ → List (Client S)
  served slab [] = []
  served slab (k ∷ ks) = before (get slab k) (served slab ks)

  abbrev pub token_of : Option (Client S) → Option ℕ
  token_of None = None
  token_of (Some c) = Some c.token

-- the key is one of these
abbrev pub is_among : ℕ → List ℕ → Bool
is_among k [] = false
is_among k (j ∷ ks) = (j == k) || is_among k ks

module _ {S : Type 0} where
  -- each key stands once, and the connection there has it as its token
  abbrev pub AreKept : Slab (Client S) → List ℕ → Type 0
  AreKept slab [] = Unit {0}
  AreKept slab (k ∷ ks) = (token_of (get slab k) ≡ Some k) × ((is_among k ks ≡ false) × AreKept slab ks)

  -- that they do is a fact
  pub kept_prop : (slab : Slab (Client S)) (keys : List ℕ) → IsProp (AreKept slab keys)
  kept_prop slab [] = Prim.hlevel logic.props
  kept_prop slab (k ∷ ks) = ×_prop (Prim.hlevel logic.props) (×_prop (Prim.hlevel logic.props) (kept_prop slab ks))

  -- a connection that has ended is gone from its key
  abbrev pub left : Option (Client S) → Option (Client S)
  left None = None
  left (Some c) = cond (goes_on c) (Some c) None

  -- those at these keys that have ended are gone from there
  abbrev pub AreLeft : Slab (Client S) → Slab (Client S) → List ℕ → Type 0
  AreLeft old new [] = Unit {0}
  AreLeft old new (k ∷ ks) = (get new k ≡ left (get old k)) × AreLeft old new ks

-- ---- those at these keys

module _ {S P : Type 0} (w : Around S P) where
  -- each ready one takes its turn, in their order
  abbrev pub ServesKeys : List (List ℕ × ℕ) → Moment → List ℕ → Slab (Client S) → Slab (Client S) → P → P → Type 0
  ServesKeys routes now keys old new before after =
      ServesAll w routes now (served old keys) (served new keys) before after

  -- each ready one has what waits delivered, in their order
  abbrev pub DeliversKeys : List ℕ → Slab (Client S) → Slab (Client S) → P → P → Type 0
  DeliversKeys keys old new before after = DeliversAll w (served old keys) (served new keys) before after
