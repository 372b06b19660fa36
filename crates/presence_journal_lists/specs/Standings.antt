-- The standings of replicas: of one that is gone its name and incarnation are kept, and no more.
use Rattle.std.specs.Prelude.{◌≡◌, ◌||◌, ℕ, Bool, true, false, cond, List, [], ◌∷◌, ◌++◌, map, Option, Some, None}
use Rattle.std.specs.Option.{unwrap_or}
use Rattle.std.specs.BTreeMap.{BTreeMap, get, IsOrdered}
use Rattle.presence_base.specs.declared.dots.Replica.{Replica}
use Rattle.presence_base.specs.Order.{text_cmp, replica_cmp, same_replica}
use Rattle.replica_status.specs.declared.standing.Standing.{Standing}
use Rattle.replica_status.specs.declared.standing.Standing.TheVariants.{Unheard, Gone}
use Rattle.replica_status.specs.Boards.{standing_in}
use Rattle.replica_status.specs.Table.{ticked_at}
use Rattle.presence_journal_lists.specs.Lives.{same_number, is_one_of}
use Rattle.presence_journal_lists.specs.declared.gone.GoneReplicas.{GoneReplicas}

-- one incarnation of each name that is gone
abbrev pub FirstMap : Type 0
FirstMap = BTreeMap (List ℕ) ℕ

-- the further incarnations of each name that are gone
abbrev pub FurtherMap : Type 0
FurtherMap = BTreeMap (List ℕ) (List ℕ)

abbrev pub StandingMap : Type 0
StandingMap = BTreeMap Replica Standing

-- one incarnation of a name, with its standing
abbrev pub gone_life : List ℕ → ℕ → Replica × Standing
gone_life name n = (record { name = name; incarnation = n }, Gone)

abbrev pub first_list : List (List ℕ × ℕ) → List (Replica × Standing)
first_list es = map (λ e. gone_life e.0 e.1) es

abbrev pub gone_lives : List ℕ → List ℕ → List (Replica × Standing)
gone_lives name ns = map (gone_life name) ns

abbrev pub gone_list : List (List ℕ × List ℕ) → List (Replica × Standing)
gone_list [] = []
gone_list (e ∷ es) = gone_lives e.0 e.1 ++ gone_list es

-- those that are gone, and the others behind them
abbrev pub all_of : GoneReplicas → StandingMap → List (Replica × Standing)
all_of g m = first_list g.first.entries ++ (gone_list g.further.entries ++ m.entries)

abbrev pub is_first : Option ℕ → ℕ → Bool
is_first None n = false
is_first (Some first) n = same_number n first

-- the replica is the first of its name
abbrev pub is_first_in : FirstMap → Replica → Bool
is_first_in f r = is_first (get text_cmp f r.name) r.incarnation

abbrev pub holds_life : Option (List ℕ) → ℕ → Bool
holds_life None n = false
holds_life (Some ns) n = is_one_of ns n

-- the replica is among the further ones of its name
abbrev pub is_further_in : FurtherMap → Replica → Bool
is_further_in g r = holds_life (get text_cmp g r.name) r.incarnation

-- the replica is among those that are gone
abbrev pub is_gone_in : GoneReplicas → Replica → Bool
is_gone_in g r = is_first_in g.first r || is_further_in g.further r

-- the standing that is kept, or that of a replica that was never heard
abbrev pub standing_at : StandingMap → Replica → Standing
standing_at m r = unwrap_or (get replica_cmp m r) Unheard

-- none of the others is among those that are gone
abbrev pub AreApart : GoneReplicas → StandingMap → Type 0
AreApart g m = (r : Replica) → is_gone_in g r ≡ true → get replica_cmp m r ≡ None

pub record AreOrdered (g : GoneReplicas) : Type 0 where
  pub first : IsOrdered text_cmp g.first
  pub further : IsOrdered text_cmp g.further

-- how the maps stand to each other
pub record AreKept (g : GoneReplicas) (m : StandingMap) : Type 0 where
  pub ordered : AreOrdered g
  pub apart : AreApart g m

-- the others pass each test that all do, where one that is gone or unheard doesn't
abbrev pub TellsOthers : List (Replica × Standing) → StandingMap → Type 0
TellsOthers xs m = (passes : Standing → Bool) → passes Unheard ≡ false → passes Gone ≡ false
    → (r : Replica) → passes (standing_at m r) ≡ passes (standing_in xs r)

-- ---- what a call makes of the standings

-- the replica has the standing, and each other what it had
abbrev pub Puts : List (Replica × Standing) → List (Replica × Standing) → Replica → Standing → Type 0
Puts xs ys r x = (q : Replica) → standing_in ys q ≡ cond (same_replica r q) x (standing_in xs q)

-- each has what it had
abbrev pub AllStay : List (Replica × Standing) → List (Replica × Standing) → Type 0
AllStay xs ys = (q : Replica) → standing_in ys q ≡ standing_in xs q

-- each has what a tick at a time makes of it
abbrev pub Ticks : ℕ → List (Replica × Standing) → List (Replica × Standing) → Type 0
Ticks time xs ys = (q : Replica) → standing_in ys q ≡ ticked_at time (standing_in xs q)

-- ---- moving those that became gone

abbrev pub is_gone : Standing → Bool
is_gone Gone = true
is_gone _ = false

abbrev pub IsGoneAt : StandingMap → Replica → Type 0
IsGoneAt m r = standing_at m r ≡ Gone
