-- The lives of a world, as they are kept by replica.
use Rattle.std.specs.Prelude.{◌≡◌, ℕ, Bool, true, false, List, [], ◌∷◌, ◌++◌, Option, Some, None}
use Rattle.std.specs.BTreeMap.{BTreeMap}
use Rattle.std.specs.FinMap as map
use Rattle.presence_base.specs.declared.dots.Replica.{Replica}
use Rattle.presence_base.specs.Order.{replica_cmp}
use Rattle.orswot_core.specs.declared.form.Form.{Form}
use Rattle.orswot_core.specs.Telling.{ToldValue}
use Rattle.presence_journal.specs.declared.step.Step.TheVariants as steps_are
use Rattle.presence_journal.specs.declared.step.Step.{Step}
use Rattle.presence_journal.specs.Table.{accepted}
use Rattle.node_world.specs.World.{LifeValue, Lives, WorldValue, first_life, next_life, newborn, stepped, TellsWhole, TellsPartIf}
use Rattle.node_world.specs.Living.{Cuts, BeginsAgain}
use Rattle.node_world.specs.GoingOn.{going_on}

abbrev pub LifeMap : Type 0
LifeMap = BTreeMap Replica LifeValue

-- the lives that a list of entries has
abbrev pub lives_in : List (Replica × LifeValue) → Lives
lives_in es = map.from_entries {R = replica_cmp} es

abbrev pub seen : LifeMap → Lives
seen m = lives_in m.entries

-- the life of a replica, if there is one, becomes another
abbrev pub TurnsIf : Option LifeValue → (LifeValue → LifeValue → Type 0) → Lives → Replica → Lives → Type 0
TurnsIf None Turn old r new = new ≡ old
TurnsIf (Some l) Turn old r new = (m : LifeValue) × Turn l m × (new ≡ map.insert old r m)

abbrev pub Turns : (LifeValue → LifeValue → Type 0) → Lives → Replica → Lives → Type 0
Turns Turn old r new = TurnsIf (map.get old r) Turn old r new

abbrev pub Steps : Step → LifeValue → LifeValue → Type 0
Steps s l m = m ≡ stepped s l

abbrev pub Begun : LifeValue → LifeValue → Type 0
Begun l m = BeginsAgain l.history m.history × (m.made ≡ l.made)

-- what a cut of a life tells in a form, if there is one
abbrev pub CutIf : Form → Option LifeValue → Lives → Replica → Lives → Option ToldValue → Type 0
CutIf form None old r new o = (new ≡ old) × (o ≡ None)
CutIf form (Some l) old r new o =
    (m : LifeValue) × (Cuts form l.history m.history o) × (m.made ≡ l.made) × (new ≡ map.insert old r m)

abbrev pub Cut : Form → Lives → Replica → Lives → Option ToldValue → Type 0
Cut form old r new o = CutIf form (map.get old r) old r new o

-- what a life tells in a form, if there is one
abbrev pub ToldIf : Form → Option LifeValue → Option ℕ → Option ToldValue → Type 0
ToldIf form None from o = o ≡ None
ToldIf form (Some l) from None = ⊥
ToldIf form (Some l) from (Some t) = TellsWhole form l.history from t

-- and in part
abbrev pub PartOfLife : Form → Option LifeValue → ℕ → Option ToldValue → Type 0
PartOfLife form None from o = o ≡ None
PartOfLife form (Some l) from o = TellsPartIf form l.history from o

-- ---- rebirths

-- what a life, if there is one, goes on as under a higher incarnation, if it can
abbrev pub next_of : ℕ → Option LifeValue → Option LifeValue
next_of i None = None
next_of i (Some l) = going_on i l (accepted l.history (steps_are.Rebirth i))

-- it has its place beside the others; b tells whether there is one
abbrev pub GoesOnTo : Option LifeValue → Lives → Replica → Lives → Bool → Type 0
GoesOnTo None old q new b = (new ≡ old) × (b ≡ false)
GoesOnTo (Some m) old q new b = (new ≡ map.insert old q m) × (b ≡ true)

abbrev pub GoesOn : Lives → Replica → ℕ → Lives → Bool → Type 0
GoesOn old r i new b = GoesOnTo (next_of i (map.get old r)) old (next_life r i) new b

-- ---- at first

abbrev pub no_world : WorldValue
no_world = record { lives = map.empty; present = []; told = [] }

abbrev pub with_node : WorldValue → List ℕ → WorldValue
with_node w n = record {
  lives = map.insert w.lives (first_life n) (newborn (first_life n));
  present = w.present ++ first_life n ∷ [];
  told = w.told;
}

abbrev pub with_nodes : WorldValue → List (List ℕ) → WorldValue
with_nodes w [] = w
with_nodes w (n ∷ ns) = with_nodes (with_node w n) ns
