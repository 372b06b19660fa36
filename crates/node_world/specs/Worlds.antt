-- A world by its parts, and what the parts are behind an event.
use Rattle.std.specs.Prelude.{◌≡◌, ℕ, cond, List, slice_get, Option, option_map}
use Rattle.presence_base.specs.declared.dots.Replica.{Replica}
use Rattle.orswot_core.specs.declared.form.Form.{Form}
use Rattle.orswot_core.specs.Telling.{ToldValue}
use Rattle.presence_journal.specs.declared.step.Step.{Step}
use Rattle.node_world.specs.Others.{of_others}
use Rattle.node_world.specs.World.{Lives, WorldValue, acts, life_at, may_ask, Cuts, Tells, delivered, Begins, restarted, rebirths, TellsInPart}

abbrev pub world : Lives → List Replica → List ToldValue → WorldValue
world l p t = record { lives = l; present = p; told = t }

-- the lives after a node's step, whatever was told
abbrev pub ActsTo : List Replica → Lives → ℕ → Step → Lives → Type 0
ActsTo p old n s new = (t : List ToldValue) → world new p t ≡ acts (world old p t) n s

-- after a step that a caller asked for
abbrev pub AsksTo : List Replica → Lives → ℕ → Step → Lives → Type 0
AsksTo p old n s new = (t : List ToldValue)
    → world new p t ≡ cond (may_ask s) (acts (world old p t) n s) (world old p t)

-- the lives and what was told after a cut, after a full value, after a part, and the lives after a delivery
abbrev pub CutsTo : Form → List Replica → Lives → List ToldValue → ℕ → Lives → List ToldValue → Type 0
CutsTo form p old t n new u = Cuts form (world old p t) (life_at (world old p t) n) (world new p u)

abbrev pub TellsTo : Form → List Replica → Lives → List ToldValue → ℕ → Option ℕ → Lives → List ToldValue → Type 0
TellsTo form p old t n from new u = Tells form (world old p t) from (life_at (world old p t) n) (world new p u)

abbrev pub PartsTo : Form → List Replica → Lives → List ToldValue → ℕ → ℕ → Lives → List ToldValue → Type 0
PartsTo form p old t n from new u = TellsInPart form (world old p t) from (life_at (world old p t) n) (world new p u)

abbrev pub DeliversTo : List Replica → List ToldValue → Lives → ℕ → ℕ → Lives → Type 0
DeliversTo p t old n k new = world new p t ≡ delivered (world old p t) n (slice_get t k)

-- and after a delivery of what is told of others
abbrev pub DeliversOthersTo : List Replica → List ToldValue → Lives → ℕ → ℕ → Lives → Type 0
DeliversOthersTo p t old n k new =
    world new p t ≡ delivered (world old p t) n (option_map (of_others (slice_get p n)) (slice_get t k))

-- the lives after a checkpoint, and the lives and who is present after a restart, whatever was told
abbrev pub BeginsTo : List Replica → Lives → ℕ → Lives → Type 0
BeginsTo p old n new = (t : List ToldValue) → Begins (world old p t) (life_at (world old p t) n) (world new p t)

abbrev pub RestartsTo : List Replica → Lives → ℕ → ℕ → List Replica → Lives → Type 0
RestartsTo p old n i q new = (t : List ToldValue) → world new q t ≡ restarted (world old p t) n i (slice_get p n)

-- and after a rebirth
abbrev pub RebirthsTo : List Replica → Lives → ℕ → ℕ → List Replica → Lives → Type 0
RebirthsTo p old n i q new = (t : List ToldValue)
    → world new q t ≡ rebirths (world old p t) n i (life_at (world old p t) n)
