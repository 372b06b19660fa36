-- What the lanes of a server's pool are.
use Rattle.std.specs.Prelude.{◌≡◌, ℕ, List}
use Rattle.presence_journal.specs.History.{History, begun}
use Rattle.shard_pool.specs.Lanes.{AllBegin}

-- the name is that of each of the nodes
abbrev pub IsNameOfAll : (name first second third fourth : List ℕ) → Type 0
IsNameOfAll name first second third fourth = (name ≡ first) × (name ≡ second) × (name ≡ third) × (name ≡ fourth)

-- each shard may begin as a new one of the replica does
abbrev pub AreBegun : (First Second Third Fourth : History → Type 0) → List ℕ → ℕ → Type 0
AreBegun First Second Third Fourth name incarnation =
    AllBegin First Second Third Fourth (begun (record { name = name; incarnation = incarnation }))
