-- A value without what is in its arrays and objects, and the first items of an array so.
use Rattle.std.specs.Prelude.{ℕ, zero, suc}
use Rattle.serde_json.specs.Data.{Data, null, boolean, number, string, array, object, Items, no_items, item, no_members}

abbrev pub brief : Data → Data
brief null = null
brief (boolean b) = boolean b
brief (number n) = number n
brief (string s) = string s
brief (array ds) = array no_items
brief (object ms) = object no_members

-- the first n items, each so
unfoldable pub few : ℕ → Items → Items
few zero ds = no_items
few (suc n) no_items = no_items
few (suc n) (item d ds) = item (brief d) (few n ds)

-- the first n items of an array, each so
abbrev pub shallow : ℕ → Data → Data
shallow n (array ds) = array (few n ds)
shallow n d = brief d
