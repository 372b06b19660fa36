-- What a JSON value is once it has been read, floats aside: its whole numbers are of 64 bits, and an object has each key once, in byte order.
use Rattle.std.specs.Prelude.{◌≡◌, ◌<◌, ◌^◌, ℕ, pos, negsuc, List}
use Rattle.std.specs.declared.cmp.Ordering.TheVariants.{Less}
use Rattle.std.specs.Ordering.{nat_cmp}
use Rattle.std.specs.Cmp.Lexicographic.{slice_cmp}
use Rattle.serde_json.specs.Data.{Num, unsigned, negative, float, Data, null, boolean, number, string, array, object, Items, no_items, item, Members, no_members, member}

-- from -2^63 to 2^64 - 1, the negative ones told as such
abbrev pub Is64Bits : Num → Type 0
Is64Bits (unsigned n) = n < 2 ^ 64
Is64Bits (negative (pos n)) = ⊥
Is64Bits (negative (negsuc n)) = n < 2 ^ 63
Is64Bits (float x) = Unit {0}

-- the key is below the first of these
abbrev pub IsBelow : List ℕ → Members → Type 0
IsBelow k no_members = Unit {0}
IsBelow k (member l d ms) = slice_cmp nat_cmp k l ≡ Less

abbrev mutual
  pub IsOrderly : Data → Type 0
  IsOrderly null = Unit {0}
  IsOrderly (boolean b) = Unit {0}
  IsOrderly (number n) = Is64Bits n
  IsOrderly (string s) = Unit {0}
  IsOrderly (array ds) = AreOrderly ds
  IsOrderly (object ms) = MembersAreOrderly ms

  pub AreOrderly : Items → Type 0
  AreOrderly no_items = Unit {0}
  AreOrderly (item d ds) = IsOrderly d × AreOrderly ds

  pub MembersAreOrderly : Members → Type 0
  MembersAreOrderly no_members = Unit {0}
  MembersAreOrderly (member k d ms) = IsBelow k ms × IsOrderly d × MembersAreOrderly ms
