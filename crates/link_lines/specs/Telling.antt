-- Which JSON values are the parts of a told value: ranges, dots and rows, and lists of these.
use Rattle.std.specs.Prelude.{List, [], ◌∷◌, Option, Some, None, option_map}
use Rattle.serde_json.specs.Data.{Data, null, array, object, Items, no_items, item}
use Rattle.presence_base.specs.declared.dots.Dot.{Dot}
use Rattle.presence_base.specs.declared.row.Row.{Row}
use Rattle.orswot_core.specs.Telling.{Range}
use Rattle.link_lines.specs.Arrays.{three_in, four_in, eight_in}
use Rattle.link_lines.specs.Members.{◌>>=◌, whole_in, bound_in, text_in, replica_in, dot_in}

-- the dots of a replica above one count, up to another
abbrev pub range_in : Data → Option Range
range_in d = do
  m ← four_in d
  replica ← replica_in m.0 m.1
  from ← bound_in m.2
  to ← bound_in m.3
  Some (replica, from, to)

abbrev pub extra_in : Data → Option Dot
extra_in d = three_in d >>= (λ m. dot_in m.0 m.1 m.2)

-- null, or a dot
abbrev pub prev_in : Data → Option (Option Dot)
prev_in null = Some None
prev_in d = option_map Some (extra_in d)

abbrev pub object_in : Data → Option Data
object_in (object ms) = Some (object ms)
object_in _ = None

-- what is told at a dot; texts and metas are of any length here
abbrev pub row_of : Data → Data → Data → Data → Data → Option Row
row_of topic key pid meta prev = do
  t ← text_in topic
  k ← text_in key
  p ← whole_in pid
  m ← object_in meta
  d ← prev_in prev
  Some (record { topic = t; key = k; pid = p; meta = m; prev = d })

abbrev pub row_in : Data → Option (Dot × Row)
row_in d = do
  m ← eight_in d
  dot ← dot_in m.0 m.1 m.2
  row ← row_of m.3 m.4 m.5 m.6 m.7
  Some (dot, row)

-- what f finds in each, where it finds something in each
abbrev pub each_in : {A : Type 0} → (Data → Option A) → Items → Option (List A)
each_in f no_items = Some []
each_in f (item d ds) = do
  x ← f d
  xs ← each_in f ds
  Some (x ∷ xs)

-- the same of a list
abbrev pub list_in : {A : Type 0} → (Data → Option A) → Data → Option (List A)
list_in f (array ds) = each_in f ds
list_in f _ = None
