-- A row read in parts: what stands before its meta, and what is kept of its meta.
use Rattle.std.specs.Prelude.{Option, Some, option_map, if◌then◌else◌, map}
use Rattle.serde_json.specs.Data.{Data, null, Items}
use Rattle.presence_base.specs.Metas.{is_meta}
use Rattle.presence_base.specs.declared.dots.Dot.{Dot}
use Rattle.presence_base.specs.declared.row.Row.{Row}
use Rattle.orswot_core.specs.Telling.{ToldValue}
use Rattle.link_lines.specs.Arrays.{six_items}
use Rattle.link_lines.specs.Members.{◌>>=◌, whole_in, text_in, dot_in}
use Rattle.link_lines.specs.Telling.{prev_in, row_in}

-- what is kept of a row's meta: null, which is no meta, where it is none
abbrev pub kept_meta : Data → Data
kept_meta d = if is_meta d then d else null

abbrev pub kept_row : Row → Row
kept_row r = record { topic = r.topic; key = r.key; pid = r.pid; meta = kept_meta r.meta; prev = r.prev }

abbrev pub kept_entry : Dot × Row → Dot × Row
kept_entry x = (x.0, kept_row x.1)

abbrev pub kept : ToldValue → ToldValue
kept t = record { ranges = t.ranges; extras = t.extras; live = map kept_entry t.live }

abbrev pub kept_row_in : Data → Option (Dot × Row)
kept_row_in d = option_map kept_entry (row_in d)

-- what stands before a row's meta: its dot, topic, key and pid
abbrev pub FrontValue : Type 0
FrontValue = Dot × (Data × (Data × Data))

abbrev pub front_in : Items → Option FrontValue
front_in ds = do
  m ← six_items ds
  dot ← dot_in m.0 m.1 m.2
  Some (dot, (m.3, (m.4, m.5)))

-- a row whose meta was read before
abbrev pub raw_row_in : Data → Data → Data → Data → Data → Option Row
raw_row_in topic key pid meta prev = do
  t ← text_in topic
  k ← text_in key
  p ← whole_in pid
  d ← prev_in prev
  Some (record { topic = t; key = k; pid = p; meta = meta; prev = d })

-- the row with its dot, where these members stood before and behind its meta
abbrev pub entry_in : FrontValue → Data → Data → Option (Dot × Row)
entry_in f meta prev = do
  row ← raw_row_in f.1.0 f.1.1.0 f.1.1.1 meta prev
  Some (f.0, row)
