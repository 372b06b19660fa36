-- The JSON value that a line is written as.
use Rattle.std.specs.Prelude.{ℕ, List, [], ◌∷◌, codes, map, Option, Some, None}
use Rattle.serde_json.specs.Data.{unsigned, Data, null, number, string, array}
use Rattle.serde_json.specs.View.{items_of}
use Rattle.presence_base.specs.declared.dots.Dot.{Dot}
use Rattle.presence_base.specs.declared.row.Row.{Row}
use Rattle.orswot_core.specs.declared.form.Form.{Form}
use Rattle.orswot_core.specs.declared.form.Form.TheVariants.{One, Two}
use Rattle.orswot_core.specs.Telling.{Range, ToldValue}
use Rattle.link_lines.specs.declared.hearer.Telling.{Telling}
use Rattle.link_lines.specs.declared.lines.Line.{Line}
use Rattle.link_lines.specs.declared.lines.Line.TheVariants as lines_are

abbrev pub whole : ℕ → Data
whole n = number (unsigned n)

abbrev pub array_of : List Data → Data
array_of ds = array (items_of ds)

abbrev pub range_value : Range → Data
range_value g = array_of (string g.0.name ∷ whole g.0.incarnation ∷ whole g.1 ∷ whole g.2 ∷ [])

abbrev pub dot_value : Dot → Data
dot_value d = array_of (string d.replica.name ∷ whole d.replica.incarnation ∷ whole d.count ∷ [])

abbrev pub prev_value : Option Dot → Data
prev_value None = null
prev_value (Some d) = dot_value d

abbrev pub row_value : Dot × Row → Data
row_value x = array_of (string x.0.replica.name ∷ whole x.0.replica.incarnation ∷ whole x.0.count
    ∷ string x.1.topic ∷ string x.1.key ∷ whole x.1.pid ∷ x.1.meta ∷ prev_value x.1.prev ∷ [])

-- in the first form three lists, ranges, extras and live rows; in the second two, ranges and live rows
abbrev pub value_in : Form → ToldValue → Data
value_in One t = array_of
    (array_of (map range_value t.ranges) ∷ array_of (map dot_value t.extras) ∷ array_of (map row_value t.live) ∷ [])
value_in Two t = array_of (array_of (map range_value t.ranges) ∷ array_of (map row_value t.live) ∷ [])

abbrev pub told_value : Telling → Data
told_value t = value_in t.form t.told

abbrev pub delta_value : Option Telling → Data
delta_value None = null
delta_value (Some t) = told_value t

-- the version is the last member, where it is told
abbrev pub version_values : Option ℕ → List Data
version_values None = []
version_values (Some v) = whole v ∷ []

-- an array whose first member names the line's kind
abbrev pub value_of : Line → Data
value_of (lines_are.Hello r n v) =
    array_of (string (codes "hello") ∷ string r.name ∷ whole r.incarnation ∷ whole n ∷ version_values v)
value_of (lines_are.Beat k r n t) =
    array_of (string (codes "beat") ∷ whole k ∷ string r.name ∷ whole r.incarnation ∷ whole n ∷ delta_value t ∷ [])
value_of (lines_are.Want k r n) =
    array_of (string (codes "want") ∷ whole k ∷ string r.name ∷ whole r.incarnation ∷ whole n ∷ [])
value_of (lines_are.Told k t) = array_of (string (codes "told") ∷ whole k ∷ told_value t ∷ [])
value_of (lines_are.PermDown r) = array_of (string (codes "permdown") ∷ string r.name ∷ whole r.incarnation ∷ [])
value_of (lines_are.Gone r) = array_of (string (codes "gone") ∷ string r.name ∷ whole r.incarnation ∷ [])
value_of lines_are.Ok = array_of (string (codes "ok") ∷ [])
