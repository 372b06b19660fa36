-- The kind that an array's first member names.
use Rattle.std.specs.Prelude.{ℕ, List, codes, if◌then◌else◌, Option, Some, None}
use Rattle.std.specs.Str.{bytes_eq}
use Rattle.serde_json.specs.Data.{Data, string, array, Items, no_items, item}
use Rattle.link_lines.specs.declared.kinds.Kind.{Kind}
use Rattle.link_lines.specs.declared.kinds.Kind.TheVariants as kinds_are

abbrev pub kind_named : List ℕ → Option Kind
kind_named name =
    if bytes_eq name (codes "hello") then Some kinds_are.Hello
    else (if bytes_eq name (codes "beat") then Some kinds_are.Beat
    else (if bytes_eq name (codes "want") then Some kinds_are.Want
    else (if bytes_eq name (codes "told") then Some kinds_are.Told
    else (if bytes_eq name (codes "permdown") then Some kinds_are.PermDown
    else (if bytes_eq name (codes "gone") then Some kinds_are.Gone
    else (if bytes_eq name (codes "ok") then Some kinds_are.Ok
    else None))))))

abbrev pub kind_first : Data → Option Kind
kind_first (string name) = kind_named name
kind_first _ = None

abbrev pub kind_of_all : Items → Option Kind
kind_of_all (item d ds) = kind_first d
kind_of_all no_items = None

abbrev pub kind_in : Data → Option Kind
kind_in (array ds) = kind_of_all ds
kind_in _ = None
