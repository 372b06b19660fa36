-- What is written of a state, row by row.
use Rattle.std.specs.Prelude.{ℕ, List, [], ◌∷◌, ◌++◌, if◌then◌else◌, Option, Some, None, codes}
use Rattle.std.specs.Str.{bytes_eq}
use Rattle.json.specs.Print.{quoted}
use Rattle.serde_json.specs.Written.{compact_text}
use Rattle.presence_base.specs.declared.dots.Dot.{Dot}
use Rattle.presence_base.specs.declared.row.Row.{Row}
use Rattle.presence_metas.specs.Rows.{tracked_of}

-- the meta of a row, with its reference
abbrev pub row_text : Dot × Row → List ℕ
row_text p = compact_text (tracked_of p.0 p.1).meta

-- a key, up to its first meta
abbrev pub key_text : List ℕ → List ℕ
key_text k = quoted k ++ codes ":{\"metas\":["

-- before a row's meta: the key, where another or none is open
abbrev pub between : Option (List ℕ) → List ℕ → List ℕ
between None k = key_text k
between (Some j) k = if bytes_eq j k then codes "," else (codes "]}," ++ key_text k)

abbrev pub ending : Option (List ℕ) → List ℕ
ending None = codes "}"
ending (Some k) = codes "]}}"

-- what is still to be written, where the last key is open, or there is none
unfoldable pub rest_text : Option (List ℕ) → List (Dot × Row) → List ℕ
rest_text last [] = ending last
rest_text last (p ∷ rows) = between last p.1.key ++ (row_text p ++ rest_text (Some p.1.key) rows)
