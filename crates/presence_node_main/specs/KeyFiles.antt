-- What a file of keys gives, by its text.
use Rattle.std.specs.Prelude.{◌≡◌, ℕ, List, Result, Ok, Err}
use Rattle.std.specs.Arc.{arc_value}
use Rattle.std.specs.declared.alloc.Global.{Global}
use Rattle.std.specs.declared.sync.Arc.{Arc}
use Rattle.hmac_keys.specs.Keys.{key_bytes, key_text}
use Rattle.hmac_keys.specs.declared.fault.KeysFault.{KeysFault}
use Rattle.hmac_keys.specs.declared.keys.Keys.{Keys}
use Rattle.presence_node_main.specs.declared.serving.key_files.NoKeys.{NoKeys}
use Rattle.presence_node_main.specs.declared.serving.key_files.NoKeys.TheVariants.{Unread, TooLong, Wrong, Memory}

-- The keys of the text, with it, or the first thing that is wrong with it; memory aside.
abbrev pub GivesKeys : Result (Arc Keys Global) NoKeys → Result (List ℕ × List (List ℕ)) KeysFault → Type 0
GivesKeys (Ok keys) reading = reading ≡ Ok (key_text (arc_value keys), key_bytes (arc_value keys))
GivesKeys (Err (Wrong fault)) reading = reading ≡ Err fault
GivesKeys (Err Memory) reading = Unit {0}
GivesKeys (Err TooLong) reading = ⊥
GivesKeys (Err Unread) reading = ⊥
