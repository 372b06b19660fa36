-- What a payload asks to be tracked.
use Rattle.std.specs.Prelude.{ℕ, List, Option, Some, None, codes, if◌then◌else◌}
use Rattle.serde_json.specs.Data.{Data, string, object, Members, no_members, member}
use Rattle.serde_json.specs.Find.{get}
use Rattle.presence_base.specs.Names.{is_short_text}
use Rattle.presence_base.specs.Order.{same_text}
use Rattle.presence_base.specs.Metas.{is_meta}
use Rattle.channel_rules.specs.declared.asked.Asked.{Asked}
use Rattle.channel_rules.specs.declared.asked.Asked.TheVariants.{Nothing, Bad, Wants}

-- the members but the one of this name
abbrev pub without_member : List ℕ → Members → Members
without_member k no_members = no_members
without_member k (member l d ms) = if same_text k l then ms else member l d (without_member k ms)

-- the members that name references are dropped
abbrev pub without_refs : Data → Data
without_refs (object ms) = object (without_member (codes "phx_ref_prev") (without_member (codes "phx_ref") ms))
without_refs d = d

-- a missing meta is empty
abbrev pub given_meta : Option Data → Data
given_meta None = object no_members
given_meta (Some d) = without_refs d

abbrev pub with_meta : List ℕ → Data → Asked
with_meta key meta = if is_meta meta then Wants key meta else Bad

-- a key is a text of 1 to 255 bytes
abbrev pub with_key : Data → Data → Asked
with_key payload (string s) = if is_short_text s then with_meta s (given_meta (get (codes "meta") payload)) else Bad
with_key payload _ = Bad

abbrev pub by_key : Data → Option Data → Asked
by_key payload None = Nothing
by_key payload (Some key) = with_key payload key

-- Nothing where the payload is no object with a member `key`
unfoldable pub asked : Data → Asked
asked payload = by_key payload (get (codes "key") payload)

-- the key of a payload that names one
abbrev pub key_in : Option Data → Option (List ℕ)
key_in (Some (string s)) = if is_short_text s then Some s else None
key_in _ = None

abbrev pub key_asked : Data → Option (List ℕ)
key_asked payload = key_in (get (codes "key") payload)
