-- What a message tells a client of presences, or the first thing that is wrong with it.
use Rattle.std.specs.Prelude.{◌≡◌, ℕ, List, [], ◌∷◌, ◌++◌, Bool, true, false, ◌&&◌, if◌then◌else◌, Option, Some, None, option_and_then, Result, Ok, Err, codes, is_some}
use Rattle.std.specs.List.{AllByRecursion}
use Rattle.std.specs.Str.{bytes_eq}
use Rattle.serde_json.specs.Data.{Data, array, object, Items, no_items, item, Members, no_members, member}
use Rattle.serde_json.specs.Find.{get, as_object, as_str}
use Rattle.phx_message.specs.declared.message.Message.{Message}
use Rattle.presence_metas.specs.declared.tracked.TrackedMeta.{TrackedMeta}
use Rattle.presence_metas.specs.declared.frame.Frame.{Frame}
use Rattle.presence_metas.specs.declared.frame.Frame.TheVariants as frame_is
use Rattle.presence_metas.specs.declared.frame.FrameFault.{FrameFault}
use Rattle.presence_metas.specs.declared.frame.FrameFault.TheVariants.{NotPresence, BadShape, NoRef, OutOfMemory}
use Rattle.presence_metas.specs.Listing.{Listing, put}

infixl 10 ◌>>=◌
abbrev pub ◌>>=◌ : {A B : Type 0} → Result A FrameFault → (A → Result B FrameFault) → Result B FrameFault
(Ok x) >>= f = f x
(Err e) >>= f = Err e

-- the fault that is told is the one that stands, unless memory ran out
abbrev pub Fails : {Y : Type 0} → FrameFault → Result Y FrameFault → Type 0
Fails OutOfMemory reading = Unit {0}
Fails e reading = reading ≡ Err e

-- what was answered, seen by view, is the reading, unless memory ran out
abbrev pub Gives : {X Y : Type 0} → (X → Y) → Result X FrameFault → Result Y FrameFault → Type 0
Gives view (Ok x) reading = reading ≡ Ok (view x)
Gives view (Err e) reading = Fails e reading

-- what was answered is the reading, unless memory ran out
abbrev pub Answers : {X : Type 0} → Result X FrameFault → Result X FrameFault → Type 0
Answers = Gives (λ x. x)

-- ---- the shape

abbrev pub all_objects : Items → Bool
all_objects no_items = true
all_objects (item d ds) = is_some (as_object d) && all_objects ds

abbrev pub is_array_of_objects : Option Data → Bool
is_array_of_objects (Some (array ds)) = all_objects ds
is_array_of_objects _ = false

-- a list of objects as `metas`
abbrev pub has_metas : Data → Bool
has_metas d = is_array_of_objects (get (codes "metas") d)

abbrev pub all_have_metas : Members → Bool
all_have_metas no_members = true
all_have_metas (member k d ms) = has_metas d && all_have_metas ms

-- an object from keys to metas
abbrev pub is_listing : Data → Bool
is_listing (object ms) = all_have_metas ms
is_listing _ = false

abbrev pub is_some_listing : Option Data → Bool
is_some_listing (Some d) = is_listing d
is_some_listing None = false

-- `joins` and `leaves` of two such
abbrev pub is_diff : Data → Bool
is_diff d = is_some_listing (get (codes "joins") d) && is_some_listing (get (codes "leaves") d)

-- ---- what is read

abbrev pub text_ref : Data → Option (List ℕ)
text_ref d = option_and_then as_str (get (codes "phx_ref") d)

abbrev pub with_ref : Data → Option (List ℕ) → Result TrackedMeta FrameFault
with_ref d None = Err NoRef
with_ref d (Some r) = Ok (record { reference = r; meta = d })

-- a meta names its reference
abbrev pub tracked_in : Data → Result TrackedMeta FrameFault
tracked_in d = with_ref d (text_ref d)

-- the reference is that of the object
abbrev pub Named : TrackedMeta → Type 0
Named t = text_ref t.meta ≡ Some t.reference

abbrev pub AllNamed : List TrackedMeta → Type 0
AllNamed = AllByRecursion Named

-- the metas ts, and then those of the items
abbrev pub metas_into : List TrackedMeta → Items → Result (List TrackedMeta) FrameFault
metas_into ts no_items = Ok ts
metas_into ts (item d ds) = tracked_in d >>= (λ t. metas_into (ts ++ t ∷ []) ds)

abbrev pub items_in : Option Data → Items
items_in (Some (array ds)) = ds
items_in _ = no_items

-- the metas that are told of a key
abbrev pub metas_in : Data → Result (List TrackedMeta) FrameFault
metas_in d = metas_into [] (items_in (get (codes "metas") d))

-- the lists ls, and in them each key of the members with its metas
abbrev pub listing_into : Listing → Members → Result Listing FrameFault
listing_into ls no_members = Ok ls
listing_into ls (member k d ms) = metas_in d >>= (λ ts. listing_into (put ls k ts) ms)

abbrev pub listing_in : Data → Result Listing FrameFault
listing_in (object ms) = listing_into [] ms
listing_in _ = Ok []

abbrev pub some_listing_in : Option Data → Result Listing FrameFault
some_listing_in (Some d) = listing_in d
some_listing_in None = Ok []

-- ---- frames

abbrev pub state_in : Data → Result Frame FrameFault
state_in d = if is_listing d then (listing_in d >>= (λ ls. Ok (frame_is.State ls))) else Err BadShape

abbrev pub diff_in : Data → Result Frame FrameFault
diff_in d =
    if is_diff d then (some_listing_in (get (codes "joins") d)
    >>= (λ joins. some_listing_in (get (codes "leaves") d)
    >>= (λ leaves. Ok (frame_is.Diff (record { joins = joins; leaves = leaves })))))
    else Err BadShape

unfoldable pub frame_in : Message → Result Frame FrameFault
frame_in m =
    if bytes_eq m.event (codes "presence_state") then state_in m.payload
    else (if bytes_eq m.event (codes "presence_diff") then diff_in m.payload else Err NotPresence)

-- what is wrong with a message before any meta is looked at
abbrev pub shape_fault : Message → Option FrameFault
shape_fault m =
    if bytes_eq m.event (codes "presence_state") then (if is_listing m.payload then None else Some BadShape)
    else (if bytes_eq m.event (codes "presence_diff") then
    (if is_diff m.payload then None else Some BadShape) else Some NotPresence)
