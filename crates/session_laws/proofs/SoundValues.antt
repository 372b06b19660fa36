-- Values within a depth, without fractions, and as values that were read: what a session answers and tells is made of these.
use Rattle.std.proofs.Common.{◌≡◌, ◌≤◌, ◌||◌, ℕ, suc, Bool, true, false, cond, List, [], ◌∷◌, ◌++◌, map, fold, Option, Some, None, unwrap_or, IsTrue, codes, refl, arith}
use Rattle.std.specs.List.{AllByRecursion}
use Rattle.std.specs.declared.cmp.Ordering.{Ordering}
use Rattle.std.specs.declared.cmp.Ordering.TheVariants.{Less, Equal, Greater}
use Rattle.std.specs.Ordering.{nat_cmp, match_ordering}
use Rattle.std.specs.Cmp.Lexicographic.{slice_cmp}
use Rattle.std.specs.Map.{lookup, remove_entry}
use Rattle.std.specs.BTreeMap.{is_at, insert_entry}
use Rattle.serde_json.specs.Data.{Data, null, boolean, number, string, array, object, Items, Members, no_members, member, put as put_member, depth, items_depth, members_depth}
use Rattle.serde_json.specs.View.{items_of}
use Rattle.serde_json.specs.Written.{has_float, items_have_float, members_have_float}
use Rattle.presence_base.specs.Names.{is_short_text}
use Rattle.presence_base.specs.Order.{text_cmp}
use Rattle.presence_base.specs.Refs.{ref_of}
use Rattle.presence_base.specs.declared.dots.Dot.{Dot}
use Rattle.presence_base.specs.declared.row.Row.{Row}
use Rattle.phx_message.specs.Making.{status_text, reply_value, reason_value, reply_of, push_of, broadcast_of, closing}
use Rattle.phx_message.specs.Message.{ref_value, value_of, IsWithin}
use Rattle.phx_message.specs.Orderly.{IsOrderly, AreOrderly, MembersAreOrderly}
use Rattle.phx_message.specs.declared.making.Status.{Status}
use Rattle.phx_message.specs.declared.making.Status.TheVariants as status_is
use Rattle.phx_message.specs.declared.message.Message.{Message}
use Rattle.phx_message.specs.declared.message.MsgRef.{MsgRef}
use Rattle.phx_message.specs.declared.message.TheConstants.Limits as the_limits
use Rattle.phx_message.proofs.Orderly.{put_orderly}
use Rattle.presence_journal.specs.declared.rows.Item.{Item}
use Rattle.presence_journal.specs.declared.rows.Item.TheVariants as items_are
use Rattle.presence_metas.specs.declared.tracked.TrackedMeta.{TrackedMeta}
use Rattle.presence_metas.specs.Listing.{Listing, at, without_key, entered}
use Rattle.presence_metas.specs.Rows.{members_in, with_prev, tracked_of, add_row, listing_of}
use Rattle.presence_metas.specs.Values.{metas_value, with_key, state_of, diff_of}
use Rattle.channel_rules.specs.Frames.{message_of}
use Rattle.channel_rules.specs.Rules.{told_ref}
use Rattle.presence_metas.proofs.Whole.{put_whole}

-- the value nests no deeper, has no fraction, and is as a value that was read
pub record IsSound (max_depth : ℕ) (d : Data) : Type 0 where
  pub shallow : depth d ≤ max_depth
  pub whole : has_float d ≡ false
  pub orderly : IsOrderly d

-- the message is one that a client may read, whatever its length
abbrev pub IsFramed : Message → Type 0
IsFramed m = IsWithin the_limits.FRAME.depth m × IsOrderly (value_of m)

-- the message is one that was decoded of a client's text
abbrev pub IsHeard : Message → Type 0
IsHeard m = IsWithin the_limits.CLIENT.depth m × IsOrderly (value_of m)

pub record MembersSound (n : ℕ) (ms : Members) : Type 0 where
  pub shallow : members_depth ms ≤ n
  pub whole : members_have_float ms ≡ false
  pub orderly : MembersAreOrderly ms

pub record ItemsSound (n : ℕ) (ds : Items) : Type 0 where
  pub shallow : items_depth ds ≤ n
  pub whole : items_have_float ds ≡ false
  pub orderly : AreOrderly ds

or_false : (a b : Bool) → a ≡ false → b ≡ false → (a || b) ≡ false
or_false true b h k = h
or_false false b h k = k

deeper_depth : (k : List ℕ) (d : Data) (ms : Members) (n : ℕ) → depth d ≤ n → members_depth ms ≤ n → members_depth (put_member k d ms) ≤ n
deeper_depth k d no_members n h i = omega arith
deeper_depth k d (member l e ms) n h i = go (slice_cmp nat_cmp k l) (deeper_depth k d ms n h (omega arith))
  where
    go : (o : Ordering) → members_depth (put_member k d ms) ≤ n → members_depth (match_ordering o (member k d (member l e ms)) (member l d ms) (member l e (put_member k d ms))) ≤ n
    go Less more = omega arith
    go Equal more = omega arith
    go Greater more = omega arith

put_sound : (n : ℕ) (k : List ℕ) (d : Data) (ms : Members) → IsSound n d → MembersSound n ms → MembersSound n (put_member k d ms)
put_sound n k d ms h i = record {
  shallow = deeper_depth k d ms n h.shallow i.shallow;
  whole = put_whole k d ms h.whole i.whole;
  orderly = put_orderly k d ms h.orderly i.orderly;
}

no_members_sound : (n : ℕ) → MembersSound n no_members
no_members_sound n = record { shallow = omega arith; whole = refl; orderly = tt }

member_sound : (n : ℕ) (k : List ℕ) (d : Data) → IsSound n d → MembersSound n (member k d no_members)
member_sound n k d h = put_sound n k d no_members h (no_members_sound n)

object_sound : (n : ℕ) (ms : Members) → MembersSound n ms → IsSound (suc n) (object ms)
object_sound n ms h = record { shallow = let l = h.shallow in omega arith; whole = h.whole; orderly = h.orderly }

array_sound : (n : ℕ) (ds : Items) → ItemsSound n ds → IsSound (suc n) (array ds)
array_sound n ds h = record { shallow = let l = h.shallow in omega arith; whole = h.whole; orderly = h.orderly }

string_sound : (n : ℕ) (s : List ℕ) → IsSound n (string s)
string_sound n s = record { shallow = omega arith; whole = refl; orderly = tt }

pub less_sound : (m n : ℕ) (d : Data) → m ≤ n → IsSound m d → IsSound n d
less_sound m n d h i = record { shallow = let l = i.shallow in omega arith; whole = i.whole; orderly = i.orderly }

members_in_sound : (n : ℕ) (d : Data) → IsSound n d → MembersSound n (members_in d)
members_in_sound n null h = no_members_sound n
members_in_sound n (boolean b) h = no_members_sound n
members_in_sound n (number x) h = no_members_sound n
members_in_sound n (string s) h = no_members_sound n
members_in_sound n (array ds) h = no_members_sound n
members_in_sound n (object ms) h = record { shallow = let l = h.shallow in omega arith; whole = h.whole; orderly = h.orderly }

prev_sound : (n : ℕ) (prev : Option Dot) (ms : Members) → MembersSound n ms → MembersSound n (with_prev prev ms)
prev_sound n None ms h = h
prev_sound n (Some d) ms h = put_sound n (codes "phx_ref_prev") (string (ref_of d)) ms (string_sound n (ref_of d)) h

-- ---- lists of metas

abbrev IsSoundMeta : TrackedMeta → Type 0
IsSoundMeta t = IsSound 33 t.meta

abbrev MetasSound : List TrackedMeta → Type 0
MetasSound = AllByRecursion IsSoundMeta

abbrev ListingSound : Listing → Type 0
ListingSound = AllByRecursion (λ e. MetasSound e.1)

abbrev pub RowsSound : List (Dot × Row) → Type 0
RowsSound = AllByRecursion (λ x. IsSound 32 x.1.meta)

tracked_sound : (d : Dot) (r : Row) → IsSound 32 r.meta → IsSoundMeta (tracked_of d r)
tracked_sound d r h =
    object_sound 32 (with_prev r.prev (put_member (codes "phx_ref") (string (ref_of d)) (members_in r.meta)))
    (prev_sound 32 r.prev (put_member (codes "phx_ref") (string (ref_of d)) (members_in r.meta))
    (put_sound 32 (codes "phx_ref") (string (ref_of d)) (members_in r.meta) (string_sound 32 (ref_of d)) (members_in_sound 32 r.meta h)))

metas_more : (ts : List TrackedMeta) (t : TrackedMeta) → MetasSound ts → IsSoundMeta t → MetasSound (ts ++ t ∷ [])
metas_more [] t h k = (k, tt)
metas_more (u ∷ ts) t h k = (h.0, metas_more ts t h.1 k)

found_sound : (b : Bool) (ts : List TrackedMeta) (rest : Option (List TrackedMeta)) → MetasSound ts → MetasSound (unwrap_or rest []) → MetasSound (unwrap_or (cond b (Some ts) rest) [])
found_sound true ts rest h k = h
found_sound false ts rest h k = k

at_sound : (test : List ℕ → Bool) (ls : Listing) → ListingSound ls → MetasSound (unwrap_or (lookup test ls) [])
at_sound test [] h = tt
at_sound test (e ∷ es) h = found_sound (test e.0) e.1 (lookup test es) h.0 (at_sound test es h.1)

left_sound : (b : Bool) (e : List ℕ × List TrackedMeta) (es rest : Listing) → MetasSound e.1 → ListingSound es → ListingSound rest → ListingSound (cond b es (e ∷ rest))
left_sound true e es rest h k l = k
left_sound false e es rest h k l = (h, l)

without_sound : (test : List ℕ → Bool) (ls : Listing) → ListingSound ls → ListingSound (remove_entry test ls)
without_sound test [] h = tt
without_sound test (e ∷ es) h = left_sound (test e.0) e es (remove_entry test es) h.0 h.1 (without_sound test es h.1)

placed_sound : (o : Ordering) (k : List ℕ) (ts : List TrackedMeta) (e : List ℕ × List TrackedMeta) (es rest : Listing) → MetasSound ts → MetasSound e.1 → ListingSound es → ListingSound rest
    → ListingSound (match_ordering o ((k, ts) ∷ e ∷ es) ((e.0, ts) ∷ es) (e ∷ rest))
placed_sound Less k ts e es rest h i j l = (h, (i, j))
placed_sound Equal k ts e es rest h i j l = (h, j)
placed_sound Greater k ts e es rest h i j l = (i, l)

inserted_sound : (ls : Listing) (k : List ℕ) (ts : List TrackedMeta) → ListingSound ls → MetasSound ts → ListingSound (insert_entry text_cmp ls k ts)
inserted_sound [] k ts h i = (i, tt)
inserted_sound (e ∷ es) k ts h i = placed_sound (text_cmp k e.0) k ts e es (insert_entry text_cmp es k ts) i h.0 h.1 (inserted_sound es k ts h.1 i)

entered_sound : (ls : Listing) (k : List ℕ) (ts : List TrackedMeta) → ListingSound ls → MetasSound ts → ListingSound (entered ls k ts)
entered_sound ls k [] h i = h
entered_sound ls k (t ∷ ts) h i = inserted_sound ls k (t ∷ ts) h i

row_sound : (ls : Listing) (x : Dot × Row) → ListingSound ls → IsSound 32 x.1.meta → ListingSound (add_row ls x)
row_sound ls x h i = entered_sound (without_key ls x.1.key) x.1.key (at ls x.1.key ++ tracked_of x.0 x.1 ∷ []) (without_sound (is_at (text_cmp x.1.key)) ls h)
    (metas_more (at ls x.1.key) (tracked_of x.0 x.1) (at_sound (is_at (text_cmp x.1.key)) ls h) (tracked_sound x.0 x.1 i))

rows_sound : (rows : List (Dot × Row)) (ls : Listing) → ListingSound ls → RowsSound rows → ListingSound (fold add_row ls rows)
rows_sound [] ls h i = h
rows_sound (x ∷ xs) ls h i = rows_sound xs (add_row ls x) (row_sound ls x h i.0) i.1

-- ---- their objects

items_sound : (ts : List TrackedMeta) → MetasSound ts → ItemsSound 33 (items_of (map (λ t. t.meta) ts))
items_sound [] h = record { shallow = omega arith; whole = refl; orderly = tt }
items_sound (t ∷ ts) h =
    let more : ItemsSound 33 (items_of (map (λ t. t.meta) ts)) = items_sound ts h.1 in
    record {
      shallow = let l = h.0.shallow in let k = more.shallow in omega arith;
      whole = or_false (has_float t.meta) (items_have_float (items_of (map (λ t. t.meta) ts))) h.0.whole more.whole;
      orderly = (h.0.orderly, more.orderly);
    }

value_sound : (ts : List TrackedMeta) → MetasSound ts → IsSound 35 (metas_value ts)
value_sound ts h =
    object_sound 34 (member (codes "metas") (array (items_of (map (λ t. t.meta) ts))) no_members)
    (member_sound 34 (codes "metas") (array (items_of (map (λ t. t.meta) ts))) (array_sound 33 (items_of (map (λ t. t.meta) ts)) (items_sound ts h)))

keys_sound : (ls : Listing) (ms : Members) → ListingSound ls → MembersSound 35 ms → MembersSound 35 (fold with_key ms ls)
keys_sound [] ms h i = i
keys_sound (e ∷ es) ms h i = keys_sound es (with_key ms e) h.1 (put_sound 35 e.0 (metas_value e.1) ms (value_sound e.1 h.0) i)

pub state_sound : (rows : List (Dot × Row)) → RowsSound rows → IsSound 36 (state_of rows)
unfolding listing_of
state_sound rows h = object_sound 35 (fold with_key no_members (fold add_row [] rows)) (keys_sound (fold add_row [] rows) no_members (rows_sound rows [] tt h) (no_members_sound 35))

-- an object of two members whose names come in order
pair_sound : (n : ℕ) (k l : List ℕ) (d e : Data) → slice_cmp nat_cmp k l ≡ Less → IsSound n d → IsSound n e → IsSound (suc n) (object (member k d (member l e no_members)))
pair_sound n k l d e below h i = record {
  shallow = let a = h.shallow in let b = i.shallow in omega arith;
  whole = or_false (has_float d) _ h.whole (or_false (has_float e) false i.whole refl);
  orderly = (below, h.orderly, (tt, i.orderly, tt));
}

diff_sound : (joins leaves : List (Dot × Row)) → RowsSound joins → RowsSound leaves → IsSound 37 (diff_of joins leaves)
diff_sound joins leaves h i = pair_sound 36 (codes "joins") (codes "leaves") (state_of joins) (state_of leaves) refl (state_sound joins h) (state_sound leaves i)

-- ---- responses

pub empty_sound : (n : ℕ) → IsSound (suc n) (object no_members)
empty_sound n = object_sound n no_members (no_members_sound n)

pub told_sound : (d : Dot) → IsSound 1 (told_ref d)
told_sound d = object_sound 0 (member (codes "phx_ref") (string (ref_of d)) no_members) (member_sound 0 (codes "phx_ref") (string (ref_of d)) (string_sound 0 (ref_of d)))

reason_sound : (reason : List ℕ) → IsSound 1 (reason_value reason)
reason_sound reason = object_sound 0 (member (codes "reason") (string reason) no_members) (member_sound 0 (codes "reason") (string reason) (string_sound 0 reason))

-- ---- messages

abbrev pub RefSound : Option MsgRef → Type 0
RefSound r = IsOrderly (ref_value r)

-- the parts of a message are within the limits of a frame
framed : (m : Message) → RefSound m.join_ref → RefSound m.msg_ref → IsWithin 96 m → IsOrderly m.payload → IsFramed m
framed m j r within payload = (within, (j, (r, (tt, (tt, (payload, tt))))))

pub reply_framed : (join_ref msg_ref : Option MsgRef) (topic : List ℕ) (status : Status) (response : Data) → IsTrue (is_short_text topic) → RefSound join_ref → RefSound msg_ref → IsSound 90 response
    → IsFramed (reply_of join_ref msg_ref topic status response)
reply_framed join_ref msg_ref topic status response short j r h =
    let p : IsSound 91 (reply_value status response) = pair_sound 90 (codes "response") (codes "status") response (string (status_text status)) refl h (string_sound 90 (status_text status)) in
    framed (reply_of join_ref msg_ref topic status response) j r (record { topic = short; event = refl; shallow = let l = p.shallow in omega arith; whole = p.whole }) p.orderly

pub error_framed : (join_ref msg_ref : Option MsgRef) (topic : List ℕ) (reason : List ℕ) → IsTrue (is_short_text topic) → RefSound join_ref → RefSound msg_ref
    → IsFramed (reply_of join_ref msg_ref topic status_is.Error (reason_value reason))
error_framed join_ref msg_ref topic reason short j r = reply_framed join_ref msg_ref topic status_is.Error (reason_value reason) short j r (less_sound 1 90 (reason_value reason) (omega arith) (reason_sound reason))

pub closing_framed : (join_ref : Option MsgRef) (topic : List ℕ) → IsTrue (is_short_text topic) → RefSound join_ref → IsFramed (closing join_ref topic)
closing_framed join_ref topic short j =
    let p : IsSound 1 (object no_members) = empty_sound 0 in
    framed (closing join_ref topic) j j (record { topic = short; event = refl; shallow = let l = p.shallow in omega arith; whole = p.whole }) p.orderly

abbrev pub ItemSound : Item → Type 0
ItemSound (items_are.State rows) = RowsSound rows
ItemSound (items_are.Diff d) = RowsSound d.joins × RowsSound d.leaves
ItemSound (items_are.Shout payload) = IsSound 64 payload

pub item_framed : (join_ref : Option MsgRef) (topic : List ℕ) (i : Item) → IsTrue (is_short_text topic) → RefSound join_ref → ItemSound i → IsFramed (message_of join_ref topic i)
item_framed join_ref topic (items_are.State rows) short j h =
    let p : IsSound 36 (state_of rows) = state_sound rows h in
    framed (push_of join_ref topic (codes "presence_state") (state_of rows)) j tt (record { topic = short; event = refl; shallow = let l = p.shallow in omega arith; whole = p.whole }) p.orderly
item_framed join_ref topic (items_are.Diff d) short j h =
    let p : IsSound 37 (diff_of d.joins d.leaves) = diff_sound d.joins d.leaves h.0 h.1 in
    framed (broadcast_of topic (codes "presence_diff") (diff_of d.joins d.leaves)) tt tt (record { topic = short; event = refl; shallow = let l = p.shallow in omega arith; whole = p.whole }) p.orderly
item_framed join_ref topic (items_are.Shout payload) short j h =
    framed (broadcast_of topic (codes "shout") payload) tt tt (record { topic = short; event = refl; shallow = let l = h.shallow in omega arith; whole = h.whole }) h.orderly
