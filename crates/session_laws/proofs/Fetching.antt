-- What tells with orderly fetched members what is plainly told within a frame's limits is itself within them.
use Rattle.std.proofs.Common.{◌≡◌, ◌≤◌, ◌&&◌, ◌||◌, ℕ, suc, Bool, true, false, not, nat_le, length, List, [], ◌∷◌, map, fold, codes, refl, sym, subst, arith}
use Rattle.std.specs.List.{AllByRecursion}
use Rattle.std.specs.Str.{bytes_eq}
use Rattle.std.specs.declared.cmp.Ordering.{Ordering}
use Rattle.std.specs.declared.cmp.Ordering.TheVariants.{Less, Equal, Greater}
use Rattle.std.specs.Ordering.{nat_cmp, match_ordering}
use Rattle.std.specs.Cmp.Lexicographic.{slice_cmp}
use Rattle.std.proofs.lemmas.Bool.{and_parts, leb-true}
use Rattle.serde_json.specs.Data.{Data, array, object, Members, no_members, member, put as put_member, depth, members_depth}
use Rattle.serde_json.specs.Events.{members_len}
use Rattle.serde_json.specs.View.{items_of}
use Rattle.serde_json.specs.Written.{has_float, members_have_float}
use Rattle.hook_registry.specs.Extras.{is_extra_member, all_extra_members, is_extra}
use Rattle.hook_registry.specs.Rendered.{Extras, with_metas, key_value, state_with, Fetched}
use Rattle.phx_message.specs.Making.{reply_value}
use Rattle.phx_message.specs.Orderly.{IsBelow, MembersAreOrderly}
use Rattle.phx_message.specs.declared.making.Status.TheVariants as status_is
use Rattle.phx_message.specs.declared.message.Message.{Message}
use Rattle.phx_message.proofs.Orderly.{put_orderly}
use Rattle.presence_base.specs.declared.dots.Dot.{Dot}
use Rattle.presence_base.specs.declared.row.Row.{Row}
use Rattle.presence_journal.specs.declared.rows.Item.TheVariants as items_are
use Rattle.presence_metas.specs.declared.tracked.TrackedMeta.{TrackedMeta}
use Rattle.presence_metas.specs.Listing.{Listing}
use Rattle.presence_metas.specs.Rows.{listing_of}
use Rattle.presence_metas.specs.Values.{metas_value, with_key, state_of}
use Rattle.presence_metas.proofs.Whole.{put_whole}
use Rattle.session_laws.proofs.SoundValues.{IsSound, MembersSound, IsFramed}
use Rattle.channel_rules.specs.Said.{Said, message, listed, told, plainly, EachBy, Tells, Worded}

left_false : (a b : Bool) → (a || b) ≡ false → a ≡ false
left_false true b e = e
left_false false b e = refl

right_false : (a b : Bool) → (a || b) ≡ false → b ≡ false
right_false true b e = absurd (cc)
right_false false b e = e

both_false : (a b : Bool) → a ≡ false → b ≡ false → (a || b) ≡ false
both_false true b h k = h
both_false false b h k = k

not_true : (b : Bool) → not b ≡ true → b ≡ false
not_true true e = absurd (cc)
not_true false e = refl

deeper_depth : (k : List ℕ) (d : Data) (ms : Members) (n : ℕ) → depth d ≤ n → members_depth ms ≤ n → members_depth (put_member k d ms) ≤ n
deeper_depth k d no_members n h i = omega arith
deeper_depth k d (member l e ms) n h i = go (slice_cmp nat_cmp k l) (deeper_depth k d ms n h (omega arith))
  where
    go : (o : Ordering) → members_depth (put_member k d ms) ≤ n → members_depth (match_ordering o (member k d (member l e ms)) (member l d ms) (member l e (put_member k d ms))) ≤ n
    go Less more = omega arith
    go Equal more = omega arith
    go Greater more = omega arith

put_sound : (n : ℕ) (k : List ℕ) (d : Data) (ms : Members) → IsSound n d → MembersSound n ms → MembersSound n (put_member k d ms)
put_sound n k d ms h i = record {
  shallow = deeper_depth k d ms n h.shallow i.shallow;
  whole = put_whole k d ms h.whole i.whole;
  orderly = put_orderly k d ms h.orderly i.orderly;
}

-- ---- members of the same names, the second sound where the first are

abbrev Alike : ℕ → Members → Members → Type 0
Alike n no_members no_members = Unit {0}
Alike n (member k d ms) (member l e ns) = (k ≡ l) × (IsSound n d → IsSound n e) × Alike n ms ns
Alike n _ _ = ⊥

put_alike : (n : ℕ) (k : List ℕ) (d e : Data) (ms ns : Members) → (IsSound n d → IsSound n e) → Alike n ms ns → Alike n (put_member k d ms) (put_member k e ns)
put_alike n k d e no_members no_members f h = (refl, f, tt)
put_alike n k d e no_members (member l y ns) f h = absurd h
put_alike n k d e (member l x ms) no_members f h = absurd h
put_alike n k d e (member l x ms) (member j y ns) f h =
    subst (λ z. Alike n (put_member k d (member l x ms)) (put_member k e (member z y ns))) h.0 (go (slice_cmp nat_cmp k l) (put_alike n k d e ms ns f h.2))
  where
    go : (o : Ordering) → Alike n (put_member k d ms) (put_member k e ns)
        → Alike n (match_ordering o (member k d (member l x ms)) (member l d ms) (member l x (put_member k d ms)))
        (match_ordering o (member k e (member l y ns)) (member l e ns) (member l y (put_member k e ns)))
    go Less more = (refl, f, (refl, h.1, h.2))
    go Equal more = (refl, f, h.2)
    go Greater more = (refl, h.1, more)

below_alike : (n : ℕ) (k : List ℕ) (ms ns : Members) → Alike n ms ns → IsBelow k ms → IsBelow k ns
below_alike n k no_members no_members h b = tt
below_alike n k no_members (member l y ns) h b = absurd h
below_alike n k (member l x ms) no_members h b = absurd h
below_alike n k (member l x ms) (member j y ns) h b = subst (λ z. slice_cmp nat_cmp k z ≡ Less) h.0 b

first_sound : (n : ℕ) (k : List ℕ) (d : Data) (ms : Members) → MembersSound n (member k d ms) → IsSound n d
first_sound n k d ms h = record { shallow = let l = h.shallow in omega arith; whole = left_false (has_float d) (members_have_float ms) h.whole; orderly = h.orderly.1 }

rest_sound : (n : ℕ) (k : List ℕ) (d : Data) (ms : Members) → MembersSound n (member k d ms) → MembersSound n ms
rest_sound n k d ms h = record { shallow = let l = h.shallow in omega arith; whole = right_false (has_float d) (members_have_float ms) h.whole; orderly = h.orderly.2 }

then_sound : (n : ℕ) (k : List ℕ) (d : Data) (ms : Members) → IsBelow k ms → IsSound n d → MembersSound n ms → MembersSound n (member k d ms)
then_sound n k d ms b h i = record {
  shallow = let l = h.shallow in let m = i.shallow in omega arith;
  whole = both_false (has_float d) (members_have_float ms) h.whole i.whole;
  orderly = (b, h.orderly, i.orderly);
}

alike_sound : (n : ℕ) (ms ns : Members) → Alike n ms ns → MembersSound n ms → MembersSound n ns
alike_sound n no_members no_members h i = i
alike_sound n no_members (member l y ns) h i = absurd h
alike_sound n (member l x ms) no_members h i = absurd h
alike_sound n (member l x ms) (member j y ns) h i =
    then_sound n j y ns (below_alike n j ms ns h.2 (subst (λ z. IsBelow z ms) h.0 i.orderly.0)) (h.1 (first_sound n l x ms i)) (alike_sound n ms ns h.2 (rest_sound n l x ms i))

members_of : (n : ℕ) (ms : Members) → IsSound (suc n) (object ms) → MembersSound n ms
members_of n ms h = record { shallow = let l = h.shallow in omega arith; whole = h.whole; orderly = h.orderly }

object_of : (n : ℕ) (ms : Members) → MembersSound n ms → IsSound (suc n) (object ms)
object_of n ms h = record { shallow = let l = h.shallow in omega arith; whole = h.whole; orderly = h.orderly }

object_alike : (n : ℕ) (ms ns : Members) → Alike n ms ns → IsSound (suc n) (object ms) → IsSound (suc n) (object ns)
object_alike n ms ns h i = object_of n ns (alike_sound n ms ns h (members_of n ms i))

-- ---- the members of an extra

extra_value : (n : ℕ) (k : List ℕ) (d : Data) (ms : Members) → 32 ≤ n → is_extra_member k d ≡ true → MembersAreOrderly (member k d ms) → IsSound n d
extra_value n k d ms low h o =
    let a = and_parts (nat_le 1 (length k) && nat_le (length k) 64 && not (bytes_eq k (codes "metas")) && nat_le (depth d) 32) (not (has_float d)) h in
    let b = and_parts (nat_le 1 (length k) && nat_le (length k) 64 && not (bytes_eq k (codes "metas"))) (nat_le (depth d) 32) a.0 in
    record { shallow = let l : depth d ≤ 32 = leb-true (depth d) 32 b.1 in omega arith; whole = not_true (has_float d) a.1; orderly = o.1 }

extra_sound : (n : ℕ) (ms : Members) → 32 ≤ n → all_extra_members ms ≡ true → MembersAreOrderly ms → MembersSound n ms
extra_sound n no_members low h o = record { shallow = omega arith; whole = refl; orderly = tt }
extra_sound n (member k d ms) low h o =
    let parts = and_parts (is_extra_member k d) (all_extra_members ms) h in
    then_sound n k d ms o.0 (extra_value n k d ms low parts.0 o) (extra_sound n ms low parts.1 o.2)

-- ---- rows

abbrev metas_of : List TrackedMeta → Data
metas_of ts = array (items_of (map (λ t. t.meta) ts))

key_alike : (n : ℕ) (ts : List TrackedMeta) (ms : Members) → 32 ≤ n → is_extra ms ≡ true → MembersAreOrderly ms → IsSound (suc n) (metas_value ts) → IsSound (suc n) (object (with_metas ts ms))
key_alike n ts ms low h o i =
    object_of n (with_metas ts ms)
    (put_sound n (codes "metas") (metas_of ts) ms (first_sound n (codes "metas") (metas_of ts) no_members (members_of n _ i)) (extra_sound n ms low (and_parts (nat_le (members_len ms) 16) (all_extra_members ms) h).1 o))

module _ (answers : List ℕ → Members → Type 0) (orderly : (k : List ℕ) (e : Members) → answers k e → MembersAreOrderly e) (n : ℕ) (low : 32 ≤ n) where
  keys_alike : (extras : Extras) (ls : Listing) (ms ns : Members) → Fetched answers extras ls → Alike (suc n) ms ns → Alike (suc n) (fold with_key ms ls) (fold (λ ms e. put_member e.0 (key_value extras e) ms) ns ls)
  keys_alike extras [] ms ns f h = h
  keys_alike extras (e ∷ ls) ms ns f h =
      keys_alike extras ls (with_key ms e) (put_member e.0 (key_value extras e) ns) f.1
      (put_alike (suc n) e.0 (metas_value e.1) (key_value extras e) ms ns (key_alike n e.1 (extras e.0) low f.0.0 (orderly e.0 (extras e.0) f.0.1)) h)

  state_alike : (extras : Extras) (rows : List (Dot × Row)) → Fetched answers extras (listing_of rows) → IsSound (suc (suc n)) (state_of rows) → IsSound (suc (suc n)) (state_with extras rows)
  state_alike extras rows f = object_alike (suc n) _ _ (keys_alike extras (listing_of rows) no_members no_members f tt)

-- ---- messages

reframed : (m : Message) (d : Data) → (IsSound 96 m.payload → IsSound 96 d) → IsFramed m → IsFramed (record { join_ref = m.join_ref; msg_ref = m.msg_ref; topic = m.topic; event = m.event; payload = d })
reframed m d f h =
    let s : IsSound 96 d = f (record { shallow = h.0.shallow; whole = h.0.whole; orderly = h.1.1.1.1.1.0 }) in
    (record { topic = h.0.topic; event = h.0.event; shallow = s.shallow; whole = s.whole }, (h.1.0, (h.1.1.0, (tt, (tt, (s.orderly, tt))))))

module _ (fetched : ℕ → List ℕ → List ℕ → Members → Type 0) (orderly : (kind : ℕ) (t k : List ℕ) (e : Members) → fetched kind t k e → MembersAreOrderly e) where
  tells_framed : (x : Said) (m : Message) → Tells fetched x m → IsFramed (plainly x) → IsFramed m
  tells_framed (message n) m h f = subst IsFramed (sym h) f
  tells_framed (listed kind r n rows) m h f =
      subst IsFramed (sym h.2) (reframed (plainly (listed kind r n rows)) (reply_value status_is.Ok h.0)
      (object_alike 95 _ _ (refl, (λ s. subst (IsSound 95) (sym h.1.2) (state_alike (fetched kind n.topic) (orderly kind n.topic) 93 (omega arith) h.1.0 rows h.1.1 s)), (refl, (λ s. s), tt))) f)
  tells_framed (told j (items_are.State rows)) m h f =
      subst IsFramed (sym h.2) (reframed (plainly (told j (items_are.State rows))) h.0
      (λ s. subst (IsSound 96) (sym h.1.2) (state_alike (fetched j.kind j.topic) (orderly j.kind j.topic) 94 (omega arith) h.1.0 rows h.1.1 s)) f)
  tells_framed (told j (items_are.Diff r)) m h f =
      subst IsFramed (sym h.2) (reframed (plainly (told j (items_are.Diff r))) h.0
      (λ s. subst (IsSound 96) (sym h.1.4) (object_alike 95 _ _ (
        refl,
        state_alike (fetched j.kind j.topic) (orderly j.kind j.topic) 93 (omega arith) h.1.0 r.joins h.1.2,
        (refl, state_alike (fetched j.kind j.topic) (orderly j.kind j.topic) 93 (omega arith) h.1.1 r.leaves h.1.3, tt),
      ) s)) f)
  tells_framed (told j (items_are.Shout payload)) m h f = subst IsFramed (sym h) f

  pub worded_framed : (plain : Bool) (said : List Said) (ms : List Message) → EachBy (Worded fetched plain) said ms → AllByRecursion IsFramed (map plainly said) → AllByRecursion IsFramed ms
  worded_framed plain [] [] h f = tt
  worded_framed plain [] (m ∷ ms) h f = absurd h
  worded_framed plain (x ∷ said) [] h f = absurd h
  worded_framed plain (x ∷ said) (m ∷ ms) h f = (tells_framed x m h.0.0 f.0, worded_framed plain said ms h.1 f.1)
