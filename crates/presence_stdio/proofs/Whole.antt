-- Frames without floats are folded to an object without floats.
use Rattle.std.proofs.Common.{◌≡◌, ◌+◌, ℕ, List, [], ◌∷◌, ◌++◌, Bool, true, false, cond, not, ◌&&◌, ◌||◌, map, nat_lt, length, Option, Some, None, Result, Ok, Err, unwrap_or, refl, ap, sym, ◌∙◌}
use Rattle.std.specs.Prelude.{codes}
use Rattle.std.specs.declared.cmp.Ordering.{Ordering}
use Rattle.std.specs.declared.cmp.Ordering.TheVariants.{Less, Equal, Greater}
use Rattle.std.specs.Ordering.{nat_cmp, match_ordering}
use Rattle.std.specs.Cmp.Lexicographic.{slice_cmp}
use Rattle.std.specs.List.{fold, filter, list_all}
use Rattle.std.specs.Map.{lookup, remove_entry}
use Rattle.std.specs.BTreeMap.{is_at, insert_entry}
use Rattle.std.specs.Str.{bytes_eq, is_utf8}
use Rattle.serde_json.specs.Data.{Data, null, boolean, number, string, array, object, Items, no_items, item, Members, no_members, member, put as put_member}
use Rattle.serde_json.specs.Find.{get, get_member}
use Rattle.serde_json.specs.View.{items_of}
use Rattle.serde_json.specs.Written.{has_float, items_have_float, members_have_float}
use Rattle.presence_base.specs.Order.{text_cmp}
use Rattle.phx_message.specs.declared.message.Message.{Message}
use Rattle.phx_message.specs.declared.message.MessageFault.{MessageFault}
use Rattle.phx_message.specs.declared.message.MessageFault.TheVariants.{TooLong, NotJson}
use Rattle.phx_message.specs.declared.message.TheConstants.Limits as the_limits
use Rattle.phx_message.specs.Reading.{decoded}
use Rattle.phx_message.proofs.Decoded.{decoded_found}
use Rattle.presence_metas.specs.declared.tracked.TrackedMeta.{TrackedMeta}
use Rattle.presence_metas.specs.declared.presences.Diff.{Diff}
use Rattle.presence_metas.specs.declared.frame.Frame.{Frame}
use Rattle.presence_metas.specs.declared.frame.Frame.TheVariants as frame_is
use Rattle.presence_metas.specs.declared.frame.FrameFault.{FrameFault}
use Rattle.presence_metas.specs.declared.frame.FrameFault.TheVariants.{NotPresence, BadShape, NoRef, OutOfMemory}
use Rattle.presence_metas.specs.Fold.{after_frame}
use Rattle.presence_metas.specs.Frames.{◌>>=◌, with_ref, text_ref, tracked_in, metas_into, items_in, metas_in, listing_into, listing_in, some_listing_in, is_listing, is_diff, state_in, diff_in, frame_in}
use Rattle.presence_metas.specs.Listing.{Listing, at, without_key, put, is_named, left_metas, joined_metas, join_key, leave_key, applied}
use Rattle.presence_metas.specs.Values.{metas_value, with_key, listing_value}
use Rattle.presence_stdio.specs.Folding.{fold_frame, fold_message, fold_line, fold_on, folded}
use Rattle.presence_stdio.specs.Mirrors.{Mirrors, held, without_topic, with_frame, with_topic, mirrors_value}
use Rattle.presence_stdio.specs.Reading.{message_in, frame_message, frame_limit}
use Rattle.presence_stdio.specs.declared.fold_fault.FoldFault.{FoldFault}

true_differs : {P : Type 0} → false ≡ true → P
true_differs e = cc

err_differs : {A E P : Type 0} (e : E) (x : A) → Err e ≡ Ok x → P
err_differs e x h = cc

ok_same : {A E : Type 0} (x y : A) → (let r : Result A E = Ok x in r) ≡ Ok y → x ≡ y
ok_same x y h = cc

both : (a b : Bool) → a ≡ true → b ≡ true → (a && b) ≡ true
both true b h k = k
both false b h k = h

left_of : (a b : Bool) → (a && b) ≡ true → a ≡ true
left_of true b h = refl
left_of false b h = h

right_of : (a b : Bool) → (a && b) ≡ true → b ≡ true
right_of true b h = h
right_of false b h = true_differs h

neither : (a b : Bool) → a ≡ false → b ≡ false → (a || b) ≡ false
neither true b h k = h
neither false b h k = k

not_left : (a b : Bool) → (a || b) ≡ false → a ≡ false
not_left true b h = h
not_left false b h = refl

not_right : (a b : Bool) → (a || b) ≡ false → b ≡ false
not_right true b h = true_differs (sym h)
not_right false b h = h

is_not : (b : Bool) → not b ≡ true → b ≡ false
is_not true h = sym h
is_not false h = refl

-- ---- lists whose items pass a test

module _ {X : Type 0} (test : X → Bool) where
  all_append : (xs ys : List X) → list_all test xs ≡ true → list_all test ys ≡ true → list_all test (xs ++ ys) ≡ true
  all_append [] ys h k = k
  all_append (x ∷ xs) ys h k = both (test x) (list_all test (xs ++ ys)) (left_of (test x) (list_all test xs) h) (all_append xs ys (right_of (test x) (list_all test xs) h) k)

  all_filter : (keeps : X → Bool) (xs : List X) → list_all test xs ≡ true → list_all test (filter keeps xs) ≡ true
  all_filter keeps [] h = h
  all_filter keeps (x ∷ xs) h = at_test (keeps x) (left_of (test x) (list_all test xs) h) (all_filter keeps xs (right_of (test x) (list_all test xs) h))
    where
      at_test : (b : Bool) → test x ≡ true → list_all test (filter keeps xs) ≡ true → list_all test (cond b (x ∷ filter keeps xs) (filter keeps xs)) ≡ true
      at_test true h k = both (test x) (list_all test (filter keeps xs)) h k
      at_test false h k = k

-- ---- entries whose values pass a test

module _ {X : Type 0} (test : X → Bool) where
  abbrev values_pass : List (List ℕ × X) → Bool
  values_pass es = list_all (λ e. test e.1) es

  all_removed : (gone : List ℕ → Bool) (es : List (List ℕ × X)) → values_pass es ≡ true → values_pass (remove_entry gone es) ≡ true
  all_removed gone [] h = h
  all_removed gone (e ∷ es) h = at_test (gone e.0) (left_of (test e.1) (values_pass es) h) (right_of (test e.1) (values_pass es) h) (all_removed gone es (right_of (test e.1) (values_pass es) h))
    where
      at_test : (b : Bool) → test e.1 ≡ true → values_pass es ≡ true → values_pass (remove_entry gone es) ≡ true → values_pass (cond b es (e ∷ remove_entry gone es)) ≡ true
      at_test true h k l = k
      at_test false h k l = both (test e.1) (values_pass (remove_entry gone es)) h l

  all_inserted : (k : List ℕ) (v : X) (es : List (List ℕ × X)) → test v ≡ true → values_pass es ≡ true → values_pass (insert_entry text_cmp es k v) ≡ true
  all_inserted k v [] h i = both (test v) true h refl
  all_inserted k v (e ∷ es) h i =
      at_order (text_cmp k e.0) (left_of (test e.1) (values_pass es) i) (right_of (test e.1) (values_pass es) i) (all_inserted k v es h (right_of (test e.1) (values_pass es) i))
    where
      at_order : (o : Ordering) → test e.1 ≡ true → values_pass es ≡ true → values_pass (insert_entry text_cmp es k v) ≡ true
          → values_pass (match_ordering o ((k, v) ∷ e ∷ es) ((e.0, v) ∷ es) (e ∷ insert_entry text_cmp es k v)) ≡ true
      at_order Less f r l = both (test v) (values_pass (e ∷ es)) h i
      at_order Equal f r l = both (test v) (values_pass es) h r
      at_order Greater f r l = both (test e.1) (values_pass (insert_entry text_cmp es k v)) f l

  found_passes : (k : List ℕ) (none : X) (es : List (List ℕ × X)) → test none ≡ true → values_pass es ≡ true → test (unwrap_or (lookup (is_at (text_cmp k)) es) none) ≡ true
  found_passes k none [] h i = h
  found_passes k none (e ∷ es) h i = at_test (is_at (text_cmp k) e.0) (left_of (test e.1) (values_pass es) i) (found_passes k none es h (right_of (test e.1) (values_pass es) i))
    where
      at_test : (b : Bool) → test e.1 ≡ true → test (unwrap_or (lookup (is_at (text_cmp k)) es) none) ≡ true → test (unwrap_or (cond b (Some e.1) (lookup (is_at (text_cmp k)) es)) none) ≡ true
      at_test true f l = f
      at_test false f l = l

-- ---- lists without floats

abbrev is_whole_meta : TrackedMeta → Bool
is_whole_meta t = not (has_float t.meta)

abbrev are_whole_metas : List TrackedMeta → Bool
are_whole_metas ts = list_all is_whole_meta ts

abbrev is_whole_listing : Listing → Bool
is_whole_listing ls = list_all (λ (e : List ℕ × List TrackedMeta). are_whole_metas e.1) ls

abbrev are_whole : Mirrors → Bool
are_whole ms = list_all (λ (e : List ℕ × Listing). is_whole_listing e.1) ms

put_whole : (ls : Listing) (k : List ℕ) (ts : List TrackedMeta) → is_whole_listing ls ≡ true → are_whole_metas ts ≡ true → is_whole_listing (put ls k ts) ≡ true
put_whole ls k [] h i = all_removed are_whole_metas (is_at (text_cmp k)) ls h
put_whole ls k (t ∷ ts) h i = all_inserted are_whole_metas k (t ∷ ts) (without_key ls k) i (all_removed are_whole_metas (is_at (text_cmp k)) ls h)

at_whole : (ls : Listing) (k : List ℕ) → is_whole_listing ls ≡ true → are_whole_metas (at ls k) ≡ true
at_whole ls k h = found_passes are_whole_metas k [] ls refl h

left_whole : (held gone : List TrackedMeta) → are_whole_metas held ≡ true → are_whole_metas (left_metas held gone) ≡ true
left_whole held gone h = all_filter is_whole_meta (λ t. not (is_named gone t.reference)) held h

join_all_whole : (ls joins : Listing) → is_whole_listing ls ≡ true → is_whole_listing joins ≡ true → is_whole_listing (fold join_key ls joins) ≡ true
join_all_whole ls [] h i = h
join_all_whole ls (e ∷ joins) h i =
    let first = left_of (are_whole_metas e.1) (is_whole_listing joins) i in
    join_all_whole (join_key ls e) joins (put_whole ls e.0 (joined_metas (at ls e.0) e.1) h (all_append is_whole_meta (left_metas (at ls e.0) e.1) e.1 (left_whole (at ls e.0) e.1 (at_whole ls e.0 h)) first))
    (right_of (are_whole_metas e.1) (is_whole_listing joins) i)

leave_all_whole : (ls leaves : Listing) → is_whole_listing ls ≡ true → is_whole_listing (fold leave_key ls leaves) ≡ true
leave_all_whole ls [] h = h
leave_all_whole ls (e ∷ leaves) h = leave_all_whole (leave_key ls e) leaves (put_whole ls e.0 (left_metas (at ls e.0) e.1) h (left_whole (at ls e.0) e.1 (at_whole ls e.0 h)))

applied_whole : (ls : Listing) (d : Diff) → is_whole_listing ls ≡ true → is_whole_listing d.joins ≡ true → is_whole_listing (applied ls d) ≡ true
unfolding applied
applied_whole ls d h i = leave_all_whole (fold join_key ls d.joins) d.leaves (join_all_whole ls d.joins h i)

-- ---- frames without floats

abbrev is_whole_frame : Frame → Bool
is_whole_frame (frame_is.State ls) = is_whole_listing ls
is_whole_frame (frame_is.Diff d) = is_whole_listing d.joins

frame_whole : (ls : Listing) (f : Frame) → is_whole_listing ls ≡ true → is_whole_frame f ≡ true → is_whole_listing (after_frame ls f) ≡ true
frame_whole ls (frame_is.State state) h i = i
frame_whole ls (frame_is.Diff d) h i = applied_whole ls d h i

-- what a chain of steps that came to y did first
first_ok : {A B G : Type 0} (r : Result A FrameFault) (f : A → Result B FrameFault) (y : B) → (r >>= f) ≡ Ok y → ((x : A) → r ≡ Ok x → f x ≡ Ok y → G) → G
first_ok (Ok x) f y h k = k x refl h
first_ok (Err e) f y h k = err_differs e y h

tracked_whole : (d : Data) (o : Option (List ℕ)) (t : TrackedMeta) → has_float d ≡ false → with_ref d o ≡ Ok t → is_whole_meta t ≡ true
tracked_whole d None t h e = err_differs NoRef t e
tracked_whole d (Some r) t h e = let same = ok_same (record { reference = r; meta = d }) t e in ap is_whole_meta (sym same) ∙ ap not h

metas_whole : (ts us : List TrackedMeta) (ds : Items) → are_whole_metas ts ≡ true → items_have_float ds ≡ false → metas_into ts ds ≡ Ok us → are_whole_metas us ≡ true
metas_whole ts us no_items h i e = ap are_whole_metas (sym (ok_same ts us e)) ∙ h
metas_whole ts us (item d ds) h i e =
    first_ok (tracked_in d) (λ t. metas_into (ts ++ t ∷ []) ds) us e (λ t is_t more.
    metas_whole (ts ++ t ∷ []) us ds (all_append is_whole_meta ts (t ∷ []) h (both (is_whole_meta t) true (tracked_whole d (text_ref d) t (not_left (has_float d) (items_have_float ds) i) is_t) refl))
    (not_right (has_float d) (items_have_float ds) i) more)

member_whole : (k : List ℕ) (ms : Members) (d : Data) → members_have_float ms ≡ false → get_member k ms ≡ Some d → has_float d ≡ false
member_whole k no_members d h e = none_some e
  where
    none_some : {P : Type 0} → None ≡ Some d → P
    none_some e = cc
member_whole k (member l f ms) d h e =
    at_order (slice_cmp nat_cmp k l) (λ i. member_whole k ms d (not_right (has_float f) (members_have_float ms) h) i) (not_left (has_float f) (members_have_float ms) h) e
  where
    some_same : (x y : Data) → Some x ≡ Some y → x ≡ y
    some_same x y h = cc

    at_order : (o : Ordering) → (get_member k ms ≡ Some d → has_float d ≡ false) → has_float f ≡ false → match_ordering o (get_member k ms) (Some f) (get_member k ms) ≡ Some d → has_float d ≡ false
    at_order Less more h e = more e
    at_order Equal more h e = ap has_float (sym (some_same f d e)) ∙ h
    at_order Greater more h e = more e

none_some : {P : Type 0} (d : Data) → None ≡ Some d → P
none_some d e = cc

got_whole : (k : List ℕ) (d e : Data) → has_float d ≡ false → get k d ≡ Some e → has_float e ≡ false
got_whole k null e h i = none_some e i
got_whole k (boolean b) e h i = none_some e i
got_whole k (number n) e h i = none_some e i
got_whole k (string s) e h i = none_some e i
got_whole k (array ds) e h i = none_some e i
got_whole k (object ms) e h i = member_whole k ms e h i

items_in_whole : (o : Option Data) → ((d : Data) → o ≡ Some d → has_float d ≡ false) → items_have_float (items_in o) ≡ false
items_in_whole None h = refl
items_in_whole (Some null) h = refl
items_in_whole (Some (boolean b)) h = refl
items_in_whole (Some (number n)) h = refl
items_in_whole (Some (string s)) h = refl
items_in_whole (Some (array ds)) h = h (array ds) refl
items_in_whole (Some (object ms)) h = refl

listing_whole : (ls us : Listing) (ms : Members) → is_whole_listing ls ≡ true → members_have_float ms ≡ false → listing_into ls ms ≡ Ok us → is_whole_listing us ≡ true
listing_whole ls us no_members h i e = ap is_whole_listing (sym (ok_same ls us e)) ∙ h
listing_whole ls us (member k d ms) h i e =
    let first = not_left (has_float d) (members_have_float ms) i in
    first_ok (metas_in d) (λ ts. listing_into (put ls k ts) ms) us e (λ ts is_ts more.
    listing_whole (put ls k ts) us ms (put_whole ls k ts h (metas_whole [] ts (items_in (get (codes "metas") d)) refl (items_in_whole (get (codes "metas") d) (λ x i. got_whole (codes "metas") d x first i)) is_ts)) (not_right (has_float d) (members_have_float ms) i) more)

listing_in_whole : (d : Data) (ls : Listing) → has_float d ≡ false → listing_in d ≡ Ok ls → is_whole_listing ls ≡ true
listing_in_whole null ls h e = ap is_whole_listing (sym (ok_same [] ls e))
listing_in_whole (boolean b) ls h e = ap is_whole_listing (sym (ok_same [] ls e))
listing_in_whole (number n) ls h e = ap is_whole_listing (sym (ok_same [] ls e))
listing_in_whole (string s) ls h e = ap is_whole_listing (sym (ok_same [] ls e))
listing_in_whole (array ds) ls h e = ap is_whole_listing (sym (ok_same [] ls e))
listing_in_whole (object ms) ls h e = listing_whole [] ls ms refl h e

some_listing_whole : (o : Option Data) (ls : Listing) → ((d : Data) → o ≡ Some d → has_float d ≡ false) → some_listing_in o ≡ Ok ls → is_whole_listing ls ≡ true
some_listing_whole None ls h e = ap is_whole_listing (sym (ok_same [] ls e))
some_listing_whole (Some d) ls h e = listing_in_whole d ls (h d refl) e

state_whole : (d : Data) (f : Frame) → has_float d ≡ false → state_in d ≡ Ok f → is_whole_frame f ≡ true
state_whole d f h e = at_test (is_listing d) e
  where
    at_test : (b : Bool) → cond b (listing_in d >>= (λ ls. Ok (frame_is.State ls))) (Err BadShape) ≡ Ok f → is_whole_frame f ≡ true
    at_test true e = first_ok (listing_in d) (λ ls. Ok (frame_is.State ls)) f e (λ ls is_ls same. ap is_whole_frame (sym (ok_same (frame_is.State ls) f same)) ∙ listing_in_whole d ls h is_ls)
    at_test false e = err_differs BadShape f e

-- joins and leaves that were read
lists_whole : (b : Bool) (j l : Option Data) (f : Frame) → ((d : Data) → j ≡ Some d → has_float d ≡ false)
    → cond b (some_listing_in j >>= (λ joins. some_listing_in l >>= (λ leaves. Ok (frame_is.Diff (record { joins = joins; leaves = leaves }))))) (Err BadShape) ≡ Ok f → is_whole_frame f ≡ true
lists_whole true j l f h e =
    first_ok (some_listing_in j) (λ joins. some_listing_in l >>= (λ leaves. Ok (frame_is.Diff (record { joins = joins; leaves = leaves })))) f e (λ joins is_joins more.
    first_ok (some_listing_in l) (λ leaves. Ok (frame_is.Diff (record { joins = joins; leaves = leaves }))) f more (λ leaves is_leaves same.
    ap is_whole_frame (sym (ok_same (frame_is.Diff (record { joins = joins; leaves = leaves })) f same)) ∙ some_listing_whole j joins h is_joins))
lists_whole false j l f h e = err_differs BadShape f e

diff_whole : (d : Data) (f : Frame) → has_float d ≡ false → diff_in d ≡ Ok f → is_whole_frame f ≡ true
diff_whole d f h e = lists_whole (is_diff d) (get (codes "joins") d) (get (codes "leaves") d) f (λ x i. got_whole (codes "joins") d x h i) e

message_whole : (m : Message) (f : Frame) → has_float m.payload ≡ false → frame_in m ≡ Ok f → is_whole_frame f ≡ true
unfolding frame_in
message_whole m f h e = at_event (bytes_eq m.event (codes "presence_state")) (bytes_eq m.event (codes "presence_diff")) e
  where
    at_event : (a b : Bool) → cond a (state_in m.payload) (cond b (diff_in m.payload) (Err NotPresence)) ≡ Ok f → is_whole_frame f ≡ true
    at_event true b e = state_whole m.payload f h e
    at_event false true e = diff_whole m.payload f h e
    at_event false false e = err_differs NotPresence f e

-- ---- folds without floats

frame_message_whole : (line : List ℕ) (m : Message) → frame_message line ≡ Ok m → has_float m.payload ≡ false
unfolding message_in
frame_message_whole line m e = at_long (nat_lt frame_limit (length line)) e
  where
    at_text : (b : Bool) → cond b (decoded the_limits.FRAME line) (Err NotJson) ≡ Ok m → has_float m.payload ≡ false
    at_text true e = (decoded_found the_limits.FRAME line m e).within.whole
    at_text false e = err_differs NotJson m e

    at_long : (b : Bool) → cond b (Err TooLong) (cond (is_utf8 line) (decoded the_limits.FRAME line) (Err NotJson)) ≡ Ok m → has_float m.payload ≡ false
    at_long true e = err_differs TooLong m e
    at_long false e = at_text (is_utf8 line) e

with_frame_whole : (ms : Mirrors) (t : List ℕ) (f : Frame) → are_whole ms ≡ true → is_whole_frame f ≡ true → are_whole (with_frame ms t f) ≡ true
with_frame_whole ms t f h i = all_inserted is_whole_listing t (after_frame (held ms t) f) (without_topic ms t) (frame_whole (held ms t) f (found_passes is_whole_listing t [] ms refl h) i) (all_removed is_whole_listing (is_at (text_cmp t)) ms h)

fold_frame_whole : (n : ℕ) (ms after : Mirrors) (m : Message) (r : Result Frame FrameFault) → are_whole ms ≡ true → ((f : Frame) → r ≡ Ok f → is_whole_frame f ≡ true) → fold_frame n ms m r ≡ Ok after → are_whole after ≡ true
fold_frame_whole n ms after m (Ok f) h i e = ap are_whole (sym (ok_same (with_frame ms m.topic f) after e)) ∙ with_frame_whole ms m.topic f h (i f refl)
fold_frame_whole n ms after m (Err NotPresence) h i e = ap are_whole (sym (ok_same ms after e)) ∙ h
fold_frame_whole n ms after m (Err BadShape) h i e = err_differs _ after e
fold_frame_whole n ms after m (Err NoRef) h i e = err_differs _ after e
fold_frame_whole n ms after m (Err OutOfMemory) h i e = err_differs _ after e

fold_line_whole : (n : ℕ) (ms after : Mirrors) (line : List ℕ) → are_whole ms ≡ true → fold_line n ms line ≡ Ok after → are_whole after ≡ true
fold_line_whole n ms after line h e = at_message (frame_message line) (frame_message_whole line) e
  where
    at_message : (r : Result Message MessageFault) → ((m : Message) → r ≡ Ok m → has_float m.payload ≡ false) → fold_message n ms r ≡ Ok after → are_whole after ≡ true
    at_message (Ok m) i e = fold_frame_whole n ms after m (frame_in m) h (λ f is_f. message_whole m f (i m refl) is_f) e
    at_message (Err f) i e = err_differs _ after e

pub folded_whole : (n : ℕ) (ms after : Mirrors) (lines : List (List ℕ)) → are_whole ms ≡ true → folded n ms lines ≡ Ok after → are_whole after ≡ true
folded_whole n ms after [] h e = ap are_whole (sym (ok_same ms after e)) ∙ h
folded_whole n ms after (l ∷ ls) h e = at_line (fold_line n ms l) (λ next is_next. fold_line_whole n ms next l h is_next) (λ next i k. folded_whole (n + 1) next after ls i k) e
  where
    at_line : (r : Result Mirrors FoldFault) → ((next : Mirrors) → r ≡ Ok next → are_whole next ≡ true) → ((next : Mirrors) → are_whole next ≡ true → folded (n + 1) next ls ≡ Ok after → are_whole after ≡ true)
        → fold_on r (λ next. folded (n + 1) next ls) ≡ Ok after → are_whole after ≡ true
    at_line (Ok next) i more e = more next (i next refl) e
    at_line (Err f) i more e = err_differs f after e

-- ---- objects without floats

put_member_whole : (k : List ℕ) (d : Data) (ms : Members) → has_float d ≡ false → members_have_float ms ≡ false → members_have_float (put_member k d ms) ≡ false
put_member_whole k d no_members h i = neither (has_float d) false h refl
put_member_whole k d (member l e ms) h i =
    at_order (slice_cmp nat_cmp k l) (put_member_whole k d ms h (not_right (has_float e) (members_have_float ms) i))
  where
    at_order : (o : Ordering) → members_have_float (put_member k d ms) ≡ false → members_have_float (match_ordering o (member k d (member l e ms)) (member l d ms) (member l e (put_member k d ms))) ≡ false
    at_order Less more = neither (has_float d) (has_float e || members_have_float ms) h i
    at_order Equal more = neither (has_float d) (members_have_float ms) h (not_right (has_float e) (members_have_float ms) i)
    at_order Greater more = neither (has_float e) (members_have_float (put_member k d ms)) (not_left (has_float e) (members_have_float ms) i) more

items_whole : (ts : List TrackedMeta) → are_whole_metas ts ≡ true → items_have_float (items_of (map (λ t. t.meta) ts)) ≡ false
items_whole [] h = refl
items_whole (t ∷ ts) h = neither (has_float t.meta) (items_have_float (items_of (map (λ t. t.meta) ts))) (is_not (has_float t.meta) (left_of (is_whole_meta t) (are_whole_metas ts) h)) (items_whole ts (right_of (is_whole_meta t) (are_whole_metas ts) h))

metas_value_whole : (ts : List TrackedMeta) → are_whole_metas ts ≡ true → has_float (metas_value ts) ≡ false
metas_value_whole ts h = neither (items_have_float (items_of (map (λ t. t.meta) ts))) false (items_whole ts h) refl

keys_whole : (ms : Members) (ls : Listing) → members_have_float ms ≡ false → is_whole_listing ls ≡ true → members_have_float (fold with_key ms ls) ≡ false
keys_whole ms [] h i = h
keys_whole ms (e ∷ ls) h i =
    keys_whole (with_key ms e) ls (put_member_whole e.0 (metas_value e.1) ms (metas_value_whole e.1 (left_of (are_whole_metas e.1) (is_whole_listing ls) i)) h) (right_of (are_whole_metas e.1) (is_whole_listing ls) i)

topics_whole : (done : Members) (ms : Mirrors) → members_have_float done ≡ false → are_whole ms ≡ true → members_have_float (fold with_topic done ms) ≡ false
topics_whole done [] h i = h
topics_whole done (e ∷ ms) h i =
    topics_whole (with_topic done e) ms (put_member_whole e.0 (listing_value e.1) done (keys_whole no_members e.1 refl (left_of (is_whole_listing e.1) (are_whole ms) i)) h) (right_of (is_whole_listing e.1) (are_whole ms) i)

-- what lines are folded to is printed
pub printed_whole : (ms : Mirrors) (lines : List (List ℕ)) → folded 1 [] lines ≡ Ok ms → has_float (mirrors_value ms) ≡ false
printed_whole ms lines e = topics_whole no_members ms refl (folded_whole 1 [] ms lines refl e)
