-- The frames of what a subscriber took, folded by a client's mirror, are what is present.
use Rattle.std.proofs.Common.{◌≡◌, ℕ, Bool, true, false, cond, ◌&&◌, List, [], ◌∷◌, ◌++◌, map as each, codes, Option, Some, Result, Ok, Err, refl, sym, ◌∙◌, ap, subst}
use Rattle.std.specs.FinMap as map
use Rattle.std.specs.List.{AllByRecursion}
use Rattle.std.proofs.lemmas.Bool.{and_parts}
use Rattle.serde_json.specs.Data.{Data}
use Rattle.phx_message.specs.declared.message.Message.{Message}
use Rattle.phx_message.specs.declared.message.MsgRef.{MsgRef}
use Rattle.presence_base.proofs.Splitting.{one_dot}
use Rattle.presence_base.specs.Order.{same_text, same_dot}
use Rattle.presence_base.specs.Refs.{ref_of, IsDot}
use Rattle.presence_base.specs.declared.dots.Dot.{Dot}
use Rattle.presence_base.specs.declared.row.Row.{Row}
use Rattle.presence_journal.specs.declared.rows.Item.{Item}
use Rattle.presence_journal.specs.declared.rows.Item.TheVariants as items_are
use Rattle.presence_journal.specs.declared.rows.Place.{Place}
use Rattle.presence_journal.specs.Laws.{IsPlaced}
use Rattle.presence_journal.specs.Present.{RowMap, place_cmp, in_order, present, listed}
use Rattle.presence_journal.specs.Queue.{taken, fold, fold_from, apply_item, with_rows}
use Rattle.presence_journal.proofs.Fold.{folds_to_present}
use Rattle.presence_journal.proofs.FoldPresent.{present_placed}
use Rattle.presence_journal.proofs.FoldTables.{Placed, AreOf, stripped, entries_found}
use Rattle.presence_journal.proofs.Same.{same_text-true, same_text-refl, same_dot-true, same_dot-refl, same_place}
use Rattle.presence_metas.specs.Fold.{meta_at, folded}
use Rattle.presence_metas.specs.Frames.{frame_in}
use Rattle.presence_metas.specs.Listing.{Listing, applied}
use Rattle.presence_metas.specs.Rows.{tracked_of, listing_of}
use Rattle.presence_metas.specs.declared.frame.Frame.{Frame}
use Rattle.presence_metas.specs.declared.frame.Frame.TheVariants as frame_is
use Rattle.presence_metas.specs.declared.frame.FrameFault.{FrameFault}
use Rattle.presence_metas.specs.declared.frame.FrameFault.TheVariants.{NotPresence}
use Rattle.presence_metas.specs.declared.presences.Diff.{Diff}
use Rattle.presence_metas.proofs.FoldLaws.{applied_as_map, applied_rises}
use Rattle.presence_metas.proofs.Lookups.{Rises}
use Rattle.presence_metas.proofs.ReadBack.{listing_rises, states_read_back, diffs_read_back}
use Rattle.channel_rules.specs.Frames.{message_of}
use Rattle.session_laws.specs.Laws.{FramesMirror}
use Rattle.session_laws.specs.Mirrors.{after_reading, mirror_from, told_at}
use Rattle.session_laws.proofs.Proper.{IsProper, AllProper, WaitsProper, append_proper, queue_proper, taken_proper, StateFirst, state_more, state_first, present_dots}
use Rattle.session_laws.proofs.Shown.{tell, place, IsRef, Shows, shown_alike, shows_same, state_shows, diff_shows}

-- ---- frames

-- lists with their keys in order that show a table
record Holds (ls : Listing) (m : RowMap) : Type 0 where
  rises : Rises ls
  shows : Shows (meta_at ls) m

no_frame : (m : Message) → m.event ≡ codes "shout" → frame_in m ≡ Err NotPresence
unfolding frame_in
no_frame m e = rw e refl

message_holds : (join_ref : Option MsgRef) (t : List ℕ) (i : Item) (ls : Listing) (m : RowMap) → IsProper i → Holds ls m → Holds (after_reading ls (frame_in (message_of join_ref t i))) (apply_item m i)
message_holds join_ref t (items_are.State rows) ls m p h =
    rw (states_read_back (message_of join_ref t (items_are.State rows)) rows refl refl)
    (record { rises = listing_rises rows; shows = state_shows rows p })
message_holds join_ref t (items_are.Diff d) ls m p h =
    let change : Diff = record { joins = listing_of d.joins; leaves = listing_of d.leaves } in
    rw (diffs_read_back (message_of join_ref t (items_are.Diff d)) d.joins d.leaves refl refl)
    (record {
      rises = applied_rises ls change h.rises;
      shows = shows_same (folded (meta_at ls) change) (meta_at (applied ls change)) (apply_item m (items_are.Diff d))
          (applied_as_map ls change h.rises (listing_rises d.joins) (listing_rises d.leaves))
          (diff_shows (meta_at ls) m d.joins d.leaves p.0 p.1 h.shows);
    })
message_holds join_ref t (items_are.Shout payload) ls m p h = rw (no_frame (message_of join_ref t (items_are.Shout payload)) refl) h

messages_hold : (join_ref : Option MsgRef) (t : List ℕ) (is : List Item) (ls : Listing) (m : RowMap) → AllProper is → Holds ls m → Holds (mirror_from ls (each (message_of join_ref t) is)) (fold_from m is)
messages_hold join_ref t [] ls m p h = h
messages_hold join_ref t (i ∷ is) ls m p h = messages_hold join_ref t is (after_reading ls (frame_in (message_of join_ref t i))) (apply_item m i) p.1 (message_holds join_ref t i ls m p.0 h)

-- with a state first it's all one what the lists were before
from_state : (join_ref : Option MsgRef) (t : List ℕ) (is : List Item) (before : Listing) → StateFirst is → AllProper is → Holds (mirror_from before (each (message_of join_ref t) is)) (fold is)
unfolding fold
from_state join_ref t [] before s p = absurd s
from_state join_ref t (items_are.State rows ∷ is) before s p =
    let read : frame_in (message_of join_ref t (items_are.State rows)) ≡ Ok (frame_is.State (listing_of rows)) = states_read_back (message_of join_ref t (items_are.State rows)) rows refl refl in
    subst (λ (f : Result Frame FrameFault). Holds (mirror_from (after_reading before f) (each (message_of join_ref t) is)) (fold_from (with_rows map.empty rows) is)) (sym read)
    (messages_hold join_ref t is (listing_of rows) (with_rows map.empty rows) p.1 (record { rises = listing_rises rows; shows = state_shows rows p.0 }))
from_state join_ref t (items_are.Diff d ∷ is) before s p = absurd s
from_state join_ref t (items_are.Shout payload ∷ is) before s p = absurd s

-- ---- the rows of a table

abbrev Fine : Placed → Type 0
Fine e = (e.1.key ≡ e.0.key) × IsDot e.0.dot

all_fine : (m : RowMap) → IsPlaced m → ((p : Place) (r : Row) → map.get m p ≡ Some r → IsDot p.dot) → (es : List Placed) → AreOf (map.get m) es → AllByRecursion Fine es
all_fine m placed dots [] a = tt
all_fine m placed dots (e ∷ es) a = ((placed e.0 e.1 a.0, dots e.0 e.1 a.0), all_fine m placed dots es a.1)

-- a row is told at a key and reference where it stands at the key and dot
abbrev tests : List ℕ → Dot → Placed → Bool
tests k d e = same_text e.1.key k && same_text (ref_of e.0.dot) (ref_of d)

abbrev ties : List ℕ → Dot → Placed → Bool
ties k d e = same_text k e.0.key && same_dot d e.0.dot

both_true : (a b : Bool) → a ≡ true → b ≡ true → (a && b) ≡ true
both_true true b x y = y
both_true false b x y = x

same_test : (a b : Bool) → (a ≡ true → b ≡ true) → (b ≡ true → a ≡ true) → a ≡ b
same_test true b f g = sym (f refl)
same_test false true f g = g refl
same_test false false f g = refl

tests_tie : (k : List ℕ) (d : Dot) (e : Placed) → IsDot d → Fine e → tests k d e ≡ ties k d e
tests_tie k d e ok fine = same_test (tests k d e) (ties k d e) forth back
  where
    forth : tests k d e ≡ true → ties k d e ≡ true
    forth h =
        let parts = and_parts (same_text e.1.key k) (same_text (ref_of e.0.dot) (ref_of d)) h in
        let key : k ≡ e.0.key = sym (same_text-true e.1.key k parts.0) ∙ fine.0 in
        let dot : d ≡ e.0.dot = one_dot d e.0.dot ok fine.1 (sym (same_text-true (ref_of e.0.dot) (ref_of d) parts.1)) in
        both_true (same_text k e.0.key) (same_dot d e.0.dot) (ap (same_text k) (sym key) ∙ same_text-refl k) (ap (same_dot d) (sym dot) ∙ same_dot-refl d)

    back : ties k d e ≡ true → tests k d e ≡ true
    back h =
        let parts = and_parts (same_text k e.0.key) (same_dot d e.0.dot) h in
        let key : e.1.key ≡ k = fine.0 ∙ sym (same_text-true k e.0.key parts.0) in
        let ref : ref_of e.0.dot ≡ ref_of d = ap ref_of (sym (same_dot-true d e.0.dot parts.1)) in
        both_true (same_text e.1.key k) (same_text (ref_of e.0.dot) (ref_of d)) (ap (λ z. same_text z k) key ∙ same_text-refl k) (ap (λ z. same_text z (ref_of d)) ref ∙ same_text-refl (ref_of d))

told_on : (k : List ℕ) (d : Dot) → IsDot d → (es : List Placed) → AllByRecursion Fine es → told_at (stripped es) k (ref_of d) ≡ tell d (map.find place_cmp (place k d) es)
told_on k d ok [] a = refl
told_on k d ok (e ∷ es) a =
    ap (λ b. cond b (Some (tracked_of e.0.dot e.1).meta) (told_at (stripped es) k (ref_of d))) (tests_tie k d e ok a.0)
    ∙ (go (ties k d e) refl (told_on k d ok es a.1)
    ∙ ap (λ b. tell d (cond b (Some e.1) (map.find place_cmp (place k d) es))) (sym (same_place (place k d) e.0)))
  where
    go : (b : Bool) → ties k d e ≡ b → told_at (stripped es) k (ref_of d) ≡ tell d (map.find place_cmp (place k d) es)
        → cond b (Some (tracked_of e.0.dot e.1).meta) (told_at (stripped es) k (ref_of d)) ≡ tell d (cond b (Some e.1) (map.find place_cmp (place k d) es))
    go true s ih = let parts = and_parts (same_text k e.0.key) (same_dot d e.0.dot) s in ap (λ z. Some (tracked_of z e.1).meta) (sym (same_dot-true d e.0.dot parts.1))
    go false s ih = ih

told_off : (k r : List ℕ) (x : Data) (es : List Placed) → AllByRecursion Fine es → told_at (stripped es) k r ≡ Some x → IsRef r
told_off k r x [] a h = absurd (cc)
told_off k r x (e ∷ es) a h = go (same_text e.1.key k && same_text (ref_of e.0.dot) r) refl (told_off k r x es a.1) h
  where
    go : (b : Bool) → (same_text e.1.key k && same_text (ref_of e.0.dot) r) ≡ b → (told_at (stripped es) k r ≡ Some x → IsRef r) → cond b (Some (tracked_of e.0.dot e.1).meta) (told_at (stripped es) k r) ≡ Some x → IsRef r
    go true s ih f = let parts = and_parts (same_text e.1.key k) (same_text (ref_of e.0.dot) r) s in (e.0.dot, (a.0.1, sym (same_text-true (ref_of e.0.dot) r parts.1)))
    go false s ih f = ih f

-- the rows of a table show it
told_shows : (m : RowMap) → IsPlaced m → ((p : Place) (r : Row) → map.get m p ≡ Some r → IsDot p.dot) → Shows (told_at (in_order m)) m
unfolding in_order
told_shows m placed dots =
    let fine = all_fine m placed dots (map.entries m) (entries_found m) in
    record {
      on = λ k d ok. told_on k d ok (map.entries m) fine ∙ ap (tell d) (sym (map.get-entries m (place k d)));
      off = λ k r x e. told_off k r x (map.entries m) fine e;
    }

-- ---- the law

pub frames_mirror : FramesMirror
frames_mirror h l n t is_topic q waits join_ref before k r =
    let proper : AllProper (taken h n ++ q) = append_proper (taken h n) q (taken_proper h n l) (subst WaitsProper waits (queue_proper h n l)) in
    let holds : Holds (mirror_from before (each (message_of join_ref t) (taken h n ++ q))) (fold (taken h n ++ q)) = from_state join_ref t (taken h n ++ q) before (state_more (taken h n) q (state_first h n q waits)) proper in
    let shows : Shows (meta_at (mirror_from before (each (message_of join_ref t) (taken h n ++ q)))) (present h t) = subst (Shows (meta_at (mirror_from before (each (message_of join_ref t) (taken h n ++ q))))) (folds_to_present h l n t is_topic q waits) holds.shows in
    shown_alike _ (told_at (listed h t)) (present h t) shows (told_shows (present h t) (present_placed h t) (present_dots h t l)) k r
