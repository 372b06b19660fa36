-- Lists in which a client finds the same at each key and reference, and what becomes of them by the same frames.
use Rattle.std.proofs.Common.{◌≡◌, ℕ, cond, List, [], ◌∷◌, ◌++◌, map, codes, Option, None, Err, refl, sym, ◌∙◌, ap}
use Rattle.phx_message.specs.declared.message.Message.{Message}
use Rattle.phx_message.specs.declared.message.MsgRef.{MsgRef}
use Rattle.presence_journal.specs.declared.rows.Item.{Item}
use Rattle.presence_journal.specs.declared.rows.Item.TheVariants as items_are
use Rattle.presence_metas.specs.Fold.{first_some, meta_at}
use Rattle.presence_metas.specs.Frames.{frame_in}
use Rattle.presence_metas.specs.Listing.{Listing, at, is_named}
use Rattle.presence_metas.specs.Rows.{listing_of}
use Rattle.presence_metas.specs.declared.frame.FrameFault.TheVariants.{NotPresence}
use Rattle.presence_metas.specs.declared.presences.Diff.{Diff}
use Rattle.presence_metas.proofs.FoldLaws.{applied_as_map, applied_rises}
use Rattle.presence_metas.proofs.Lookups.{Rises}
use Rattle.presence_metas.proofs.ReadBack.{listing_rises, states_read_back, diffs_read_back}
use Rattle.channel_rules.specs.Frames.{message_of}
use Rattle.session_laws.specs.Mirrors.{after_reading, mirror_from}
use Rattle.session_laws.specs.Pieces.{AreAlike}

-- lists with their keys in order in which the same is found
pub record Alike (ls ks : Listing) : Type 0 where
  pub left : Rises ls
  pub right : Rises ks
  pub same : AreAlike ls ks

pub alike_refl : (ls : Listing) → Rises ls → Alike ls ls
alike_refl ls h = record { left = h; right = h; same = λ k x. refl }

pub alike_trans : (js ks ls : Listing) → Alike js ks → Alike ks ls → Alike js ls
alike_trans js ks ls h i = record { left = h.left; right = i.right; same = λ k x. h.same k x ∙ i.same k x }

-- ---- frames

-- a client's lists after the frame of an item, and of items
abbrev pub reads : Option MsgRef → List ℕ → Listing → Item → Listing
reads r t ls i = after_reading ls (frame_in (message_of r t i))

abbrev pub reads_all : Option MsgRef → List ℕ → Listing → List Item → Listing
reads_all r t ls is = mirror_from ls (map (message_of r t) is)

no_frame : (m : Message) → m.event ≡ codes "shout" → frame_in m ≡ Err NotPresence
unfolding frame_in
no_frame m e = rw e refl

pub read_rises : (r : Option MsgRef) (t : List ℕ) (ls : Listing) (i : Item) → Rises ls → Rises (reads r t ls i)
read_rises r t ls (items_are.State rows) h = rw (states_read_back (message_of r t (items_are.State rows)) rows refl refl) (listing_rises rows)
read_rises r t ls (items_are.Diff d) h = rw (diffs_read_back (message_of r t (items_are.Diff d)) d.joins d.leaves refl refl) (applied_rises ls (record { joins = listing_of d.joins; leaves = listing_of d.leaves }) h)
read_rises r t ls (items_are.Shout payload) h = rw (no_frame (message_of r t (items_are.Shout payload)) refl) h

pub all_rises : (r : Option MsgRef) (t : List ℕ) (ls : Listing) (is : List Item) → Rises ls → Rises (reads_all r t ls is)
all_rises r t ls [] h = h
all_rises r t ls (i ∷ is) h = all_rises r t (reads r t ls i) is (read_rises r t ls i h)

-- the same frame leaves them alike
pub read_alike : (r : Option MsgRef) (t : List ℕ) (ls ks : Listing) (i : Item) → Alike ls ks → Alike (reads r t ls i) (reads r t ks i)
read_alike r t ls ks (items_are.State rows) h =
    rw (states_read_back (message_of r t (items_are.State rows)) rows refl refl) (alike_refl (listing_of rows) (listing_rises rows))
read_alike r t ls ks (items_are.Diff d) h =
    let change : Diff = record { joins = listing_of d.joins; leaves = listing_of d.leaves } in
    rw (diffs_read_back (message_of r t (items_are.Diff d)) d.joins d.leaves refl refl)
    (record {
      left = applied_rises ls change h.left;
      right = applied_rises ks change h.right;
      same = λ k x.
          applied_as_map ls change h.left (listing_rises d.joins) (listing_rises d.leaves) k x
          ∙ (ap (λ o. cond (is_named (at change.leaves k) x) None (first_some (meta_at change.joins k x) o)) (h.same k x)
          ∙ sym (applied_as_map ks change h.right (listing_rises d.joins) (listing_rises d.leaves) k x));
    })
read_alike r t ls ks (items_are.Shout payload) h = rw (no_frame (message_of r t (items_are.Shout payload)) refl) h

pub all_alike : (r : Option MsgRef) (t : List ℕ) (ls ks : Listing) (is : List Item) → Alike ls ks → Alike (reads_all r t ls is) (reads_all r t ks is)
all_alike r t ls ks [] h = h
all_alike r t ls ks (i ∷ is) h = all_alike r t (reads r t ls i) (reads r t ks i) is (read_alike r t ls ks i h)

pub reads_more : (r : Option MsgRef) (t : List ℕ) (ls : Listing) (xs ys : List Item) → reads_all r t ls (xs ++ ys) ≡ reads_all r t (reads_all r t ls xs) ys
reads_more r t ls [] ys = refl
reads_more r t ls (x ∷ xs) ys = reads_more r t (reads r t ls x) xs ys
