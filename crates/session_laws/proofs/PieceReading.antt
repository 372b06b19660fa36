-- A piece of a state and then the rest of it are read as all of it.
use Rattle.std.proofs.Common.{◌≡◌, ◌+◌, ◌<◌, ◌&&◌, ◌==◌, ℕ, Bool, true, false, cond, nat_lt, List, [], ◌∷◌, ◌++◌, length, take, drop, Option, Some, None, refl, sym, ◌∙◌, ap, subst, take-append-drop, drop-drop, arith}
use Rattle.std.proofs.lemmas.List.{drop_all}
use Rattle.std.proofs.lemmas.Bool.{and_parts, eqb-true, ltb-true, ltb-false}
use Rattle.serde_json.specs.Data.{Data}
use Rattle.phx_message.specs.declared.message.MsgRef.{MsgRef}
use Rattle.presence_base.specs.Order.{same_text}
use Rattle.presence_base.specs.declared.dots.Dot.{Dot}
use Rattle.presence_base.specs.declared.row.Row.{Row}
use Rattle.presence_journal.specs.declared.rows.Item.{Item}
use Rattle.presence_journal.specs.declared.rows.Item.TheVariants as items_are
use Rattle.presence_metas.specs.Fold.{first_some, last_named, meta_at}
use Rattle.presence_metas.specs.Listing.{Listing, is_named}
use Rattle.presence_metas.specs.Rows.{tracked_of, listing_of}
use Rattle.presence_metas.specs.declared.presences.Diff.{Diff}
use Rattle.presence_metas.specs.declared.tracked.TrackedMeta.{TrackedMeta}
use Rattle.presence_metas.proofs.FoldLaws.{applied_as_map, applied_rises}
use Rattle.presence_metas.proofs.Lookups.{Rises}
use Rattle.presence_metas.proofs.ReadBack.{listing_rises, states_read_back, diffs_read_back}
use Rattle.channel_pieces.specs.Laws.{untold_items}
use Rattle.channel_pieces.specs.Pieces.{telling, Comes, is_within, left_of, TellsNext}
use Rattle.channel_pieces.specs.declared.piece.TheConstants.{MAX_STATE_BYTES}
use Rattle.channel_pieces.specs.declared.telling.UntoldState.{UntoldState}
use Rattle.channel_rules.specs.Frames.{message_of}
use Rattle.session_laws.proofs.Shown.{metas_of, at_listing, first_none}
use Rattle.session_laws.proofs.Alike.{Alike, reads, reads_all, read_rises}

-- ---- metas of rows

-- the meta that rows tell at a key and reference
abbrev tell : List (Dot × Row) → List ℕ → List ℕ → Option Data
tell rows k x = last_named (metas_of k rows) x

metas_append : (k : List ℕ) (xs ys : List (Dot × Row)) → metas_of k (xs ++ ys) ≡ metas_of k xs ++ metas_of k ys
metas_append k [] ys = refl
metas_append k (x ∷ xs) ys = go (same_text k x.1.key) (metas_append k xs ys)
  where
    go : (b : Bool) → metas_of k (xs ++ ys) ≡ metas_of k xs ++ metas_of k ys
        → cond b (tracked_of x.0 x.1 ∷ metas_of k (xs ++ ys)) (metas_of k (xs ++ ys)) ≡ cond b (tracked_of x.0 x.1 ∷ metas_of k xs) (metas_of k xs) ++ metas_of k ys
    go true ih = ap (λ ts. tracked_of x.0 x.1 ∷ ts) ih
    go false ih = ih

some_assoc : (a b c : Option Data) → first_some (first_some a b) c ≡ first_some a (first_some b c)
some_assoc (Some x) b c = refl
some_assoc None b c = refl

named_append : (xs ys : List TrackedMeta) (x : List ℕ) → last_named (xs ++ ys) x ≡ first_some (last_named ys x) (last_named xs x)
named_append [] ys x = sym (first_none (last_named ys x))
named_append (t ∷ ts) ys x =
    ap (λ o. first_some o (last_named (t ∷ []) x)) (named_append ts ys x)
    ∙ some_assoc (last_named ys x) (last_named ts x) (last_named (t ∷ []) x)

-- of rows and of those behind them the later tell
later_first : (xs ys : List (Dot × Row)) (k x : List ℕ) (o : Option Data) → first_some (tell ys k x) (first_some (tell xs k x) o) ≡ first_some (tell (xs ++ ys) k x) o
later_first xs ys k x o =
    sym (some_assoc (tell ys k x) (tell xs k x) o)
    ∙ ap (λ l. first_some l o) (sym (ap (λ ts. last_named ts x) (metas_append k xs ys) ∙ named_append (metas_of k xs) (metas_of k ys) x))

-- ---- what is read

-- lists with their keys in order in which this is found
record Finds (found : List ℕ → List ℕ → Option Data) (ls : Listing) : Type 0 where
  rises : Rises ls
  finds : (k x : List ℕ) → meta_at ls k x ≡ found k x

-- what rows tell goes before what was found, and comes in its place where nothing was told yet
abbrev before : List (Dot × Row) → Bool → Listing → List ℕ → List ℕ → Option Data
before rows first ls k x = first_some (tell rows k x) (cond first None (meta_at ls k x))

telling_read : (r : Option MsgRef) (t : List ℕ) (ls : Listing) (told : ℕ) (rows : List (Dot × Row)) → Rises ls → Finds (before rows (told == 0) ls) (reads r t ls (telling told rows))
telling_read r t ls told rows h = go (told == 0)
  where
    state : Finds (before rows true ls) (reads r t ls (items_are.State rows))
    state = rw (states_read_back (message_of r t (items_are.State rows)) rows refl refl)
        (record { rises = listing_rises rows; finds = λ k x. ap (λ ts. last_named ts x) (at_listing rows k) ∙ sym (first_none (tell rows k x)) })

    diff : Finds (before rows false ls) (reads r t ls (items_are.Diff (record { joins = rows; leaves = [] })))
    diff =
        let change : Diff = record { joins = listing_of rows; leaves = listing_of [] } in
        rw (diffs_read_back (message_of r t (items_are.Diff (record { joins = rows; leaves = [] }))) rows [] refl refl)
        (record {
          rises = applied_rises ls change h;
          finds = λ k x.
              applied_as_map ls change h (listing_rises rows) (listing_rises []) k x
              ∙ (ap (λ ts. cond (is_named ts x) None (first_some (meta_at (listing_of rows) k x) (meta_at ls k x))) (at_listing [] k)
              ∙ ap (λ ts. first_some (last_named ts x) (meta_at ls k x)) (at_listing rows k));
        })

    go : (b : Bool) → Finds (before rows b ls) (reads r t ls (cond b (items_are.State rows) (items_are.Diff (record { joins = rows; leaves = [] }))))
    go true = state
    go false = diff

not_first : (told : ℕ) → 0 < told → (told == 0) ≡ false
not_first told h = go (told == 0) refl
  where
    go : (b : Bool) → (told == 0) ≡ b → (told == 0) ≡ false
    go true e = let z : told ≡ 0 = eqb-true told 0 e in absurd (omega arith)
    go false e = e

-- the rest goes before what was found
rest_read : (r : Option MsgRef) (t : List ℕ) (ls : Listing) (u : UntoldState) (next : ℕ) → (next < length u.rows → 0 < next) → Rises ls
    → Finds (before (drop next u.rows) false ls) (reads_all r t ls (untold_items (left_of u next)))
rest_read r t ls u next some h = go (nat_lt next (length u.rows)) refl
  where
    go : (b : Bool) → nat_lt next (length u.rows) ≡ b → Finds (before (drop next u.rows) false ls) (reads_all r t ls (untold_items (cond b (Some (record u { told = next })) None)))
    go true e = subst (λ b. Finds (before (drop next u.rows) b ls) (reads r t ls (telling next (drop next u.rows)))) (not_first next (some (ltb-true next (length u.rows) e))) (telling_read r t ls next (drop next u.rows) h)
    go false e = record { rises = h; finds = λ k x. ap (λ rows. first_some (tell rows k x) (meta_at ls k x)) (sym (drop_all next u.rows (ltb-false next (length u.rows) e))) }

some_told : (told count all : ℕ) → (told < all → 0 < count) → told + count < all → 0 < told + count
some_told told count all f h = let c : 0 < count = f (omega arith) in omega arith

comes_read : (r : Option MsgRef) (t : List ℕ) (ls : Listing) (u : UntoldState) (next : ℕ) (item : Item) (whole : Bool) → (u.told == 0 && is_within MAX_STATE_BYTES u.rows) ≡ whole
    → Comes whole u.rows u.told next item → Rises ls → Alike (reads_all r t (reads r t ls item) (untold_items (left_of u next))) (reads r t ls (telling u.told (drop u.told u.rows)))
comes_read r t ls u next item true e (is, all) h =
    let begins : u.told ≡ 0 = eqb-true u.told 0 (and_parts (u.told == 0) (is_within MAX_STATE_BYTES u.rows) e).0 in
    let state = items_are.State u.rows in
    let rest = rest_read r t (reads r t ls state) u (length u.rows) (λ f. absurd (omega arith)) (read_rises r t ls state h) in
    rw (is, all, begins)
    (record {
      left = rest.rises;
      right = read_rises r t ls state h;
      same = λ k x. rest.finds k x ∙ ap (λ rows. first_some (tell rows k x) (meta_at (reads r t ls state) k x)) (drop_all (length u.rows) u.rows (omega arith));
    })
comes_read r t ls u next item false e piece h =
    let part = take piece.count (drop u.told u.rows) in
    let first = telling_read r t ls u.told part h in
    let all = telling_read r t ls u.told (drop u.told u.rows) h in
    let rest = rest_read r t (reads r t ls (telling u.told part)) u (u.told + piece.count) (some_told u.told piece.count (length u.rows) piece.some) first.rises in
    rw (piece.item_is, piece.next_is)
    (record {
      left = rest.rises;
      right = all.rises;
      same = λ k x.
          rest.finds k x
          ∙ (ap (first_some (tell (drop (u.told + piece.count) u.rows) k x)) (first.finds k x)
          ∙ (later_first part (drop (u.told + piece.count) u.rows) k x (cond (u.told == 0) None (meta_at ls k x))
          ∙ (ap (λ rows. first_some (tell rows k x) (cond (u.told == 0) None (meta_at ls k x))) (whole u piece.count) ∙ sym (all.finds k x))));
    })
  where
    whole : (v : UntoldState) (count : ℕ) → take count (drop v.told v.rows) ++ drop (v.told + count) v.rows ≡ drop v.told v.rows
    whole v count = ap (λ ys. take count (drop v.told v.rows) ++ ys) (sym (drop-drop count v.told v.rows)) ∙ take-append-drop count (drop v.told v.rows)

-- what comes next, followed by what is then untold, is read as what was untold
pub next_read : (r : Option MsgRef) (t : List ℕ) (ls : Listing) (u : UntoldState) (item : Item) (after : Option UntoldState) → TellsNext u item after → Rises ls
    → Alike (reads_all r t (reads r t ls item) (untold_items after)) (reads_all r t ls (untold_items (Some u)))
next_read r t ls u item after (next, comes, is) h = rw is (comes_read r t ls u next item (u.told == 0 && is_within MAX_STATE_BYTES u.rows) refl comes h)
