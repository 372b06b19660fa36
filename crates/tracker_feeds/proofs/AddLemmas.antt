-- Differences added for one topic after another.
use Rattle.std.proofs.Common.{◌≡◌, ℕ, ◌+◌, Bool, true, false, cond, ◌&&◌, ◌||◌, List, [], ◌∷◌, drop, refl, sym, ◌∙◌, ap, subst, inl, inr}
use Rattle.std.specs.Prelude.{◌⊎◌}
use Rattle.presence_base.specs.declared.dots.Dot.{Dot}
use Rattle.presence_base.specs.declared.row.Row.{Row}
use Rattle.presence_base.specs.Order.{same_text}
use Rattle.presence_journal.specs.declared.rows.Item.{Item}
use Rattle.presence_journal.specs.declared.entry.Entry.{Entry}
use Rattle.presence_journal.specs.History.{History}
use Rattle.presence_journal.specs.Queue.{diff_item, diff_of}
use Rattle.tracker_shown.specs.declared.turn.Turn.{Turn}
use Rattle.tracker_shown.specs.Turns.{joins_at, leaves_at, IsTurn}
use Rattle.tracker_shown.specs.Placing.{IsOfRows}
use Rattle.tracker_feeds.specs.Fed.{Fed, is_followed, items_for}
use Rattle.tracker_feeds.specs.declared.diffs.Changes.{Changes}
use Rattle.tracker_feeds.specs.Making.{Made, ArePlaced, ArePartly, AddsDiff, AddsDiffs, MakesDiffs, has_topic}
use Rattle.tracker_feeds.proofs.DiffLemmas.{quiet_topic}

-- what was set stays partly so
partly_set : (b : Bool) (x d : List Item) → (x ≡ []) ⊎ (x ≡ d) → (cond b d x ≡ []) ⊎ (cond b d x ≡ d)
partly_set true x d is = inr refl
partly_set false x d is = is

pub partly_after : {A : Type 0} (fed : Fed) (c : Changes) (t : List ℕ) (old new : Made A) (h : History) (e : Entry) → AddsDiff fed c t old new → ArePlaced h e c → ArePartly h e old → ArePartly h e new
partly_after fed c t old new h e adds placed partly u = go (sym (adds h e placed partly u)) (partly_set (same_text t u && is_followed fed u) (items_for old u) (diff_item (diff_of h e u)) (partly u))
  where
    go : {x y : List Item} → x ≡ y → (x ≡ []) ⊎ (x ≡ diff_item (diff_of h e u)) → (y ≡ []) ⊎ (y ≡ diff_item (diff_of h e u))
    go same (inl f) = inl (sym same ∙ f)
    go same (inr f) = inr (sym same ∙ f)

-- what the first i rows add, and what is left to add
pub record AddedTo {A : Type 0} (fed : Fed) (c : Changes) (xs : List (Dot × Row)) (i : ℕ) (old now : Made A) (h : History) (e : Entry) : Type 0 where
  pub partly : ArePartly h e now
  pub items : (u : List ℕ) → cond (has_topic (drop i xs) u && is_followed fed u) (diff_item (diff_of h e u)) (items_for now u) ≡ cond (has_topic xs u && is_followed fed u) (diff_item (diff_of h e u)) (items_for old u)

abbrev pub AllAddedTo : {A : Type 0} → Fed → Changes → List (Dot × Row) → ℕ → Made A → Made A → Type 0
AllAddedTo fed c xs i old now = (h : History) (e : Entry) → ArePlaced h e c → ArePartly h e old → AddedTo fed c xs i old now h e

set_twice : (a b f : Bool) (d x : List Item) → cond (b && f) d (cond (a && f) d x) ≡ cond ((a || b) && f) d x
set_twice true true true d x = refl
set_twice true true false d x = refl
set_twice true false true d x = refl
set_twice true false false d x = refl
set_twice false b f d x = refl

pub add_first : {A : Type 0} (fed : Fed) (c : Changes) (xs : List (Dot × Row)) (old : Made A) → AllAddedTo fed c xs 0 old old
add_first fed c xs old h e placed partly = record { partly = partly; items = λ u. refl }

pub add_more : {A : Type 0} (fed : Fed) (c : Changes) (xs : List (Dot × Row)) (i : ℕ) (x : Dot × Row) (old now new : Made A) → drop i xs ≡ x ∷ drop (i + 1) xs → AddsDiff fed c x.1.topic now new → AllAddedTo fed c xs i old now → AllAddedTo fed c xs (i + 1) old new
add_more fed c xs i x old now new at adds told h e placed partly =
    let so_far = told h e placed partly in
    record {
      partly = partly_after fed c x.1.topic now new h e adds placed so_far.partly;
      items = λ u.
          ap (cond (has_topic (drop (i + 1) xs) u && is_followed fed u) (diff_item (diff_of h e u))) (adds h e placed so_far.partly u)
          ∙ (set_twice (same_text x.1.topic u) (has_topic (drop (i + 1) xs) u) (is_followed fed u) (diff_item (diff_of h e u)) (items_for now u)
          ∙ (ap (λ ys. cond (has_topic ys u && is_followed fed u) (diff_item (diff_of h e u)) (items_for now u)) (sym at) ∙ so_far.items u));
    }

pub add_end : {A : Type 0} (fed : Fed) (c : Changes) (xs : List (Dot × Row)) (i : ℕ) (old new : Made A) → drop i xs ≡ [] → AllAddedTo fed c xs i old new → AddsDiffs fed c xs old new
add_end fed c xs i old new none told h e placed partly u =
    ap (λ ys. cond (has_topic ys u && is_followed fed u) (diff_item (diff_of h e u)) (items_for new u)) (sym none)
    ∙ (told h e placed partly).items u

-- both lists of a turn, from nothing
both_added : {A : Type 0} (fed : Fed) (c : Changes) (x : Turn) (none one two : Made A) → ((u : List ℕ) → items_for none u ≡ []) → ((h : History) (e : Entry) → IsTurn h e x → ArePlaced h e c) → AddsDiffs fed c x.joins.items none one → AddsDiffs fed c x.leaves.items one two → MakesDiffs fed x two
both_added fed c x none one two nothing places joins leaves h e is t followed =
    leaves h e placed partly t
    ∙ (ap (cond (has_topic x.leaves.items t && is_followed fed t) (diff_item (diff_of h e t))) (joins h e placed (λ u. inl (nothing u)) t ∙ ap (cond (has_topic x.joins.items t && is_followed fed t) (diff_item (diff_of h e t))) (nothing t))
    ∙ ((λ i. cond (has_topic x.leaves.items t && followed i) (diff_item (diff_of h e t)) (cond (has_topic x.joins.items t && followed i) (diff_item (diff_of h e t)) []))
    ∙ go (has_topic x.joins.items t) (has_topic x.leaves.items t) refl refl))
  where
    placed : ArePlaced h e c
    placed = places h e is

    partly : ArePartly h e one
    partly u = by (has_topic x.joins.items u && is_followed fed u) (joins h e placed (λ v. inl (nothing v)) u)
      where
        by : (k : Bool) → items_for one u ≡ cond k (diff_item (diff_of h e u)) (items_for none u) → (items_for one u ≡ []) ⊎ (items_for one u ≡ diff_item (diff_of h e u))
        by true g = inr g
        by false g = inl (g ∙ nothing u)

    go : (a b : Bool) → has_topic x.joins.items t ≡ a → has_topic x.leaves.items t ≡ b → cond (b && true) (diff_item (diff_of h e t)) (cond (a && true) (diff_item (diff_of h e t)) []) ≡ diff_item (diff_of h e t)
    go a true f g = refl
    go true false f g = refl
    go false false f g = sym (quiet_topic h e x t is f g)

pub all_added : {A : Type 0} (fed : Fed) (c : Changes) (x : Turn) (js ls : List (Dot × Row)) (none one two : Made A) → js ≡ x.joins.items → ls ≡ x.leaves.items → ((u : List ℕ) → items_for none u ≡ []) → IsOfRows js c.joins → IsOfRows ls c.leaves → AddsDiffs fed c js none one → AddsDiffs fed c ls one two → MakesDiffs fed x two
all_added fed c x js ls none one two j l nothing joined left joins leaves =
    both_added fed c x none one two nothing
    (λ h e is. record {
      joins = subst (λ ys. IsOfRows ys c.joins) j joined (joins_at h e) is.joins;
      leaves = subst (λ ys. IsOfRows ys c.leaves) l left (leaves_at h e) is.leaves;
    })
    (subst (λ ys. AddsDiffs fed c ys none one) j joins) (subst (λ ys. AddsDiffs fed c ys one two) l leaves)
