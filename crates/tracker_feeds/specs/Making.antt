-- What an entry makes for the topics that are followed, by its turn.
use Rattle.std.specs.Prelude.{◌≡◌, ℕ, Bool, true, cond, ◌&&◌, List, [], ◌∷◌, ◌⊎◌}
use Rattle.std.specs.List.{list_any}
use Rattle.std.specs.BTreeMap.{BTreeMap}
use Rattle.std.specs.declared.sync.Arc.{Arc}
use Rattle.serde_json.specs.Data.{Data}
use Rattle.presence_base.specs.declared.dots.Dot.{Dot}
use Rattle.presence_base.specs.declared.row.Row.{Row}
use Rattle.presence_base.specs.Order.{same_text}
use Rattle.presence_journal.specs.declared.rows.Item.{Item}
use Rattle.presence_journal.specs.declared.rows.Item.TheVariants as items_are
use Rattle.presence_journal.specs.declared.rows.RowDiff.{RowDiff}
use Rattle.presence_journal.specs.declared.step.Step.{Step}
use Rattle.presence_journal.specs.declared.entry.Entry.{Entry}
use Rattle.presence_journal.specs.History.{History, Then}
use Rattle.presence_journal.specs.Queue.{diff_item, diff_of, items_made}
use Rattle.presence_journal.specs.Table.{IsLegal}
use Rattle.tracker_shown.specs.declared.turn.Turn.{Turn}
use Rattle.tracker_shown.specs.Turns.{joins_at, leaves_at, IsTurn}
use Rattle.tracker_shown.specs.Placing.{IsPlacedOf}
use Rattle.tracker_feeds.specs.declared.diffs.Changes.{Changes}
use Rattle.tracker_feeds.specs.Fed.{Fed, is_followed, items_for}

abbrev pub Made : Type 0 → Type 0
Made A = BTreeMap (List ℕ) (Arc Item A)

-- what any entry of the step makes, where this is its turn
abbrev pub MakesItems : {A : Type 0} → Fed → Step → Turn → Made A → Type 0
MakesItems fed s turn made =
    (h : History) (e : Entry) → e.step ≡ s → IsLegal (Then h e) → IsTurn h e turn
    → (t : List ℕ) → is_followed fed t ≡ true → items_for made t ≡ items_made h e t

-- how an entry changes the rows of each topic, where this is its turn
abbrev pub MakesDiffs : {A : Type 0} → Fed → Turn → Made A → Type 0
MakesDiffs fed turn made =
    (h : History) (e : Entry) → IsTurn h e turn
    → (t : List ℕ) → is_followed fed t ≡ true → items_for made t ≡ diff_item (diff_of h e t)

-- a shout on the one topic
abbrev pub MakesShout : {A : Type 0} → Fed → List ℕ → Data → Made A → Type 0
MakesShout fed topic payload made =
    (t : List ℕ) → is_followed fed t ≡ true
    → items_for made t ≡ cond (same_text topic t) (items_are.Shout payload ∷ []) []

-- the rows that join and those that leave with an entry are these
pub record ArePlaced (h : History) (e : Entry) (c : Changes) : Type 0 where
  pub joins : IsPlacedOf (joins_at h e) c.joins
  pub leaves : IsPlacedOf (leaves_at h e) c.leaves

abbrev pub IsDiffOf : Changes → List ℕ → RowDiff → Type 0
IsDiffOf c t d = (h : History) (e : Entry) → ArePlaced h e c → d ≡ diff_of h e t

-- each topic's difference is there, or nothing of it yet
abbrev pub ArePartly : {A : Type 0} → History → Entry → Made A → Type 0
ArePartly h e made = (t : List ℕ) → (items_for made t ≡ []) ⊎ (items_for made t ≡ diff_item (diff_of h e t))

-- one topic has another item
abbrev pub IsAdded : {A : Type 0} → List ℕ → Item → Made A → Made A → Type 0
IsAdded t i old new = (u : List ℕ) → items_for new u ≡ cond (same_text t u) (i ∷ []) (items_for old u)

-- the difference of one topic is there too, if it is followed
abbrev pub AddsDiff : {A : Type 0} → Fed → Changes → List ℕ → Made A → Made A → Type 0
AddsDiff fed c t old new =
    (h : History) (e : Entry) → ArePlaced h e c → ArePartly h e old
    → (u : List ℕ)
    → items_for new u ≡ cond (same_text t u && is_followed fed u) (diff_item (diff_of h e u)) (items_for old u)

-- a row of the topic
abbrev pub has_topic : List (Dot × Row) → List ℕ → Bool
has_topic xs t = list_any (λ (x : Dot × Row). same_text x.1.topic t) xs

-- and those of the topics of rows
abbrev pub AddsDiffs : {A : Type 0} → Fed → Changes → List (Dot × Row) → Made A → Made A → Type 0
AddsDiffs fed c xs old new =
    (h : History) (e : Entry) → ArePlaced h e c → ArePartly h e old
    → (u : List ℕ)
    → items_for new u ≡ cond (has_topic xs u && is_followed fed u) (diff_item (diff_of h e u)) (items_for old u)
