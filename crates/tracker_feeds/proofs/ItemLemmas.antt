-- What an entry makes, by its step: a shout, or the difference of its turn.
use Rattle.std.proofs.Common.{◌≡◌, ℕ, Bool, true, false, cond, ◌++◌, List, [], ◌∷◌, option_map, option_to_list, refl, sym, ◌∙◌, ap}
use Rattle.std.specs.Map.{lookup}
use Rattle.std.specs.BTreeMap.{is_at}
use Rattle.std.specs.declared.sync.Arc.{Arc}
use Rattle.std.proofs.lemmas.List.{append-nil}
use Rattle.serde_json.specs.Data.{Data}
use Rattle.presence_base.specs.Order.{text_cmp, same_text}
use Rattle.presence_journal.specs.declared.rows.Item.{Item}
use Rattle.presence_journal.specs.declared.rows.Item.TheVariants as items_are
use Rattle.presence_journal.specs.declared.step.Step.TheVariants as steps_are
use Rattle.presence_journal.specs.declared.step.Step.{Step}
use Rattle.presence_journal.specs.declared.entry.Entry.{Entry}
use Rattle.presence_journal.specs.History.{History, Then}
use Rattle.presence_journal.specs.Laws.{concerns}
use Rattle.presence_journal.specs.Present.{present, changes}
use Rattle.presence_journal.specs.Queue.{diff_item, diff_of, shout_item, items_made}
use Rattle.presence_journal.specs.Table.{IsLegal, after}
use Rattle.presence_journal.proofs.FoldOthers.{others_stay}
use Rattle.presence_journal.proofs.FoldTables.{no_changes}
use Rattle.presence_journal.proofs.HistoryLemmas.{after-accepted}
use Rattle.tracker_shown.specs.declared.turn.Turn.{Turn}
use Rattle.presence_journal.proofs.Same.{same_text-true}
use Rattle.tracker_feeds.specs.Fed.{Fed, is_followed, items_for}
use Rattle.tracker_feeds.specs.Making.{Made, MakesItems, MakesDiffs, MakesShout, IsAdded}

-- a map without entries has no item
pub no_items : {A : Type 0} (made : Made A) → made.entries ≡ [] → (u : List ℕ) → items_for made u ≡ []
no_items {A} made none u = ap (λ (es : List (List ℕ × Arc Item A)). option_to_list (option_map (λ (i : Arc Item A). i.value) (lookup (is_at (text_cmp u)) es))) none

-- a shout for the topic, where nothing was there
pub shout_told : {A : Type 0} (fed : Fed) (topic : List ℕ) (payload copy : Data) (none one : Made A) → copy ≡ payload → ((u : List ℕ) → items_for none u ≡ []) → IsAdded topic (items_are.Shout copy) none one → MakesShout fed topic payload one
shout_told fed topic payload copy none one same nothing added t followed =
    added t
    ∙ (λ i. cond (same_text topic t) (items_are.Shout (same i) ∷ []) (nothing t i))

-- nobody follows the topic
pub shout_to_nobody : {A : Type 0} (fed : Fed) (topic : List ℕ) (payload : Data) (none : Made A) → ((u : List ℕ) → items_for none u ≡ []) → is_followed fed topic ≡ false → MakesShout fed topic payload none
shout_to_nobody fed topic payload none nothing nobody t followed = nothing t ∙ go (same_text topic t) refl
  where
    go : (b : Bool) → same_text topic t ≡ b → [] ≡ cond b (items_are.Shout payload ∷ []) []
    go true e = absurd (let f : is_followed fed topic ≡ true = ap (is_followed fed) (same_text-true topic t e) ∙ followed in cc)
    go false e = refl

-- a legal entry is what its step makes of the history
entry_after : (h : History) (e : Entry) → IsLegal (Then h e) → Then h e ≡ after h e.step e.seat
entry_after h e legal =
    (λ i. Then h (record { number = legal.2 i; seat = e.seat; step = e.step; outcome = e.outcome }))
    ∙ sym (after-accepted h e.step e.seat e.outcome legal.1 legal.3)

-- an entry changes no row of a topic that it does not concern
no_diff : (h : History) (e : Entry) (t : List ℕ) → IsLegal (Then h e) → concerns e.step t ≡ false → diff_item (diff_of h e t) ≡ []
no_diff h e t legal n =
    ap (λ m. diff_item (changes (present h t) m)) (ap (λ (g : History). present g t) (entry_after h e legal) ∙ others_stay h legal.0 e.step e.seat t n)
    ∙ ap diff_item (no_changes (present h t))

-- a shout makes itself
pub shout_made : {A : Type 0} (fed : Fed) (turn : Turn) (topic : List ℕ) (payload : Data) (made : Made A) → MakesShout fed topic payload made → MakesItems fed (steps_are.Shout topic payload) turn made
unfolding items_made
shout_made fed turn topic payload made makes h e is legal turns t followed =
    makes t followed
    ∙ sym ((λ i. diff_item (diff_of h e t) ++ shout_item (is i) t)
    ∙ ap (λ xs. xs ++ cond (same_text topic t) (items_are.Shout payload ∷ []) []) (no_diff h e t legal (ap (λ s. concerns s t) is)))

-- any other step the difference
pub diffs_made : {A : Type 0} (fed : Fed) (s : Step) (turn : Turn) (made : Made A) → ((t : List ℕ) → shout_item s t ≡ []) → MakesDiffs fed turn made → MakesItems fed s turn made
unfolding items_made
diffs_made fed s turn made no_shout makes h e is legal turns t followed =
    makes h e turns t followed
    ∙ sym (ap (λ xs. diff_item (diff_of h e t) ++ xs) (ap (λ k. shout_item k t) is ∙ no_shout t) ∙ append-nil (diff_item (diff_of h e t)))

-- any other step makes no shout
pub no_shout : (s : Step) → ((topic : List ℕ) (payload : Data) → s ≡ steps_are.Shout topic payload → ⊥) → (t : List ℕ) → shout_item s t ≡ []
no_shout (steps_are.Shout topic payload) f t = absurd (f topic payload refl)
no_shout _ f t = refl
