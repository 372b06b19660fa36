-- The difference of one topic, by cases: nobody follows the topic, it is there already, it is quiet, or it is added.
use Rattle.std.proofs.Common.{◌≡◌, ℕ, Bool, true, false, cond, ◌&&◌, List, [], ◌∷◌, Option, Some, None, option_map, option_to_list, is_some, refl, sym, ◌∙◌, ap, inl, inr}
use Rattle.std.specs.Prelude.{◌⊎◌}
use Rattle.std.specs.BTreeMap.{get}
use Rattle.std.specs.declared.sync.Arc.{Arc}
use Rattle.presence_base.specs.Order.{text_cmp, same_text}
use Rattle.presence_journal.proofs.Same.{same_text-true}
use Rattle.presence_journal.specs.declared.rows.Item.{Item}
use Rattle.presence_journal.specs.declared.rows.Item.TheVariants as items_are
use Rattle.presence_journal.specs.declared.rows.RowDiff.{RowDiff}
use Rattle.presence_journal.specs.declared.entry.Entry.{Entry}
use Rattle.presence_journal.specs.History.{History}
use Rattle.presence_journal.specs.Queue.{is_empty, diff_item, diff_of}
use Rattle.tracker_feeds.specs.Fed.{Fed, is_followed, items_for}
use Rattle.tracker_feeds.specs.declared.diffs.Changes.{Changes}
use Rattle.tracker_feeds.specs.Making.{Made, ArePlaced, ArePartly, AddsDiff, IsAdded, IsDiffOf}

-- all stays, where the topic's own items are right already
left_alone : {A : Type 0} (fed : Fed) (c : Changes) (t : List ℕ) (made : Made A) → ((h : History) (e : Entry) → ArePlaced h e c → ArePartly h e made → is_followed fed t ≡ true → items_for made t ≡ diff_item (diff_of h e t)) → AddsDiff fed c t made made
left_alone fed c t made right h e placed partly u = go (same_text t u) (is_followed fed u) refl refl
  where
    go : (a b : Bool) → same_text t u ≡ a → is_followed fed u ≡ b → items_for made u ≡ cond (a && b) (diff_item (diff_of h e u)) (items_for made u)
    go true true f g =
        let is : t ≡ u = same_text-true t u f in
        (λ i. items_for made (sym is i)) ∙ (right h e placed partly (ap (is_followed fed) is ∙ g) ∙ (λ i. diff_item (diff_of h e (is i))))
    go true false f g = refl
    go false b f g = refl

-- nobody follows the topic
pub unfollowed : {A : Type 0} (fed : Fed) (c : Changes) (t : List ℕ) (made : Made A) → is_followed fed t ≡ false → AddsDiff fed c t made made
unfollowed fed c t made none = left_alone fed c t made (λ h e placed partly followed. absurd (cc))

there : {A : Type 0} (o : Option (Arc Item A)) → is_some o ≡ true → option_to_list (option_map (λ (i : Arc Item A). i.value) o) ≡ [] → ⊥
there None e f = absurd (cc)
there (Some i) e f = absurd (cc)

-- it is there already
pub there_already : {A : Type 0} (fed : Fed) (c : Changes) (t : List ℕ) (made : Made A) → is_some (get text_cmp made t) ≡ true → AddsDiff fed c t made made
there_already {A} fed c t made has = left_alone fed c t made (λ h e placed partly followed. go h e (partly t))
  where
    go : (h : History) (e : Entry) → (items_for made t ≡ []) ⊎ (items_for made t ≡ diff_item (diff_of h e t)) → items_for made t ≡ diff_item (diff_of h e t)
    go h e (inl none) = absurd (there (get text_cmp made t) has none)
    go h e (inr is) = is

none_there : {A : Type 0} (o : Option (Arc Item A)) → is_some o ≡ false → option_to_list (option_map (λ (i : Arc Item A). i.value) o) ≡ []
none_there None e = refl
none_there (Some i) e = absurd (cc)

quiet_item : (d : RowDiff) → (is_empty d.joins && is_empty d.leaves) ≡ true → [] ≡ diff_item d
quiet_item d e = sym (ap (λ b. cond b [] (items_are.Diff d ∷ [])) e)

told_item : (d : RowDiff) → (is_empty d.joins && is_empty d.leaves) ≡ false → items_are.Diff d ∷ [] ≡ diff_item d
told_item d e = sym (ap (λ b. cond b [] (items_are.Diff d ∷ [])) e)

-- nothing joins or leaves on the topic
pub quiet : {A : Type 0} (fed : Fed) (c : Changes) (t : List ℕ) (made : Made A) (d : RowDiff) → is_some (get text_cmp made t) ≡ false → IsDiffOf c t d → (is_empty d.joins && is_empty d.leaves) ≡ true → AddsDiff fed c t made made
quiet fed c t made d has is nothing = left_alone fed c t made (λ h e placed partly followed. none_there (get text_cmp made t) has ∙ (quiet_item d nothing ∙ ap diff_item (is h e placed)))

-- the difference is added
pub told : {A : Type 0} (fed : Fed) (c : Changes) (t : List ℕ) (old new : Made A) (d : RowDiff) → is_followed fed t ≡ true → IsDiffOf c t d → (is_empty d.joins && is_empty d.leaves) ≡ false → IsAdded t (items_are.Diff d) old new → AddsDiff fed c t old new
told fed c t old new d followed is some added h e placed partly u = added u ∙ go (same_text t u) refl
  where
    go : (a : Bool) → same_text t u ≡ a → cond a (items_are.Diff d ∷ []) (items_for old u) ≡ cond (a && is_followed fed u) (diff_item (diff_of h e u)) (items_for old u)
    go true f =
        let same : t ≡ u = same_text-true t u f in
        told_item d some
        ∙ (ap diff_item (is h e placed)
        ∙ ((λ i. diff_item (diff_of h e (same i)))
        ∙ sym (ap (λ b. cond b (diff_item (diff_of h e u)) (items_for old u)) (sym (ap (is_followed fed) same) ∙ followed))))
    go false f = refl
