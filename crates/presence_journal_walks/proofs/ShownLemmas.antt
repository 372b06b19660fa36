-- Rows that are picked out of a table one by one, as those of a topic that are shown.
use Rattle.std.proofs.Common.{◌≡◌, ℕ, Bool, true, false, cond, ◌&&◌, List, [], ◌∷◌, Option, Some, None, is_some, not, refl, sym, ◌∙◌, ap}
use Rattle.std.specs.BTreeMap.{get}
use Rattle.std.specs.List.{IsDistinct}
use Rattle.std.specs.List.Sorted.{IsStrictlySortedBy}
use Rattle.std.specs.FinMap as map
use Rattle.std.specs.Map.{lookup, keys_of}
use Rattle.std.specs.Cmp.{eq_by_cmp_equiv}
use Rattle.std.proofs.lemmas.Map.{lookup-none}
use Rattle.std.proofs.lemmas.Map.Entries.{none_past_head}
use Rattle.std.proofs.lemmas.Map.Keys.{IsDistinct-tail, IsDistinct-from_sorted}
use Rattle.presence_base.specs.declared.dots.Dot.{Dot}
use Rattle.presence_base.specs.declared.row.Row.{Row}
use Rattle.presence_base.specs.Order.{dot_cmp, same_dot, same_text}
use Rattle.orswot_core.specs.Sets.{DotRows, Rows}
use Rattle.orswot_core.proofs.FullFacts.{live_sorted}
use Rattle.orswot_core.proofs.RowFacts.{find_is}
use Rattle.presence_journal.specs.History.{History, first_some, is_up, status, live, shown}
use Rattle.presence_journal.specs.Present.{of_topic}
use Rattle.presence_journal.specs.Walk.{row_at, shown_of}
use Rattle.presence_journal.proofs.Lookups.{cond_none, first_none}
use Rattle.presence_journal.proofs.Same.{dot_total, same_dot-true}
use Rattle.presence_journal_known.specs.Walked.{Holds}

-- the rows that are picked
abbrev pub Picks : Type 0
Picks = Dot → Row → Bool

abbrev picked : Picks → Dot → Option Row → Option Row
picked p d None = None
picked p d (Some r) = cond (p d r) (Some r) None

-- f gives the rows that were picked so far, and the rest is still to be looked at
pub record ArePicked (p : Picks) (es rest : List (Dot × Row)) (f : Dot → Option Row) : Type 0 where
  pub distinct : IsDistinct same_dot (keys_of rest)
  pub here : (d : Dot) → picked p d (lookup (same_dot d) es) ≡ first_some (picked p d (lookup (same_dot d) rest)) (f d)

pub picked_none : (p : Picks) (es : List (Dot × Row)) (f : Dot → Option Row) → IsStrictlySortedBy dot_cmp (keys_of es) → ((d : Dot) → f d ≡ None) → ArePicked p es es f
picked_none p es f sorted none = record {
  distinct = IsDistinct-from_sorted dot_cmp (keys_of es) sorted;
  here = λ d. sym (ap (first_some (picked p d (lookup (same_dot d) es))) (none d) ∙ first_none (picked p d (lookup (same_dot d) es)));
}

at_row : (b : Bool) (x : Dot × Row) (d : Dot) → row_at (cond b (Some x) None) d ≡ cond b (cond (same_dot d x.0) (Some x.1) None) None
at_row true x d = refl
at_row false x d = refl

pub picked_more : (p : Picks) (es rest : List (Dot × Row)) (x : Dot × Row) (b : Bool) (added : Option (Dot × Row)) (f g : Dot → Option Row) → b ≡ p x.0 x.1 → added ≡ cond b (Some x) None → ((d : Dot) → g d ≡ first_some (row_at added d) (f d)) → ArePicked p es (x ∷ rest) f → ArePicked p es rest g
picked_more p es rest x b added f g is add put a = record {
  distinct = IsDistinct-tail same_dot x.0 (keys_of rest) a.distinct;
  here = λ d. a.here d ∙ (go d (same_dot d x.0) refl ∙ ap (first_some (picked p d (lookup (same_dot d) rest))) (sym (put d ∙ ap (λ o. first_some o (f d)) (ap (λ o. row_at o d) add ∙ at_row b x d))));
}
  where
    go : (d : Dot) (s : Bool) → same_dot d x.0 ≡ s → first_some (picked p d (cond s (Some x.1) (lookup (same_dot d) rest))) (f d) ≡ first_some (picked p d (lookup (same_dot d) rest)) (first_some (cond b (cond s (Some x.1) None) None) (f d))
    go d true e =
        let none : lookup (same_dot d) rest ≡ None = lookup-none (same_dot d) rest (none_past_head (eq_by_cmp_equiv dot_total) d x rest a.distinct e) in
        let now : p d x.1 ≡ b = ap (λ z. p z x.1) (same_dot-true d x.0 e) ∙ sym is in
        ap (λ c. first_some (cond c (Some x.1) None) (f d)) now
        ∙ ap (λ o. first_some (picked p d o) (first_some (cond b (Some x.1) None) (f d))) (sym none)
    go d false e = ap (λ o. first_some (picked p d (lookup (same_dot d) rest)) (first_some o (f d))) (sym (cond_none b))

-- those of a topic that are shown

abbrev pub is_shown : History → List ℕ → Picks
is_shown h t d r = same_text r.topic t && is_up (status h d.replica)

picked_live : (h : History) (t : List ℕ) (d : Dot) → picked (is_shown h t) d (live h d) ≡ shown_of h t d
unfolding shown
picked_live h t d = go (is_up (status h d.replica)) (live h d)
  where
    topic : (b : Bool) (r : Row) → cond (b && true) (Some r) None ≡ cond b (Some r) None
    topic true r = refl
    topic false r = refl

    down : (b : Bool) (r : Row) → cond (b && false) (Some r) None ≡ None
    down true r = refl
    down false r = refl

    pick : Bool → Option Row → Option Row
    pick u None = None
    pick u (Some r) = cond (same_text r.topic t && u) (Some r) None

    go : (u : Bool) (o : Option Row) → pick u o ≡ of_topic t (cond u o None)
    go true None = refl
    go false None = refl
    go true (Some r) = topic (same_text r.topic t) r
    go false (Some r) = down (same_text r.topic t) r

pub shown_none : (h : History) (t : List ℕ) (s : DotRows) (f : Dot → Option Row) → ((d : Dot) → f d ≡ None) → ArePicked (is_shown h t) (map.entries s.live) (map.entries s.live) f
shown_none h t s f none = picked_none (is_shown h t) (map.entries s.live) f (live_sorted s.live) none

pub shown_all : (h : History) (t : List ℕ) (s : DotRows) (f : Dot → Option Row) → Holds h s → ArePicked (is_shown h t) (map.entries s.live) [] f → (d : Dot) → f d ≡ shown_of h t d
shown_all h t s f holds a d =
    sym (a.here d)
    ∙ (ap (picked (is_shown h t) d) (sym (find_is (map.entries s.live) d) ∙ (sym (map.get-entries s.live d) ∙ holds.live d))
    ∙ picked_live h t d)

-- those that another table has not

abbrev pub is_missing_in : (Dot → Option Row) → Picks
is_missing_in g d r = not (is_some (g d))

picked_missing : (g : Dot → Option Row) (d : Dot) (o : Option Row) → picked (is_missing_in g) d o ≡ cond (is_some (g d)) None o
picked_missing g d None = sym (cond_none (is_some (g d)))
picked_missing g d (Some r) = turned (is_some (g d))
  where
    turned : (b : Bool) → cond (not b) (Some r) None ≡ cond b None (Some r)
    turned true = refl
    turned false = refl

pub missing_all : (m : Rows) (f g : Dot → Option Row) → ArePicked (is_missing_in g) m.entries [] f → (d : Dot) → f d ≡ cond (is_some (g d)) None (get dot_cmp m d)
missing_all m f g a d = sym (a.here d) ∙ picked_missing g d (lookup (same_dot d) m.entries)
