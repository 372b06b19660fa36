-- What is present at a place, and that the difference of an entry leads from what was present to what is.
use Rattle.std.proofs.Common.{◌≡◌, Bool, true, false, cond, ◌&&◌, ◌||◌, List, [], ◌∷◌, Option, Some, None, Ordering, refl, sym, ◌∙◌, ap, ℕ}
use Rattle.std.specs.declared.cmp.Ordering.TheVariants.{Less, Equal, Greater}
use Rattle.std.specs.Ordering.{ordering_then, is_eq}
use Rattle.std.specs.Cmp.{eq_by_cmp_equiv}
use Rattle.std.specs.Cmp.Lexicographic.{nat_list_cmp_total}
use Rattle.std.specs.FinMap as map
use Rattle.std.proofs.lemmas.Bool.{both_ways}
use Rattle.std.proofs.lemmas.Option.{same_Some}
use Rattle.presence_base.specs.declared.dots.Dot.{Dot}
use Rattle.presence_base.specs.declared.row.Row.{Row}
use Rattle.presence_base.specs.Order.{text_cmp, dot_cmp, same_text, same_dot}
use Rattle.presence_journal.specs.declared.rows.Place.{Place}
use Rattle.presence_journal.specs.Steps.{Entry}
use Rattle.presence_journal.specs.History.{History, Then, has_dot, shown}
use Rattle.presence_journal.specs.Present.{place_cmp, place_of, of_topic, dots, put, put_all, present}
use Rattle.presence_journal.specs.Laws.{IsPlaced, Agrees, of_key, PresentIsShown, DiffsLead}
use Rattle.presence_journal.proofs.FoldOrder.{place_cmp_total, same_text-is, same_dot-is}
use Rattle.presence_journal.proofs.FoldTables.{changes_lead}
use Rattle.presence_journal.proofs.PresentLemmas.{row_in_dots, row-stays, shown-row}

both_tie : (o p : Ordering) → is_eq (ordering_then o p) ≡ (is_eq o && is_eq p)
both_tie Less p = refl
both_tie Equal p = refl
both_tie Greater p = refl

-- what a table that a function of dots gives has at a place
abbrev pub keyed : (Dot → Option Row) → List Dot → Place → Option Row
keyed f ds p = cond (has_dot ds p.dot) (of_key p.key (f p.dot)) None

pub cond_none : (b : Bool) → cond {A = Option Row} b None None ≡ None
cond_none true = refl
cond_none false = refl

pick : (same has : Bool) (k : List ℕ) (r : Row) (o : Option Row) → (same ≡ true → o ≡ Some r) → cond (same_text k r.key && same) (Some r) (cond has (of_key k o) None) ≡ cond (same || has) (of_key k o) None
pick true has k r o f = rw (f refl, (eq_by_cmp_equiv nat_list_cmp_total).symm k r.key) (go (same_text r.key k))
  where
    go : (b : Bool) → cond (b && true) (Some r) (cond has (cond b (Some r) None) None) ≡ cond b (Some r) None
    go true = refl
    go false = cond_none has
pick false has k r o f = go (same_text k r.key)
  where
    go : (b : Bool) → cond (b && false) (Some r) (cond has (of_key k o) None) ≡ cond has (of_key k o) None
    go true = refl
    go false = refl

skip : (same has : Bool) (k : List ℕ) (o : Option Row) → (same ≡ true → o ≡ None) → cond has (of_key k o) None ≡ cond (same || has) (of_key k o) None
skip true has k o f = rw (f refl) (cond_none has)
skip false has k o f = refl

pub get-put_all : (f : Dot → Option Row) (ds : List Dot) (p : Place) → map.get (put_all f ds) p ≡ keyed f ds p
get-put_all f [] p = map.get-empty place_cmp p
get-put_all f (d ∷ ds) p = go (f d) refl (get-put_all f ds p)
  where
    go : (o : Option Row) → f d ≡ o → map.get (put_all f ds) p ≡ keyed f ds p → map.get (put d o (put_all f ds)) p ≡ keyed f (d ∷ ds) p
    go None e ih = ih ∙ skip (same_dot p.dot d) (has_dot ds p.dot) p.key (f p.dot) (λ s. ap f (same_dot-is p.dot d s) ∙ e)
    go (Some r) e ih =
        map.get-insert place_cmp_total (put_all f ds) (place_of d r) r p
        ∙ (λ i. cond (both_tie (text_cmp p.key r.key) (dot_cmp p.dot d) i) (Some r) (ih i))
        ∙ pick (same_dot p.dot d) (has_dot ds p.dot) p.key r (f p.dot) (λ s. ap f (same_dot-is p.dot d s) ∙ e)

pub of_topic-some : (t : List ℕ) (o : Option Row) (r : Row) → of_topic t o ≡ Some r → (o ≡ Some r) × (r.topic ≡ t)
of_topic-some t None r h = absurd (cc)
of_topic-some t (Some x) r h = go (same_text x.topic t) refl h
  where
    go : (b : Bool) → same_text x.topic t ≡ b → cond b (Some x) None ≡ Some r → (Some x ≡ Some r) × (r.topic ≡ t)
    go true s e = (e, ap (λ (y : Row). y.topic) (sym (same_Some _ _ e)) ∙ same_text-is x.topic t s)
    go false s e = absurd (cc)

pub of_key-some : (k : List ℕ) (o : Option Row) (r : Row) → of_key k o ≡ Some r → (o ≡ Some r) × (r.key ≡ k)
of_key-some k None r h = absurd (cc)
of_key-some k (Some x) r h = go (same_text x.key k) refl h
  where
    go : (b : Bool) → same_text x.key k ≡ b → cond b (Some x) None ≡ Some r → (Some x ≡ Some r) × (r.key ≡ k)
    go true s e = (e, ap (λ (y : Row). y.key) (sym (same_Some _ _ e)) ∙ same_text-is x.key k s)
    go false s e = absurd (cc)

pub present_is : PresentIsShown
unfolding present
present_is h t p = get-put_all (λ d. of_topic t (shown h d)) (dots h) p ∙ go (shown h p.dot) (has_dot (dots h) p.dot) refl refl
  where
    go : (o : Option Row) (b : Bool) → shown h p.dot ≡ o → has_dot (dots h) p.dot ≡ b → cond b (of_key p.key (of_topic t o)) None ≡ of_key p.key (of_topic t o)
    go None b e f = cond_none b
    go (Some r) true e f = refl
    go (Some r) false e f = absurd (both_ways (has_dot (dots h) p.dot) f (row_in_dots h p.dot r (shown-row h p.dot r e).0))

-- of a row that is present
pub record Presence (h : History) (t : List ℕ) (p : Place) (r : Row) : Type 0 where
  pub shown : shown h p.dot ≡ Some r
  pub topic : r.topic ≡ t
  pub key : r.key ≡ p.key

pub presence : (h : History) (t : List ℕ) (p : Place) (r : Row) → map.get (present h t) p ≡ Some r → Presence h t p r
presence h t p r e =
    let with_key = of_key-some p.key (of_topic t (shown h p.dot)) r (sym (present_is h t p) ∙ e) in
    let with_topic = of_topic-some t (shown h p.dot) r with_key.0 in
    record { shown = with_topic.0; topic = with_topic.1; key = with_key.1 }

pub present_placed : (h : History) (t : List ℕ) → IsPlaced (present h t)
present_placed h t p r e = (presence h t p r e).key

-- a dot has one row, whenever it is present
pub present_agrees : (h : History) (e : Entry) (t : List ℕ) → Agrees (present h t) (present (Then h e) t)
present_agrees h e t p r s f g = same_Some r s (sym (row-stays h e p.dot r (shown-row h p.dot r (presence h t p r f).shown).0) ∙ (shown-row (Then h e) p.dot s (presence (Then h e) t p s g).shown).0)

pub diffs_lead : DiffsLead
diffs_lead h e t = changes_lead (present h t) (present (Then h e) t) (present_placed h t) (present_placed (Then h e) t) (present_agrees h e t)
