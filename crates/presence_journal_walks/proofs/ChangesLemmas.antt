-- An entry that is not of the own replica alone changes the rows of a topic exactly where it shows or hides a row that was told.
use Rattle.std.proofs.Common.{◌≡◌, ℕ, Bool, true, false, cond, not, ◌&&◌, List, [], ◌∷◌, Option, Some, None, is_some, length, refl, sym, ◌∙◌, ap, inl, inr}
use Rattle.std.specs.Prelude.{◌⊎◌}
use Rattle.std.specs.FinMap as map
use Rattle.std.specs.List.{list_any}
use Rattle.std.specs.Map.{lookup}
use Rattle.std.proofs.lemmas.Bool.{and_parts, or_cases, or_parts}
use Rattle.presence_base.specs.declared.dots.Dot.{Dot}
use Rattle.presence_base.specs.declared.row.Row.{Row}
use Rattle.presence_base.specs.Order.{same_replica, same_dot}
use Rattle.orswot_core.specs.Telling.{live_row}
use Rattle.presence_journal.specs.declared.step.Step.TheVariants as steps_are
use Rattle.presence_journal.specs.declared.rows.Item.TheVariants as items_are
use Rattle.presence_journal.specs.declared.rows.Place.{Place}
use Rattle.presence_journal.specs.declared.step.Step.{Step}
use Rattle.presence_journal.specs.declared.entry.Entry.{Entry}
use Rattle.presence_journal.specs.History.{History, Begin, Then, own, hears, first_some, told_row, is_up, is_gone, status, row, live, shown}
use Rattle.presence_journal.specs.Present.{RowMap, of_topic, present, place_of, changes}
use Rattle.presence_journal.specs.Queue.{is_empty, diff_item, diff_of, with_rows, without_rows}
use Rattle.presence_journal.specs.Table.{IsLegal}
use Rattle.presence_journal.specs.Laws.{is_callers}
use Rattle.presence_journal.specs.Merges.{is_of_rows}
use Rattle.presence_journal.specs.Walk.{keyed, shown_of, is_rebirth}
use Rattle.replica_status.specs.declared.status.Status.{Status}
use Rattle.replica_status.specs.declared.status.Status.TheVariants as status_is
use Rattle.presence_journal.proofs.Same.{same_text-refl, same_dot-true, same_replica-true}
use Rattle.presence_journal.proofs.PresentLemmas.{get-present, of_topic-some, shown-row, row-stays}
use Rattle.presence_journal.proofs.HistoryLemmas.{own-then, shown-live}
use Rattle.presence_journal.proofs.Diffs.{shown_agrees}
use Rattle.presence_journal.proofs.Merges.{own_steps_alone}
use Rattle.presence_journal.proofs.FoldTables.{no_changes}
use Rattle.presence_journal.proofs.FoldPresent.{diffs_lead}
use Rattle.presence_journal.proofs.Fold.{same_present}
use Rattle.presence_journal_walks.specs.Changes.{rows_told, first_told, differs, any_told, changes_on}
use Rattle.presence_journal_walks.proofs.OthersLemmas.{row_of_other, shows_other, shows_own}

-- where the present rows stay, no difference is made
pub no_diff : (h : History) (e : Entry) (t : List ℕ) → present (Then h e) t ≡ present h t → diff_item (diff_of h e t) ≡ []
no_diff h e t same = ap (λ (m : RowMap). diff_item (changes (present h t) m)) same ∙ ap diff_item (no_changes (present h t))

empty_is : (xs : List (Dot × Row)) → is_empty xs ≡ true → xs ≡ []
empty_is [] e = refl
empty_is (x ∷ xs) e = absurd (cc)

-- where they change, one is
one_diff : (h : History) (e : Entry) (t : List ℕ) → (present h t ≡ present (Then h e) t → ⊥) → length (diff_item (diff_of h e t)) ≡ 1
one_diff h e t differs = go (is_empty (diff_of h e t).joins && is_empty (diff_of h e t).leaves) refl
  where
    go : (b : Bool) → (is_empty (diff_of h e t).joins && is_empty (diff_of h e t).leaves) ≡ b → length (cond b [] (items_are.Diff (diff_of h e t) ∷ [])) ≡ 1
    go true p =
        let parts = and_parts (is_empty (diff_of h e t).joins) (is_empty (diff_of h e t).leaves) p in
        let joins : [] ≡ (diff_of h e t).joins = sym (empty_is (diff_of h e t).joins parts.0) in
        let leaves : [] ≡ (diff_of h e t).leaves = sym (empty_is (diff_of h e t).leaves parts.1) in
        absurd (differs ((λ i. without_rows (with_rows (present h t) (joins i)) (leaves i)) ∙ diffs_lead h e t))
    go false p = refl

-- a row of the topic that one history shows and the other does not tells their tables apart
apart : (g h : History) (t : List ℕ) (d : Dot) (r : Row) → shown_of g t d ≡ Some r → shown_of h t d ≡ None → present g t ≡ present h t → ⊥
apart g h t d r a c same =
    let p : Place = place_of d r in
    let there : map.get (present g t) p ≡ Some r = get-present g t p ∙ (ap (keyed r.key) a ∙ ap (λ x. cond x (Some r) None) (same_text-refl r.key)) in
    let gone : map.get (present h t) p ≡ None = get-present h t p ∙ ap (keyed r.key) c in
    let w : Some r ≡ None = sym there ∙ (ap (λ (m : RowMap). map.get m p) same ∙ gone) in
    absurd (cc)

-- so one difference is made where a row comes or goes
pub one_changed : (h : History) (e : Entry) (t : List ℕ) (d : Dot) → cond (is_some (shown_of h t d)) (not (is_some (shown_of (Then h e) t d))) (is_some (shown_of (Then h e) t d)) ≡ true → length (diff_item (diff_of h e t)) ≡ 1
one_changed h e t d f = one_diff h e t (go (shown_of h t d) (shown_of (Then h e) t d) refl refl f)
  where
    go : (o p : Option Row) → shown_of h t d ≡ o → shown_of (Then h e) t d ≡ p → cond (is_some o) (not (is_some p)) (is_some p) ≡ true → present h t ≡ present (Then h e) t → ⊥
    go None None a b g = absurd (cc)
    go (Some r) (Some s) a b g = absurd (cc)
    go (Some r) None a b g = apart h (Then h e) t d r a b
    go None (Some s) a b g = λ same. apart (Then h e) h t d s b a (sym same)

-- a dot of which a row was told, and for which p is so

any_row : (p : Dot → Bool) (xs : List (Dot × Row)) → list_any (λ x. p x.0) xs ≡ true → (d : Dot) × (p d ≡ true)
any_row p [] f = absurd (cc)
any_row p (x ∷ xs) f = go (or_cases (p x.0) (list_any (λ y. p y.0) xs) f) (any_row p xs)
  where
    go : (p x.0 ≡ true) ⊎ (list_any (λ y. p y.0) xs ≡ true) → (list_any (λ y. p y.0) xs ≡ true → (d : Dot) × (p d ≡ true)) → (d : Dot) × (p d ≡ true)
    go (inl g) ih = (x.0, g)
    go (inr g) ih = ih g

told_one : (p : Dot → Bool) (h : History) → any_told p h ≡ true → (d : Dot) × (p d ≡ true)
unfolding any_told
told_one p (Begin s) f = any_row p s.content.live f
told_one p (Then h e) f = go (or_cases (any_told p h) (list_any (λ x. p x.0) (rows_told e.step)) f) (told_one p h)
  where
    go : (any_told p h ≡ true) ⊎ (list_any (λ x. p x.0) (rows_told e.step) ≡ true) → (any_told p h ≡ true → (d : Dot) × (p d ≡ true)) → (d : Dot) × (p d ≡ true)
    go (inl g) ih = ih g
    go (inr g) ih = any_row p (rows_told e.step) g

-- where p is so of none of them, it is not so of any dot of which a row was told

no_row : (p : Dot → Bool) (xs : List (Dot × Row)) (d : Dot) (r : Row) → list_any (λ x. p x.0) xs ≡ false → lookup (same_dot d) xs ≡ Some r → p d ≡ false
no_row p [] d r f g = absurd (cc)
no_row p (x ∷ xs) d r f g = go (same_dot d x.0) refl g (no_row p xs d r parts.1)
  where
    parts : (p x.0 ≡ false) × (list_any (λ y. p y.0) xs ≡ false)
    parts = or_parts (p x.0) (list_any (λ y. p y.0) xs) f

    go : (b : Bool) → same_dot d x.0 ≡ b → cond b (Some x.1) (lookup (same_dot d) xs) ≡ Some r → (lookup (same_dot d) xs ≡ Some r → p d ≡ false) → p d ≡ false
    go true e k ih = ap p (same_dot-true d x.0 e) ∙ parts.0
    go false e k ih = ih k

no_told : (p : Dot → Bool) (h : History) (s : Step) (d : Dot) (r : Row) → list_any (λ x. p x.0) (rows_told s) ≡ false → told_row h s d ≡ Some r → p d ≡ false
no_told p h (steps_are.Merge t) d r f g = go (hears h d.replica) g
  where
    go : (b : Bool) → cond b (live_row t d) None ≡ Some r → p d ≡ false
    go true k = no_row p t.live d r f k
    go false k = absurd (cc)
no_told p h _ d r f g = absurd (cc)

told_none : (p : Dot → Bool) (h : History) (d : Dot) (r : Row) → any_told p h ≡ false → first_told h d ≡ Some r → p d ≡ false
unfolding any_told first_told
told_none p (Begin s) d r f g = no_row p s.content.live d r f (kept_live (same_replica d.replica s.own) (live_row s.content d) g)
  where
    kept_live : (b : Bool) (o : Option Row) → cond b None o ≡ Some r → o ≡ Some r
    kept_live true o k = absurd (cc)
    kept_live false o k = k
told_none p (Then h e) d r f g = go (first_told h d) refl g (told_none p h d)
  where
    parts : (any_told p h ≡ false) × (list_any (λ x. p x.0) (rows_told e.step) ≡ false)
    parts = or_parts (any_told p h) (list_any (λ x. p x.0) (rows_told e.step)) f

    go : (o : Option Row) → first_told h d ≡ o → first_some o (told_row h e.step d) ≡ Some r → ((q : Row) → any_told p h ≡ false → first_told h d ≡ Some q → p d ≡ false) → p d ≡ false
    go (Some q) a k ih = ih q parts.0 a
    go None a k ih = no_told p h e.step d r parts.1 k

-- the dots of the own replica

quiet_rows : (s : Step) → is_callers s ≡ false → is_rebirth s ≡ false → is_of_rows s ≡ false
quiet_rows (steps_are.Heard replica now) f n = refl
quiet_rows (steps_are.Tick now) f n = refl
quiet_rows (steps_are.PermDown replica) f n = refl
quiet_rows (steps_are.Merge told) f n = refl
quiet_rows (steps_are.Rebirth i) f n = absurd (cc)
quiet_rows _ f n = absurd (cc)

own_stays : (h : History) (e : Entry) (t : List ℕ) (d : Dot) → IsLegal (Then h e) → is_callers e.step ≡ false → is_rebirth e.step ≡ false → same_replica d.replica (own h) ≡ true → shown_of (Then h e) t d ≡ shown_of h t d
own_stays h e t d l c n o =
    let is = same_replica-true d.replica (own h) o in
    let same = (own_steps_alone h e l (quiet_rows e.step c n)).1 d is in
    ap (of_topic t) (shown-live (Then h e) d (is ∙ sym (own-then h e n)) ∙ (same.live ∙ sym (shown-live h d is)))

-- and those of others

same_shown : (h : History) (e : Entry) (t : List ℕ) (d : Dot) → cond (is_some (shown_of h t d)) (not (is_some (shown_of (Then h e) t d))) (is_some (shown_of (Then h e) t d)) ≡ false → shown_of (Then h e) t d ≡ shown_of h t d
same_shown h e t d f = go (shown_of h t d) (shown_of (Then h e) t d) refl refl f
  where
    go : (o p : Option Row) → shown_of h t d ≡ o → shown_of (Then h e) t d ≡ p → cond (is_some o) (not (is_some p)) (is_some p) ≡ false → p ≡ o
    go None None a b g = refl
    go (Some r) (Some s) a b g = ap Some (sym (shown_agrees h e t d r s a b))
    go (Some r) None a b g = absurd (cc)
    go None (Some s) a b g = absurd (cc)

differs_is : (h : History) (e : Entry) (t : List ℕ) (d : Dot) → IsLegal (Then h e) → is_rebirth e.step ≡ false → same_replica d.replica (own h) ≡ false → differs h (Then h e) t d ≡ cond (is_some (shown_of h t d)) (not (is_some (shown_of (Then h e) t d))) (is_some (shown_of (Then h e) t d))
differs_is h e t d l n f =
    let before = shows_other h t d l.0 f in
    let later = shows_other (Then h e) t d l (ap (same_replica d.replica) (own-then h e n) ∙ f) in
    λ i. cond (before i) (not (later i)) (later i)

rowless : (h : History) (t : List ℕ) (d : Dot) → row h d ≡ None → shown_of h t d ≡ None
rowless h t d f = go (shown_of h t d) refl
  where
    go : (o : Option Row) → shown_of h t d ≡ o → o ≡ None
    go None g = refl
    go (Some r) g = let w : Some r ≡ None = sym (shown-row h d r (of_topic-some t (shown h d) r g).0).0 ∙ f in absurd (cc)

rowless_before : (h : History) (e : Entry) (d : Dot) → row (Then h e) d ≡ None → row h d ≡ None
rowless_before h e d f = go (row h d) refl
  where
    go : (o : Option Row) → row h d ≡ o → o ≡ None
    go None g = refl
    go (Some r) g = let w : Some r ≡ None = sym (row-stays h e d r g) ∙ f in absurd (cc)

pub gone_shows_none : (h : History) (t : List ℕ) (d : Dot) → is_gone (status h d.replica) ≡ true → shown_of h t d ≡ None
unfolding shown
gone_shows_none h t d g = ap (of_topic t) (go (status h d.replica) g)
  where
    go : (x : Status) → is_gone x ≡ true → cond (is_up x) (live h d) None ≡ None
    go status_is.Unheard e = absurd (cc)
    go status_is.Up e = absurd (cc)
    go status_is.Down e = absurd (cc)
    go status_is.Gone e = refl

first_stays : (h : History) (e : Entry) (d : Dot) (r : Row) → first_told h d ≡ Some r → first_told (Then h e) d ≡ Some r
unfolding first_told
first_stays h e d r f = ap (λ o. first_some o (told_row h e.step d)) f

other_stays : (h : History) (e : Entry) (t : List ℕ) (d : Dot) → IsLegal (Then h e) → is_rebirth e.step ≡ false → changes_on h (Then h e) t ≡ false → same_replica d.replica (own h) ≡ false → shown_of (Then h e) t d ≡ shown_of h t d
other_stays h e t d l n none f = either (is_gone (status (Then h e) d.replica)) refl
  where
    later : same_replica d.replica (own (Then h e)) ≡ false
    later = ap (same_replica d.replica) (own-then h e n) ∙ f

    by_told : (r : Row) → first_told (Then h e) d ≡ Some r → shown_of (Then h e) t d ≡ shown_of h t d
    by_told r told = same_shown h e t d (sym (differs_is h e t d l n f) ∙ told_none (differs h (Then h e) t) (Then h e) d r none told)

    go : is_gone (status (Then h e) d.replica) ≡ false → (o : Option Row) → row (Then h e) d ≡ o → shown_of (Then h e) t d ≡ shown_of h t d
    go x None g = rowless (Then h e) t d g ∙ sym (rowless h t d (rowless_before h e d g))
    go x (Some r) g = by_told r (sym (row_of_other (Then h e) d l later x) ∙ g)

    down : (b : Bool) → is_gone (status h d.replica) ≡ b → (o : Option Row) → row h d ≡ o → is_gone (status (Then h e) d.replica) ≡ true → shown_of (Then h e) t d ≡ shown_of h t d
    down true x o g y = gone_shows_none (Then h e) t d y ∙ sym (gone_shows_none h t d x)
    down false x None g y = gone_shows_none (Then h e) t d y ∙ sym (rowless h t d g)
    down false x (Some r) g y = by_told r (first_stays h e d r (sym (row_of_other h d l.0 f x) ∙ g))

    either : (b : Bool) → is_gone (status (Then h e) d.replica) ≡ b → shown_of (Then h e) t d ≡ shown_of h t d
    either false x = go x (row (Then h e) d) refl
    either true x = down (is_gone (status h d.replica)) refl (row h d) refl x

changed : (h : History) (e : Entry) (t : List ℕ) → IsLegal (Then h e) → is_rebirth e.step ≡ false → changes_on h (Then h e) t ≡ true → length (diff_item (diff_of h e t)) ≡ 1
changed h e t l n some = let x = told_one (differs h (Then h e) t) (Then h e) some in go x.0 x.1 (same_replica x.0.replica (own h)) refl
  where
    go : (d : Dot) → differs h (Then h e) t d ≡ true → (b : Bool) → same_replica d.replica (own h) ≡ b → length (diff_item (diff_of h e t)) ≡ 1
    go d f true o =
        let before = shows_own h t d l.0 o in
        let later = shows_own (Then h e) t d l (ap (same_replica d.replica) (own-then h e n) ∙ o) in
        let w : true ≡ false = sym f ∙ (λ i. cond (before i) (not (later i)) (later i)) in
        absurd (cc)
    go d f false o = one_changed h e t d (sym (differs_is h e t d l n o) ∙ f)

stayed : (h : History) (e : Entry) (t : List ℕ) → IsLegal (Then h e) → is_callers e.step ≡ false → is_rebirth e.step ≡ false → changes_on h (Then h e) t ≡ false → diff_item (diff_of h e t) ≡ []
stayed h e t l c n none = no_diff h e t (same_present (Then h e) h t (λ d. go d (same_replica d.replica (own h)) refl))
  where
    go : (d : Dot) (b : Bool) → same_replica d.replica (own h) ≡ b → shown_of (Then h e) t d ≡ shown_of h t d
    go d true o = own_stays h e t d l c n o
    go d false o = other_stays h e t d l n none o

pub others_count : (h : History) (e : Entry) (t : List ℕ) → IsLegal (Then h e) → is_callers e.step ≡ false → is_rebirth e.step ≡ false → length (diff_item (diff_of h e t)) ≡ cond (changes_on h (Then h e) t) 1 0
others_count h e t l c n = go (changes_on h (Then h e) t) refl
  where
    go : (b : Bool) → changes_on h (Then h e) t ≡ b → length (diff_item (diff_of h e t)) ≡ cond b 1 0
    go true f = changed h e t l n f
    go false f = ap length (stayed h e t l c n f)
