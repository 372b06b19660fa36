-- What an entry of the own replica alone makes for the subscribers of a topic, counted: one item or none.
use Rattle.std.proofs.Common.{◌≡◌, ℕ, ◌^◌, Bool, true, false, cond, not, ◌&&◌, nat_lt, List, [], ◌∷◌, ◌++◌, length, length-append, Option, Some, None, is_some, refl, sym, ◌∙◌, ap, subst, arith}
use Rattle.std.specs.List.{AllByRecursion}
use Rattle.std.proofs.lemmas.Bool.{or_left}
use Rattle.std.proofs.lemmas.Option.{cond_some, same_Some}
use Rattle.presence_base.specs.declared.dots.Dot.{Dot}
use Rattle.presence_base.specs.declared.row.Row.{Row}
use Rattle.presence_base.specs.Order.{same_text, same_dot}
use Rattle.presence_journal.specs.declared.step.Step.TheVariants as steps_are
use Rattle.presence_journal.specs.declared.entry.Outcome.TheVariants as outcomes_are
use Rattle.presence_journal.specs.declared.rows.Item.{Item}
use Rattle.presence_journal.specs.declared.rows.Item.TheVariants as items_are
use Rattle.presence_journal.specs.declared.step.Step.{Step}
use Rattle.presence_journal.specs.declared.entry.Outcome.{Outcome}
use Rattle.presence_journal.specs.declared.entry.Entry.{Entry}
use Rattle.presence_journal.specs.History.{History, Then, count, next_dot, first_some, has_dot, row_made, row_added, shown}
use Rattle.presence_journal.specs.Present.{of_topic, present, dots_of, dots_taken}
use Rattle.presence_journal.specs.Queue.{diff_item, shout_item, diff_of, items_made}
use Rattle.presence_journal.specs.Table.{IsLegal, rows_of_pid, rows_of_key, counting, tracked, updated, untracked, outcome_of, after}
use Rattle.presence_journal.specs.Walk.{shown_of, is_rebirth, is_reborn}
use Rattle.presence_journal.specs.Laws.{is_callers, concerns}
use Rattle.presence_journal.proofs.Same.{same_text-true, same_text-refl, same_dot-refl}
use Rattle.presence_journal.proofs.PresentLemmas.{IsListed, IsOwnListed, own_rows, own_rows_of_key}
use Rattle.presence_journal.proofs.HistoryLemmas.{is_quiet, Quiet, kind_of, callers_plain, legal_knows, shown_by, added_fresh, after-accepted}
use Rattle.presence_journal.proofs.Fold.{same_present}
use Rattle.presence_journal.proofs.FoldOthers.{others_stay}
use Rattle.presence_journal.proofs.Reborn.{IsAgain, again_of}
use Rattle.presence_journal_known.proofs.OwnLemmas.{plain_step, reborn_step}
use Rattle.presence_journal_walks.proofs.AgainLemmas.{again_count}
use Rattle.presence_journal_walks.specs.Changes.{changes_on, goes_on}
use Rattle.presence_journal_walks.specs.Waits.{is_on, is_news, makes_on}
use Rattle.presence_journal_walks.proofs.ChangesLemmas.{no_diff, one_changed, others_count}

-- a quiet outcome shows what was shown
stays_quiet : (s : Step) (o : Outcome) (d : Dot) (x : Option Row) → is_quiet o ≡ true → first_some (row_added s o d) (cond (has_dot (dots_taken o) d) None x) ≡ x
stays_quiet s (outcomes_are.Added a) d x q = cc
stays_quiet s (outcomes_are.Replaced a b) d x q = cc
stays_quiet s (outcomes_are.Removed (y ∷ ys)) d x q = cc
stays_quiet s (outcomes_are.Removed []) d x q = refl
stays_quiet s _ d x q = refl

quiet_stays : (h : History) (e : Entry) (t : List ℕ) → IsLegal h → is_callers e.step ≡ true → is_quiet e.outcome ≡ true → present (Then h e) t ≡ present h t
quiet_stays h e t legal c q =
    same_present (Then h e) h t (λ d. ap (of_topic t) (shown_by h e d (legal_knows h legal) (Quiet q) c ∙ stays_quiet e.step e.outcome d (shown h d) q))

-- a legal entry is what its step makes of the history
entry_after : (h : History) (e : Entry) → IsLegal (Then h e) → Then h e ≡ after h e.step e.seat
entry_after h e legal =
    (λ i. Then h (record { number = legal.2 i; seat = e.seat; step = e.step; outcome = e.outcome }))
    ∙ sym (after-accepted h e.step e.seat e.outcome legal.1 legal.3)

elsewhere_stays : (h : History) (e : Entry) (t : List ℕ) → IsLegal (Then h e) → concerns e.step t ≡ false → present (Then h e) t ≡ present h t
elsewhere_stays h e t legal n = ap (λ (g : History). present g t) (entry_after h e legal) ∙ others_stay h legal.0 e.step e.seat t n

on_topic : (t : List ℕ) (r : Row) → r.topic ≡ t → of_topic t (Some r) ≡ Some r
on_topic t r b = ap (λ c. cond c (Some r) None) (ap (same_text r.topic) (sym b) ∙ same_text-refl r.topic)

-- an added row of the topic is one difference
one_added : (h : History) (e : Entry) (t : List ℕ) (d : Dot) (r : Row) → IsLegal (Then h e) → is_callers e.step ≡ true → row_added e.step e.outcome d ≡ Some r → r.topic ≡ t → length (diff_item (diff_of h e t)) ≡ 1
one_added h e t d r legal c a b =
    let knows = legal_knows h legal.0 in
    let kind = kind_of h e.step e.outcome (callers_plain e.step c) legal.1 in
    let now : shown_of (Then h e) t d ≡ Some r = ap (of_topic t) (shown_by h e d knows kind c ∙ ap (λ o. first_some o (cond (has_dot (dots_taken e.outcome) d) None (shown h d))) a) ∙ on_topic t r b in
    let before : shown_of h t d ≡ None = ap (of_topic t) (added_fresh h e d r knows kind a) in
    one_changed h e t d (came (shown_of h t d) (shown_of (Then h e) t d) r before now)
  where
    came : (o p : Option Row) (r : Row) → o ≡ None → p ≡ Some r → cond (is_some o) (not (is_some p)) (is_some p) ≡ true
    came o p r f g = λ i. cond (is_some (f i)) (not (is_some (g i))) (is_some (g i))

-- so are the rows of the topic that are taken out
one_taken : (h : History) (e : Entry) (t : List ℕ) (x : Dot × Row) → IsLegal (Then h e) → is_callers e.step ≡ true → IsListed h t x → row_added e.step e.outcome x.0 ≡ None → has_dot (dots_taken e.outcome) x.0 ≡ true → length (diff_item (diff_of h e t)) ≡ 1
one_taken h e t x legal c listed a b =
    let now : shown_of (Then h e) t x.0 ≡ None = ap (of_topic t) (shown_by h e x.0 (legal_knows h legal.0) (kind_of h e.step e.outcome (callers_plain e.step c) legal.1) c ∙ (λ i. first_some (a i) (cond (b i) None (shown h x.0)))) in
    let before : shown_of h t x.0 ≡ Some x.1 = ap (of_topic t) listed.shown ∙ on_topic t x.1 listed.topic in
    one_changed h e t x.0 (went (shown_of h t x.0) (shown_of (Then h e) t x.0) x.1 before now)
  where
    went : (o p : Option Row) (r : Row) → o ≡ Some r → p ≡ None → cond (is_some o) (not (is_some p)) (is_some p) ≡ true
    went o p r f g = λ i. cond (is_some (f i)) (not (is_some (g i))) (is_some (g i))

-- the differences that an entry makes for a topic of its step: one where its outcome is news
abbrev IsTold : History → Entry → List ℕ → Type 0
IsTold h e t = length (diff_item (diff_of h e t)) ≡ cond (is_news e.outcome) 1 0

told_one : (h : History) (e : Entry) (t : List ℕ) → is_news e.outcome ≡ true → length (diff_item (diff_of h e t)) ≡ 1 → IsTold h e t
told_one h e t i one = one ∙ sym (ap (λ b. cond b 1 0) i)

told_none : (h : History) (e : Entry) (t : List ℕ) → IsLegal h → is_callers e.step ≡ true → is_quiet e.outcome ≡ true → is_news e.outcome ≡ false → IsTold h e t
told_none h e t legal c q i = ap length (no_diff h e t (quiet_stays h e t legal c q)) ∙ sym (ap (λ b. cond b 1 0) i)

counted : (h : History) (o a : Outcome) → counting h o ≡ Some a → a ≡ o
counted h o a e = sym (cond_some (nat_lt (count h) (2 ^ 62)) o a e).1

told_tracked : (h : History) (e : Entry) (t : List ℕ) (r : Row) (xs : List (Dot × Row)) → IsLegal (Then h e) → is_callers e.step ≡ true → row_made e.step None ≡ Some r → r.topic ≡ t → tracked h xs ≡ Some e.outcome → IsTold h e t
told_tracked h e t r [] legal c m b f =
    let o = counted h (outcomes_are.Added (next_dot h)) e.outcome f in
    told_one h e t (ap is_news o) (one_added h e t (next_dot h) r legal c (ap (λ y. row_added e.step y (next_dot h)) o ∙ (ap (λ s. cond s (row_made e.step None) None) (same_dot-refl (next_dot h)) ∙ m)) b)
told_tracked h e t r (x ∷ xs) legal c m b f =
    let o : e.outcome ≡ outcomes_are.AlreadyTracked = sym (same_Some _ _ f) in
    told_none h e t legal.0 c (ap is_quiet o) (ap is_news o)

told_updated : (h : History) (e : Entry) (t : List ℕ) (r : Dot → Row) (xs : List (Dot × Row)) → IsLegal (Then h e) → is_callers e.step ≡ true → ((old : Dot) → row_made e.step (Some old) ≡ Some (r old)) → ((old : Dot) → (r old).topic ≡ t) → updated h xs ≡ Some e.outcome → IsTold h e t
told_updated h e t r [] legal c m b f =
    let o : e.outcome ≡ outcomes_are.NoPresence = sym (same_Some _ _ f) in
    told_none h e t legal.0 c (ap is_quiet o) (ap is_news o)
told_updated h e t r (x ∷ xs) legal c m b f =
    let o = counted h (outcomes_are.Replaced (next_dot h) x.0) e.outcome f in
    told_one h e t (ap is_news o) (one_added h e t (next_dot h) (r x.0) legal c (ap (λ y. row_added e.step y (next_dot h)) o ∙ (ap (λ s. cond s (row_made e.step (Some x.0)) None) (same_dot-refl (next_dot h)) ∙ m x.0)) (b x.0))

told_untracked : (h : History) (e : Entry) (t : List ℕ) (xs : List (Dot × Row)) → IsLegal (Then h e) → is_callers e.step ≡ true → AllByRecursion (IsOwnListed h t) xs → untracked h (dots_of xs) ≡ Some e.outcome → IsTold h e t
told_untracked h e t [] legal c a f =
    let o : e.outcome ≡ outcomes_are.Removed [] = sym (same_Some _ _ f) in
    told_none h e t legal.0 c (ap is_quiet o) (ap is_news o)
told_untracked h e t (x ∷ xs) legal c a f =
    let o = counted h (outcomes_are.Removed (dots_of (x ∷ xs))) e.outcome f in
    told_one h e t (ap is_news o)
    (one_taken h e t x legal c a.0.listed (ap (λ y. row_added e.step y x.0) o) (ap (λ y. has_dot (dots_taken y) x.0) o ∙ or_left (same_dot x.0 x.0) (has_dot (dots_of xs) x.0) (same_dot-refl x.0)))

told : (h : History) (e : Entry) (t : List ℕ) → IsLegal (Then h e) → is_callers e.step ≡ true → (s : Step) → e.step ≡ s → is_callers s ≡ true → concerns s t ≡ true → outcome_of h s ≡ Some e.outcome → IsTold h e t
unfolding outcome_of
told h e t legal k (steps_are.Track pid topic key meta) is b c f =
    told_tracked h e t (record { topic = topic; key = key; pid = pid; meta = meta; prev = None }) (rows_of_key h pid topic key) legal k (ap (λ s. row_made s None) is) (same_text-true topic t c) f
told h e t legal k (steps_are.Update pid topic key meta) is b c f =
    told_updated h e t (λ old. record { topic = topic; key = key; pid = pid; meta = meta; prev = Some old }) (rows_of_key h pid topic key) legal k (λ old. ap (λ s. row_made s (Some old)) is) (λ old. same_text-true topic t c) f
told h e t legal k (steps_are.Untrack pid topic key) is b c f =
    told_untracked h e t (rows_of_key h pid topic key) legal k (subst (λ u. AllByRecursion (IsOwnListed h u) (rows_of_key h pid topic key)) (same_text-true topic t c) (own_rows_of_key h pid topic key)) f
told h e t legal k (steps_are.UntrackAll pid topic) is b c f =
    told_untracked h e t (rows_of_pid h pid topic) legal k (subst (λ u. AllByRecursion (IsOwnListed h u) (rows_of_pid h pid topic)) (same_text-true topic t c) (own_rows h pid topic)) f
told h e t legal k (steps_are.Heard replica now) is b c f = absurd (cc)
told h e t legal k (steps_are.Tick now) is b c f = absurd (cc)
told h e t legal k (steps_are.PermDown replica) is b c f = absurd (cc)
told h e t legal k (steps_are.Merge t2) is b c f = absurd (cc)
told h e t legal k _ is b c f = absurd (cc)

-- the items of an entry that sends no shout
rows_only : (b c : Bool) (xs : List Item) → (b ≡ false → xs ≡ []) → (b ≡ true → length xs ≡ cond c 1 0) → length (xs ++ []) ≡ cond (c && b) 1 0
rows_only true true xs f g = omega (arith, length-append xs [], g refl)
rows_only true false xs f g = omega (arith, length-append xs [], g refl)
rows_only false true xs f g = ap (λ (ys : List Item). length (ys ++ [])) (f refl)
rows_only false false xs f g = ap (λ (ys : List Item). length (ys ++ [])) (f refl)

-- and of one that does
shout_only : (b c : Bool) (x : Item) (xs : List Item) → xs ≡ [] → c ≡ true → length (xs ++ cond b (x ∷ []) []) ≡ cond (c && b) 1 0
shout_only true c x xs e i = (λ j. length (e j ++ (x ∷ []))) ∙ sym (ap (λ y. cond (y && true) 1 0) i)
shout_only false c x xs e i = (λ j. length {A = Item} (e j ++ [])) ∙ sym (ap (λ y. cond (y && false) 1 0) i)

made_by : (h : History) (e : Entry) (t : List ℕ) (s : Step) → e.step ≡ s → is_callers s ≡ true → outcome_of h s ≡ Some e.outcome → (concerns s t ≡ false → diff_item (diff_of h e t) ≡ []) → (concerns s t ≡ true → IsTold h e t) → length (diff_item (diff_of h e t) ++ shout_item s t) ≡ cond (is_news e.outcome && is_on s t) 1 0
unfolding outcome_of
made_by h e t (steps_are.Shout topic payload) is k o f g = shout_only (same_text topic t) (is_news e.outcome) (items_are.Shout payload) (diff_item (diff_of h e t)) (f refl) (ap is_news (sym (same_Some _ _ o)))
made_by h e t (steps_are.Track pid topic key meta) is k o f g = rows_only (same_text topic t) (is_news e.outcome) (diff_item (diff_of h e t)) f g
made_by h e t (steps_are.Update pid topic key meta) is k o f g = rows_only (same_text topic t) (is_news e.outcome) (diff_item (diff_of h e t)) f g
made_by h e t (steps_are.Untrack pid topic key) is k o f g = rows_only (same_text topic t) (is_news e.outcome) (diff_item (diff_of h e t)) f g
made_by h e t (steps_are.UntrackAll pid topic) is k o f g = rows_only (same_text topic t) (is_news e.outcome) (diff_item (diff_of h e t)) f g
made_by h e t (steps_are.Heard replica now) is k o f g = absurd (cc)
made_by h e t (steps_are.Tick now) is k o f g = absurd (cc)
made_by h e t (steps_are.PermDown replica) is k o f g = absurd (cc)
made_by h e t (steps_are.Merge t2) is k o f g = absurd (cc)
made_by h e t (steps_are.Rebirth i) is k o f g = absurd (cc)
made_by h e t _ is k o f g = rows_only false (is_news e.outcome) (diff_item (diff_of h e t)) f g

-- an entry of the own replica alone makes one item for the subscribers of its topic where its outcome is news, and no
-- other
callers_count : (h : History) (e : Entry) (t : List ℕ) → IsLegal (Then h e) → is_callers e.step ≡ true → length (items_made h e t) ≡ cond (is_news e.outcome && is_on e.step t) 1 0
unfolding items_made
callers_count h e t legal c = made_by h e t e.step refl c legal.1 (λ n. no_diff h e t (elsewhere_stays h e t legal n)) (λ k. told h e t legal c e.step refl c k legal.1)

-- any other sends no shout

no_shout : (s : Step) (t : List ℕ) → is_callers s ≡ false → shout_item s t ≡ []
no_shout (steps_are.Shout topic payload) t f = absurd (cc)
no_shout _ t f = refl

rest_count : (h : History) (e : Entry) (t : List ℕ) → IsLegal (Then h e) → is_callers e.step ≡ false → is_rebirth e.step ≡ false → length (items_made h e t) ≡ cond (changes_on h (Then h e) t) 1 0
unfolding items_made
rest_count h e t legal c n =
    ap (λ (is : List Item). length (diff_item (diff_of h e t) ++ is)) (no_shout e.step t c)
    ∙ (omega (arith, length-append (diff_item (diff_of h e t)) [])
    ∙ others_count h e t legal c n)

-- a rebirth does where a row of the topic goes on

reborn_count : (h : History) (e : Entry) (t : List ℕ) → IsLegal (Then h e) → is_callers e.step ≡ false → IsAgain h e.step e.outcome → length (items_made h e t) ≡ cond (goes_on h t e.outcome) 1 0
unfolding items_made
reborn_count h e t legal c w =
    ap (λ (is : List Item). length (diff_item (diff_of h e t) ++ is)) (no_shout e.step t c)
    ∙ (omega (arith, length-append (diff_item (diff_of h e t)) [])
    ∙ again_count h e t legal w)

pub items_count : (h : History) (e : Entry) (t : List ℕ) → IsLegal (Then h e) → length (items_made h e t) ≡ cond (makes_on h (Then h e) e t) 1 0
items_count h e t legal = go (is_callers e.step) refl
  where
    rest : is_callers e.step ≡ false → (b : Bool) → is_reborn e.outcome ≡ b → length (items_made h e t) ≡ cond (cond b (goes_on h t e.outcome) (changes_on h (Then h e) t)) 1 0
    rest c true a = reborn_count h e t legal c (again_of h e.step e.outcome (reborn_step h e legal a) legal.1)
    rest c false a = rest_count h e t legal c (plain_step h e legal a)

    go : (b : Bool) → is_callers e.step ≡ b → length (items_made h e t) ≡ cond (cond b (is_news e.outcome && is_on e.step t) (cond (is_reborn e.outcome) (goes_on h t e.outcome) (changes_on h (Then h e) t))) 1 0
    go true c = callers_count h e t legal c
    go false c = rest c (is_reborn e.outcome) refl
