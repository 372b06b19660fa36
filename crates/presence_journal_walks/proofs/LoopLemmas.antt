-- What was told of a dot, entry by entry.
use Rattle.std.proofs.Common.{◌≡◌, ℕ, ◌+◌, ◌-◌, ◌<◌, ◌≤◌, Bool, true, false, ◌||◌, List, [], ◌∷◌, is_some, arith, Option, Some, None, Bor, option_copied, length, get_or, take, refl, sym, ◌∙◌, ap}
use Rattle.std.specs.Option.{option_or}
use Rattle.std.specs.List.{list_any}
use Rattle.presence_base.specs.declared.dots.Dot.{Dot}
use Rattle.presence_base.specs.declared.row.Row.{Row}
use Rattle.orswot_core.specs.Telling.{live_row, tells_removed}
use Rattle.presence_journal.specs.declared.entry.Entry.{Entry}
use Rattle.presence_journal.specs.declared.entry.Start.{Start}
use Rattle.presence_journal.specs.History.{History, Begin, Then, onto, first_some, row_added, told_row, told_removed}
use Rattle.presence_journal_known.proofs.FrontLemmas.{front_next, front_all}
use Rattle.presence_journal_walks.specs.Changes.{topic_in, rows_told, row_kept, first_told, was_told_removed, any_of, any_told, topic_again, dot_before, topic_back}

topic_first : (o p : Option Row) → topic_in (first_some o p) ≡ first_some (topic_in o) (topic_in p)
topic_first None p = refl
topic_first (Some r) p = refl

first_then : (h : History) (e : Entry) (d : Dot) → topic_in (first_told (Then h e) d) ≡ first_some (topic_in (first_told h d)) (topic_in (told_row h e.step d))
unfolding first_told
first_then h e d = topic_first (first_told h d) (told_row h e.step d)

pub first_none : (s : Start) (d : Dot) (o : Option (List ℕ)) → o ≡ topic_in (row_kept s d) → o ≡ topic_in (first_told (Begin s) d)
unfolding first_told
first_none s d o is = is

pub first_more : (s : Start) (es : List Entry) (i : ℕ) (e : Entry) (d : Dot) (o p q : Option (List ℕ)) → i < length es → e ≡ get_or es i e → p ≡ topic_in (told_row (onto (Begin s) (take i es)) e.step d) → q ≡ first_some o p → o ≡ topic_in (first_told (onto (Begin s) (take i es)) d) → q ≡ topic_in (first_told (onto (Begin s) (take (i + 1) es)) d)
first_more s es i e d o p q l is told next before =
    let h = onto (Begin s) (take i es) in
    next
    ∙ ((λ j. first_some (before j) (told j))
    ∙ (sym (first_then h e d)
    ∙ ap (λ (k : History). topic_in (first_told k d)) (sym (front_next (Begin s) es i e l is))))

removed_then : (h : History) (e : Entry) (d : Dot) → was_told_removed (Then h e) d ≡ (was_told_removed h d || told_removed h e.step d)
unfolding was_told_removed
removed_then h e d = refl

pub removed_none : (s : Start) (d : Dot) (b : Bool) → b ≡ tells_removed s.content d → b ≡ was_told_removed (Begin s) d
unfolding was_told_removed
removed_none s d b is = is

pub removed_more : (s : Start) (es : List Entry) (i : ℕ) (e : Entry) (d : Dot) (b c : Bool) → i < length es → e ≡ get_or es i e → c ≡ (b || told_removed (onto (Begin s) (take i es)) e.step d) → b ≡ was_told_removed (onto (Begin s) (take i es)) d → c ≡ was_told_removed (onto (Begin s) (take (i + 1) es)) d
removed_more s es i e d b c l is next before =
    let h = onto (Begin s) (take i es) in
    next
    ∙ (ap (λ a. a || told_removed h e.step d) before
    ∙ (sym (removed_then h e d)
    ∙ ap (λ (k : History). was_told_removed k d) (sym (front_next (Begin s) es i e l is))))

pub any_none : (p : Dot → Bool) (s : Start) (b : Bool) → b ≡ any_of p s.content.live → b ≡ any_told p (Begin s)
unfolding any_told
any_none p s b is = is

pub any_more : (p : Dot → Bool) (h : History) (e : Entry) (b c : Bool) → c ≡ (b || list_any (λ x. p x.0) (rows_told e.step)) → b ≡ any_told p h → c ≡ any_told p (Then h e)
unfolding any_told
any_more p h e b c next before = next ∙ ap (λ a. a || list_any (λ x. p x.0) (rows_told e.step)) before

-- the first of two answers, and one answer or the other

pub or_first : {A : Type 0} (o p : Option (Bor A)) → option_copied (option_or o p) ≡ first_some (option_copied o) (option_copied p)
or_first None p = refl
or_first (Some x) p = refl

pub or_kept : (b x c : Bool) → c ≡ b → b ≡ true → c ≡ (b || x)
or_kept b x c is t = is ∙ (t ∙ sym (ap (λ a. a || x) t))

pub or_asked : (b x c : Bool) → c ≡ x → b ≡ false → c ≡ (b || x)
or_asked b x c is f = is ∙ sym (ap (λ a. a || x) f)

-- from the newest entry back

pub record BackTo (s : Start) (es : List Entry) (d at : Dot) (n : ℕ) : Type 0 where
  pub within : n ≤ length es
  pub topic : topic_back (onto (Begin s) es) d ≡ topic_back (onto (Begin s) (take n es)) at

back_then : (h : History) (e : Entry) (d : Dot) → topic_back (Then h e) d ≡ first_some (topic_in (row_added e.step e.outcome d)) (topic_again (topic_back h) (dot_before e.outcome d))
unfolding topic_back
back_then h e d = refl

back_begin : (s : Start) (d : Dot) → topic_back (Begin s) d ≡ topic_in (live_row s.content d)
unfolding topic_back
back_begin s d = refl

pub back_none : (s : Start) (es : List Entry) (d : Dot) (n : ℕ) → n ≡ length es → BackTo s es d d n
back_none s es d n is = record { within = omega (arith, is); topic = ap (λ h. topic_back h d) (sym (front_all (Begin s) es n (omega (arith, is)))) }

pub back_at : (s : Start) (es : List Entry) (d at : Dot) (n : ℕ) (e : Entry) → 0 < n → e ≡ get_or es (n - 1) e → BackTo s es d at n → topic_back (onto (Begin s) es) d ≡ first_some (topic_in (row_added e.step e.outcome at)) (topic_again (topic_back (onto (Begin s) (take (n - 1) es))) (dot_before e.outcome at))
back_at s es d at n e some is b =
    let last : n ≡ (n - 1) + 1 = omega (arith, some) in
    b.topic
    ∙ (ap (λ h. topic_back h at) (ap (λ m. onto (Begin s) (take m es)) last ∙ front_next (Begin s) es (n - 1) e (omega (arith, some, b.within)) is)
    ∙ back_then (onto (Begin s) (take (n - 1) es)) e at)

-- the row was added here
pub back_found : (s : Start) (es : List Entry) (d at : Dot) (n : ℕ) (e : Entry) (o : Option (List ℕ)) → 0 < n → e ≡ get_or es (n - 1) e → o ≡ topic_in (row_added e.step e.outcome at) → is_some o ≡ true → BackTo s es d at n → o ≡ topic_back (onto (Begin s) es) d
back_found s es d at n e o some is added there b = go o added there ∙ sym (back_at s es d at n e some is b)
  where
    go : (x : Option (List ℕ)) → x ≡ topic_in (row_added e.step e.outcome at) → is_some x ≡ true → x ≡ first_some (topic_in (row_added e.step e.outcome at)) (topic_again (topic_back (onto (Begin s) (take (n - 1) es))) (dot_before e.outcome at))
    go None f g = absurd (cc)
    go (Some t) f g = ap (λ y. first_some y (topic_again (topic_back (onto (Begin s) (take (n - 1) es))) (dot_before e.outcome at))) f

-- the row goes on under another dot, or under none
pub back_more : (s : Start) (es : List Entry) (d at : Dot) (n : ℕ) (e : Entry) (o : Option (List ℕ)) (x : Option Dot) → 0 < n → e ≡ get_or es (n - 1) e → o ≡ topic_in (row_added e.step e.outcome at) → is_some o ≡ false → x ≡ dot_before e.outcome at → BackTo s es d at n → topic_back (onto (Begin s) es) d ≡ topic_again (topic_back (onto (Begin s) (take (n - 1) es))) x
back_more s es d at n e o x some is added none before b =
    back_at s es d at n e some is b
    ∙ (λ i. first_some ((sym added ∙ nothing o none) i) (topic_again (topic_back (onto (Begin s) (take (n - 1) es))) (sym before i)))
  where
    nothing : (y : Option (List ℕ)) → is_some y ≡ false → y ≡ None
    nothing None f = refl
    nothing (Some t) f = absurd (cc)

pub back_ends : (s : Start) (es : List Entry) (d at : Dot) (n : ℕ) → n ≡ 0 → BackTo s es d at n → topic_back (onto (Begin s) es) d ≡ topic_in (live_row s.content at)
back_ends s es d at n is b = b.topic ∙ (ap (λ m. topic_back (onto (Begin s) (take m es)) at) is ∙ (ap (λ ys. topic_back (onto (Begin s) ys) at) (take-none es) ∙ back_begin s at))
  where
    take-none : (ys : List Entry) → take 0 ys ≡ []
    take-none [] = refl
    take-none (y ∷ ys) = refl
