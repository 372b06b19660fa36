-- Entries of a map of runs: what a look-up finds, and what each change of an entry leaves.
use Rattle.std.proofs.Common.{◌≡◌, ℕ, ◌<◌, ◌≤◌, suc, Bool, true, false, ◌&&◌, ◌||◌, leb, eqb, List, [], ◌∷◌, arith, refl, sym, ◌∙◌, ap, inl, inr, Option, Some, None, IsSome, subst}
use Rattle.std.proofs.lemmas.Bool.{cases_lt, cases_eq}
use Rattle.std.proofs.lemmas.Bool.Decides.{nat_tests}
use Rattle.std.specs.Ordering.{nat_cmp, is_lt, is_gt}
use Rattle.std.specs.List.{list_any}
use Rattle.std.specs.BTreeMap.{insert_entry, is_at}
use Rattle.dot_context.specs.Runs.{in_run, AreApart, has_room, end_at, taken_out, moved_to}

found_here : (f : ℕ) (e : ℕ × ℕ) (es : List (ℕ × ℕ)) → f ≡ e.0 → end_at (e ∷ es) f ≡ Some e.1
found_here f e es same = grind (arith, nat_tests)

found_past : (f : ℕ) (e : ℕ × ℕ) (es : List (ℕ × ℕ)) → (f ≡ e.0 → ⊥) → end_at (e ∷ es) f ≡ end_at es f
found_past f e es other = grind (arith, nat_tests)

out_here : (f : ℕ) (e : ℕ × ℕ) (es : List (ℕ × ℕ)) → f ≡ e.0 → taken_out (e ∷ es) f ≡ es
out_here f e es same = grind (arith, nat_tests)

out_past : (f : ℕ) (e : ℕ × ℕ) (es : List (ℕ × ℕ)) → (f ≡ e.0 → ⊥) → taken_out (e ∷ es) f ≡ e ∷ taken_out es f
out_past f e es other = grind (arith, nat_tests)

moved_here : (f t : ℕ) (e : ℕ × ℕ) (es : List (ℕ × ℕ)) → f ≡ e.0 → moved_to (e ∷ es) f t ≡ (e.0, t) ∷ es
moved_here f t e es same = grind (arith, nat_tests)

moved_past : (f t : ℕ) (e : ℕ × ℕ) (es : List (ℕ × ℕ)) → (f ≡ e.0 → ⊥) → moved_to (e ∷ es) f t ≡ e ∷ moved_to es f t
moved_past f t e es other = grind (arith, nat_tests)

in_before : (f t : ℕ) (e : ℕ × ℕ) (es : List (ℕ × ℕ)) → f < e.0 → insert_entry nat_cmp (e ∷ es) f t ≡ (f, t) ∷ e ∷ es
in_before f t e es lt = grind (arith, nat_tests)

in_past : (f t : ℕ) (e : ℕ × ℕ) (es : List (ℕ × ℕ)) → e.0 < f → insert_entry nat_cmp (e ∷ es) f t ≡ e ∷ insert_entry nat_cmp es f t
in_past f t e es lt = grind (arith, nat_tests)

abbrev pub number : ℕ → Option ℕ → ℕ
number d None = d
number d (Some n) = n

some_here : (f t : ℕ) (e : ℕ × ℕ) (es : List (ℕ × ℕ)) → f ≡ e.0 → end_at (e ∷ es) f ≡ Some t → t ≡ e.1
some_here f t e es same found = ap (number 0) (sym found ∙ found_here f e es same)

same_pair : (f t : ℕ) (e : ℕ × ℕ) → f ≡ e.0 → t ≡ e.1 → (f, t) ≡ e
same_pair f t e same same' = λ i. (same i, same' i)

or_first : (x y z : Bool) → (x || (y || z)) ≡ (y || (x || z))
or_first true true z = refl
or_first true false z = refl
or_first false true z = refl
or_first false false z = refl

pub weaker : (low least : ℕ) (es : List (ℕ × ℕ)) → AreApart low es → least ≤ low → AreApart least es
weaker low least [] h le = tt
weaker low least (e ∷ es) h le = (omega (arith, h.0), h.1, h.2)

-- keys and look-ups
pub key_above : (low f t : ℕ) (es : List (ℕ × ℕ)) → AreApart low es → end_at es f ≡ Some t → low ≤ f
key_above low f t [] h found = absurd (cc)
key_above low f t (e ∷ es) h found = elim (cases_eq f e.0) [
  | inl same ↦ omega (arith, h.0, same)
  | inr other ↦ omega (arith, h.0, h.1, key_above (suc e.1) f t es h.2 (sym (found_past f e es other) ∙ found))
]

pub end_above : (low f t : ℕ) (es : List (ℕ × ℕ)) → AreApart low es → end_at es f ≡ Some t → f ≤ t
end_above low f t [] h found = absurd (cc)
end_above low f t (e ∷ es) h found = elim (cases_eq f e.0) [
  | inl same ↦ omega (arith, h.1, same, some_here f t e es same found)
  | inr other ↦ end_above (suc e.1) f t es h.2 (sym (found_past f e es other) ∙ found)
]

-- a run ends before the next begins
pub ends_before : (low f t g u : ℕ) (es : List (ℕ × ℕ)) → AreApart low es → end_at es f ≡ Some t → end_at es g ≡ Some u → f < g → t < g
ends_before low f t g u [] h found found' lt = absurd (cc)
ends_before low f t g u (e ∷ es) h found found' lt = elim (cases_eq f e.0) [
  | inl same ↦ elim (cases_eq g e.0) [
    | inl same' ↦ absurd (omega arith)
    | inr other' ↦ omega (arith, some_here f t e es same found, key_above (suc e.1) g u es h.2 (sym (found_past g e es other') ∙ found'))
  ]
  | inr other ↦ elim (cases_eq g e.0) [
    | inl same' ↦ absurd (omega (arith, h.1, key_above (suc e.1) f t es h.2 (sym (found_past f e es other) ∙ found)))
    | inr other' ↦ ends_before (suc e.1) f t g u es h.2 (sym (found_past f e es other) ∙ found) (sym (found_past g e es other') ∙ found') lt
  ]
]

-- a test of the runs, by what a look-up finds
pub any-found : (p : ℕ × ℕ → Bool) (f t : ℕ) (es : List (ℕ × ℕ)) → end_at es f ≡ Some t → p (f, t) ≡ true → list_any p es ≡ true
any-found p f t [] found holds_it = absurd (cc)
any-found p f t (e ∷ es) found holds_it = elim (cases_eq f e.0) [
  | inl same ↦ ap (λ b. b || list_any p es) (ap p (sym (same_pair f t e same (some_here f t e es same found))) ∙ holds_it)
  | inr other ↦ or_true (p e) (list_any p es) (any-found p f t es (sym (found_past f e es other) ∙ found) holds_it)
]
  where
    or_true : (a b : Bool) → b ≡ true → (a || b) ≡ true
    or_true true b e = refl
    or_true false b e = e

-- where a test of the runs holds, a look-up finds one
pub record Found (p : ℕ × ℕ → Bool) (es : List (ℕ × ℕ)) : Type 0 where
  pub key : ℕ
  pub end : ℕ
  pub found : end_at es key ≡ Some end
  pub passes : p (key, end) ≡ true

found_more : (p : ℕ × ℕ → Bool) (low : ℕ) (e : ℕ × ℕ) (es : List (ℕ × ℕ)) → AreApart low (e ∷ es) → Found p es → Found p (e ∷ es)
found_more p low e es h there = record {
  key = there.key;
  end = there.end;
  found = found_past there.key e es (λ same. absurd (omega (arith, h.1, same, key_above (suc e.1) there.key there.end es h.2 there.found))) ∙ there.found;
  passes = there.passes;
}

here_or : (p : ℕ × ℕ → Bool) (e : ℕ × ℕ) (es : List (ℕ × ℕ)) (b : Bool) → p e ≡ b → list_any p (e ∷ es) ≡ true → (list_any p es ≡ true → Found p (e ∷ es)) → Found p (e ∷ es)
here_or p e es true is holds_it rest = record { key = e.0; end = e.1; found = found_here e.0 e es refl; passes = is }
here_or p e es false is holds_it rest = rest (sym (ap (λ b. b || list_any p es) is) ∙ holds_it)

pub found-any : (p : ℕ × ℕ → Bool) (low : ℕ) (es : List (ℕ × ℕ)) → AreApart low es → list_any p es ≡ true → Found p es
found-any p low [] h holds_it = absurd (cc)
found-any p low (e ∷ es) h holds_it = here_or p e es (p e) refl holds_it (λ rest. found_more p low e es h (found-any p (suc e.1) es h.2 rest))

-- what each change does to a test of the runs
pub any-taken_out : (p : ℕ × ℕ → Bool) (f t : ℕ) (es : List (ℕ × ℕ)) → end_at es f ≡ Some t → list_any p es ≡ (p (f, t) || list_any p (taken_out es f))
any-taken_out p f t [] found = absurd (cc)
any-taken_out p f t (e ∷ es) found = elim (cases_eq f e.0) [
  | inl same ↦ ap (λ d. p d || list_any p es) (sym (same_pair f t e same (some_here f t e es same found))) ∙ ap (λ s. p (f, t) || list_any p s) (sym (out_here f e es same))
  | inr other ↦
      ap (λ b. p e || b) (any-taken_out p f t es (sym (found_past f e es other) ∙ found))
      ∙ or_first (p e) (p (f, t)) (list_any p (taken_out es f))
      ∙ ap (λ s. p (f, t) || list_any p s) (sym (out_past f e es other))
]

pub any-moved_to : (p : ℕ × ℕ → Bool) (f t u : ℕ) (es : List (ℕ × ℕ)) → end_at es f ≡ Some t → (p (f, t) || list_any p (moved_to es f u)) ≡ (p (f, u) || list_any p es)
any-moved_to p f t u [] found = absurd (cc)
any-moved_to p f t u (e ∷ es) found = elim (cases_eq f e.0) [
  | inl same ↦
      let here : e ≡ (f, t) = sym (same_pair f t e same (some_here f t e es same found)) in
      let moved : (e.0, u) ≡ (f, u) = ap (λ k. (k, u)) (sym same) in
      ap (λ s. p (f, t) || list_any p s) (moved_here f u e es same)
      ∙ ap (λ d. p (f, t) || (p d || list_any p es)) moved
      ∙ or_first (p (f, t)) (p (f, u)) (list_any p es)
      ∙ ap (λ d. p (f, u) || (p d || list_any p es)) (sym here)
  | inr other ↦
      ap (λ s. p (f, t) || list_any p s) (moved_past f u e es other)
      ∙ or_first (p (f, t)) (p e) (list_any p (moved_to es f u))
      ∙ ap (λ b. p e || b) (any-moved_to p f t u es (sym (found_past f e es other) ∙ found))
      ∙ or_first (p e) (p (f, u)) (list_any p es)
]

pub any-put_in : (p : ℕ × ℕ → Bool) (low f t : ℕ) (es : List (ℕ × ℕ)) → AreApart low es → end_at es f ≡ None → list_any p (insert_entry nat_cmp es f t) ≡ (p (f, t) || list_any p es)
any-put_in p low f t [] h none = refl
any-put_in p low f t (e ∷ es) h none = elim (cases_lt f e.0) [
  | inl lt ↦ ap (list_any p) (in_before f t e es lt)
  | inr le ↦ elim (cases_eq f e.0) [
    | inl same ↦ absurd (none_some e.1 (sym (found_here f e es same) ∙ none))
    | inr other ↦
        ap (list_any p) (in_past f t e es (past f e.0 le other))
        ∙ ap (λ b. p e || b) (any-put_in p (suc e.1) f t es h.2 (sym (found_past f e es other) ∙ none))
        ∙ or_first (p e) (p (f, t)) (list_any p es)
  ]
]
  where
    none_some : (n : ℕ) → Some n ≡ None → ⊥
    none_some n e = absurd (cc)

    past : (f k : ℕ) → k ≤ f → (f ≡ k → ⊥) → k < f
    past f k le other = elim (cases_lt k f) [ inl lt ↦ lt | inr ge ↦ absurd (other (omega arith)) ]

-- what each change does to the order
pub apart-taken_out : (low f : ℕ) (es : List (ℕ × ℕ)) → AreApart low es → AreApart low (taken_out es f)
apart-taken_out low f [] h = tt
apart-taken_out low f (e ∷ es) h = elim (cases_eq f e.0) [
  | inl same ↦ subst (AreApart low) (sym (out_here f e es same)) (weaker (suc e.1) low es h.2 (omega (arith, h.0, h.1)))
  | inr other ↦ subst (AreApart low) (sym (out_past f e es other)) (h.0, h.1, apart-taken_out (suc e.1) f es h.2)
]

pub apart-moved_to : (low f t u : ℕ) (es : List (ℕ × ℕ)) → AreApart low es → end_at es f ≡ Some t → f ≤ u → ((g : ℕ) → f < g → g ≤ u → end_at es g ≡ None) → AreApart low (moved_to es f u)
apart-moved_to low f t u [] h found le none = tt
apart-moved_to low f t u (e ∷ es) h found le none = elim (cases_eq f e.0) [
  | inl same ↦ subst (AreApart low) (sym (moved_here f u e es same)) (h.0, omega (arith, same), above same es h.2 (λ g lt le'. sym (found_past g e es (λ same'. absurd (omega (arith, same, same')))) ∙ none g lt le'))
  | inr other ↦
      let there = sym (found_past f e es other) ∙ found in
      let least = key_above (suc e.1) f t es h.2 there in
      subst (AreApart low) (sym (moved_past f u e es other)) (h.0, h.1, apart-moved_to (suc e.1) f t u es h.2 there le (λ g lt le'. sym (found_past g e es (λ same. absurd (omega (arith, least, h.1, same)))) ∙ none g lt le'))
]
  where
    none_some : (n : ℕ) → Some n ≡ None → ⊥
    none_some n e = absurd (cc)

    above : f ≡ e.0 → (ds : List (ℕ × ℕ)) → AreApart (suc e.1) ds → ((g : ℕ) → f < g → g ≤ u → end_at ds g ≡ None) → AreApart (suc u) ds
    above same [] h' none' = tt
    above same (d ∷ ds) h' none' = elim (cases_lt u d.0) [
      | inl lt ↦ (omega arith, h'.1, h'.2)
      | inr le' ↦ absurd (none_some d.1 (sym (found_here d.0 d ds refl) ∙ none' d.0 (omega (arith, h'.0, h.1, same)) le'))
    ]

pub apart-put_in : (low f : ℕ) (es : List (ℕ × ℕ)) → AreApart low es → low ≤ f → has_room es f ≡ false → AreApart low (insert_entry nat_cmp es f f)
apart-put_in low f [] h le none = (le, omega arith, tt)
apart-put_in low f (e ∷ es) h le none = elim (cases_lt f e.0) [
  | inl lt ↦ subst (AreApart low) (sym (in_before f f e es lt)) (le, omega arith, (omega arith, h.1, h.2))
  | inr ge ↦
      let past : e.1 < f = not_touched e.0 e.1 f (has_room es f) ge none in
      let rest : has_room es f ≡ false = not_rest (leb e.0 f && leb f e.1) (has_room es f) none in
      subst (AreApart low) (sym (in_past f f e es (omega (arith, h.1)))) (h.0, h.1, apart-put_in (suc e.1) f es h.2 (omega arith) rest)
]
  where
    not_rest : (a b : Bool) → (a || b) ≡ false → b ≡ false
    not_rest true b e = absurd (cc)
    not_rest false b e = e

    not_touched : (a b f : ℕ) (rest : Bool) → a ≤ f → ((leb a f && leb f b) || rest) ≡ false → b < f
    not_touched a b f rest le e = grind (arith, nat_tests)

pub at_most : (f g : ℕ) → is_lt (nat_cmp g f) ≡ false → f ≤ g
at_most f g e = grind (arith, nat_tests)

pub in_bound : (f g : ℕ) → is_gt (nat_cmp f g) ≡ false → f ≤ g
in_bound f g e = grind (arith, nat_tests)

pub is_within : (f g : ℕ) → f ≤ g → is_gt (nat_cmp f g) ≡ false
is_within f g le = grind (arith, nat_tests)

-- a test that only a run round n can pass is that of the last run at or below n
pub any-last : (p : ℕ × ℕ → Bool) (n f t : ℕ) (es : List (ℕ × ℕ)) → AreApart 0 es → end_at es f ≡ Some t → ((g : ℕ) → g ≤ n → IsSome (end_at es g) → g ≤ f) → f ≤ n
    → ((k e : ℕ) → p (k, e) ≡ true → (k ≤ n) × (n ≤ e)) → p (f, t) ≡ list_any p es
any-last p n f t es h found last le round = both (p (f, t)) (list_any p es) (any-found p f t es found) (λ yes'.
    let other = found-any p 0 es h yes' in
    let there = round other.key other.end other.passes in
    let below : other.key ≤ f = last other.key there.0 (is_there (end_at es other.key) other.end other.found) in
    elim (cases_eq other.key f) [
      | inl same ↦
          let end : t ≡ other.end = ap (number 0) (sym found ∙ ap (end_at es) (sym same) ∙ other.found) in
          ap p (same_pair f t (other.key, other.end) (sym same) end) ∙ other.passes
      | inr apart ↦ absurd (omega (arith, ends_before 0 other.key other.end f t es h other.found found (strictly other.key f below apart), there.1))
    ])
  where
    both : (a b : Bool) → (a ≡ true → b ≡ true) → (b ≡ true → a ≡ true) → a ≡ b
    both true b f g = sym (f refl)
    both false true f g = g refl
    both false false f g = refl

    is_there : (o : Option ℕ) (u : ℕ) → o ≡ Some u → IsSome o
    is_there o u e = subst (λ o. IsSome o) (sym e) refl

    strictly : (a b : ℕ) → a ≤ b → (a ≡ b → ⊥) → a < b
    strictly a b le apart = elim (cases_lt a b) [ inl lt ↦ lt | inr ge ↦ absurd (apart (omega arith)) ]

pub any-no : (p : ℕ × ℕ → Bool) (n : ℕ) (es : List (ℕ × ℕ)) → AreApart 0 es → ((g : ℕ) → g ≤ n → end_at es g ≡ None) → ((k e : ℕ) → p (k, e) ≡ true → (k ≤ n) × (n ≤ e)) → false ≡ list_any p es
any-no p n es h none round = never (list_any p es) (λ yes'.
    let other = found-any p 0 es h yes' in
    none_some other.end (sym other.found ∙ none other.key (round other.key other.end other.passes).0))
  where
    never : (b : Bool) → (b ≡ true → ⊥) → false ≡ b
    never true f = absurd (f refl)
    never false f = refl

    none_some : (n : ℕ) → Some n ≡ None → ⊥
    none_some n e = absurd (cc)

pub round_count : (n k e : ℕ) → in_run (k, e) n ≡ true → (k ≤ n) × (n ≤ e)
round_count n k e yes' = (grind (arith, nat_tests), grind (arith, nat_tests))

pub round_room : (n k e : ℕ) → (leb k n && leb n e) ≡ true → (k ≤ n) × (n ≤ e)
round_room n k e yes' = (grind (arith, nat_tests), grind (arith, nat_tests))

pub round_hollow : (n k e : ℕ) → (eqb k n && eqb e n) ≡ true → (k ≤ n) × (n ≤ e)
round_hollow n k e yes' = (grind (arith, nat_tests), grind (arith, nat_tests))

pub found_moved : (f t u : ℕ) (es : List (ℕ × ℕ)) → end_at es f ≡ Some t → end_at (moved_to es f u) f ≡ Some u
found_moved f t u [] found = absurd (cc)
found_moved f t u (e ∷ es) found = elim (cases_eq f e.0) [
  | inl same ↦ ap (λ s. end_at s f) (moved_here f u e es same) ∙ found_here f (e.0, u) es same
  | inr other ↦ ap (λ s. end_at s f) (moved_past f u e es other) ∙ found_past f e (moved_to es f u) other ∙ found_moved f t u es (sym (found_past f e es other) ∙ found)
]

pub not_at : (f g : ℕ) → g < f → is_at (nat_cmp f) g ≡ false
not_at f g lt = grind (arith, nat_tests)
