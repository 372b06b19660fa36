-- What making room, filling, absorbing and sweeping leave of a list of runs.
use Rattle.std.proofs.Common.{◌≡◌, ℕ, ◌<◌, ◌≤◌, Bool, true, false, ◌&&◌, ◌||◌, ltb, leb, eqb, List, arith, refl, sym, ◌∙◌, ap, inl, inr, true≢false, Option, Some, None, IsSome, subst, max}
use Rattle.std.proofs.lemmas.Bool.{cases_lt, cases_eq}
use Rattle.std.proofs.lemmas.Bool.Decides.{nat_tests}
use Rattle.std.specs.Ordering.{nat_cmp}
use Rattle.std.specs.BTreeMap.{insert_entry}
use Rattle.dot_context.specs.Runs.{in_run, holds, AreApart, has_room, is_hollow, end_at, taken_out, moved_to, Opens, Fills, Sweeps, Absorbs}
use Rattle.dot_context.proofs.RunFacts.{number, any-found, found-any, any-taken_out, any-moved_to, any-put_in, apart-taken_out, apart-moved_to, apart-put_in, ends_before, end_above, any-last, any-no, round_count, round_room, round_hollow}

pub covered_at : (n f t : ℕ) (es : List (ℕ × ℕ)) → AreApart 0 es → end_at es f ≡ Some t → ((g : ℕ) → g ≤ n → IsSome (end_at es g) → g ≤ f) → f ≤ n → in_run (f, t) n ≡ holds es n
covered_at n f t es h found last le = any-last (λ r. in_run r n) n f t es h found last le (λ k e yes'. round_count n k e yes')

pub uncovered : (n : ℕ) (es : List (ℕ × ℕ)) → AreApart 0 es → ((g : ℕ) → g ≤ n → end_at es g ≡ None) → false ≡ holds es n
uncovered n es h none = any-no (λ r. in_run r n) n es h none (λ k e yes'. round_count n k e yes')

pub room_at : (n f t : ℕ) (es : List (ℕ × ℕ)) → AreApart 0 es → end_at es f ≡ Some t → ((g : ℕ) → g ≤ n → IsSome (end_at es g) → g ≤ f) → f ≤ n → (leb f n && leb n t) ≡ has_room es n
room_at n f t es h found last le = any-last (λ r. leb r.0 n && leb n r.1) n f t es h found last le (λ k e yes'. round_room n k e yes')

pub no_room : (n : ℕ) (es : List (ℕ × ℕ)) → AreApart 0 es → ((g : ℕ) → g ≤ n → end_at es g ≡ None) → false ≡ has_room es n
no_room n es h none = any-no (λ r. leb r.0 n && leb n r.1) n es h none (λ k e yes'. round_room n k e yes')

pub hollow_at : (n t : ℕ) (es : List (ℕ × ℕ)) → AreApart 0 es → end_at es n ≡ Some t → (eqb n n && eqb t n) ≡ is_hollow es n
hollow_at n t es h found = any-last (λ r. eqb r.0 n && eqb r.1 n) n n t es h found (λ g le there. le) (omega arith) (λ k e yes'. round_hollow n k e yes')

none_some : (n : ℕ) → Some n ≡ None → ⊥
none_some n e = absurd (cc)

pub never : (b : Bool) → (b ≡ true → ⊥) → b ≡ false
never true f = absurd (f refl)
never false f = refl

pub not_hollow : (n : ℕ) (es : List (ℕ × ℕ)) → AreApart 0 es → end_at es n ≡ None → is_hollow es n ≡ false
not_hollow n es h none = never (is_hollow es n) (λ yes'.
    let there = found-any (λ r. eqb r.0 n && eqb r.1 n) 0 es h yes' in
    none_some there.end (sym there.found ∙ ap (end_at es) (at there.key there.end n there.passes) ∙ none))
  where
    at : (k e n : ℕ) → (eqb k n && eqb e n) ≡ true → k ≡ n
    at k e n yes' = grind (arith, nat_tests)

none_there : (f : ℕ) (es : List (ℕ × ℕ)) → AreApart 0 es → has_room es f ≡ false → (o : Option ℕ) → end_at es f ≡ o → o ≡ None
none_there f es h none None is = refl
none_there f es h none (Some t) is = absurd (true≢false (sym (any-found (λ r. leb r.0 f && leb f r.1) f t es is (itself f t (end_above 0 f t es h is))) ∙ none))
  where
    itself : (f t : ℕ) → f ≤ t → (leb f f && leb f t) ≡ true
    itself f t le = grind (arith, nat_tests)

-- room is made by a hollow run
pub opened : (es es' : List (ℕ × ℕ)) (f : ℕ) → AreApart 0 es → has_room es f ≡ false → es' ≡ insert_entry nat_cmp es f f → Opens es es' (λ g. eqb f g)
opened es es' f h none e =
    let absent = none_there f es h none (end_at es f) refl in
    record {
      apart = subst (AreApart 0) (sym e) (apart-put_in 0 f es h (omega arith) none);
      same = λ n. ap (λ s. holds s n) e ∙ any-put_in (λ r. in_run r n) 0 f f es h absent ∙ ap (λ b. b || holds es n) (no_counts f n);
      room = λ g there. ap (λ s. has_room s g) e ∙ any-put_in (λ r. leb r.0 g && leb g r.1) 0 f f es h absent ∙ or_true (leb f g && leb g f) (has_room es g) there;
      hollow = λ g there. asked f g (is_hollow es g) (sym (ap (λ s. is_hollow s g) e ∙ any-put_in (λ r. eqb r.0 g && eqb r.1 g) 0 f f es h absent) ∙ there);
    }
  where
    no_counts : (f n : ℕ) → (ltb f n && leb n f) ≡ false
    no_counts f n = grind (arith, nat_tests)

    or_true : (a b : Bool) → b ≡ true → (a || b) ≡ true
    or_true true b e = refl
    or_true false b e = e

    asked : (f g : ℕ) (b : Bool) → ((eqb f g && eqb f g) || b) ≡ true → (b || eqb f g) ≡ true
    asked f g true e = refl
    asked f g false e = grind (arith, nat_tests)

pub room_opened : (es es' : List (ℕ × ℕ)) (f : ℕ) → AreApart 0 es → has_room es f ≡ false → es' ≡ insert_entry nat_cmp es f f → has_room es' f ≡ true
room_opened es es' f h none e = ap (λ s. has_room s f) e ∙ any-put_in (λ r. leb r.0 f && leb f r.1) 0 f f es h (none_there f es h none (end_at es f) refl) ∙ here f (has_room es f)
  where
    here : (f : ℕ) (b : Bool) → ((leb f f && leb f f) || b) ≡ true
    here f b = grind (arith, nat_tests)

pub already_open : (es : List (ℕ × ℕ)) (f : ℕ) → AreApart 0 es → Opens es es (λ g. eqb f g)
already_open es f h = record { apart = h; same = λ n. refl; room = λ g there. there; hollow = λ g there. ap (λ b. b || eqb f g) there }

-- a hollow run is taken out
pub swept : (es es' : List (ℕ × ℕ)) (f : ℕ) → AreApart 0 es → end_at es f ≡ Some f → es' ≡ taken_out es f → end_at es' f ≡ None → Sweeps es es' (λ g. eqb f g)
swept es es' f h found e gone =
    let apart' : AreApart 0 es' = subst (AreApart 0) (sym e) (apart-taken_out 0 f es h) in
    record {
      apart = apart';
      same = λ n. sym (any-taken_out (λ r. in_run r n) f f es found ∙ ap (λ b. b || holds (taken_out es f) n) (no_counts f n) ∙ ap (λ s. holds s n) (sym e));
      hollow = λ g there. any-taken_out (λ r. eqb r.0 g && eqb r.1 g) f f es found ∙ ap (λ s. (eqb f g && eqb f g) || is_hollow s g) (sym e) ∙ or_true (eqb f g && eqb f g) (is_hollow es' g) there;
      cleared = λ g same. subst (λ k. is_hollow es' k ≡ false) (at f g same) (not_hollow f es' apart' gone);
    }
  where
    no_counts : (f n : ℕ) → (ltb f n && leb n f) ≡ false
    no_counts f n = grind (arith, nat_tests)

    or_true : (a b : Bool) → b ≡ true → (a || b) ≡ true
    or_true true b e = refl
    or_true false b e = e

    at : (f g : ℕ) → eqb f g ≡ true → f ≡ g
    at f g same = grind (arith, nat_tests)

pub nothing_swept : (es : List (ℕ × ℕ)) (f : ℕ) → AreApart 0 es → is_hollow es f ≡ false → Sweeps es es (λ g. eqb f g)
nothing_swept es f h none = record { apart = h; same = λ n. refl; hollow = λ g there. there; cleared = λ g same. subst (λ k. is_hollow es k ≡ false) (at f g same) none }
  where
    at : (f g : ℕ) → eqb f g ≡ true → f ≡ g
    at f g same = grind (arith, nat_tests)

-- a run that is touched is taken out, for the longer run
pub absorbs_none : (es : List (ℕ × ℕ)) (start end : ℕ) → AreApart 0 es → Absorbs es es start end end
absorbs_none es start end h = record { apart = h; counts = λ n. refl; room = λ g there. ap (λ b. b || (leb start g && leb g end)) there; hollow = λ g there. there }

pub absorbs_one : (old es es' : List (ℕ × ℕ)) (start end reach f t m : ℕ) → Absorbs old es start end reach → start < f → f ≤ reach → end_at es f ≡ Some t → es' ≡ taken_out es f → m ≡ max reach t → Absorbs old es' start end m
absorbs_one old es es' start end reach f t m before lt le found e most = record {
  apart = subst (AreApart 0) (sym e) (apart-taken_out 0 f es before.apart);
  counts = λ n.
      longer_counts start f t reach m n (holds es' n) lt le most
      ∙ ap (λ b. b || in_run (start, reach) n) (sym (any-taken_out (λ r. in_run r n) f t es found ∙ ap (λ s. in_run (f, t) n || holds s n) (sym e)))
      ∙ before.counts n;
  room = λ g there. longer_room start f t reach m g (has_room es' g) lt le most
      (ap (λ b. b || (leb start g && leb g reach)) (sym (any-taken_out (λ r. leb r.0 g && leb g r.1) f t es found ∙ ap (λ s. (leb f g && leb g t) || has_room s g) (sym e))) ∙ before.room g there);
  hollow = λ g there. before.hollow g (any-taken_out (λ r. eqb r.0 g && eqb r.1 g) f t es found ∙ ap (λ s. (eqb f g && eqb t g) || is_hollow s g) (sym e) ∙ or_true (eqb f g && eqb t g) (is_hollow es' g) there);
}
  where
    or_true : (a b : Bool) → b ≡ true → (a || b) ≡ true
    or_true true b e = refl
    or_true false b e = e

    longer_counts : (start f t reach m n : ℕ) (h : Bool) → start < f → f ≤ reach → m ≡ max reach t → (h || (ltb start n && leb n m)) ≡ (((ltb f n && leb n t) || h) || (ltb start n && leb n reach))
    longer_counts start f t reach m n true lt le most = grind (arith, nat_tests)
    longer_counts start f t reach m n false lt le most = grind (arith, nat_tests)

    longer_room : (start f t reach m g : ℕ) (h : Bool) → start < f → f ≤ reach → m ≡ max reach t → (((leb f g && leb g t) || h) || (leb start g && leb g reach)) ≡ true → (h || (leb start g && leb g m)) ≡ true
    longer_room start f t reach m g true lt le most e = refl
    longer_room start f t reach m g false lt le most e = grind (arith, nat_tests)

same_by : (a b h m : Bool) → (a || h) ≡ (b || m) → (b ≡ true → h ≡ true) → (a ≡ true → b ≡ true) → h ≡ (b || m)
same_by true b true m e f g = e
same_by true b false m e f g = absurd (true≢false (sym (f (g refl))))
same_by false b h m e f g = e

-- a run that is touched takes the counts in
pub filled : (old mid new : List (ℕ × ℕ)) (start e from to end reach : ℕ) → AreApart 0 old → end_at old start ≡ Some e → end_at mid start ≡ Some e → end_at new start ≡ Some reach
    → start ≤ from → from ≤ e → from < to → end ≡ max e to → end ≤ reach → ((g : ℕ) → start < g → g ≤ reach → end_at mid g ≡ None)
    → Absorbs old mid start end reach → new ≡ moved_to mid start reach → Fills old new (in_run (from, to)) (λ g. eqb from g)
filled old mid new start e from to end reach h found found' there le le' lt most far clear absorbs is =
    let apart' : AreApart 0 new = subst (AreApart 0) (sym is) (apart-moved_to 0 start e reach mid absorbs.apart found' (omega arith) clear) in
    let hollow' : (g : ℕ) → is_hollow new g ≡ true → is_hollow old g ≡ true = λ g yes'. absorbs.hollow g (
    not_long start reach g (is_hollow mid g) (omega arith) (sym (any-moved_to (λ r. eqb r.0 g && eqb r.1 g) start e reach mid found') ∙ ap (λ s. (eqb start g && eqb e g) || is_hollow s g) (sym is) ∙ or_true (eqb start g && eqb e g) (is_hollow new g) yes')) in
    record {
      apart = apart';
      counts = λ n.
          same_by (in_run (start, e) n) (in_run (start, reach) n) (holds new n) (holds mid n)
          (ap (λ s. in_run (start, e) n || holds s n) is ∙ any-moved_to (λ r. in_run r n) start e reach mid found')
          (λ yes'. any-found (λ r. in_run r n) start reach new there yes')
          (λ yes'. wider start e reach n (omega arith) yes')
          ∙ turned (in_run (start, reach) n) (holds mid n)
          ∙ absorbs.counts n
          ∙ exactly start e from to end n (holds old n) le le' lt most (λ yes'. any-found (λ r. in_run r n) start e old found yes');
      room = λ g yes'. kept_room start e reach g (has_room new g) (has_room mid g) (omega arith)
          (ap (λ s. (leb start g && leb g e) || has_room s g) is ∙ any-moved_to (λ r. leb r.0 g && leb g r.1) start e reach mid found')
          (λ yes''. any-found (λ r. leb r.0 g && leb g r.1) start reach new there yes'')
          (absorbs.room g yes');
      hollow = hollow';
      cleared = λ g same. subst (λ k. is_hollow new k ≡ false) (at from g same) (never (is_hollow new from) (λ yes'.
          let run = found-any (λ r. eqb r.0 from && eqb r.1 from) 0 new apart' yes' in
          let key : run.key ≡ from = key_at run.key run.end from run.passes in
          let last : run.end ≡ from = end_is run.key run.end from run.passes in
          elim (cases_eq start from) [
            | inl begin ↦
                let same' : reach ≡ run.end = ap (number 0) (sym there ∙ ap (end_at new) (begin ∙ sym key) ∙ run.found) in
                absurd (omega arith)
            | inr apart ↦ absurd (omega (arith, ends_before 0 start reach run.key run.end new apart' there run.found (subst (λ k. start < k) (sym key) (strictly start from le apart)), key))
          ]));
    }
  where
    or_true : (a b : Bool) → b ≡ true → (a || b) ≡ true
    or_true true b e = refl
    or_true false b e = e

    turned : (x y : Bool) → (x || y) ≡ (y || x)
    turned true true = refl
    turned true false = refl
    turned false true = refl
    turned false false = refl

    at : (f g : ℕ) → eqb f g ≡ true → f ≡ g
    at f g same = grind (arith, nat_tests)

    key_at : (k e n : ℕ) → (eqb k n && eqb e n) ≡ true → k ≡ n
    key_at k e n yes' = grind (arith, nat_tests)

    end_is : (k e n : ℕ) → (eqb k n && eqb e n) ≡ true → e ≡ n
    end_is k e n yes' = grind (arith, nat_tests)

    strictly : (a b : ℕ) → a ≤ b → (a ≡ b → ⊥) → a < b
    strictly a b le apart = elim (cases_lt a b) [ inl lt ↦ lt | inr ge ↦ absurd (apart (omega arith)) ]

    wider : (s e r n : ℕ) → e ≤ r → (ltb s n && leb n e) ≡ true → (ltb s n && leb n r) ≡ true
    wider s e r n le yes' = grind (arith, nat_tests)

    not_long : (s r g : ℕ) (b : Bool) → s < r → ((eqb s g && eqb r g) || b) ≡ true → b ≡ true
    not_long s r g true lt yes' = refl
    not_long s r g false lt yes' = grind (arith, nat_tests)

    kept_room : (s e r g : ℕ) (h m : Bool) → e ≤ r → ((leb s g && leb g e) || h) ≡ ((leb s g && leb g r) || m) → ((leb s g && leb g r) ≡ true → h ≡ true) → (m || (leb s g && leb g r)) ≡ true → h ≡ true
    kept_room s e r g true m le eq f yes' = refl
    kept_room s e r g false true le eq f yes' = grind (arith, nat_tests)
    kept_room s e r g false false le eq f yes' = f yes'

    exactly : (s e from to end n : ℕ) (h : Bool) → s ≤ from → from ≤ e → from < to → end ≡ max e to → ((ltb s n && leb n e) ≡ true → h ≡ true) → (h || (ltb s n && leb n end)) ≡ (h || (ltb from n && leb n to))
    exactly s e from to end n true le le' lt most f = refl
    exactly s e from to end n false le le' lt most f = past s e from to end n le le' lt most (not_true (ltb s n && leb n e) f)
      where
        not_true : (b : Bool) → (b ≡ true → false ≡ true) → b ≡ false
        not_true true f = absurd (true≢false (sym (f refl)))
        not_true false f = refl

        past : (s e from to end n : ℕ) → s ≤ from → from ≤ e → from < to → end ≡ max e to → (ltb s n && leb n e) ≡ false → (ltb s n && leb n end) ≡ (ltb from n && leb n to)
        past s e from to end n le le' lt most no' = grind (arith, nat_tests)
