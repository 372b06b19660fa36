-- What an event makes of a world, by what it makes of the lives.
use Rattle.std.proofs.Common.{◌≡◌, ℕ, ◌^◌, Bool, true, false, cond, ◌&&◌, nat_lt, is_some, List, [], ◌∷◌, ◌++◌, slice_get, Option, Some, None, Result, Ok, Err, OnOk, OnErr, refl, sym, ◌∙◌, ap, subst, set, option_map}
use Rattle.std.specs.FinMap as map
use Rattle.presence_base.specs.declared.dots.Replica.{Replica}
use Rattle.presence_base.specs.declared.dots.Dot.{Dot}
use Rattle.presence_base.specs.declared.row.Row.{Row}
use Rattle.presence_journal.specs.declared.entry.Outcome.TheVariants as outcomes_are
use Rattle.orswot_core.specs.declared.form.Form.{Form}
use Rattle.orswot_core.specs.Telling.{ToldValue}
use Rattle.presence_journal.specs.declared.step.Step.TheVariants as steps_are
use Rattle.presence_journal.specs.declared.step.Step.{Step}
use Rattle.presence_journal.specs.declared.entry.Outcome.{Outcome}
use Rattle.presence_journal.specs.History.{last_number}
use Rattle.presence_journal.specs.Table.{accepted, is_step}
use Rattle.node_world.specs.Others.{of_others}
use Rattle.node_world.specs.World.{LifeValue, Lives, WorldValue, with_replica, life_of, life_at, stepped, acted, acts, is_client, may_ask, delivered, added, with_row, CutsHere, Cuts, BeginsHere, Begins, Tells, next_life, goes_on_as, rebirths}
use Rattle.node_world.specs.Living.{CutsIf, BeginsIf}
use Rattle.node_world.specs.GoingOn.{going_on}
use Rattle.node_world.specs.Lives.{TurnsIf, Turns, Steps, Begun, CutIf, Cut, ToldIf, next_of, GoesOnTo, GoesOn}
use Rattle.node_world.specs.Worlds.{world, ActsTo, DeliversOthersTo, CutsTo, TellsTo, RebirthsTo}
use Rattle.node_world.proofs.WorldLifeFacts.{insert_same}

-- ---- steps

acts_here : (old new : Lives) (p : List Replica) (n : ℕ) (r : Replica) (s : Step) (t : List ToldValue) → slice_get p n ≡ Some r → Turns (Steps s) old r new → world new p t ≡ acts (world old p t) n s
acts_here old new p n r s t f turn = go (map.get old r) refl turn ∙ ap (λ o. acted (world old p t) s (life_of (world old p t) o)) (sym f)
  where
    go : (o : Option LifeValue) → map.get old r ≡ o → TurnsIf o (Steps s) old r new → world new p t ≡ acted (world old p t) s (with_replica r (map.get old r))
    go None e k = (λ i. world (k i) p t) ∙ ap (λ o. acted (world old p t) s (with_replica r o)) (sym e)
    go (Some l) e k = (λ i. world ((k.2 ∙ ap (map.insert old r) k.1) i) p t) ∙ ap (λ o. acted (world old p t) s (with_replica r o)) (sym e)

pub acts_some : {E : Type 0} (q : Result (Unit {0}) E) (old new : Lives) (p : List Replica) (n : ℕ) (r : Replica) (s : Step) → slice_get p n ≡ Some r → OnOk q (Turns (Steps s) old r new) → OnOk q (ActsTo p old n s new)
acts_some (Err e) old new p n r s f k = tt
acts_some (Ok x) old new p n r s f k = λ t. acts_here old new p n r s t f k

pub acts_none : (old : Lives) (p : List Replica) (n : ℕ) (s : Step) → slice_get p n ≡ None → ActsTo p old n s old
acts_none old p n s f = λ t. ap (λ o. acted (world old p t) s (life_of (world old p t) o)) (sym f)

-- a step that callers may not ask changes nothing
pub not_callers : (w : WorldValue) (n : ℕ) (s : Step) → is_client s ≡ false → w ≡ cond (may_ask s) (acts w n s) w
not_callers w n s f = ap (λ b. cond (b && is_step s) (acts w n s) w) (sym f)

pub not_limited : (w : WorldValue) (n : ℕ) (s : Step) → is_client s ≡ true → is_step s ≡ false → w ≡ cond (may_ask s) (acts w n s) w
not_limited w n s f g = λ i. cond (sym f i && sym g i) (acts w n s) w

pub asked : {E : Type 0} (q : Result (Unit {0}) E) (old new : Lives) (p : List Replica) (n : ℕ) (s : Step) → is_client s ≡ true → is_step s ≡ true → OnOk q (ActsTo p old n s new) → OnOk q ((t : List ToldValue) → world new p t ≡ cond (may_ask s) (acts (world old p t) n s) (world old p t))
asked (Err e) old new p n s f g k = tt
asked (Ok x) old new p n s f g k = λ t. k t ∙ (λ i. cond (sym f i && sym g i) (acts (world old p t) n s) (world old p t))

pub ruleset acting = (acts_some, acts_none, not_callers, not_limited, asked)

-- ---- what is told of others

pub others_some : {E : Type 0} (q : Result (Unit {0}) E) (old new : Lives) (p : List Replica) (t : List ToldValue) (n k : ℕ) (r : Replica) (one : ToldValue) (s : Step) → slice_get p n ≡ Some r → slice_get t k ≡ Some one → s ≡ steps_are.Merge (of_others (Some r) one) → OnOk q (ActsTo p old n s new) → OnOk q (DeliversOthersTo p t old n k new)
others_some (Err e) old new p t n k r one s f g is act = tt
others_some (Ok x) old new p t n k r one s f g is act =
    act t ∙ (ap (acts (world old p t) n) is ∙ (λ i. delivered (world old p t) n (option_map (of_others (sym f i)) (sym g i))))

pub others_nothing : (old : Lives) (p : List Replica) (t : List ToldValue) (n k : ℕ) → slice_get t k ≡ None → DeliversOthersTo p t old n k old
others_nothing old p t n k g = ap (λ o. delivered (world old p t) n (option_map (of_others (slice_get p n)) o)) (sym g)

pub others_nobody : (old : Lives) (p : List Replica) (t : List ToldValue) (n k : ℕ) → slice_get p n ≡ None → DeliversOthersTo p t old n k old
others_nobody old p t n k f = go (option_map (of_others (slice_get p n)) (slice_get t k))
  where
    go : (o : Option ToldValue) → world old p t ≡ delivered (world old p t) n o
    go None = refl
    go (Some one) = acts_none old p n (steps_are.Merge one) f t

pub ruleset hearing = (others_some, others_nothing, others_nobody)

-- ---- cuts

cut_row : (xs : List (Dot × Row)) (o : Option Outcome) → with_row xs (added steps_are.Cut o) ≡ xs
cut_row xs None = refl
cut_row xs (Some (outcomes_are.Added d)) = refl
cut_row xs (Some (outcomes_are.Replaced d old)) = refl
cut_row xs (Some _) = refl

module _ (form : Form) (old new : Lives) (p : List Replica) (n : ℕ) (r : Replica) (t u : List ToldValue) (o : Option ToldValue) (some : (one : ToldValue) → o ≡ Some one → u ≡ t ++ one ∷ []) (none : o ≡ None → u ≡ t) where
  cuts_life : (l : LifeValue) → map.get old r ≡ Some l → (b : Bool) (x : Option ToldValue) → o ≡ x → (m : LifeValue) → CutsIf form b l.history m.history x → m.made ≡ l.made → new ≡ map.insert old r m → CutsHere form b (world old p t) (r, l) (world new p u)
  cuts_life l e true (Some one) q m c made put =
      let same : m ≡ stepped steps_are.Cut l = λ i. record { history = c.1 i; made = (made ∙ sym (cut_row l.made (accepted l.history steps_are.Cut))) i } in
      (one, c.0, λ i. world ((put ∙ ap (map.insert old r) same) i) p (some one q i))
  cuts_life l e true None q m c made put = absurd c
  cuts_life l e false (Some one) q m c made put = absurd c
  cuts_life l e false None q m c made put =
      let same : m ≡ l = λ i. record { history = c i; made = made i } in
      λ i. world ((put ∙ (ap (map.insert old r) same ∙ insert_same old r l e)) i) p (none q i)

  cuts_at : (x : Option LifeValue) → map.get old r ≡ x → CutIf form x old r new o → Cuts form (world old p t) (with_replica r x) (world new p u)
  cuts_at None e c = λ i. world (c.0 i) p (none c.1 i)
  cuts_at (Some l) e c = cuts_life l e (is_some (accepted l.history steps_are.Cut)) o refl c.0 c.1 c.2 c.3

  pub cuts_here : slice_get p n ≡ Some r → Cut form old r new o → Cuts form (world old p t) (life_at (world old p t) n) (world new p u)
  cuts_here f k = subst (λ x. Cuts form (world old p t) (life_of (world old p t) x) (world new p u)) (sym f) (cuts_at (map.get old r) refl k)

pub cut_told : (form : Form) (old new : Lives) (p : List Replica) (n : ℕ) (r : Replica) (t u : List ToldValue) (one : ToldValue) → slice_get p n ≡ Some r → Cut form old r new (Some one) → u ≡ t ++ one ∷ [] → CutsTo form p old t n new u
cut_told form old new p n r t u one f k g = cuts_here form old new p n r t u (Some one) (λ a e. let same : one ≡ a = cc in g ∙ ap (λ z. t ++ z ∷ []) same) (λ e. absurd (cc)) f k

pub cut_nothing : (form : Form) (old new : Lives) (p : List Replica) (n : ℕ) (r : Replica) (t u : List ToldValue) → slice_get p n ≡ Some r → Cut form old r new None → u ≡ t → CutsTo form p old t n new u
cut_nothing form old new p n r t u f k same = cuts_here form old new p n r t u None (λ a e. absurd (cc)) (λ e. same) f k

pub cut_nobody : (form : Form) (old : Lives) (p : List Replica) (n : ℕ) (t : List ToldValue) → slice_get p n ≡ None → Cuts form (world old p t) (life_at (world old p t) n) (world old p t)
cut_nobody form old p n t f = subst (λ x. Cuts form (world old p t) (life_of (world old p t) x) (world old p t)) (sym f) refl

pub ruleset cutting = (cut_told, cut_nothing, cut_nobody)

-- ---- what is told

tells_at : (form : Form) (old new : Lives) (p : List Replica) (r : Replica) (t u : List ToldValue) (from : Option ℕ) (x : Option LifeValue) (o : Option ToldValue) → new ≡ old → ToldIf form x from o → ((one : ToldValue) → o ≡ Some one → u ≡ t ++ one ∷ []) → (o ≡ None → u ≡ t) → Tells form (world old p t) from (with_replica r x) (world new p u)
tells_at form old new p r t u from None o same k some none = λ i. world (same i) p (none k i)
tells_at form old new p r t u from (Some l) None same k some none = absurd k
tells_at form old new p r t u from (Some l) (Some one) same k some none = (one, k, λ i. world (same i) p (some one refl i))

pub tell_told : (form : Form) (old new : Lives) (p : List Replica) (n : ℕ) (r : Replica) (t u : List ToldValue) (from : Option ℕ) (one : ToldValue) → slice_get p n ≡ Some r → new ≡ old → ToldIf form (map.get old r) from (Some one) → u ≡ t ++ one ∷ [] → TellsTo form p old t n from new u
tell_told form old new p n r t u from one f same k g = subst (λ y. Tells form (world old p t) from (life_of (world old p t) y) (world new p u)) (sym f) (tells_at form old new p r t u from (map.get old r) (Some one) same k (λ a e. let w : one ≡ a = cc in g ∙ ap (λ z. t ++ z ∷ []) w) (λ e. absurd (cc)))

pub tell_nothing : (form : Form) (old new : Lives) (p : List Replica) (n : ℕ) (r : Replica) (t u : List ToldValue) (from : Option ℕ) → slice_get p n ≡ Some r → new ≡ old → ToldIf form (map.get old r) from None → u ≡ t → TellsTo form p old t n from new u
tell_nothing form old new p n r t u from f same k left = subst (λ y. Tells form (world old p t) from (life_of (world old p t) y) (world new p u)) (sym f) (tells_at form old new p r t u from (map.get old r) None same k (λ a e. absurd (cc)) (λ e. left))

pub tell_nobody : (form : Form) (old : Lives) (p : List Replica) (n : ℕ) (t : List ToldValue) (from : Option ℕ) → slice_get p n ≡ None → Tells form (world old p t) from (life_at (world old p t) n) (world old p t)
tell_nobody form old p n t from f = subst (λ x. Tells form (world old p t) from (life_of (world old p t) x) (world old p t)) (sym f) refl

pub ruleset telling = (tell_told, tell_nothing, tell_nobody)

-- ---- checkpoints

begins_life : (old new : Lives) (p : List Replica) (r : Replica) (t : List ToldValue) (l m : LifeValue) (b : Bool) → map.get old r ≡ Some l → BeginsIf b l.history m.history → m.made ≡ l.made → new ≡ map.insert old r m → BeginsHere b (world old p t) (r, l) (world new p t)
begins_life old new p r t l m true e c made put = (c.0, c.1, λ i. world ((put ∙ ap (map.insert old r) (λ j. record { history = c.2 j; made = made j })) i) p t)
begins_life old new p r t l m false e c made put =
    let same : m ≡ l = λ i. record { history = c i; made = made i } in
    λ i. world ((put ∙ (ap (map.insert old r) same ∙ insert_same old r l e)) i) p t

begins_at : (old new : Lives) (p : List Replica) (r : Replica) (t : List ToldValue) (x : Option LifeValue) → map.get old r ≡ x → TurnsIf x Begun old r new → Begins (world old p t) (with_replica r x) (world new p t)
begins_at old new p r t None e k = λ i. world (k i) p t
begins_at old new p r t (Some l) e k = begins_life old new p r t l k.0 (nat_lt (last_number l.history) (2 ^ 62)) e k.1.0 k.1.1 k.2

pub begin_some : {E : Type 0} (q : Result (Unit {0}) E) (old new : Lives) (p : List Replica) (n : ℕ) (r : Replica) → slice_get p n ≡ Some r → OnOk q (Turns Begun old r new) → OnOk q ((t : List ToldValue) → Begins (world old p t) (life_at (world old p t) n) (world new p t))
begin_some (Err e) old new p n r f k = tt
begin_some (Ok x) old new p n r f k = λ t. subst (λ y. Begins (world old p t) (life_of (world old p t) y) (world new p t)) (sym f) (begins_at old new p r t (map.get old r) refl k)

pub begin_none : (old : Lives) (p : List Replica) (n : ℕ) (t : List ToldValue) → slice_get p n ≡ None → Begins (world old p t) (life_at (world old p t) n) (world old p t)
begin_none old p n t f = subst (λ x. Begins (world old p t) (life_of (world old p t) x) (world old p t)) (sym f) refl

pub ruleset beginning = (begin_some, begin_none)

-- ---- rebirths

goes_life : (old new : Lives) (p q : List Replica) (n i : ℕ) (r : Replica) (t : List ToldValue) (l : LifeValue) (a : Option Outcome) (b : Bool) → GoesOnTo (going_on i l a) old (next_life r i) new b
    → q ≡ cond b (set p n (next_life r i)) p → world new q t ≡ goes_on_as (world old p t) n i (r, l) a
goes_life old new p q n i r t l (Some (outcomes_are.Reborn pairs)) b g k = λ j. world (g.0 j) ((k ∙ ap (λ x. cond x (set p n (next_life r i)) p) g.1) j) t
goes_life old new p q n i r t l None b g k = λ j. world (g.0 j) ((k ∙ ap (λ x. cond x (set p n (next_life r i)) p) g.1) j) t
goes_life old new p q n i r t l (Some _) b g k = λ j. world (g.0 j) ((k ∙ ap (λ x. cond x (set p n (next_life r i)) p) g.1) j) t

goes_at : (old new : Lives) (p q : List Replica) (n i : ℕ) (r : Replica) (t : List ToldValue) (o : Option LifeValue) (b : Bool) → GoesOnTo (next_of i o) old (next_life r i) new b
    → q ≡ cond b (set p n (next_life r i)) p → world new q t ≡ rebirths (world old p t) n i (with_replica r o)
goes_at old new p q n i r t None b g k = λ j. world (g.0 j) ((k ∙ ap (λ x. cond x (set p n (next_life r i)) p) g.1) j) t
goes_at old new p q n i r t (Some l) b g k = goes_life old new p q n i r t l (accepted l.history (steps_are.Rebirth i)) b g k

pub goes_here : (old new : Lives) (p q : List Replica) (n i : ℕ) (r : Replica) (b : Bool) → slice_get p n ≡ Some r → GoesOn old r i new b
    → q ≡ cond b (set p n (next_life r i)) p → RebirthsTo p old n i q new
goes_here old new p q n i r b f g k =
    λ t. goes_at old new p q n i r t (map.get old r) b g k ∙ ap (λ o. rebirths (world old p t) n i (life_of (world old p t) o)) (sym f)

pub goes_on_here : (old new : Lives) (p q : List Replica) (n i : ℕ) (r own : Replica) (b : Bool) → slice_get p n ≡ Some r → GoesOn old r i new b → b ≡ true
    → own ≡ next_life r i → q ≡ set p n own → RebirthsTo p old n i q new
goes_on_here old new p q n i r own b f g e o k = goes_here old new p q n i r b f g (k ∙ (ap (set p n) o ∙ ap (λ x. cond x (set p n (next_life r i)) p) (sym e)))

pub stays_here : (old new : Lives) (p : List Replica) (n i : ℕ) (r : Replica) (b : Bool) → slice_get p n ≡ Some r → GoesOn old r i new b → b ≡ false → RebirthsTo p old n i p new
stays_here old new p n i r b f g e = goes_here old new p p n i r b f g (ap (λ x. cond x (set p n (next_life r i)) p) (sym e))

pub goes_nobody : (old : Lives) (p : List Replica) (n i : ℕ) → slice_get p n ≡ None → RebirthsTo p old n i p old
goes_nobody old p n i f = λ t. ap (λ o. rebirths (world old p t) n i (life_of (world old p t) o)) (sym f)

pub ruleset rebirthing = (goes_on_here, stays_here, goes_nobody)

-- ---- all events

pub acted_now : {E : Type 0} (q : Result (Unit {0}) E) (old new : Lives) (p : List Replica) (n : ℕ) (s : Step) (t : List ToldValue) → OnOk q (ActsTo p old n s new) → OnOk q (world new p t ≡ acts (world old p t) n s)
acted_now (Err e) old new p n s t k = tt
acted_now (Ok x) old new p n s t k = k t

pub at_told : {E : Type 0} (q : Result (Unit {0}) E) (P : List ToldValue → Type 0) (t : List ToldValue) → OnOk q ((u : List ToldValue) → P u) → OnOk q (P t)
at_told (Err e) P t k = tt
at_told (Ok x) P t k = k t

-- where memory ran out
pub lives_stay : {E : Type 0} (q : Result (Unit {0}) E) (old new : Lives) (p : List Replica) (t : List ToldValue) → OnErr q (new ≡ old) → OnErr q (world new p t ≡ world old p t)
lives_stay (Ok x) old new p t k = tt
lives_stay (Err e) old new p t k = λ i. world (k i) p t

pub told_stays : {E : Type 0} (q : Result (Unit {0}) E) (old new : Lives) (p : List Replica) (t u : List ToldValue) → OnErr q (new ≡ old) → OnErr q (u ≡ t) → OnErr q (world new p u ≡ world old p t)
told_stays (Ok x) old new p t u k l = tt
told_stays (Err e) old new p t u k l = λ i. world (k i) p (l i)

pub same_told_stays : {E : Type 0} (q : Result (Unit {0}) E) (old new : Lives) (p : List Replica) (t u : List ToldValue) → new ≡ old → OnErr q (u ≡ t) → OnErr q (world new p u ≡ world old p t)
same_told_stays (Ok x) old new p t u k l = tt
same_told_stays (Err e) old new p t u k l = λ i. world (k i) p (l i)

pub present_stays : {E : Type 0} (q : Result (Unit {0}) E) (old new : Lives) (p r : List Replica) (t : List ToldValue) → OnErr q (new ≡ old) → OnErr q (r ≡ p) → OnErr q (world new r t ≡ world old p t)
present_stays (Ok x) old new p r t k l = tt
present_stays (Err e) old new p r t k l = λ i. world (k i) (l i) t

pub ruleset happening = (acted_now, at_told, lives_stay, told_stays, same_told_stays, present_stays)
