-- The end of a session, call by call.
use Rattle.std.proofs.Common.{◌≡◌, ℕ, zero, suc, List, [], ◌∷◌, drop, take, Some, None, Option, Result, Ok, Err, true, false, refl, sym, ap, ◌∙◌, subst}
use Rattle.std.specs.List.{slice_get, remove}
use Rattle.channel_rules.specs.declared.refusal.Refusal.{Refusal}
use Rattle.channel_rules.specs.declared.refusal.Refusal.TheVariants.{OverRation, NotGranted, Table}
use Rattle.tracker_shard.specs.declared.fault.ShardFault.TheVariants.{AlreadyTracked, NoPresence, ClockFull, JournalFull, NoSub, BadIncarnation, OutOfMemory}
use Rattle.tracker_shard.specs.declared.shard.Sub.{Sub}
use Rattle.channel_rules.specs.Asks.{Ask, Answer, unsubscribe, untrack_all}
use Rattle.channel_rules.specs.Script.{Script, done, ask}
use Rattle.channel_rules.specs.InForce.{Joined, InForce}
use Rattle.channel_session.specs.Ending.{Played, Gone, Keeps, Ended, Leaving, is_unknown, then_rows, ends_topics, ends, left_with, failed_by, then_topics, staying}

module _ {P E : Type 0} (step : P → (q : Ask) → Answer q → P → Type 0) where
  pub played_now : (e : E) (old : P) → Played step (done e) old old e
  played_now e old = record { made = []; calls = refl; plays = refl }

  pub played_on : (q : Ask) (next : Answer q → Script E) (a : Answer q) (old mid new : P) (e : E) → step old q a mid → Played step (next a) mid new e → Played step (ask q next) old new e
  played_on q next a old mid new e h p = record { made = record { ask = q; answer = a } ∷ p.made; calls = (mid, h, p.calls); plays = (a, refl, p.plays) }

pub unknown_is : (e : Refusal) → is_unknown e ≡ true → e ≡ Table NoSub
unknown_is (Table NoSub) h = refl
unknown_is (Table AlreadyTracked) h = absurd (cc)
unknown_is (Table NoPresence) h = absurd (cc)
unknown_is (Table ClockFull) h = absurd (cc)
unknown_is (Table JournalFull) h = absurd (cc)
unknown_is (Table BadIncarnation) h = absurd (cc)
unknown_is (Table OutOfMemory) h = absurd (cc)
unknown_is OverRation h = absurd (cc)
unknown_is NotGranted h = absurd (cc)

pub goes_on_refused : (t : List ℕ) (next : Result (Unit {0}) Refusal → Script Ended) (e : Refusal) → is_unknown e ≡ false → then_rows t next (Err e) ≡ next (Err e)
goes_on_refused t next (Table AlreadyTracked) h = refl
goes_on_refused t next (Table NoPresence) h = refl
goes_on_refused t next (Table ClockFull) h = refl
goes_on_refused t next (Table JournalFull) h = refl
goes_on_refused t next (Table OutOfMemory) h = refl
goes_on_refused t next (Table NoSub) h = absurd (cc)
goes_on_refused t next OverRation h = refl
goes_on_refused t next NotGranted h = refl
goes_on_refused t next (Table BadIncarnation) h = refl

module _ {P : Type 0} (step : P → (q : Ask) → Answer q → P → Type 0) (topic : List ℕ) (sub : Sub) where
  pub rows_gone : (u : Unit {0}) (r : Answer (untrack_all topic)) (old mid new : P) → step old (unsubscribe topic sub) (Ok u) mid → step mid (untrack_all topic) r new → Gone step topic sub old new r
  rows_gone u r old mid new h k = λ next last e p. played_on step (unsubscribe topic sub) (then_rows topic next) (Ok u) old mid last e h (played_on step (untrack_all topic) next r mid new last e k p)

  pub rows_gone_unknown : (f : Refusal) (r : Answer (untrack_all topic)) (old mid new : P) → is_unknown f ≡ true → step old (unsubscribe topic sub) (Err f) mid → step mid (untrack_all topic) r new → Gone step topic sub old new r
  rows_gone_unknown f r old mid new u h k =
      let here : step old (unsubscribe topic sub) (Err (Table NoSub)) mid = subst (λ (x : Refusal). step old (unsubscribe topic sub) (Err x) mid) (unknown_is f u) h in
      λ next last e p. played_on step (unsubscribe topic sub) (then_rows topic next) (Err (Table NoSub)) old mid last e here (played_on step (untrack_all topic) next r mid new last e k p)

  pub kept : (e : Refusal) (old new : P) → is_unknown e ≡ false → step old (unsubscribe topic sub) (Err e) new → Gone step topic sub old new (Err e)
  kept e old new other h = λ next last f p. played_on step (unsubscribe topic sub) (then_rows topic next) (Err e) old new last f h (rw (goes_on_refused topic next e other) p)

-- ---- topics from a place on

pub none_from : {X : Type 0} (js : List X) (i : ℕ) → slice_get js i ≡ None → drop i js ≡ []
none_from [] zero h = refl
none_from [] (suc i) h = refl
none_from (x ∷ js) zero h = absurd (cc)
none_from (x ∷ js) (suc i) h = none_from js i h

some_there : {X : Type 0} (x y : X) → ◌≡◌ {A = Option X} (Some x) (Some y) → x ≡ y
some_there x y h = cc

pub some_from : {X : Type 0} (js : List X) (i : ℕ) (j : X) → slice_get js i ≡ Some j → drop i js ≡ j ∷ drop (suc i) js
some_from [] i j h = absurd (cc)
some_from (x ∷ js) zero j h = ap (λ y. y ∷ js) (some_there x j h)
some_from (x ∷ js) (suc i) j h = some_from js i j h

pub drop_removed : {X : Type 0} (js : List X) (i : ℕ) (j : X) → slice_get js i ≡ Some j → drop i (remove js i) ≡ drop (suc i) js
drop_removed [] i j h = absurd (cc)
drop_removed (x ∷ js) zero j h = refl
drop_removed (x ∷ js) (suc i) j h = drop_removed js i j h

pub take_removed : {X : Type 0} (js : List X) (i : ℕ) (j : X) → slice_get js i ≡ Some j → take i (remove js i) ≡ take i js
take_removed [] i j h = absurd (cc)
take_removed (x ∷ js) zero j h = refl
take_removed (x ∷ js) (suc i) j h = ap (λ ys. x ∷ ys) (take_removed js i j h)

heads : {X : Type 0} (x y : X) (xs ys : List X) → x ∷ xs ≡ y ∷ ys → x ≡ y
heads x y xs ys h = cc

tails : {X : Type 0} (x y : X) (xs ys : List X) → x ∷ xs ≡ y ∷ ys → xs ≡ ys
tails x y xs ys h = ap (drop 1) h

-- what stood at a place still stands there
pub stays_there : {X : Type 0} (js ks : List X) (i : ℕ) (j : X) → slice_get js i ≡ Some j → take (suc i) ks ≡ take (suc i) js → drop i ks ≡ j ∷ drop (suc i) ks
stays_there [] ks i j h e = absurd (cc)
stays_there (x ∷ js) [] zero j h e = absurd (cc)
stays_there (x ∷ js) [] (suc i) j h e = absurd (cc)
stays_there (x ∷ js) (y ∷ ks) zero j h e = ap (λ z. z ∷ ks) (heads y x [] [] e ∙ some_there x j h)
stays_there (x ∷ js) (y ∷ ks) (suc i) j h e = stays_there js ks i j h (tails y x (take (suc i) ks) (take (suc i) js) e)

pub take_less : {X : Type 0} (js ks : List X) (i : ℕ) → take (suc i) ks ≡ take (suc i) js → take i ks ≡ take i js
take_less js ks zero e = refl
take_less [] [] (suc i) e = refl
take_less [] (y ∷ ks) (suc i) e = absurd (cc)
take_less (x ∷ js) [] (suc i) e = absurd (cc)
take_less (x ∷ js) (y ∷ ks) (suc i) e =
    let first : y ≡ x = heads y x (take (suc i) ks) (take (suc i) js) e in
    let more : take i ks ≡ take i js = take_less js ks i (tails y x (take (suc i) ks) (take (suc i) js) e) in
    λ k. first k ∷ more k

module _ {P : Type 0} (step : P → (q : Ask) → Answer q → P → Type 0) (leaving : Leaving) (js : List Joined) (j : Joined) (rest : List Joined) (is : js ≡ j ∷ rest) where
  pub ended_gone : (u : Unit {0}) (old mid new : P) (e : Ended) → Gone step j.topic j.sub old mid (Ok u) → Played step (ends_topics leaving rest) mid new e → Played step (ends_topics leaving js) old new e
  ended_gone u old mid new e gone p = rw is (gone (λ r. ends_topics (staying j r leaving) rest) new e p)

  pub ended_staying : (f : Refusal) (all ks : List Joined) (old mid new : P) → all ≡ j ∷ ks → Gone step j.topic j.sub old mid (Err f)
      → Played step (ends_topics (staying j (Err f) leaving) rest) mid new (leaving (j ∷ ks) (Err f)) → Played step (ends_topics leaving js) old new (leaving all (Err f))
  ended_staying f all ks old mid new all_is gone p = rw (is, all_is) (gone (λ r. ends_topics (staying j r leaving) rest) new (leaving (j ∷ ks) (Err f)) p)

pub none_ended : {P : Type 0} (step : P → (q : Ask) → Answer q → P → Type 0) (leaving : Leaving) (js : List Joined) (old : P) → js ≡ [] → Played step (ends_topics leaving js) old old (leaving js (Ok tt))
none_ended step leaving js old e = rw e (played_now step (leaving [] (Ok tt)) old)

-- ---- the session

named_end : (s after : InForce) (a : Result (Unit {0}) Refusal) (named : Option (List ℕ)) → after.pid ≡ s.pid → after.failed ≡ failed_by s.failed a → after.cut_short ≡ named
    → left_with s named after.joined a ≡ record { after = after; answer = a }
named_end s after a named p f n = sym (λ i. record { after = record { pid = p i; failed = f i; joined = after.joined; cut_short = n i }; answer = a })

module _ {P : Type 0} (steps : ℕ → P → (q : Ask) → Answer q → P → Type 0) (s : InForce) where
  -- the topics in force, where the session has come to this one
  from_mid : (mids after : InForce) (leaving : Leaving) (a : Result (Unit {0}) Refusal) (mid new : P) → mids.pid ≡ s.pid → mids.joined ≡ s.joined
      → Played (steps mids.pid) (ends_topics leaving mids.joined) mid new (leaving after.joined a) → Played (steps s.pid) (ends_topics leaving s.joined) mid new (leaving after.joined a)
  from_mid mids after leaving a mid new p j played = rw (p, j) at played

  pub nothing_cut_short : (after : InForce) (a : Result (Unit {0}) Refusal) (old new : P) → s.cut_short ≡ None → Keeps s after a
      → Played (steps s.pid) (ends_topics (left_with s None) s.joined) old new (left_with s None after.joined a) → Played (steps s.pid) (ends s) old new (record { after = after; answer = a })
  nothing_cut_short after a old new none keeps played =
      let p : Played (steps s.pid) (ends s) old new (left_with s None after.joined a) = rw none played in
      subst (λ e. Played (steps s.pid) (ends s) old new e) (named_end s after a None keeps.pid keeps.failed (keeps.cut_short ∙ none)) p

  module _ (t : List ℕ) (named : s.cut_short ≡ Some t) (pid : ℕ) (pid_is : pid ≡ s.pid) (mids : InForce) (p : mids.pid ≡ s.pid) (j : mids.joined ≡ s.joined) where
    pub cut_short_gone : (u : Unit {0}) (after : InForce) (a : Result (Unit {0}) Refusal) (old mid new : P) → steps pid old (untrack_all t) (Ok u) mid
        → mids.failed ≡ s.failed → mids.cut_short ≡ None → Keeps mids after a
        → Played (steps mids.pid) (ends_topics (left_with s None) mids.joined) mid new (left_with s None after.joined a) → Played (steps s.pid) (ends s) old new (record { after = after; answer = a })
    cut_short_gone u after a old mid new h f n keeps played =
        let asked : steps s.pid old (untrack_all t) (Ok u) mid = rw pid_is at h in
        let rest : Played (steps s.pid) (then_topics s t (Ok u)) mid new (left_with s None after.joined a) = from_mid mids after (left_with s None) a mid new p j played in
        let all : Played (steps s.pid) (ends s) old new (left_with s None after.joined a) = rw named (played_on (steps s.pid) (untrack_all t) (then_topics s t) (Ok u) old mid new _ asked rest) in
        subst (λ e. Played (steps s.pid) (ends s) old new e) (named_end s after a None (keeps.pid ∙ p) (keeps.failed ∙ ap (λ x. failed_by x a) f) (keeps.cut_short ∙ n)) all

    pub cut_short_kept : (g : Refusal) (later after : InForce) (old mid new : P) → steps pid old (untrack_all t) (Err g) mid
        → after.pid ≡ s.pid → after.failed ≡ true → after.joined ≡ later.joined → after.cut_short ≡ s.cut_short
        → Played (steps mids.pid) (ends_topics (λ js b. left_with s (Some t) js (Err g)) mids.joined) mid new (left_with s (Some t) later.joined (Err g))
        → Played (steps s.pid) (ends s) old new (record { after = after; answer = Err g })
    cut_short_kept g later after old mid new h q f k n played =
        let asked : steps s.pid old (untrack_all t) (Err g) mid = rw pid_is at h in
        let rest : Played (steps s.pid) (then_topics s t (Err g)) mid new (left_with s (Some t) later.joined (Err g)) = from_mid mids later (λ js b. left_with s (Some t) js (Err g)) (Ok tt) mid new p j played in
        let all : Played (steps s.pid) (ends s) old new (left_with s (Some t) later.joined (Err g)) = rw named (played_on (steps s.pid) (untrack_all t) (then_topics s t) (Err g) old mid new _ asked rest) in
        subst (λ e. Played (steps s.pid) (ends s) old new e) (ap (λ ks. left_with s (Some t) ks (Err g)) (sym k) ∙ named_end s after (Err g) (Some t) q f (n ∙ named)) all
