-- Which topics may have rows of a session, call by call and script by script, over a lent shard.
use Rattle.std.proofs.Common.{◌≡◌, ◌+◌, ℕ, Bool, true, false, cond, not, ◌&&◌, ◌||◌, List, [], Option, Some, None, Result, Ok, Err, is_ok, refl, sym, ap, ◌∙◌, subst}
use Rattle.std.specs.Prelude.{nat_le, ◌^◌}
use Rattle.std.specs.FinMap as map
use Rattle.presence_base.specs.declared.dots.Dot.{Dot}
use Rattle.presence_base.specs.declared.row.Row.{Row}
use Rattle.presence_base.specs.Order.{same_text}
use Rattle.presence_journal.specs.declared.entry.Outcome.TheVariants as outcomes_are
use Rattle.presence_journal.specs.declared.step.Step.{Step}
use Rattle.presence_journal.specs.declared.step.Step.TheVariants as steps_are
use Rattle.presence_journal.specs.declared.rows.Place.{Place}
use Rattle.presence_journal.specs.History.{History, has_dot, last_number}
use Rattle.presence_journal.specs.Present.{present, listed, dots_of, dots_added}
use Rattle.presence_journal.specs.Queue.{Waiting, Behind, Queued, queue, topic_of}
use Rattle.presence_journal.specs.Table.{IsLegal, is_mine, is_step, rows_of_pid, rows_of_key, listed_key, for_present, take_outcome, outcome_of, accepted, after}
use Rattle.presence_journal.specs.Laws.{OnlyNamedLeave, concerns, is_callers}
use Rattle.presence_journal.proofs.Same.{same_text-true, same_text-refl}
use Rattle.presence_journal.proofs.FoldOthers.{others_stay, stays_legal}
use Rattle.tracker_shard.specs.Steps.{Stepped, Made, Answers}
use Rattle.tracker_shard.specs.declared.fault.ShardFault.{ShardFault}
use Rattle.tracker_shard.specs.declared.fault.ShardFault.TheVariants.{AlreadyTracked, NoPresence, ClockFull, JournalFull, NoSub, BadIncarnation, OutOfMemory}
use Rattle.channel_rules.specs.Asks.{Ask, Given, Answer, track, update, untrack, untrack_all, list, get, subscribe, take, unsubscribe, waits, shout}
use Rattle.channel_rules.specs.Seen.{in_table}
use Rattle.channel_rules.specs.declared.refusal.Refusal.TheVariants.{OverRation, NotGranted, Table}
use Rattle.presence_stdio.specs.Local.{LocalStep, TableStep, IsNew}
use Rattle.session_laws.proofs.Behind.{AddsNone, was_there, mine_after, mine_is_named, is_accepted, either, untracked_is, untrack_adds, unsubscribe_adds, same_some, no_row, or_true}
use Rattle.presence_journal.proofs.HistoryLemmas.{callers_plain}
use Rattle.presence_journal.specs.Walk.{is_rebirth}

-- each own row of the pid that is present stands on one of these topics
abbrev pub On : (List ℕ → Bool) → ℕ → History → Type 0
On f pid h = (t : List ℕ) (p : Place) (r : Row) → map.get (present h t) p ≡ Some r → is_mine h pid (p.dot, r) ≡ true → f t ≡ true

pub record Kept (pid : ℕ) (f : List ℕ → Bool) (h : History) : Type 0 where
  pub legal : IsLegal h
  pub rows : On f pid h

-- these topics and this one, and these without it
abbrev pub and_at : List ℕ → (List ℕ → Bool) → List ℕ → Bool
and_at u f t = same_text t u || f t

abbrev pub and_not : List ℕ → (List ℕ → Bool) → List ℕ → Bool
and_not u f t = f t && not (same_text t u)

-- the second have all that the first have
abbrev pub Within : (List ℕ → Bool) → (List ℕ → Bool) → Type 0
Within f g = (t : List ℕ) → f t ≡ true → g t ≡ true

pub kept_within : (pid : ℕ) (f g : List ℕ → Bool) (h : History) → Within f g → Kept pid f h → Kept pid g h
kept_within pid f g h w k = record { legal = k.legal; rows = λ t p r e mine. w t (k.rows t p r e mine) }

-- ---- steps

or_first : (a b : Bool) → a ≡ true → (a || b) ≡ true
or_first true b e = refl
or_first false b e = absurd (cc)

or_second : (a b : Bool) → b ≡ true → (a || b) ≡ true
or_second a b e = ap (λ c. a || c) e ∙ or_true a

and_both : (a b : Bool) → a ≡ true → b ≡ true → (a && b) ≡ true
and_both true b e f = f
and_both false b e f = absurd (cc)

flip_same : (u t : List ℕ) → same_text u t ≡ true → same_text t u ≡ true
flip_same u t e = subst (λ x. same_text t x ≡ true) (sym (same_text-true u t e)) (same_text-refl t)

take_adds : (h : History) (n max : ℕ) → AddsNone h (steps_are.Take n max)
unfolding outcome_of
take_adds h n max o e = go (topic_of h n) (queue h n) e
  where
    go : (t : Option (List ℕ)) (w : Waiting) → for_present t (take_outcome max w) ≡ Some o → dots_added o ≡ []
    go None w e = absurd (cc)
    go (Some t) Behind e = ap dots_added (same_some o _ (sym e))
    go (Some t) (Queued q) e = ap dots_added (same_some o _ (sym e))

untrack_key_adds : (h : History) (pid : ℕ) (t k : List ℕ) → AddsNone h (steps_are.Untrack pid t k)
unfolding outcome_of
untrack_key_adds h pid t k o e = ap dots_added (untracked_is h (dots_of (rows_of_key h pid t k)) o e)

list_adds : (h : History) (t : List ℕ) → AddsNone h (steps_are.List t)
unfolding outcome_of
list_adds h t o e = ap dots_added (same_some o (outcomes_are.Shown (dots_of (listed h t))) (sym e))

get_adds : (h : History) (t k : List ℕ) → AddsNone h (steps_are.Get t k)
unfolding outcome_of
get_adds h t k o e = ap dots_added (same_some o (outcomes_are.Shown (dots_of (listed_key h t k))) (sym e))

subscribe_adds : (h : History) (t : List ℕ) → AddsNone h (steps_are.Subscribe t)
unfolding outcome_of
subscribe_adds h t o e = ap dots_added (same_some o (outcomes_are.Subscribed (last_number h + 1)) (sym e))

shout_adds : (h : History) (t : List ℕ) (d : _) → AddsNone h (steps_are.Shout t d)
unfolding outcome_of
shout_adds h t d o e = ap dots_added (same_some o outcomes_are.Sent (sym e))

module _ (leave : OnlyNamedLeave) (pid : ℕ) (f : List ℕ → Bool) (old new : History) (k : Kept pid f old) where
  -- a step that adds no row
  quiet : {A : Type 0} (s : Step) (a : Result A ShardFault) → is_step s ≡ true → is_callers s ≡ true → AddsNone old s → Stepped old new None s a → Kept pid f new
  quiet s a limits callers adds m =
      either (λ h. Kept pid f h) old new s a m k
      (record {
        legal = stays_legal old k.legal s None limits;
        rows = λ t p r e mine. k.rows t p r (was_there leave old k.legal s callers adds t p r e).before (sym (mine_after old s (callers_plain s callers) pid (p.dot, r)) ∙ mine);
      })

  same : new ≡ old → Kept pid f new
  same e = subst (λ h. Kept pid f h) (sym e) k

  -- a step that is refused
  refused : {A : Type 0} (s : Step) (Gives : A → Type 0) (x : ShardFault) → is_step s ≡ true → is_callers s ≡ true → Stepped {A = A} old new None s (Err x) → Answers Gives (outcome_of old s) (Err x) → Kept pid f new
  refused {A} s Gives AlreadyTracked l c m g = quiet {A = A} s (Err AlreadyTracked) l c (λ o e. ap dots_added (same_some o outcomes_are.AlreadyTracked (sym e ∙ g))) m
  refused {A} s Gives NoPresence l c m g = quiet {A = A} s (Err NoPresence) l c (λ o e. ap dots_added (same_some o outcomes_are.NoPresence (sym e ∙ g))) m
  refused s Gives ClockFull l c m g = same m
  refused s Gives JournalFull l c m g = same m
  refused s Gives NoSub l c m g = same m
  refused s Gives BadIncarnation l c m g = same m
  refused s Gives OutOfMemory l c m g = same m

  -- a step that may add a row on this topic, and concerns no other
  added : (s : Step) (u : List ℕ) → ((t : List ℕ) → concerns s t ≡ same_text u t) → is_step s ≡ true → is_rebirth s ≡ false → Made old new None s → Kept pid (and_at u f) new
  added s u concerned limits lasts m = subst (λ h. Kept pid (and_at u f) h) (sym m.journal) (record { legal = stays_legal old k.legal s None limits; rows = there })
    where
      there : On (and_at u f) pid (after old s None)
      there t p r e mine = go (same_text u t) refl
        where
          go : (b : Bool) → same_text u t ≡ b → (same_text t u || f t) ≡ true
          go true q = or_first (same_text t u) (f t) (flip_same u t q)
          go false q =
              let before : map.get (present old t) p ≡ Some r = sym (ap (λ x. map.get x p) (others_stay old k.legal s None t (concerned t ∙ q))) ∙ e in
              or_second (same_text t u) (f t) (k.rows t p r before (sym (mine_after old s lasts pid (p.dot, r)) ∙ mine))

  -- an accepted removal of all
  gone : (u : List ℕ) → Made old new None (steps_are.UntrackAll pid u) → Kept pid (and_not u f) new
  gone u m = subst (λ h. Kept pid (and_not u f) h) (sym m.journal) (record { legal = stays_legal old k.legal (steps_are.UntrackAll pid u) None refl; rows = there })
    where
      there : On (and_not u f) pid (after old (steps_are.UntrackAll pid u) None)
      there t p r e mine =
          let was = was_there leave old k.legal (steps_are.UntrackAll pid u) refl (untrack_adds old pid u) t p r e in
          let owned : is_mine old pid (p.dot, r) ≡ true = sym (mine_after old (steps_are.UntrackAll pid u) refl pid (p.dot, r)) ∙ mine in
          let spared = was.spared (outcomes_are.Removed (dots_of (rows_of_pid old pid u))) (is_accepted leave old new k.legal pid u m (accepted old (steps_are.UntrackAll pid u)) refl m.accepted) in
          go (same_text t u) refl was.before owned spared
        where
          go : (b : Bool) → same_text t u ≡ b → map.get (present old t) p ≡ Some r → is_mine old pid (p.dot, r) ≡ true → has_dot (dots_of (rows_of_pid old pid u)) p.dot ≡ false → (f t && not b) ≡ true
          go true q before owned spared =
              absurd (no_row (has_dot (dots_of (rows_of_pid old pid u)) p.dot) (mine_is_named old pid u p r (ap (λ v. map.get (present old v) p) (sym (same_text-true t u q)) ∙ before) owned) spared)
          go false q before owned spared = and_both (f t) true (k.rows t p r before owned) refl

-- ---- calls

-- the topics on which rows may stand after a call
abbrev pub after_call : (List ℕ → Bool) → (q : Ask) → Answer q → List ℕ → Bool
after_call f (track u k m) a = cond (is_ok a) (and_at u f) f
after_call f (update u k m) a = cond (is_ok a) (and_at u f) f
after_call f (untrack u k) a = f
after_call f (untrack_all u) a = cond (is_ok a) (and_not u f) f
after_call f (list u) a = f
after_call f (get u k) a = f
after_call f (subscribe u) a = f
after_call f (take u s n) a = f
after_call f (unsubscribe u s) a = f
after_call f (waits u s) a = f
after_call f (shout u d) a = f

-- the call may add rows on this topic alone
abbrev pub Fits : List ℕ → Ask → Type 0
Fits t (track u k m) = u ≡ t
Fits t (update u k m) = u ≡ t
Fits t _ = Unit {0}

module _ (leave : OnlyNamedLeave) (pid : ℕ) (low : nat_le pid (2 ^ 62) ≡ true) (t : List ℕ) where
  table_keeps : (f : List ℕ → Bool) (old new : History) (q : Ask) (a : Result (Given q) ShardFault) → Fits t q → Kept pid f old → TableStep pid old q a new → Kept pid (after_call f q (in_table a)) new
  table_keeps f old new (track u k m) (Ok d) fits h s = added leave pid f old new h (steps_are.Track pid u k m) u (λ x. refl) low refl s.stepped
  table_keeps f old new (track u k m) (Err x) fits h s = refused leave pid f old new h {A = Dot} (steps_are.Track pid u k m) (IsNew old (steps_are.Track pid u k m)) x low refl s.stepped s.given
  table_keeps f old new (update u k m) (Ok d) fits h s = added leave pid f old new h (steps_are.Update pid u k m) u (λ x. refl) low refl s.stepped
  table_keeps f old new (update u k m) (Err x) fits h s = refused leave pid f old new h {A = Dot} (steps_are.Update pid u k m) (IsNew old (steps_are.Update pid u k m)) x low refl s.stepped s.given
  table_keeps f old new (untrack u k) a fits h s = quiet leave pid f old new h (steps_are.Untrack pid u k) a refl refl (untrack_key_adds old pid u k) s.stepped
  table_keeps f old new (untrack_all u) (Ok x) fits h s = gone leave pid f old new h u s.stepped
  table_keeps f old new (untrack_all u) (Err x) fits h s = refused leave pid f old new h {A = Unit {0}} (steps_are.UntrackAll pid u) (λ _. Unit {0}) x refl refl s.stepped s.given
  table_keeps f old new (list u) a fits h s = quiet leave pid f old new h (steps_are.List u) a refl refl (list_adds old u) s.stepped
  table_keeps f old new (get u k) a fits h s = quiet leave pid f old new h (steps_are.Get u k) a refl refl (get_adds old u k) s.stepped
  table_keeps f old new (subscribe u) a fits h s = quiet leave pid f old new h (steps_are.Subscribe u) a refl refl (subscribe_adds old u) s.stepped
  table_keeps f old new (take u sub n) a fits h s = quiet leave pid f old new h (steps_are.Take sub.number n) a refl refl (take_adds old sub.number n) s.stepped
  table_keeps f old new (unsubscribe u sub) a fits h s = quiet leave pid f old new h (steps_are.Unsubscribe sub.number) a refl refl (unsubscribe_adds old sub.number) s.stepped
  table_keeps f old new (waits u sub) a fits h s = same leave pid f old new h s.0
  table_keeps f old new (shout u d) a fits h s = quiet leave pid f old new h (steps_are.Shout u d) a refl refl (shout_adds old u d) s.stepped

  pub call_keeps : (f : List ℕ → Bool) (old new : History) (q : Ask) (a : Answer q) → Fits t q → Kept pid f old → LocalStep pid old q a new → Kept pid (after_call f q a) new
  call_keeps f old new q (Ok x) fits h s = table_keeps f old new q (Ok x) fits h s
  call_keeps f old new q (Err (Table e)) fits h s = table_keeps f old new q (Err e) fits h s
  call_keeps f old new q (Err OverRation) fits h s = absurd s
  call_keeps f old new q (Err NotGranted) fits h s = absurd s
