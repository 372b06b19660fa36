-- What the questions of the rules leave of what is in force, and of what the client has of it.
use Rattle.std.proofs.Common.{◌≡◌, ◌+◌, ◌≤◌, ◌^◌, ℕ, Bool, true, false, cond, List, [], ◌∷◌, ◌++◌, map, Option, Some, None, Result, Ok, refl, sym, ◌∙◌, ap, subst}
use Rattle.std.specs.Prelude.{nat_eq, nat_le}
use Rattle.std.specs.List.{AllByRecursion}
use Rattle.std.proofs.lemmas.Bool.{ne_eqb, eq-eqb, le-leb}
use Rattle.std.proofs.lemmas.Option.{same_Some}
use Rattle.serde_json.specs.Data.{Data}
use Rattle.presence_base.specs.Order.{same_text}
use Rattle.phx_message.specs.declared.message.Message.{Message}
use Rattle.presence_journal.specs.declared.rows.Item.{Item}
use Rattle.presence_journal.specs.declared.step.Step.{Step}
use Rattle.presence_journal.specs.declared.step.Step.TheVariants as steps_are
use Rattle.presence_journal.specs.declared.entry.Outcome.TheVariants as outcomes_are
use Rattle.presence_journal.specs.History.{History, Then, last_number, is_full}
use Rattle.presence_journal.specs.Queue.{Waiting, Behind, Queued, topic_of, queue, taken, made_for, push_items}
use Rattle.presence_journal.specs.Table.{IsLegal, next_entry, after, outcome_of, is_step}
use Rattle.presence_journal.proofs.HistoryLemmas.{after-accepted}
use Rattle.presence_journal.proofs.Same.{same_text-true, same_text-refl}
use Rattle.presence_journal.proofs.Topics.{topic_of-then, queue-then}
use Rattle.presence_metas.specs.Listing.{Listing}
use Rattle.tracker_shard.specs.Steps.{refusal, is_found}
use Rattle.tracker_shard.specs.declared.fault.ShardFault.{ShardFault}
use Rattle.channel_rules.specs.declared.refusal.Refusal.{Refusal}
use Rattle.tracker_shard.specs.declared.fault.ShardFault.TheVariants.{JournalFull}
use Rattle.tracker_shard.specs.declared.shard.Sub.{Sub}
use Rattle.channel_rules.specs.Asks.{track, update, untrack, untrack_all, list, get, subscribe, unsubscribe, shout}
use Rattle.channel_rules.specs.Frames.{message_of}
use Rattle.channel_rules.specs.InForce.{Joined, InForce, find, without_topic}
use Rattle.session_laws.specs.Keeping.{AreApart}
use Rattle.presence_stdio.specs.Local.{answer_to, after_unless, after_of, answer_in, after_in}
use Rattle.session_laws.specs.Mirrors.{mirror_from}
use Rattle.channel_rules.specs.Rules.{left, joins, join_ref_of}
use Rattle.session_laws.proofs.KeptSteps.{touches, Stays, same_stays, stays_after, legal_after}

-- what the frames of the items taken for a join fold into
abbrev pub lists_of : History → Joined → Listing
lists_of h j = mirror_from [] (map (message_of j.join_ref j.topic) (taken h j.sub.number))

-- the topic's subscriber is there; and where it isn't behind, the client has what was taken
pub record Fits (lists : List ℕ → Listing) (h : History) (j : Joined) : Type 0 where
  pub topic : topic_of h j.sub.number ≡ Some j.topic
  pub slot : j.sub.slot ≡ 0
  pub lists_are : (q : List Item) → queue h j.sub.number ≡ Queued q → lists j.topic ≡ lists_of h j

-- so it is for what is in force
pub record Stands (lists : List ℕ → Listing) (s : InForce) (h : History) : Type 0 where
  pub legal : IsLegal h
  pub pid : s.pid ≤ 2 ^ 62
  pub working : s.failed ≡ false
  pub apart : AreApart s.joined
  pub joined : AllByRecursion (Fits lists h) s.joined

-- ---- lists of entries

pub all_of : {A : Type 0} (P Q : A → Type 0) → ((x : A) → P x → Q x) → (xs : List A) → AllByRecursion P xs → AllByRecursion Q xs
all_of P Q f [] h = tt
all_of P Q f (x ∷ xs) h = (f x h.0, all_of P Q f xs h.1)

pub all_both : {A : Type 0} (P Q R : A → Type 0) → ((x : A) → P x → Q x → R x) → (xs : List A) → AllByRecursion P xs → AllByRecursion Q xs → AllByRecursion R xs
all_both P Q R f [] h k = tt
all_both P Q R f (x ∷ xs) h k = (f x h.0 k.0, all_both P Q R f xs h.1 k.1)

pub all_more : {A : Type 0} (P : A → Type 0) (xs : List A) (y : A) → AllByRecursion P xs → P y → AllByRecursion P (xs ++ y ∷ [])
all_more P [] y h p = (p, tt)
all_more P (x ∷ xs) y h p = (h.0, all_more P xs y h.1 p)

-- the entry is of another topic
abbrev pub IsOf : List ℕ → Joined → Type 0
IsOf t j = same_text t j.topic ≡ false

-- where a topic is not found all are of others
pub all_others : (t : List ℕ) (js : List Joined) → find t js ≡ None → AllByRecursion (IsOf t) js
all_others t [] e = tt
all_others t (j ∷ js) e = go (same_text t j.topic) refl e (all_others t js)
  where
    go : (b : Bool) → same_text t j.topic ≡ b → cond b (Some j) (find t js) ≡ None → (find t js ≡ None → AllByRecursion (IsOf t) js) → AllByRecursion (IsOf t) (j ∷ js)
    go true p f rest = absurd (cc)
    go false p f rest = (p, rest f)

pub find_topic : (t : List ℕ) (js : List Joined) (j : Joined) → find t js ≡ Some j → t ≡ j.topic
find_topic t [] j e = absurd (cc)
find_topic t (k ∷ js) j e = go (same_text t k.topic) refl e (find_topic t js j)
  where
    go : (b : Bool) → same_text t k.topic ≡ b → cond b (Some k) (find t js) ≡ Some j → (find t js ≡ Some j → t ≡ j.topic) → t ≡ j.topic
    go true p f rest = same_text-true t k.topic p ∙ ap (λ (x : Joined). x.topic) (same_Some k j f)
    go false p f rest = rest f

pub find_all : (P : Joined → Type 0) (t : List ℕ) (js : List Joined) (j : Joined) → AllByRecursion P js → find t js ≡ Some j → P j
find_all P t [] j h e = absurd (cc)
find_all P t (k ∷ js) j h e = go (same_text t k.topic) e (find_all P t js j h.1)
  where
    go : (b : Bool) → cond b (Some k) (find t js) ≡ Some j → (find t js ≡ Some j → P j) → P j
    go true f rest = subst P (same_Some k j f) h.0
    go false f rest = rest f

pub without_all : (P : Joined → Type 0) (t : List ℕ) (js : List Joined) → AllByRecursion P js → AllByRecursion P (without_topic t js)
without_all P t [] h = tt
without_all P t (k ∷ js) h = go (same_text t k.topic) (without_all P t js h.1)
  where
    go : (b : Bool) → AllByRecursion P (without_topic t js) → AllByRecursion P (cond b js (k ∷ without_topic t js))
    go true rest = h.1
    go false rest = (h.0, rest)

-- the topic that is dropped is found no more
find_without : (u t : List ℕ) (js : List Joined) → find u js ≡ None → find u (without_topic t js) ≡ None
find_without u t [] e = refl
find_without u t (k ∷ js) e = go (same_text t k.topic) (same_text u k.topic) refl e (find_without u t js)
  where
    go : (b c : Bool) → same_text u k.topic ≡ c → cond c (Some k) (find u js) ≡ None → (find u js ≡ None → find u (without_topic t js) ≡ None) → find u (cond b js (k ∷ without_topic t js)) ≡ None
    go b true p f rest = absurd (cc)
    go true false p f rest = f
    go false false p f rest = ap (λ c. cond c (Some k) (find u (without_topic t js))) p ∙ rest f

pub gone : (t : List ℕ) (js : List Joined) → AreApart js → find t (without_topic t js) ≡ None
gone t [] h = refl
gone t (k ∷ js) h = go (same_text t k.topic) refl (gone t js h.1)
  where
    go : (b : Bool) → same_text t k.topic ≡ b → find t (without_topic t js) ≡ None → find t (cond b js (k ∷ without_topic t js)) ≡ None
    go true p rest = ap (λ u. find u js) (same_text-true t k.topic p) ∙ h.0
    go false p rest = ap (λ c. cond c (Some k) (find t (without_topic t js))) p ∙ rest

pub apart_without : (t : List ℕ) (js : List Joined) → AreApart js → AreApart (without_topic t js)
apart_without t [] h = tt
apart_without t (k ∷ js) h = go (same_text t k.topic) (apart_without t js h.1)
  where
    go : (b : Bool) → AreApart (without_topic t js) → AreApart (cond b js (k ∷ without_topic t js))
    go true rest = h.1
    go false rest = (find_without k.topic t js h.0, rest)

true_false : true ≡ false → ⊥
true_false e = cc

pub apart_texts : (t u : List ℕ) → same_text t u ≡ false → t ≡ u → ⊥
apart_texts t u f p = true_false (sym (same_text-refl t) ∙ (ap (same_text t) p ∙ f))

pub same_text-sym : (a b : List ℕ) → same_text a b ≡ false → same_text b a ≡ false
same_text-sym a b f = go (same_text b a) refl
  where
    go : (c : Bool) → same_text b a ≡ c → c ≡ false
    go true p = absurd (apart_texts a b f (sym (same_text-true b a p)))
    go false p = refl

find_more : (u : List ℕ) (js : List Joined) (j : Joined) → find u js ≡ None → same_text u j.topic ≡ false → find u (js ++ j ∷ []) ≡ None
find_more u [] j e f = rw f refl
find_more u (k ∷ js) j e f = go (same_text u k.topic) e (λ x. find_more u js j x f)
  where
    go : (b : Bool) → cond b (Some k) (find u js) ≡ None → (find u js ≡ None → find u (js ++ j ∷ []) ≡ None) → cond b (Some k) (find u (js ++ j ∷ [])) ≡ None
    go true x rest = absurd (cc)
    go false x rest = rest x

pub apart_more : (js : List Joined) (j : Joined) → AreApart js → find j.topic js ≡ None → AreApart (js ++ j ∷ [])
apart_more [] j h e = (refl, tt)
apart_more (k ∷ js) j h e = go (same_text j.topic k.topic) refl e (apart_more js j h.1)
  where
    go : (b : Bool) → same_text j.topic k.topic ≡ b → cond b (Some k) (find j.topic js) ≡ None → (find j.topic js ≡ None → AreApart (js ++ j ∷ [])) → AreApart (k ∷ (js ++ j ∷ []))
    go true p f rest = absurd (cc)
    go false p f rest = (find_more k.topic js j h.0 (same_text-sym j.topic k.topic p), rest f)

-- ---- a step

-- one topic, one subscriber
pub other_number : (h : History) (n m : ℕ) (t u : List ℕ) → topic_of h n ≡ Some t → topic_of h m ≡ Some u → (t ≡ u → ⊥) → nat_eq n m ≡ false
other_number h n m t u e f differ = ne_eqb n m (λ p. differ (same_Some t u (sym e ∙ (ap (topic_of h) p ∙ f))))

stays_unless : (h : History) (s : Step) (n : ℕ) (t : List ℕ) → IsLegal h → topic_of h n ≡ Some t → touches s n ≡ false → (r : Option ShardFault) → Stays h (after_unless r h s) n
stays_unless h s n t legal here free (Some e) = same_stays h n
stays_unless h s n t legal here free None = stays_after h legal s n t here free

legal_unless : (h : History) (s : Step) → IsLegal h → is_step s ≡ true → (r : Option ShardFault) → IsLegal (after_unless r h s)
legal_unless h s legal limits (Some e) = legal
legal_unless h s legal limits None = legal_after h s legal limits

pub fits_stays : (lists : List ℕ → Listing) (old new : History) (j : Joined) → Stays old new j.sub.number → Fits lists old j → Fits lists new j
fits_stays lists old new j st f = record {
  topic = st.topic ∙ f.topic;
  slot = f.slot;
  lists_are = λ q e. let before = st.waits q e in f.lists_are before.0 before.1 ∙ ap (λ is. mirror_from [] (map (message_of j.join_ref j.topic) is)) (sym st.taken);
}

module _ (lists : List ℕ → Listing) (h : History) (s : Step) (found : Bool) (legal : IsLegal h) where
  fits_after : (j : Joined) → touches s j.sub.number ≡ false → Fits lists h j → Fits lists (after_of found h s) j
  fits_after j free f = fits_stays lists h (after_of found h s) j (stays_unless h s j.sub.number j.topic legal f.topic free (refusal found h s)) f

-- a step that touches nobody
abbrev TouchesNone : Step → Type 0
TouchesNone s = (n : ℕ) → touches s n ≡ false

stands_after : (lists : List ℕ → Listing) (s : InForce) (h : History) (step : Step) → Stands lists s h → is_step step ≡ true → TouchesNone step → Stands lists s (after_of true h step)
stands_after lists s h step st limits none = record {
  legal = legal_unless h step st.legal limits (refusal true h step);
  pid = st.pid;
  working = st.working;
  apart = st.apart;
  joined = all_of (Fits lists h) (Fits lists (after_of true h step)) (λ j f. fits_after lists h step true st.legal j (none j.sub.number) f) s.joined st.joined;
}

-- ---- the questions

module _ (lists : List ℕ → Listing) (s : InForce) (h : History) (st : Stands lists s h) (t : List ℕ) where
  low : nat_le s.pid (2 ^ 62) ≡ true
  low = le-leb s.pid (2 ^ 62) st.pid

  pub after_track : (k : List ℕ) (m : Data) → Stands lists s (after_in s.pid h (track t k m))
  unfolding after_in
  after_track k m = stands_after lists s h (steps_are.Track s.pid t k m) st low (λ n. refl)

  pub after_update : (k : List ℕ) (m : Data) → Stands lists s (after_in s.pid h (update t k m))
  unfolding after_in
  after_update k m = stands_after lists s h (steps_are.Update s.pid t k m) st low (λ n. refl)

  pub after_untrack : (k : List ℕ) → Stands lists s (after_in s.pid h (untrack t k))
  unfolding after_in
  after_untrack k = stands_after lists s h (steps_are.Untrack s.pid t k) st refl (λ n. refl)

  pub after_untrack_all : Stands lists s (after_in s.pid h (untrack_all t))
  unfolding after_in
  after_untrack_all = stands_after lists s h (steps_are.UntrackAll s.pid t) st refl (λ n. refl)

  pub after_list : Stands lists s (after_in s.pid h (list t))
  unfolding after_in
  after_list = stands_after lists s h (steps_are.List t) st refl (λ n. refl)

  pub after_get : (k : List ℕ) → Stands lists s (after_in s.pid h (get t k))
  unfolding after_in
  after_get k = stands_after lists s h (steps_are.Get t k) st refl (λ n. refl)

  pub after_shout : (p : Data) → Stands lists s (after_in s.pid h (shout t p))
  unfolding after_in
  after_shout p = stands_after lists s h (steps_are.Shout t p) st refl (λ n. refl)

-- ---- the end of a join

leaves_after : (lists : List ℕ → Listing) (s : InForce) (h : History) (t : List ℕ) (j : Joined) (found : Bool) → Stands lists s h → find t s.joined ≡ Some j → Stands lists (left s t) (after_of found h (steps_are.Unsubscribe j.sub.number))
leaves_after lists s h t j found st is = record {
  legal = legal_unless h step st.legal refl (refusal found h step);
  pid = st.pid;
  working = st.working;
  apart = apart_without t s.joined st.apart;
  joined = all_both (Fits lists h) (IsOf t) (Fits lists (after_of found h step)) one (without_topic t s.joined)
      (without_all (Fits lists h) t s.joined st.joined)
      (all_others t (without_topic t s.joined) (gone t s.joined st.apart));
}
  where
    step : Step
    step = steps_are.Unsubscribe j.sub.number

    own : Fits lists h j
    own = find_all (Fits lists h) t s.joined j st.joined is

    one : (k : Joined) → Fits lists h k → IsOf t k → Fits lists (after_of found h step) k
    one k f other =
        fits_after lists h step found st.legal k
        (other_number h j.sub.number k.sub.number j.topic k.topic own.topic f.topic (λ p. apart_texts t k.topic other (find_topic t s.joined j is ∙ p))) f

pub after_unsubscribe : (lists : List ℕ → Listing) (s : InForce) (h : History) (t : List ℕ) (j : Joined) → Stands lists s h → find t s.joined ≡ Some j → Stands lists (left s t) (after_in s.pid h (unsubscribe t j.sub))
unfolding after_in
after_unsubscribe lists s h t j st is = leaves_after lists s h t j (is_found h j.sub.slot j.sub.number) st is

-- ---- a join

module _ (h : History) (t : List ℕ) (room : is_full h ≡ false) where
  begun : after h (steps_are.Subscribe t) None ≡ Then h (next_entry h (steps_are.Subscribe t) None (outcomes_are.Subscribed (last_number h + 1)))
  unfolding outcome_of
  begun = after-accepted h (steps_are.Subscribe t) None (outcomes_are.Subscribed (last_number h + 1)) refl room

  new_topic : topic_of (after h (steps_are.Subscribe t) None) (last_number h + 1) ≡ Some t
  new_topic =
      ap (λ g. topic_of g (last_number h + 1)) begun
      ∙ (topic_of-then h (next_entry h (steps_are.Subscribe t) None (outcomes_are.Subscribed (last_number h + 1))) (last_number h + 1)
      ∙ ap (λ b. cond b (Some t) (topic_of h (last_number h + 1))) (eq-eqb (last_number h + 1) (last_number h + 1) refl))

  new_queue : queue (after h (steps_are.Subscribe t) None) (last_number h + 1) ≡ Behind
  new_queue =
      ap (λ g. queue g (last_number h + 1)) begun
      ∙ (queue-then h (next_entry h (steps_are.Subscribe t) None (outcomes_are.Subscribed (last_number h + 1))) (last_number h + 1)
      ∙ ap (λ b. cond b Behind (push_items (queue h (last_number h + 1)) (made_for h (next_entry h (steps_are.Subscribe t) None (outcomes_are.Subscribed (last_number h + 1))) (topic_of h (last_number h + 1))))) (eq-eqb (last_number h + 1) (last_number h + 1) refl))

not_queued : (w : Waiting) (q : List Item) → w ≡ Behind → w ≡ Queued q → ⊥
not_queued w q e f = let bad : Behind ≡ Queued q = sym e ∙ f in cc

new_fits : (lists : List ℕ → Listing) (h : History) (j : Joined) (n : ℕ) → j.sub ≡ record { slot = 0; number = n } → topic_of h n ≡ Some j.topic → queue h n ≡ Behind → Fits lists h j
new_fits lists h j n is topic waits = record {
  topic = ap (λ (x : Sub). topic_of h x.number) is ∙ topic;
  slot = ap (λ (x : Sub). x.slot) is;
  lists_are = λ q e. absurd (not_queued (queue h j.sub.number) q (ap (λ (x : Sub). queue h x.number) is ∙ waits) e);
}

same_Ok : (x y : Sub) → ◌≡◌ {A = Result Sub Refusal} (Ok x) (Ok y) → x ≡ y
same_Ok x y e = cc

joins_after : (lists : List ℕ → Listing) (kind : ℕ) (s : InForce) (h : History) (m : Message) (sub : Sub) → Stands lists s h → find m.topic s.joined ≡ None → is_full h ≡ false → sub ≡ record { slot = 0; number = last_number h + 1 } → Stands lists (joins kind s m sub) (after h (steps_are.Subscribe m.topic) None)
joins_after lists kind s h m sub st none room is = record {
  legal = legal_after h (steps_are.Subscribe m.topic) st.legal refl;
  pid = st.pid;
  working = st.working;
  apart = apart_more s.joined new st.apart none;
  joined = all_more (Fits lists after_it) s.joined new
      (all_of (Fits lists h) (Fits lists after_it) (λ k f. fits_stays lists h after_it k (stays_after h st.legal (steps_are.Subscribe m.topic) k.sub.number k.topic f.topic refl) f) s.joined st.joined)
      (new_fits lists after_it new (last_number h + 1) is (new_topic h m.topic room) (new_queue h m.topic room));
}
  where
    new : Joined
    new = record { topic = m.topic; kind = kind; join_ref = join_ref_of m; sub = sub }

    after_it : History
    after_it = after h (steps_are.Subscribe m.topic) None

pub after_subscribe : (lists : List ℕ → Listing) (kind : ℕ) (s : InForce) (h : History) (m : Message) (sub : Sub) → Stands lists s h → find m.topic s.joined ≡ None → answer_in s.pid h (subscribe m.topic) ≡ Ok sub → Stands lists (joins kind s m sub) (after_in s.pid h (subscribe m.topic))
unfolding after_in answer_in outcome_of
after_subscribe lists kind s h m sub st none = go (is_full h) refl
  where
    go : (b : Bool) → is_full h ≡ b
        → answer_to (cond b (Some JournalFull) None) (Some (outcomes_are.Subscribed (last_number h + 1))) (record { slot = 0; number = last_number h + 1 }) ≡ Ok sub
        → Stands lists (joins kind s m sub) (after_unless (cond b (Some JournalFull) None) h (steps_are.Subscribe m.topic))
    go true p e = absurd (cc)
    go false p e = joins_after lists kind s h m sub st none p (sym (same_Ok (record { slot = 0; number = last_number h + 1 }) sub e))

-- a join that is refused leaves what stands
pub refused_subscribe : (lists : List ℕ → Listing) (s : InForce) (h : History) (t : List ℕ) → Stands lists s h → Stands lists s (after_in s.pid h (subscribe t))
unfolding after_in
refused_subscribe lists s h t st = stands_after lists s h (steps_are.Subscribe t) st refl (λ n. refl)
