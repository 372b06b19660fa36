-- A delivery that is answered: nothing waits after it, and the client's lists are those of what was taken.
use Rattle.std.proofs.Common.{◌≡◌, Option, ℕ, Bool, true, false, cond, ◌&&◌, is_some, List, [], ◌∷◌, ◌++◌, map, Some, None, Result, Ok, Err, IsTrue, refl, sym, ◌∙◌, ap, subst, append-nil, append_assoc}
use Rattle.std.specs.Prelude.{nat_eq}
use Rattle.std.specs.List.{AllByRecursion}
use Rattle.presence_base.specs.Names.{is_short_text}
use Rattle.presence_base.specs.Order.{same_text}
use Rattle.phx_message.specs.declared.message.Message.{Message}
use Rattle.phx_message.specs.declared.message.MsgRef.{MsgRef}
use Rattle.presence_journal.specs.declared.rows.Item.{Item}
use Rattle.presence_journal.specs.declared.step.Step.TheVariants as steps_are
use Rattle.presence_journal.specs.History.{History}
use Rattle.presence_journal.specs.Queue.{Waiting, Behind, Queued, topic_of, queue, taken, is_waiting, listed_for}
use Rattle.presence_journal.specs.Table.{IsLegal, after}
use Rattle.presence_metas.specs.Listing.{Listing}
use Rattle.channel_rules.specs.declared.refusal.Refusal.{Refusal}
use Rattle.tracker_shard.specs.declared.fault.ShardFault.TheVariants as shard_faults_are
use Rattle.channel_rules.specs.declared.refusal.Refusal.TheVariants.{Table}
use Rattle.tracker_shard.specs.declared.fault.ShardFault.TheVariants.{NoSub}
use Rattle.channel_rules.specs.Asks.{take, waits}
use Rattle.channel_rules.specs.Delivering.{then_told, then_take, delivers}
use Rattle.channel_rules.specs.Frames.{message_of}
use Rattle.channel_rules.specs.InForce.{Joined, InForce, find}
use Rattle.session_laws.specs.Keeping.{AreApart, IsItem, client_lists}
use Rattle.presence_stdio.specs.Local.{answer_in, after_in, played}
use Rattle.session_laws.specs.Mirrors.{mirror_from}
use Rattle.channel_rules.specs.Rules.{End, answers, full, memory, unsaid}
use Rattle.channel_rules.specs.Said.{Said, plainly, told as item_to}
use Rattle.channel_rules.specs.Script.{Script}
use Rattle.session_laws.proofs.KeptSteps.{Stays, stays_after, served_after, legal_after}
use Rattle.session_laws.proofs.KeptAsks.{lists_of, Fits, fits_stays, all_of, all_both, apart_texts, same_text-sym, other_number, all_others, IsOf}
use Rattle.session_laws.proofs.KeptRules.{map-more, all_and}
use Rattle.session_laws.proofs.KeptTakes.{took_items, took_history, took_topic, took_taken, took_all}
use Rattle.session_laws.proofs.KeptFrames.{client-more, client_own, client_others, given_leads, plain_items}
use Rattle.session_laws.proofs.SoundRows.{HistorySound, ItemsAreSound, items_given_sound}
use Rattle.session_laws.proofs.SoundSteps.{JoinedSound, StateSound, after_sound}
use Rattle.session_laws.proofs.SoundValues.{IsFramed, RefSound, item_framed}

-- nothing waits for the topic's subscriber, and the client has what was taken
pub record Even (lists : List ℕ → Listing) (h : History) (j : Joined) : Type 0 where
  pub topic : topic_of h j.sub.number ≡ Some j.topic
  pub slot : j.sub.slot ≡ 0
  pub served : queue h j.sub.number ≡ Queued []
  pub lists_are : lists j.topic ≡ lists_of h j

-- the client's lists after messages
abbrev pub told : (List ℕ → Listing) → List Message → List ℕ → Listing
told lists ms t = client_lists t (lists t) ms

pub even_fits : (lists : List ℕ → Listing) (h : History) (j : Joined) → Even lists h j → Fits lists h j
even_fits lists h j e = record { topic = e.topic; slot = e.slot; lists_are = λ q f. e.lists_are }

pub even_same : (lists others : List ℕ → Listing) (h : History) → ((t : List ℕ) → others t ≡ lists t) → (j : Joined) → Even lists h j → Even others h j
even_same lists others h same j e = record { topic = e.topic; slot = e.slot; served = e.served; lists_are = same j.topic ∙ e.lists_are }

-- what a delivery of these topics, behind what was said before, makes; where F holds, it is sound
pub record Dealt (F : Type 0) (lists : List ℕ → Listing) (s : InForce) (before : List Said) (ds js : List Joined) (said : List Said) (after_it : InForce) (g : History) : Type 0 where
  pub more : List Said
  pub said_are : said ≡ before ++ more
  pub messages : List Message
  pub plain_are : map plainly more ≡ messages
  pub items_all : AllByRecursion IsItem more
  pub framed : F → AllByRecursion IsFramed messages
  pub session : after_it ≡ s
  pub legal : IsLegal g
  pub history : F → HistorySound g
  pub done_before : AllByRecursion (Even (told lists messages) g) ds
  pub done_now : AllByRecursion (Even (told lists messages) g) js

abbrev pub Deals : Type 0 → (List ℕ → Listing) → InForce → List Said → List Joined → List Joined → End → History → Type 0
Deals F lists s before ds js (answers said after_it) g = Dealt F lists s before ds js said after_it g
Deals F lists s before ds js full g = Unit {0}
Deals F lists s before ds js memory g = Unit {0}

abbrev DealsPlayed : Type 0 → (List ℕ → Listing) → InForce → List Said → List Joined → List Joined → Script End → History → Type 0
DealsPlayed F lists s before ds js script h = Deals F lists s before ds js (played s.pid script h).0 (played s.pid script h).1

-- no later topic is the entry's
abbrev NotIn : List Joined → Joined → Type 0
NotIn js d = find d.topic js ≡ None

-- what the delivery starts from
record Starts (F : Type 0) (lists : List ℕ → Listing) (h : History) (ds js : List Joined) : Type 0 where
  legal : IsLegal h
  history : F → HistorySound h
  entries : F → AllByRecursion JoinedSound js
  done_before : AllByRecursion (Even lists h) ds
  waiting : AllByRecursion (Fits lists h) js
  apart : AreApart js
  not_in : AllByRecursion (NotIn js) ds

unsaid_deals : (F : Type 0) (lists : List ℕ → Listing) (s : InForce) (before : List Said) (ds js : List Joined) (h : History) (e : Refusal) → Deals F lists s before ds js (unsaid e) h
unsaid_deals F lists s before ds js h (Table shard_faults_are.OutOfMemory) = tt
unsaid_deals F lists s before ds js h _ = tt

not_in_more : (j : Joined) (js : List Joined) (d : Joined) → NotIn (j ∷ js) d → (same_text d.topic j.topic ≡ false) × NotIn js d
not_in_more j js d e = go (same_text d.topic j.topic) refl e
  where
    go : (b : Bool) → same_text d.topic j.topic ≡ b → cond b (Some j) (find d.topic js) ≡ None → (same_text d.topic j.topic ≡ false) × NotIn js d
    go true p f = absurd (cc)
    go false p f = (p, f)

-- the end of a delivery
ends_even : (F : Type 0) (lists : List ℕ → Listing) (s : InForce) (before : List Said) (ds : List Joined) (h : History) → Starts F lists h ds [] → Dealt F lists s before ds [] before s h
ends_even F lists s before ds h st = record { more = []; said_are = sym (append-nil before); messages = []; plain_are = refl; items_all = tt; framed = λ f. tt; session = refl; legal = st.legal; history = st.history; done_before = st.done_before; done_now = tt }

-- ---- a topic for which nothing waits

module _ (F : Type 0) (lists : List ℕ → Listing) (s : InForce) (h : History) (j : Joined) (js ds : List Joined) (st : Starts F lists h ds (j ∷ js)) where
  quiet_starts : queue h j.sub.number ≡ Queued [] → Starts F lists h (j ∷ ds) js
  quiet_starts served = record {
    legal = st.legal;
    history = st.history;
    entries = λ f. (st.entries f).1;
    done_before = (record { topic = st.waiting.0.topic; slot = st.waiting.0.slot; served = served; lists_are = st.waiting.0.lists_are [] served }, st.done_before);
    waiting = st.waiting.1;
    apart = st.apart.1;
    not_in = (st.apart.0, all_of (NotIn (j ∷ js)) (NotIn js) (λ d e. (not_in_more j js d e).1) ds st.not_in);
  }

-- the entry just served goes among those that are served now
quiet_dealt : (F : Type 0) (lists : List ℕ → Listing) (s : InForce) (before : List Said) (j : Joined) (js ds : List Joined) (e : End) (g : History) → Deals F lists s before (j ∷ ds) js e g → Deals F lists s before ds (j ∷ js) e g
quiet_dealt F lists s before j js ds (answers said after_it) g d = record { more = d.more; said_are = d.said_are; messages = d.messages; plain_are = d.plain_are; items_all = d.items_all; framed = d.framed; session = d.session; legal = d.legal; history = d.history; done_before = d.done_before.1; done_now = (d.done_before.0, d.done_now) }
quiet_dealt F lists s before j js ds full g d = tt
quiet_dealt F lists s before j js ds memory g d = tt

-- ---- a topic whose items are taken

items_told : (j : Joined) (is : List Item) → AllByRecursion IsItem (map (item_to j) is)
items_told j [] = tt
items_told j (i ∷ is) = (tt, items_told j is)

items_framed : (r : Option MsgRef) (t : List ℕ) (is : List Item) → IsTrue (is_short_text t) → RefSound r → ItemsAreSound is → AllByRecursion IsFramed (map (message_of r t) is)
items_framed r t [] short ref h = tt
items_framed r t (i ∷ is) short ref h = (item_framed r t i short ref h.0, items_framed r t is short ref h.1)

taken_dealt : (F : Type 0) (lists : List ℕ → Listing) (s : InForce) (before : List Said) (j : Joined) (js ds : List Joined) (items : List Item) (e : End) (g : History)
    → (F → AllByRecursion IsFramed (map (message_of j.join_ref j.topic) items)) → Deals F (told lists (map (message_of j.join_ref j.topic) items)) s (before ++ map (item_to j) items) (j ∷ ds) js e g → Deals F lists s before ds (j ∷ js) e g
taken_dealt F lists s before j js ds items (answers said after_it) g k d = record {
  more = map (item_to j) items ++ d.more;
  said_are = d.said_are ∙ append_assoc before (map (item_to j) items) d.more;
  messages = map (message_of j.join_ref j.topic) items ++ d.messages;
  plain_are = map-more plainly (map (item_to j) items) d.more ∙ (λ i. plain_items j items i ++ d.plain_are i);
  items_all = all_and IsItem (map (item_to j) items) d.more (items_told j items) d.items_all;
  framed = λ f. all_and IsFramed (map (message_of j.join_ref j.topic) items) d.messages (k f) (d.framed f);
  session = d.session;
  legal = d.legal;
  history = d.history;
  done_before = all_of _ _ (even_same (told (told lists (map (message_of j.join_ref j.topic) items)) d.messages) (told lists (map (message_of j.join_ref j.topic) items ++ d.messages)) g same) ds d.done_before.1;
  done_now = (even_same (told (told lists (map (message_of j.join_ref j.topic) items)) d.messages) (told lists (map (message_of j.join_ref j.topic) items ++ d.messages)) g same j d.done_before.0, all_of _ _ (even_same (told (told lists (map (message_of j.join_ref j.topic) items)) d.messages) (told lists (map (message_of j.join_ref j.topic) items ++ d.messages)) g same) js d.done_now);
}
  where
    same : (t : List ℕ) → told lists (map (message_of j.join_ref j.topic) items ++ d.messages) t ≡ told (told lists (map (message_of j.join_ref j.topic) items)) d.messages t
    same t = client-more t (lists t) (map (message_of j.join_ref j.topic) items) d.messages
taken_dealt F lists s before j js ds items full g k d = tt
taken_dealt F lists s before j js ds items memory g k d = tt

module _ (pid : ℕ) (lists : List ℕ → Listing) (h : History) (legal : IsLegal h) (j : Joined) (own : Fits lists h j) (items : List Item) (is : answer_in pid h (take j.topic j.sub 256) ≡ Ok items) where
  later : History
  later = after h (steps_are.Take j.sub.number 256) None

  now : List ℕ → Listing
  now = told lists (map (message_of j.join_ref j.topic) items)

  own_lists : now j.topic ≡ lists_of later j
  unfolding later now
  own_lists =
      client_own j.join_ref j.topic (lists j.topic) items
      ∙ (ap (λ xs. mirror_from (lists j.topic) (map (message_of j.join_ref j.topic) xs)) (took_items pid h j.sub j.topic j.topic own.topic own.slot 256 items is)
      ∙ (given_leads j.join_ref j.topic (lists j.topic) (listed_for h (topic_of h j.sub.number)) 256 (taken h j.sub.number) (queue h j.sub.number) own.lists_are
      ∙ ap (λ xs. mirror_from [] (map (message_of j.join_ref j.topic) xs)) (sym (took_taken pid h j.sub j.topic j.topic own.topic own.slot 256 items is))))

  own_even : Even now later j
  unfolding later now
  own_even = record {
    topic = took_topic pid h j.sub j.topic j.topic own.topic own.slot 256 items is;
    slot = own.slot;
    served = took_all pid h j.sub j.topic j.topic own.topic own.slot items is;
    lists_are = own_lists;
  }

  -- of the others nothing is taken
  module _ (d : Joined) (there : topic_of h d.sub.number ≡ Some d.topic) (other : same_text j.topic d.topic ≡ false) where
    other_stays : Stays h later d.sub.number
    unfolding later
    other_stays = stays_after h legal (steps_are.Take j.sub.number 256) d.sub.number d.topic there (other_number h j.sub.number d.sub.number j.topic d.topic own.topic there (apart_texts j.topic d.topic other))

    other_lists : now d.topic ≡ lists d.topic
    unfolding now
    other_lists = client_others j.join_ref j.topic d.topic (lists d.topic) items other

  other_even : (d : Joined) → same_text j.topic d.topic ≡ false → Even lists h d → Even now later d
  unfolding later now
  other_even d other e = record {
    topic = (other_stays d e.topic other).topic ∙ e.topic;
    slot = e.slot;
    served = served_after h legal (steps_are.Take j.sub.number 256) d.sub.number d.topic e.topic (other_number h j.sub.number d.sub.number j.topic d.topic own.topic e.topic (apart_texts j.topic d.topic other)) refl e.served;
    lists_are = other_lists d e.topic other ∙ (e.lists_are ∙ ap (λ xs. mirror_from [] (map (message_of d.join_ref d.topic) xs)) (sym (other_stays d e.topic other).taken));
  }

  other_fits : (d : Joined) → same_text j.topic d.topic ≡ false → Fits lists h d → Fits now later d
  unfolding later now
  other_fits d other f =
      let kept : Fits lists later d = fits_stays lists h later d (other_stays d f.topic other) f in
      record { topic = kept.topic; slot = kept.slot; lists_are = λ q e. other_lists d f.topic other ∙ kept.lists_are q e }

  taken_starts : (F : Type 0) (js ds : List Joined) → Starts F lists h ds (j ∷ js) → Starts F now later (j ∷ ds) js
  unfolding later now
  taken_starts F js ds st = record {
    legal = legal_after h (steps_are.Take j.sub.number 256) legal refl;
    history = λ f. after_sound h (steps_are.Take j.sub.number 256) (st.history f) tt;
    entries = λ f. (st.entries f).1;
    done_before = (own_even, all_both (Even lists h) (NotIn (j ∷ js)) (Even now later) (λ d e n. other_even d (same_text-sym d.topic j.topic (not_in_more j js d n).0) e) ds st.done_before st.not_in);
    waiting = all_both (Fits lists h) (IsOf j.topic) (Fits now later) (λ d f n. other_fits d n f) js st.waiting.1 (all_others j.topic js st.apart.0);
    apart = st.apart.1;
    not_in = (st.apart.0, all_of (NotIn (j ∷ js)) (NotIn js) (λ d e. (not_in_more j js d e).1) ds st.not_in);
  }

-- ---- one topic after another

is_served : (w : Waiting) → false ≡ is_waiting w → w ≡ Queued []
is_served Behind e = absurd (cc)
is_served (Queued []) e = refl
is_served (Queued (i ∷ is)) e = absurd (cc)

same_answer : (a b : Bool) → ◌≡◌ {A = Result Bool Refusal} (Ok a) (Ok b) → a ≡ b
same_answer a b e = cc

waits_answer : (pid : ℕ) (h : History) (j : Joined) → topic_of h j.sub.number ≡ Some j.topic → j.sub.slot ≡ 0 → answer_in pid h (waits j.topic j.sub) ≡ Ok (is_waiting (queue h j.sub.number))
unfolding answer_in
waits_answer pid h j there slot = λ i. cond (is_some (there i) && nat_eq (slot i) 0) (Ok (is_waiting (queue h j.sub.number))) (Err (Table NoSub))

-- the delivery of the topics that follow
abbrev Rest : Type 0 → InForce → List Joined → Type 0
Rest F s js = (lists : List ℕ → Listing) (h : History) (ds : List Joined) (before : List Said) → Starts F lists h ds js → DealsPlayed F lists s before ds js (delivers 256 s js before) h

module _ (F : Type 0) (lists : List ℕ → Listing) (s : InForce) (h : History) (j : Joined) (js ds : List Joined) (before : List Said) (st : Starts F lists h ds (j ∷ js)) (rest : Rest F s js) where
  taken_framed : (items : List Item) → answer_in s.pid h (take j.topic j.sub 256) ≡ Ok items → F → AllByRecursion IsFramed (map (message_of j.join_ref j.topic) items)
  taken_framed items is f =
      items_framed j.join_ref j.topic items (st.entries f).0.0 (st.entries f).0.1
      (subst ItemsAreSound (sym (took_items s.pid h j.sub j.topic j.topic st.waiting.0.topic st.waiting.0.slot 256 items is)) (items_given_sound h j.sub.number 256 (st.history f)))

  frames_deal : (a : Result (List Item) Refusal) → answer_in s.pid h (take j.topic j.sub 256) ≡ a → DealsPlayed F lists s before ds (j ∷ js) (then_told j before (delivers 256 s js) a) (after_in s.pid h (take j.topic j.sub 256))
  unfolding later now
  frames_deal (Ok items) is =
      subst (λ g. DealsPlayed F lists s before ds (j ∷ js) (delivers 256 s js (before ++ map (item_to j) items)) g) (sym (took_history s.pid h j.sub j.topic j.topic st.waiting.0.topic st.waiting.0.slot 256 items is))
      (taken_dealt F lists s before j js ds items _ _ (taken_framed items is)
      (rest (told lists (map (message_of j.join_ref j.topic) items)) (after h (steps_are.Take j.sub.number 256) None) (j ∷ ds) (before ++ map (item_to j) items) (taken_starts s.pid lists h st.legal j st.waiting.0 items is F js ds st)))
  frames_deal (Err e) is = unsaid_deals F lists s before ds (j ∷ js) (after_in s.pid h (take j.topic j.sub 256)) e

  take_deals : (a : Result Bool Refusal) → answer_in s.pid h (waits j.topic j.sub) ≡ a → DealsPlayed F lists s before ds (j ∷ js) (then_take 256 j before (delivers 256 s js) a) h
  take_deals (Ok true) is = frames_deal (answer_in s.pid h (take j.topic j.sub 256)) refl
  take_deals (Ok false) is =
      quiet_dealt F lists s before j js ds _ _
      (rest lists h (j ∷ ds) before
      (quiet_starts F lists s h j js ds st (is_served (queue h j.sub.number) (same_answer false (is_waiting (queue h j.sub.number)) (sym is ∙ waits_answer s.pid h j st.waiting.0.topic st.waiting.0.slot)))))
  take_deals (Err e) is = unsaid_deals F lists s before ds (j ∷ js) h e

  one_deals : DealsPlayed F lists s before ds (j ∷ js) (delivers 256 s (j ∷ js) before) h
  unfolding after_in
  one_deals = take_deals (answer_in s.pid h (waits j.topic j.sub)) refl

all_deal : (F : Type 0) (s : InForce) (js : List Joined) → Rest F s js
all_deal F s [] lists h ds before st = ends_even F lists s before ds h st
all_deal F s (j ∷ js) lists h ds before st = one_deals F lists s h j js ds before st (all_deal F s js)

-- one delivery of what is in force
pub delivery_deals : (F : Type 0) (lists : List ℕ → Listing) (s : InForce) (h : History) → (F → StateSound s h) → IsLegal h → AllByRecursion (Fits lists h) s.joined → AreApart s.joined → DealsPlayed F lists s [] [] s.joined (delivers 256 s s.joined []) h
delivery_deals F lists s h sound legal waiting apart = all_deal F s s.joined lists h [] [] (record { legal = legal; history = λ f. (sound f).history; entries = λ f. (sound f).joined; done_before = tt; waiting = waiting; apart = apart; not_in = tt })
