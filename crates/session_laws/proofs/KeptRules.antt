-- A message that is answered: what is in force stands as the client has it, and its texts are of no frames.
use Rattle.std.proofs.Common.{◌≡◌, ◌-◌, ℕ, Bool, true, false, cond, nat_le, length, List, [], ◌∷◌, ◌++◌, map, Option, Some, None, Result, Ok, Err, codes, refl, ◌∙◌, ap, inl, inr, arith}
use Rattle.std.specs.List.{AllByRecursion}
use Rattle.std.specs.Str.{bytes_eq}
use Rattle.serde_json.specs.Data.{Data}
use Rattle.presence_base.specs.declared.dots.Dot.{Dot}
use Rattle.presence_base.specs.declared.row.Row.{Row}
use Rattle.phx_message.specs.Making.{closing}
use Rattle.phx_message.specs.declared.making.Status.TheVariants as status_is
use Rattle.phx_message.specs.declared.message.Message.{Message}
use Rattle.phx_message.specs.declared.message.MsgRef.{MsgRef}
use Rattle.presence_journal.specs.History.{History}
use Rattle.presence_metas.specs.Frames.{frame_in}
use Rattle.presence_metas.specs.Listing.{Listing}
use Rattle.presence_metas.specs.Values.{state_of}
use Rattle.presence_metas.specs.declared.frame.FrameFault.TheVariants.{NotPresence}
use Rattle.channel_rules.specs.declared.refusal.Refusal.{Refusal}
use Rattle.tracker_shard.specs.declared.fault.ShardFault.TheVariants as shard_faults_are
use Rattle.channel_rules.specs.declared.refusal.Refusal.TheVariants.{Table}
use Rattle.tracker_shard.specs.declared.shard.Sub.{Sub}
use Rattle.channel_rules.specs.Asked.{asked, key_asked}
use Rattle.channel_rules.specs.Asks.{Ask, track, update, untrack, untrack_all, list, get, subscribe, unsubscribe, shout}
use Rattle.channel_rules.specs.InForce.{Joined, InForce, find}
use Rattle.session_laws.specs.Keeping.{IsAnswer}
use Rattle.presence_stdio.specs.Local.{answer_in, after_in, played}
use Rattle.channel_rules.specs.Rules.{End, answers, full, memory, says, ok, error, empty, told_ref, full_reason, subscribe_reason, track_reason, update_reason, unsaid, said, replied, on_event, on_topic, ended, on_leave, after_subscribe as subscribe_end, subscribes, then_subscribe, join_asked, on_join, left, joins, join_ref_of, answers_join, refuses, is_phoenix, by_route, route_of, kind_of, by_kind, rules, on_track, on_update, on_untrack, on_get, then_next}
use Rattle.channel_rules.specs.Said.{Said, message, listed, plainly}
use Rattle.channel_rules.specs.Script.{Script, done}
use Rattle.channel_rules.specs.declared.asked.Asked.{Asked}
use Rattle.channel_rules.specs.declared.asked.Asked.TheVariants.{Nothing, Bad, Wants}
use Rattle.channel_rules.specs.declared.topics.TheConstants.{MAX_TOPICS}
use Rattle.channel_rules.specs.declared.kind.EventKind.{EventKind}
use Rattle.channel_rules.specs.declared.kind.EventKind.TheVariants as kinds_are
use Rattle.channel_rules.specs.declared.kind.TopicEvent.{TopicEvent}
use Rattle.channel_rules.specs.declared.kind.TopicEvent.TheVariants as events_are
use Rattle.session_laws.proofs.KeptAsks.{Stands, find_all, without_all, all_more, gone, after_track, after_update, after_untrack, after_untrack_all, after_list, after_get, after_shout, after_unsubscribe, after_subscribe, refused_subscribe}
use Rattle.session_laws.proofs.SoundSteps.{JoinedSound, StateSound, AskedSound, asked_sound, heard_ref, heard_join, heard_payload, AskSound, after_in_sound, list_sound, get_sound}
use Rattle.session_laws.proofs.SoundValues.{IsSound, IsFramed, IsHeard, RowsSound, RefSound, less_sound, state_sound, empty_sound, told_sound, reply_framed, error_framed, closing_framed}

-- ---- messages that are no frames of presences

abbrev pub IsNoFrame : Message → Type 0
IsNoFrame m = frame_in m ≡ Err NotPresence

by_event : (m : Message) (event : List ℕ) → m.event ≡ event → bytes_eq event (codes "presence_state") ≡ false → bytes_eq event (codes "presence_diff") ≡ false → IsNoFrame m
unfolding frame_in
by_event m event e f g = rw (e, f, g) refl

-- replies and closes are no frames
pub answer_no_frame : (m : Message) → IsAnswer m → IsNoFrame m
answer_no_frame m (inl e) = by_event m (codes "phx_reply") e refl refl
answer_no_frame m (inr e) = by_event m (codes "phx_close") e refl refl

pub map-more : {A B : Type 0} (f : A → B) (xs ys : List A) → map f (xs ++ ys) ≡ map f xs ++ map f ys
map-more f [] ys = refl
map-more f (x ∷ xs) ys = ap (λ zs. f x ∷ zs) (map-more f xs ys)

pub all_and : {A : Type 0} (P : A → Type 0) (xs ys : List A) → AllByRecursion P xs → AllByRecursion P ys → AllByRecursion P (xs ++ ys)
all_and P [] ys h k = k
all_and P (x ∷ xs) ys h k = (h.0, all_and P xs ys h.1 k)

-- answers are said, within the limits of a frame where F holds
pub record Unheard (F : Type 0) (said : List Said) : Type 0 where
  pub messages : List Message
  pub plain_are : map plainly said ≡ messages
  pub answers_all : AllByRecursion IsAnswer messages
  pub framed : F → AllByRecursion IsFramed messages

ok_unheard : (r : Option MsgRef) (m : Message) (response : Data) → IsAnswer (ok r m response)
ok_unheard r m response = inl refl

error_unheard : (r : Option MsgRef) (m : Message) (reason : List ℕ) → IsAnswer (error r m reason)
error_unheard r m reason = inl refl

closing_unheard : (r : Option MsgRef) (t : List ℕ) → IsAnswer (closing r t)
closing_unheard r t = inr refl

-- ---- ends

-- what is answered leaves what stands, and says nothing of presences
pub record Answered (F : Type 0) (lists : List ℕ → Listing) (said : List Said) (s : InForce) (h : History) : Type 0 where
  pub stands : Stands lists s h
  pub sound : F → StateSound s h
  pub unheard : Unheard F said

abbrev pub Good : Type 0 → (List ℕ → Listing) → End → History → Type 0
Good F lists (answers said s) h = Answered F lists said s h
Good F lists full h = Unit {0}
Good F lists memory h = Unit {0}

-- the script of the session of this number comes to such an end
abbrev pub Comes : Type 0 → (List ℕ → Listing) → ℕ → Script End → History → Type 0
Comes F lists pid script h = Good F lists (played pid script h).0 (played pid script h).1

-- what stands as a message is answered; where F holds, it is sound and the message was decoded
pub record Holds (F : Type 0) (lists : List ℕ → Listing) (s : InForce) (h : History) (m : Message) : Type 0 where
  pub stands : Stands lists s h
  pub sound : F → StateSound s h
  pub heard : F → IsHeard m

module _ (F : Type 0) (lists : List ℕ → Listing) where
  nothing_said : Unheard F []
  nothing_said = record { messages = []; plain_are = refl; answers_all = tt; framed = λ f. tt }

  one_said : (m : Message) → IsAnswer m → (F → IsFramed m) → Unheard F (message m ∷ [])
  one_said m h k = record { messages = m ∷ []; plain_are = refl; answers_all = (h, tt); framed = λ f. (k f, tt) }

  rows_said : (kind : ℕ) (r : Option MsgRef) (m : Message) (rows : List (Dot × Row)) → (F → IsFramed (ok r m (state_of rows))) → Unheard F (listed kind r m rows ∷ [])
  rows_said kind r m rows k = record { messages = ok r m (state_of rows) ∷ []; plain_are = refl; answers_all = (ok_unheard r m (state_of rows), tt); framed = λ f. (k f, tt) }

  unheard_more : (xs ys : List Said) → Unheard F xs → Unheard F ys → Unheard F (xs ++ ys)
  unheard_more xs ys h k = record {
    messages = h.messages ++ k.messages;
    plain_are = map-more plainly xs ys ∙ (λ i. h.plain_are i ++ k.plain_are i);
    answers_all = all_and IsAnswer h.messages k.messages h.answers_all k.answers_all;
    framed = λ f. all_and IsFramed h.messages k.messages (h.framed f) (k.framed f);
  }

  -- a question that leaves what stands
  holds_after : (s : InForce) (h : History) (m : Message) (q : Ask) → Holds F lists s h m → Stands lists s (after_in s.pid h q) → (F → AskSound q) → Holds F lists s (after_in s.pid h q) m
  holds_after s h m q st now k = record {
    stands = now;
    sound = λ f. record { joined = (st.sound f).joined; history = after_in_sound s.pid h q (st.sound f).history (k f) };
    heard = st.heard;
  }

  module _ (s : InForce) (h : History) (r : Option MsgRef) (m : Message) (st : Holds F lists s h m) (ref : F → RefSound r) where
    ok_is : (response : Data) → (F → IsSound 90 response) → F → IsFramed (ok r m response)
    ok_is response k f = reply_framed r m.msg_ref m.topic status_is.Ok response (st.heard f).0.topic (ref f) (heard_ref m (st.heard f)) (k f)

    error_is : (reason : List ℕ) → F → IsFramed (error r m reason)
    error_is reason f = error_framed r m.msg_ref m.topic reason (st.heard f).0.topic (ref f) (heard_ref m (st.heard f))

    closing_is : F → IsFramed (closing r m.topic)
    closing_is f = closing_framed r m.topic (st.heard f).0.topic (ref f)

    empty_is : F → IsFramed (ok r m empty)
    empty_is = ok_is empty (λ f. empty_sound 89)

    told_is : (d : Dot) → F → IsFramed (ok r m (told_ref d))
    told_is d = ok_is (told_ref d) (λ f. less_sound 1 90 (told_ref d) (omega arith) (told_sound d))

    state_is : (rows : List (Dot × Row)) → (F → RowsSound rows) → F → IsFramed (ok r m (state_of rows))
    state_is rows k = ok_is (state_of rows) (λ f. less_sound 36 90 (state_of rows) (omega arith) (state_sound rows (k f)))

  unsaid_good : (h : History) (e : Refusal) → Good F lists (unsaid e) h
  unsaid_good h (Table shard_faults_are.OutOfMemory) = tt
  unsaid_good h _ = tt

  said_good : (h : History) (answer : List ℕ → End) (e : Refusal) → ((t : List ℕ) → Good F lists (answer t) h) → (o : Option (List ℕ)) → Good F lists (said answer e o) h
  said_good h answer e f (Some t) = f t
  said_good h answer e f None = unsaid_good h e

  says_one : (s : InForce) (h : History) (m x : Message) → Holds F lists s h m → IsAnswer x → (F → IsFramed x) → Good F lists (says (x ∷ []) s) h
  says_one s h m x st none k = record { stands = st.stands; sound = st.sound; unheard = one_said x none k }

  replied_good : {A : Type 0} (s : InForce) (h : History) (r : Option MsgRef) (m : Message) (reason : Refusal → Option (List ℕ)) (reply : A → List Said) → Holds F lists s h m → (F → RefSound r)
      → (a : Result A Refusal) → ((x : A) → a ≡ Ok x → Unheard F (reply x)) → Good F lists (replied s r m reason reply a) h
  replied_good s h r m reason reply st ref (Ok x) f = record { stands = st.stands; sound = st.sound; unheard = f x refl }
  replied_good s h r m reason reply st ref (Err e) f = said_good h (λ t. says (error r m t ∷ []) s) e (λ t. says_one s h m (error r m t) st (error_unheard r m t) (error_is s h r m st ref t)) (reason e)

  -- ---- events of a joined topic

  module _ (kind : ℕ) (s : InForce) (h : History) (r : Option MsgRef) (m : Message) (st : Holds F lists s h m) (ref : F → RefSound r) where
    -- what stands after a question
    now : (q : Ask) → Stands lists s (after_in s.pid h q) → (F → AskSound q) → Holds F lists s (after_in s.pid h q) m
    now q after k = holds_after s h m q st after k

    shout_comes : Comes F lists s.pid (on_event kind s r m events_are.Shout) h
    shout_comes =
        replied_good s (after_in s.pid h (shout m.topic m.payload)) r m (full_reason true) (λ u. []) (now (shout m.topic m.payload) (after_shout lists s h st.stands m.topic m.payload) (λ f. heard_payload m (st.heard f))) ref
        (answer_in s.pid h (shout m.topic m.payload)) (λ u e. nothing_said)

    bad_comes : Good F lists (says (error r m (codes "bad payload") ∷ []) s) h
    bad_comes = says_one s h m (error r m (codes "bad payload")) st (error_unheard r m (codes "bad payload")) (error_is s h r m st ref (codes "bad payload"))

    ref_unheard : (d : Dot) → Unheard F (message (ok r m (told_ref d)) ∷ [])
    ref_unheard d = one_said (ok r m (told_ref d)) (ok_unheard r m (told_ref d)) (told_is s h r m st ref d)

    track_comes : (a : Asked) → (F → AskedSound a) → Comes F lists s.pid (on_track s r m a) h
    track_comes Nothing k = bad_comes
    track_comes Bad k = bad_comes
    track_comes (Wants key meta) k =
        replied_good s (after_in s.pid h (track m.topic key meta)) r m (track_reason true) (λ d. message (ok r m (told_ref d)) ∷ []) (now (track m.topic key meta) (after_track lists s h st.stands m.topic key meta) k) ref
        (answer_in s.pid h (track m.topic key meta)) (λ d e. ref_unheard d)

    update_comes : (a : Asked) → (F → AskedSound a) → Comes F lists s.pid (on_update s r m a) h
    update_comes Nothing k = bad_comes
    update_comes Bad k = bad_comes
    update_comes (Wants key meta) k =
        replied_good s (after_in s.pid h (update m.topic key meta)) r m update_reason (λ d. message (ok r m (told_ref d)) ∷ []) (now (update m.topic key meta) (after_update lists s h st.stands m.topic key meta) k) ref
        (answer_in s.pid h (update m.topic key meta)) (λ d e. ref_unheard d)

    untrack_comes : (k : Option (List ℕ)) → Comes F lists s.pid (on_untrack s r m k) h
    untrack_comes None = bad_comes
    untrack_comes (Some key) =
        replied_good s (after_in s.pid h (untrack m.topic key)) r m (full_reason true) (λ u. message (ok r m empty) ∷ []) (now (untrack m.topic key) (after_untrack lists s h st.stands m.topic key) (λ f. tt)) ref
        (answer_in s.pid h (untrack m.topic key)) (λ u e. one_said (ok r m empty) (ok_unheard r m empty) (empty_is s h r m st ref))

    list_comes : Comes F lists s.pid (on_event kind s r m events_are.List) h
    list_comes =
        replied_good s (after_in s.pid h (list m.topic)) r m (full_reason true) (λ rows. listed kind r m rows ∷ []) (now (list m.topic) (after_list lists s h st.stands m.topic) (λ f. tt)) ref
        (answer_in s.pid h (list m.topic))
        (λ rows e. rows_said kind r m rows (state_is s h r m st ref rows (λ f. list_sound s.pid h m.topic rows (st.sound f).history e)))

    get_comes : (k : Option (List ℕ)) → Comes F lists s.pid (on_get kind s r m k) h
    get_comes None = bad_comes
    get_comes (Some key) =
        replied_good s (after_in s.pid h (get m.topic key)) r m (full_reason true) (λ rows. listed kind r m rows ∷ []) (now (get m.topic key) (after_get lists s h st.stands m.topic key) (λ f. tt)) ref
        (answer_in s.pid h (get m.topic key))
        (λ rows e. rows_said kind r m rows (state_is s h r m st ref rows (λ f. get_sound s.pid h m.topic key rows (st.sound f).history e)))

    unknown_comes : Good F lists (says (error r m (codes "unknown event") ∷ []) s) h
    unknown_comes = says_one s h m (error r m (codes "unknown event")) st (error_unheard r m (codes "unknown event")) (error_is s h r m st ref (codes "unknown event"))

    ping_comes : Comes F lists s.pid (on_event kind s r m events_are.Ping) h
    ping_comes = says_one s h m (ok r m m.payload) st (ok_unheard r m m.payload) (ok_is s h r m st ref m.payload (λ f. less_sound 64 90 m.payload (omega arith) (heard_payload m (st.heard f))))

    payload_asked : F → AskedSound (asked m.payload)
    payload_asked f = asked_sound m.payload (heard_payload m (st.heard f)).orderly

    event_comes : (k : TopicEvent) → Comes F lists s.pid (on_event kind s r m k) h
    event_comes events_are.Unknown = unknown_comes
    event_comes events_are.Ping = ping_comes
    event_comes events_are.Shout = shout_comes
    event_comes events_are.Track = track_comes (asked m.payload) payload_asked
    event_comes events_are.Update = update_comes (asked m.payload) payload_asked
    event_comes events_are.Untrack = untrack_comes (key_asked m.payload)
    event_comes events_are.List = list_comes
    event_comes events_are.Get = get_comes (key_asked m.payload)

  -- ---- references

  found_ref : (s : InForce) (h : History) (m : Message) → Holds F lists s h m → (j : Joined) → find m.topic s.joined ≡ Some j → F → RefSound j.join_ref
  found_ref s h m st j is f = (find_all JoinedSound m.topic s.joined j (st.sound f).joined is).1

  own_ref : (s : InForce) (h : History) (m : Message) → Holds F lists s h m → F → RefSound m.join_ref
  own_ref s h m st f = (st.heard f).1.0

  new_ref : (s : InForce) (h : History) (m : Message) → Holds F lists s h m → F → RefSound (join_ref_of m)
  new_ref s h m st f = heard_join m (st.heard f)

  module _ (s : InForce) (h : History) (m : Message) (st : Holds F lists s h m) where
    unmatched_comes : Good F lists (says (error m.join_ref m (codes "unmatched topic") ∷ []) s) h
    unmatched_comes = says_one s h m (error m.join_ref m (codes "unmatched topic")) st (error_unheard m.join_ref m (codes "unmatched topic")) (error_is s h m.join_ref m st (own_ref s h m st) (codes "unmatched topic"))

    topic_comes : (j : Option Joined) → find m.topic s.joined ≡ j → (k : TopicEvent) → Comes F lists s.pid (on_topic s j m k) h
    topic_comes None is k = unmatched_comes
    topic_comes (Some j) is k = event_comes j.kind s h j.join_ref m st (found_ref s h m st j is) k

  -- ---- ends of joins

  next_comes : (pid : ℕ) (next : Script End) (h : History) (a : Result (Unit {0}) Refusal) → Comes F lists pid next h → Comes F lists pid (then_next next a) h
  next_comes pid next h (Ok u) f = f
  next_comes pid next h (Err e) f = unsaid_good h e

  -- both calls, and then what comes next from there
  ended_comes : (s : InForce) (h : History) (m : Message) (j : Joined) (next : Script End) → Holds F lists s h m → find m.topic s.joined ≡ Some j
      → ((g : History) → Holds F lists (left s m.topic) g m → Comes F lists s.pid next g) → Comes F lists s.pid (ended m.topic j.sub next) h
  ended_comes s h m j next st is f =
      next_comes s.pid _ mid (answer_in s.pid h (unsubscribe m.topic j.sub))
      (next_comes s.pid next last (answer_in s.pid mid (untrack_all m.topic))
      (f last (record {
        stands = after_untrack_all lists (left s m.topic) mid (after_unsubscribe lists s h m.topic j st.stands is) m.topic;
        sound = λ c. record {
          joined = without_all JoinedSound m.topic s.joined (st.sound c).joined;
          history = after_in_sound s.pid mid (untrack_all m.topic) (after_in_sound s.pid h (unsubscribe m.topic j.sub) (st.sound c).history tt) tt;
        };
        heard = st.heard;
      })))
    where
      mid : History
      mid = after_in s.pid h (unsubscribe m.topic j.sub)

      last : History
      last = after_in s.pid (after_in s.pid h (unsubscribe m.topic j.sub)) (untrack_all m.topic)

  leave_comes : (s : InForce) (h : History) (m : Message) → Holds F lists s h m → (j : Option Joined) → find m.topic s.joined ≡ j → Comes F lists s.pid (on_leave s j m) h
  leave_comes s h m st None is = says_one s h m (ok m.join_ref m empty) st (ok_unheard m.join_ref m empty) (empty_is s h m.join_ref m st (own_ref s h m st))
  leave_comes s h m st (Some j) is = ended_comes s h m j _ st is (λ g after. record { stands = after.stands; sound = after.sound; unheard = two })
    where
      two : Unheard F (message (ok j.join_ref m empty) ∷ message (closing j.join_ref m.topic) ∷ [])
      two = record {
        messages = ok j.join_ref m empty ∷ closing j.join_ref m.topic ∷ [];
        plain_are = refl;
        answers_all = (ok_unheard j.join_ref m empty, (closing_unheard j.join_ref m.topic, tt));
        framed = λ f. (empty_is s h j.join_ref m st (found_ref s h m st j is) f, (closing_is s h j.join_ref m st (found_ref s h m st j is) f, tt));
      }

  -- ---- joins

  module _ (before : List Said) (quiet : Unheard F before) where
    join_good : (reply : Message) (s : InForce) (h : History) → IsAnswer reply → (F → IsFramed reply) → Stands lists s h → (F → StateSound s h) → Good F lists (answers_join before reply s) h
    join_good reply s h none k st sound = record { stands = st; sound = sound; unheard = unheard_more before (message reply ∷ []) quiet (one_said reply none k) }

    refuses_good : (s : InForce) (h : History) (m : Message) (reason : List ℕ) → Holds F lists s h m → Good F lists (refuses before s m reason) h
    refuses_good s h m reason st = join_good (error (join_ref_of m) m reason) s h (error_unheard (join_ref_of m) m reason) (error_is s h (join_ref_of m) m st (new_ref s h m st) reason) st.stands st.sound

    subscribed_good : (first : Option Bool) (kind : ℕ) (s : InForce) (h : History) (m : Message) (response : Data) → Holds F lists s h m → (F → IsSound 90 response) → find m.topic s.joined ≡ None
        → (a : Result Sub Refusal) → answer_in s.pid h (subscribe m.topic) ≡ a → Good F lists (subscribe_end first before kind s m response a) (after_in s.pid h (subscribe m.topic))
    subscribed_good first kind s h m response st k none (Ok sub) is =
        join_good (ok (join_ref_of m) m response) (joins kind s m sub) (after_in s.pid h (subscribe m.topic)) (ok_unheard (join_ref_of m) m response) (ok_is s h (join_ref_of m) m st (new_ref s h m st) response k)
        (after_subscribe lists kind s h m sub st.stands none is)
        (λ f. record {
          joined = all_more JoinedSound s.joined (record { topic = m.topic; kind = kind; join_ref = join_ref_of m; sub = sub }) (st.sound f).joined ((st.heard f).0.topic, new_ref s h m st f);
          history = after_in_sound s.pid h (subscribe m.topic) (st.sound f).history tt;
        })
    subscribed_good first kind s h m response st k none (Err e) is =
        said_good (after_in s.pid h (subscribe m.topic)) (refuses before s m) e
        (λ t. refuses_good s (after_in s.pid h (subscribe m.topic)) m t (holds_after s h m (subscribe m.topic) st (refused_subscribe lists s h m.topic st.stands) (λ f. tt))) (subscribe_reason first e)

    subscribes_comes : (first : Option Bool) (kind : ℕ) (s : InForce) (h : History) (m : Message) (response : Data) → Holds F lists s h m → (F → IsSound 90 response) → find m.topic s.joined ≡ None → Comes F lists s.pid (subscribes first before kind s m response) h
    subscribes_comes first kind s h m response st k none = subscribed_good first kind s h m response st k none (answer_in s.pid h (subscribe m.topic)) refl

    tracked_comes : (first : Bool) (kind : ℕ) (s : InForce) (h : History) (m : Message) → Holds F lists s h m → find m.topic s.joined ≡ None → (a : Result Dot Refusal) → Comes F lists s.pid (then_subscribe first before kind s m a) h
    tracked_comes first kind s h m st none (Ok d) = subscribes_comes None kind s h m (told_ref d) st (λ f. less_sound 1 90 (told_ref d) (omega arith) (told_sound d)) none
    tracked_comes first kind s h m st none (Err e) = said_good h (refuses before s m) e (λ t. refuses_good s h m t st) (track_reason first e)

    within_comes : (b : Bool) (s : InForce) (h : History) (m : Message) (next : Script End) → Holds F lists s h m → Comes F lists s.pid next h → Comes F lists s.pid (cond b (done (refuses before s m (codes "too many topics"))) next) h
    within_comes true s h m next st f = refuses_good s h m (codes "too many topics") st
    within_comes false s h m next st f = f

    join_comes : (count : ℕ) (first : Bool) (kind : ℕ) (s : InForce) (h : History) (m : Message) → Holds F lists s h m → find m.topic s.joined ≡ None → (a : Asked) → (F → AskedSound a) → Comes F lists s.pid (join_asked count first before kind s m a) h
    join_comes count first kind s h m st none Bad k = refuses_good s h m (codes "bad payload") st
    join_comes count first kind s h m st none Nothing k = within_comes (nat_le MAX_TOPICS count) s h m _ st (subscribes_comes (Some first) kind s h m empty st (λ f. empty_sound 89) none)
    join_comes count first kind s h m st none (Wants key meta) k =
        within_comes (nat_le MAX_TOPICS count) s h m _ st
        (tracked_comes first kind s (after_in s.pid h (track m.topic key meta)) m (holds_after s h m (track m.topic key meta) st (after_track lists s h st.stands m.topic key meta) k) none (answer_in s.pid h (track m.topic key meta)))

  on_join_comes : (count kind : ℕ) (s : InForce) (h : History) (m : Message) → Holds F lists s h m → (j : Option Joined) → find m.topic s.joined ≡ j → (a : Asked) → (F → AskedSound a) → Comes F lists s.pid (on_join count kind s j m a) h
  on_join_comes count kind s h m st None is a k = join_comes [] nothing_said count true kind s h m st is a k
  on_join_comes count kind s h m st (Some j) is a k =
      ended_comes s h m j _ st is
      (λ g after. join_comes (message (closing j.join_ref m.topic) ∷ []) (one_said (closing j.join_ref m.topic) (closing_unheard j.join_ref m.topic) (closing_is s h j.join_ref m st (found_ref s h m st j is))) (count - 1) false kind (left s m.topic) g m after (gone m.topic s.joined st.stands.apart) a k)

  -- ---- the table

  either_comes : (pid : ℕ) (b : Bool) (x y : Script End) (h : History) → Comes F lists pid x h → Comes F lists pid y h → Comes F lists pid (cond b x y) h
  either_comes pid true x y h f g = f
  either_comes pid false x y h f g = g

  no_ref : F → RefSound None
  no_ref f = tt

  route_comes : (count : ℕ) (s : InForce) (h : History) (m : Message) → Holds F lists s h m → (j : Option Joined) → find m.topic s.joined ≡ j → (route : Option ℕ) → Comes F lists s.pid (by_route count s j m route) h
  route_comes count s h m st j is None = unmatched_comes s h m st
  route_comes count s h m st j is (Some kind) = on_join_comes count kind s h m st j is (asked m.payload) (λ f. asked_sound m.payload (heard_payload m (st.heard f)).orderly)

  kind_comes : (phoenix : Bool) (route : Option ℕ) (count : ℕ) (s : InForce) (h : History) (m : Message) → Holds F lists s h m → (j : Option Joined) → find m.topic s.joined ≡ j → (k : EventKind) → Comes F lists s.pid (by_kind phoenix route count s j m k) h
  kind_comes phoenix route count s h m st j is kinds_are.Heartbeat = either_comes s.pid phoenix _ _ h (says_one s h m (ok None m empty) st (ok_unheard None m empty) (empty_is s h None m st no_ref)) (topic_comes s h m st j is events_are.Unknown)
  kind_comes phoenix route count s h m st j is kinds_are.Join = route_comes count s h m st j is route
  kind_comes phoenix route count s h m st j is kinds_are.Leave = leave_comes s h m st j is
  kind_comes phoenix route count s h m st j is (kinds_are.Topic event) = topic_comes s h m st j is event

  -- a message that is answered leaves what stands, and what it says is of no frames
  pub rules_come : (routes : List (List ℕ × ℕ)) (s : InForce) (h : History) (m : Message) → Holds F lists s h m → Comes F lists s.pid (rules routes s m) h
  unfolding rules
  rules_come routes s h m st = kind_comes (is_phoenix m.topic) (route_of (is_phoenix m.topic) routes m.topic) (length s.joined) s h m st (find m.topic s.joined) refl (kind_of m.event)
