-- A session knows each subscriber that it made: behind a text, a delivery and an end.
use Rattle.std.proofs.Common.{◌≡◌, ◌++◌, ℕ, Bool, true, false, not, ◌||◌, List, [], ◌∷◌, Option, Some, None, Result, Ok, Err, refl, sym, ap, ◌∙◌, subst, inl, inr}
use Rattle.std.specs.Prelude.{nat_le, ◌-◌, length, codes, if◌then◌else◌}
use Rattle.std.proofs.lemmas.Bool.{and_parts, or_left, or_right, both_ways}
use Rattle.std.proofs.lemmas.Option.{same_Some}
use Rattle.serde_json.specs.Data.{Data}
use Rattle.presence_base.specs.declared.dots.Dot.{Dot}
use Rattle.presence_base.specs.Order.{same_text}
use Rattle.phx_message.specs.declared.message.MsgRef.{MsgRef}
use Rattle.phx_message.specs.declared.message.Message.{Message}
use Rattle.phx_message.specs.Making.{closing}
use Rattle.presence_journal.specs.History.{History}
use Rattle.tracker_shard.specs.declared.shard.Sub.{Sub}
use Rattle.channel_rules.specs.declared.refusal.Refusal.{Refusal}
use Rattle.channel_rules.specs.declared.refusal.Refusal.TheVariants.{OverRation, NotGranted, Table}
use Rattle.tracker_shard.specs.declared.fault.ShardFault.TheVariants.{AlreadyTracked, NoPresence, ClockFull, JournalFull, NoSub, BadIncarnation, OutOfMemory}
use Rattle.channel_rules.specs.declared.asked.Asked.{Asked}
use Rattle.channel_rules.specs.declared.asked.Asked.TheVariants.{Nothing, Bad, Wants}
use Rattle.channel_rules.specs.declared.kind.EventKind.{EventKind}
use Rattle.channel_rules.specs.declared.kind.EventKind.TheVariants as kinds_are
use Rattle.channel_rules.specs.declared.kind.TopicEvent.{TopicEvent}
use Rattle.channel_rules.specs.declared.kind.TopicEvent.TheVariants as events_are
use Rattle.channel_rules.specs.Asked.{asked, key_asked}
use Rattle.channel_rules.specs.Asks.{Answer, untrack_all, take, waits}
use Rattle.channel_rules.specs.InForce.{Joined, InForce, find, without_topic}
use Rattle.channel_rules.specs.Rules
use Rattle.channel_rules.specs.Rules.{End, answers, full, memory, said, unsaid, full_reason, subscribe_reason, track_reason, update_reason, replied, refuses, subscribes, tracks, join_asked, on_join, on_leave, ended, left, on_event, on_topic, by_kind, rules, join_at, is_phoenix, route_of, kind_of, joins, then_next}
use Rattle.channel_rules.specs.Said.{Said, message, listed}
use Rattle.channel_rules.specs.declared.topics.TheConstants.{MAX_TOPICS}
use Rattle.channel_rules.specs.Script.{Script, done, ask}
use Rattle.channel_rules.specs.Delivering.{delivers, then_take, then_told}
use Rattle.channel_rules.specs.Outcome.{Stopped}
use Rattle.channel_rules.specs.declared.stop.StopKind.{StopKind}
use Rattle.channel_rules.specs.declared.stop.StopKind.TheVariants as kinds
use Rattle.presence_stdio.specs.Local.{LocalStep}
use Rattle.channel_session.specs.Ending.{Ended, Leaving, ends, ends_topics, ends_cut_short, then_topics, then_rows, staying, left_with}
use Rattle.channel_session.specs.Delivery.{failing, CutShort, delivery}
use Rattle.channel_session.specs.Ran.{failed_at, Faulted, Untouched, MessageRan}
use Rattle.session_laws.specs.Subscribed.{same_sub, is_joined, is_known, KnowsItsSubs, TextsKeepSubs, DeliveriesKeepSubs, EndsKeepSubs}
use Rattle.channel_session.specs.declared.fault.SessionFault.{SessionFault}
use Rattle.channel_session.specs.declared.fault.SessionFault.TheVariants as faults
use Rattle.channel_session.specs.declared.fault.SessionFault.TheVariants.{BadMessage, ShardFull, Failed}
use Rattle.session_laws.proofs.Named.{or_either, or_group, or_swap, or_without, and_other}
use Rattle.session_laws.proofs.Standing.{Within, and_sub, but_sub, held_within, if_made, if_ended, ended_within, Leads, script_leads, none_made}

-- ---- the topics in force

joined_more : (x : Sub) (js ks : List Joined) → is_joined x (js ++ ks) ≡ (is_joined x js || is_joined x ks)
joined_more x [] ks = refl
joined_more x (j ∷ js) ks = ap (λ b. same_sub x j.sub || b) (joined_more x js ks) ∙ or_group (same_sub x j.sub) (is_joined x js) (is_joined x ks)

or_wider : (a b c : Bool) → (a || b) ≡ true → (a || (b || c)) ≡ true
or_wider true b c e = refl
or_wider false true c e = refl
or_wider false false c e = absurd (cc)

-- with one join more its subscriber is known
join_knows : (others : Sub → Bool) (s after : InForce) (j : Joined) → after.joined ≡ s.joined ++ j ∷ [] → Within (and_sub j.sub (is_known others s)) (is_known others after)
join_knows others s after j joined x e =
    ap (λ js. others x || is_joined x js) joined
    ∙ ap (λ b. others x || b) (joined_more x s.joined (j ∷ []))
    ∙ or_either (same_sub x j.sub) (is_known others s x) (others x || (is_joined x s.joined || (same_sub x j.sub || false)))
    (λ q. or_right (others x) (is_joined x s.joined || (same_sub x j.sub || false)) (or_right (is_joined x s.joined) (same_sub x j.sub || false) (or_left (same_sub x j.sub) false q)))
    (λ q. or_wider (others x) (is_joined x s.joined) (same_sub x j.sub || false) q) e

-- the joins without that of a topic
stay_joined : (x : Sub) (t : List ℕ) (js : List Joined) (k : Joined) → find t js ≡ Some k → same_sub x k.sub ≡ false → is_joined x js ≡ true → is_joined x (without_topic t js) ≡ true
stay_joined x t [] k found other e = absurd (cc)
stay_joined x t (j ∷ js) k found other e = go (same_text t j.topic) found (λ f. stay_joined x t js k f other) e
  where
    go : (b : Bool) → (if b then Some j else find t js) ≡ Some k → (find t js ≡ Some k → is_joined x js ≡ true → is_joined x (without_topic t js) ≡ true) → (same_sub x j.sub || is_joined x js) ≡ true → is_joined x (if b then js else j ∷ without_topic t js) ≡ true
    go true f later e = or_either (same_sub x j.sub) (is_joined x js) (is_joined x js) (λ q. absurd (both_ways (same_sub x j.sub) (ap (λ (y : Joined). same_sub x y.sub) (same_Some j k f) ∙ other) q)) (λ q. q) e
    go false f later e = or_either (same_sub x j.sub) (is_joined x js) (same_sub x j.sub || is_joined x (without_topic t js)) (λ q. or_left (same_sub x j.sub) (is_joined x (without_topic t js)) q) (λ q. or_right (same_sub x j.sub) (is_joined x (without_topic t js)) (later f q)) e

left_knows : (others : Sub → Bool) (s : InForce) (t : List ℕ) (k : Joined) → find t s.joined ≡ Some k → Within (but_sub k.sub (is_known others s)) (is_known others (left s t))
left_knows others s t k found x w =
    or_either (others x) (is_joined x s.joined) (others x || is_joined x (without_topic t s.joined))
    (λ q. or_left (others x) (is_joined x (without_topic t s.joined)) q)
    (λ q. or_right (others x) (is_joined x (without_topic t s.joined)) (stay_joined x t s.joined k found (and_other (is_known others s x) (same_sub x k.sub) w) q))
    (and_parts (is_known others s x) (not (same_sub x k.sub)) w).0

-- ---- the rules

-- At the end of a text's calls the session knows those that may stand; where the port refused for good, as it was before.
abbrev TextEnds : (Sub → Bool) → InForce → (Sub → Bool) → End → Type 0
TextEnds others o g (answers said after) = Within g (is_known others after)
TextEnds others o g full = Within g (is_known others o)
TextEnds others o g memory = Unit {0}

module _ (others : Sub → Bool) (o : InForce) (m : Message) where
  abbrev L : (Sub → Bool) → Script End → Type 0
  L g x = Leads (TextEnds others o) g x

  abbrev Knows : (Sub → Bool) → InForce → Type 0
  Knows g s = Within g (is_known others s)

  unsaid_ends : (g : Sub → Bool) → Knows g o → (e : Refusal) → TextEnds others o g (unsaid e)
  unsaid_ends g v (Table AlreadyTracked) = v
  unsaid_ends g v (Table NoPresence) = v
  unsaid_ends g v (Table ClockFull) = v
  unsaid_ends g v (Table JournalFull) = v
  unsaid_ends g v (Table NoSub) = v
  unsaid_ends g v (Table BadIncarnation) = v
  unsaid_ends g v (Table OutOfMemory) = tt
  unsaid_ends g v OverRation = v
  unsaid_ends g v NotGranted = v

  said_ends : (g : Sub → Bool) (answer : List ℕ → End) → ((reason : List ℕ) → TextEnds others o g (answer reason)) → Knows g o → (e : Refusal) (r : Option (List ℕ)) → TextEnds others o g (said answer e r)
  said_ends g answer h v e (Some r) = h r
  said_ends g answer h v e None = unsaid_ends g v e

  replied_ends : {A : Type 0} (g : Sub → Bool) → Knows g o → (r : Option MsgRef) (reason : Refusal → Option (List ℕ)) (reply : A → List Said) (a : Result A Refusal) → TextEnds others o g (replied o r m reason reply a)
  replied_ends g v r reason reply (Ok x) = v
  replied_ends g v r reason reply (Err e) = said_ends g _ (λ t. v) v e (reason e)

  -- ---- events

  module _ (g : Sub → Bool) (v : Knows g o) where
    event_leads : (kind : ℕ) (r : Option MsgRef) (event : TopicEvent) → L g (on_event kind o r m event)
    event_leads kind r events_are.Ping = v
    event_leads kind r events_are.Shout = λ a. replied_ends g v r (full_reason true) (λ u. []) a
    event_leads kind r events_are.Track = go (asked m.payload)
      where
        go : (a : Asked) → L g (Rules.on_track o r m a)
        go (Wants key meta) = λ a. replied_ends g v r (track_reason true) (λ (d : Dot). message (Rules.ok r m (Rules.told_ref d)) ∷ []) a
        go Nothing = v
        go Bad = v
    event_leads kind r events_are.Update = go (asked m.payload)
      where
        go : (a : Asked) → L g (Rules.on_update o r m a)
        go (Wants key meta) = λ a. replied_ends g v r update_reason (λ (d : Dot). message (Rules.ok r m (Rules.told_ref d)) ∷ []) a
        go Nothing = v
        go Bad = v
    event_leads kind r events_are.Untrack = go (key_asked m.payload)
      where
        go : (k : Option (List ℕ)) → L g (Rules.on_untrack o r m k)
        go (Some key) = λ a. replied_ends g v r (full_reason true) (λ u. message (Rules.ok r m Rules.empty) ∷ []) a
        go None = v
    event_leads kind r events_are.List = λ a. replied_ends g v r (full_reason true) (λ rows. listed kind r m rows ∷ []) a
    event_leads kind r events_are.Get = go (key_asked m.payload)
      where
        go : (k : Option (List ℕ)) → L g (Rules.on_get kind o r m k)
        go (Some key) = λ a. replied_ends g v r (full_reason true) (λ rows. listed kind r m rows ∷ []) a
        go None = v
    event_leads kind r events_are.Unknown = v

  -- ---- joins

  module _ (s : InForce) (before : List Said) (kind : ℕ) (g : Sub → Bool) (w : Knows g s) (v : Knows g o) where
    joined_knows : (sub : Sub) → Knows (and_sub sub g) (joins kind s m sub)
    joined_knows sub x e =
        join_knows others s (joins kind s m sub) (record { topic = m.topic; kind = kind; join_ref = Rules.join_ref_of m; sub = sub }) refl x
        (or_either (same_sub x sub) (g x) (same_sub x sub || is_known others s x) (λ q. or_left (same_sub x sub) (is_known others s x) q) (λ q. or_right (same_sub x sub) (is_known others s x) (w x q)) e)

    subscribe_leads : (first : Option Bool) (response : Data) → L g (subscribes first before kind s m response)
    subscribe_leads first response = λ a. go a
      where
        go : (a : Result Sub Refusal) → TextEnds others o (if_made g a) (Rules.after_subscribe first before kind s m response a)
        go (Ok sub) = joined_knows sub
        go (Err e) = said_ends g (refuses before s m) (λ reason. w) v e (subscribe_reason first e)

    track_leads : (first : Bool) (key : List ℕ) (meta : Data) → L g (tracks first before kind s m key meta)
    track_leads first key meta = λ a. go a
      where
        go : (a : Result Dot Refusal) → L g (Rules.then_subscribe first before kind s m a)
        go (Ok d) = subscribe_leads None (Rules.told_ref d)
        go (Err e) = said_ends g (refuses before s m) (λ reason. w) v e (track_reason first e)

    either_leads : (b : Bool) (x y : Script End) → L g x → L g y → L g (if b then x else y)
    either_leads true x y p q = p
    either_leads false x y p q = q

    asked_leads : (count : ℕ) (first : Bool) (a : Asked) → L g (join_asked count first before kind s m a)
    asked_leads count first Bad = w
    asked_leads count first Nothing =
        either_leads (nat_le MAX_TOPICS count) (done (refuses before s m (codes "too many topics"))) (subscribes (Some first) before kind s m Rules.empty) w (subscribe_leads (Some first) Rules.empty)
    asked_leads count first (Wants key meta) =
        either_leads (nat_le MAX_TOPICS count) (done (refuses before s m (codes "too many topics"))) (tracks first before kind s m key meta) w (track_leads first key meta)

  -- ---- ends of joins

  ended_leads : (g : Sub → Bool) (sub : Sub) (next : Script End) → L (but_sub sub g) next → Knows g o → L g (ended m.topic sub next)
  ended_leads g sub next l v = λ a. first a
    where
      second : (a : Result (Unit {0}) Refusal) → L (but_sub sub g) (then_next next a)
      second (Ok u) = l
      second (Err e) = unsaid_ends (but_sub sub g) (λ x q. v x (and_parts (g x) (not (same_sub x sub)) q).0) e

      first : (a : Result (Unit {0}) Refusal) → L (if_ended g sub a) (then_next (ask (untrack_all m.topic) (then_next next)) a)
      first (Ok u) = λ a. second a
      first (Err e) = unsaid_ends (if_ended g sub (Err e)) (λ x q. v x (ended_within g sub (Err e) x q)) e

  -- ---- the whole table

  abbrev known : Sub → Bool
  known = is_known others o

  same_known : Knows known o
  same_known x e = e

  abbrev IsFound : Option Joined → Type 0
  IsFound j = (k : Joined) → j ≡ Some k → find m.topic o.joined ≡ Some k

  leave_leads : (j : Option Joined) → IsFound j → L known (on_leave o j m)
  leave_leads (Some j) found = ended_leads known j.sub _ (left_knows others o m.topic j (found j refl)) same_known
  leave_leads None found = same_known

  join_leads : (count kind : ℕ) (j : Option Joined) → IsFound j → (a : Asked) → L known (on_join count kind o j m a)
  join_leads count kind None found a = asked_leads o [] kind known same_known same_known count true a
  join_leads count kind (Some j) found a =
      ended_leads known j.sub _
      (asked_leads (left o m.topic) (message (closing j.join_ref m.topic) ∷ []) kind (but_sub j.sub known) (left_knows others o m.topic j (found j refl)) (λ x q. (and_parts (known x) (not (same_sub x j.sub)) q).0) (count - 1) false a)
      same_known

  topic_leads : (j : Option Joined) (event : TopicEvent) → L known (on_topic o j m event)
  topic_leads (Some j) event = event_leads known same_known j.kind j.join_ref event
  topic_leads None event = same_known

  kind_leads : (phoenix : Bool) (route : Option ℕ) (count : ℕ) (j : Option Joined) → IsFound j → (kind : EventKind) → L known (by_kind phoenix route count o j m kind)
  kind_leads true route count j found kinds_are.Heartbeat = same_known
  kind_leads false route count j found kinds_are.Heartbeat = topic_leads j events_are.Unknown
  kind_leads phoenix None count j found kinds_are.Join = same_known
  kind_leads phoenix (Some kind) count j found kinds_are.Join = join_leads count kind j found (asked m.payload)
  kind_leads phoenix route count j found kinds_are.Leave = leave_leads j found
  kind_leads phoenix route count j found (kinds_are.Topic event) = topic_leads j event

  rules_lead : (routes : List (List ℕ × ℕ)) → L known (rules routes o m)
  unfolding rules
  rules_lead routes = kind_leads (is_phoenix m.topic) (route_of (is_phoenix m.topic) routes m.topic) (length o.joined) (join_at o m) (λ k e. e) (kind_of m.event)

-- ---- texts

-- where nothing was done
untouched : (others : Sub → Bool) (s after : InForce) (old new : History) → KnowsItsSubs others s old → Untouched s old new after → KnowsItsSubs others after new
untouched others s after old new n u = subst (λ x. KnowsItsSubs others x new) (sym u.session) (subst (KnowsItsSubs others s) (sym u.port) n)

module _ (others : Sub → Bool) (routes : List (List ℕ × ℕ)) (s after : InForce) (old new : History) (n : KnowsItsSubs others s old) where
  answered : (m : Message) (texts : List Said) → MessageRan (LocalStep s.pid) routes s m old new after (Ok texts) → KnowsItsSubs others after new
  answered m texts ran =
      let led = script_leads s.pid (TextEnds others s) (rules routes s m) (is_known others s) old new (answers texts after) (rules_lead others s m routes) n ran.0.made ran.0.calls ran.0.ends in
      held_within led.subs (is_known others after) new led.ends led.held

  faulted : (m : Message) (fault : SessionFault) → Faulted (LocalStep s.pid) (rules routes s m) m.topic s old new after fault → KnowsItsSubs others after new
  faulted m fault f = left_by f.stop.spoiled f.left
    where
      stopped : (kind : StopKind) → Stopped kind (rules routes s m) f.calls.made → KnowsItsSubs others s new
      stopped kinds.OutOfMemory b = none_made s.pid (is_known others s) old new n f.calls.made b.1 f.calls.calls
      stopped kinds.ShardFull p =
          let led = script_leads s.pid (TextEnds others s) (rules routes s m) (is_known others s) old new full (rules_lead others s m routes) n f.calls.made f.calls.calls p in
          held_within led.subs (is_known others s) new led.ends led.held

      left_by : (b : Bool) → after ≡ (if b then failed_at s m.topic else s) → KnowsItsSubs others after new
      left_by true is = subst (λ x. KnowsItsSubs others x new) (sym is) (stopped f.stop.kind f.calls.ends.0)
      left_by false is = subst (λ x. KnowsItsSubs others x new) (sym is) (stopped f.stop.kind f.calls.ends.0)

pub texts_keep_subs : TextsKeepSubs
texts_keep_subs others routes s after reading old new (Ok texts) n e = answered others routes s after old new n e.1.message texts e.1.ran
texts_keep_subs others routes s after reading old new (Err Failed) n e = untouched others s after old new n e.1
texts_keep_subs others routes s after reading old new (Err (BadMessage f)) n e = untouched others s after old new n e.2
texts_keep_subs others routes s after reading old new (Err ShardFull) n e = faulted others routes s after old new n e.1.message ShardFull e.1.ran
texts_keep_subs others routes s after reading old new (Err faults.OutOfMemory) n (works, inl u) = untouched others s after old new n u
texts_keep_subs others routes s after reading old new (Err faults.OutOfMemory) n (works, inr r) = faulted others routes s after old new n r.message faults.OutOfMemory r.ran

-- ---- deliveries

-- no call of a delivery makes a subscriber
abbrev DeliveryEnds : (Sub → Bool) → (Sub → Bool) → End → Type 0
DeliveryEnds f g e = Within g f

module _ (s : InForce) (f : Sub → Bool) where
  abbrev D : Script End → Type 0
  D x = Leads (DeliveryEnds f) f x

  delivers_lead : (max : ℕ) (js : List Joined) (before : List Said) → D (delivers max s js before)
  delivers_lead max [] before = λ x e. e
  delivers_lead max (j ∷ js) before = λ a. go (λ b. delivers_lead max js b) a
    where
      took : ((b : List Said) → D (delivers max s js b)) → (a : Answer (take j.topic j.sub max)) → D (then_told j before (delivers max s js) a)
      took next (Ok items) = next _
      took next (Err e) = λ x q. q

      go : ((b : List Said) → D (delivers max s js b)) → (a : Answer (waits j.topic j.sub)) → D (then_take max j before (delivers max s js) a)
      go next (Ok true) = λ a. took next a
      go next (Ok false) = next before
      go next (Err e) = λ x q. q

module _ (others : Sub → Bool) (max : ℕ) (s : InForce) (old new : History) (n : KnowsItsSubs others s old) where
  cut_knows : (after : InForce) (fault : SessionFault) → CutShort (LocalStep s.pid) (delivery max s) s old new after fault → KnowsItsSubs others after new
  cut_knows after fault f = left_by f.stop.spoiled f.left
    where
      stopped : (kind : StopKind) → Stopped kind (delivery max s) f.calls.made → KnowsItsSubs others s new
      stopped kinds.OutOfMemory b = none_made s.pid (is_known others s) old new n f.calls.made b.1 f.calls.calls
      stopped kinds.ShardFull p =
          let led = script_leads s.pid (DeliveryEnds (is_known others s)) (delivery max s) (is_known others s) old new full (delivers_lead s (is_known others s) max s.joined []) n f.calls.made f.calls.calls p in
          held_within led.subs (is_known others s) new led.ends led.held

      left_by : (b : Bool) → after ≡ (if b then failing s else s) → KnowsItsSubs others after new
      left_by true is = subst (λ x. KnowsItsSubs others x new) (sym is) (stopped f.stop.kind f.calls.ends.0)
      left_by false is = subst (λ x. KnowsItsSubs others x new) (sym is) (stopped f.stop.kind f.calls.ends.0)

pub deliveries_keep_subs : DeliveriesKeepSubs
deliveries_keep_subs others max s after old new (Ok texts) n d =
    let led = script_leads s.pid (DeliveryEnds (is_known others s)) (delivery max s) (is_known others s) old new (answers texts s) (delivers_lead s (is_known others s) max s.joined []) n d.0.made d.0.calls d.0.ends in
    subst (λ x. KnowsItsSubs others x new) (sym d.1) (held_within led.subs (is_known others s) new led.ends led.held)
deliveries_keep_subs others max s after old new (Err fault) n d = cut_knows others max s old new n after fault d

-- ---- ends

-- at the end of an end's calls the session that is left knows those that may stand
abbrev EndEnds : (Sub → Bool) → (Sub → Bool) → Ended → Type 0
EndEnds others g e = Within g (is_known others e.after)

module _ (others : Sub → Bool) where
  abbrev X : (Sub → Bool) → Script Ended → Type 0
  X g x = Leads (EndEnds others) g x

  -- what comes of topics that stay knows their subscribers, and these besides
  abbrev Holds : (Sub → Bool) → Leaving → Type 0
  Holds base leaving = (ks : List Joined) (a : Result (Unit {0}) Refusal) → EndEnds others (λ x. base x || is_joined x ks) (leaving ks a)

  holds_behind : (base : Sub → Bool) (leaving : Leaving) (j : Joined) (e : Refusal) → Holds base leaving → Holds (λ x. same_sub x j.sub || base x) (λ ks a. leaving (j ∷ ks) (Err e))
  holds_behind base leaving j e n ks a = λ x w. n (j ∷ ks) (Err e) x (or_swap (same_sub x j.sub) (base x) (is_joined x ks) ∙ w)

  abbrev Later : List Joined → Type 0
  Later js = (leaves : Leaving) (g b : Sub → Bool) → Holds b leaves → Within g (λ x. b x || is_joined x js) → X g (ends_topics leaves js)

  ends_lead : (js : List Joined) (leaving : Leaving) (g base : Sub → Bool) → Holds base leaving → Within g (λ x. base x || is_joined x js) → X g (ends_topics leaving js)
  ends_lead [] leaving g base n w = λ x e. n [] (Ok tt) x (w x e)
  ends_lead (j ∷ js) leaving g base n w = λ a. first (λ leaves f b holds within. ends_lead js leaves f b holds within) a
    where
      refused : Later js → (f : Sub → Bool) → Within f g → (e : Refusal) → X f (ends_topics (λ ks a. leaving (j ∷ ks) (Err e)) js)
      refused later f v e =
          later (λ ks a. leaving (j ∷ ks) (Err e)) f (λ x. same_sub x j.sub || base x) (holds_behind base leaving j e n)
          (λ x q. sym (or_swap (same_sub x j.sub) (base x) (is_joined x js)) ∙ w x (v x q))

      second : Later js → (a : Result (Unit {0}) Refusal) → X (but_sub j.sub g) (ends_topics (staying j a leaving) js)
      second later (Ok u) = later leaving (but_sub j.sub g) base n (λ x q. or_without (base x) (same_sub x j.sub) (is_joined x js) (and_other (g x) (same_sub x j.sub) q) (w x (and_parts (g x) (not (same_sub x j.sub)) q).0))
      second later (Err e) = refused later (but_sub j.sub g) (λ x q. (and_parts (g x) (not (same_sub x j.sub)) q).0) e

      first : Later js → (a : Result (Unit {0}) Refusal) → X (if_ended g j.sub a) (then_rows j.topic (λ r. ends_topics (staying j r leaving) js) a)
      first later (Ok u) = λ a. second later a
      first later (Err (Table NoSub)) = λ a. second later a
      first later (Err (Table AlreadyTracked)) = refused later g (λ x q. q) (Table AlreadyTracked)
      first later (Err (Table NoPresence)) = refused later g (λ x q. q) (Table NoPresence)
      first later (Err (Table ClockFull)) = refused later g (λ x q. q) (Table ClockFull)
      first later (Err (Table JournalFull)) = refused later g (λ x q. q) (Table JournalFull)
      first later (Err (Table BadIncarnation)) = refused later g (λ x q. q) (Table BadIncarnation)
      first later (Err (Table OutOfMemory)) = refused later g (λ x q. q) (Table OutOfMemory)
      first later (Err OverRation) = refused later g (λ x q. q) OverRation
      first later (Err NotGranted) = refused later g (λ x q. q) NotGranted

module _ (others : Sub → Bool) (s : InForce) where
  whole_leads : (t : Option (List ℕ)) → X others (is_known others s) (ends_cut_short s t)
  whole_leads None = ends_lead others s.joined (left_with s None) (is_known others s) others (λ ks a x w. w) (λ x q. q)
  whole_leads (Some t) = λ a. go a
    where
      go : (a : Result (Unit {0}) Refusal) → X others (is_known others s) (then_topics s t a)
      go (Ok u) = ends_lead others s.joined (left_with s None) (is_known others s) others (λ ks a x w. w) (λ x q. q)
      go (Err e) = ends_lead others s.joined (λ ks a. left_with s (Some t) ks (Err e)) (is_known others s) others (λ ks a x w. w) (λ x q. q)

pub ends_keep_subs : EndsKeepSubs
ends_keep_subs others s after old new result n e =
    let led = script_leads s.pid (EndEnds others) (ends s) (is_known others s) old new (record { after = after; answer = e.answer }) (whole_leads others s s.cut_short) n e.played.made e.played.calls e.played.plays in
    held_within led.subs (is_known others after) new led.ends led.held
