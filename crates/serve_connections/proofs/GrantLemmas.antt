-- What was done over a port that asks what is granted was done over the port inside.
use Rattle.std.proofs.Common.{◌≡◌, ℕ, List, [], ◌∷◌, Option, Some, None, Result, Ok, Err, inl, inr, refl, ap, ◌∙◌}
use Rattle.std.specs.Prelude.{String, Vec}
use Rattle.std.specs.Global.{Global}
use Rattle.phx_message.specs.declared.message.Message.{Message}
use Rattle.phx_message.specs.declared.message.MessageFault.{MessageFault}
use Rattle.channel_rules.specs.Asks.{Ask, Answer, Call, Made, track, update, untrack, untrack_all, list, get, subscribe, take, unsubscribe, waits, shout}
use Rattle.channel_rules.specs.Outcome.{Follows}
use Rattle.channel_rules.specs.Rules.{End}
use Rattle.channel_rules.specs.Script.{Script}
use Rattle.channel_rules.specs.Said.{Said}
use Rattle.channel_session.specs.Delivery.{InForce}
use Rattle.channel_session.specs.Ran.{MessageRan, ReadAs, EndedSo, RanBy, said_by}
use Rattle.channel_session.specs.declared.fault.SessionFault.{SessionFault}
use Rattle.channel_session.specs.declared.fault.SessionFault.TheVariants.{BadMessage, OutOfMemory, ShardFull, Failed}
use Rattle.channel_pieces.specs.Piecewise.{Piecewise}
use Rattle.channel_pieces.specs.declared.telling.UntoldState.{UntoldState}
use Rattle.serve_connections.specs.Granted.{AsksGranted}
use Rattle.serve_connections.specs.declared.granting.GrantedPort.{GrantedPort}
use Rattle.serve_connections.proofs.PieceLemmas.{ended_along, ended_keeps}

-- ---- calls that keep a fact of their port

module _ {A : Type 0} (R : A → (q : Ask) → Answer q → A → Type 0) (I : A → Type 0)
    (stays : (a : A) (q : Ask) (x : Answer q) (b : A) → I a → R a q x b → I b) where
  abbrev pub Within : A → (q : Ask) → Answer q → A → Type 0
  Within a q x b = I a × R a q x b

  made_within : (cs : List Call) (a b : A) → I a → Made R a cs b → Made Within a cs b
  made_within [] a b i h = h
  made_within (c ∷ cs) a b i h = (h.0, (i, h.1), made_within cs h.0 b (stays a c.ask c.answer h.0 i h.1) h.2)

  follows_within : (script : Script End) (a b : A) (r : _) → I a → Follows R script a b r → Follows Within script a b r
  follows_within script a b r i h = record { made = h.made; calls = made_within h.made a b i h.calls; ends = h.ends }

  module _ (routes : List (List ℕ × ℕ)) (s : InForce) where
    message_within : (m : Message) (a b : A) (after : InForce) (r : Result (List Said) SessionFault) → I a → MessageRan R routes s m a b after r → MessageRan Within routes s m a b after r
    message_within m a b after (Ok said) i h = (follows_within _ a b _ i h.0, h.1)
    message_within m a b after (Err fault) i h = record { stop = h.stop; fault_is = h.fault_is; calls = follows_within _ a b _ i h.calls; left = h.left }

    read_within : (reading : Result Message MessageFault) (a b : A) (after : InForce) (r : Result (List Said) SessionFault) → I a → ReadAs R routes s reading a b after r → ReadAs Within routes s reading a b after r
    read_within reading a b after r i h = record { message = h.message; read = h.read; ran = message_within h.message a b after r i h.ran }

    pub ended_within : (reading : Result Message MessageFault) (a b : A) (after : InForce) (r : Result (List Said) SessionFault) → I a → EndedSo R routes s reading a b after r → EndedSo Within routes s reading a b after r
    ended_within reading a b after (Ok said) i (e, h) = (e, read_within reading a b after (Ok said) i h)
    ended_within reading a b after (Err Failed) i h = h
    ended_within reading a b after (Err (BadMessage x)) i h = h
    ended_within reading a b after (Err ShardFull) i (e, h) = (e, read_within reading a b after (Err ShardFull) i h)
    ended_within reading a b after (Err OutOfMemory) i (e, inl h) = (e, inl h)
    ended_within reading a b after (Err OutOfMemory) i (e, inr h) = (e, inr (read_within reading a b after (Err OutOfMemory) i h))

-- ---- a port in pieces, round one whose calls are those of another

module _ {A B : Type 0} (R : A → (q : Ask) → Answer q → A → Type 0) (S : B → (q : Ask) → Answer q → B → Type 0) (f : A → B)
    (I : A → Type 0) (along : (a : A) (q : Ask) (x : Answer q) (b : A) → I a → R a q x b → S (f a) q x (f b)) where
  abbrev pub inside : A × Option UntoldState → B × Option UntoldState
  inside p = (f p.0, p.1)

  takes_along : (u v : Option UntoldState) (t : List ℕ) (sub : _) (max : ℕ) (a b : A) (x : Answer (take t sub max)) → I a
      → Piecewise R (a, u) (take t sub max) x (b, v) → Piecewise S (f a, u) (take t sub max) x (f b, v)
  takes_along None v t sub max a b x i (inl h) = inl (h.0, along a (take t sub max) h.0 b i h.1, h.2)
  takes_along None v t sub max a b x i (inr h) = inr (h.0, ap f h.1, h.2)
  takes_along (Some u) v t sub max a b x i h = (ap f h.0, h.1)

  waits_along : (u v : Option UntoldState) (t : List ℕ) (sub : _) (a b : A) (x : Answer (waits t sub)) → I a
      → Piecewise R (a, u) (waits t sub) x (b, v) → Piecewise S (f a, u) (waits t sub) x (f b, v)
  waits_along None v t sub a b x i h = (along a (waits t sub) x b i h.0, h.1)
  waits_along (Some u) v t sub a b x i h = ((h.0.0, ap f h.0.1), h.1)

  pub pieces_along : (p : A × Option UntoldState) (q : Ask) (x : Answer q) (r : A × Option UntoldState) → I p.0 → Piecewise R p q x r → Piecewise S (inside p) q x (inside r)
  pieces_along p (track t k m) x r i h = (along p.0 (track t k m) x r.0 i h.0, h.1)
  pieces_along p (update t k m) x r i h = (along p.0 (update t k m) x r.0 i h.0, h.1)
  pieces_along p (untrack t k) x r i h = (along p.0 (untrack t k) x r.0 i h.0, h.1)
  pieces_along p (untrack_all t) x r i h = (along p.0 (untrack_all t) x r.0 i h.0, h.1)
  pieces_along p (list t) x r i h = (h.0, along p.0 (list t) h.0 r.0 i h.1, h.2, h.3)
  pieces_along p (get t k) x r i h = (h.0, along p.0 (get t k) h.0 r.0 i h.1, h.2, h.3)
  pieces_along p (subscribe t) x r i h = (along p.0 (subscribe t) x r.0 i h.0, h.1)
  pieces_along p (take t sub max) x r i h = takes_along p.1 r.1 t sub max p.0 r.0 x i h
  pieces_along p (unsubscribe t sub) x r i h = (along p.0 (unsubscribe t sub) x r.0 i h.0, h.1)
  pieces_along p (waits t sub) x r i h = waits_along p.1 r.1 t sub p.0 r.0 x i h
  pieces_along p (shout t m) x r i h = (along p.0 (shout t m) x r.0 i h.0, h.1)

module _ {A N : Type 0} (R : A → (q : Ask) → Answer q → A → Type 0) (k : A → N)
    (keeps : (a : A) (q : Ask) (x : Answer q) (b : A) → R a q x b → k b ≡ k a) where
  takes_keep : (u v : Option UntoldState) (t : List ℕ) (sub : _) (max : ℕ) (a b : A) (x : Answer (take t sub max)) → Piecewise R (a, u) (take t sub max) x (b, v) → k b ≡ k a
  takes_keep None v t sub max a b x (inl h) = keeps a (take t sub max) h.0 b h.1
  takes_keep None v t sub max a b x (inr h) = ap k h.1
  takes_keep (Some u) v t sub max a b x h = ap k h.0

  waits_keep : (u v : Option UntoldState) (t : List ℕ) (sub : _) (a b : A) (x : Answer (waits t sub)) → Piecewise R (a, u) (waits t sub) x (b, v) → k b ≡ k a
  waits_keep None v t sub a b x h = keeps a (waits t sub) x b h.0
  waits_keep (Some u) v t sub a b x h = ap k h.0.1

  pub pieces_keep : (p : A × Option UntoldState) (q : Ask) (x : Answer q) (r : A × Option UntoldState) → Piecewise R p q x r → k r.0 ≡ k p.0
  pieces_keep p (track t m n) x r h = keeps p.0 (track t m n) x r.0 h.0
  pieces_keep p (update t m n) x r h = keeps p.0 (update t m n) x r.0 h.0
  pieces_keep p (untrack t m) x r h = keeps p.0 (untrack t m) x r.0 h.0
  pieces_keep p (untrack_all t) x r h = keeps p.0 (untrack_all t) x r.0 h.0
  pieces_keep p (list t) x r h = keeps p.0 (list t) h.0 r.0 h.1
  pieces_keep p (get t m) x r h = keeps p.0 (get t m) h.0 r.0 h.1
  pieces_keep p (subscribe t) x r h = keeps p.0 (subscribe t) x r.0 h.0
  pieces_keep p (take t sub max) x r h = takes_keep p.1 r.1 t sub max p.0 r.0 x h
  pieces_keep p (unsubscribe t sub) x r h = keeps p.0 (unsubscribe t sub) x r.0 h.0
  pieces_keep p (waits t sub) x r h = waits_keep p.1 r.1 t sub p.0 r.0 x h
  pieces_keep p (shout t m) x r h = keeps p.0 (shout t m) x r.0 h.0

-- ---- the port that asks what is granted

module _ {P : Type 0} (step : P → (q : Ask) → Answer q → P → Type 0) where
  abbrev pub AsksSo : GrantedPort P → (q : Ask) → Answer q → GrantedPort P → Type 0
  AsksSo old q x new =
      (new.port.ghost_name ≡ old.port.ghost_name) × (new.grant ≡ old.grant) × (new.second ≡ old.second) × AsksGranted old.grant.now old.second step old.port.now q x new.port.now

  module _ (routes : List (List ℕ × ℕ)) (s : InForce) (reading : Result Message MessageFault) (W : Said → Message → Type 0)
      (a b : GrantedPort P × Option UntoldState) (after : InForce) (result : Result (Vec (String Global) Global) SessionFault) (ran : RanBy W (Piecewise AsksSo) routes s reading a b after result) where
    -- it is round the same port
    pub same_inside : b.0.port.ghost_name ≡ a.0.port.ghost_name
    same_inside =
        ended_keeps (Piecewise AsksSo) (λ (p : GrantedPort P × Option UntoldState). p.0.port.ghost_name) (pieces_keep AsksSo (λ (g : GrantedPort P). g.port.ghost_name) (λ g q x h i. i.0)) routes s reading a b after (said_by ran.said result) ran.ended

    abbrev Is : GrantedPort P → Type 0
    Is g = (g.grant ≡ a.0.grant) × (g.second ≡ a.0.second)

    is_kept : (p : GrantedPort P × Option UntoldState) (q : Ask) (x : Answer q) (r : GrantedPort P × Option UntoldState) → Is p.0 → Piecewise AsksSo p q x r → Is r.0
    is_kept p q x r i h = (
      pieces_keep AsksSo (λ (g : GrantedPort P). g.grant) (λ g q x h i. i.1) p q x r h ∙ i.0,
      pieces_keep AsksSo (λ (g : GrantedPort P). g.second) (λ g q x h i. i.2) p q x r h ∙ i.1,
    )

    asked_along : (g : GrantedPort P) (q : Ask) (x : Answer q) (h : GrantedPort P) → Is g → AsksSo g q x h → AsksGranted a.0.grant.now a.0.second step g.port.now q x h.port.now
    asked_along g q x h i asks = rw (i.0, i.1) at asks.3

    -- what was asked is granted
    pub ran_inside : RanBy W (Piecewise (AsksGranted a.0.grant.now a.0.second step)) routes s reading (a.0.port.now, a.1) (b.0.port.now, b.1) after result
    ran_inside =
        let Inner : P → (q : Ask) → Answer q → P → Type 0 = AsksGranted a.0.grant.now a.0.second step in
        let within = ended_within (Piecewise AsksSo) (λ (p : GrantedPort P × Option UntoldState). Is p.0) (λ p q x r i h. is_kept p q x r i h) routes s reading a b after (said_by ran.said result) (refl, refl) ran.ended in
        record {
          said = ran.said;
          writes = ran.writes;
          ended =
              ended_along (Within (Piecewise AsksSo) (λ (p : GrantedPort P × Option UntoldState). Is p.0) (λ p q x r i h. is_kept p q x r i h)) (Piecewise Inner)
              (λ (p : GrantedPort P × Option UntoldState). (p.0.port.now, p.1)) (λ p q x r w. pieces_along AsksSo Inner (λ (g : GrantedPort P). g.port.now) Is asked_along p q x r w.0 w.1) routes s reading a b after (said_by ran.said result) within;
        }
