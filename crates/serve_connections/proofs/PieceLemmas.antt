-- What was done over a port that gives long states in pieces was done over the port inside, and what is untold.
use Rattle.std.proofs.Common.{◌≡◌, ◌==◌, ℕ, Bool, true, false, List, Option, Result, Ok, Err, inl, inr, refl, ap}
use Rattle.std.specs.Prelude.{String, Vec}
use Rattle.std.specs.Global.{Global}
use Rattle.phx_message.specs.declared.message.Message.{Message}
use Rattle.phx_message.specs.declared.message.MessageFault.{MessageFault}
use Rattle.channel_rules.specs.Asks.{Ask, Answer, track, update, untrack, untrack_all, list, get, subscribe, take, unsubscribe, waits, shout}
use Rattle.channel_session.specs.Delivery.{DeliveredBy, InForce}
use Rattle.channel_session.specs.declared.frames.Delivery.{Delivery}
use Rattle.channel_session.specs.Ran.{Untouched, MessageRan, ReadAs, EndedSo, RanBy, said_by}
use Rattle.channel_rules.specs.Said.{Said}
use Rattle.tracker_shard.specs.declared.shard.Sub.{Sub}
use Rattle.channel_session.specs.declared.fault.SessionFault.{SessionFault}
use Rattle.channel_session.specs.declared.fault.SessionFault.TheVariants.{BadMessage, OutOfMemory, ShardFull, Failed}
use Rattle.channel_pieces.specs.Piecewise.{Piecewise}
use Rattle.channel_pieces.specs.declared.port.PiecewisePort.{PiecewisePort}
use Rattle.channel_pieces.specs.declared.telling.UntoldState.{UntoldState}
use Rattle.serve_connections.specs.Sparing.{Spares, SparesWaits}
use Rattle.serve_connections.proofs.Sparings.{kept_along, follows_along, delivered_along, delivered_kept}

-- ---- texts

module _ {A B : Type 0} (R : A → (q : Ask) → Answer q → A → Type 0) (S : B → (q : Ask) → Answer q → B → Type 0) (f : A → B)
    (along : (a : A) (q : Ask) (x : Answer q) (b : A) → R a q x b → S (f a) q x (f b)) (routes : List (List ℕ × ℕ)) (s : InForce) where
  message_along : (m : Message) (a b : A) (after : InForce) (r : Result (List Said) SessionFault) → MessageRan R routes s m a b after r → MessageRan S routes s m (f a) (f b) after r
  message_along m a b after (Ok said) h = (follows_along R S f along _ a b _ h.0, h.1)
  message_along m a b after (Err fault) h = record { stop = h.stop; fault_is = h.fault_is; calls = follows_along R S f along _ a b _ h.calls; left = h.left }

  read_along : (reading : Result Message MessageFault) (a b : A) (after : InForce) (r : Result (List Said) SessionFault) → ReadAs R routes s reading a b after r → ReadAs S routes s reading (f a) (f b) after r
  read_along reading a b after r h = record { message = h.message; read = h.read; ran = message_along h.message a b after r h.ran }

  untouched_along : (a b : A) (after : InForce) → Untouched s a b after → Untouched s (f a) (f b) after
  untouched_along a b after h = record { port = ap f h.port; session = h.session }

  pub ended_along : (reading : Result Message MessageFault) (a b : A) (after : InForce) (r : Result (List Said) SessionFault) → EndedSo R routes s reading a b after r → EndedSo S routes s reading (f a) (f b) after r
  ended_along reading a b after (Ok said) (e, h) = (e, read_along reading a b after (Ok said) h)
  ended_along reading a b after (Err Failed) (e, h) = (e, untouched_along a b after h)
  ended_along reading a b after (Err (BadMessage x)) (e, r, h) = (e, r, untouched_along a b after h)
  ended_along reading a b after (Err ShardFull) (e, h) = (e, read_along reading a b after (Err ShardFull) h)
  ended_along reading a b after (Err OutOfMemory) (e, inl h) = (e, inl (untouched_along a b after h))
  ended_along reading a b after (Err OutOfMemory) (e, inr h) = (e, inr (read_along reading a b after (Err OutOfMemory) h))

module _ {A N : Type 0} (R : A → (q : Ask) → Answer q → A → Type 0) (k : A → N)
    (keeps : (a : A) (q : Ask) (x : Answer q) (b : A) → R a q x b → k b ≡ k a) (routes : List (List ℕ × ℕ)) (s : InForce) where
  message_keeps : (m : Message) (a b : A) (after : InForce) (r : Result (List Said) SessionFault) → MessageRan R routes s m a b after r → k b ≡ k a
  message_keeps m a b after (Ok said) h = kept_along R k keeps h.0.made a b h.0.calls
  message_keeps m a b after (Err fault) h = kept_along R k keeps h.calls.made a b h.calls.calls

  pub ended_keeps : (reading : Result Message MessageFault) (a b : A) (after : InForce) (r : Result (List Said) SessionFault) → EndedSo R routes s reading a b after r → k b ≡ k a
  ended_keeps reading a b after (Ok said) (e, h) = message_keeps h.message a b after (Ok said) h.ran
  ended_keeps reading a b after (Err Failed) (e, h) = ap k h.port
  ended_keeps reading a b after (Err (BadMessage x)) (e, r, h) = ap k h.port
  ended_keeps reading a b after (Err ShardFull) (e, h) = message_keeps h.message a b after (Err ShardFull) h.ran
  ended_keeps reading a b after (Err OutOfMemory) (e, inl h) = ap k h.port
  ended_keeps reading a b after (Err OutOfMemory) (e, inr h) = message_keeps h.message a b after (Err OutOfMemory) h.ran

-- ---- the port in pieces

module _ {P : Type 0} (step : P → (q : Ask) → Answer q → P → Type 0) where
  abbrev pub view : PiecewisePort P → P × Option UntoldState
  view p = (p.port.now, p.telling.now.untold)

  abbrev pub InPieces : PiecewisePort P → (q : Ask) → Answer q → PiecewisePort P → Type 0
  InPieces old q x new =
      (new.port.ghost_name ≡ old.port.ghost_name) × (new.telling.ghost_name ≡ old.telling.ghost_name) × Piecewise step (view old) q x (view new)

  pub texts_in_pieces : (W : Said → Message → Type 0) (routes : List (List ℕ × ℕ)) (s : InForce) (reading : Result Message MessageFault) (a b : PiecewisePort P) (after : InForce)
      (result : Result (Vec (String Global) Global) SessionFault) → RanBy W InPieces routes s reading a b after result → RanBy W (Piecewise step) routes s reading (view a) (view b) after result
  texts_in_pieces W routes s reading a b after result h =
      record { said = h.said; writes = h.writes; ended = ended_along InPieces (Piecewise step) view (λ a q x b i. i.2) routes s reading a b after (said_by h.said result) h.ended }

  pub texts_keep : {N : Type 0} (k : PiecewisePort P → N) → ((a : PiecewisePort P) (q : Ask) (x : Answer q) (b : PiecewisePort P) → InPieces a q x b → k b ≡ k a)
      → (W : Said → Message → Type 0) (routes : List (List ℕ × ℕ)) (s : InForce) (reading : Result Message MessageFault) (a b : PiecewisePort P) (after : InForce)
      (result : Result (Vec (String Global) Global) SessionFault) → RanBy W InPieces routes s reading a b after result → k b ≡ k a
  texts_keep k keeps W routes s reading a b after result h = ended_keeps InPieces k keeps routes s reading a b after (said_by h.said result) h.ended

  -- ---- deliveries that spare the connection

  abbrev spared : PiecewisePort P × ℕ → (P × Option UntoldState) × ℕ
  spared a = (view a.0, a.1)

  waits_along : (b : Bool) (topic : List ℕ) (sub : Sub) (old new : PiecewisePort P) (x : Answer (waits topic sub)) → SparesWaits InPieces b topic sub old x new → SparesWaits (Piecewise step) b topic sub (view old) x (view new)
  waits_along true topic sub old new x h = (h.0, ap view h.1)
  waits_along false topic sub old new x h = h.2

  spares_along : (a : PiecewisePort P × ℕ) (q : Ask) (x : Answer q) (b : PiecewisePort P × ℕ) → Spares InPieces a q x b → Spares (Piecewise step) (spared a) q x (spared b)
  spares_along a (track t k m) x b h = (h.0.2, h.1)
  spares_along a (update t k m) x b h = (h.0.2, h.1)
  spares_along a (untrack t k) x b h = (h.0.2, h.1)
  spares_along a (untrack_all t) x b h = (h.0.2, h.1)
  spares_along a (list t) x b h = (h.0.2, h.1)
  spares_along a (get t k) x b h = (h.0.2, h.1)
  spares_along a (subscribe t) x b h = (h.0.2, h.1)
  spares_along a (take t sub max) x b h = (h.0.2, h.1)
  spares_along a (unsubscribe t sub) x b h = (h.0.2, h.1)
  spares_along a (waits t sub) x b h = (waits_along (a.1 == 0) t sub a.0 b.0 x h.0, h.1)
  spares_along a (shout t p) x b h = (h.0.2, h.1)

  module _ {N : Type 0} (k : PiecewisePort P → N) (keeps : (a : PiecewisePort P) (q : Ask) (x : Answer q) (b : PiecewisePort P) → InPieces a q x b → k b ≡ k a) where
    waits_keep : (b : Bool) (topic : List ℕ) (sub : Sub) (old new : PiecewisePort P) (x : Answer (waits topic sub)) → SparesWaits InPieces b topic sub old x new → k new ≡ k old
    waits_keep true topic sub old new x h = ap k h.1
    waits_keep false topic sub old new x h = keeps old (waits topic sub) x new h

    spares_keep : (a : PiecewisePort P × ℕ) (q : Ask) (x : Answer q) (b : PiecewisePort P × ℕ) → Spares InPieces a q x b → k b.0 ≡ k a.0
    spares_keep a (track t key m) x b h = keeps a.0 (track t key m) x b.0 h.0
    spares_keep a (update t key m) x b h = keeps a.0 (update t key m) x b.0 h.0
    spares_keep a (untrack t key) x b h = keeps a.0 (untrack t key) x b.0 h.0
    spares_keep a (untrack_all t) x b h = keeps a.0 (untrack_all t) x b.0 h.0
    spares_keep a (list t) x b h = keeps a.0 (list t) x b.0 h.0
    spares_keep a (get t key) x b h = keeps a.0 (get t key) x b.0 h.0
    spares_keep a (subscribe t) x b h = keeps a.0 (subscribe t) x b.0 h.0
    spares_keep a (take t sub max) x b h = keeps a.0 (take t sub max) x b.0 h.0
    spares_keep a (unsubscribe t sub) x b h = keeps a.0 (unsubscribe t sub) x b.0 h.0
    spares_keep a (waits t sub) x b h = waits_keep (a.1 == 0) t sub a.0 b.0 x h.0
    spares_keep a (shout t p) x b h = keeps a.0 (shout t p) x b.0 h.0

    pub deliveries_keep : (W : Said → Message → Type 0) (M : Said → List (List ℕ) → Type 0) (max : ℕ) (s : InForce) (a b : PiecewisePort P) (room left : ℕ) (after : InForce)
        (result : Result Delivery SessionFault) (failed : Bool) → (failed ≡ true → b ≡ a) → (failed ≡ false → DeliveredBy W M (Spares InPieces) max s (a, room) (b, left) after result) → k b ≡ k a
    deliveries_keep W M max s a b room left after result true same delivered = ap k (same refl)
    deliveries_keep W M max s a b room left after result false same delivered =
        delivered_kept (Spares InPieces) (λ (p : PiecewisePort P × ℕ). k p.0) spares_keep W M max s (a, room) (b, left) after result (delivered refl)

  pub delivered_in_pieces : (W : Said → Message → Type 0) (M : Said → List (List ℕ) → Type 0) (max : ℕ) (s : InForce) (a b : PiecewisePort P) (room left : ℕ) (after : InForce)
      (result : Result Delivery SessionFault) → DeliveredBy W M (Spares InPieces) max s (a, room) (b, left) after result
      → DeliveredBy W M (Spares (Piecewise step)) max s (view a, room) (view b, left) after result
  delivered_in_pieces W M max s a b room left after result h =
      delivered_along (Spares InPieces) (Spares (Piecewise step)) spared spares_along W M max s (a, room) (b, left) after result h
