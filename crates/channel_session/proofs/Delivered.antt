-- A delivery, topic by topic.
use Rattle.std.proofs.Common.{◌≡◌, ◌+◌, ◌++◌, ℕ, List, [], ◌∷◌, false, true, map, drop, Some, Result, Ok, Err, IfOk, if◌then◌else◌, refl, sym}
use Rattle.phx_message.specs.declared.message.Message.{Message}
use Rattle.std.specs.List.{slice_get}
use Rattle.std.proofs.lemmas.Option.{slice_get_within, get_or_from_slice_get}
use Rattle.presence_journal.proofs.Walking.{drop_next}
use Rattle.presence_journal.specs.declared.rows.Item.{Item}
use Rattle.channel_rules.specs.declared.refusal.Refusal.{Refusal}
use Rattle.channel_session.specs.Delivery.{DealsBy, DeliveredBy, failing}
use Rattle.channel_session.specs.Ran.{fault_of}
use Rattle.channel_session.specs.declared.fault.SessionFault.{SessionFault}
use Rattle.channel_session.specs.declared.frames.Delivery.{Delivery}
use Rattle.channel_rules.specs.Asks.{Ask, Answer, waits, take}
use Rattle.channel_rules.specs.Delivering.{then_told, then_take, delivers}
use Rattle.channel_rules.specs.InForce.{Joined, InForce}
use Rattle.channel_rules.specs.Outcome.{Follows, GivesEnd, MayWant, spoilt}
use Rattle.channel_rules.specs.Rules.{End, unsaid}
use Rattle.channel_rules.specs.Said.{Said, told}
use Rattle.channel_rules.specs.declared.stop.Stop.{Stop}
use Rattle.channel_rules.specs.declared.stop.StopKind.TheVariants.{OutOfMemory}
use Rattle.channel_rules.proofs.Once.{unasked, once, more, more_clean}

-- the topics from a place on, where one stands there
pub here : (js : List Joined) (i : ℕ) (j : Joined) → Some j ≡ slice_get js i → drop i js ≡ j ∷ drop (i + 1) js
here js i j at = drop_next js i j (slice_get_within js i j (sym at)) (sym (get_or_from_slice_get js i j j (sym at)))

-- what holds of the one result holds of the other, where that is the same
pub if_same : {A E F : Type 0} (P : A → Type 0) (r : Result A E) (q : Result A F) → IfOk r (λ x. q ≡ Ok x) → IfOk q P → IfOk r P
if_same P (Ok x) q is h = rw is at h
if_same P (Err e) q is h = tt

may_want : (max : ℕ) (s : InForce) (js : List Joined) (before : List Said) → MayWant (delivers max s js before)
may_want max s [] before = tt
may_want max s (j ∷ js) before = tt

module _ {P : Type 0} (step : P → (q : Ask) → Answer q → P → Type 0) (max : ℕ) (s : InForce) (j : Joined) (js all : List Joined) (all_is : all ≡ j ∷ js) (before : List Said) where
  pub waits_refused : (e : Refusal) (stop : Stop) (old new : P) → step old (waits j.topic j.sub) (Err e) new → GivesEnd (unsaid e) false (Err stop)
      → Follows step (delivers max s all before) old new (Err stop)
  waits_refused e stop old new h g = rw all_is (once step (waits j.topic j.sub) (then_take max j before (delivers max s js)) (Err e) (unsaid e) old new (Err stop) h refl refl g)

  pub take_refused : (e : Refusal) (stop : Stop) (old mid new : P) → step old (waits j.topic j.sub) (Ok true) mid → step mid (take j.topic j.sub max) (Err e) new → GivesEnd (unsaid e) false (Err stop)
      → Follows step (delivers max s all before) old new (Err stop)
  take_refused e stop old mid new h h2 g =
      rw all_is
      (more_clean step (waits j.topic j.sub) (then_take max j before (delivers max s js)) (Ok true) old mid new (Err stop) h refl refl
      (once step (take j.topic j.sub max) (then_told j before (delivers max s js)) (Err e) (unsaid e) mid new (Err stop) h2 refl refl g))

  pub none_waits : (old mid new : P) (r : Result End Stop) → step old (waits j.topic j.sub) (Ok false) mid → Follows step (delivers max s js before) mid new r
      → Follows step (delivers max s all before) old new r
  none_waits old mid new r h f = rw all_is (more_clean step (waits j.topic j.sub) (then_take max j before (delivers max s js)) (Ok false) old mid new r h refl refl f)

  pub took : (items : List Item) (old mid after new : P) (r : Result End Stop) → step old (waits j.topic j.sub) (Ok true) mid → step mid (take j.topic j.sub max) (Ok items) after
      → Follows step (delivers max s js (before ++ map (told j) items)) after new r → Follows step (delivers max s all before) old new (spoilt r)
  took items old mid after new r h h2 f =
      rw all_is
      (more_clean step (waits j.topic j.sub) (then_take max j before (delivers max s js)) (Ok true) old mid new (spoilt r) h refl refl
      (more step (take j.topic j.sub max) (then_told j before (delivers max s js)) (Ok items) mid after new r h2 refl refl f))

  -- memory that runs out after an accepted take
  pub took_in_vain : (items : List Item) (stop : Stop) (old mid after : P) → step old (waits j.topic j.sub) (Ok true) mid → step mid (take j.topic j.sub max) (Ok items) after
      → stop.kind ≡ OutOfMemory → stop.spoiled ≡ true → Follows step (delivers max s all before) old after (Err stop)
  took_in_vain items stop old mid after h h2 k sp =
      let rest : Follows step (delivers max s js (before ++ map (told j) items)) after after (Err (record { kind = OutOfMemory; spoiled = false })) = unasked step _ after _ (may_want max s js _) refl refl in
      let all_of : Follows step (delivers max s all before) old after (Err (record { kind = OutOfMemory; spoiled = true })) = took items old mid after after _ h h2 rest in
      let same : Follows step (delivers max s all before) old after (Err (record { kind = stop.kind; spoiled = stop.spoiled })) = rw (k, sp) all_of in
      same

-- ---- a whole delivery

module _ {P : Type 0} (W : Said → Message → Type 0) (N : Said → List (List ℕ) → Type 0) (step : P → (q : Ask) → Answer q → P → Type 0) (max : ℕ) (s after : InForce) (old new : P) where
  abbrev Deals : List Joined → Result Delivery Stop → Type 0
  Deals js r = DealsBy W N step (delivers max s js []) old new s r

  pub delivered_ok : (js : List Joined) (d : Delivery) → js ≡ s.joined → Deals js (Ok d) → after ≡ s → DeliveredBy W N step max s old new after (Ok d)
  delivered_ok js d is h e = record { said = h.said; carries = h.carries; delivered = (rw is at h.deals, e) }

  pub delivered_err : (js : List Joined) (stop : Stop) (fault : SessionFault) → js ≡ s.joined → Deals js (Err stop) → fault ≡ fault_of stop.kind → after ≡ (if stop.spoiled then failing s else s)
      → DeliveredBy W N step max s old new after (Err fault)
  delivered_err js stop fault is h f e = record { said = h.said; carries = tt; delivered = record { stop = stop; fault_is = f; calls = rw is at h.deals; left = e } }
