-- What was done over one port was done over another, where each call was.
use Rattle.std.proofs.Common.{◌≡◌, ◌-◌, ◌+◌, ℕ, Bool, true, false, List, [], ◌∷◌, Result, Ok, Err, drop, refl, sym, ap, ◌∙◌, subst}
use Rattle.channel_rules.specs.Asks.{Ask, Answer, Call, Made}
use Rattle.channel_session.specs.Delivery.{Delivered, DeliveredBy, InForce}
use Rattle.channel_session.specs.declared.frames.Delivery.{Delivery}
use Rattle.channel_rules.specs.Outcome.{Follows}
use Rattle.channel_session.specs.Ran.{said_by}
use Rattle.channel_rules.specs.Rules.{End}
use Rattle.channel_rules.specs.Said.{Said}
use Rattle.channel_rules.specs.Script.{Script}
use Rattle.channel_session.specs.declared.fault.SessionFault.{SessionFault}
use Rattle.phx_message.specs.declared.message.Message.{Message}
use Rattle.presence_journal.specs.declared.rows.Item.{Item}
use Rattle.channel_session.specs.declared.fault.SessionFault.TheVariants.{Failed}
use Rattle.serve_connections.specs.Sparing.{Leaves, Spares, Weighs}
use Rattle.serve_connections.specs.declared.sparing.SparingPort.{SparingPort}
use Rattle.channel_rules.specs.Questions.{asks}
use Rattle.channel_rules.specs.declared.calls.Take.{Take}
use Rattle.channel_rules.specs.declared.calls.Waits.{Waits}
use Rattle.channel_rules.specs.declared.question.Question.{Question}
use Rattle.channel_rules.specs.declared.question.Question.TheVariants as questions

-- what each call keeps, all of them do
pub kept_along : {A N : Type 0} (R : A → (q : Ask) → Answer q → A → Type 0) (k : A → N)
    → ((a : A) (q : Ask) (x : Answer q) (b : A) → R a q x b → k b ≡ k a) → (cs : List Call) (a b : A) → Made R a cs b → k b ≡ k a
kept_along R k keeps [] a b h = ap k h
kept_along R k keeps (c ∷ cs) a b h = kept_along R k keeps cs h.0 b h.2 ∙ keeps a c.ask c.answer h.0 h.1

module _ {A B : Type 0} (R : A → (q : Ask) → Answer q → A → Type 0) (S : B → (q : Ask) → Answer q → B → Type 0) (f : A → B)
    (along : (a : A) (q : Ask) (x : Answer q) (b : A) → R a q x b → S (f a) q x (f b)) where
  made_along : (cs : List Call) (a b : A) → Made R a cs b → Made S (f a) cs (f b)
  made_along [] a b h = ap f h
  made_along (c ∷ cs) a b h = (f h.0, along a c.ask c.answer h.0 h.1, made_along cs h.0 b h.2)

  pub follows_along : (script : Script End) (a b : A) (r : _) → Follows R script a b r → Follows S script (f a) (f b) r
  follows_along script a b r h = record { made = h.made; calls = made_along h.made a b h.calls; ends = h.ends }

  in_along : (max : ℕ) (s : InForce) (a b : A) (after : InForce) (r : Result (List Said) SessionFault)
      → Delivered R max s a b after r → Delivered S max s (f a) (f b) after r
  in_along max s a b after (Ok said) h = (follows_along _ a b _ h.0, h.1)
  in_along max s a b after (Err fault) h =
      record { stop = h.stop; fault_is = h.fault_is; calls = follows_along _ a b _ h.calls; left = h.left }

  -- a delivery
  pub delivered_along : (W : Said → Message → Type 0) (N : Said → List (List ℕ) → Type 0) (max : ℕ) (s : InForce) (a b : A) (after : InForce)
      (result : Result Delivery SessionFault) → DeliveredBy W N R max s a b after result → DeliveredBy W N S max s (f a) (f b) after result
  delivered_along W N max s a b after result h =
      record { said = h.said; carries = h.carries; delivered = in_along max s a b after (said_by h.said result) h.delivered }

module _ {A N : Type 0} (R : A → (q : Ask) → Answer q → A → Type 0) (k : A → N)
    (keeps : (a : A) (q : Ask) (x : Answer q) (b : A) → R a q x b → k b ≡ k a) where
  calls_keep : (max : ℕ) (s : InForce) (a b : A) (after : InForce) (r : Result (List Said) SessionFault) → Delivered R max s a b after r → k b ≡ k a
  calls_keep max s a b after (Ok said) d = kept_along R k keeps d.0.made a b d.0.calls
  calls_keep max s a b after (Err fault) d = kept_along R k keeps d.calls.made a b d.calls.calls

  -- what each call keeps, a delivery does
  pub delivered_kept : (W : Said → Message → Type 0) (M : Said → List (List ℕ) → Type 0) (max : ℕ) (s : InForce) (a b : A) (after : InForce)
      (result : Result Delivery SessionFault) → DeliveredBy W M R max s a b after result → k b ≡ k a
  delivered_kept W M max s a b after result h = calls_keep max s a b after (said_by h.said result) h.delivered

  -- so does one that is cut short before it begins
  pub kept_anyhow : (W : Said → Message → Type 0) (M : Said → List (List ℕ) → Type 0) (max : ℕ) (s : InForce) (a b : A) (after : InForce)
      (result : Result Delivery SessionFault) (failed : Bool) → (failed ≡ true → b ≡ a) → (failed ≡ false → DeliveredBy W M R max s a b after result) → k b ≡ k a
  kept_anyhow W M max s a b after result true same delivered = ap k (same refl)
  kept_anyhow W M max s a b after result false same delivered = delivered_kept W M max s a b after result (delivered refl)

-- what a sparing port does, by its port and its room
module _ {P : Type 0} (step : P → (q : Ask) → Answer q → P → Type 0) where
  abbrev pub SparesSo : SparingPort P → (q : Ask) → Answer q → SparingPort P → Type 0
  SparesSo old q x new =
      (new.port.ghost_name ≡ old.port.ghost_name) × Spares step (old.port.now, old.room) q x (new.port.now, new.room)

  pub sparing_keeps : (W : Said → Message → Type 0) (M : Said → List (List ℕ) → Type 0) (max : ℕ) (s : InForce) (a b : SparingPort P) (after : InForce)
      (result : Result Delivery SessionFault) (failed : Bool) → (failed ≡ true → (result ≡ Err Failed) × (after ≡ s) × (b ≡ a))
      → (failed ≡ false → DeliveredBy W M SparesSo max s a b after result) → b.port.ghost_name ≡ a.port.ghost_name
  sparing_keeps W M max s a b after result failed none delivered =
      kept_anyhow SparesSo (λ (p : SparingPort P). p.port.ghost_name) (λ a q x b h. h.0) W M max s a b after result failed (λ is. (none is).2) delivered

  pub sparing_delivers : (W : Said → Message → Type 0) (M : Said → List (List ℕ) → Type 0) (max : ℕ) (s : InForce) (a b : SparingPort P) (after : InForce)
      (result : Result Delivery SessionFault) → DeliveredBy W M SparesSo max s a b after result
      → DeliveredBy W M (Spares step) max s (a.port.now, a.room) (b.port.now, b.room) after result
  sparing_delivers W M max s a b after result h =
      delivered_along SparesSo (Spares step) (λ (p : SparingPort P). (p.port.now, p.room)) (λ a q x b h. h.1) W M max s a b after result h

-- what the items from this place on leave of so much, all of them leave of the room
abbrev pub LeftTo : List Item → ℕ → ℕ → ℕ → Type 0
LeftTo items room i left = (r : ℕ) → Leaves (drop i items) left r → Leaves items room r

pub left_next : (items : List Item) (room i left w : ℕ) (x : Item) → drop i items ≡ x ∷ drop (i + 1) items → Weighs x w → LeftTo items room i left
    → LeftTo items room (i + 1) (left - w)
left_next items room i left w x is weighs rest r h = rest r (subst (λ (l : List Item). Leaves l left r) (sym is) (w, weighs, h))

pub left_end : (items : List Item) (room i left : ℕ) → drop i items ≡ [] → LeftTo items room i left → Leaves items room left
left_end items room i left is rest = rest left (subst (λ (l : List Item). Leaves l left left) (sym is) refl)

-- a question that is none of a take and none of what waits goes through
module _ {P : Type 0} (step : P → (q : Ask) → Answer q → P → Type 0) (old new : P × ℕ) where
  pub others_pass : (k : Question) → ((x : Take) → k ≡ questions.Take x → ⊥) → ((x : Waits) → k ≡ questions.Waits x → ⊥) → (a : Answer (asks k)) → step old.0 (asks k) a new.0 → new.1 ≡ old.1 → Spares step old (asks k) a new
  others_pass (questions.Track c) nt nw a h e = (h, e)
  others_pass (questions.Update c) nt nw a h e = (h, e)
  others_pass (questions.Untrack c) nt nw a h e = (h, e)
  others_pass (questions.UntrackAll c) nt nw a h e = (h, e)
  others_pass (questions.List c) nt nw a h e = (h, e)
  others_pass (questions.Get c) nt nw a h e = (h, e)
  others_pass (questions.Subscribe c) nt nw a h e = (h, e)
  others_pass (questions.Take c) nt nw a h e = absurd (nt c refl)
  others_pass (questions.Unsubscribe c) nt nw a h e = (h, e)
  others_pass (questions.Waits c) nt nw a h e = absurd (nw c refl)
  others_pass (questions.Shout c) nt nw a h e = (h, e)
