-- What a text and a delivery do over a port that holds a shard, and what they come to there.
use Rattle.std.proofs.Common.{◌≡◌, ℕ, List, false, Result, Ok, Err, inl, inr, refl, ◌∙◌, ap}
use Rattle.phx_message.specs.declared.message.Message.{Message}
use Rattle.phx_message.specs.declared.message.MessageFault.{MessageFault}
use Rattle.presence_journal.specs.History.{History}
use Rattle.channel_rules.specs.Asks.{Ask, Answer}
use Rattle.channel_session.specs.Delivery.{Delivered, delivery}
use Rattle.channel_rules.specs.InForce.{InForce}
use Rattle.presence_stdio.specs.Local.{LocalStep, played}
use Rattle.channel_rules.specs.Said.{Said}
use Rattle.channel_session.specs.Ran.{EndedSo, ReadAs, MessageRan, Untouched, fault_of}
use Rattle.channel_rules.specs.Rules.{End, answers, full, rules}
use Rattle.channel_session.specs.declared.fault.SessionFault.{SessionFault}
use Rattle.channel_session.specs.declared.fault.SessionFault.TheVariants.{BadMessage, OutOfMemory, ShardFull, Failed}
use Rattle.channel_rules.specs.declared.stop.Stop.{Stop}
use Rattle.channel_rules.specs.declared.stop.StopKind.{StopKind}
use Rattle.channel_rules.specs.declared.stop.StopKind.TheVariants as kinds_are
use Rattle.presence_stdio.proofs.Played.{ComesTo, follows_local, follows_keeps, rules_played, delivery_played}

-- ---- a port that holds a shard

module _ {P : Type 0} (pid : ℕ) (step : P → (q : Ask) → Answer q → P → Type 0) (now : P → History) (is_local : (old new : P) (q : Ask) (a : Answer q) → step old q a new → LocalStep pid (now old) q a (now new)) where
  faulted_local : (routes : List (List ℕ × ℕ)) (s : InForce) (m : Message) (old new : P) (after : InForce) (r : Result (List Said) SessionFault) → MessageRan step routes s m old new after r → MessageRan (LocalStep pid) routes s m (now old) (now new) after r
  faulted_local routes s m old new after (Ok said) h = (follows_local pid step now is_local (rules routes s m) old new _ h.0, h.1)
  faulted_local routes s m old new after (Err f) h = record { stop = h.stop; fault_is = h.fault_is; calls = follows_local pid step now is_local (rules routes s m) old new _ h.calls; left = h.left }

  read_local : (routes : List (List ℕ × ℕ)) (s : InForce) (read : Result Message MessageFault) (old new : P) (after : InForce) (r : Result (List Said) SessionFault) → ReadAs step routes s read old new after r → ReadAs (LocalStep pid) routes s read (now old) (now new) after r
  read_local routes s read old new after r h = record { message = h.message; read = h.read; ran = faulted_local routes s h.message old new after r h.ran }

  untouched_local : (s : InForce) (old new : P) (after : InForce) → Untouched s old new after → Untouched s (now old) (now new) after
  untouched_local s old new after h = record { port = ap now h.port; session = h.session }

  pub text_local : (routes : List (List ℕ × ℕ)) (s : InForce) (read : Result Message MessageFault) (old new : P) (after : InForce) (r : Result (List Said) SessionFault) → EndedSo step routes s read old new after r → EndedSo (LocalStep pid) routes s read (now old) (now new) after r
  text_local routes s read old new after (Ok said) h = (h.0, read_local routes s read old new after _ h.1)
  text_local routes s read old new after (Err (BadMessage f)) h = (h.0, h.1, untouched_local s old new after h.2)
  text_local routes s read old new after (Err OutOfMemory) h = (
    h.0,
    elim h.1 [
      | inl u ↦ inl (untouched_local s old new after u)
      | inr r ↦ inr (read_local routes s read old new after _ r)
    ],
  )
  text_local routes s read old new after (Err ShardFull) h = (h.0, read_local routes s read old new after _ h.1)
  text_local routes s read old new after (Err Failed) h = (h.0, untouched_local s old new after h.1)

  pub delivered_local : (max : ℕ) (s : InForce) (old new : P) (after : InForce) (r : Result (List Said) SessionFault) → Delivered step max s old new after r → Delivered (LocalStep pid) max s (now old) (now new) after r
  delivered_local max s old new after (Ok said) h = (follows_local pid step now is_local (delivery max s) old new _ h.0, h.1)
  delivered_local max s old new after (Err fault) h = record { stop = h.stop; fault_is = h.fault_is; calls = follows_local pid step now is_local (delivery max s) old new _ h.calls; left = h.left }

-- what no call changes
module _ {P N : Type 0} (step : P → (q : Ask) → Answer q → P → Type 0) (name : P → N) (keeps : (old new : P) (q : Ask) (a : Answer q) → step old q a new → name new ≡ name old) where
  message_keeps : (routes : List (List ℕ × ℕ)) (s : InForce) (m : Message) (old new : P) (after : InForce) (r : Result (List Said) SessionFault) → MessageRan step routes s m old new after r → name new ≡ name old
  message_keeps routes s m old new after (Ok said) h = follows_keeps step name keeps (rules routes s m) old new _ h.0
  message_keeps routes s m old new after (Err f) h = follows_keeps step name keeps (rules routes s m) old new _ h.calls

  pub text_keeps : (routes : List (List ℕ × ℕ)) (s : InForce) (read : Result Message MessageFault) (old new : P) (after : InForce) (r : Result (List Said) SessionFault) → EndedSo step routes s read old new after r → name new ≡ name old
  text_keeps routes s read old new after (Ok said) h = message_keeps routes s h.1.message old new after (Ok said) h.1.ran
  text_keeps routes s read old new after (Err (BadMessage f)) h = ap name h.2.port
  text_keeps routes s read old new after (Err OutOfMemory) h = elim h.1 [
    | inl u ↦ ap name u.port
    | inr r ↦ message_keeps routes s r.message old new after (Err OutOfMemory) r.ran
  ]
  text_keeps routes s read old new after (Err ShardFull) h = message_keeps routes s h.1.message old new after (Err ShardFull) h.1.ran
  text_keeps routes s read old new after (Err Failed) h = ap name h.1.port

  pub delivered_keeps : (max : ℕ) (s : InForce) (old new : P) (after : InForce) (r : Result (List Said) SessionFault) → Delivered step max s old new after r → name new ≡ name old
  delivered_keeps max s old new after (Ok said) h = follows_keeps step name keeps (delivery max s) old new _ h.0
  delivered_keeps max s old new after (Err fault) h = follows_keeps step name keeps (delivery max s) old new _ h.calls

-- ---- what it comes to

-- the message that was read, and what its rules come to
pub record Leads (routes : List (List ℕ × ℕ)) (s : InForce) (read : Result Message MessageFault) (old new : History) (end : End) : Type 0 where
  pub message : Message
  pub is : read ≡ Ok message
  pub leads : played s.pid (rules routes s message) old ≡ (end, new)

pub text_leads : (routes : List (List ℕ × ℕ)) (s : InForce) (read : Result Message MessageFault) (old new : History) (after : InForce) (said : List Said) → EndedSo (LocalStep s.pid) routes s read old new after (Ok said)
    → Leads routes s read old new (answers said after)
text_leads routes s read old new after said h = record { message = h.1.message; is = h.1.read; leads = rules_played s.pid routes s h.1.message old new _ h.1.ran.0 }

-- the session lives on
pub text_lives : (routes : List (List ℕ × ℕ)) (s : InForce) (read : Result Message MessageFault) (old new : History) (after : InForce) (said : List Said) → EndedSo (LocalStep s.pid) routes s read old new after (Ok said) → after.failed ≡ false
text_lives routes s read old new after said h = h.1.ran.1 ∙ h.0

at_full : (k : StopKind) → ShardFull ≡ fault_of k → k ≡ kinds_are.ShardFull
at_full kinds_are.ShardFull e = refl
at_full kinds_are.OutOfMemory e = absurd (cc)

full_stop : (stop : Stop) (x : End × History) (new : History) → stop.kind ≡ kinds_are.ShardFull → ComesTo (Err stop) x new → x ≡ (full, new)
full_stop stop x new is h = rw is at h

pub full_leads : (routes : List (List ℕ × ℕ)) (s : InForce) (read : Result Message MessageFault) (old new : History) (after : InForce) → EndedSo (LocalStep s.pid) routes s read old new after (Err ShardFull) → Leads routes s read old new full
full_leads routes s read old new after h =
    let f = h.1.ran in
    record { message = h.1.message; is = h.1.read; leads = full_stop f.stop _ new (at_full f.stop.kind f.fault_is) (rules_played s.pid routes s h.1.message old new _ f.calls) }

pub delivery_leads : (max : ℕ) (s : InForce) (old new : History) (after : InForce) (said : List Said) → Delivered (LocalStep s.pid) max s old new after (Ok said) → played s.pid (delivery max s) old ≡ (answers said s, new)
delivery_leads max s old new after said h = delivery_played s.pid max s old new _ h.0

pub full_delivery : (max : ℕ) (s : InForce) (old new : History) (after : InForce) → Delivered (LocalStep s.pid) max s old new after (Err ShardFull) → played s.pid (delivery max s) old ≡ (full, new)
full_delivery max s old new after h = full_stop h.stop _ new (at_full h.stop.kind h.fault_is) (delivery_played s.pid max s old new _ h.calls)
