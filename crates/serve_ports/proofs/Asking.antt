-- A call of the pool, as the port tells its answer.
use Rattle.std.proofs.Common.{◌≡◌, ℕ, Bool, List, Option, refl, sym, ap, subst, ◌∙◌}
use Rattle.std.specs.Prelude.{Result, Ok, Err}
use Rattle.presence_journal.specs.declared.step.Step.{Step}
use Rattle.presence_journal.specs.History.{History}
use Rattle.tracker_shard.specs.Steps.{refusal}
use Rattle.tracker_shard.specs.declared.fault.ShardFault.{ShardFault}
use Rattle.tracker_shard.specs.declared.fault.ShardFault.TheVariants.{AlreadyTracked, NoPresence, ClockFull, JournalFull, NoSub, BadIncarnation, OutOfMemory}
use Rattle.channel_rules.specs.Asks.{Ask, Given}
use Rattle.channel_rules.specs.Seen.{seen_by}
use Rattle.channel_rules.specs.Shards.{there_of, topic_asked, gives_of, IsStepOf}
use Rattle.channel_rules.specs.declared.refusal.Refusal.{Refusal}
use Rattle.shard_pool.specs.declared.reply.Reply.{Reply}
use Rattle.shard_pool.specs.Seated.{IsDueOnceNoted}
use Rattle.shard_pool.specs.Seats.{Hands, CalledAt, shard_of}
use Rattle.serve_ports.specs.Asking.{Asked, AskedOr, PoolStep, value_of}

-- a reply, its value seen otherwise
abbrev seen : {A B : Type 0} → (A → B) → Result (Reply A) ShardFault → Result (Reply B) ShardFault
seen f (Ok r) = Ok (record { shard = r.shard; number = r.number; value = f r.value })
seen f (Err e) = Err e

seen_value : {A B : Type 0} (f : A → B) (r : Result (Reply A) ShardFault) → seen_by f (value_of r) ≡ value_of (seen f r)
seen_value f (Ok r) = refl
seen_value f (Err e) = refl

module _ {A B : Type 0} (f : A → B) (here : ℕ → History → Type 0) (there found : History → Bool) (same : (h : History) → there h ≡ found h) (old new : Hands) (s : ℕ) (step : Step)
    (GA : History → A → Type 0) (GB : History → B → Type 0) (kept : (h : History) (x : A) → GA h x → GB h (f x)) where
  due : {C : Type 0} (r : Result (Reply C) ShardFault) (h : History) → IsDueOnceNoted r (refusal (there h) h step) → IsDueOnceNoted r (refusal (found h) h step)
  due r h d = subst (λ (b : Bool). IsDueOnceNoted r (refusal b h step)) (same h) d

  seen_call : (r : Result (Reply A) ShardFault) → CalledAt here there old new s step GA r → CalledAt here found old new s step GB (seen f r)
  seen_call (Ok r) c =
      let h = c.call.history in
      record {
        others = c.others;
        shard = c.shard;
        call = record {
          history = h;
          left = c.call.left;
          legal = c.call.legal;
          here = c.call.here;
          made = c.call.made;
          notes = c.call.notes;
          due = due (Ok (record { shard = r.shard; number = r.number; value = f r.value })) h c.call.due;
          answer = (c.call.answer.0, c.call.answer.1, kept h r.value c.call.answer.2);
        };
      }
  seen_call (Err AlreadyTracked) c = record { others = c.others; shard = c.shard; call = record { history = c.call.history; left = c.call.left; legal = c.call.legal; here = c.call.here; made = c.call.made; notes = c.call.notes; answer = c.call.answer; due = due {C = B} (Err AlreadyTracked) c.call.history c.call.due } }
  seen_call (Err NoPresence) c = record { others = c.others; shard = c.shard; call = record { history = c.call.history; left = c.call.left; legal = c.call.legal; here = c.call.here; made = c.call.made; notes = c.call.notes; answer = c.call.answer; due = due {C = B} (Err NoPresence) c.call.history c.call.due } }
  seen_call (Err ClockFull) c = record { others = c.others; shard = c.shard; call = record { history = c.call.history; left = c.call.left; legal = c.call.legal; here = c.call.here; made = c.call.made; notes = c.call.notes; answer = c.call.answer; due = due {C = B} (Err ClockFull) c.call.history c.call.due } }
  seen_call (Err JournalFull) c = record { others = c.others; shard = c.shard; call = record { history = c.call.history; left = c.call.left; legal = c.call.legal; here = c.call.here; made = c.call.made; notes = c.call.notes; answer = c.call.answer; due = due {C = B} (Err JournalFull) c.call.history c.call.due } }
  seen_call (Err NoSub) c = record { others = c.others; shard = c.shard; call = record { history = c.call.history; left = c.call.left; legal = c.call.legal; here = c.call.here; made = c.call.made; notes = c.call.notes; answer = c.call.answer; due = due {C = B} (Err NoSub) c.call.history c.call.due } }
  seen_call (Err BadIncarnation) c = record { others = c.others; shard = c.shard; call = record { history = c.call.history; left = c.call.left; legal = c.call.legal; here = c.call.here; made = c.call.made; notes = c.call.notes; answer = c.call.answer; due = due {C = B} (Err BadIncarnation) c.call.history c.call.due } }
  seen_call (Err OutOfMemory) c = record { others = c.others; shard = c.shard; call = record { history = c.call.history; left = c.call.left; legal = c.call.legal; here = c.call.here; made = c.call.made; notes = c.call.notes; answer = c.call.answer; due = due {C = B} (Err OutOfMemory) c.call.history c.call.due } }

-- what the pool's call gave, as the question is given it
module _ {A : Type 0} (here : ℕ → History → Type 0) (n pid : ℕ) (q : Ask) (view : A → Given q) (step : Step) (there : History → Bool) (Gives : History → A → Type 0) (is : IsStepOf pid q view step there Gives) where
  pub asked_so : (t : List ℕ) → t ≡ topic_asked q → (old new : Hands) (a : Result A Refusal) → Asked here there n old new t step Gives a → PoolStep here n pid old q (seen_by view a) new
  asked_so t named old new a h =
      subst (λ (o : Option Step). AskedOr here (there_of q) n old new (topic_asked q) o (gives_of pid q) (seen_by view a)) (sym is.is)
      (record {
        reply = seen view h.reply;
        called = subst (λ (u : List ℕ). CalledAt here (there_of q) old new (shard_of u n) step (gives_of pid q) (seen view h.reply)) named
            (seen_call view here there (there_of q) is.found old new (shard_of t n) step Gives (gives_of pid q) is.given h.reply h.called);
        told = ap (seen_by view) h.told ∙ seen_value view h.reply;
      })

-- the pool's call, its value told
pub called_so : {A : Type 0} (here : ℕ → History → Type 0) (there : History → Bool) (n : ℕ) (old new : Hands) (t : List ℕ) (step : Step) (Gives : History → A → Type 0) (r : Result (Reply A) ShardFault) (a : Result A Refusal)
    → CalledAt here there old new (shard_of t n) step Gives r → a ≡ value_of r → Asked here there n old new t step Gives a
called_so here there n old new t step Gives r a called told = record { reply = r; called = called; told = told }
