-- Over a lent shard what follows a script is what the script comes to over the table.
use Rattle.std.proofs.Common.{◌≡◌, ◌∷◌, ℕ, List, [], Result, Ok, Err, ◌∙◌, ap}
use Rattle.phx_message.specs.declared.message.Message.{Message}
use Rattle.presence_journal.specs.History.{History}
use Rattle.channel_rules.specs.Asks.{Ask, Answer, Call, Made}
use Rattle.channel_rules.specs.Delivering.{delivery}
use Rattle.channel_rules.specs.InForce.{InForce}
use Rattle.presence_stdio.specs.Local.{LocalStep, Heeds, played}
use Rattle.channel_rules.specs.Outcome.{Follows, EndsSo}
use Rattle.channel_rules.specs.Rules.{End, answers, full, memory, rules}
use Rattle.channel_rules.specs.Said.{Said}
use Rattle.channel_rules.specs.Script.{Script}
use Rattle.channel_rules.specs.declared.stop.Stop.{Stop}
use Rattle.channel_rules.specs.declared.stop.StopKind.{StopKind}
use Rattle.channel_rules.specs.declared.stop.StopKind.TheVariants.{OutOfMemory, ShardFull}
use Rattle.presence_stdio.proofs.Heeding.{rules_heed, delivers_heed}
use Rattle.presence_stdio.proofs.Locals.{played_is}

abbrev pub StopsAt : StopKind → End × History → History → Type 0
StopsAt ShardFull x new = x ≡ (full, new)
StopsAt OutOfMemory x new = Unit {0}

-- the end and the history are these, unless memory is wanted
abbrev pub ComesTo : Result End Stop → End × History → History → Type 0
ComesTo (Ok (answers said after)) x new = x ≡ (answers said after, new)
ComesTo (Ok full) x new = x ≡ (full, new)
ComesTo (Ok memory) x new = Unit {0}
ComesTo (Err stop) x new = StopsAt stop.kind x new

answers_apart : (said : List Said) (after : InForce) → answers said after ≡ memory → ⊥
answers_apart said after h = cc

full_apart : full ≡ memory → ⊥
full_apart h = cc

module _ (pid : ℕ) (script : Script End) (heeds : Heeds memory script) (old new : History) (calls : List Call) (made : Made (LocalStep pid) old calls new) where
  stopped_at : (kind : StopKind) (spoiled : _) → EndsSo script calls (Err (record { kind = kind; spoiled = spoiled })) → ComesTo (Err (record { kind = kind; spoiled = spoiled })) (played pid script old) new
  stopped_at OutOfMemory spoiled h = tt
  stopped_at ShardFull spoiled h = played_is memory pid script calls full old new heeds h.0 made full_apart

  comes_to : (result : Result End Stop) → EndsSo script calls result → ComesTo result (played pid script old) new
  comes_to (Ok (answers said after)) h = played_is memory pid script calls (answers said after) old new heeds h made (answers_apart said after)
  comes_to (Ok full) h = played_is memory pid script calls full old new heeds h made full_apart
  comes_to (Ok memory) h = tt
  comes_to (Err stop) h = stopped_at stop.kind stop.spoiled h

pub follows_played : (pid : ℕ) (script : Script End) → Heeds memory script → (old new : History) (result : Result End Stop) → Follows (LocalStep pid) script old new result → ComesTo result (played pid script old) new
follows_played pid script heeds old new result f = comes_to pid script heeds old new f.made f.calls result f.ends

pub rules_played : (pid : ℕ) (routes : List (List ℕ × ℕ)) (s : InForce) (m : Message) (old new : History) (result : Result End Stop) → Follows (LocalStep pid) (rules routes s m) old new result → ComesTo result (played pid (rules routes s m) old) new
rules_played pid routes s m = follows_played pid (rules routes s m) (rules_heed routes s m)

pub delivery_played : (pid : ℕ) (max : ℕ) (s : InForce) (old new : History) (result : Result End Stop) → Follows (LocalStep pid) (delivery max s) old new result → ComesTo result (played pid (delivery max s) old) new
delivery_played pid max s = follows_played pid (delivery max s) (delivers_heed max s s.joined [])

-- ---- a port that holds a shard

module _ {P : Type 0} (pid : ℕ) (step : P → (q : Ask) → Answer q → P → Type 0) (now : P → History) (is_local : (old new : P) (q : Ask) (a : Answer q) → step old q a new → LocalStep pid (now old) q a (now new)) where
  pub made_local : (calls : List Call) (old new : P) → Made step old calls new → Made (LocalStep pid) (now old) calls (now new)
  made_local [] old new h = ap now h
  made_local (c ∷ cs) old new h = (now h.0, is_local old h.0 c.ask c.answer h.1, made_local cs h.0 new h.2)

  pub follows_local : (script : Script End) (old new : P) (result : Result End Stop) → Follows step script old new result → Follows (LocalStep pid) script (now old) (now new) result
  follows_local script old new result f = record { made = f.made; calls = made_local f.made old new f.calls; ends = f.ends }

-- what no call changes
module _ {P N : Type 0} (step : P → (q : Ask) → Answer q → P → Type 0) (name : P → N) (keeps : (old new : P) (q : Ask) (a : Answer q) → step old q a new → name new ≡ name old) where
  pub made_keeps : (calls : List Call) (old new : P) → Made step old calls new → name new ≡ name old
  made_keeps [] old new h = ap name h
  made_keeps (c ∷ cs) old new h = made_keeps cs h.0 new h.2 ∙ keeps old h.0 c.ask c.answer h.1

  pub follows_keeps : (script : Script End) (old new : P) (result : Result End Stop) → Follows step script old new result → name new ≡ name old
  follows_keeps script old new result f = made_keeps f.made old new f.calls
