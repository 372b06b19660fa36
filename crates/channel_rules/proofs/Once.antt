-- Rules that make calls one after another.
use Rattle.std.proofs.Common.{◌≡◌, List, [], ◌∷◌, Bool, true, false, Result, Ok, Err, IfErr, refl, sym, ◌∙◌}
use Rattle.std.proofs.Math.Bool.{or-false}
use Rattle.channel_rules.specs.Asks.{Ask, Answer, Call, spoils, enters}
use Rattle.channel_rules.specs.Script.{Script, done, ask}
use Rattle.channel_rules.specs.Rules.{End}
use Rattle.channel_rules.specs.Outcome.{Follows, GivesEnd, Stops, Stopped, EndsSo, MayWant, seen, spoilt}
use Rattle.channel_rules.specs.declared.stop.Stop.{Stop}
use Rattle.channel_rules.specs.declared.stop.StopKind.{StopKind}
use Rattle.channel_rules.specs.declared.stop.StopKind.TheVariants.{OutOfMemory, ShardFull}

stopped_now : (kind : StopKind) (e : End) → Stops kind e → Stopped kind (done e) []
stopped_now OutOfMemory e h = (h, refl)
stopped_now ShardFull e h = h

ends_now : (e : End) (r : Result End Stop) → GivesEnd e false r → EndsSo (done e) [] r
ends_now e (Ok given) h = h
ends_now e (Err stop) h = (stopped_now stop.kind e h.0, h.1)

module _ {P : Type 0} (step : P → (q : Ask) → Answer q → P → Type 0) where
  -- a rule that makes no call
  pub at_once : (e : End) (old : P) (r : Result End Stop) → GivesEnd e false r → Follows step (done e) old old r
  at_once e old r h = record { made = []; calls = refl; ends = ends_now e r h }

  -- memory that runs out before any call
  pub unasked : (script : Script End) (old : P) (stop : Stop) → MayWant script → stop.kind ≡ OutOfMemory → stop.spoiled ≡ false → Follows step script old old (Err stop)
  unasked script old stop h k s = record { made = []; calls = refl; ends = (rw k (h, refl), s) }

-- a fault leaves no subscriber that this call made
abbrev pub Heeds : (q : Ask) → Answer q → Result End Stop → Type 0
Heeds q a r = (stop : Stop) → r ≡ Err stop → enters q a ≡ false

pub heeds_seen : {T : Type 0} (view : T → End) (r : Result T Stop) (b : Bool) → IfErr r (λ _. b ≡ false) → (stop : Stop) → seen view r ≡ Err stop → b ≡ false
heeds_seen view (Ok t) b h stop e = absurd (cc)
heeds_seen view (Err k) b h stop e = h

module _ (q : Ask) (next : Answer q → Script End) (a : Answer q) where
  stopped_once : (kind : StopKind) (e : End) → next a ≡ done e → Stops kind e → enters q a ≡ false → Stopped kind (ask q next) (record { ask = q; answer = a } ∷ [])
  stopped_once OutOfMemory e is h quiet = ((a, refl, rw is h), or-false (enters q a) ∙ quiet)
  stopped_once ShardFull e is h quiet = (a, refl, rw is h)

  ends_once : (e : End) (r : Result End Stop) → next a ≡ done e → GivesEnd e (spoils q a) r → Heeds q a r → EndsSo (ask q next) (record { ask = q; answer = a } ∷ []) r
  ends_once e (Ok given) is h heeds = (a, refl, rw is h)
  ends_once e (Err stop) is h heeds = (stopped_once stop.kind e is h.0 (heeds stop refl), h.1 ∙ sym (or-false (spoils q a)))

  stopped_more : (kind : StopKind) (cs : List Call) → enters q a ≡ false → Stopped kind (next a) cs → Stopped kind (ask q next) (record { ask = q; answer = a } ∷ cs)
  stopped_more OutOfMemory cs quiet h = ((a, refl, h.0), rw quiet h.1)
  stopped_more ShardFull cs quiet h = (a, refl, h)

  ends_more : (cs : List Call) (r : Result End Stop) → enters q a ≡ false → spoils q a ≡ true → EndsSo (next a) cs r → EndsSo (ask q next) (record { ask = q; answer = a } ∷ cs) (spoilt r)
  ends_more cs (Ok end) quiet s h = (a, refl, h)
  ends_more cs (Err stop) quiet s h = (stopped_more stop.kind cs quiet h.0, rw s refl)

  ends_clean : (cs : List Call) (r : Result End Stop) → enters q a ≡ false → spoils q a ≡ false → EndsSo (next a) cs r → EndsSo (ask q next) (record { ask = q; answer = a } ∷ cs) r
  ends_clean cs (Ok end) quiet s h = (a, refl, h)
  ends_clean cs (Err stop) quiet s h = (stopped_more stop.kind cs quiet h.0, rw s h.1)

module _ {P : Type 0} (step : P → (q : Ask) → Answer q → P → Type 0) (q : Ask) (next : Answer q → Script End) (a : Answer q) where
  -- a rule whose call was its last, and may have made a subscriber
  pub once_heeding : (e : End) (old new : P) (r : Result End Stop) → step old q a new → next a ≡ done e → GivesEnd e (spoils q a) r → Heeds q a r → Follows step (ask q next) old new r
  once_heeding e old new r h is g heeds = record { made = record { ask = q; answer = a } ∷ []; calls = (new, h, refl); ends = ends_once q next a e r is g heeds }

  -- a rule whose call was its last
  pub once : (e : End) (old new : P) (r : Result End Stop) → step old q a new → next a ≡ done e → enters q a ≡ false → GivesEnd e (spoils q a) r → Follows step (ask q next) old new r
  once e old new r h is quiet g = once_heeding e old new r h is g (λ _ _. quiet)

  -- a rule that goes on after a call that leaves something behind
  pub more : (old mid new : P) (r : Result End Stop) → step old q a mid → enters q a ≡ false → spoils q a ≡ true → Follows step (next a) mid new r → Follows step (ask q next) old new (spoilt r)
  more old mid new r h quiet s f = record { made = record { ask = q; answer = a } ∷ f.made; calls = (mid, h, f.calls); ends = ends_more q next a f.made r quiet s f.ends }

  -- a rule that goes on after a call that leaves nothing behind
  pub more_clean : (old mid new : P) (r : Result End Stop) → step old q a mid → enters q a ≡ false → spoils q a ≡ false → Follows step (next a) mid new r → Follows step (ask q next) old new r
  more_clean old mid new r h quiet s f = record { made = record { ask = q; answer = a } ∷ f.made; calls = (mid, h, f.calls); ends = ends_clean q next a f.made r quiet s f.ends }
