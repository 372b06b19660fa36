-- What the actions of a line ask of a port, and what comes of them.
use Rattle.std.specs.Prelude.{◌≡◌, ℕ, zero, suc, true, false, if◌then◌else◌, nat_lt, List, [], ◌∷◌, Option, Some, None, Result, Ok, Err}
use Rattle.presence_base.specs.declared.dots.Replica.{Replica}
use Rattle.orswot_core.specs.declared.form.Form.{Form}
use Rattle.orswot_core.specs.Telling.{ToldValue}
use Rattle.replica_status.specs.declared.status.Status.{Status}
use Rattle.replica_status.specs.declared.status.Status.TheVariants.{Gone}
use Rattle.link_lines.specs.declared.lines.Line.{Line}
use Rattle.link_lines.specs.declared.lines.Line.TheVariants as lines_are
use Rattle.node_links.specs.declared.action.LinkAction.{LinkAction}
use Rattle.node_links.specs.declared.action.LinkAction.TheVariants as actions_are
use Rattle.node_links.specs.declared.act_outcome.Act.{Act}
use Rattle.node_links.specs.declared.port.ActFault.{ActFault}
use Rattle.node_links.specs.declared.turn.Turn.{Turn}
use Rattle.node_links.specs.declared.turn.Turn.TheVariants.{Next, Last}
use Rattle.node_links.specs.Asks.{Ask, status, heard, merge, permdown, top, told_from, full, Given, Answer}

-- before any action: nothing is answered
abbrev pub silent : Act
silent = record { answer = None; given_up = false; untold = None }

-- this line is answered
abbrev pub answers : Act → Line → Act
answers act line = record { answer = Some line; given_up = act.given_up; untold = act.untold }

abbrev pub gives_up : Act → Act
gives_up act = record { answer = act.answer; given_up = true; untold = act.untold }

-- no line takes what is wanted of a shard
abbrev pub leaves_untold : Act → ℕ → Act
leaves_untold act k = record { answer = act.answer; given_up = act.given_up; untold = Some k }

-- a replica that is gone is told so, and ends what is done
abbrev pub unless_gone : Act → Replica → Status → Turn
unless_gone act r Gone = Last (answers act (lines_are.Gone r))
unless_gone act r _ = Next act

-- what lies above the top is wanted where that is below the count
abbrev pub wanted : ℕ → Replica → ℕ → ℕ → Line
wanted k r count n = if nat_lt n count then lines_are.Want k r n else lines_are.Ok

abbrev pub asks_for : Act → ℕ → Replica → ℕ → ℕ → Turn
asks_for act k r count n = Next (answers act (wanted k r count n))

abbrev pub tells : Act → ℕ → Form → Option ToldValue → Turn
tells act k form (Some t) = Next (answers act (lines_are.Told k (record { form = form; told = t })))
tells act k form None = Next (leaves_untold act k)

-- what each call of a port does: from the one to the other this was asked and this answered
abbrev pub Steps : Type 0 → Type 1
Steps P = P → (q : Ask) → Answer q → P → Type 0

-- what comes of an answer; a refusal stays one
abbrev pub comes_to : {A B : Type 0} → (A → B) → Result A ActFault → Result B ActFault
comes_to f (Ok x) = Ok (f x)
comes_to f (Err e) = Err e

-- this was asked, and this came of the answer
abbrev pub Asks : {P B : Type 0} → Steps P → (q : Ask) → (Given q → B) → P → P → Result B ActFault → Type 0
Asks step q f old new r = (a : Answer q) × step old q a new × (r ≡ comes_to f a)

-- where it was accepted what follows goes on from there; a refusal is the end
abbrev pub GoesOn : {P A B : Type 0} → (A → P → P → Result B ActFault → Type 0) → Result A ActFault → P → P
    → Result B ActFault → Type 0
GoesOn next (Ok x) mid new r = next x mid new r
GoesOn next (Err e) mid new r = (new ≡ mid) × (r ≡ Err e)

-- the replica is put down on so many shards, from this number on, up to the first that refuses
abbrev pub Downs : {P : Type 0} → Steps P → Replica → (count k : ℕ) → P → P → Result Unit ActFault → Type 0
Downs step q zero k old new r = (new ≡ old) × (r ≡ Ok tt)
Downs {P} step q (suc n) k old new r = (a : Answer (permdown k q)) × (mid : P) × step old (permdown k q) a mid
    × GoesOn (λ _. Downs step q n (suc k)) a mid new r

-- the replica is put down on every shard
abbrev pub DownsAll : {P : Type 0} → Steps P → (P → ℕ) → Replica → Act → P → P → Result Turn ActFault → Type 0
DownsAll step shards q act old new r = (a : Result Unit ActFault) × Downs step q (shards old) 0 old new a
    × (r ≡ comes_to (λ _. Next act) a)

-- the shard is asked in the form for what it counted above a count, or for all
abbrev pub IsAsked : {P : Type 0} → Steps P → ℕ → Option ℕ → Form → P → P → Result (Option ToldValue) ActFault → Type 0
IsAsked step k (Some n) form old new r = step old (told_from k n form) r new
IsAsked step k None form old new r = step old (full k form) r new

-- and that is told
abbrev pub Tells : {P : Type 0} → Steps P → ℕ → Act → Option ℕ → Form → P → P → Result Turn ActFault → Type 0
Tells step k act from form old new r = (a : Result (Option ToldValue) ActFault) × IsAsked step k from form old new a
    × (r ≡ comes_to (tells act k form) a)

-- One action, a line each: what it asks, and what comes of the answer.
abbrev pub Does : {P : Type 0} → Steps P → (P → ℕ) → LinkAction → Act → P → P → Result Turn ActFault → Type 0
Does step shards (actions_are.UnlessGone k q) act old new r = Asks step (status k q) (unless_gone act q) old new r
Does step shards (actions_are.Heard k q now) act old new r = Asks step (heard k q now) (λ _. Next act) old new r
Does step shards (actions_are.Merge k t) act old new r = Asks step (merge k t) (λ _. Next act) old new r
Does step shards (actions_are.PermDown q) act old new r = DownsAll step shards q act old new r
Does step shards (actions_are.AnswerTop k q c) act old new r = Asks step (top k q) (asks_for act k q c) old new r
Does step shards (actions_are.AnswerTold k from form) act old new r = Tells step k act from form old new r
Does step shards (actions_are.Answer line) act old new r = (new ≡ old) × (r ≡ Ok (Next (answers act line)))
Does step shards actions_are.GivenUp act old new r = (new ≡ old) × (r ≡ Ok (Next (gives_up act)))

abbrev pub Turns : {P : Type 0} → (Act → P → P → Result Act ActFault → Type 0) → Turn → P → P → Result Act ActFault
    → Type 0
Turns next (Next act) mid new r = next act mid new r
Turns next (Last act) mid new r = (new ≡ mid) × (r ≡ Ok act)

-- the actions one after another, behind what is answered so far
abbrev pub Plays : {P : Type 0} → Steps P → (P → ℕ) → List LinkAction → Act → P → P → Result Act ActFault → Type 0
Plays step shards [] act old new r = (new ≡ old) × (r ≡ Ok act)
Plays {P} step shards (x ∷ xs) act old new r = (turn : Result Turn ActFault) × (mid : P)
    × Does step shards x act old mid turn
    × GoesOn (Turns (Plays step shards xs)) turn mid new r

-- From the one port to the other the calls of the actions were made, in their order, up to a refusal or
-- a replica that is gone, and came to this.
abbrev pub Acts : {P : Type 0} → Steps P → (P → ℕ) → List LinkAction → P → P → Result Act ActFault → Type 0
Acts step shards xs old new r = Plays step shards xs silent old new r
