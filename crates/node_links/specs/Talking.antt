-- What a call for one exchange does to the stream, the peer and the port, at either end of a link.
use Rattle.std.specs.Prelude.{◌≡◌, ℕ, Bool, true, false, length, Option, Some, None, Result, Ok, Err}
use Rattle.orswot_core.specs.declared.form.Form.{Form}
use Rattle.orswot_core.specs.declared.form.Form.TheVariants.{One, Two}
use Rattle.orswot_core.specs.Telling.{ToldValue}
use Rattle.link_lines.specs.declared.lines.Line.{Line}
use Rattle.link_lines.specs.declared.lines.Line.TheVariants as lines_are
use Rattle.link_lines.specs.declared.hearer.Telling.{Telling}
use Rattle.link_lines.specs.declared.fault.LinkFault.{LinkFault}
use Rattle.link_lines.specs.declared.fault.LinkFault.TheVariants.{LineTooLong}
use Rattle.link_lines.specs.Results.{Answers}
use Rattle.node_links.specs.Bytes.{Known}
use Rattle.node_links.specs.Streams.{ReadsLine, WritesLine}
use Rattle.node_links.specs.Exchanges.{PeerValue, hearer_of, Actions, actions_of, after, on_bytes}
use Rattle.node_links.specs.declared.act_outcome.Act.{Act}
use Rattle.node_links.specs.declared.port.ActFault.{ActFault}
use Rattle.node_links.specs.Asks.{Answer, full}
use Rattle.node_links.specs.Acting.{Steps, Acts}
use Rattle.node_links.specs.declared.outcome.Exchanged.{Exchanged}
use Rattle.node_links.specs.declared.outcome.Exchanged.TheVariants.{Done, GivenUp, Untold}
use Rattle.node_links.specs.declared.outcome.Untold.{Untold as UntoldValue}
use Rattle.node_links.specs.declared.link.Link.{Link}
use Rattle.node_links.specs.declared.fault.DialFault.{DialFault}
use Rattle.node_links.specs.declared.fault.DialFault.TheVariants as faults_are

-- what a call is lent
pub record Lent (S P : Type 0) : Type 0 where
  pub stream : S
  pub peer : PeerValue
  pub port : P

abbrev pub lent : {S P : Type 0} → S → PeerValue → P → Lent S P
lent s p q = record { stream = s; peer = p; port = q }

abbrev pub over : {S P : Type 0} → Link S → P → Lent S P
over link port = lent link.stream link.peer port

-- the same peer and port with this stream
abbrev pub at : {S P : Type 0} → S → Lent S P → Lent S P
at s x = lent s x.peer x.port

abbrev pub acted : Result Act ActFault → Result Act DialFault
acted (Ok act) = Ok act
acted (Err e) = Err (faults_are.Act e)

abbrev pub linked : {A : Type 0} → A → Result Unit LinkFault → Result A DialFault
linked x (Ok done) = Ok x
linked x (Err e) = Err (faults_are.Link e)

-- The actions are done. Of a refused line, or where memory is wanting for its actions, none is.
abbrev pub DoesAsked : {P : Type 0} → Steps P → (P → ℕ) → Line → Result Actions LinkFault → PeerValue → PeerValue → P
    → P → Result Act DialFault → Type 0
DoesAsked step shards line (Ok xs) p p' q q' r = (p' ≡ after p line) × (a : Result Act ActFault)
    × Acts step shards xs q q' a × (r ≡ acted a)
DoesAsked step shards line (Err e) p p' q q' r = (p' ≡ p) × (q' ≡ q) × (r ≡ Err (faults_are.Link e))

-- a line is heard at this time, and acted upon
abbrev pub Hears : {P : Type 0} → Steps P → (P → ℕ) → ℕ → Line → PeerValue → PeerValue → P → P → Result Act DialFault
    → Type 0
Hears step shards now line p p' q q' r = (asked : Result Actions LinkFault) × Answers asked (actions_of p now line)
    × DoesAsked step shards line asked p p' q q' r

-- the actions are done, unless memory is wanting for them
abbrev pub DoesActions : {P : Type 0} → Steps P → (P → ℕ) → Result Actions LinkFault → P → P → Result Act DialFault → Type 0
DoesActions step shards (Ok xs) q q' r = (a : Result Act ActFault) × Acts step shards xs q q' a × (r ≡ acted a)
DoesActions step shards (Err e) q q' r = (q' ≡ q) × (r ≡ Err (faults_are.Link e))

-- something of a line came at this time, and a shard hears who is there
abbrev pub HearsBytes : {P : Type 0} → Steps P → (P → ℕ) → ℕ → ℕ → PeerValue → P → P → Result Act DialFault → Type 0
HearsBytes step shards now k p q q' r = (asked : Result Actions LinkFault) × Answers asked (Ok (on_bytes p now k))
    × DoesActions step shards asked q q' r

abbrev pub heard : Result Act DialFault → Result (Option Act) DialFault
heard (Ok act) = Ok (Some act)
heard (Err f) = Err f

-- the line that was read, where there was one, is heard
abbrev pub HearsRead : {P : Type 0} → Steps P → (P → ℕ) → ℕ → Result (Option Line) LinkFault → PeerValue → PeerValue
    → P → P → Result (Option Act) DialFault → Type 0
HearsRead step shards now (Ok (Some line)) p p' q q' r = (a : Result Act DialFault)
    × Hears step shards now line p p' q q' a × (r ≡ heard a)
HearsRead step shards now (Ok None) p p' q q' r = (p' ≡ p) × (q' ≡ q) × (r ≡ Ok None)
HearsRead step shards now (Err e) p p' q q' r = (p' ≡ p) × (q' ≡ q) × (r ≡ Err (faults_are.Link e))

-- one line is read and heard, or none at an end between lines
abbrev pub Takes : {S P : Type 0} → (S → Known) → Steps P → (P → ℕ) → ℕ → Lent S P → Lent S P
    → Result (Option Act) DialFault → Type 0
Takes left step shards now old new r = (read : Result (Option Line) LinkFault)
    × ReadsLine (hearer_of old.peer) (left old.stream) (left new.stream) read
    × HearsRead step shards now read old.peer new.peer old.port new.port r

-- what is told, with its form
abbrev pub in_form : Form → ToldValue → Telling
in_form form t = record { form = form; told = t }

-- what stands beside the rows: extras, or in the second form ranges
abbrev pub beside_in : Form → ToldValue → ℕ
beside_in One t = length t.extras
beside_in Two t = length t.ranges

abbrev pub untold : ℕ → Telling → UntoldValue
untold k t = record { shard = k; size = Some (record { rows = length t.told.live; beside = beside_in t.form t.told }) }

-- of a shard that has more than a line takes no value is made
abbrev pub uncounted : ℕ → UntoldValue
uncounted k = record { shard = k; size = None }

-- nothing stays untold where the line went out
abbrev pub sent : UntoldValue → Result Unit LinkFault → Result (Option UntoldValue) DialFault
sent u (Ok done) = Ok None
sent u (Err LineTooLong) = Ok (Some u)
sent u (Err e) = Err (faults_are.Link e)

-- all that a shard tells goes out, unless it is too long
abbrev pub WritesAll : {S : Type 0} → (S → Known) → ℕ → Form → Result (Option ToldValue) ActFault → S → S
    → Result (Option UntoldValue) DialFault → Type 0
WritesAll out k form (Ok None) s s' r = (s' ≡ s) × (r ≡ Ok (Some (uncounted k)))
WritesAll out k form (Ok (Some t)) s s' r = (w : Result Unit LinkFault)
    × WritesLine (lines_are.Told k (in_form form t)) (out s) (out s') w × (r ≡ sent (untold k (in_form form t)) w)
WritesAll out k form (Err e) s s' r = (s' ≡ s) × (r ≡ Err (faults_are.Act e))

-- the shard is asked for all of it in the form
abbrev pub AsksForAll : {S P : Type 0} → (S → Known) → Steps P → ℕ → Form → S → S → P → P
    → Result (Option UntoldValue) DialFault → Type 0
AsksForAll out step k form s s' q q' r = (a : Answer (full k form)) × step q (full k form) a q'
    × WritesAll out k form a s s' r

-- in the place of a told value that is too long all of the shard goes out, unless that is too long as well
abbrev pub WritesElse : {S P : Type 0} → (S → Known) → Steps P → ℕ → Form → Result Unit LinkFault → S → S → P → P
    → Result (Option UntoldValue) DialFault → Type 0
WritesElse out step k form (Ok done) s s' q q' r = (s' ≡ s) × (q' ≡ q) × (r ≡ Ok None)
WritesElse out step k form (Err LineTooLong) s s' q q' r = AsksForAll out step k form s s' q q' r
WritesElse out step k form (Err e) s s' q q' r = (s' ≡ s) × (q' ≡ q) × (r ≡ Err (faults_are.Link e))

abbrev pub WritesTold : {S P : Type 0} → (S → Known) → Steps P → ℕ → Telling → S → S → P → P
    → Result (Option UntoldValue) DialFault → Type 0
WritesTold {S} out step k t s s' q q' r = (mid : S) × (w : Result Unit LinkFault)
    × WritesLine (lines_are.Told k t) (out s) (out mid) w × WritesElse out step k t.form w mid s' q q' r

-- once it was written, whatever stays untold
abbrev pub done : {A B : Type 0} → B → Result A DialFault → Result B DialFault
done x (Ok written) = Ok x
done x (Err f) = Err f

-- The line that is answered, where one is, goes out. In the place of a told value that is too long all of the shard does,
-- and where that is too long as well nothing does: the link goes on.
abbrev pub WritesAnswer : {S P : Type 0} → (S → Known) → Steps P → Option Line → S → S → P → P → Result Unit DialFault
    → Type 0
WritesAnswer out step None s s' q q' r = (s' ≡ s) × (q' ≡ q) × (r ≡ Ok tt)
WritesAnswer out step (Some (lines_are.Told k t)) s s' q q' r = (w : Result (Option UntoldValue) DialFault)
    × WritesTold out step k t s s' q q' w × (r ≡ done tt w)
WritesAnswer out step (Some line) s s' q q' r = (w : Result Unit LinkFault) × WritesLine line (out s) (out s') w
    × (q' ≡ q) × (r ≡ linked tt w)

abbrev pub AnswersTaken : {S P : Type 0} → (S → Known) → Steps P → Result (Option Act) DialFault → Lent S P → Lent S P
    → Result Bool DialFault → Type 0
AnswersTaken out step (Ok None) old new r = (new ≡ old) × (r ≡ Ok false)
AnswersTaken {S} {P} out step (Ok (Some act)) old new r = (w : Result Unit DialFault)
    × WritesAnswer out step act.answer old.stream new.stream old.port new.port w
    × (new.peer ≡ old.peer) × (r ≡ done true w)
AnswersTaken out step (Err f) old new r = (new ≡ old) × (r ≡ Err f)

-- At the accepting end: one line is read and acted upon, and its answer goes out.
abbrev pub Accepts : {S P : Type 0} → (left out : S → Known) → Steps P → (P → ℕ) → ℕ → Lent S P → Lent S P
    → Result Bool DialFault → Type 0
Accepts {S} {P} left out step shards now old new r = (mid : Lent S P) × (taken : Result (Option Act) DialFault)
    × Takes left step shards now old mid taken × AnswersTaken out step taken mid new r

abbrev pub AnswersHeard : {S P : Type 0} → (S → Known) → Steps P → Result Act DialFault → Lent S P → Lent S P
    → Result Unit DialFault → Type 0
AnswersHeard out step (Ok act) old new r =
    WritesAnswer out step act.answer old.stream new.stream old.port new.port r × (new.peer ≡ old.peer)
AnswersHeard out step (Err f) old new r = (new ≡ old) × (r ≡ Err f)

-- The same of a line that was read before: it is acted upon, and its answer goes out.
abbrev pub AnswersLine : {S P : Type 0} → (S → Known) → Steps P → (P → ℕ) → ℕ → Line → Lent S P → Lent S P
    → Result Unit DialFault → Type 0
AnswersLine {S} {P} out step shards now line old new r = (p : PeerValue) × (q : P) × (act : Result Act DialFault)
    × Hears step shards now line old.peer p old.port q act × AnswersHeard out step act (lent old.stream p q) new r

-- a beat without its delta
abbrev pub bare : Line → Option Line
bare (lines_are.Beat k r c t) = Some (lines_are.Beat k r c None)
bare _ = None

abbrev pub WritesBare : {S : Type 0} → (S → Known) → Option Line → S → S → Result Unit LinkFault → Type 0
WritesBare out None s s' r = (s' ≡ s) × (r ≡ Err LineTooLong)
WritesBare out (Some line) s s' r = WritesLine line (out s) (out s') r

abbrev pub WritesAgain : {S : Type 0} → (S → Known) → Line → Result Unit LinkFault → S → S → Result Unit LinkFault
    → Type 0
WritesAgain out line (Err LineTooLong) s s' r = WritesBare out (bare line) s s' r
WritesAgain out line w s s' r = (s' ≡ s) × (r ≡ w)

-- the line goes out; of a beat that is too long, the beat without its delta
abbrev pub WritesGiven : {S : Type 0} → (S → Known) → Line → S → S → Result Unit LinkFault → Type 0
WritesGiven {S} out line s s' r = (mid : S) × (w : Result Unit LinkFault) × WritesLine line (out s) (out mid) w
    × WritesAgain out line w mid s' r

-- whether the own incarnation is gone at the other end
abbrev pub outcome_of : Bool → Exchanged
outcome_of true = GivenUp
outcome_of false = Done

abbrev pub ends_with : Result (Option Act) DialFault → Result Exchanged DialFault
ends_with (Ok None) = Ok Done
ends_with (Ok (Some act)) = Ok (outcome_of act.given_up)
ends_with (Err f) = Err f

-- behind a told line that went out one line more is read and heard
abbrev pub TakesMore : {S P : Type 0} → (S → Known) → Steps P → (P → ℕ) → ℕ → Result (Option UntoldValue) DialFault
    → Lent S P → Lent S P → Result Exchanged DialFault → Type 0
TakesMore left step shards now (Ok None) old new r = (taken : Result (Option Act) DialFault)
    × Takes left step shards now old new taken × (r ≡ ends_with taken)
TakesMore left step shards now (Ok (Some u)) old new r = (new ≡ old) × (r ≡ Ok (Untold u))
TakesMore left step shards now (Err f) old new r = (new ≡ old) × (r ≡ Err f)

-- this told value goes out, or what stands in its place
abbrev pub Tells : {S P : Type 0} → (left out : S → Known) → Steps P → (P → ℕ) → ℕ → ℕ × Telling → Lent S P
    → Lent S P → Result Exchanged DialFault → Type 0
Tells {S} {P} left out step shards now told old new r = (s : S) × (q : P) × (w : Result (Option UntoldValue) DialFault)
    × WritesTold out step told.0 told.1 old.stream s old.port q w
    × TakesMore left step shards now w (lent s old.peer q) new r

-- of what would be answered a told value alone goes out, with its shard
abbrev pub if_told : Line → Option (ℕ × Telling)
if_told (lines_are.Told k t) = Some (k, t)
if_told _ = None

abbrev pub told_in : Option Line → Option (ℕ × Telling)
told_in None = None
told_in (Some line) = if_told line

-- where nothing is told: nothing was wanted, or nothing that a line takes
abbrev pub outcome_without : Bool → Option ℕ → Exchanged
outcome_without true untold = GivenUp
outcome_without false (Some k) = Untold (uncounted k)
outcome_without false None = Done

abbrev pub TellsWanted : {S P : Type 0} → (left out : S → Known) → Steps P → (P → ℕ) → ℕ → Exchanged
    → Option (ℕ × Telling) → Lent S P → Lent S P → Result Exchanged DialFault → Type 0
TellsWanted left out step shards now else None old new r = (new ≡ old) × (r ≡ Ok else)
TellsWanted left out step shards now else (Some told) old new r = Tells left out step shards now told old new r

abbrev pub TellsAct : {S P : Type 0} → (left out : S → Known) → Steps P → (P → ℕ) → ℕ → Act → Lent S P → Lent S P
    → Result Exchanged DialFault → Type 0
TellsAct left out step shards now act old new r =
    TellsWanted left out step shards now (outcome_without act.given_up act.untold) (told_in act.answer) old new r

abbrev pub TellsTaken : {S P : Type 0} → (left out : S → Known) → Steps P → (P → ℕ) → ℕ → Result (Option Act) DialFault
    → Lent S P → Lent S P → Result Exchanged DialFault → Type 0
TellsTaken left out step shards now (Ok None) old new r = (new ≡ old) × (r ≡ Ok Done)
TellsTaken left out step shards now (Ok (Some act)) old new r = TellsAct left out step shards now act old new r
TellsTaken left out step shards now (Err f) old new r = (new ≡ old) × (r ≡ Err f)

abbrev pub GoesOn : {S P : Type 0} → (left out : S → Known) → Steps P → (P → ℕ) → ℕ → Result Unit LinkFault → Lent S P
    → Lent S P → Result Exchanged DialFault → Type 0
GoesOn {S} {P} left out step shards now (Ok done) old new r = (mid : Lent S P)
    × (taken : Result (Option Act) DialFault)
    × Takes left step shards now old mid taken × TellsTaken left out step shards now taken mid new r
GoesOn left out step shards now (Err e) old new r = (new ≡ old) × (r ≡ Err (faults_are.Link e))

-- At the dialling end: the given line goes out, one line is read and acted upon, and where a told value is wanted that
-- goes out, or all of the shard where that alone fits a line, and one line more is read and acted upon.
abbrev pub Exchanges : {S P : Type 0} → (left out : S → Known) → Steps P → (P → ℕ) → ℕ → Line → Lent S P → Lent S P
    → Result Exchanged DialFault → Type 0
Exchanges {S} left out step shards now line old new r = (s : S) × (w : Result Unit LinkFault)
    × WritesGiven out line old.stream s w × GoesOn left out step shards now w (at s old) new r

-- whether an exchange came to the own incarnation being gone at the other end
abbrev pub gives_up : Exchanged → Bool
gives_up GivenUp = true
gives_up _ = false

abbrev pub gave_up : Result Exchanged DialFault → Result Bool DialFault
gave_up (Ok o) = Ok (gives_up o)
gave_up (Err f) = Err f

-- the same, of which only that is told
abbrev pub Dials : {S P : Type 0} → (left out : S → Known) → Steps P → (P → ℕ) → ℕ → Line → Lent S P → Lent S P
    → Result Bool DialFault → Type 0
Dials left out step shards now line old new r = (o : Result Exchanged DialFault)
    × Exchanges left out step shards now line old new o × (r ≡ gave_up o)
