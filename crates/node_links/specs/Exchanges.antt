-- The exchanges of a link: what a node does for each line that comes.
use Rattle.std.specs.Prelude.{ℕ, Bool, true, false, nat_le, cond, ◌==◌, List, [], ◌∷◌, ◌++◌, slice_index_or, Option, Some, None, Result, Ok, Err}
use Rattle.presence_base.specs.declared.dots.Replica.{Replica}
use Rattle.presence_base.specs.Order.{same_replica, same_text}
use Rattle.orswot_core.specs.declared.form.Form.{Form}
use Rattle.orswot_core.specs.declared.form.Form.TheVariants.{One, Two}
use Rattle.link_lines.specs.declared.hearer.Hearer.{Hearer}
use Rattle.link_lines.specs.declared.hearer.Telling.{Telling}
use Rattle.link_lines.specs.declared.lines.Line.{Line}
use Rattle.link_lines.specs.declared.lines.Line.TheVariants as lines_are
use Rattle.link_lines.specs.Limits.{is_form}
use Rattle.link_lines.specs.declared.fault.LinkFault.{LinkFault}
use Rattle.link_lines.specs.declared.fault.LinkFault.TheVariants.{BadLine, OtherShards}
use Rattle.node_links.specs.declared.action.LinkAction.{LinkAction}
use Rattle.node_links.specs.declared.action.LinkAction.TheVariants as actions_are
use Rattle.node_links.specs.declared.peer.End.{End}
use Rattle.node_links.specs.declared.peer.End.TheVariants.{Dialling, Accepting}

-- a node's own replica, and that of each shard by its number where some shard is still an earlier one; how many shards there
-- are; its end of the link, the highest form that it speaks, and who spoke at the other end, with the link's form
pub record PeerValue : Type 0 where
  pub own : Replica
  pub owns : Option (List Replica)
  pub shards : ℕ
  pub end : End
  pub speaks : Form
  pub other : Option (Replica × Form)

-- who spoke, and the link's form
abbrev pub who : Option (Replica × Form) → Option Replica
who None = None
who (Some x) = Some x.0

abbrev pub link_form : Option (Replica × Form) → Option Form
link_form None = None
link_form (Some x) = Some x.1

-- the node's own replica at a shard: where none is kept of it, that which its hello names
abbrev pub own_at : Replica → Option (List Replica) → ℕ → Replica
own_at own None k = own
own_at own (Some owns) k = slice_index_or owns k own

-- what a peer knows of the next line
abbrev pub hearer_of : PeerValue → Hearer
hearer_of p = record { shards = p.shards; form = link_form p.other }

-- the form of a version that is told, or of none
abbrev pub form_told : Option ℕ → Form
form_told None = One
form_told (Some v) = cond (nat_le v 1) One Two

-- the version that a form's hello tells
abbrev pub version_of : Form → Option ℕ
version_of One = None
version_of Two = Some 2

-- the lower of two
abbrev pub lesser : Form → Form → Form
lesser One form = One
lesser Two form = form

-- the form of a dialling end's next hello, where one of this form was answered by none: the first behind any other, and behind
-- the first the highest again
abbrev pub next_form : Form → Form → Form
next_form highest One = highest
next_form highest Two = One

-- a link of the first form is begun anew where this node speaks the second, and so does who is there
abbrev pub begins_anew : (speaks theirs link : Form) → Bool
begins_anew Two Two One = true
begins_anew _ _ _ = false

-- nothing is told, or what is told has the link's form
abbrev pub is_told_in : Form → Option Telling → Bool
is_told_in form None = true
is_told_in form (Some t) = is_form (Some form) t.form

-- the hello that this end tells
abbrev pub hello_of : PeerValue → Line
hello_of p = lines_are.Hello p.own p.shards (version_of p.speaks)

abbrev pub Actions : Type 0
Actions = List LinkAction

abbrev pub answer : Line → Actions
answer line = actions_are.Answer line ∷ []

abbrev pub ok : Actions
ok = answer lines_are.Ok

-- the accepting end answers a hello with its own, in the link's form
abbrev pub greeting_by : Replica → ℕ → End → Form → Actions
greeting_by own shards Accepting form = answer (lines_are.Hello own shards (version_of form))
greeting_by own shards Dialling form = []

-- the first line is a hello, and names as many shards
abbrev pub at_first : PeerValue → Line → Result Actions LinkFault
at_first p (lines_are.Hello r n v) =
    cond (n == p.shards) (Ok (greeting_by p.own p.shards p.end (lesser p.speaks (form_told v)))) (Err OtherShards)
at_first p _ = Err BadLine

-- the replica was heard at this time; one that is gone is told so, and nothing more is done
abbrev pub heard : ℕ → ℕ → Replica → Actions
heard now k r = actions_are.UnlessGone k r ∷ actions_are.Heard k r now ∷ []

-- What counts as heard beside a beat: whatever comes of a line over a link behind its hello, be the line of any kind, whole or not yet,
-- read or waiting to be. It counts for the replica that the hello named, at each shard, and for nobody else.
abbrev pub heard_by : Option (Replica × Form) → ℕ → ℕ → Actions
heard_by None now k = []
heard_by (Some x) now k = heard now k x.0

abbrev pub on_bytes : PeerValue → ℕ → ℕ → Actions
on_bytes p now k = heard_by p.other now k

abbrev pub merge : ℕ → Option Telling → Actions
merge k None = []
merge k (Some t) = actions_are.Merge k t.told ∷ []

-- a beat of another replica
abbrev pub on_beat : ℕ → ℕ → Replica → ℕ → Option Telling → Actions
on_beat now k r c t = heard now k r ++ merge k t ++ actions_are.AnswerTop k r c ∷ []

-- what this node counted above the top is wanted, or all that it knows of another, in the link's form
abbrev pub on_want : Replica → Form → ℕ → Replica → ℕ → Actions
on_want own form k r top = actions_are.AnswerTold k (cond (same_replica r own) (Some top) None) form ∷ []

abbrev pub on_told : ℕ → Telling → Actions
on_told k t = actions_are.Merge k t.told ∷ ok

-- a beat and a permdown are of the node at the other end, in whatever life, or of this node itself
abbrev pub is_theirs : Replica → Replica → Bool
is_theirs other r = same_text r.name other.name

-- what a line about a replica asks for: nothing where that is the node itself; a name that isn't the one at the other end is refused
abbrev pub of_theirs : (own other r : Replica) → Actions → Result Actions LinkFault
of_theirs own other r actions = cond (same_replica r own) (Ok ok) (cond (is_theirs other r) (Ok actions) (Err BadLine))

abbrev pub on_permdown : Replica → Actions
on_permdown r = actions_are.PermDown r ∷ ok

abbrev pub on_gone : Replica → Replica → Actions
on_gone own r = cond (same_replica r own) (actions_are.GivenUp ∷ []) []

-- A line behind the hello, at the node that is this replica, and at its shards those, where this is at the other end, on a link of
-- this form. A beat and a want are of a shard, and so about what that shard is; the others are about the node. What is told in the
-- other form is refused before it is looked at whom the line is about.
abbrev pub later : Replica → Option (List Replica) → Replica × Form → ℕ → Line → Result Actions LinkFault
later own owns x now (lines_are.Hello r n v) = Err BadLine
later own owns x now (lines_are.Beat k r c t) =
    cond (is_told_in x.1 t) (of_theirs (own_at own owns k) x.0 r (on_beat now k r c t)) (Err BadLine)
later own owns x now (lines_are.Want k r top) = Ok (on_want (own_at own owns k) x.1 k r top)
later own owns x now (lines_are.Told k t) = cond (is_told_in x.1 (Some t)) (Ok (on_told k t)) (Err BadLine)
later own owns x now (lines_are.PermDown r) = of_theirs own x.0 r (on_permdown r)
later own owns x now (lines_are.Gone r) = Ok (on_gone own r)
later own owns x now lines_are.Ok = Ok []

abbrev pub actions_by : PeerValue → ℕ → Line → Option (Replica × Form) → Result Actions LinkFault
actions_by p now line None = at_first p line
actions_by p now line (Some x) = later p.own p.owns x now line

-- what a line asks for at this time, or why it is refused
abbrev pub actions_of : PeerValue → ℕ → Line → Result Actions LinkFault
actions_of p now line = actions_by p now line p.other

-- who spoke, and the link's form, are known from the hello on: the form is the lower one of both ends
abbrev pub known_from : PeerValue → Line → Option (Replica × Form)
known_from p (lines_are.Hello r n v) = Some (r, lesser p.speaks (form_told v))
known_from p _ = p.other

-- the peer behind a line that was not refused
abbrev pub after : PeerValue → Line → PeerValue
after p line =
    record { own = p.own; owns = p.owns; shards = p.shards; end = p.end; speaks = p.speaks; other = known_from p line }
