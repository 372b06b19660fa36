-- The lives of a node: what it does once another node has given it up, and which links are of which life.
use Rattle.std.specs.Prelude.{◌≡◌, ◌<◌, ℕ, Bool, true, false, ◌||◌, ◌==◌, ◌+◌, ◌-◌, ◌^◌, max, nat_le, nat_lt, cond, Option, Some, None, option_map}
use Rattle.presence_base.specs.declared.dots.Replica.{Replica}
use Rattle.presence_base.specs.declared.dots.TheConstants.{MAX_COUNT}
use Rattle.presence_base.specs.Order.{same_replica}
use Rattle.link_lines.specs.declared.lines.Line.{Line}
use Rattle.link_lines.specs.declared.lines.Line.TheVariants.{PermDown}
use Rattle.link_rules.specs.declared.lives.Life.{Life}
use Rattle.link_rules.specs.declared.lives.Course.{Course}
use Rattle.link_rules.specs.declared.lives.Course.TheVariants.{HasGoneOn, GoesOn, Waits, StaysGone}
use Rattle.link_rules.specs.declared.lives.Came.{Came}
use Rattle.link_rules.specs.declared.lives.Came.TheVariants.{Now, Later, Never}
use Rattle.link_rules.specs.declared.lives.Coming.{Coming}
use Rattle.link_rules.specs.declared.lives.TheConstants.{MOST_AHEAD}
use Rattle.link_rules.specs.declared.rebirths.Rebirths.{Rebirths}
use Rattle.link_rules.specs.Rebirths.{no_rebirths, and_one, are_many}

-- the node as it begins
abbrev pub first_life : Replica → Life
first_life own =
    record { own = own; before = None; is_late = false; turn = 0; told = 0; rebirths = no_rebirths }

-- the next incarnation, where there is one
abbrev pub course_behind : ℕ → Course
course_behind i = cond (nat_lt i MAX_COUNT) (GoesOn (i + 1)) StaysGone

-- What is done where a link is told at this time that its own hello's replica is gone: of the node as it is now, it goes on under the
-- next incarnation above all that it was told of, unless it did so often of late; a hello of before is nobody's any more.
abbrev pub course_of : Life → Replica → ℕ → Course
course_of life hello now = cond (same_replica hello life.own)
    (cond (are_many life.rebirths now) Waits (course_behind (max life.own.incarnation life.told))) HasGoneOn

-- an incarnation is above the node's own by no more than that
abbrev pub is_ahead : (own i : ℕ) → Bool
is_ahead own i = nat_le (i - own) MOST_AHEAD

-- a link told of a life of the node's name: of one too far ahead nothing is kept
abbrev pub hears_of : Life → ℕ → Life
hears_of life i = record {
  own = life.own;
  before = life.before;
  is_late = life.is_late;
  turn = life.turn;
  told = cond (is_ahead life.own.incarnation i) (max life.told i) life.told;
  rebirths = life.rebirths;
}

-- the turn behind one: none is met twice, unless all were
abbrev pub turn_behind : ℕ → ℕ
turn_behind n = cond (nat_lt n (2 ^ 64 - 1)) (n + 1) 0

-- a shard goes on where its own incarnation is below the node's
abbrev pub is_due : (shard node : ℕ) → Bool
is_due shard node = nat_lt shard node

abbrev pub none_came : Coming
none_came = record { has_some = false; has_late = false; has_refused = false }

-- what came of one shard more
abbrev pub and_came : Coming → Came → Coming
and_came all Now = record { has_some = true; has_late = all.has_late; has_refused = all.has_refused }
and_came all Later = record { has_some = all.has_some; has_late = true; has_refused = all.has_refused }
and_came all Never = record { has_some = all.has_some; has_late = all.has_late; has_refused = true }

-- all links begin anew where some shard has gone on
abbrev pub turn_for : Life → Coming → ℕ
turn_for life came = cond came.has_some (turn_behind life.turn) life.turn

-- the rebirths, with one more where some shard has gone on
abbrev pub rebirths_for : Life → Coming → ℕ → Rebirths
rebirths_for life came now = cond came.has_some (and_one life.rebirths now) life.rebirths

-- the node under an incarnation
abbrev pub named_anew : Replica → ℕ → Replica
named_anew own i = record { name = own.name; incarnation = i }

-- the next life, in which the node says first that the one before is over
abbrev pub life_behind : Life → ℕ → Coming → ℕ → Life
life_behind life i came now = record {
  own = named_anew life.own i;
  before = Some life.own;
  is_late = came.has_late;
  turn = turn_behind life.turn;
  told = life.told;
  rebirths = and_one life.rebirths now;
}

-- where a shard refuses for good the node's hello stays, and the next life goes above that incarnation
abbrev pub life_refused : Life → ℕ → Coming → ℕ → Life
life_refused life i came now = record {
  own = life.own;
  before = life.before;
  is_late = life.is_late;
  turn = turn_for life came;
  told = max life.told i;
  rebirths = rebirths_for life came now;
}

-- the life behind the shards' answers to a node that was given up
abbrev pub life_after : Life → ℕ → Coming → ℕ → Life
life_after life i came now = cond came.has_refused (life_refused life i came now) (life_behind life i came now)

-- the life behind the answers of shards that were tried again: one that refused is tried once more
abbrev pub life_retried : Life → Coming → Life
life_retried life came = record {
  own = life.own;
  before = life.before;
  is_late = came.has_late || came.has_refused;
  turn = turn_for life came;
  told = life.told;
  rebirths = life.rebirths;
}

-- a link is of this life
abbrev pub is_of : Life → ℕ → Bool
is_of life turn = turn == life.turn

-- the first line behind a hello: that the life before is over
abbrev pub first_line : Life → Option Line
first_line life = option_map PermDown life.before

-- Behind the life that answers it a hello is nobody's any more: a node that is told so over several links, or by two nodes at
-- once, goes on once for each of its lives.
abbrev pub GoesOnOnce : Type 0
GoesOnOnce = (life : Life) (i : ℕ) (came : Coming) (now later : ℕ) → came.has_refused ≡ false
    → course_of life life.own now ≡ GoesOn i → course_of (life_after life i came now) life.own later ≡ HasGoneOn

-- the incarnation under which a node goes on is above its own, and above each that it was told of
abbrev pub GoesAbove : Type 0
GoesAbove = (life : Life) (hello : Replica) (now i : ℕ) → course_of life hello now ≡ GoesOn i
    → (life.own.incarnation < i) × (life.told < i)
