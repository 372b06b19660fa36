-- Where rows are kept, and in which order.
use Rattle.std.specs.Prelude.{ℕ, Bool, List}
use Rattle.std.specs.declared.cmp.Ordering.{Ordering}
use Rattle.std.specs.Ordering.{eq_by_cmp}
use Rattle.std.specs.declared.ops.Bound.TheVariants.{Included}
use Rattle.std.specs.BTreeMap.Range.{range_contains}
use Rattle.presence_base.specs.declared.dots.Dot.{Dot}
use Rattle.presence_base.specs.declared.row.Row.{Row}
use Rattle.presence_journal.specs.declared.rows.Place.{Place}
use Rattle.presence_journal.specs.Present.{place_of}
use Rattle.tracker_shown.specs.declared.stand.Mark.{Mark}
use Rattle.tracker_shown.specs.declared.stand.Mark.TheVariants as marks
use Rattle.tracker_shown.specs.declared.stand.Holder.{Holder}
use Rattle.tracker_shown.specs.declared.stand.Stand.{Stand}
use Rattle.tracker_shown.specs.declared.stand.Ends.{Ends}
use Rattle.tracker_shown.specs.contracts.stand.StandOrd.TheImpl.{ghosts}

-- by holder, topic, key and dot
abbrev pub stand_cmp : Stand → Stand → Ordering
stand_cmp = ghosts.cmp

abbrev pub same_stand : Stand → Stand → Bool
same_stand = eq_by_cmp stand_cmp

-- where a row is kept for a holder
abbrev pub stand : Holder → List ℕ → Place → Stand
stand w t p = record { holder = w; topic = t; key = marks.At p.key; dot = marks.At p.dot }

-- where a row is kept that has this dot
abbrev pub stand_of : Holder → Dot → Row → Stand
stand_of w d r = stand w r.topic (place_of d r)

-- the ends of a topic
abbrev pub topic_ends : Holder → List ℕ → Ends
topic_ends w t = record {
  first = record { holder = w; topic = t; key = marks.First; dot = marks.First };
  last = record { holder = w; topic = t; key = marks.Last; dot = marks.Last };
}

-- an end of a key of a topic
abbrev pub key_end : Holder → List ℕ → List ℕ → Mark Dot → Stand
key_end w t k end = record { holder = w; topic = t; key = marks.At k; dot = end }

abbrev pub key_ends : Holder → List ℕ → List ℕ → Ends
key_ends w t k = record { first = key_end w t k marks.First; last = key_end w t k marks.Last }

abbrev pub is_between : Ends → Stand → Bool
is_between e s = range_contains stand_cmp (Included e.first) (Included e.last) s
