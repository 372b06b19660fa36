-- What a call adds to what is counted.
use Rattle.std.specs.Prelude.{ℕ, ◌+◌, ◌%◌, ◌^◌, List, [], ◌∷◌, Result, Ok, Err, Option, Some, None}
use Rattle.presence_journal.specs.declared.rows.Item.{Item}
use Rattle.presence_journal.specs.declared.rows.Item.TheVariants.{State, Diff, Shout}
use Rattle.tracker_shard.specs.declared.fault.ShardFault.TheVariants as faults
use Rattle.channel_rules.specs.Asks.{Ask, Answer, track, update, untrack, untrack_all, list, get, subscribe, take, unsubscribe, waits, shout}
use Rattle.channel_rules.specs.declared.refusal.Refusal.{Refusal}
use Rattle.channel_rules.specs.declared.refusal.Refusal.TheVariants.{OverRation, NotGranted, Table}
use Rattle.serve_ports.specs.declared.tally.Tally.{Tally}
use Rattle.serve_ports.specs.declared.tally.Kind.{Kind}
use Rattle.serve_ports.specs.declared.tally.Kind.TheVariants as kinds

-- a count behind one more
abbrev pub one_more : ℕ → ℕ
one_more n = (n + 1) % 2 ^ 64

-- behind an accepted call of this kind
abbrev pub accepted : Tally → Kind → Tally
accepted t kinds.Join = record t { joins = one_more t.joins }
accepted t kinds.Leave = record t { leaves = one_more t.leaves }
accepted t kinds.Track = record t { tracks = one_more t.tracks }
accepted t kinds.Update = record t { updates = one_more t.updates }
accepted t kinds.Untrack = record t { untracks = one_more t.untracks }
accepted t kinds.List = record t { lists = one_more t.lists }
accepted t kinds.Get = record t { gets = one_more t.gets }
accepted t kinds.Shout = record t { shouts = one_more t.shouts }

-- behind a call that was refused for this
abbrev pub refused_for : Tally → Refusal → Tally
refused_for t OverRation = record t { full = one_more t.full }
refused_for t (Table faults.AlreadyTracked) = record t { already_tracked = one_more t.already_tracked }
refused_for t (Table faults.NoPresence) = record t { no_presence = one_more t.no_presence }
refused_for t (Table faults.ClockFull) = record t { full = one_more t.full }
refused_for t (Table faults.JournalFull) = record t { journal_full = one_more t.journal_full }
refused_for t NotGranted = record t { others = one_more t.others }
refused_for t (Table faults.NoSub) = record t { others = one_more t.others }
refused_for t (Table faults.BadIncarnation) = record t { others = one_more t.others }
refused_for t (Table faults.OutOfMemory) = record t { no_memory = one_more t.no_memory }

-- it counts among all refused ones too
abbrev pub refusing : Tally → Refusal → Tally
refusing t refusal = refused_for (record t { refused = one_more t.refused }) refusal

-- behind a call of this kind that was accepted, or refused for this
abbrev pub called : Tally → Kind → Option Refusal → Tally
called t kind None = accepted t kind
called t kind (Some fault) = refusing t fault

-- why a call was refused that was answered so
abbrev pub refusal_of : {A : Type 0} → Result A Refusal → Option Refusal
refusal_of (Ok a) = None
refusal_of (Err refusal) = Some refusal

abbrev pub with_item : Tally → Item → Tally
with_item t (State rows) = record t { states = one_more t.states }
with_item t (Diff diff) = record t { diffs = one_more t.diffs }
with_item t (Shout payload) = record t { shouts_told = one_more t.shouts_told }

-- behind these items
abbrev pub with_items : Tally → List Item → Tally
with_items t [] = t
with_items t (item ∷ items) = with_items (with_item t item) items

-- behind a take that was answered so
abbrev pub taken : Tally → {E : Type 0} → Result (List Item) E → Tally
taken t (Ok items) = with_items t items
taken t (Err fault) = t

-- behind a call that no client asks for: only that it was refused counts
abbrev pub unasked : Tally → Option Refusal → Tally
unasked t None = t
unasked t (Some fault) = refusing t fault

-- Behind a call of which only the items of a take are told, that was accepted, or refused for this. What only asks whether
-- something waits counts for nothing.
abbrev pub counted_as : Tally → Ask → Option Refusal → Tally
counted_as t (track topic key meta) r = called t kinds.Track r
counted_as t (update topic key meta) r = called t kinds.Update r
counted_as t (untrack topic key) r = called t kinds.Untrack r
counted_as t (untrack_all topic) r = unasked t r
counted_as t (list topic) r = called t kinds.List r
counted_as t (get topic key) r = called t kinds.Get r
counted_as t (subscribe topic) r = called t kinds.Join r
counted_as t (take topic sub max) r = t
counted_as t (unsubscribe topic sub) r = called t kinds.Leave r
counted_as t (waits topic sub) r = t
counted_as t (shout topic payload) r = called t kinds.Shout r

-- Behind a call that was answered so.
abbrev pub counted : Tally → (q : Ask) → Answer q → Tally
counted t (take topic sub max) a = taken t a
counted t q a = counted_as t q (refusal_of a)
