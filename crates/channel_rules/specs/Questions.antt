-- Calls as questions, and what a port answers to them by itself.
use Rattle.std.specs.Prelude.{Option, Some, None}
use Rattle.channel_rules.specs.Asks.{Ask, Given, track, update, untrack, untrack_all, list, get, subscribe, take, unsubscribe, waits, shout}
use Rattle.channel_rules.specs.declared.question.Question.{Question}
use Rattle.channel_rules.specs.declared.question.Question.TheVariants as questions
use Rattle.channel_rules.specs.declared.question.Told.{Told}
use Rattle.channel_rules.specs.declared.question.Told.TheVariants as told

abbrev pub asks : Question → Ask
asks (questions.Track c) = track c.topic.now c.key.now c.meta.now
asks (questions.Update c) = update c.topic.now c.key.now c.meta.now
asks (questions.Untrack c) = untrack c.topic.now c.key.now
asks (questions.UntrackAll c) = untrack_all c.topic.now
asks (questions.List c) = list c.topic.now
asks (questions.Get c) = get c.topic.now c.key.now
asks (questions.Subscribe c) = subscribe c.topic.now
asks (questions.Take c) = take c.topic.now c.sub c.max
asks (questions.Unsubscribe c) = unsubscribe c.topic.now c.sub
asks (questions.Waits c) = waits c.topic.now c.sub
asks (questions.Shout c) = shout c.topic.now c.payload.now

-- this, as what the question is given, where it is such a one
abbrev pub given_as : (q : Ask) → Told → Option (Given q)
given_as (list t) (told.Rows rows) = Some rows
given_as (get t k) (told.Got rows) = Some rows.items
given_as (take t s n) (told.Items items) = Some items.items
given_as (waits t s) (told.Waits w) = Some w
given_as _ x = None
