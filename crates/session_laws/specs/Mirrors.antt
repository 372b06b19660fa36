-- What a client makes of the messages of a topic, and what it is that its lists mirror rows.
use Rattle.std.specs.Prelude.{◌≡◌, ℕ, List, [], ◌∷◌, ◌++◌, ◌&&◌, cond, nat_eq, if◌then◌else◌, Option, Some, None, Result, Ok, Err}
use Rattle.serde_json.specs.Data.{Data}
use Rattle.presence_base.specs.Order.{same_text}
use Rattle.presence_base.specs.Refs.{ref_of}
use Rattle.presence_base.specs.declared.dots.Dot.{Dot}
use Rattle.presence_base.specs.declared.row.Row.{Row}
use Rattle.phx_message.specs.declared.message.Message.{Message}
use Rattle.presence_journal.specs.declared.rows.Item.{Item}
use Rattle.presence_journal.specs.declared.step.Step.{Step}
use Rattle.presence_journal.specs.declared.step.Step.TheVariants as steps_are
use Rattle.presence_journal.specs.History.{History, Begin, Then}
use Rattle.presence_journal.specs.Queue.{Waiting, topic_at, is_current, first_taken, queue, topic_of, listed_for, given}
use Rattle.presence_metas.specs.Fold.{meta_at, after_frame}
use Rattle.presence_metas.specs.Frames.{frame_in}
use Rattle.presence_metas.specs.Listing.{Listing}
use Rattle.presence_metas.specs.Rows.{tracked_of}
use Rattle.presence_metas.specs.declared.frame.Frame.{Frame}
use Rattle.presence_metas.specs.declared.frame.FrameFault.{FrameFault}
use Rattle.channel_rules.specs.Asks.{Ask, Answer, track, update, untrack, untrack_all, list, get, subscribe, take, unsubscribe, waits, shout}

-- a client's lists after what it read: a message that is no frame of presences leaves them
abbrev pub after_reading : Listing → Result Frame FrameFault → Listing
after_reading ls (Ok f) = after_frame ls f
after_reading ls (Err e) = ls

-- a client's lists after messages
abbrev pub mirror_from : Listing → List Message → Listing
mirror_from ls [] = ls
mirror_from ls (m ∷ ms) = mirror_from (after_reading ls (frame_in m)) ms

-- the meta of the row of this key whose dot has this reference, with its references, if there is such a row
abbrev pub told_at : List (Dot × Row) → List ℕ → List ℕ → Option Data
told_at [] k r = None
told_at (x ∷ xs) k r =
    if (same_text x.1.key k && same_text (ref_of x.0) r) then Some (tracked_of x.0 x.1).meta else told_at xs k r

-- at each key and reference the lists have the meta of the row of that key and reference, and nothing where there is none
abbrev pub Mirrors : Listing → List (Dot × Row) → Type 0
Mirrors ls rows = (k r : List ℕ) → meta_at ls k r ≡ told_at rows k r

abbrev pub given_after : Step → ℕ → List (Dot × Row) → Waiting → List Item → List Item
given_after (steps_are.Take m max) n rows w before = cond (nat_eq m n) (before ++ given rows max w) before
given_after _ n rows w before = before

-- all that a subscriber was ever given, the oldest first; one that a Start counts as current has the state of the Start's rows
-- in place of all that it was given before
unfoldable pub given_to : History → ℕ → List Item
given_to (Begin s) n = first_taken (is_current s.current n) (listed_for (Begin s) (topic_at s.subscribers n))
given_to (Then h e) n = given_after e.step n (listed_for h (topic_of h n)) (queue h n) (given_to h n)

-- what a call gives the subscriber of this number
abbrev pub given_by : (q : Ask) → Answer q → ℕ → List Item
given_by (take t sub max) (Ok items) n = cond (nat_eq sub.number n) items []
given_by (take t sub max) (Err e) n = []
given_by (track t k m) a n = []
given_by (update t k m) a n = []
given_by (untrack t k) a n = []
given_by (untrack_all t) a n = []
given_by (list t) a n = []
given_by (get t k) a n = []
given_by (subscribe t) a n = []
given_by (unsubscribe t sub) a n = []
given_by (waits t sub) a n = []
given_by (shout t p) a n = []
