-- What a session's questions leave of what is in force and of its shard's history is as sound as they were.
use Rattle.std.proofs.Common.{◌≡◌, ◌&&◌, ℕ, Bool, true, false, not, nat_le, cond, length, List, Option, Some, None, Result, Ok, Err, IsTrue, codes, refl, subst}
use Rattle.std.specs.List.{AllByRecursion}
use Rattle.std.specs.declared.cmp.Ordering.{Ordering}
use Rattle.std.specs.declared.cmp.Ordering.TheVariants.{Less, Equal, Greater}
use Rattle.std.specs.Ordering.{nat_cmp, match_ordering}
use Rattle.std.specs.Cmp.Lexicographic.{slice_cmp}
use Rattle.std.proofs.lemmas.Bool.{and_parts, leb-true}
use Rattle.std.proofs.lemmas.Cmp.{nat_list_cmp_total}
use Rattle.serde_json.specs.Data.{Data, null, boolean, number, string, array, object, Members, no_members, member, depth}
use Rattle.serde_json.specs.Find.{get, get_member}
use Rattle.serde_json.specs.Written.{has_float, compact_text}
use Rattle.presence_base.specs.Metas.{is_plain, is_meta}
use Rattle.presence_base.specs.Names.{is_short_text}
use Rattle.presence_base.specs.Order.{same_text}
use Rattle.presence_base.specs.declared.dots.Dot.{Dot}
use Rattle.presence_base.specs.declared.row.Row.{Row}
use Rattle.phx_message.specs.Orderly.{IsBelow, IsOrderly, MembersAreOrderly}
use Rattle.phx_message.specs.declared.message.Message.{Message}
use Rattle.phx_message.specs.declared.message.MsgRef.{MsgRef}
use Rattle.presence_journal.specs.declared.entry.Outcome.{Outcome}
use Rattle.presence_journal.specs.declared.entry.Outcome.TheVariants as outcomes_are
use Rattle.presence_journal.specs.declared.step.Step.{Step}
use Rattle.presence_journal.specs.declared.step.Step.TheVariants as steps_are
use Rattle.presence_journal.specs.History.{History}
use Rattle.presence_journal.specs.Present.{listed}
use Rattle.presence_journal.specs.Table.{accepted, with_outcome, after, outcome_of, listed_key}
use Rattle.tracker_shard.specs.Steps.{refusal, is_found}
use Rattle.tracker_shard.specs.declared.fault.ShardFault.{ShardFault}
use Rattle.channel_rules.specs.declared.refusal.Refusal.{Refusal}
use Rattle.channel_rules.specs.Asked.{without_member, without_refs, given_meta, with_meta, with_key, by_key, asked}
use Rattle.channel_rules.specs.Asks.{Ask, track, update, untrack, untrack_all, list, get as get_rows, subscribe, take, unsubscribe, waits, shout}
use Rattle.channel_rules.specs.InForce.{Joined, InForce}
use Rattle.presence_stdio.specs.Local.{answer_to, after_unless, after_of, answer_in, after_in}
use Rattle.channel_rules.specs.Rules.{or_ref, join_ref_of}
use Rattle.channel_rules.specs.declared.asked.Asked.{Asked}
use Rattle.channel_rules.specs.declared.asked.Asked.TheVariants.{Nothing, Bad, Wants}
use Rattle.session_laws.proofs.SoundRows.{StepSound, HistorySound, listed_sound, listed_key_sound}
use Rattle.session_laws.proofs.SoundValues.{IsSound, IsHeard, RowsSound, RefSound}

-- a topic in force, with its join's reference
abbrev pub JoinedSound : Joined → Type 0
JoinedSound j = IsTrue (is_short_text j.topic) × RefSound j.join_ref

pub record StateSound (s : InForce) (h : History) : Type 0 where
  pub joined : AllByRecursion JoinedSound s.joined
  pub history : HistorySound h

-- ---- what a payload asks to be tracked

abbrev SomeOrderly : Option Data → Type 0
SomeOrderly None = Unit {0}
SomeOrderly (Some d) = IsOrderly d

member_orderly : (k : List ℕ) (ms : Members) → MembersAreOrderly ms → SomeOrderly (get_member k ms)
member_orderly k no_members h = tt
member_orderly k (member l d ms) h = go (slice_cmp nat_cmp k l) (member_orderly k ms h.2)
  where
    go : (o : Ordering) → SomeOrderly (get_member k ms) → SomeOrderly (match_ordering o (get_member k ms) (Some d) (get_member k ms))
    go Less more = more
    go Equal more = h.1
    go Greater more = more

get_orderly : (k : List ℕ) (d : Data) → IsOrderly d → SomeOrderly (get k d)
get_orderly k null h = tt
get_orderly k (boolean b) h = tt
get_orderly k (number n) h = tt
get_orderly k (string s) h = tt
get_orderly k (array ds) h = tt
get_orderly k (object ms) h = member_orderly k ms h

below_rest : (l j : List ℕ) (ms : Members) → slice_cmp nat_cmp l j ≡ Less → IsBelow j ms → IsBelow l ms
below_rest l j no_members e h = tt
below_rest l j (member i x ms) e h = nat_list_cmp_total.trans l j i e h

below_without : (l k : List ℕ) (ms : Members) → MembersAreOrderly ms → IsBelow l ms → IsBelow l (without_member k ms)
below_without l k no_members h b = tt
below_without l k (member j x ms) h b = go (same_text k j)
  where
    go : (c : Bool) → IsBelow l (cond c ms (member j x (without_member k ms)))
    go true = below_rest l j ms b h.0
    go false = b

without_orderly : (k : List ℕ) (ms : Members) → MembersAreOrderly ms → MembersAreOrderly (without_member k ms)
without_orderly k no_members h = tt
without_orderly k (member j x ms) h = go (same_text k j) (without_orderly k ms h.2)
  where
    go : (c : Bool) → MembersAreOrderly (without_member k ms) → MembersAreOrderly (cond c ms (member j x (without_member k ms)))
    go true more = h.2
    go false more = (below_without j k ms h.2 h.0, h.1, more)

refs_orderly : (d : Data) → IsOrderly d → IsOrderly (without_refs d)
refs_orderly null h = h
refs_orderly (boolean b) h = h
refs_orderly (number n) h = h
refs_orderly (string s) h = h
refs_orderly (array ds) h = h
refs_orderly (object ms) h = without_orderly (codes "phx_ref_prev") (without_member (codes "phx_ref") ms) (without_orderly (codes "phx_ref") ms h)

given_orderly : (o : Option Data) → SomeOrderly o → IsOrderly (given_meta o)
given_orderly None h = tt
given_orderly (Some d) h = refs_orderly d h

not_true : (b : Bool) → not b ≡ true → b ≡ false
not_true true e = absurd (cc)
not_true false e = refl

meta_sound : (d : Data) → is_meta d ≡ true → IsOrderly d → IsSound 32 d
meta_sound d e h =
    let small = (and_parts (is_plain d && nat_le (depth d) 32 && not (has_float d)) (nat_le (length (compact_text d)) 16384) e).0 in
    let tree = and_parts (is_plain d && nat_le (depth d) 32) (not (has_float d)) small in
    record { shallow = leb-true (depth d) 32 (and_parts (is_plain d) (nat_le (depth d) 32) tree.0).1; whole = not_true (has_float d) tree.1; orderly = h }

abbrev pub AskedSound : Asked → Type 0
AskedSound (Wants key meta) = IsSound 32 meta
AskedSound Nothing = Unit {0}
AskedSound Bad = Unit {0}

meta_asked : (key : List ℕ) (d : Data) → IsOrderly d → AskedSound (with_meta key d)
meta_asked key d h = go (is_meta d) refl
  where
    go : (b : Bool) → is_meta d ≡ b → AskedSound (cond b (Wants key d) Bad)
    go true e = meta_sound d e h
    go false e = tt

key_asked_sound : (payload d : Data) → IsOrderly payload → AskedSound (with_key payload d)
key_asked_sound payload null h = tt
key_asked_sound payload (boolean b) h = tt
key_asked_sound payload (number n) h = tt
key_asked_sound payload (array ds) h = tt
key_asked_sound payload (object ms) h = tt
key_asked_sound payload (string s) h = go (is_short_text s)
  where
    go : (b : Bool) → AskedSound (cond b (with_meta s (given_meta (get (codes "meta") payload))) Bad)
    go true = meta_asked s (given_meta (get (codes "meta") payload)) (given_orderly (get (codes "meta") payload) (get_orderly (codes "meta") payload h))
    go false = tt

by_key_sound : (payload : Data) (o : Option Data) → IsOrderly payload → AskedSound (by_key payload o)
by_key_sound payload None h = tt
by_key_sound payload (Some d) h = key_asked_sound payload d h

pub asked_sound : (payload : Data) → IsOrderly payload → AskedSound (asked payload)
unfolding asked
asked_sound payload h = by_key_sound payload (get (codes "key") payload) h

-- ---- what was heard

pub heard_ref : (m : Message) → IsHeard m → RefSound m.msg_ref
heard_ref m h = h.1.1.0

pub heard_join : (m : Message) → IsHeard m → RefSound (join_ref_of m)
heard_join m h = go m.join_ref h.1.0
  where
    go : (o : Option MsgRef) → RefSound o → RefSound (or_ref o m.msg_ref)
    go None k = heard_ref m h
    go (Some r) k = k

pub heard_payload : (m : Message) → IsHeard m → IsSound 64 m.payload
heard_payload m h = record { shallow = h.0.shallow; whole = h.0.whole; orderly = h.1.1.1.1.1.0 }

-- ---- the questions

abbrev pub AskSound : Ask → Type 0
AskSound (track t k m) = IsSound 32 m
AskSound (update t k m) = IsSound 32 m
AskSound (shout t p) = IsSound 64 p
AskSound _ = Unit {0}

pub after_sound : (h : History) (s : Step) → HistorySound h → StepSound s → HistorySound (after h s None)
unfolding after
after_sound h s k step = go (accepted h s)
  where
    go : (o : Option Outcome) → HistorySound (with_outcome h s None o)
    go None = k
    go (Some o) = (k, step)

of_sound : (found : Bool) (h : History) (s : Step) → HistorySound h → StepSound s → HistorySound (after_of found h s)
of_sound found h s k step = go (refusal found h s)
  where
    go : (r : Option ShardFault) → HistorySound (after_unless r h s)
    go None = after_sound h s k step
    go (Some e) = k

pub after_in_sound : (pid : ℕ) (h : History) (q : Ask) → HistorySound h → AskSound q → HistorySound (after_in pid h q)
unfolding after_in
after_in_sound pid h (track t key m) k a = of_sound true h (steps_are.Track pid t key m) k a
after_in_sound pid h (update t key m) k a = of_sound true h (steps_are.Update pid t key m) k a
after_in_sound pid h (untrack t key) k a = of_sound true h (steps_are.Untrack pid t key) k tt
after_in_sound pid h (untrack_all t) k a = of_sound true h (steps_are.UntrackAll pid t) k tt
after_in_sound pid h (list t) k a = of_sound true h (steps_are.List t) k tt
after_in_sound pid h (get_rows t key) k a = of_sound true h (steps_are.Get t key) k tt
after_in_sound pid h (subscribe t) k a = of_sound true h (steps_are.Subscribe t) k tt
after_in_sound pid h (take t sub max) k a = of_sound (is_found h sub.slot sub.number) h (steps_are.Take sub.number max) k tt
after_in_sound pid h (unsubscribe t sub) k a = of_sound (is_found h sub.slot sub.number) h (steps_are.Unsubscribe sub.number) k tt
after_in_sound pid h (waits t sub) k a = k
after_in_sound pid h (shout t p) k a = of_sound true h (steps_are.Shout t p) k a

-- ---- rows that are answered

abbrev OkRows : Result (List (Dot × Row)) Refusal → Type 0
OkRows (Ok rows) = RowsSound rows
OkRows (Err e) = Unit {0}

answer_rows : (r : Option ShardFault) (o : Option Outcome) (rows : List (Dot × Row)) → RowsSound rows → OkRows (answer_to r o rows)
answer_rows (Some e) o rows h = tt
answer_rows None None rows h = h
answer_rows None (Some (outcomes_are.Added d)) rows h = h
answer_rows None (Some (outcomes_are.Replaced d old)) rows h = h
answer_rows None (Some outcomes_are.AlreadyTracked) rows h = tt
answer_rows None (Some outcomes_are.NoPresence) rows h = tt
answer_rows None (Some (outcomes_are.Removed ds)) rows h = h
answer_rows None (Some (outcomes_are.Shown ds)) rows h = h
answer_rows None (Some (outcomes_are.Subscribed n)) rows h = h
answer_rows None (Some (outcomes_are.Taken state items)) rows h = h
answer_rows None (Some outcomes_are.Ended) rows h = h
answer_rows None (Some outcomes_are.Sent) rows h = h
answer_rows None (Some outcomes_are.Noted) rows h = h
answer_rows None (Some (outcomes_are.CutAt from to)) rows h = h
answer_rows None (Some outcomes_are.Merged) rows h = h
answer_rows None (Some (outcomes_are.Reborn pairs)) rows h = h

pub list_sound : (pid : ℕ) (h : History) (t : List ℕ) (rows : List (Dot × Row)) → HistorySound h → answer_in pid h (list t) ≡ Ok rows → RowsSound rows
unfolding answer_in
list_sound pid h t rows k e = subst OkRows e (answer_rows (refusal true h (steps_are.List t)) (outcome_of h (steps_are.List t)) (listed h t) (listed_sound h t k))

pub get_sound : (pid : ℕ) (h : History) (t key : List ℕ) (rows : List (Dot × Row)) → HistorySound h → answer_in pid h (get_rows t key) ≡ Ok rows → RowsSound rows
unfolding answer_in
get_sound pid h t key rows k e = subst OkRows e (answer_rows (refusal true h (steps_are.Get t key)) (outcome_of h (steps_are.Get t key)) (listed_key h t key) (listed_key_sound h t key k))
