-- A Start that stands for a journal, and what is kept of one.
use Rattle.orswot_core.specs.declared.form.Form.TheVariants.{Two}
use Rattle.std.proofs.Common.{◌≡◌, ℕ, ◌+◌, ◌<◌, ◌≤◌, ◌^◌, Bool, true, false, nat_eq, List, [], ◌∷◌, Some, is_some, refl, sym, ◌∙◌, ap, subst, arith}
use Rattle.std.specs.Prelude.{map as each}
use Rattle.orswot_core.specs.Checks.{has_repeat}
use Rattle.presence_journal.specs.StepLimits.{is_heard}
use Rattle.presence_journal.specs.declared.entry.Entry.{Entry}
use Rattle.presence_journal.specs.declared.entry.Start.{Start}
use Rattle.presence_journal.specs.History.{History, Begin, Then, onto, own, count, last_number, time, last_cut}
use Rattle.presence_journal.specs.Queue.{Queued, is_current, queue}
use Rattle.presence_journal.specs.Table.{IsStart, IsLegal}
use Rattle.presence_journal_known.specs.Full.{IsFullOf}
use Rattle.presence_journal_cuts.specs.KeptDeltas.{AreKeptOf}
use Rattle.presence_journal_cuts.proofs.Sound.{is_sound, begins_kept, full_stands}
use Rattle.presence_journal_cuts.proofs.Waiting.{none_current, current_stay}
use Rattle.tracker_known.specs.Starts.{ListsStandings}
use Rattle.presence_journal_cuts.specs.Listed.{AreOlder, AreListed as AreListedChains}
use Rattle.tracker_feeds.specs.Fed.{Fed, IsFedBy}
use Rattle.tracker_feeds.specs.Laws.{IsBegun}
use Rattle.tracker_feeds.specs.Listed.{AreListed, AreCurrent}
use Rattle.tracker_feeds.proofs.LawLemmas as laws
use Rattle.tracker_feeds.proofs.ListingLemmas.{listed_are_those, current_are_those}
use Rattle.tracker_index.specs.declared.parts.Parts.{Parts}
use Rattle.tracker_index.specs.Parts.{IsAt, IsSound}
use Rattle.tracker_index.specs.Starting.{one_if, seats, seats_in, IsStartOf, CountsWhere, LeavesQueues}

-- Seats.

seats-onto : (h : History) (es : List Entry) → seats (onto h es) ≡ seats h + seats_in es
unfolding seats
seats-onto h [] = omega arith
seats-onto h (e ∷ es) = omega (arith, seats-onto (Then h e) es)

seats-begin : (s : Start) → seats (Begin s) ≡ s.seated
unfolding seats
seats-begin s = refl

pub seats_whole : (s : Start) (es : List Entry) (whole : History) → onto (Begin s) es ≡ whole → s.seated + seats_in es ≡ seats whole
seats_whole s es whole w = omega (arith, seats-onto (Begin s) es, seats-begin s, ap seats w)

one_low : (b : Bool) → one_if b ≤ 1
one_low true = omega arith
one_low false = omega arith

-- no more entries have seats than there are numbers
pub seats_low : (h : History) → IsLegal h → seats h ≤ last_number h
unfolding seats last_number
seats_low (Begin s) l = l.seated
seats_low (Then h e) l = omega (arith, seats_low h l.0, one_low (is_some e.seat), l.2)

-- The Start.

pub is_start : (h : History) (f : Fed) (s : Start) → IsLegal h → last_number h < 2 ^ 62 → IsFedBy h f
    → s.number ≡ last_number h + 1 → s.own ≡ own h → s.count ≡ count h → s.time ≡ time h → s.last_cut ≡ last_cut h → s.seated ≡ seats h
    → IsFullOf Two h s.content → is_heard s.content ≡ true → ListsStandings h s.standings → AreOlder h s.older → AreListedChains h s.chains → AreKeptOf h s.kept → AreListed f s.subscribers
    → ((n : ℕ) → is_current s.current n ≡ true → queue h n ≡ Queued [])
    → IsStartOf h s
is_start h f s legal room fed number mine counts at cut seated full sound others older chains deltas subscribers current =
    let told = full_stands Two h s.content full in
    let topics = listed_are_those h f s.number s.subscribers legal fed (omega (arith, number)) subscribers in
    record {
      stands = record {
        legal = legal;
        room = room;
        stands = record {
          number = number;
          covers = told.0;
          rows = told.1;
          sound = sound;
          standings = others;
          older = older.counts;
          low = older.low;
          chains = chains.shown;
          unused = chains.unused;
          long = chains.long;
          deltas = deltas;
          topics = topics.topics;
          subscribers = topics.within;
          once = topics.once;
          current = current;
          seated = omega (arith, seated, seats_low h legal, number);
          time = at;
          last_cut = cut;
          own = mine;
          count = counts;
        };
      };
      seats = seated;
    }

-- Whom it counts as current.

pub only_current : (h : History) (f : Fed) (ns : List ℕ) (stay : Bool) → IsFedBy h f → (stay ≡ true → AreCurrent f ns) → (stay ≡ false → ns ≡ []) → (n : ℕ) → is_current ns n ≡ true → queue h n ≡ Queued []
only_current h f ns true fed are none n there = (current_are_those h f ns fed (are refl)).only n there
only_current h f ns false fed are none n there = let bad : is_current ns n ≡ false = ap (λ (ks : List ℕ). is_current ks n) (none refl) in absurd (cc)

pub counts_where : (h : History) (f : Fed) (s : Start) (stay : Bool) → IsFedBy h f → (stay ≡ true → AreCurrent f s.current) → (stay ≡ false → s.current ≡ []) → CountsWhere stay h s
counts_where h f s true fed are none = (current_are_those h f s.current fed (are refl)).all
counts_where h f s false fed are none = none refl

pub leaves_queues : (h : History) (s : Start) (stay : Bool) → IsStartOf h s → CountsWhere stay h s → LeavesQueues stay h (Begin s)
leaves_queues h s true of counts = current_stay h s of.stands counts
leaves_queues h s false of none = none_current s none

-- What is kept of it.

pub fed_begins_at : (s : Start) (xs : List (ℕ × List ℕ)) (ns : List ℕ) (f : Fed) → xs ≡ s.subscribers → ns ≡ s.current → IsBegun xs ns f → IsFedBy (Begin s) f
fed_begins_at s xs ns f is now begun = laws.begins s f (subst (λ (ks : List ℕ). IsBegun s.subscribers ks f) now (subst (λ (ys : List (ℕ × List ℕ)). IsBegun ys ns f) is begun))

pub listed_once : (s : Start) (xs : List (ℕ × List ℕ)) → xs ≡ s.subscribers → IsStart s → has_repeat nat_eq (each (λ (x : ℕ × List ℕ). x.0) xs) ≡ false
listed_once s xs is start = ap (λ (ys : List (ℕ × List ℕ)). has_repeat nat_eq (each (λ (x : ℕ × List ℕ). x.0) ys)) is ∙ start.subscribers_once

-- The journal that begins with it.

pub sound_start : (h : History) (s : Start) → IsStartOf h s → IsStart s
sound_start h s of = is_sound h s of.stands

pub sound_begun : (g : History) (s : Start) (p : Parts) → g ≡ Begin s → IsStart s → IsAt p.stage (Begin s) p → IsSound g p
sound_begun g s p is stands at = subst (λ (x : History). IsSound x p) (sym is) (record { kept = record { legal = stands; limits = tt }; parts = at })

pub sound_again : (h g : History) (s : Start) (p : Parts) → IsStartOf h s → g ≡ Begin s → IsAt p.stage (Begin s) p → IsSound g p
sound_again h g s p of is at = subst (λ (x : History). IsSound x p) (sym is) (record { kept = begins_kept h s of.stands; parts = at })
