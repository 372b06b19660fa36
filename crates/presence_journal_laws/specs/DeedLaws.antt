-- One law for each kind of event: what is true of histories and of told values stays true.
use Rattle.std.specs.Prelude.{◌≡◌, IsTrue, ℕ, true, false}
use Rattle.presence_base.specs.declared.dots.Replica.{Replica}
use Rattle.presence_base.specs.Names.{is_node_name}
use Rattle.presence_base.specs.Refs.{IsCount}
use Rattle.orswot_core.specs.declared.form.Form.{Form}
use Rattle.orswot_core.specs.Telling.{ToldValue}
use Rattle.delta_range.specs.Deltas.{DeltaValue, telling_in, IsDelta, GoesOn}
use Rattle.delta_range.specs.Joining.{joined}
use Rattle.presence_journal.specs.declared.step.Step.TheVariants as steps_are
use Rattle.presence_journal.specs.declared.entry.Entry.{Entry}
use Rattle.presence_journal.specs.declared.entry.Start.{Start}
use Rattle.presence_journal.specs.History.{History, Begin, Then, begun, own, count, row}
use Rattle.presence_journal.specs.Table.{IsLegal}
use Rattle.presence_journal_known.specs.Full.{IsFullOf}
use Rattle.presence_journal_cuts.specs.Cuts.{IsCut}
use Rattle.presence_journal_cuts.specs.KeptDeltas.{IsToldFrom}
use Rattle.presence_journal_cuts.specs.ToldParts.{IsPart}
use Rattle.presence_journal_cuts.specs.Checkpoints.{IsCheckpoint}
use Rattle.presence_journal_laws.specs.Deeds.{AllDeeds, no_deeds, with_entry, put, Deeds}
use Rattle.presence_journal_laws.specs.Truth.{AreDeeds, TellsTrue, IsTrueOf, DoMore}
use Rattle.presence_journal.specs.Walk.{is_rebirth}
use Rattle.orswot_core.specs.Full.{dot_of}

-- what each replica did, once this entry was made
abbrev pub then_did : AllDeeds → History → Entry → AllDeeds
then_did deeds h e = put (own h) (with_entry (deeds (own h)) h e) deeds

-- what an entry takes in is true
abbrev pub HearsTrue : AllDeeds → Entry → Type 0
HearsTrue deeds e = (t : ToldValue) → e.step ≡ steps_are.Merge t → TellsTrue deeds t

-- an entry but a rebirth: a client's step, a cut, a merge of what is true, a replica that is heard or put down, time that passes
abbrev pub EntriesStayTrue : Type 0
EntriesStayTrue = (deeds : AllDeeds) (h : History) (e : Entry) → ((r : Replica) → AreDeeds (deeds r)) → IsTrueOf deeds h
    → IsLegal (Then h e) → is_rebirth e.step ≡ false → HearsTrue deeds e → IsTrueOf (then_did deeds h e) (Then h e)

abbrev pub EntriesAreDeeds : Type 0
EntriesAreDeeds = (deeds : AllDeeds) (h : History) (e : Entry) → ((r : Replica) → AreDeeds (deeds r)) → IsTrueOf deeds h
    → IsLegal (Then h e) → is_rebirth e.step ≡ false → (r : Replica) → AreDeeds (then_did deeds h e r)

abbrev pub EntriesGoOn : Type 0
EntriesGoOn = (deeds : AllDeeds) (h : History) (e : Entry) → IsTrueOf deeds h → DoMore deeds (then_did deeds h e)

-- A rebirth: the new replica, which did nothing yet, made the rows that go on under its dots, and so many counts are used.
-- The history goes on as that of the new one, and what was told before stays true.
abbrev pub reborn_deeds : History → Entry → Deeds
reborn_deeds h e = record {
  used = count (Then h e);
  made = λ n. row (Then h e) (dot_of (own (Then h e)) n);
  went = λ n. false;
  removes = λ c n. false;
}

abbrev pub reborn_did : AllDeeds → History → Entry → AllDeeds
reborn_did deeds h e = put (own (Then h e)) (reborn_deeds h e) deeds

abbrev pub RebirthsStayTrue : Type 0
RebirthsStayTrue = (deeds : AllDeeds) (h : History) (e : Entry) → IsTrueOf deeds h → IsLegal (Then h e)
    → is_rebirth e.step ≡ true → IsTrueOf (reborn_did deeds h e) (Then h e)

abbrev pub RebirthsAreDeeds : Type 0
RebirthsAreDeeds = (deeds : AllDeeds) (h : History) (e : Entry) → ((r : Replica) → AreDeeds (deeds r))
    → IsLegal (Then h e) → is_rebirth e.step ≡ true → (r : Replica) → AreDeeds (reborn_did deeds h e r)

abbrev pub RebirthsGoOn : Type 0
RebirthsGoOn = (deeds : AllDeeds) (h : History) (e : Entry) → deeds (own (Then h e)) ≡ no_deeds
    → DoMore deeds (reborn_did deeds h e)

-- another replica's history, and what was told before, while its owner did nothing more
abbrev pub OthersStayTrue : Type 0
OthersStayTrue = (old new : AllDeeds) (h : History) → DoMore old new → new (own h) ≡ old (own h) → IsTrueOf old h
    → IsTrueOf new h

abbrev pub ToldStaysTrue : Type 0
ToldStaysTrue = (old new : AllDeeds) (t : ToldValue) → DoMore old new → TellsTrue old t → TellsTrue new t

-- what is told
abbrev pub CutsTellTrue : Type 0
CutsTellTrue = (deeds : AllDeeds) (h : History) (c : DeltaValue) → ((r : Replica) → AreDeeds (deeds r))
    → IsTrueOf deeds h → IsCut h c → IsDelta c → (form : Form) → TellsTrue deeds (telling_in form c)

abbrev pub PartsTellTrue : Type 0
PartsTellTrue = (deeds : AllDeeds) (h : History) (n : ℕ) (d : DeltaValue) → ((r : Replica) → AreDeeds (deeds r))
    → IsTrueOf deeds h → IsPart h n d → IsDelta d → (form : Form) → TellsTrue deeds (telling_in form d)

abbrev pub FullsTellTrue : Type 0
FullsTellTrue = (deeds : AllDeeds) (h : History) (form : Form) (t : ToldValue) → IsTrueOf deeds h → IsFullOf form h t
    → TellsTrue deeds t

abbrev pub JoinedTellTrue : Type 0
JoinedTellTrue = (deeds : AllDeeds) (a b : DeltaValue) → IsDelta a → IsDelta b → GoesOn a.owner a.to b → (f g k : Form)
    → TellsTrue deeds (telling_in f a) → TellsTrue deeds (telling_in g b) → TellsTrue deeds (telling_in k (joined a b))

abbrev pub KeptTellTrue : Type 0
KeptTellTrue = (deeds : AllDeeds) (h : History) (form : Form) (n : ℕ) (t : ToldValue) → IsTrueOf deeds h → IsToldFrom form h n t
    → TellsTrue deeds t

-- a checkpoint
abbrev pub CheckpointsStayTrue : Type 0
CheckpointsStayTrue = (deeds : AllDeeds) (h : History) (s : Start) → ((r : Replica) → AreDeeds (deeds r))
    → IsTrueOf deeds h → IsCheckpoint h s → IsTrueOf deeds (Begin s)

-- a new life
abbrev pub LivesBeginTrue : Type 0
LivesBeginTrue = (deeds : AllDeeds) (r : Replica) → IsTrue (is_node_name r.name) → IsCount r.incarnation
    → deeds r ≡ no_deeds → IsTrueOf deeds (begun r)
