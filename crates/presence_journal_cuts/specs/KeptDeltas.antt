-- The kept deltas: what the cuts of a history told, joined in three generations, and what is told of them from a count on.
use Rattle.std.specs.Prelude.{◌≡◌, ℕ, Bool, true, false, Option, Some, None}
use Rattle.orswot_core.specs.declared.form.Form.{Form}
use Rattle.orswot_core.specs.Telling.{ToldValue}
use Rattle.delta_range.specs.Deltas.{DeltaValue, telling_in, IsDelta}
use Rattle.delta_range.specs.Keeping.{Kept, pushed, from_count}
use Rattle.presence_journal.specs.declared.entry.Outcome.TheVariants as outcomes_are
use Rattle.presence_journal.specs.declared.entry.Outcome.{Outcome}
use Rattle.presence_journal.specs.History.{History, Begin, Then, nothing_kept}
use Rattle.presence_journal_known.specs.Full.{IsFullOf}
use Rattle.presence_journal_cuts.specs.Cuts.{IsCut}

-- what is kept changes: a cut adds to it, and behind a rebirth nothing is kept
abbrev pub renews_kept : Outcome → Bool
renews_kept (outcomes_are.CutAt from to) = true
renews_kept (outcomes_are.Reborn pairs) = true
renews_kept _ = false

-- what a cut of h tells comes to what was kept before it
pub record IsPushed (Before : Kept → Type 0) (h : History) (k : Kept) : Type 0 where
  pub before : Kept
  pub was : Before before
  pub delta : DeltaValue
  pub cut : IsCut h delta
  pub sound : IsDelta delta
  pub is : k ≡ pushed before delta

-- what is kept behind an outcome: a cut is pushed, a rebirth leaves nothing, and all else leaves it
abbrev pub KeepsAfter : Outcome → (Kept → Type 0) → History → Kept → Type 0
KeepsAfter (outcomes_are.CutAt from to) Before h k = IsPushed Before h k
KeepsAfter (outcomes_are.Reborn pairs) Before h k = k ≡ nothing_kept
KeepsAfter o Before h k = Before k

-- what the Start holds, with each cut since
unfoldable pub AreKeptOf : History → Kept → Type 0
AreKeptOf (Begin s) k = k ≡ s.kept
AreKeptOf (Then h e) k = KeepsAfter e.outcome (AreKeptOf h) h k

-- the delta as it is told, or all that is known where there is none
abbrev pub TellsOrAll : Form → Option DeltaValue → History → ToldValue → Type 0
TellsOrAll form (Some d) h t = t ≡ telling_in form d
TellsOrAll form None h t = IsFullOf form h t

-- from a count on: the kept delta of the smallest cap that begins at or below it, else the full value
pub record IsToldFrom (form : Form) (h : History) (n : ℕ) (t : ToldValue) : Type 0 where
  pub kept : Kept
  pub of : AreKeptOf h kept
  pub tells : TellsOrAll form (from_count form kept n) h t

-- what a node is told that knows the own dots up to a count, or that asks for all
abbrev pub TellsFrom : Form → History → Option ℕ → ToldValue → Type 0
TellsFrom form h (Some n) t = IsToldFrom form h n t
TellsFrom form h None t = IsFullOf form h t
