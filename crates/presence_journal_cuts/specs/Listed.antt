-- What a Start lists of what is not told yet.
use Rattle.std.specs.Prelude.{ℕ, List}
use Rattle.std.specs.List.{AllByRecursion}
use Rattle.dot_context.specs.Runs.{holds, AreLong}
use Rattle.presence_journal.specs.History.{History, last_cut}
use Rattle.presence_journal_cuts.specs.Chains.{AreUpTo, Counts}
use Rattle.presence_journal_cuts.specs.Cuts.{older}
use Rattle.presence_journal_cuts.specs.Checkpoints.{ListsChains, ListsUnused}

-- the older counts that went since the last cut
pub record AreOlder (h : History) (rs : List (ℕ × ℕ)) : Type 0 where
  pub counts : Counts (holds rs) (older h)
  pub low : AreUpTo (last_cut h) rs

-- the chains of the own rows that are shown, and those of counts that are not used yet
pub record AreListed (h : History) (xs : List (ℕ × List (ℕ × ℕ))) : Type 0 where
  pub shown : ListsChains h xs
  pub unused : ListsUnused h xs
  pub long : AllByRecursion (λ x. AreLong x.1) xs
