-- A Start that goes on behind a count: the own dots up to it are covered, and none has a row.
use Rattle.std.specs.Prelude.{ℕ, [], ◌∷◌}
use Rattle.presence_base.specs.declared.dots.Replica.{Replica}
use Rattle.orswot_core.specs.Telling.{ToldValue}
use Rattle.presence_journal.specs.declared.entry.Start.{Start}
use Rattle.presence_journal.specs.History.{History, Begin, nothing_kept}

-- told: the dots of the replica up to the count
abbrev pub told_up_to : Replica → ℕ → ToldValue
told_up_to r n = record { ranges = (r, 0, n) ∷ []; extras = []; live = [] }

abbrev pub start_behind : Replica → ℕ → Start
start_behind r n = record {
  number = 0;
  own = r;
  count = n;
  content = told_up_to r n;
  standings = [];
  time = 0;
  last_cut = n;
  older = [];
  chains = [];
  kept = nothing_kept;
  subscribers = [];
  current = [];
  seated = 0;
}

-- the history of a shard whose replica has used the counts up to this one, and told of them all
abbrev pub resumed : Replica → ℕ → History
resumed r n = Begin (start_behind r n)
