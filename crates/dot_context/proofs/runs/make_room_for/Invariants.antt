use Rattle.std.proofs.Common.{◌≡◌, ℕ, true, ◌||◌}
use Rattle.dot_context.specs.Runs.{Opens, begins, has_room}
use Rattle.dot_context.proofs.runs.make_room_for.Given as goal

abbrev pub invariant-loop-from : goal.invariant-loop-from
invariant-loop-from l = record {
  opens : Opens l.fn.runs.entries l.runs.entries (begins l.others.entries);
  done : (g : ℕ) → begins l.others.entries g ≡ true → (has_room l.runs.entries g || begins l.from-iterator g) ≡ true;
  asks : (g : ℕ) → begins l.from-iterator g ≡ true → begins l.others.entries g ≡ true;
}
