use Rattle.std.proofs.Common.{ℕ, List, rules, ap, sym, ◌∙◌}
use Rattle.std.proofs.lemmas.List.{with_items_is, places}
use Rattle.presence_journal_cuts.specs.Handing.{grown}
use Rattle.presence_journal_cuts.proofs.Handings.{grown_none}
use Rattle.presence_journal_cuts.proofs.chain.push_count.Goals as goal
use Rattle.presence_journal_cuts.proofs.chain.push_count.Goals.{else-count-gt0-via-then-count-gt0+else-not-grow_last, else-count-gt0-via-else-count-gt0}

pub returns-else-count-gt0 : goal.returns-else-count-gt0
returns-else-count-gt0 c = elim c.else-count-gt0.branch [
  | else-count-gt0-via-then-count-gt0+else-not-grow_last w ↦
      ap (λ v. v.items) w.runs-is
      ∙ (with_items_is c.args.runs.now w.grow_last.new.runs (search (rules, places))
      ∙ (w.if-not-grow_last.ensures
      ∙ ap (λ (xs : List (ℕ × ℕ)). grown xs c.args.count) w.deref_mut.ensures.value))
  | else-count-gt0-via-else-count-gt0 w ↦
      ap (λ v. v.items) w.runs-is ∙ sym (grown_none c.args.runs.now.items c.args.count w.if-count-gt0.false)
]
