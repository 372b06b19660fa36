use Rattle.std.proofs.Common.{refl, ◌∙◌, ap, List}
use Rattle.std.specs.BTreeMap.{get, is_at}
use Rattle.std.specs.Map.{lookup}
use Rattle.presence_base.specs.declared.dots.Dot.{Dot}
use Rattle.presence_base.specs.declared.row.Row.{Row}
use Rattle.presence_base.specs.Order.{dot_cmp}
use Rattle.presence_journal.specs.History.{first_some}
use Rattle.presence_journal.specs.Walk.{row_at}
use Rattle.presence_journal.proofs.Lookups.{first_none}
use Rattle.presence_journal_walks.proofs.DiffLemmas.{diff_own}
use Rattle.presence_journal_walks.proofs.entries.diff_entry.Goals as goal

pub returns-clause-diff : goal.returns-clause-diff
returns-clause-diff c =
    diff_own c.args.entry.now c.args.topic.now (get dot_cmp c.args.rows.now) (get dot_cmp c.put_row.new.rows) (get dot_cmp c.in_ok-left.left) c.new.result c.new-2.result _ refl
    (λ d. c.in_ok-put_row.ensures d ∙ (ap (λ (es : List (Dot × Row)). first_some (row_at c.in_ok-added.added d) (lookup (is_at (dot_cmp d)) es)) c.new-joined.ensures.empty ∙ (first_none (row_at c.in_ok-added.added d) ∙ c.in_ok-added.ensures d)))
    c.in_ok-left.ensures.left (λ m t. c.new.ensures ∙ c.in_ok-joins.ensures m t) (λ m t. c.new-2.ensures ∙ c.in_ok-leaves.ensures m t)
