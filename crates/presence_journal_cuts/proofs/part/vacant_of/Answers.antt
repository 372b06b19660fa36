use Rattle.std.proofs.Common.{◌≡◌, ◌+◌, ◌++◌, ◌∷◌, ℕ, List, drop, get_or, le-leb, arith, ap, ◌∙◌}
use Rattle.presence_base.specs.declared.dots.Dot.{Dot}
use Rattle.presence_base.specs.declared.row.Row.{Row}
use Rattle.presence_journal.proofs.Walking.{drop_next}
use Rattle.presence_journal_cuts.specs.Parting.{vacant}
use Rattle.presence_journal_cuts.proofs.Vacating.{vacant_in, rows_in_run, long_at, got, free_more, free_all, are_vacant}
use Rattle.presence_journal_cuts.proofs.part.vacant_of.Goals as goal

pub rows_in-requires : goal.rows_in-requires
rows_in-requires c =
    let x : ℕ × ℕ = get_or c.args.runs.now c.loop-run.run-index (0, 0) in
    le-leb x.0 x.1 (omega (arith, long_at c.args.runs.now c.loop-run.run-index (0, 0) c.loop-run-test.true c.requires))

pub loop-run-preserved : goal.loop-run-preserved
loop-run-preserved c =
    let l = c.loop-run in
    let rs : List (ℕ × ℕ) = c.args.runs.now in
    let x : ℕ × ℕ = get_or rs l.run-index (0, 0) in
    let next : drop l.run-index rs ≡ x ∷ drop (l.run-index + 1) rs = drop_next rs l.run-index x c.loop-run-test.true (got rs l.run-index (0, 0) x c.loop-run-test.true) in
    free_more c.args.set.now.live c.args.replica.now l.vacant.items c.push_vacant.new.runs.items (drop (l.run-index + 1) rs) (drop l.run-index rs)
    (vacant_in (rows_in_run c.args.set.now.live c.args.replica.now) rs) x
    (c.in_ok-push_vacant.ensures ∙ ap (λ (es : List (Dot × Row)). l.vacant.items ++ vacant x.1 x.0 es) c.rows_in.ensures) next l.invariant

pub returns : goal.returns
returns c =
    let l = c.loop-run in
    let rs : List (ℕ × ℕ) = c.args.runs.now in
    are_vacant c.args.set.now c.args.replica.now rs l.vacant.items (free_all c.args.set.now.live c.args.replica.now l.vacant.items rs l.run-index c.loop-run-test.false l.invariant)
