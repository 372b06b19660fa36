use Rattle.std.proofs.Common.{◌≡◌, ◌+◌, ◌∷◌, ◌&&◌, ◌||◌, nat_le, List, drop, ap, sym, ◌∙◌}
use Rattle.presence_base.specs.declared.dots.Dot.{Dot}
use Rattle.dot_context.specs.Runs.{holds}
use Rattle.presence_journal_cuts.specs.Chains.{kept_chain}
use Rattle.presence_journal_cuts.specs.Cuts.{goes}
use Rattle.presence_journal.proofs.Walking.{drop_next}
use Rattle.presence_journal_cuts.proofs.Goings.{gone_more}
use Rattle.presence_journal_cuts.proofs.older.push_all_gone.Goals as goal

pub loop-dot-preserved : goal.loop-dot-preserved
loop-dot-preserved c =
    let l = c.loop-dot in
    let ds : List Dot = c.args.dots.now in
    let m = c.args.chains.now in
    let next : drop l.dot-index ds ≡ c.dot-item.result ∷ drop (l.dot-index + 1) ds = drop_next ds l.dot-index c.dot-item.result c.loop-dot-test.true c.dot-item.is in
    record {
      counts = λ n low.
          gone_more (holds l.runs.items n) (holds c.push_gone.new.runs.items n) (nat_le n c.args.last) (kept_chain m) c.dot-item.result (drop (l.dot-index + 1) ds) n (c.in_ok-push_gone.ensures.counts n low)
          ∙ (ap (λ (xs : List Dot). holds l.runs.items n || (nat_le n c.args.last && goes (kept_chain m) xs n)) (sym next)
          ∙ l.invariant.counts n low);
      kept = λ long k. c.in_ok-push_gone.ensures.kept long (l.invariant.kept long k);
    }
