use Rattle.std.proofs.Common.{◌≡◌, ◌++◌, sym, ◌∙◌, ap, subst, IfOk}
use Rattle.dot_context.specs.Runs.{AreLong}
use Rattle.delta_range.specs.Longest.{up_to, longest}
use Rattle.delta_range.proofs.RunFacts.{up_to_append, long_up_to, long_append, long_runs}
use Rattle.delta_range.proofs.joining.joined_runs.Goals as goal

gathered : (c : goal.In_ok-push_up_to-2) → c.push_up_to-2.new.runs.items ≡ up_to c.args.end (c.args.first.now ++ c.args.next.now)
gathered c =
    c.in_ok-push_up_to-2.ensures
    ∙ ap (λ l. l ++ up_to c.args.end c.args.next.now) (c.in_ok-push_up_to.ensures ∙ ap (λ l. l ++ up_to c.args.end c.args.first.now) c.new-runs.ensures.items)
    ∙ sym (up_to_append c.args.end c.args.first.now c.args.next.now)

pub longest-requires : goal.longest-requires
longest-requires c = subst AreLong (sym (gathered c)) (long_up_to c.args.end (c.args.first.now ++ c.args.next.now) (long_append c.args.first.now c.args.next.now (long_runs 0 c.args.first.now c.requires.first) (long_runs 0 c.args.next.now c.requires.next)))

pub returns : goal.returns
returns c = subst (λ l. IfOk c.longest.result (λ v. v.items ≡ longest l)) (gathered c.before) c.longest.ensures
