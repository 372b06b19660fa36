use Rattle.std.proofs.Common.{◌++◌, ◌-◌, ℕ, List, refl, ap, sym, subst, ◌∙◌}
use Rattle.std.specs.BTreeMap.{get}
use Rattle.std.specs.Ordering.{nat_cmp}
use Rattle.std.proofs.lemmas.Result.{on_ok_weaker}
use Rattle.dot_context.specs.Runs.{holds, AreLong}
use Rattle.dot_context.specs.Sets.{listed}
use Rattle.delta_range.specs.Longest.{up_to}
use Rattle.presence_journal_cuts.specs.Handing.{grown}
use Rattle.presence_journal_cuts.proofs.Handings.{holds_one, long_between}
use Rattle.presence_journal_cuts.proofs.RunLemmas.{dot_gone, dot_kept, none_more}
use Rattle.presence_journal_cuts.proofs.older.push_gone.Goals as goal

abbrev Runs : Type 0
Runs = List (ℕ × ℕ)

pub returns-in-Some-clause-counts : goal.returns-in-Some-clause-counts
returns-in-Some-clause-counts c =
    on_ok_weaker c.push_up_to-in-Some.result
    (λ more n low.
    dot_gone c.args.last n c.args.dot.now.count c.args.runs.now.items c.deref.result.now c.push_up_to.new.runs.items c.push_up_to-in-Some.new.runs.items (listed (get nat_cmp c.args.chains.now c.args.dot.now.count)) (ap (λ (xs : Runs). holds xs n) c.deref.ensures.value ∙ (ap (λ (xs : Runs). holds xs n) (c.in_ok-push_count.ensures ∙ ap (λ (xs : Runs). grown xs c.args.dot.now.count) c.new-itself.ensures.items) ∙ holds_one c.args.dot.now.count n low))
    c.in_ok-push_up_to.ensures (more ∙ ap (λ (xs : Runs). c.push_up_to.new.runs.items ++ up_to c.args.last xs) (c.as_slice.ensures ∙ ap listed c.in-Some.ensures.value)))
    c.push_up_to-in-Some.ensures

pub returns-in-Some-clause-kept : goal.returns-in-Some-clause-kept
returns-in-Some-clause-kept c =
    on_ok_weaker c.push_up_to-in-Some.result
    (λ more long k.
    dot_kept c.args.last c.args.runs.now.items c.deref.result.now c.push_up_to.new.runs.items c.push_up_to-in-Some.new.runs.items (listed (get nat_cmp c.args.chains.now c.args.dot.now.count))
    (subst AreLong (sym (c.deref.ensures.value ∙ (c.in_ok-push_count.ensures ∙ ap (λ (xs : Runs). grown xs c.args.dot.now.count) c.new-itself.ensures.items))) (long_between (c.args.dot.now.count - 1) c.args.dot.now.count)) (long c.args.dot.now.count)
    c.in_ok-push_up_to.ensures (more ∙ ap (λ (xs : Runs). c.push_up_to.new.runs.items ++ up_to c.args.last xs) (c.as_slice.ensures ∙ ap listed c.in-Some.ensures.value)) k)
    c.push_up_to-in-Some.ensures

pub returns-clause-counts : goal.returns-clause-counts
returns-clause-counts c = λ n low.
    dot_gone c.args.last n c.args.dot.now.count c.args.runs.now.items c.deref.result.now c.push_up_to.new.runs.items c.push_up_to.new.runs.items (listed (get nat_cmp c.args.chains.now c.args.dot.now.count)) (ap (λ (xs : Runs). holds xs n) c.deref.ensures.value ∙ (ap (λ (xs : Runs). holds xs n) (c.in_ok-push_count.ensures ∙ ap (λ (xs : Runs). grown xs c.args.dot.now.count) c.new-itself.ensures.items) ∙ holds_one c.args.dot.now.count n low))
    c.in_ok-push_up_to.ensures (none_more c.args.last c.push_up_to.new.runs.items c.push_up_to.new.runs.items refl ∙ ap (λ (xs : Runs). c.push_up_to.new.runs.items ++ up_to c.args.last xs) (ap listed c.in-None.ensures.value))

pub returns-clause-kept : goal.returns-clause-kept
returns-clause-kept c = λ long k.
    dot_kept c.args.last c.args.runs.now.items c.deref.result.now c.push_up_to.new.runs.items c.push_up_to.new.runs.items (listed (get nat_cmp c.args.chains.now c.args.dot.now.count))
    (subst AreLong (sym (c.deref.ensures.value ∙ (c.in_ok-push_count.ensures ∙ ap (λ (xs : Runs). grown xs c.args.dot.now.count) c.new-itself.ensures.items))) (long_between (c.args.dot.now.count - 1) c.args.dot.now.count)) (long c.args.dot.now.count)
    c.in_ok-push_up_to.ensures (none_more c.args.last c.push_up_to.new.runs.items c.push_up_to.new.runs.items refl ∙ ap (λ (xs : Runs). c.push_up_to.new.runs.items ++ up_to c.args.last xs) (ap listed c.in-None.ensures.value)) k
