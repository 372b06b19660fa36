use Rattle.std.proofs.Common.{◌-◌, option_copied, take, sym, ◌∙◌, ap, arith}
use Rattle.presence_journal.specs.History.{Begin, onto}
use Rattle.presence_journal.proofs.Topics.{is_some-copied}
use Rattle.presence_journal_walks.specs.Changes.{topic_again, topic_back}
use Rattle.presence_journal_walks.proofs.LoopLemmas.{back_found, back_more, back_ends}
use Rattle.presence_journal_walks.proofs.again.topic_back.Goals as goal

pub returns-then-is_some : goal.returns-then-is_some
returns-then-is_some c =
    let l = c.loop-place in
    back_found c.args.start.now c.args.entries.now c.args.dot.now l.at l.place c.index-entries-place.result (option_copied c.added_topic-added.result) c.loop-place-test.true c.index-entries-place.is c.added_topic-added.ensures
    (sym (is_some-copied c.added_topic-added.result) ∙ (sym c.is_some.ensures ∙ c.if-is_some.true)) l.invariant

pub returns-in_default : goal.returns-in_default
returns-in_default c =
    let l = c.loop-place in
    let more = back_more c.args.start.now c.args.entries.now c.args.dot.now l.at l.place c.index-entries-place.result (option_copied c.added_topic-added.result) c.dot_before.result c.loop-place-test.true c.index-entries-place.is c.added_topic-added.ensures
    (sym (is_some-copied c.added_topic-added.result) ∙ (sym c.is_some.ensures ∙ c.if-is_some.false)) c.dot_before.ensures l.invariant in
    sym (more ∙ ap (topic_again (topic_back (onto (Begin c.args.start.now) (take (l.place - 1) c.args.entries.now)))) c.in_default.is)

pub loop-place-preserved : goal.loop-place-preserved
loop-place-preserved c =
    let l = c.loop-place in
    let more = back_more c.args.start.now c.args.entries.now c.args.dot.now l.at l.place c.index-entries-place.result (option_copied c.added_topic-added.result) c.dot_before.result c.loop-place-test.true c.index-entries-place.is c.added_topic-added.ensures
    (sym (is_some-copied c.added_topic-added.result) ∙ (sym c.is_some.ensures ∙ c.if-is_some.false)) c.dot_before.ensures l.invariant in
    record {
      within = omega (arith, l.invariant.within);
      topic = more ∙ ap (topic_again (topic_back (onto (Begin c.args.start.now) (take (l.place - 1) c.args.entries.now)))) c.in-Some.is;
    }

pub returns : goal.returns
returns c =
    let l = c.loop-place in
    c.live_topic.ensures ∙ sym (back_ends c.args.start.now c.args.entries.now c.args.dot.now l.at l.place (omega (arith, c.loop-place-test.false)) l.invariant)
