use Rattle.std.proofs.Common.{◌≡◌, ◌+◌, ◌∷◌, suc, take, drop, Some, Err, sym, ap, ◌∙◌, arith}
use Rattle.std.specs.List.{slice_get}
use Rattle.channel_rules.specs.InForce.{joined_of, joined_in}
use Rattle.channel_session.proofs.Endings.{none_from, some_from, drop_removed, take_removed, stays_there, take_less, ended_gone, ended_staying, none_ended}
use Rattle.channel_session.proofs.ending.+end_topics.Goals as goal

pub returns-in_default-clause-empty : goal.returns-in_default-clause-empty
returns-in_default-clause-empty g t c = none_from (joined_in c.args.topics.now) c.args.index (sym c.in_default.ensures)

pub returns-in_default-clause-played : goal.returns-in_default-clause-played
returns-in_default-clause-played g t c = λ leaving. none_ended _ leaving (drop c.args.index (joined_in c.args.topics.now)) _ (none_from (joined_in c.args.topics.now) c.args.index (sym c.in_default.ensures))

pub returns-in-Ok-clause-before : goal.returns-in-Ok-clause-before
returns-in-Ok-clause-before g t c =
    let j = joined_of (c.in-Some.topic.now, c.in-Some.join.now) in
    let js = joined_in c.args.topics.now in
    c.end_topics.ensures.before ∙ (ap (take c.args.index) c.drop_at.ensures ∙ take_removed js c.args.index j (sym c.in-Some.ensures))

pub returns-in-Ok-clause-played : goal.returns-in-Ok-clause-played
returns-in-Ok-clause-played g t c = λ leaving.
    let j = joined_of (c.in-Some.topic.now, c.in-Some.join.now) in
    let js = joined_in c.args.topics.now in
    let here : slice_get js c.args.index ≡ Some j = sym c.in-Some.ensures in
    ended_gone _ leaving (drop c.args.index js) j (drop (suc c.args.index) js) (some_from js c.args.index j here) _ _ _ _ _ c.in-Ok.ensures
    (rw (drop_removed js c.args.index j here) at (rw c.drop_at.ensures at (c.end_topics.ensures.played leaving)))

pub returns-in-Err-clause-before : goal.returns-in-Err-clause-before
returns-in-Err-clause-before g t c =
    let next : c.args.index + 1 ≡ suc c.args.index = omega arith in
    take_less (joined_in c.args.topics.now) (joined_in c.end_topics-later.new.topics) c.args.index (rw next at c.end_topics-later.ensures.before)

pub returns-in-Err-clause-played : goal.returns-in-Err-clause-played
returns-in-Err-clause-played g t c = λ leaving.
    let j = joined_of (c.in-Some.topic.now, c.in-Some.join.now) in
    let js = joined_in c.args.topics.now in
    let ks = joined_in c.end_topics-later.new.topics in
    let here : slice_get js c.args.index ≡ Some j = sym c.in-Some.ensures in
    let next : c.args.index + 1 ≡ suc c.args.index = omega arith in
    ended_staying _ leaving (drop c.args.index js) j (drop (suc c.args.index) js) (some_from js c.args.index j here) _ (drop c.args.index ks) (drop (suc c.args.index) ks) _ _ _
    (stays_there js ks c.args.index j here (rw next at c.end_topics-later.ensures.before)) c.in-Err.ensures
    (rw next at (c.end_topics-later.ensures.played (λ xs a. leaving (j ∷ xs) (Err c.in-Err.refusal))))
