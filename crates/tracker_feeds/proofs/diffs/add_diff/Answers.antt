use Rattle.std.proofs.Common.{sym, ◌∙◌}
use Rattle.std.proofs.lemmas.Result.{on_ok_weaker}
use Rattle.tracker_feeds.proofs.CaseLemmas.{unfollowed, there_already, quiet, told}
use Rattle.tracker_feeds.proofs.diffs.add_diff.Goals as goal
use Rattle.tracker_feeds.proofs.diffs.add_diff.Goals.{then-not-is_followed-via-then-not-is_followed, then-not-is_followed-via-else-not-is_followed+then-contains_key}

pub returns-then-not-is_followed : goal.returns-then-not-is_followed
returns-then-not-is_followed c =
    elim c.then-not-is_followed.branch [
      | then-not-is_followed-via-then-not-is_followed w ↦ unfollowed c.args.feeds.now c.args.changes.now c.args.topic.now c.args.made.now (sym c.is_followed.ensures ∙ w.if-not-is_followed.true)
      | then-not-is_followed-via-else-not-is_followed+then-contains_key w ↦ there_already c.args.feeds.now c.args.changes.now c.args.topic.now c.args.made.now (sym w.contains_key.ensures ∙ w.if-contains_key.true)
    ]

pub returns-then-is_quiet : goal.returns-then-is_quiet
returns-then-is_quiet c =
    quiet c.args.feeds.now c.args.changes.now c.args.topic.now c.args.made.now c.in_ok-diff.diff
    (sym c.contains_key.ensures ∙ c.if-contains_key.false) c.in_ok-diff.ensures (sym c.is_quiet.ensures ∙ c.if-is_quiet.true)

pub returns : goal.returns
returns c =
    on_ok_weaker c.put_diff.result
    (told c.args.feeds.now c.args.changes.now c.args.topic.now c.args.made.now c.put_diff.new.made c.in_ok-diff.diff
    (sym c.is_followed.ensures ∙ c.if-not-is_followed.false) c.in_ok-diff.ensures (sym c.is_quiet.ensures ∙ c.if-is_quiet.false))
    c.put_diff.ensures
