use Rattle.std.proofs.Common.{◌≡◌, ◌∙◌, ap, false, rules}
use Rattle.serve_rations.specs.Amounts.{together}
use Rattle.serve_rations.proofs.Maps.{put_anew, stays}
use Rattle.serve_rations.proofs.ledger.Ledger.charge.Goals as goal

pub returns-then-not-has_room : goal.returns-then-not-has_room
returns-then-not-has_room c = (search rules, stays c.args.self.now.topics c.args.topic.now)

pub returns-in_ok-insert : goal.returns-in_ok-insert
returns-in_ok-insert c =
    let unset : c.set.result ≡ false = search rules in
    let much : c.plus-all.result ≡ together _ c.args.more = c.plus-all.ensures ∙ ap (λ a. together a c.args.more) c.taken-taken.ensures in (
      search rules,
      put_anew c.args.self.now c.set.new.self c.insert.new.self c.args.topic.now c.in_ok-clone.field-0 c.plus-all.result c.plus-all.result _ c.set.result unset c.set.ensures c.in_ok-clone.ensures.cases much c.in_ok-insert.ensures.updates.0,
    )
