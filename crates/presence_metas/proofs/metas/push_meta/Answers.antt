use Rattle.std.proofs.Common.{◌∙◌, sym, string_bytes}
use Rattle.presence_metas.proofs.WithRefs.{behind_pushed}
use Rattle.presence_metas.proofs.metas.push_meta.Goals as goal

pub returns : goal.returns
returns c =
    behind_pushed c.push_str.result c.args.dot.now c.args.row.now (string_bytes c.args.text.now) (string_bytes c.push_behind.new.text) (string_bytes c.push_str.new.self) c.in-Some.front.now c.in-Some.rest.now
    c.in-Some.ensures.place c.in-Some.ensures.whole (sym c.eq.ensures ∙ c.if-eq.false) c.in_ok-push_behind.ensures c.push_str.ensures.bytes
