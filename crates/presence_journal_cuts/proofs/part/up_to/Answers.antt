use Rattle.std.proofs.Common.{sym, ◌∙◌, ap, subst}
use Rattle.std.specs.List.{filter}
use Rattle.delta_range.specs.Deltas.{IsDelta}
use Rattle.presence_journal_cuts.specs.Parting.{is_up_to}
use Rattle.presence_journal_cuts.proofs.CutShort.{short_sound, short_is}
use Rattle.presence_journal_cuts.proofs.part.up_to.Goals as goal

pub new-requires : goal.new-requires
new-requires c =
    let d = c.args.delta.now in
    let m = c.args.count in
    subst IsDelta
    (short_is m d c.owner.result c.from-2.result c.from.result c.to.result c.min.result c.max-to.result c.in_ok-older.older.items c.in_ok-live.live.items c.owner.ensures c.from-2.ensures c.from.ensures c.to.ensures c.min.ensures c.max-to.ensures
    (c.in_ok-older.ensures ∙ c.older.ensures.older) (c.in_ok-live.ensures ∙ ap (filter (λ x. is_up_to m x.0)) c.live.ensures.live))
    (short_sound m d c.older.ensures.delta)

pub returns : goal.returns
returns c =
    let d = c.args.delta.now in
    let m = c.args.count in
    c.new.ensures
    ∙ sym (short_is m d c.owner.result c.from-2.result c.from.result c.to.result c.min.result c.max-to.result c.in_ok-older.older.items c.in_ok-live.live.items c.owner.ensures c.from-2.ensures c.from.ensures c.to.ensures c.min.ensures c.max-to.ensures
    (c.in_ok-older.ensures ∙ c.older.ensures.older) (c.in_ok-live.ensures ∙ ap (filter (λ x. is_up_to m x.0)) c.live.ensures.live))
