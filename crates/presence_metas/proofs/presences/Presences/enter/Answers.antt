use Rattle.std.proofs.Common.{◌≡◌, arith, length, ap}
use Rattle.std.proofs.lemmas.Bool.Decides.{nat_tests}
use Rattle.presence_metas.proofs.Seen.{entered_seen}
use Rattle.presence_metas.proofs.Kept.{inserted_kept}
use Rattle.presence_metas.proofs.presences.Presences.enter.Goals as goal

pub returns : goal.returns
returns c =
    let same : c.in_ok-key.key ≡ c.args.key.now = c.in_ok-key.ensures.cases in
    rw (← c.self.view_is) (entered_seen (λ v. v.items) c.args.key.now c.args.metas c.self.inside.lists.entries _
    (λ none. let empty : length c.args.metas.items ≡ 0 = ap length none in let l = c.args.metas.ok in let t = c.is_empty.ensures in let u = c.if-is_empty.false in grind (arith, nat_tests))
    (rw (← same) c.in_ok-insert.ensures.entries))

pub invariant_of-self-2 : goal.invariant_of-self-2
invariant_of-self-2 c =
    inserted_kept c.in_ok-key.key c.args.metas c.self.inside.lists.entries c.insert.new.self.entries c.self.invariant
    (λ none. let empty : length c.args.metas.items ≡ 0 = ap length none in let l = c.args.metas.ok in let t = c.is_empty.ensures in let u = c.if-is_empty.false in grind (arith, nat_tests))
    c.in_ok-insert.ensures.entries
