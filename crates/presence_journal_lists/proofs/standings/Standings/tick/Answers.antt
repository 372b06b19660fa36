use Rattle.std.proofs.Common.{◌≡◌, List, sym, subst}
use Rattle.std.specs.List.{AllByRecursion}
use Rattle.presence_base.specs.declared.dots.Replica.{Replica}
use Rattle.replica_status.specs.declared.standing.Standing.{Standing}
use Rattle.replica_status.specs.declared.standing.Standing.TheVariants.{Gone}
use Rattle.replica_status.specs.Boards.{standing_in}
use Rattle.presence_journal_lists.specs.Standings.{Ticks, all_of}
use Rattle.presence_journal_lists.proofs.StandingLemmas.{tick_kept, tick_puts, gone_there, ticks_stay}
use Rattle.presence_journal_lists.proofs.standings.Standings.tick.Goals as goal

pub invariant_of-self : goal.invariant_of-self
invariant_of-self c = tick_kept c.self.inside.gone c.self.inside.others c.tick_all.new.others c.args.time c.self.invariant c.tick_all.ensures

pub put_down_all-requires : goal.put_down_all-requires
put_down_all-requires c =
    let g = c.self.inside.gone in
    let n = c.tick_all.new.others in
    let kept = tick_kept g c.self.inside.others n c.args.time c.self.invariant c.tick_all.ensures in
    subst (λ (rs : List Replica). AllByRecursion (λ (r : Replica). standing_in (all_of g n) r ≡ Gone) rs) (sym c.deref.ensures.value) (gone_there g n c.in-Ok.list.items kept c.in-Ok.ensures)

pub invariant_of-self-in_default : goal.invariant_of-self-in_default
invariant_of-self-in_default c = tick_kept c.self.inside.gone c.self.inside.others c.tick_all.new.others c.args.time c.self.invariant c.tick_all.ensures

pub returns-in-Ok : goal.returns-in-Ok
returns-in-Ok c =
    let g = c.self.inside.gone in
    let m = c.self.inside.others in
    let n = c.tick_all.new.others in
    let last = c.put_down_all.new.self in
    subst (λ (xs : List (Replica × Standing)). Ticks c.args.time xs last) c.self.view_is
    (ticks_stay c.args.time (all_of g m) (all_of g n) last (tick_puts g m n c.args.time c.self.invariant c.tick_all.ensures) c.put_down_all.ensures)

pub returns-in_default : goal.returns-in_default
returns-in_default c =
    let g = c.self.inside.gone in
    let n = c.tick_all.new.others in
    subst (λ (xs : List (Replica × Standing)). Ticks c.args.time xs (all_of g n)) c.self.view_is (tick_puts g c.self.inside.others n c.args.time c.self.invariant c.tick_all.ensures)
