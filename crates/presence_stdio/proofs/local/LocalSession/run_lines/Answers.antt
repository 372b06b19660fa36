use Rattle.std.proofs.Common.{◌≡◌, ◌+◌, subst, arith}
use Rattle.presence_stdio.specs.Outlets.{held}
use Rattle.presence_stdio.specs.Session.{voice_of}
use Rattle.presence_stdio.proofs.Turns.{Stands, stands_start, stands_more, tells_end, tells_fault, tells_at_limit, tells_beyond, tells_unread}
use Rattle.presence_stdio.proofs.local.LocalSession.run_lines.Goals as goal

pub loop-n-init : goal.loop-n-init
loop-n-init g c = stands_start (voice_of g.H.PresenceHooks c.args.hooks.now) c.args.self.now (g.R.Read.remaining c.args.reader.now) (held g.W.Write.contents g.N.Write.contents c.args.out.now)

pub loop-n-preserved : goal.loop-n-preserved
loop-n-preserved g c =
    stands_more (voice_of g.H.PresenceHooks c.args.hooks.now) c.args.self.now (g.R.Read.remaining c.args.reader.now) (g.R.Read.remaining c.loop-n.reader) (g.R.Read.remaining c.turn.new.reader) (held g.W.Write.contents g.N.Write.contents c.args.out.now)
    (held g.W.Write.contents g.N.Write.contents c.loop-n.out) (held g.W.Write.contents g.N.Write.contents c.turn.new.out) c.loop-n.self c.turn.new.self c.loop-n.n c.loop-n.invariant
    (rw c.in-Ok-true.field-0-test at c.in-Ok-true.ensures)

pub returns-in-Ok-false : goal.returns-in-Ok-false
returns-in-Ok-false g c =
    tells_end (voice_of g.H.PresenceHooks c.args.hooks.now) c.args.max c.args.self.now (g.R.Read.remaining c.args.reader.now) (g.R.Read.remaining c.loop-n.reader) (g.R.Read.remaining c.turn.new.reader) (held g.W.Write.contents g.N.Write.contents c.args.out.now)
    (held g.W.Write.contents g.N.Write.contents c.loop-n.out) (held g.W.Write.contents g.N.Write.contents c.turn.new.out) c.loop-n.self c.turn.new.self c.loop-n.n (c.loop-n.n + 1) c.loop-n.invariant c.loop-n.auto.n-end
    (rw c.in-Ok-false.field-0-test at c.in-Ok-false.ensures)

pub returns-in-Err : goal.returns-in-Err
returns-in-Err g c =
    tells_fault (voice_of g.H.PresenceHooks c.args.hooks.now) c.args.max c.args.self.now (g.R.Read.remaining c.args.reader.now) (g.R.Read.remaining c.loop-n.reader) (g.R.Read.remaining c.turn.new.reader) (held g.W.Write.contents g.N.Write.contents c.args.out.now)
    (held g.W.Write.contents g.N.Write.contents c.loop-n.out) (held g.W.Write.contents g.N.Write.contents c.turn.new.out) c.loop-n.self c.turn.new.self c.loop-n.n c.in-Err.fault c.loop-n.invariant c.loop-n-test.true c.in-Err.ensures

pub returns-in-Ok-true-is_at_end : goal.returns-in-Ok-true-is_at_end
returns-in-Ok-true-is_at_end g c =
    let full : c.loop-n.n ≡ c.args.max = omega arith in
    let v = voice_of g.H.PresenceHooks c.args.hooks.now in
    let old = held g.W.Write.contents g.N.Write.contents c.args.out.now in
    let new = held g.W.Write.contents g.N.Write.contents c.loop-n.out in
    tells_at_limit v c.args.max c.args.self.now (g.R.Read.remaining c.args.reader.now) (g.R.Read.remaining c.loop-n.reader) (g.R.Read.remaining c.is_at_end.new.reader) old new c.loop-n.self
    (subst (λ n. Stands v c.args.self.now (g.R.Read.remaining c.args.reader.now) (g.R.Read.remaining c.loop-n.reader) old new c.loop-n.self n) full c.loop-n.invariant)
    (rw c.in-Ok-true-is_at_end.field-0-test at c.in-Ok-true-is_at_end.ensures)

pub returns-in-Ok-false-is_at_end : goal.returns-in-Ok-false-is_at_end
returns-in-Ok-false-is_at_end g c =
    let full : c.loop-n.n ≡ c.args.max = omega arith in
    let v = voice_of g.H.PresenceHooks c.args.hooks.now in
    let old = held g.W.Write.contents g.N.Write.contents c.args.out.now in
    let new = held g.W.Write.contents g.N.Write.contents c.loop-n.out in
    tells_beyond v c.args.max c.args.self.now (g.R.Read.remaining c.args.reader.now) (g.R.Read.remaining c.loop-n.reader) (g.R.Read.remaining c.is_at_end.new.reader) old new c.loop-n.self
    (subst (λ n. Stands v c.args.self.now (g.R.Read.remaining c.args.reader.now) (g.R.Read.remaining c.loop-n.reader) old new c.loop-n.self n) full c.loop-n.invariant)
    (rw c.in-Ok-false-is_at_end.field-0-test at c.in-Ok-false-is_at_end.ensures)

pub returns-in-Err-is_at_end : goal.returns-in-Err-is_at_end
returns-in-Err-is_at_end g c =
    let full : c.loop-n.n ≡ c.args.max = omega arith in
    let v = voice_of g.H.PresenceHooks c.args.hooks.now in
    let old = held g.W.Write.contents g.N.Write.contents c.args.out.now in
    let new = held g.W.Write.contents g.N.Write.contents c.loop-n.out in
    tells_unread v c.args.max c.args.self.now (g.R.Read.remaining c.args.reader.now) (g.R.Read.remaining c.loop-n.reader) (g.R.Read.remaining c.is_at_end.new.reader) old new c.loop-n.self
    (subst (λ n. Stands v c.args.self.now (g.R.Read.remaining c.args.reader.now) (g.R.Read.remaining c.loop-n.reader) old new c.loop-n.self n) full c.loop-n.invariant)
    c.in-Err-is_at_end.ensures
