use Rattle.std.proofs.Common.{rules}
use Rattle.shard_pool.proofs.AtNumber.{behind_of}
use Rattle.shard_pool.proofs.Trims.{trimmed}
use Rattle.shard_pool.proofs.pool.Pool.trim.Goals as goal

pub returns : goal.returns
returns g c =
    let pool = c.args.self.now in
    let begins = g.L.Lanes.begins in
    let law = g.met.L.Lanes in
    let node = pool.own.name in
    let a = c.locked_trim-start in
    let b = c.locked_trim-start-2 in
    let d = c.locked_trim-start-3 in
    let e = c.locked_trim-start-4 in
    trimmed node begins c.args.seat.now
    (record { number = c.seat.inside.number; first = a.new.part; second = b.new.part; third = d.new.part; fourth = e.new.part })
    a.result b.result d.result e.result
    (behind_of g.L.First.Lane.begins (begins 0) law.first g.L.First.Lane.node node _ pool.one_node.0 a.ensures.start)
    (behind_of g.L.Second.Lane.begins (begins 1) law.second g.L.Second.Lane.node node _ pool.one_node.1 b.ensures.start)
    (behind_of g.L.Third.Lane.begins (begins 2) law.third g.L.Third.Lane.node node _ pool.one_node.2 d.ensures.start)
    (behind_of g.L.Fourth.Lane.begins (begins 3) law.fourth g.L.Fourth.Lane.node node _ pool.one_node.3 e.ensures.start)
    (search rules)
