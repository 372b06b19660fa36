use Rattle.std.proofs.Common.{rules, ◌≡◌, length}
use Rattle.std.specs.Prelude.{vec_len}
use Rattle.node_threads.proofs.HandedBacks.{handed_back}
use Rattle.node_threads.proofs.crew.join_all.Goals as goal

pub returns-in-Ok : goal.returns-in-Ok
returns-in-Ok g c =
    let workers = c.args.workers in let backs = c.in-Ok.backs in
    let many : length workers.items ≡ vec_len workers = search rules in
    let as_many : length backs.items ≡ vec_len workers = search rules in
    handed_back g.T.Tools.returns _ (λ promise back kept. kept) workers.items backs.items (vec_len workers) many as_many c.in-Ok.ensures.each
