use Rattle.std.proofs.Common.{◌≡◌, ◌<◌, ◌-◌, ℕ, suc, List, length, arith}
use Rattle.presence_journal_cuts.proofs.RunLemmas.{put_again}
use Rattle.presence_journal_cuts.proofs.Handings.{grown_last, grown_apart}
use Rattle.presence_journal_cuts.proofs.chain.grow_last.Goals as goal

pub returns-then-last-count : goal.returns-then-last-count
returns-then-last-count c =
    let rs : List (ℕ × ℕ) = c.args.runs.now in
    let last = c.in-Some.last.now in
    let found = c.in-Some.ensures.item in
    let within : length rs - 1 < length rs = omega (arith, found.3.0) in
    let at : suc (length rs - 1) ≡ length rs = omega (arith, found.3.0) in
    (put_again rs (length rs - 1) last within found.1, grown_apart rs (length rs - 1) c.args.count last at found.1 c.requires c.if-last-count.true)

pub returns : goal.returns
returns c =
    let rs : List (ℕ × ℕ) = c.args.runs.now in
    let last = c.in-Some.last.now in
    let found = c.in-Some.ensures.item in
    let at : suc (length rs - 1) ≡ length rs = omega (arith, found.3.0) in
    grown_last rs (length rs - 1) c.args.count last at found.1 c.requires c.if-last-count.false
