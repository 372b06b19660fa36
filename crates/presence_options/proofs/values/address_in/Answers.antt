use Rattle.std.proofs.Common.{arith, rules, ◌≡◌, false}
use Rattle.presence_options.specs.Hosts.{is_host}
use Rattle.presence_options.proofs.Peers.{none_lacks, no_address, no_host, no_port, parts_at_last}
use Rattle.presence_options.proofs.values.address_in.Goals as goal

pub returns-in_default : goal.returns-in_default
returns-in_default c = no_address c.args.text.now (none_lacks 58 c.args.text.now c.in_default.ensures.cases (omega arith))

pub returns-then-not-is_host : goal.returns-then-not-is_host
returns-then-not-is_host c =
    let none : is_host c.in-Some.host.now ≡ false = search rules in
    no_host c.args.text.now c.in-Some.host.now c.in-Some.port.now (parts_at_last 58 c.args.text.now c.in-Some.host.now c.in-Some.port.now c.in-Some.ensures.cases (omega arith)) none

pub returns-in-None : goal.returns-in-None
returns-in-None c =
    no_port c.args.text.now c.in-Some.host.now c.in-Some.port.now (parts_at_last 58 c.args.text.now c.in-Some.host.now c.in-Some.port.now c.in-Some.ensures.cases (omega arith))
    c.in-None.ensures
