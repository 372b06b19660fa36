use Rattle.std.proofs.Common.{arith, Some, string_bytes, subst, sym}
use Rattle.presence_options.specs.Given.{IsAddressIn}
use Rattle.presence_options.proofs.Peers.{none_lacks, no_name, no_peer, no_place, named_so, not_named, parts_at_first, peer_made}
use Rattle.presence_options.proofs.values.peer_in.Goals as goal

pub returns-in_default : goal.returns-in_default
returns-in_default c = no_peer c.args.text.now (none_lacks 61 c.args.text.now c.in_default.ensures.cases (omega arith))

pub returns-in_default-2 : goal.returns-in_default-2
returns-in_default-2 c =
    let parts = parts_at_first 61 c.args.text.now c.in-Some.name.now c.in-Some.address.now c.in-Some.ensures.cases (omega arith) in
    no_name c.args.text.now c.in-Some.name.now c.in-Some.address.now parts (not_named c.in-Some.name.now c.in_ok-name.field-0 c.in_ok-name.ensures c.in_default-2.not-Some)

pub returns-in_default-address_in : goal.returns-in_default-address_in
returns-in_default-address_in c =
    let parts = parts_at_first 61 c.args.text.now c.in-Some.name.now c.in-Some.address.now c.in-Some.ensures.cases (omega arith) in
    no_place c.args.text.now c.in-Some.name.now c.in-Some.address.now parts c.in_default-address_in.ensures

pub returns : goal.returns
returns c =
    let parts = parts_at_first 61 c.args.text.now c.in-Some.name.now c.in-Some.address.now c.in-Some.ensures.cases (omega arith) in
    let named = named_so c.in-Some.name.now c.in_ok-name.field-0 c.in-Some-2.name c.in_ok-name.ensures c.in-Some-2.is in
    let address = subst (λ h. IsAddressIn c.in-Some.address.now (Some (h, c.in-Some-address_in.port))) (sym c.in_ok-host.ensures.ok) c.in-Some-address_in.ensures in
    peer_made c.args.text.now c.in-Some.name.now c.in-Some.address.now parts c.in-Some-2.name (string_bytes c.in_ok-host.host) c.in-Some-address_in.port named.0 named.1 address
