use Rattle.std.proofs.Common.{◌≡◌, ◌++◌, List, map, drop}
use Rattle.std.specs.declared.net.ip_addr.IpAddr.{IpAddr}
use Rattle.presence_options.specs.Given.{AreAddressTexts, WriteAddresses}
use Rattle.presence_options.proofs.addresses.addresses_of.Given as goal

-- the addresses so far, followed by those of the texts that are left
abbrev pub invariant-loop-text : goal.invariant-loop-text
invariant-loop-text l =
    ((more : List IpAddr) → WriteAddresses (map (λ t. t.now) (drop l.text-index l.texts)) more → WriteAddresses (map (λ t. t.now) l.texts) (l.addresses.items ++ more))
    × (AreAddressTexts (map (λ t. t.now) l.texts) → AreAddressTexts (map (λ t. t.now) (drop l.text-index l.texts)))
    × (AreAddressTexts (map (λ t. t.now) (drop l.text-index l.texts)) → AreAddressTexts (map (λ t. t.now) l.texts))
    × (l.addresses.len ≡ l.text-index)
