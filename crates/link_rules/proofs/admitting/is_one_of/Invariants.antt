use Rattle.std.proofs.Common.{◌≡◌, drop}
use Rattle.link_rules.specs.Admitting.{is_one_of}
use Rattle.link_rules.proofs.admitting.is_one_of.Given as goal

-- one of them is the address if one of those that are left is it
abbrev pub invariant-loop-one : goal.invariant-loop-one
invariant-loop-one l = is_one_of l.all l.address ≡ is_one_of (drop l.one-index l.all) l.address
