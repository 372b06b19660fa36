use Rattle.std.proofs.Common.{◌≡◌, []}
use Rattle.serde_json.specs.View.{members_view}
use Rattle.presence_metas.specs.Frames.{listing_into}
use Rattle.presence_metas.proofs.frame.presences_of_members.Given as goal

-- what is left decides
abbrev pub invariant-loop-key : goal.invariant-loop-key
invariant-loop-key l = listing_into [] (members_view l.members.entries) ≡ listing_into l.presences (members_view l.key-iterator)
