use Rattle.std.proofs.Common.{length}
use Rattle.delta_range.proofs.GrowthFacts.{room_left}
use Rattle.delta_range.proofs.growth.Growth.commit.Goals as goal

pub add_rows-requires : goal.add_rows-requires
add_rows-requires c = room_left c.self.inside.removal c.self.inside.live.items c.take_out-older.new.live.items (length c.self.inside.rows.items) _ _ c.take_out-older.ensures.live c.take_out-older.ensures.capacity c.self.invariant.1
