-- Which steps are refused for want of room alone, and what a rebirth keeps.
pub use Rattle.tracker_shard.proofs.Doors.{room_heard, room_tick, room_permdown, room_cut, room_merge, kept_rows}
