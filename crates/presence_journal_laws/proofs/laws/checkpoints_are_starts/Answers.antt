use Rattle.presence_journal_cuts.proofs.Sound.{is_sound, begins_kept}
use Rattle.presence_journal_laws.proofs.Sound.{begins_legal, begins_with_room}
use Rattle.presence_journal_laws.proofs.laws.checkpoints_are_starts.Goals as goal

pub returns-clause-start : goal.returns-clause-start
returns-clause-start c = is_sound

pub returns-clause-legal : goal.returns-clause-legal
returns-clause-legal c = begins_legal

pub returns-clause-kept : goal.returns-clause-kept
returns-clause-kept c = begins_kept

pub returns-clause-room : goal.returns-clause-room
returns-clause-room c = begins_with_room
