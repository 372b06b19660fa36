use Rattle.session_laws.proofs.Givings.{all_frames_mirror}
use Rattle.session_laws.proofs.Mirroring.{frames_mirror}
use Rattle.session_laws.proofs.laws.frames_mirror.Goals as goal

pub returns-clause-taken : goal.returns-clause-taken
returns-clause-taken c = frames_mirror

pub returns-clause-given : goal.returns-clause-given
returns-clause-given c = all_frames_mirror
