-- What the program says of a fault of a run.
use Rattle.std.specs.Prelude.{ℕ, List, Option, Some, None, codes}
use Rattle.channel_session.specs.declared.fault.SessionFault.{SessionFault}
use Rattle.channel_session.specs.declared.fault.SessionFault.TheVariants as session_faults
use Rattle.presence_stdio.specs.RefusalTold.{fault_number, told_line}
use Rattle.presence_stdio.specs.declared.fault.StdioFault.{StdioFault}
use Rattle.presence_stdio.specs.declared.fault.StdioFault.TheVariants.{Line, Session, Read, Write, Memory}

abbrev pub session_number : SessionFault → ℕ
session_number (session_faults.BadMessage f) = 1
session_number session_faults.OutOfMemory = 2
session_number session_faults.ShardFull = 3
session_number session_faults.Failed = 4

-- M and the number of a message's refusal, or C and that of a session's
abbrev pub told_of : StdioFault → Option (List ℕ)
told_of (Line n f) = Some (told_line n (codes "M") (fault_number f))
told_of (Session n f) = Some (told_line n (codes "C") (session_number f))
told_of (Read f) = None
told_of Write = None
told_of Memory = None

abbrev pub status_number : StdioFault → ℕ
status_number (Line n f) = 1
status_number (Session n f) = 1
status_number (Read f) = 1
status_number Write = 1
status_number Memory = 2
