-- What the program says of a fault of a fold.
use Rattle.std.specs.Prelude.{ℕ, List, Option, Some, None, codes}
use Rattle.presence_metas.specs.declared.frame.FrameFault.{FrameFault}
use Rattle.presence_metas.specs.declared.frame.FrameFault.TheVariants as frame_fault_is
use Rattle.presence_stdio.specs.RefusalTold.{fault_number, told_line}
use Rattle.presence_stdio.specs.declared.fold_fault.FoldFault.{FoldFault}
use Rattle.presence_stdio.specs.declared.fold_fault.FoldFault.TheVariants as fold_fault_is

abbrev pub frame_number : FrameFault → ℕ
frame_number frame_fault_is.NotPresence = 1
frame_number frame_fault_is.BadShape = 2
frame_number frame_fault_is.NoRef = 3
frame_number frame_fault_is.OutOfMemory = 4

abbrev pub told_of_fold : FoldFault → Option (List ℕ)
told_of_fold (fold_fault_is.Line n f) = Some (told_line n (codes "M") (fault_number f))
told_of_fold (fold_fault_is.Frame n f) = Some (told_line n (codes "F") (frame_number f))
told_of_fold (fold_fault_is.Read f) = None
told_of_fold fold_fault_is.Write = None
told_of_fold fold_fault_is.Memory = None

abbrev pub fold_status_number : FoldFault → ℕ
fold_status_number (fold_fault_is.Line n f) = 1
fold_status_number (fold_fault_is.Frame n f) = 1
fold_status_number (fold_fault_is.Read f) = 1
fold_status_number fold_fault_is.Write = 1
fold_status_number fold_fault_is.Memory = 2
