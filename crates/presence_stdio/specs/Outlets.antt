-- A run of a session, between a reader and the outlets to which it writes.
use Rattle.std.specs.Prelude.{ℕ, List, Bool, Option, Result, IfSome}
use Rattle.presence_stdio.specs.Run.{Outs, outs, Tells, TellsInput, TurnOf}
use Rattle.presence_stdio.specs.Session.{State, Voice}
use Rattle.presence_stdio.specs.declared.fault.StdioFault.{StdioFault}
use Rattle.presence_stdio.specs.declared.outlets.Outlets.{Outlets}

-- what the outlets hold, where that is known
abbrev pub held : {W N : Type 0} → (W → Option (List ℕ)) → (N → Option (List ℕ)) → Outlets W N → Outs
held texts notes o = outs (texts o.texts) (notes o.notes)

-- the nth line was read and answered, if there was one
abbrev pub Turns : {O R : Type 0} → Voice → (O → Outs) → (R → Option (List ℕ)) → ℕ → State → State → R → R → O → O
    → Result Bool StdioFault → Type 0
Turns v held left n s after reader reader' out out' result =
    TurnOf v n s after (left reader) (left reader') (held out) (held out') result

-- lines were read and answered from this state on, as many as there were, and at most so many
abbrev pub Runs : {O R : Type 0} → Voice → (O → Outs) → (R → Option (List ℕ)) → ℕ → State → R → R → O → O
    → Result ℕ StdioFault → Type 0
Runs v held left max s reader reader' out out' result =
    Tells v max s (left reader) (left reader') (held out) (held out') result

-- the same of an input that is known
abbrev pub RunsKnown : {O : Type 0} → Voice → (O → Outs) → ℕ → State → Option (List ℕ) → O → O → Result ℕ StdioFault
    → Type 0
RunsKnown v held max s input out out' result =
    IfSome input (λ i. TellsInput v max s (held out) (held out') i result)
