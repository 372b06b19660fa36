-- Where memory ran out nothing else is told.
use Rattle.std.proofs.Common.{◌≡◌, List, Option, Result, Err, sym, subst}
use Rattle.json.specs.Json as json
use Rattle.json.specs.Token.{Token}
use Rattle.serde_json.specs.Data.{Data}
use Rattle.link_lines.specs.declared.fault.LinkFault.{LinkFault}
use Rattle.link_lines.specs.declared.fault.LinkFault.TheVariants as faults
use Rattle.link_lines.specs.declared.fault.LinkFault.TheVariants.{OutOfMemory}
use Rattle.link_lines.specs.ReadingMembers.{Found, FoundNext}
use Rattle.link_lines.specs.Results.{Fails, Answers}

pub out_of_memory : {X Y : Type 0} (view : X → Y) (new rest : List Token) (r : Result X LinkFault) (reading : Result Y LinkFault) → r ≡ Err OutOfMemory → Found view new rest r reading
out_of_memory view new rest r reading e = subst (λ x. Found view new rest x reading) (sym e) tt

pub out_of_memory_next : {X Y : Type 0} (view : X → Y) (f : Data → Option Y) (js : json.Items) (rest new : List Token) (r : Result X LinkFault) → r ≡ Err OutOfMemory → FoundNext view f js rest new r
out_of_memory_next view f js rest new r e = subst (λ x. FoundNext view f js rest new x) (sym e) tt

-- a fault of a part is the whole's
pub fails_on : {A B : Type 0} (e : LinkFault) (part : Result A LinkFault) (whole : Result B LinkFault) → Fails e part → ((f : LinkFault) → part ≡ Err f → whole ≡ Err f) → Fails e whole
fails_on faults.LineTooLong part whole h go = go faults.LineTooLong h
fails_on faults.NotJson part whole h go = go faults.NotJson h
fails_on faults.BadLine part whole h go = go faults.BadLine h
fails_on (faults.BadTold f) part whole h go = go (faults.BadTold f) h
fails_on faults.OtherShards part whole h go = go faults.OtherShards h
fails_on faults.ReadFailed part whole h go = go faults.ReadFailed h
fails_on faults.WriteFailed part whole h go = go faults.WriteFailed h
fails_on faults.OutOfMemory part whole h go = tt
fails_on faults.CutLine part whole h go = go faults.CutLine h

pub found_fault : {X Y : Type 0} (view : X → Y) (new rest : List Token) (r : Result X LinkFault) (reading : Result Y LinkFault) (e : LinkFault) → r ≡ Err e → Fails e reading → Found view new rest r reading
found_fault view new rest r reading e is h = subst (λ x. Found view new rest x reading) (sym is) h

pub answers_fault : {X : Type 0} (r reading : Result X LinkFault) (e : LinkFault) → r ≡ Err e → Fails e reading → Answers r reading
answers_fault r reading e is h = subst (λ x. Answers x reading) (sym is) h

-- what is read fails so, and so does what was answered
pub fails_when : {Y : Type 0} (e : LinkFault) (reading : Result Y LinkFault) → reading ≡ Err e → Fails e reading
fails_when faults.OutOfMemory reading h = tt
fails_when faults.LineTooLong reading h = h
fails_when faults.NotJson reading h = h
fails_when faults.BadLine reading h = h
fails_when (faults.BadTold f) reading h = h
fails_when faults.OtherShards reading h = h
fails_when faults.ReadFailed reading h = h
fails_when faults.WriteFailed reading h = h
fails_when faults.CutLine reading h = h
