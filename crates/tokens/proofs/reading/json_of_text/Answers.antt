use Rattle.std.proofs.Common.{refl}
use Rattle.tokens.proofs.Json.{of_unique, of_error}
use Rattle.tokens.proofs.reading.json_of_text.Goals as goal

pub returns-in-Ok : goal.returns-in-Ok
returns-in-Ok c = of_unique _ _ c.utf8.text c.in-Ok.ensures.ok c.in-Ok.ensures.unique

pub returns-in-Err : goal.returns-in-Err
returns-in-Err c = rw c.fault_of.ensures (of_error _ _ _ refl c.utf8.text c.in-Err.ensures.invalid c.in-Err.ensures.duplicate c.in-Err.ensures.never_too_long)
