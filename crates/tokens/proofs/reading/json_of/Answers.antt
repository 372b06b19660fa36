use Rattle.tokens.proofs.Json.{of_bytes}
use Rattle.tokens.proofs.reading.json_of.Goals as goal

pub returns-in-Err : goal.returns-in-Err
returns-in-Err c = of_bytes _ c.in-Err.ensures.cases.0
