-- What is said of a port.
use Rattle.std.specs.Prelude.{◌≡◌, ℕ, List, ◌++◌, Some, decimal}
use Rattle.std.proofs.Common.{ap}
use Rattle.presence_node_main.specs.ServeEnds.{Names}

-- a line with the port's digits in it names the port
pub names_port : (port : ℕ) (front back line : List ℕ) → line ≡ front ++ (decimal port ++ back) → Names port (Some line)
names_port port front back line is = (front, back, ap Some is)
