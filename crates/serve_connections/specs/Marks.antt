-- What is changed of clients that are held or marked.
use Rattle.std.specs.Prelude.{◌≡◌, List, map}
use Rattle.serve_connections.specs.Working.{unreadied}
use Rattle.serve_connections.specs.declared.client.Client.{Client}

-- nothing but who takes the next turn
abbrev pub OnlyMarks : {S : Type 0} → List (Client S) → List (Client S) → Type 0
OnlyMarks olds news = map unreadied news ≡ map unreadied olds
