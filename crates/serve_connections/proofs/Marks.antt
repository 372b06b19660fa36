-- Clients of which one more is held or marked.
use Rattle.std.proofs.Common.{◌≡◌, ◌∙◌, ℕ, List, [], ◌∷◌, ap, map, refl}
use Rattle.serve_connections.specs.Working.{held, marked, unreadied}
use Rattle.serve_connections.specs.declared.client.Client.{Client}
use Rattle.serve_connections.specs.Marks.{OnlyMarks}

held_only : {S : Type 0} (token : ℕ) (cs : List (Client S)) → map unreadied (map (held token) cs) ≡ map unreadied cs
held_only token [] = refl
held_only token (c ∷ cs) = ap (λ rest. unreadied c ∷ rest) (held_only token cs)

marked_only : {S : Type 0} (token : ℕ) (cs : List (Client S)) → map unreadied (map (marked token) cs) ≡ map unreadied cs
marked_only token [] = refl
marked_only token (c ∷ cs) = ap (λ rest. unreadied c ∷ rest) (marked_only token cs)

-- one more is held
pub held_next : {S : Type 0} (token : ℕ) (olds mids news : List (Client S)) → OnlyMarks olds mids
    → news ≡ map (held token) mids → OnlyMarks olds news
held_next token olds mids news before is = ap (map unreadied) is ∙ (held_only token mids ∙ before)

-- one more is marked
pub marked_next : {S : Type 0} (token : ℕ) (olds mids news : List (Client S)) → OnlyMarks olds mids
    → news ≡ map (marked token) mids → OnlyMarks olds news
marked_next token olds mids news before is = ap (map unreadied) is ∙ (marked_only token mids ∙ before)
