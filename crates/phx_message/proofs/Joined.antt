-- The parts of a reply's text, written one behind the other.
use Rattle.std.proofs.Common.{◌≡◌, ℕ, List, ◌∷◌, ◌++◌, ap, ◌∙◌, append_assoc}

pub joined : (r s q a x b : List ℕ) → (((91 ∷ (r ++ (44 ∷ (s ++ (44 ∷ q))))) ++ a) ++ x) ++ b ≡ 91 ∷ (r ++ (44 ∷ (s ++ (44 ∷ (q ++ (a ++ (x ++ b)))))))
joined r s q a x b =
    let front : List ℕ = 91 ∷ (r ++ (44 ∷ (s ++ (44 ∷ q)))) in
    append_assoc (front ++ a) x b
    ∙ append_assoc front a (x ++ b)
    ∙ ap (λ z. 91 ∷ z) (append_assoc r (44 ∷ (s ++ (44 ∷ q))) (a ++ (x ++ b)) ∙ ap (λ z. r ++ (44 ∷ z)) (append_assoc s (44 ∷ q) (a ++ (x ++ b))))
