-- One more thread, and two more.
use Rattle.std.proofs.Common.{◌≡◌, ℕ, zero, suc, ◌+◌, List, [], ◌∷◌, ◌++◌, refl, ap, ◌∙◌, arith}
use Rattle.link_threads.specs.Tasks.{serving}
use Rattle.link_threads.specs.declared.tasks.LinkTask.{LinkTask}
use Rattle.link_threads.specs.declared.tasks.LinkTask.TheVariants.{Serve}

one_behind : (n : ℕ) → serving n ++ Serve ∷ [] ≡ serving (suc n)
one_behind zero = refl
one_behind (suc n) = ap (λ ts. Serve ∷ ts) (one_behind n)

pub serving_more : (n : ℕ) → serving n ++ Serve ∷ [] ≡ serving (n + 1)
serving_more n = let e : n + 1 ≡ suc n = omega arith in rw e (one_behind n)

both_behind : (old : List LinkTask) (a b : LinkTask) → (old ++ a ∷ []) ++ b ∷ [] ≡ old ++ a ∷ b ∷ []
both_behind [] a b = refl
both_behind (x ∷ xs) a b = ap (λ ts. x ∷ ts) (both_behind xs a b)

pub two_more : (old mid new : List LinkTask) (a b : LinkTask) → mid ≡ old ++ a ∷ [] → new ≡ mid ++ b ∷ [] → new ≡ old ++ a ∷ b ∷ []
two_more old mid new a b first second = second ∙ ap (λ ts. ts ++ b ∷ []) first ∙ both_behind old a b
