-- What threads hand back.
use Rattle.std.specs.Prelude.{List, [], ◌∷◌, ⊤}
use Rattle.std.specs.declared.thread.PromisedHandle.{PromisedHandle}
use Rattle.node_threads.specs.declared.tools.HandsBack.{HandsBack}

-- each of the second list was handed back for what stands at its place in the first
abbrev pub AreHandedBack : {T : Type 0} → (T → T → Type 0) → List T → List T → Type 0
AreHandedBack returns [] [] = ⊤
AreHandedBack returns [] (back ∷ backs) = ⊥
AreHandedBack returns (given ∷ all) [] = ⊥
AreHandedBack returns (given ∷ all) (back ∷ backs) = returns given back × AreHandedBack returns all backs

-- what the workers of these threads were given
abbrev pub given_to : {T : Type 0} → List (PromisedHandle T (HandsBack T)) → List T
given_to [] = []
given_to (worker ∷ workers) = worker.promise.0.value ∷ given_to workers
