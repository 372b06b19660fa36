-- What threads hand back, place by place and as a whole.
use Rattle.std.proofs.Common.{rules, arith, ℕ, ◌+◌, ◌≡◌, List, [], ◌∷◌, ◌++◌, length, slice_index_or, refl, sym, subst, ◌∙◌}
use Rattle.std.proofs.lemmas.Grind.{get_or_after_one}
use Rattle.std.specs.PromisedHandle.{KeepsAt, KeepsEach}
use Rattle.std.specs.declared.thread.PromisedHandle.{PromisedHandle}
use Rattle.std.specs.declared.thread.Promise as Promise
use Rattle.node_threads.specs.declared.tools.HandsBack.{HandsBack}
use Rattle.node_threads.specs.HandedBack.{AreHandedBack, given_to}

-- a further thread was given its tools after the others
pub given_to-snoc : {T : Type 0} → (workers : List (PromisedHandle T (HandsBack T))) (worker : PromisedHandle T (HandsBack T)) (rest : List T)
    → given_to (workers ++ worker ∷ []) ++ rest ≡ given_to workers ++ worker.promise.0.value ∷ rest
given_to-snoc [] worker rest = refl
given_to-snoc (w ∷ workers) worker rest = let more = given_to-snoc workers worker rest in search rules

-- a promise kept behind the first is kept in the rest
pub after : {T : Type 0} → {g : Promise.Ghosts (HandsBack T) T} → (workers : List (PromisedHandle T (HandsBack T))) (backs : List T)
    (worker : PromisedHandle T (HandsBack T)) (back : T) (i : ℕ) (d : T)
    → KeepsAt g (worker ∷ workers) (1 + i) (slice_index_or (back ∷ backs) (1 + i) d) → KeepsAt g workers i (slice_index_or backs i d)
after {g = g} workers backs worker back i d at = record {
  handle = at.handle;
  handle_is = at.handle_is ∙ sym (get_or_after_one (worker ∷ workers) i at.handle);
  kept = subst (λ b. g.kept_by at.handle.promise b) (sym (get_or_after_one (back ∷ backs) i d)) at.kept;
}

-- where each promise is kept, all is handed back
pub handed_back : {T : Type 0} → (returns : T → T → Type 0) (g : Promise.Ghosts (HandsBack T) T)
    → ((promise : HandsBack T) (back : T) → g.kept_by promise back → returns promise.0.value back)
    → (workers : List (PromisedHandle T (HandsBack T))) (backs : List T)
    → (n : ℕ) → length workers ≡ n → length backs ≡ n → KeepsEach g n workers backs → AreHandedBack returns (given_to workers) backs
handed_back returns g keeps [] [] n many as_many each = tt
handed_back returns g keeps [] (back ∷ backs) n many as_many each = absurd (omega arith)
handed_back returns g keeps (worker ∷ workers) [] n many as_many each = absurd (omega arith)
handed_back returns g keeps (worker ∷ workers) (back ∷ backs) n many as_many each =
    let first = (each 0 back (omega arith)).1 in
    let rest : KeepsEach g (length workers) workers backs = λ i d below. (refl, after workers backs worker back i d (each (1 + i) d (omega arith)).1) in
    (keeps worker.promise back (rw (sym first.handle_is) first.kept), handed_back returns g keeps workers backs (length workers) refl (omega arith) rest)
