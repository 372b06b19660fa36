-- Each move keeps the rule of the queue of connections.
use Rattle.std.proofs.Common.{◌≡◌, ◌≢◌, ℕ, zero, suc, ◌<◌, ◌≤◌, ◌+◌, true, false, true≢false, List, [], ◌∷◌, ◌++◌, set, sym, refl, ◌∙◌, subst, ⊎_elim, arith}
use mathlib.Core.Option.{some, some-ne-none}
use lib.ListN.{get_elem?}
use Rattle.crossbeam_queue.specs.Fifo.{Pushes, Pops, Forks, Learns}
use Rattle.crossbeam_queue.proofs.Lists.{at_set, at_snoc}
use Rattle.node_threads.specs.declared.queue.Knowledge.{Knowledge}
use Rattle.node_threads.specs.declared.numbered.Numbered.{Numbered}
use Rattle.node_threads.specs.Rising.{knowledge, RisesBetween, RisesBelow, Knows, Rises, TakenOnce, WasFull}

abbrev All : (ℕ → Knowledge → Type 0) → List Knowledge → Type 0
All F views = (port : ℕ) (v : Knowledge) → get_elem? views port ≡ some v → F port v

all_set : (F : ℕ → Knowledge → Type 0) (views : List Knowledge) (port : ℕ) (w : Knowledge) → F port w → ((j : ℕ) (u : Knowledge) → j ≢ port → get_elem? views j ≡ some u → F j u) → All F (set views port w)
all_set F views port w mine others j u e = ⊎_elim (λ (x : (j ≡ port) × (w ≡ u)). subst (λ (y : ℕ × Knowledge). F y.0 y.1) (λ i. (sym x.0 i, x.1 i)) mine)
    (λ (x : (j ≢ port) × (get_elem? views j ≡ some u)). others j u x.0 x.1) (at_set views port j w u e)

one : (a : Knowledge) (j : ℕ) (u : Knowledge) → get_elem? (a ∷ []) j ≡ some u → (j ≡ 0) × (a ≡ u)
one a zero u e = (refl, mathlib.Core.Option.some-injective a u e)
one a (suc j) u e = absurd (some-ne-none u (sym e))

pub begins : (S : Type 0) → Rises {S = S} [] (knowledge true 0 0 0 ∷ [])
begins S =
    record {
      writer = 0;
      floor = 0;
      top = 0;
      rises = omega arith;
      known = λ j u e. let o = one (knowledge true 0 0 0) j u e in subst (λ (y : ℕ × Knowledge). Knows 0 0 0 y.0 y.1) (λ i. (sym o.0 i, o.1 i)) (omega arith, λ _. (refl, refl));
    }

module _ {S : Type 0} where
  low : (floor top : ℕ) (items : List (Numbered S)) → RisesBetween floor top items → floor ≤ top
  low floor top [] h = h
  low floor top (c ∷ cs) h = let k = low c.number top cs h.1 in let l = h.0 in omega arith

  more : (floor top : ℕ) (items : List (Numbered S)) (x : Numbered S) → top < x.number → RisesBetween floor top items → RisesBetween floor x.number (items ++ x ∷ [])
  more floor top [] x up h = (omega arith, omega arith)
  more floor top (c ∷ cs) x up h = (h.0, more c.number top cs x up h.1)

  pub gives : (n port : ℕ) (v : Knowledge) (x : Numbered S) → v.pushes ≡ true → v.pushed < x.number → Pushes Rises n port v x (λ w. w ≡ knowledge v.pushes x.number v.taken v.pops)
  gives n port v x may up items views _ h at =
      let w : Knowledge = knowledge v.pushes x.number v.taken v.pops in
      let mine = h.known port v at in
      let top = (mine.1 may).1 in (
        w,
        record {
          writer = h.writer;
          floor = h.floor;
          top = x.number;
          rises = more h.floor h.top items x (omega (arith, top, up)) h.rises;
          known = all_set (Knows h.writer h.floor x.number) views port w (mine.0, λ _. ((mine.1 may).0, refl))
              (λ j u other e. ((h.known j u e).0, λ p. absurd (other (((h.known j u e).1 p).0 ∙ sym (mine.1 may).0))));
        },
        refl,
      )

  -- the pass that pushes learns that all that waits lies below the next number
  pub learns : (port : ℕ) (v : Knowledge) → v.pushes ≡ true → Learns (Rises {S = S}) port v (λ items. RisesBelow (v.pushed + 1) items)
  learns port v may items views h at =
      let top = ((h.known port v at).1 may).1 in
      record { floor = h.floor; top = h.top; rises = h.rises; below = omega (arith, top) }

  pub takes : (port : ℕ) (v : Knowledge) → Pops (Rises {S = S}) port v (λ x w. (v.taken < x.number) × (w ≡ knowledge v.pushes v.pushed x.number (v.pops + 1)))
  takes port v x items views h at =
      let w : Knowledge = knowledge v.pushes v.pushed x.number (v.pops + 1) in
      let mine = h.known port v at in
      let up : h.floor < x.number = h.rises.0 in
      let below : v.taken ≤ h.floor = mine.0 in (
        w,
        record {
          writer = h.writer;
          floor = x.number;
          top = h.top;
          rises = h.rises.1;
          known = all_set (Knows h.writer x.number h.top) views port w (omega arith, mine.1)
              (λ j u other e. let k : u.taken ≤ h.floor = (h.known j u e).0 in (omega arith, (h.known j u e).1));
        },
        (omega arith, refl),
      )

  pub forks : (port : ℕ) (v : Knowledge) → Forks (Rises {S = S}) port v v (knowledge false 0 0 0)
  forks port v items views h at =
      let mine = h.known port v at in
      let F : ℕ → Knowledge → Type 0 = Knows h.writer h.floor h.top in
      let r : Knowledge = knowledge false 0 0 0 in
      let vs : List Knowledge = set views port v in
      let old : All F vs = all_set F views port v mine (λ j u other e. h.known j u e) in
      record {
        writer = h.writer;
        floor = h.floor;
        top = h.top;
        rises = h.rises;
        known = λ j u e. ⊎_elim (λ x. old j u x) (λ (is : r ≡ u). subst (λ (y : Knowledge). F j y) is (omega arith, λ p. absurd (true≢false (sym p)))) (at_snoc vs r u j e);
      }

pub full_below : (S : Type 0) (room pushed next : ℕ) → pushed < next → WasFull S room (pushed + 1) → WasFull S room next
full_below S room pushed next up h =
    let k : RisesBelow (pushed + 1) h.0 = h.2 in
    let b : k.top < pushed + 1 = k.below in
    (h.0, h.1, record { floor = k.floor; top = k.top; rises = k.rises; below = omega arith })

pub taken_once : (S : Type 0) → TakenOnce S
taken_once S oldest others views port v h at =
    let up : h.floor < oldest.number = h.rises.0 in
    let below : v.taken ≤ h.floor = (h.known port v at).0 in
    omega arith
