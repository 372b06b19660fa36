-- The journals of a pool put together.
use Rattle.std.proofs.Common.{◌≡◌, ℕ, zero, suc, ◌<◌, ◌≤◌, true, cond, nat_lt, List, [], ◌∷◌, ◌++◌, take, append-nil, refl, sym, ap, subst, ◌∙◌, arith}
use Rattle.std.specs.Prelude.{All, Result, Ok, Err, IsErrAnd}
use Rattle.std.proofs.lemmas.List.Elements.{All-push}
use Rattle.presence_journal.specs.History.{History, own}
use Rattle.shard_pool_settled.specs.declared.fault.SettleFault.{SettleFault}
use Rattle.shard_pool.specs.Lines.{IsOfLane}
use Rattle.shard_pool.specs.Unseated.{IsOf}
use Rattle.shard_pool.specs.Seats.{IsOfShardAt}
use Rattle.shard_pool.specs.Settling.{ArePlaced}
use Rattle.shard_pool.proofs.AtNumber.{line_of}

pub put_behind : (node : List ℕ) (js : List History) (j : History) → All (IsOf node) js → IsOf node j → All (IsOf node) (js ++ j ∷ [])
put_behind node js j before one = All-push (IsOf node) js j before one

pub none_behind : (js : List History) → js ≡ js ++ []
none_behind js = sym (append-nil js)

pub ruleset settled = (put_behind, none_behind)

placed : (n : ℕ) (a b c d : History) → 0 < n → n ≤ 4
    → (((a ∷ []) ++ cond (nat_lt 1 n) (b ∷ []) []) ++ cond (nat_lt 2 n) (c ∷ []) []) ++ cond (nat_lt 3 n) (d ∷ []) [] ≡ take n (a ∷ b ∷ c ∷ d ∷ [])
placed zero a b c d some most = absurd (omega (arith, some))
placed (suc zero) a b c d some most = refl
placed (suc (suc zero)) a b c d some most = refl
placed (suc (suc (suc zero))) a b c d some most = refl
placed (suc (suc (suc (suc zero)))) a b c d some most = refl
placed (suc (suc (suc (suc (suc n))))) a b c d some most = absurd (omega (arith, most))

-- the journals of the shards that are used, put one behind the other
pub in_order : (n : ℕ) (a b c d : History) (one two three all : List History) → 0 < n → n ≤ 4
    → one ≡ [] ++ cond true (a ∷ []) [] → two ≡ one ++ cond (nat_lt 1 n) (b ∷ []) []
    → three ≡ two ++ cond (nat_lt 2 n) (c ∷ []) [] → all ≡ three ++ cond (nat_lt 3 n) (d ∷ []) []
    → all ≡ take n (a ∷ b ∷ c ∷ d ∷ [])
in_order n a b c d one two three all some most first second third fourth =
    let upto_two = second ∙ ap (λ l. l ++ cond (nat_lt 1 n) (b ∷ []) []) first in
    let upto_three = third ∙ ap (λ l. l ++ cond (nat_lt 2 n) (c ∷ []) []) upto_two in
    fourth ∙ ap (λ l. l ++ cond (nat_lt 3 n) (d ∷ []) []) upto_three ∙ placed n a b c d some most

in_their_places : (here : ℕ → History → Type 0) (n : ℕ) (a b c d : History) → n ≤ 4 → here 0 a → here 1 b → here 2 c → here 3 d
    → ArePlaced here 0 (take n (a ∷ b ∷ c ∷ d ∷ []))
in_their_places here zero a b c d most p q r s = tt {0}
in_their_places here (suc zero) a b c d most p q r s = (p, tt {0})
in_their_places here (suc (suc zero)) a b c d most p q r s = (p, (q, tt {0}))
in_their_places here (suc (suc (suc zero))) a b c d most p q r s = (p, (q, (r, tt {0})))
in_their_places here (suc (suc (suc (suc zero)))) a b c d most p q r s = (p, (q, (r, (s, tt {0}))))
in_their_places here (suc (suc (suc (suc (suc n))))) a b c d most p q r s = absurd (omega (arith, most))

-- the journals of four lanes in their order, those that are used
pub are_placed : (node : List ℕ) (Begins : ℕ → History → Type 0) (A B C D : History → Type 0) (n : ℕ) (a b c d : History) (all : List History) → n ≤ 4
    → ((h : History) → A h → Begins 0 h) → ((h : History) → B h → Begins 1 h) → ((h : History) → C h → Begins 2 h) → ((h : History) → D h → Begins 3 h)
    → all ≡ take n (a ∷ b ∷ c ∷ d ∷ [])
    → (own a).name ≡ node → (own b).name ≡ node → (own c).name ≡ node → (own d).name ≡ node
    → IsOfLane A a → IsOfLane B b → IsOfLane C c → IsOfLane D d → ArePlaced (IsOfShardAt node Begins) 0 all
are_placed node Begins A B C D n a b c d all most law-a law-b law-c law-d order first second third fourth one two three four =
    subst (λ (js : List History). ArePlaced (IsOfShardAt node Begins) 0 js) (sym order)
    (in_their_places (IsOfShardAt node Begins) n a b c d most
    (record { of_node = first; of_lane = line_of A (Begins 0) law-a a one }) (record { of_node = second; of_lane = line_of B (Begins 1) law-b b two })
    (record { of_node = third; of_lane = line_of C (Begins 2) law-c c three }) (record { of_node = fourth; of_lane = line_of D (Begins 3) law-d d four }))

-- the fault of a call is what it hands on
abbrev fault_in : {A : Type 0} → SettleFault → Result A SettleFault → SettleFault
fault_in other (Ok x) = other
fault_in other (Err e) = e

pub handed_on : {A : Type 0} (r : Result A SettleFault) (f k : SettleFault) → IsErrAnd r (λ e. e ≡ f) → r ≡ Err k → f ≡ k
handed_on (Ok x) f k is same = absurd is
handed_on (Err e) f k is same = sym is ∙ ap (fault_in k) same
