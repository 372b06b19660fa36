use Rattle.std.proofs.Common.{arith, eq-eqb, ap}
use Rattle.std.specs.Prelude.{◌≡◌, ℕ, nat_eq, IsTrue, length}
use Rattle.hmac_keys.proofs.Differences.{differ_more, none_differs, alike, told, apart}
use Rattle.hmac_keys.proofs.same.are_same.Goals as goal

is_zero : (n : ℕ) → IsTrue (nat_eq n 0) → n ≡ 0
is_zero n h = grind arith

pub loop-i-preserved : goal.loop-i-preserved
loop-i-preserved c = (differ_more _ _ _ _ c.loop-i.invariant.0, none_differs _ _ _ _ c.loop-i.invariant.1)

pub returns : goal.returns
returns c =
    let forth = λ (none : IsTrue (nat_eq c.loop-i.differing 0)). alike _ _ (omega arith) (λ k low. c.loop-i.invariant.0 (is_zero _ none) k (omega arith)) in
    let back = λ (same : c.args.a.now ≡ c.args.b.now). eq-eqb _ _ (c.loop-i.invariant.1 same) in
    record { same = (forth, back); test = told _ _ _ forth back }

pub returns-then-a-b : goal.returns-then-a-b
returns-then-a-b c = record { same = (λ e. absurd (cc), λ same. absurd (c.if-a-b.true (ap length same))); test = apart _ _ c.if-a-b.true }
