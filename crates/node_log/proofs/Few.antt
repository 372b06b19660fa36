-- Lines of one reason within a second are few.
use Rattle.std.proofs.Common.{◌≡◌, ℕ, zero, suc, ◌+◌, ◌≤◌, Bool, true, false, if◌then◌else◌, nat_lt, ◌==◌, refl, subst, arith}
use Rattle.std.proofs.lemmas.Bool.Decides.{nat_tests}
use Rattle.node_log.specs.Counted.{behind_if, has_room, lines_in, lines_within}
use Rattle.node_log.specs.declared.quota.Quota.{Quota}

-- with the lines that there were, so many events have no more than may be
abbrev AreFew : ℕ → ℕ → Type 0
AreFew second events = (q : Quota) (n : ℕ) → lines_in q second ≡ n → n ≤ 5 → lines_within q second events + n ≤ 5

room_below : (n : ℕ) → nat_lt n 5 ≡ true → n + 1 ≤ 5
room_below n e = grind (arith, nat_tests)

same_second : (second : ℕ) (a b : ℕ) → (if second == second then a else b) ≡ a
same_second second a b = grind (arith, nat_tests)

after : (b : Bool) (q : Quota) (second events n : ℕ) → has_room q second ≡ b → lines_in q second ≡ n → n ≤ 5
    → AreFew second events → ((if b then 1 else 0) + lines_within (behind_if b q second) second events) + n ≤ 5
after true q second events n room same most few =
    let P : ℕ → Type 0 = λ k. nat_lt k 5 ≡ true in
    let below : n + 1 ≤ 5 = room_below n (subst P same room) in
    let Q : ℕ → Type 0 = λ k. lines_in (behind_if true q second) second ≡ k + 1 in
    let there : lines_in (behind_if true q second) second ≡ n + 1 = subst Q same (same_second second (lines_in q second + 1) 0) in
    let rest : lines_within (behind_if true q second) second events + (n + 1) ≤ 5 = few (behind_if true q second) (n + 1) there below in
    omega (arith, rest)
after false q second events n room same most few =
    let rest : lines_within (behind_if false q second) second events + n ≤ 5 = few (behind_if false q second) n same most in
    omega (arith, rest)

few_lines : (second events : ℕ) (q : Quota) (n : ℕ) → lines_in q second ≡ n → n ≤ 5 → lines_within q second events + n ≤ 5
few_lines second zero q n same most = omega (arith, most)
few_lines second (suc events) q n same most =
    after (has_room q second) q second events n refl same most (few_lines second events)

pub few_within : (q : Quota) (second events : ℕ) → q.lines ≤ 5 → lines_within q second events ≤ 5
few_within q second events most = go (lines_in q second) refl (at_most (second == q.second))
  where
    at_most : (b : Bool) → (if b then q.lines else 0) ≤ 5
    at_most true = most
    at_most false = omega arith

    go : (n : ℕ) → lines_in q second ≡ n → n ≤ 5 → lines_within q second events ≤ 5
    go n same le = omega (arith, few_lines second events q n same le)
