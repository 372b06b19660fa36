-- A node goes on once for each of its lives.
use Rattle.std.proofs.Common.{◌≡◌, ℕ, Bool, true, false, ◌+◌, ◌<◌, max, nat_lt, cond, refl, ap, ◌∙◌, arith}
use Rattle.presence_base.specs.declared.dots.TheConstants.{MAX_COUNT}
use Rattle.presence_base.specs.Order.{same_replica}
use Rattle.orswot_core.proofs.OrderFacts.{replicas_equal}
use Rattle.link_rules.specs.declared.lives.Life.{Life}
use Rattle.link_rules.specs.declared.lives.Course.{Course}
use Rattle.link_rules.specs.declared.lives.Course.TheVariants.{HasGoneOn, GoesOn, Waits, StaysGone}
use Rattle.link_rules.specs.Lives.{course_of, course_behind, life_behind, life_refused, named_anew, GoesAbove, GoesOnOnce}
use Rattle.link_rules.specs.Rebirths.{are_many}

-- the incarnation under which a node goes on
abbrev under : Course → ℕ
under (GoesOn i) = i
under _ = 0

is_next : (n i : ℕ) (b : Bool) → cond b (GoesOn (n + 1)) StaysGone ≡ GoesOn i → n < i
is_next n i true h = let next : n + 1 ≡ i = ap under h in omega (arith, next)
is_next n i false h = absurd cc

-- one that goes on is told so of itself, and not of late
is_above : (life : Life) (now i : ℕ) (same many : Bool)
    → cond same (cond many Waits (course_behind (max life.own.incarnation life.told))) HasGoneOn ≡ GoesOn i → max life.own.incarnation life.told < i
is_above life now i true false h = is_next (max life.own.incarnation life.told) i (nat_lt (max life.own.incarnation life.told) MAX_COUNT) h
is_above life now i true true h = absurd cc
is_above life now i false many h = absurd cc

pub goes_above : GoesAbove
goes_above life hello now i h =
    let above = is_above life now i (same_replica hello life.own) (are_many life.rebirths now) h in (omega (arith, above), omega (arith, above))

is_another : (life : Life) (now i : ℕ) → course_of life life.own now ≡ GoesOn i → same_replica life.own (named_anew life.own i) ≡ false
is_another life now i h = go (same_replica life.own (named_anew life.own i)) refl
  where
    above : life.own.incarnation < i
    above = (goes_above life life.own now i h).0

    go : (b : Bool) → same_replica life.own (named_anew life.own i) ≡ b → b ≡ false
    go true e = let same : life.own.incarnation ≡ i = ap (λ r. r.incarnation) (replicas_equal life.own (named_anew life.own i) e) in
        absurd (omega (arith, above, same))
    go false e = refl

pub goes_on_once : GoesOnOnce
goes_on_once life i came now later accepted h =
    ap (λ b. course_of (cond b (life_refused life i came now) (life_behind life i came now)) life.own later) accepted
    ∙ ap (λ b. cond b (cond (are_many (life_behind life i came now).rebirths later) Waits (course_behind (max i life.told))) HasGoneOn) (is_another life now i h)
