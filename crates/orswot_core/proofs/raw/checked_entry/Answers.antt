use Rattle.std.proofs.Common.{◌≡◌, ℕ, ◌%◌, true, false, ◌&&◌, nat_eq, sum, sym, ◌∙◌, ap, arith}
use Rattle.std.proofs.lemmas.Bool.Decides.{nat_tests}
use Rattle.presence_base.specs.declared.row.Row.{Row}
use Rattle.orswot_core.specs.Limits.{is_dot, is_row, are_texts, is_on_shard}
use Rattle.orswot_core.proofs.LoopFacts.{elsewhere, found_row, accepted}
use Rattle.orswot_core.proofs.raw.checked_entry.Goals as goal

not_there : (a b : ℕ) → (a ≡ b → ⊥) → nat_eq a b ≡ false
not_there a b h = grind (arith, nat_tests)

there : (a b : ℕ) → a ≡ b → nat_eq a b ≡ true
there a b h = grind (arith, nat_tests)

pub returns-then-shard_of-shard : goal.returns-then-shard_of-shard
returns-then-shard_of-shard c =
    let found = found_row (is_row c.args.raw && are_texts c.args.raw) c.args.raw c.in-Some.row c.in_ok-row.field-0 c.in_ok-row.ensures c.in-Some.is in
    elsewhere (is_dot c.args.dot) (is_row c.args.raw) (are_texts c.args.raw) (is_on_shard c.args.shard c.args.shards c.args.raw) (c.args.dot, c.args.raw)
    (not_there _ _ (λ e. c.if-shard_of-shard.true (c.shard_of.ensures ∙ ap (λ (r : Row). sum r.topic % c.args.shards) found.1 ∙ e)))

pub returns : goal.returns
returns c =
    let found = found_row (is_row c.args.raw && are_texts c.args.raw) c.args.raw c.in-Some.row c.in_ok-row.field-0 c.in_ok-row.ensures c.in-Some.is in
    accepted (is_dot c.args.dot) (is_row c.args.raw) (are_texts c.args.raw) (is_on_shard c.args.shard c.args.shards c.args.raw) (c.args.dot, c.args.raw) (c.args.dot, c.in-Some.row)
    (sym c.is_dot_within.ensures ∙ c.if-not-is_dot_within.false) found.0
    (there _ _ (sym (c.shard_of.ensures ∙ ap (λ (r : Row). sum r.topic % c.args.shards) found.1) ∙ c.if-shard_of-shard.false))
    (ap (λ (r : Row). (c.args.dot, r)) found.1)
