-- A node's step, in the plain tables of a world.
use Rattle.std.proofs.Common.{◌≡◌, ◌^◌, Bool, true, false, cond, Option, Some, None, refl, sym, ◌∙◌, ap, option_map, ◌||◌, nat_le}
use Rattle.std.specs.FinMap as map
use Rattle.presence_base.specs.Order.{same_replica}
use Rattle.presence_journal.specs.declared.journal.TheConstants.{MAX_ENTRIES}
use Rattle.presence_journal.specs.declared.step.Step.{Step}
use Rattle.presence_journal.specs.declared.entry.Outcome.{Outcome}
use Rattle.presence_journal.specs.History as journal
use Rattle.presence_journal.specs.History.{History}
use Rattle.presence_journal.specs.Table as steps
use Rattle.presence_journal.specs.Table.{IsLegal, after, accepted, with_outcome}
use Rattle.presence_journal.proofs.Same.{same_replica-true}
use Rattle.presence_table.specs.Calls as calls
use Rattle.presence_table.specs.Plain.{Table, table}
use Rattle.presence_table.proofs.Outcomes.{table_is_plain}
use Rattle.node_world.specs.World.{LifeValue, WorldValue, stepped, acted, with_replica, life_of}
use Rattle.node_world.specs.TrueWorlds.{IsTrueWorld}
use Rattle.node_world.proofs.Claims.{world_true}
use Rattle.node_world.proofs.Lists.{get-put}
use Rattle.world_tables.specs.Claims.{table_of}
use Rattle.world_tables.specs.Steps.{stepped_if, behind, AreTheTables, StepsAreTheTables}
use Rattle.world_tables.proofs.Tables.{legal_life}

-- the table of the history behind a step
behind_same : (h : History) → IsLegal h → (s : Step) → table (after h s None) ≡ behind s (table h)
unfolding after accepted table
behind_same h l s = go (journal.is_full h) (steps.outcome_of h s) ∙ sym (λ i. cond (full i) (table h) (stepped_if (table h) s ((table_is_plain h l).outcome s i)))
  where
    full : calls.is_full (table h) ≡ journal.is_full h
    full = λ i. nat_le MAX_ENTRIES ((table_is_plain h l).parts.entries i) || nat_le (2 ^ 62) ((table_is_plain h l).parts.last i)

    of_outcome : (o : Option Outcome) → table (with_outcome h s None o) ≡ stepped_if (table h) s o
    of_outcome None = refl
    of_outcome (Some o) = refl

    go : (b : Bool) (o : Option Outcome) → table (with_outcome h s None (cond b None o)) ≡ cond b (table h) (stepped_if (table h) s o)
    go true o = refl
    go false o = of_outcome o

tables_of : (w : WorldValue) → IsTrueWorld w → AreTheTables w
tables_of w iw n s r q at = ap (λ x. table_of (acted w s (life_of w x)) q) at ∙ go (map.get w.lives r) refl
  where
    Says : WorldValue → Type 0
    Says v = table_of v q ≡ cond (same_replica q r) (option_map (behind s) (table_of w q)) (table_of w q)

    tab : Option LifeValue → Option Table
    tab = option_map (λ (l : LifeValue). table l.history)

    without : map.get w.lives r ≡ None → (b : Bool) → same_replica q r ≡ b → table_of w q ≡ cond b (option_map (behind s) (table_of w q)) (table_of w q)
    without e false f = refl
    without e true f =
        let none : table_of w q ≡ None = ap tab (ap (map.get w.lives) (same_replica-true q r f) ∙ e) in
        none ∙ sym (ap (option_map (behind s)) none)

    with_one : (l : LifeValue) → map.get w.lives r ≡ Some l → (b : Bool) → same_replica q r ≡ b → tab (cond b (Some (stepped s l)) (map.get w.lives q)) ≡ cond b (option_map (behind s) (table_of w q)) (table_of w q)
    with_one l e false f = refl
    with_one l e true f =
        ap Some (behind_same l.history (legal_life w iw r l e) s)
        ∙ sym (ap (λ o. option_map (behind s) (tab o)) (ap (map.get w.lives) (same_replica-true q r f) ∙ e))

    go : (o : Option LifeValue) → map.get w.lives r ≡ o → Says (acted w s (with_replica r o))
    go None e = without e (same_replica q r) refl
    go (Some l) e = ap tab (get-put w.lives r (stepped s l) q) ∙ with_one l e (same_replica q r) refl

pub steps_are_the_tables : StepsAreTheTables
steps_are_the_tables ns es w names f = tables_of w (world_true ns es w names f)
