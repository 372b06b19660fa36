-- A delivery: each topic in force is asked whether something waits, in order of joining, and where it does there is one take.
use Rattle.std.specs.Prelude.{◌++◌, ℕ, List, [], ◌∷◌, map, Bool, true, false, Result, Ok, Err}
use Rattle.presence_journal.specs.declared.rows.Item.{Item}
use Rattle.channel_rules.specs.Asks.{waits, take}
use Rattle.channel_rules.specs.InForce.{Joined, InForce}
use Rattle.channel_rules.specs.Rules.{End, answers, unsaid}
use Rattle.channel_rules.specs.Said.{Said, told}
use Rattle.channel_rules.specs.Script.{Script, done, ask}
use Rattle.channel_rules.specs.declared.refusal.Refusal.{Refusal}

abbrev pub then_told : Joined → List Said → (List Said → Script End) → Result (List Item) Refusal → Script End
then_told j before next (Ok items) = next (before ++ map (told j) items)
then_told j before next (Err e) = done (unsaid e)

abbrev pub then_take : ℕ → Joined → List Said → (List Said → Script End) → Result Bool Refusal → Script End
then_take max j before next (Ok true) = ask (take j.topic j.sub max) (then_told j before next)
then_take max j before next (Ok false) = next before
then_take max j before next (Err e) = done (unsaid e)

-- the deliveries of these topics, behind what was said before them
abbrev pub delivers : ℕ → InForce → List Joined → List Said → Script End
delivers max s [] before = done (answers before s)
delivers max s (j ∷ js) before = ask (waits j.topic j.sub) (then_take max j before (delivers max s js))

-- one delivery of a session
abbrev pub delivery : ℕ → InForce → Script End
delivery max s = delivers max s s.joined []
