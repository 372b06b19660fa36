-- Questions that go through to the port inside.
use Rattle.std.proofs.Common.{◌≡◌, ℕ, Bool, true, false, List, Option, Some, None, Result, Ok, Err, is_ok, refl, sym, ◌∙◌, ap}
use Rattle.std.proofs.lemmas.Bool.{false≢true, true≢false}
use Rattle.std.specs.Prelude.{is_some}
use Rattle.channel_pieces.specs.Pieces.{is_told_to}
use Rattle.tracker_shard.specs.declared.shard.Sub.{Sub}
use Rattle.channel_rules.specs.declared.refusal.Refusal.{Refusal}
use Rattle.channel_pieces.specs.declared.telling.UntoldState.{UntoldState}
use Rattle.channel_rules.specs.Asks.{Ask, Answer, waits, unsubscribe}
use Rattle.channel_rules.specs.Questions.{asks}
use Rattle.channel_rules.specs.declared.calls.List.{List as ListCall}
use Rattle.channel_rules.specs.declared.calls.Get.{Get}
use Rattle.channel_rules.specs.declared.calls.Take.{Take}
use Rattle.channel_rules.specs.declared.calls.Waits.{Waits as WaitsCall}
use Rattle.channel_rules.specs.declared.calls.Unsubscribe.{Unsubscribe}
use Rattle.channel_rules.specs.declared.question.Question.{Question}
use Rattle.channel_rules.specs.declared.question.Question.TheVariants as questions
use Rattle.channel_pieces.specs.Piecewise.{left_by, Piecewise, Waits}

module _ {P : Type 0} (step : P → (q : Ask) → Answer q → P → Type 0) (old new : P × Option UntoldState) where
  pub others_pass : (k : Question) → ((x : ListCall) → k ≡ questions.List x → ⊥) → ((x : Get) → k ≡ questions.Get x → ⊥) → ((x : Take) → k ≡ questions.Take x → ⊥) → ((x : WaitsCall) → k ≡ questions.Waits x → ⊥) → ((x : Unsubscribe) → k ≡ questions.Unsubscribe x → ⊥)
      → (a : Answer (asks k)) → step old.0 (asks k) a new.0 → new.1 ≡ old.1 → Piecewise step old (asks k) a new
  others_pass (questions.Track c) nl ng nt nw nu a h e = (h, e)
  others_pass (questions.Update c) nl ng nt nw nu a h e = (h, e)
  others_pass (questions.Untrack c) nl ng nt nw nu a h e = (h, e)
  others_pass (questions.UntrackAll c) nl ng nt nw nu a h e = (h, e)
  others_pass (questions.List c) nl ng nt nw nu a h e = absurd (nl c refl)
  others_pass (questions.Get c) nl ng nt nw nu a h e = absurd (ng c refl)
  others_pass (questions.Subscribe c) nl ng nt nw nu a h e = (h, e)
  others_pass (questions.Take c) nl ng nt nw nu a h e = absurd (nt c refl)
  others_pass (questions.Unsubscribe c) nl ng nt nw nu a h e = absurd (nu c refl)
  others_pass (questions.Waits c) nl ng nt nw nu a h e = absurd (nw c refl)
  others_pass (questions.Shout c) nl ng nt nw nu a h e = (h, e)

  -- a subscriber that was ended, or not
  pub ended_so : (topic : List ℕ) (sub : Sub) (a : Answer (unsubscribe topic sub)) → step old.0 (unsubscribe topic sub) a new.0 → (gone : Bool) → is_ok a ≡ gone → new.1 ≡ left_by gone topic sub.number old.1 → Piecewise step old (unsubscribe topic sub) a new
  ended_so topic sub a h gone is left = (h, left ∙ ap (λ b. left_by b topic sub.number old.1) (sym is))

-- what waits, while a state is being told and while none is
module _ {P : Type 0} (step : P → (q : Ask) → Answer q → P → Type 0) (topic : List ℕ) (sub : Sub) (port : P) where
  pub waits_under_way : (u : Option UntoldState) → is_some u ≡ true → Waits step u topic sub port (Ok (is_told_to topic sub.number u)) port
  waits_under_way (Some u) is = (refl, refl)
  waits_under_way None is = absurd (false≢true is)

  pub waits_inside : (u : Option UntoldState) → is_some u ≡ false → (a : Result Bool Refusal) (new : P) → step port (waits topic sub) a new → Waits step u topic sub port a new
  waits_inside None is a new h = h
  waits_inside (Some u) is a new h = absurd (true≢false is)
