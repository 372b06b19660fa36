-- A port's answers: as they are, and those that it gives by itself.
use Rattle.std.proofs.Common.{◌≡◌, true, Some, Result, Ok, Err, refl, sym, ap, ◌∙◌, subst}
use Rattle.std.specs.Option.{is_some}
use Rattle.std.specs.Prelude.{is_ok}
use Rattle.channel_rules.specs.Asks.{Ask, Given, Answer}
use Rattle.channel_rules.specs.Questions.{given_as}
use Rattle.channel_rules.specs.Seen.{seen_by}
use Rattle.channel_rules.specs.declared.question.Told.{Told}
use Rattle.channel_rules.specs.declared.refusal.Refusal.{Refusal}

-- an answer that is seen as it lies in memory
pub seen_same : {A : Type 0} (r : Result A Refusal) → seen_by (λ x. x) r ≡ r
seen_same (Ok x) = refl
seen_same (Err e) = refl

pub seen_ok : {A B : Type 0} (view : A → B) (r : Result A Refusal) → is_ok (seen_by view r) ≡ is_ok r
seen_ok view (Ok x) = refl
seen_ok view (Err e) = refl

same_some : {A : Type 0} (x y : A) → Some x ≡ Some y → x ≡ y
same_some x y e = cc

module _ (w q : Ask) (same : w ≡ q) where
  -- what a port tells by itself is an answer to a call that asks so
  pub can_tell : (x : Told) (a : Given w) → given_as w x ≡ Some a → is_some (given_as q x) ≡ true
  can_tell x a is = subst (λ (p : Ask). is_some (given_as p x) ≡ true) same (ap is_some is)

  -- what holds of a question with what it is told holds of a call that asks so
  pub told_so : (S : (q : Ask) → Answer q → Type 0) (x : Told) (a : Given w) (b : Given q) → given_as w x ≡ Some a → given_as q x ≡ Some b → S w (Ok a) → S q (Ok b)
  told_so S x a b is is_too h =
      subst (λ (p : Ask). (b : Given p) → given_as p x ≡ Some b → S p (Ok b)) same
      (λ b is_too. subst (λ (y : Given w). S w (Ok y)) (same_some a b (sym is ∙ is_too)) h) b is_too

  -- and so does what holds of it with a refusal
  pub refused_so : (S : (q : Ask) → Answer q → Type 0) (e : Refusal) → S w (Err e) → S q (Err e)
  refused_so S e h = subst (λ (p : Ask). S p (Err e)) same h

  -- what comes of an answer to the question comes of one to the call
  pub passed_so : (S T : (q : Ask) → Answer q → Type 0) → ((a : Answer w) → S w a → T w a) → (b : Answer q) → S q b → T q b
  passed_so S T f b h = subst (λ (p : Ask). (b : Answer p) → S p b → T p b) same f b h
