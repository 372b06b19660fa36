-- What is counted of questions but takes.
use Rattle.std.proofs.Common.{◌≡◌, refl, subst}
use Rattle.channel_rules.specs.Asks.{Ask, Answer}
use Rattle.channel_rules.specs.Questions.{asks}
use Rattle.channel_rules.specs.declared.calls.Take.{Take}
use Rattle.channel_rules.specs.declared.question.Question.{Question}
use Rattle.channel_rules.specs.declared.question.Question.TheVariants as questions
use Rattle.serve_ports.specs.Counting.{counted, counted_as, refusal_of}
use Rattle.serve_ports.specs.declared.tally.Tally.{Tally}

others_count : (t : Tally) (k : Question) → ((x : Take) → k ≡ questions.Take x → ⊥) → (a : Answer (asks k)) → counted t (asks k) a ≡ counted_as t (asks k) (refusal_of a)
others_count t (questions.Track c) nt a = refl
others_count t (questions.Update c) nt a = refl
others_count t (questions.Untrack c) nt a = refl
others_count t (questions.UntrackAll c) nt a = refl
others_count t (questions.List c) nt a = refl
others_count t (questions.Get c) nt a = refl
others_count t (questions.Subscribe c) nt a = refl
others_count t (questions.Take c) nt a = absurd (nt c refl)
others_count t (questions.Unsubscribe c) nt a = refl
others_count t (questions.Waits c) nt a = refl
others_count t (questions.Shout c) nt a = refl

-- so are they of a call that asks so
pub asked_others : (t : Tally) (k : Question) → ((x : Take) → k ≡ questions.Take x → ⊥) → (q : Ask) → asks k ≡ q → (a : Answer q) → counted t q a ≡ counted_as t (asks k) (refusal_of a)
asked_others t k nt q same = subst (λ (p : Ask). (a : Answer p) → counted t p a ≡ counted_as t (asks k) (refusal_of a)) same (others_count t k nt)
