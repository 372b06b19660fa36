-- What came of the first so many shards, and of one more.
use Rattle.std.proofs.Common.{◌≡◌, ℕ, suc, ◌+◌, Option, sym, subst, arith}
use Rattle.presence_journal.specs.History.{History}
use Rattle.link_rules.specs.declared.lives.Came.{Came}
use Rattle.link_rules.specs.declared.lives.Coming.{Coming}
use Rattle.link_threads.specs.Lives.{AllCame, IsCameAt, and_option}

next_is : (n : ℕ) → n + 1 ≡ suc n
next_is n = omega arith

pub one_more : (here : ℕ → History → Type 0) (i n : ℕ) (before all : Coming) (came : Option Came)
    → AllCame here i n before → IsCameAt (here n) i came → all ≡ and_option before came → AllCame here i (n + 1) all
one_more here i n before all came were one is =
    subst (λ m. AllCame here i m all) (sym (next_is n)) (record { before = before; were = were; came = came; one = one; is = is })
