-- Runs from the empty history are legal, for the worked ones.
use Rattle.std.proofs.Common.{◌≡◌, ℕ, Bool, true, false, cond, ◌&&◌, nat_lt, nat_le, List, [], ◌∷◌, Option, None, refl, sym, arith}
use Rattle.std.specs.List.{list_all}
use Rattle.std.proofs.lemmas.Bool.{and_parts}
use Rattle.std.proofs.lemmas.Bool.Decides.{nat_tests}
use Rattle.presence_base.specs.declared.row.Row.{Row}
use Rattle.presence_base.specs.Order.{same_replica}
use Rattle.presence_journal.specs.declared.step.Step.{Step}
use Rattle.presence_journal.specs.declared.entry.Outcome.{Outcome}
use Rattle.presence_journal.specs.declared.entry.Entry.{Entry}
use Rattle.presence_journal.specs.History.{History}
use Rattle.presence_journal.specs.Table.{IsLegal, is_step, after}
use Rattle.presence_journal.specs.Laws.{ran, empty}
use Rattle.presence_journal.proofs.FoldOthers.{stays_legal}
use Rattle.presence_journal_laws.specs.Plain.{node_a}

not_counted : (n : ℕ) → (nat_lt 0 n && nat_le n 0) ≡ false
not_counted n = grind (arith, nat_tests)

none_counted : (b : Bool) (n : ℕ) → false ≡ (b && (nat_lt 0 n && nat_le n 0))
none_counted true n = sym (not_counted n)
none_counted false n = refl

pub empty_legal : IsLegal empty
empty_legal = record {
  name = refl;
  incarnation = (omega arith, omega arith);
  number = omega arith;
  count = omega arith;
  content = refl;
  own_dots = λ d o. none_counted (same_replica d.replica node_a) d.count;
  cut = omega arith;
  older = tt;
  older_low = refl;
  chains = tt;
  kept = λ d next. tt;
  subscribers = refl;
  subscribers_once = refl;
  seated = omega arith;
}

pub ran_legal : (h : History) (ss : List Step) → IsLegal h → list_all is_step ss ≡ true → IsLegal (ran h ss)
ran_legal h [] l s = l
ran_legal h (x ∷ xs) l s =
    let parts = and_parts (is_step x) (list_all is_step xs) s in
    ran_legal (after h x None) xs (stays_legal h l x None parts.0) parts.1

abbrev pub entry : ℕ → Step → Outcome → Entry
entry n s o = record { number = n; seat = None; step = s; outcome = o }

pub neither : (b : Bool) → cond {A = Option Row} b None None ≡ None
neither true = refl
neither false = refl
