-- The chains as a list.
use Rattle.std.proofs.Common.{◌≡◌, ℕ, Bool, nat_eq, List, [], ◌∷◌, Some, sym, ◌∙◌, ap, subst}
use Rattle.std.specs.List.{AllByRecursion}
use Rattle.std.specs.Map.{lookup}
use Rattle.std.specs.Ordering.{nat_cmp}
use Rattle.std.specs.Cmp.{unsigned_tied}
use Rattle.std.specs.BTreeMap.{get, is_at}
use Rattle.dot_context.specs.Runs.{AreLong}
use Rattle.dot_context.specs.Sets.{listed}
use Rattle.presence_journal.specs.History.{History, last_cut}
use Rattle.presence_journal_cuts.specs.Chains.{Chains, AreChains, AreUpTo, kept_chain}
use Rattle.presence_journal_cuts.specs.Cuts.{chain_in}
use Rattle.presence_journal_cuts.specs.declared.untold.Untold.{Untold}
use Rattle.presence_journal_cuts.specs.Untold.{IsUntoldOf}
use Rattle.presence_journal_cuts.specs.Listed.{AreListed, AreOlder}

abbrev Kept : Type 0
Kept = List (ℕ × List (ℕ × ℕ))

-- each chain is the one that a look-up of its count finds
abbrev AreFound : Chains → Kept → Type 0
AreFound m xs = AllByRecursion (λ (x : ℕ × List (ℕ × ℕ)). get nat_cmp m x.0 ≡ Some x.1) xs

all_long : (m : Chains) (xs : Kept) → AreChains m → AreFound m xs → AllByRecursion (λ (x : ℕ × List (ℕ × ℕ)). AreLong x.1) xs
all_long m [] long found = tt
all_long m (x ∷ xs) long found = (
  subst (λ o. AreLong (listed o)) found.0 (long x.0),
  all_long m xs long found.1,
)

pub found_long : (m : Chains) → AreChains m → AreFound m m.entries → AllByRecursion (λ (x : ℕ × List (ℕ × ℕ)). AreLong x.1) m.entries
found_long m long found = all_long m m.entries long found

-- a look-up in the list finds what one in the map does
at_count : (c : ℕ) (xs : Kept) → lookup (is_at (nat_cmp c)) xs ≡ lookup (nat_eq c) xs
at_count c xs = ap (λ (test : ℕ → Bool). lookup test xs) (λ i k. unsigned_tied c k i)

chain_of : (m : Chains) (xs : Kept) (c : ℕ) → xs ≡ m.entries → chain_in xs c ≡ kept_chain m c
chain_of m xs c is = ap (λ (ys : Kept). chain_in ys c) is ∙ ap listed (sym (at_count c m.entries))

pub are_listed : (h : History) (u : Untold) (xs : Kept) → xs ≡ u.chains.entries → (AreChains u.chains → AllByRecursion (λ (x : ℕ × List (ℕ × ℕ)). AreLong x.1) xs) → IsUntoldOf h u → AreListed h xs
are_listed h u xs is long kept = record {
  shown = λ d r own shown. chain_of u.chains xs d.count is ∙ kept.chains d r own shown;
  unused = λ c above. chain_of u.chains xs c is ∙ kept.unused c above;
  long = long kept.long;
}

pub are_older : (h : History) (u : Untold) (rs : List (ℕ × ℕ)) → rs ≡ u.older.items → IsUntoldOf h u → AreOlder h rs
are_older h u rs is kept = subst (AreOlder h) (sym is) (record { counts = kept.counts; low = at_last kept.last kept.low })
  where
    at_last : u.last ≡ last_cut h → AreUpTo u.last u.older.items → AreUpTo (last_cut h) u.older.items
    at_last e low = subst (λ (n : ℕ). AreUpTo n u.older.items) e low
