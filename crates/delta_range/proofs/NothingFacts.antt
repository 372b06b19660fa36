-- A delta that tells nothing leaves generations that keep something as they are.
use Rattle.std.proofs.Common.{◌≡◌, ℕ, ◌≤◌, Bool, true, false, not, cond, ◌&&◌, ◌||◌, nat_le, nat_lt, nat_eq, List, [], ◌∷◌, ◌++◌, length, refl, sym, ◌∙◌, ap, subst, Option, Some, None, is_some, arith}
use Rattle.std.proofs.lemmas.Bool.Decides.{nat_tests}
use Rattle.std.proofs.lemmas.List.{append-nil}
use Rattle.std.specs.List.{filter}
use Rattle.presence_base.specs.declared.dots.Replica.{Replica}
use Rattle.presence_base.specs.declared.dots.Dot.{Dot}
use Rattle.presence_base.specs.declared.row.Row.{Row}
use Rattle.presence_base.specs.Order.{same_replica}
use Rattle.dot_context.specs.Runs.{holds}
use Rattle.dot_context.proofs.FormFacts.{same_runs}
use Rattle.orswot_core.specs.Telling.{covers}
use Rattle.delta_range.specs.declared.generations.TheConstants.{SHORT_CAP, MIDDLE_CAP, LONG_CAP}
use Rattle.delta_range.specs.Deltas.{DeltaValue, telling, IsDelta, GoesOn}
use Rattle.delta_range.specs.Longest.{up_to, longest}
use Rattle.delta_range.specs.Joining.{joined}
use Rattle.delta_range.specs.Keeping.{Kept, AreKept, EndsWithin, IsNext, IsDeltaIfSome, alone, grown, pushed, size, is_nothing}
use Rattle.delta_range.proofs.BoolFacts.{both, and_both}
use Rattle.delta_range.proofs.RunFacts.{long_runs, long_up_to, longest_runs, holds_longest, holds_up_to}
use Rattle.delta_range.proofs.DeltaFacts.{held_below, older_has}

-- what tells nothing has an empty range, and no runs and rows
record Nothing (d : DeltaValue) : Type 0 where
  range : d.from ≡ d.to
  older : d.older ≡ []
  live : d.live ≡ []

same_count : (m n : ℕ) → nat_eq m n ≡ true → m ≡ n
same_count m n e = grind (arith, nat_tests)

pub none_there : {A : Type 0} (xs : List A) → nat_eq (length xs) 0 ≡ true → xs ≡ []
none_there [] e = refl
none_there (x ∷ xs) e = absurd (omega (arith, same_count (length (x ∷ xs)) 0 e))

nothing : (d : DeltaValue) → is_nothing d ≡ true → Nothing d
nothing d e =
    let parts = both (nat_eq d.from d.to) (nat_eq (length d.older) 0 && nat_eq (length d.live) 0) e in
    let lists = both (nat_eq (length d.older) 0) (nat_eq (length d.live) 0) parts.1 in
    record { range = same_count d.from d.to parts.0; older = none_there d.older lists.0; live = none_there d.live lists.1 }

-- ---- what is joined with it

hollow : (s : Bool) (a b n : ℕ) → a ≡ b → (s && (nat_lt a n && nat_le n b)) ≡ false
hollow true a b n e = empty a b n e
  where
    empty : (a b n : ℕ) → a ≡ b → (nat_lt a n && nat_le n b) ≡ false
    empty a b n e = grind (arith, nat_tests)
hollow false a b n e = refl

covers_none : (d : DeltaValue) → Nothing d → (q : Dot) → covers (telling d) q ≡ false
covers_none d none q =
    let range = hollow (same_replica q.replica d.owner) d.from d.to q.count none.range in
    let extras = older_has d q ∙ ap (λ rs. same_replica q.replica d.owner && holds rs q.count) none.older ∙ neither (same_replica q.replica d.owner) in
    λ i. (range i || false) || extras i
  where
    neither : (b : Bool) → (b && false) ≡ false
    neither true = refl
    neither false = refl

pub all_stay : (t : Dot → Bool) (xs : List (Dot × Row)) → ((q : Dot) → t q ≡ false) → filter (λ x. not (t x.0)) xs ≡ xs
all_stay t [] none = refl
all_stay t (x ∷ xs) none = (λ i. cond (not (none x.0 i)) (x ∷ filter (λ y. not (t y.0)) xs) (filter (λ y. not (t y.0)) xs)) ∙ ap (λ l. x ∷ l) (all_stay t xs none)

below_stays : (n m : ℕ) (b : Bool) → (b ≡ true → nat_le n m ≡ true) → (nat_le n m && b) ≡ b
below_stays n m true f = and_both (nat_le n m) true (f refl) refl
below_stays n m false f = neither (nat_le n m)
  where
    neither : (b : Bool) → (b && false) ≡ false
    neither true = refl
    neither false = refl

pub same_older : (d : DeltaValue) → IsDelta d → longest (up_to d.from d.older) ≡ d.older
same_older d h =
    let long = long_up_to d.from d.older (long_runs 0 d.older h.runs) in
    same_runs (longest (up_to d.from d.older)) d.older 0 0 (longest_runs (up_to d.from d.older) long) h.runs
    (λ n.
    holds_longest (up_to d.from d.older) n long
    ∙ holds_up_to d.from n d.older
    ∙ below_stays n d.from (holds d.older n) (λ e. (held_below d.from n d.older h.below e).1))

same_joined : (old d : DeltaValue) → IsDelta old → GoesOn old.owner old.to d → Nothing d → joined old d ≡ old
unfolding joined
same_joined old d h next none =
    let to : d.to ≡ old.to = sym none.range ∙ next.begins in
    let older : longest (up_to old.from (old.older ++ d.older)) ≡ old.older = ap (λ rs. longest (up_to old.from rs)) (ap (λ rs. old.older ++ rs) none.older ∙ append-nil old.older) ∙ same_older old h in
    let kept : filter (λ x. not (covers (telling d) x.0)) old.live ≡ old.live = all_stay (covers (telling d)) old.live (covers_none d none) in
    let live : filter (λ x. not (covers (telling d) x.0)) old.live ++ d.live ≡ old.live = ap (λ xs. filter (λ x. not (covers (telling d) x.0)) old.live ++ xs) none.live ∙ (append-nil (filter (λ x. not (covers (telling d) x.0)) old.live) ∙ kept) in
    λ i. record { owner = old.owner; from = old.from; to = to i; older = older i; live = live i }

-- ---- generations

within : (n cap : ℕ) → n ≤ cap → nat_le n cap ≡ true
within n cap h = grind (arith, nat_tests)

same_grown : (last : Option (Replica × ℕ)) (cap : ℕ) (o : Option DeltaValue) (d : DeltaValue) → EndsWithin last cap o → IsNext last d → is_some o ≡ true → IsDeltaIfSome o → Nothing d → grown cap o d ≡ o
same_grown last cap None d h next there sound none = absurd (cc)
same_grown last cap (Some old) d h next there sound none =
    let same : joined old d ≡ old = same_joined old d sound (subst (λ l. IsNext l d) h.0 next) none in
    (λ i. cond (nat_le (size (same i)) cap) (Some (same i)) (alone cap d))
    ∙ ap (λ b. cond b (Some old) (alone cap d)) (within (size old) cap h.1)

abbrev end_of : Replica → ℕ → Option (Replica × ℕ)
end_of r n = Some (r, n)

same_end : (last : Option (Replica × ℕ)) (cap : ℕ) (o : Option DeltaValue) (d : DeltaValue) → EndsWithin last cap o → IsNext last d → is_some o ≡ true → Nothing d → end_of d.owner d.to ≡ last
same_end last cap None d h next there none = absurd (cc)
same_end last cap (Some old) d h next there none =
    let goes : GoesOn old.owner old.to d = subst (λ l. IsNext l d) h.0 next in
    (λ i. end_of (goes.owned i) ((sym none.range ∙ goes.begins) i)) ∙ sym h.0

pub same_kept : (k : Kept) (d : DeltaValue) → AreKept k → IsNext k.last d → is_nothing d ≡ true
    → is_some k.short ≡ true → is_some k.middle ≡ true → is_some k.long ≡ true → IsDeltaIfSome k.short → IsDeltaIfSome k.middle → IsDeltaIfSome k.long
    → pushed k d ≡ k
same_kept k d h next none short middle long short-sound middle-sound long-sound =
    let n : Nothing d = nothing d none in
    let last = same_end k.last SHORT_CAP k.short d h.short next short n in
    let s = same_grown k.last SHORT_CAP k.short d h.short next short short-sound n in
    let m = same_grown k.last MIDDLE_CAP k.middle d h.middle next middle middle-sound n in
    let l = same_grown k.last LONG_CAP k.long d h.long next long long-sound n in
    λ i. record { last = last i; short = s i; middle = m i; long = l i }
