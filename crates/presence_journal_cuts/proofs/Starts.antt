-- Going over what a Start keeps: the first of two entries of one key stays.
use Rattle.std.proofs.Common.{◌≡◌, ℕ, Bool, true, false, cond, nat_eq, List, [], ◌∷◌, Option, Some, None, is_some, refl, sym, ◌∙◌, ap}
use Rattle.std.specs.Map.{lookup}
use Rattle.std.proofs.lemmas.Bool.{eqb-true}
use Rattle.presence_base.specs.declared.dots.Dot.{Dot}
use Rattle.presence_base.specs.declared.row.Row.{Row}
use Rattle.presence_base.specs.Order.{same_dot}
use Rattle.presence_journal.specs.declared.entry.Start.{Start}
use Rattle.presence_journal.specs.History.{first_some}
use Rattle.presence_journal.specs.Walk.{row_at}
use Rattle.presence_journal.proofs.Same.{same_dot-true}
use Rattle.presence_journal_known.specs.ByDot.{over}
use Rattle.presence_journal_cuts.specs.Chains.{is_recent, row_recent, rows_recent}

abbrev Runs : Type 0
Runs = List (ℕ × ℕ)

had : {A : Type 0} (same : Bool) (o : Option A) (r : A) → (same ≡ true → is_some o ≡ true) → o ≡ first_some o (cond same (Some r) None)
had true None r f = let w : false ≡ true = f refl in absurd (cc)
had true (Some x) r f = refl
had false None r f = refl
had false (Some x) r f = refl

gets : {A : Type 0} (same : Bool) (o : Option A) (r : A) → (same ≡ true → is_some o ≡ false) → cond same (Some r) o ≡ first_some o (cond same (Some r) None)
gets true None r f = refl
gets true (Some x) r f = let w : true ≡ false = f refl in absurd (cc)
gets false None r f = refl
gets false (Some x) r f = refl

grouped : {A : Type 0} (o p q : Option A) → first_some (first_some o p) q ≡ first_some o (first_some p q)
grouped None p q = refl
grouped (Some x) p q = refl

pub first_none : {A : Type 0} (o : Option A) → first_some o None ≡ o
first_none None = refl
first_none (Some x) = refl

-- chains

pub chain_stays : (f : ℕ → Option Runs) (x : ℕ × Runs) (c : ℕ) → is_some (f x.0) ≡ true → f c ≡ first_some (f c) (cond (nat_eq c x.0) (Some x.1) None)
chain_stays f x c has = had (nat_eq c x.0) (f c) x.1 (λ same. ap (λ k. is_some (f k)) (eqb-true c x.0 same) ∙ has)

pub chain_comes : (f g : ℕ → Option Runs) (x : ℕ × Runs) (r : Runs) (c : ℕ) → is_some (f x.0) ≡ false → r ≡ x.1 → g c ≡ cond (nat_eq c x.0) (Some r) (f c) → g c ≡ first_some (f c) (cond (nat_eq c x.0) (Some x.1) None)
chain_comes f g x r c none is put =
    put
    ∙ (ap (λ y. cond (nat_eq c x.0) (Some y) (f c)) is
    ∙ gets (nat_eq c x.0) (f c) x.1 (λ same. ap (λ k. is_some (f k)) (eqb-true c x.0 same) ∙ none))

pub chains_more : (f g : ℕ → Option Runs) (x : ℕ × Runs) (xs ys : List (ℕ × Runs)) (c : ℕ) → ys ≡ x ∷ xs → g c ≡ first_some (f c) (cond (nat_eq c x.0) (Some x.1) None) → first_some (g c) (lookup (nat_eq c) xs) ≡ first_some (f c) (lookup (nat_eq c) ys)
chains_more f g x xs ys c is put =
    ap (λ o. first_some o (lookup (nat_eq c) xs)) put
    ∙ (grouped (f c) (cond (nat_eq c x.0) (Some x.1) None) (lookup (nat_eq c) xs)
    ∙ (ap (first_some (f c)) (found (nat_eq c x.0) (lookup (nat_eq c) xs))
    ∙ ap (λ zs. first_some (f c) (lookup (nat_eq c) zs)) (sym is)))
  where
    found : (b : Bool) (o : Option Runs) → first_some (cond b (Some x.1) None) o ≡ cond b (Some x.1) o
    found true o = refl
    found false o = refl

-- rows

pub row_stays : (f : Dot → Option Row) (x : Dot × Row) (d : Dot) → is_some (f x.0) ≡ true → f d ≡ first_some (f d) (row_at (Some x) d)
row_stays f x d has = had (same_dot d x.0) (f d) x.1 (λ same. ap (λ k. is_some (f k)) (same_dot-true d x.0 same) ∙ has)

pub row_comes : (f g : Dot → Option Row) (x : Dot × Row) (r : Row) (d : Dot) → is_some (f x.0) ≡ false → r ≡ x.1 → g d ≡ first_some (row_at (Some (x.0, r)) d) (f d) → g d ≡ first_some (f d) (row_at (Some x) d)
row_comes f g x r d none is put =
    put
    ∙ (ap (λ y. first_some (row_at (Some (x.0, y)) d) (f d)) is
    ∙ (over_it (same_dot d x.0) (f d)
    ∙ gets (same_dot d x.0) (f d) x.1 (λ same. ap (λ k. is_some (f k)) (same_dot-true d x.0 same) ∙ none)))
  where
    over_it : (b : Bool) (o : Option Row) → first_some (cond b (Some x.1) None) o ≡ cond b (Some x.1) o
    over_it true o = refl
    over_it false o = refl

-- a row that is not above the last cut
pub recent_stays : (s : Start) (f : Dot → Option Row) (x : Dot × Row) (d : Dot) → is_recent s x.0 ≡ false → f d ≡ over f (row_recent s x) d
recent_stays s f x d older = sym (ap (λ b. first_some (f d) (cond b (row_at (Some x) d) None)) older ∙ first_none (f d))

pub recent_comes : (s : Start) (f g : Dot → Option Row) (x : Dot × Row) (d : Dot) → is_recent s x.0 ≡ true → g d ≡ over f (row_at (Some x)) d → g d ≡ over f (row_recent s x) d
recent_comes s f g x d newer put = put ∙ ap (λ b. first_some (f d) (cond b (row_at (Some x) d) None)) (sym newer)

pub rows_more : (s : Start) (f g : Dot → Option Row) (x : Dot × Row) (xs ys : List (Dot × Row)) (d : Dot) → ys ≡ x ∷ xs → g d ≡ over f (row_recent s x) d → first_some (g d) (rows_recent s xs d) ≡ first_some (f d) (rows_recent s ys d)
rows_more s f g x xs ys d is put =
    ap (λ o. first_some o (rows_recent s xs d)) put
    ∙ (grouped (f d) (row_recent s x d) (rows_recent s xs d)
    ∙ ap (λ zs. first_some (f d) (rows_recent s zs d)) (sym is))

-- a row above the last cut is the one that is found
pub recent_found : (s : Start) (xs : List (Dot × Row)) (d : Dot) → rows_recent s xs d ≡ cond (is_recent s d) (lookup (same_dot d) xs) None
recent_found s [] d = none (is_recent s d)
  where
    none : (b : Bool) → None ≡ cond {A = Option Row} b None None
    none true = refl
    none false = refl
recent_found s (x ∷ xs) d = go (same_dot d x.0) refl (recent_found s xs d)
  where
    here : (a b : Bool) (o p : Option Row) → a ≡ b → o ≡ cond b p None → first_some (cond a (Some x.1) None) o ≡ cond b (Some x.1) None
    here true true o p e f = refl
    here false false o p e f = f
    here true false o p e f = absurd (cc)
    here false true o p e f = absurd (cc)

    other : (a : Bool) (o : Option Row) → first_some (cond a None None) o ≡ o
    other true o = refl
    other false o = refl

    go : (b : Bool) → same_dot d x.0 ≡ b → rows_recent s xs d ≡ cond (is_recent s d) (lookup (same_dot d) xs) None
        → first_some (cond (is_recent s x.0) (cond b (Some x.1) None) None) (rows_recent s xs d) ≡ cond (is_recent s d) (cond b (Some x.1) (lookup (same_dot d) xs)) None
    go true p rest = here (is_recent s x.0) (is_recent s d) (rows_recent s xs d) (lookup (same_dot d) xs) (ap (is_recent s) (sym (same_dot-true d x.0 p))) rest
    go false p rest = other (is_recent s x.0) (rows_recent s xs d) ∙ rest
