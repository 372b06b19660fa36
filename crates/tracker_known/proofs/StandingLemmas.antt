-- Going over the standings that are kept.
use Rattle.std.proofs.Common.{◌≡◌, Bool, true, false, cond, ◌&&◌, ◌||◌, List, [], ◌∷◌, Option, Some, None, refl, sym, ◌∙◌, ap}
use Rattle.std.specs.List.{AllByRecursion, list_any}
use Rattle.std.specs.Option.{unwrap_or}
use Rattle.std.specs.Map.{lookup}
use Rattle.std.specs.BTreeMap.{get}
use Rattle.std.proofs.lemmas.Option.{same_Some}
use Rattle.presence_base.specs.declared.dots.Replica.{Replica}
use Rattle.presence_base.specs.Order.{replica_cmp, same_replica}
use Rattle.replica_status.specs.declared.standing.Standing.{Standing}
use Rattle.replica_status.specs.declared.standing.Standing.TheVariants.{Unheard, Gone}
use Rattle.replica_status.specs.Boards.{standing_in}
use Rattle.presence_journal.proofs.Same.{same_replica-true}
use Rattle.presence_journal.proofs.HistoryLemmas.{no_more}
use Rattle.presence_journal_lists.specs.Standings.{StandingMap, standing_at, TellsOthers}

-- one of these replicas passes the test
abbrev pub any_of : (Standing → Bool) → List (Replica × Standing) → Replica → Bool
any_of p es r = list_any (λ e. same_replica r e.0 && p e.1) es

-- each entry is the one that a look-up of its replica finds
abbrev pub AreFound : (Replica → Option Standing) → List (Replica × Standing) → Type 0
AreFound f es = AllByRecursion (λ (e : Replica × Standing). f e.0 ≡ Some e.1) es

abbrev passes : (Standing → Bool) → Option Standing → Bool
passes p None = false
passes p (Some x) = p x

-- what a look-up finds is what f gives
looked : (f : Replica → Option Standing) (xs : List (Replica × Standing)) (q : Replica) (x : Standing) → AreFound f xs → lookup (same_replica q) xs ≡ Some x → f q ≡ Some x
looked f [] q x a g = absurd (cc)
looked f (y ∷ ys) q x a g = by (same_replica q y.0) refl g (looked f ys q x a.1)
  where
    by : (c : Bool) → same_replica q y.0 ≡ c → cond c (Some y.1) (lookup (same_replica q) ys) ≡ Some x → (lookup (same_replica q) ys ≡ Some x → f q ≡ Some x) → f q ≡ Some x
    by true same found rest = ap f (same_replica-true q y.0 same) ∙ (a.0 ∙ found)
    by false same found rest = rest found

twice : (b : Bool) → (b || b) ≡ b
twice true = refl
twice false = refl

any_listed : (f : Replica → Option Standing) (p : Standing → Bool) (es : List (Replica × Standing)) (r : Replica) → AreFound f es → any_of p es r ≡ passes p (lookup (same_replica r) es)
any_listed f p [] r a = refl
any_listed f p (e ∷ es) r a = go (same_replica r e.0) refl (lookup (same_replica r) es) refl (any_listed f p es r a.1)
  where
    go : (c : Bool) → same_replica r e.0 ≡ c → (o : Option Standing) → lookup (same_replica r) es ≡ o → any_of p es r ≡ passes p (lookup (same_replica r) es) → ((c && p e.1) || any_of p es r) ≡ passes p (cond c (Some e.1) (lookup (same_replica r) es))
    go false same o is ih = ih
    go true same None is ih = ap (λ b. p e.1 || b) (ih ∙ ap (passes p) is) ∙ no_more (p e.1)
    go true same (Some x) is ih =
        let one : x ≡ e.1 = same_Some x e.1 (sym (looked f es r x a.1 is) ∙ (ap f (same_replica-true r e.0 same) ∙ a.0)) in
        ap (λ b. p e.1 || b) (ih ∙ (ap (passes p) is ∙ ap p one)) ∙ twice (p e.1)

pub any_standing : (m : StandingMap) (p : Standing → Bool) (es : List (Replica × Standing)) (r : Replica) → p Unheard ≡ false → es ≡ m.entries → AreFound (get replica_cmp m) m.entries → any_of p es r ≡ p (standing_at m r)
any_standing m p es r unheard is found = ap (λ xs. any_of p xs r) is ∙ (any_listed (get replica_cmp m) p m.entries r found ∙ go (get replica_cmp m r))
  where
    go : (o : Option Standing) → passes p o ≡ p (unwrap_or o Unheard)
    go None = sym unheard
    go (Some x) = refl

-- those that pass a test, which no replica passes that is gone or unheard
pub any_other : (xs : List (Replica × Standing)) (m : StandingMap) (p : Standing → Bool) (es : List (Replica × Standing)) (r : Replica) → p Unheard ≡ false → p Gone ≡ false → TellsOthers xs m → es ≡ m.entries → AreFound (get replica_cmp m) m.entries
    → any_of p es r ≡ p (standing_in xs r)
any_other xs m p es r unheard gone tells is found = any_standing m p es r unheard is found ∙ tells p unheard gone r

pub none_listed : (p : Standing → Bool) (es : List (Replica × Standing)) → es ≡ [] → (r : Replica) → any_of p es r ≡ false
none_listed p es none r = ap (λ l. any_of p l r) none
