-- A life that is written back to where it was found.
use Rattle.std.proofs.Common.{◌≡◌, ℕ, Bool, true, false, cond, is_some, List, [], ◌∷◌, Option, Some, None, Result, Ok, Err, IfOk, OnOk, OnErr, IsOk, IsSome, refl, sym, ◌∙◌, ap, subst}
use Rattle.std.specs.Ordering.{eq_by_cmp, is_eq}
use Rattle.std.specs.FinMap as map
use Rattle.std.specs.BTreeMap.{get, WritesThrough}
use Rattle.std.specs.Map.{lookup}
use Rattle.std.specs.Cmp.{eq_by_cmp_equiv}
use Rattle.presence_base.specs.declared.dots.Replica.{Replica}
use Rattle.presence_base.specs.Order.{replica_cmp, same_replica}
use Rattle.orswot_core.specs.declared.form.Form.{Form}
use Rattle.orswot_core.specs.Telling.{ToldValue}
use Rattle.presence_journal.proofs.Same.{replica_total, same_replica-true}
use Rattle.node_world.specs.World.{LifeValue, Lives, next_life, TellsWhole}
use Rattle.node_world.specs.Living.{Cuts}
use Rattle.node_world.specs.Lives.{LifeMap, seen, TurnsIf, Turns, CutIf, Cut, ToldIf, next_of, GoesOnTo, GoesOn}

pub replica_antisymmetric : map.IsAntisymmetric replica_cmp
replica_antisymmetric a b h = same_replica-true a b (ap is_eq h)

find_is : (es : List (Replica × LifeValue)) (q : Replica) → map.find replica_cmp q es ≡ lookup (λ k. is_eq (replica_cmp q k)) es
find_is [] q = refl
find_is (e ∷ es) q = ap (cond (eq_by_cmp replica_cmp q e.0) (Some e.1)) (find_is es q)

pub seen_life : (m : LifeMap) (q : Replica) → map.get (seen m) q ≡ get replica_cmp m q
seen_life m q = map.get-from_entries replica_total m.entries q ∙ find_is m.entries q

pub put_seen : (m n : LifeMap) (r : Replica) (l : LifeValue) → ((q : Replica) → get replica_cmp n q ≡ cond (eq_by_cmp replica_cmp r q) (Some l) (get replica_cmp m q)) → seen n ≡ map.insert (seen m) r l
put_seen m n r l step = map.same_map replica_total replica_antisymmetric (seen n) (map.insert (seen m) r l) (λ q.
    seen_life n q ∙ step q
    ∙ ap (λ b. cond b (Some l) (get replica_cmp m q)) ((eq_by_cmp_equiv replica_total).symm r q)
    ∙ ap (cond (eq_by_cmp replica_cmp q r) (Some l)) (sym (seen_life m q))
    ∙ sym (map.get-insert replica_total (seen m) r l q))

found_some : (m : LifeMap) (r : Replica) (l : LifeValue) → get replica_cmp m r ≡ Some l → IsSome (get replica_cmp m r)
found_some m r l f = ap is_some f

-- written through what `get_mut` lent
pub through : (m n : LifeMap) (r : Replica) (old new : LifeValue) → get replica_cmp m r ≡ Some old → WritesThrough replica_cmp (replica_cmp r) m new n → seen n ≡ map.insert (seen m) r new
through m n r old new was w = put_seen m n r new (w.3 (found_some m r old was)).0

pub turns_some : {E : Type 0} (Turn : LifeValue → LifeValue → Type 0) (m n : LifeMap) (r : Replica) (old new : LifeValue) (q : Result (Unit {0}) E) → get replica_cmp m r ≡ Some old → WritesThrough replica_cmp (replica_cmp r) m new n → OnOk q (Turn old new) → OnOk q (Turns Turn (seen m) r (seen n))
turns_some Turn m n r old new (Err e) was w t = tt
turns_some Turn m n r old new (Ok x) was w t = subst (λ o. TurnsIf o Turn (seen m) r (seen n)) (sym (seen_life m r ∙ was)) (new, t, through m n r old new was w)

pub turns_none : (Turn : LifeValue → LifeValue → Type 0) (m n : LifeMap) (r : Replica) → get replica_cmp m r ≡ None → m ≡ n → Turns Turn (seen m) r (seen n)
turns_none Turn m n r was same = subst (λ o. TurnsIf o Turn (seen m) r (seen n)) (sym (seen_life m r ∙ was)) (ap seen (sym same))

pub cut_some : {E : Type 0} (form : Form) (m n : LifeMap) (r : Replica) (old new : LifeValue) (q : Result (Option ToldValue) E) → get replica_cmp m r ≡ Some old → WritesThrough replica_cmp (replica_cmp r) m new n → IfOk q (Cuts form old.history new.history) → new.made ≡ old.made → IfOk q (Cut form (seen m) r (seen n))
cut_some form m n r old new (Err e) was w t k = tt
cut_some form m n r old new (Ok o) was w t k = subst (λ x. CutIf form x (seen m) r (seen n) o) (sym (seen_life m r ∙ was)) (new, t, k, through m n r old new was w)

pub cut_none : (form : Form) (m n : LifeMap) (r : Replica) → get replica_cmp m r ≡ None → m ≡ n → Cut form (seen m) r (seen n) None
cut_none form m n r was same = subst (λ x. CutIf form x (seen m) r (seen n) None) (sym (seen_life m r ∙ was)) (ap seen (sym same), refl)

-- a life that is left as it was
same_cond : (b : Bool) (o : Option LifeValue) (l : LifeValue) → (b ≡ true → o ≡ Some l) → cond b (Some l) o ≡ o
same_cond true o l f = sym (f refl)
same_cond false o l f = refl

pub same_seen : (m n : LifeMap) (r : Replica) (old new : LifeValue) → get replica_cmp m r ≡ Some old → WritesThrough replica_cmp (replica_cmp r) m new n → new ≡ old → seen n ≡ seen m
same_seen m n r old new was w same = map.same_map replica_total replica_antisymmetric (seen n) (seen m) (λ q.
    ap (λ l. map.get l q) (through m n r old new was w)
    ∙ map.get-insert replica_total (seen m) r new q
    ∙ same_cond (same_replica q r) (map.get (seen m) q) new (λ e. ap (map.get (seen m)) (same_replica-true q r e) ∙ (seen_life m r ∙ (was ∙ ap Some (sym same)))))

pub told_some : {E F : Type 0} (form : Form) (m : LifeMap) (r : Replica) (old : LifeValue) (from : Option ℕ) (t : Result ToldValue E) (q : Result (Option ToldValue) F) → get replica_cmp m r ≡ Some old → IfOk t (TellsWhole form old.history from) → IfOk q (λ o. IfOk t (λ x. o ≡ Some x)) → OnOk q (IsOk t) → IfOk q (ToldIf form (map.get (seen m) r) from)
told_some form m r old from t (Err e) was f g ok = tt
told_some form m r old from (Err e) (Ok o) was f g ok = absurd (cc)
told_some form m r old from (Ok x) (Ok o) was f g ok = subst (λ y. ToldIf form y from o) (sym (seen_life m r ∙ was)) (subst (λ y. ToldIf form (Some old) from y) (sym g) f)

pub told_none : (form : Form) (m : LifeMap) (r : Replica) (from : Option ℕ) → get replica_cmp m r ≡ None → ToldIf form (map.get (seen m) r) from None
told_none form m r from was = subst (λ y. ToldIf form y from None) (sym (seen_life m r ∙ was)) refl

pub insert_same : (m : Lives) (r : Replica) (l : LifeValue) → map.get m r ≡ Some l → map.insert m r l ≡ m
insert_same m r l was = map.same_map replica_total replica_antisymmetric (map.insert m r l) m (λ q.
    map.get-insert replica_total m r l q ∙ same_cond (same_replica q r) (map.get m q) l (λ e. ap (map.get m) (same_replica-true q r e) ∙ was))

pub on_both : {E : Type 0} (P Q : Type 0) (q : Result (Unit {0}) E) → OnOk q P → Q → OnOk q (P × Q)
on_both P Q (Err e) p k = tt
on_both P Q (Ok x) p k = (p, k)

-- where memory ran out
pub stays_some : {A E : Type 0} (m n : LifeMap) (r : Replica) (old new : LifeValue) (q : Result A E) → get replica_cmp m r ≡ Some old → WritesThrough replica_cmp (replica_cmp r) m new n → OnErr q (new ≡ old) → OnErr q (seen n ≡ seen m)
stays_some m n r old new (Err e) was w same = same_seen m n r old new was w same
stays_some m n r old new (Ok x) was w same = tt

-- ---- a life that goes on under another replica

found_next : (m : LifeMap) (r : Replica) (i : ℕ) (x o : Option LifeValue) → x ≡ get replica_cmp m r → o ≡ next_of i x → o ≡ next_of i (map.get (seen m) r)
found_next m r i x o was is = is ∙ ap (next_of i) (was ∙ sym (seen_life m r))

pub goes_some : (m n : LifeMap) (r q : Replica) (i : ℕ) (x o : Option LifeValue) (l : LifeValue) → x ≡ get replica_cmp m r → o ≡ next_of i x → o ≡ Some l → q ≡ next_life r i
    → ((p : Replica) → get replica_cmp n p ≡ cond (eq_by_cmp replica_cmp q p) (Some l) (get replica_cmp m p)) → GoesOn (seen m) r i (seen n) true
goes_some m n r q i x o l was is some new step =
    subst (λ y. GoesOnTo y (seen m) (next_life r i) (seen n) true) (sym some ∙ found_next m r i x o was is)
    (put_seen m n q l step ∙ ap (λ p. map.insert (seen m) p l) new, refl)

pub goes_none : (m : LifeMap) (r : Replica) (i : ℕ) (x o : Option LifeValue) → x ≡ get replica_cmp m r → o ≡ next_of i x → o ≡ None → GoesOn (seen m) r i (seen m) false
goes_none m r i x o was is none = subst (λ y. GoesOnTo y (seen m) (next_life r i) (seen m) false) (sym none ∙ found_next m r i x o was is) (refl, refl)
