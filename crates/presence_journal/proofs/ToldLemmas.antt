-- What a step tells of other replicas.
use Rattle.std.proofs.Common.{◌≡◌, ◌^◌, nat_le, Bool, true, false, cond, not, ◌&&◌, List, [], ◌∷◌, Option, Some, None, refl, sym, ◌∙◌, ap}
use Rattle.std.specs.Prelude.{is_none}
use Rattle.std.specs.List.{list_all}
use Rattle.std.specs.Map.{lookup}
use Rattle.std.proofs.lemmas.Bool.{and_parts, and_from, leb-true}
use Rattle.std.proofs.lemmas.Option.{same_Some}
use Rattle.presence_base.specs.declared.dots.Replica.{Replica}
use Rattle.presence_base.specs.declared.dots.Dot.{Dot}
use Rattle.presence_base.specs.declared.row.Row.{Row}
use Rattle.presence_base.specs.Names.{is_node_name}
use Rattle.presence_base.specs.Order.{same_dot, same_replica}
use Rattle.presence_base.specs.Refs.{IsDot}
use Rattle.orswot_core.specs.Limits.{is_count, is_dot, is_row, is_range, are_texts}
use Rattle.orswot_core.specs.Telling.{ToldValue, covers, live_row}
use Rattle.orswot_core.specs.Checks.{are_forward, are_live_covered, has_live_twice}
use Rattle.presence_journal.specs.StepLimits.{is_told, is_named, is_heard}
use Rattle.presence_journal.specs.declared.step.Step.TheVariants as steps_are
use Rattle.presence_journal.specs.Steps.{Step}
use Rattle.presence_journal.specs.History.{History, own, status, is_gone, hears, told_covers, told_row, told_removed}
use Rattle.presence_journal.specs.Table.{is_step}
use Rattle.presence_journal.specs.Walk.{tells}
use Rattle.presence_journal.specs.Laws.{is_callers}
use Rattle.presence_journal.proofs.Same.{same_dot-true}

-- any step but a merge tells nothing

pub none_told_covers : (h : History) (s : Step) (d : Dot) → tells s ≡ false → told_covers h s d ≡ false
none_told_covers h (steps_are.Merge t) d f = absurd (cc)
none_told_covers h _ d f = refl

pub none_told_row : (h : History) (s : Step) (d : Dot) → tells s ≡ false → told_row h s d ≡ None
none_told_row h (steps_are.Merge t) d f = absurd (cc)
none_told_row h _ d f = refl

pub none_told_removed : (h : History) (s : Step) (d : Dot) → tells s ≡ false → told_removed h s d ≡ false
none_told_removed h (steps_are.Merge t) d f = absurd (cc)
none_told_removed h _ d f = refl

pub callers_tell_none : (s : Step) → is_callers s ≡ true → tells s ≡ false
callers_tell_none (steps_are.Merge t) f = absurd (cc)
callers_tell_none _ f = refl

-- nothing is told of the own replica

not_true : (b c : Bool) → (not b && c) ≡ true → b ≡ false
not_true true c e = absurd (cc)
not_true false c e = refl

pub hears-other : (h : History) (r : Replica) → hears h r ≡ true → same_replica r (own h) ≡ false
unfolding hears
hears-other h r e = not_true (same_replica r (own h)) (not (is_gone (status h r))) e

pub told_other : (h : History) (s : Step) (d : Dot) → told_covers h s d ≡ true → same_replica d.replica (own h) ≡ false
told_other h (steps_are.Merge t) d e = hears-other h d.replica (and_parts (hears h d.replica) (covers t d) e).0
told_other h _ d e = absurd (cc)

-- a row that is told is covered

row_covered : (t : ToldValue) (xs : List (Dot × Row)) (d : Dot) (r : Row) → list_all (λ x. covers t x.0) xs ≡ true → lookup (same_dot d) xs ≡ Some r → covers t d ≡ true
row_covered t [] d r a e = absurd (cc)
row_covered t (x ∷ xs) d r a e = let parts = and_parts (covers t x.0) (list_all (λ x. covers t x.0) xs) a in go (same_dot d x.0) refl parts.0 e (row_covered t xs d r parts.1)
  where
    go : (b : Bool) → same_dot d x.0 ≡ b → covers t x.0 ≡ true → cond b (Some x.1) (lookup (same_dot d) xs) ≡ Some r → (lookup (same_dot d) xs ≡ Some r → covers t d ≡ true) → covers t d ≡ true
    go true p c f ih = ap (covers t) (same_dot-true d x.0 p) ∙ c
    go false p c f ih = ih f

heard_covers : (t : ToldValue) → is_heard t ≡ true → are_live_covered t ≡ true
heard_covers t e =
    let told = (and_parts (is_told t) _ e).0 in
    let b = (and_parts (are_forward t) _ told).1 in
    let c = (and_parts (list_all is_range t.ranges) _ b).1 in
    let f = (and_parts (list_all is_dot t.extras) _ c).1 in
    let g = (and_parts (list_all (λ x. is_dot x.0 && is_row x.1) t.live) _ f).1 in
    (and_parts (are_live_covered t) (not (has_live_twice t)) g).0

pub live_row_covered : (t : ToldValue) (d : Dot) (r : Row) → is_heard t ≡ true → live_row t d ≡ Some r → covers t d ≡ true
live_row_covered t d r i e = row_covered t t.live d r (heard_covers t i) e

pub row_told_covers : (h : History) (s : Step) (d : Dot) (r : Row) → is_step s ≡ true → told_row h s d ≡ Some r → told_covers h s d ≡ true
row_told_covers h (steps_are.Merge t) d r i e = go (hears h d.replica) e
  where
    go : (b : Bool) → cond b (live_row t d) None ≡ Some r → (b && covers t d) ≡ true
    go true f = live_row_covered t d r i f
    go false f = absurd (cc)
row_told_covers h _ d r i e = absurd (cc)

pub removed_told_covers : (h : History) (s : Step) (d : Dot) → told_removed h s d ≡ true → told_covers h s d ≡ true
removed_told_covers h (steps_are.Merge t) d e =
    let p = and_parts (hears h d.replica) (covers t d && is_none (live_row t d)) e in
    and_from (hears h d.replica) (covers t d) p.0 (and_parts (covers t d) (is_none (live_row t d)) p.1).0
removed_told_covers h _ d e = absurd (cc)

-- what is told without a row is told as removed
pub rowless_told_removed : (h : History) (s : Step) (d : Dot) → told_covers h s d ≡ true → told_row h s d ≡ None → told_removed h s d ≡ true
rowless_told_removed h (steps_are.Merge t) d e f = go (hears h d.replica) (covers t d) (live_row t d) e f
  where
    go : (b c : Bool) (o : Option Row) → (b && c) ≡ true → cond b o None ≡ None → (b && (c && is_none o)) ≡ true
    go true true None p q = refl
    go true true (Some r) p q = absurd (cc)
    go true false o p q = absurd (cc)
    go false c o p q = absurd (cc)
rowless_told_removed h _ d e f = absurd (cc)

-- where nothing is told of a dot, it is told neither with a row nor as removed

pub untold_row : (h : History) (s : Step) (d : Dot) → is_step s ≡ true → told_covers h s d ≡ false → told_row h s d ≡ None
untold_row h s d i e = go (told_row h s d) refl
  where
    go : (o : Option Row) → told_row h s d ≡ o → o ≡ None
    go None p = refl
    go (Some r) p = let f : false ≡ true = sym e ∙ row_told_covers h s d r i p in absurd (cc)

pub untold_removed : (h : History) (s : Step) (d : Dot) → told_covers h s d ≡ false → told_removed h s d ≡ false
untold_removed h s d e = go (told_removed h s d) refl
  where
    go : (b : Bool) → told_removed h s d ≡ b → b ≡ false
    go false p = refl
    go true p = let f : false ≡ true = sym e ∙ removed_told_covers h s d p in absurd (cc)

-- the limits of a row that is told

found_in : (p : Dot × Row → Bool) (xs : List (Dot × Row)) (d : Dot) (r : Row) → list_all p xs ≡ true → lookup (same_dot d) xs ≡ Some r → p (d, r) ≡ true
found_in p [] d r a e = absurd (cc)
found_in p (x ∷ xs) d r a e = let parts = and_parts (p x) (list_all p xs) a in go (same_dot d x.0) refl parts.0 e (found_in p xs d r parts.1)
  where
    go : (b : Bool) → same_dot d x.0 ≡ b → p x ≡ true → cond b (Some x.1) (lookup (same_dot d) xs) ≡ Some r → (lookup (same_dot d) xs ≡ Some r → p (d, r) ≡ true) → p (d, r) ≡ true
    go true q c f ih = let dots = same_dot-true d x.0 q in let rows = same_Some x.1 r f in (λ i. p (dots i, sym rows i)) ∙ c
    go false q c f ih = ih f

heard_rows : (t : ToldValue) → is_heard t ≡ true → list_all (λ x. is_dot x.0 && is_row x.1) t.live ≡ true
heard_rows t e =
    let told = (and_parts (is_told t) _ e).0 in
    let b = (and_parts (are_forward t) _ told).1 in
    let c = (and_parts (list_all is_range t.ranges) _ b).1 in
    let f = (and_parts (list_all is_dot t.extras) _ c).1 in
    (and_parts (list_all (λ x. is_dot x.0 && is_row x.1) t.live) _ f).0

pub live_row_limits : (t : ToldValue) (d : Dot) (r : Row) → is_heard t ≡ true → live_row t d ≡ Some r → is_row r ≡ true
live_row_limits t d r i e = (and_parts (is_dot d) (is_row r) (found_in (λ x. is_dot x.0 && is_row x.1) t.live d r (heard_rows t i) e)).1

dot_of_parts : (d : Dot) → is_node_name d.replica.name ≡ true → is_dot d ≡ true → IsDot d
dot_of_parts d n e =
    let p = and_parts (is_count d.replica.incarnation) (is_count d.count) e in
    let i = and_parts (nat_le 1 d.replica.incarnation) (nat_le d.replica.incarnation (2 ^ 62)) p.0 in
    let c = and_parts (nat_le 1 d.count) (nat_le d.count (2 ^ 62)) p.1 in
    record {
      is_name = n;
      is_incarnation = (leb-true 1 d.replica.incarnation i.0, leb-true d.replica.incarnation (2 ^ 62) i.1);
      is_count = (leb-true 1 d.count c.0, leb-true d.count (2 ^ 62) c.1);
    }

pub live_row_dot : (t : ToldValue) (d : Dot) (r : Row) → is_heard t ≡ true → live_row t d ≡ Some r → IsDot d
live_row_dot t d r i e = dot_of_parts d (found_in is_named t.live d r named e) (and_parts (is_dot d) (is_row r) (found_in (λ x. is_dot x.0 && is_row x.1) t.live d r (heard_rows t i) e)).0
  where
    named : list_all is_named t.live ≡ true
    named = (and_parts (list_all is_named t.live) (list_all (λ x. are_texts x.1) t.live) (and_parts (is_told t) _ i).1).0

pub row_told_dot : (h : History) (s : Step) (d : Dot) (r : Row) → is_step s ≡ true → told_row h s d ≡ Some r → IsDot d
row_told_dot h (steps_are.Merge t) d r i e = go (hears h d.replica) e
  where
    go : (b : Bool) → cond b (live_row t d) None ≡ Some r → IsDot d
    go true f = live_row_dot t d r i f
    go false f = absurd (cc)
row_told_dot h _ d r i e = absurd (cc)
