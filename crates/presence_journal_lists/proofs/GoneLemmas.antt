-- One replica, and the lives of one name.
use Rattle.std.proofs.Common.{◌≡◌, ℕ, Bool, true, false, cond, not, ◌&&◌, ◌||◌, List, [], ◌∷◌, Option, Some, None, IsSome, is_some, refl, sym, ◌∙◌, ap, Ordering, Less, Equal, Greater, is_eq}
use Rattle.std.specs.BTreeMap.{get, WritesThrough}
use Rattle.std.specs.Map.{lookup}
use Rattle.std.specs.Ordering.{nat_cmp, ordering_then}
use Rattle.std.specs.Cmp.{nat_cmp_total, Equal-is, eq_by_cmp_equiv}
use Rattle.std.specs.FinMap.{nat_cmp-IsAntisymmetric, slice_cmp-IsAntisymmetric}
use Rattle.std.proofs.lemmas.Bool.{and_parts}
use Rattle.presence_base.specs.declared.dots.Replica.{Replica}
use Rattle.presence_base.specs.Order.{text_cmp, same_text, same_replica}
use Rattle.presence_journal_lists.specs.Lives.{same_number, is_one_of}
use Rattle.presence_journal_lists.specs.Standings.{FirstMap, FurtherMap, is_first, is_first_in, holds_life, is_further_in}
use Rattle.presence_journal_lists.proofs.LivesLemmas.{same_number-true}

-- one replica

pub is_eq-then : (a b : Ordering) → is_eq (ordering_then a b) ≡ (is_eq a && is_eq b)
is_eq-then Less b = refl
is_eq-then Equal b = refl
is_eq-then Greater b = refl

pub same_parts : (r q : Replica) → same_replica r q ≡ (same_text r.name q.name && same_number r.incarnation q.incarnation)
same_parts r q = is_eq-then (text_cmp r.name q.name) (nat_cmp r.incarnation q.incarnation)

pub same_text-true : (a b : List ℕ) → same_text a b ≡ true → a ≡ b
same_text-true a b h = slice_cmp-IsAntisymmetric nat_cmp-IsAntisymmetric a b ((Equal-is (text_cmp a b)).0 h)

pub same_replica-true : (r q : Replica) → same_replica r q ≡ true → r ≡ q
same_replica-true r q h =
    let parts = and_parts (same_text r.name q.name) (same_number r.incarnation q.incarnation) (sym (same_parts r q) ∙ h) in
    let p : r.name ≡ q.name = same_text-true r.name q.name parts.0 in
    let n : r.incarnation ≡ q.incarnation = same_number-true r.incarnation q.incarnation parts.1 in
    λ i. record { name = p i; incarnation = n i }

-- the lives of one name

found : (g : FurtherMap) (name : List ℕ) (ns : List ℕ) → get text_cmp g name ≡ Some ns → IsSome (get text_cmp g name)
found g name ns e = rw e refl

here : (g : FurtherMap) (r q : Replica) (o : Option (List ℕ)) → get text_cmp g r.name ≡ o → same_text r.name q.name ≡ true → is_further_in g q ≡ holds_life o q.incarnation
here g r q o was same = ap (λ name. holds_life (get text_cmp g name) q.incarnation) (sym (same_text-true r.name q.name same)) ∙ ap (λ l. holds_life l q.incarnation) was

-- one more, where some are gone
pub added_where : (g h : FurtherMap) (r : Replica) (old new : List ℕ) → get text_cmp g r.name ≡ Some old → WritesThrough text_cmp (text_cmp r.name) g new h → ((n : ℕ) → is_one_of new n ≡ (same_number r.incarnation n || is_one_of old n))
    → (q : Replica) → is_further_in h q ≡ (same_replica r q || is_further_in g q)
added_where g h r old new was through more q =
    ap (λ o. holds_life o q.incarnation) ((through.3 (found g r.name old was)).0 q.name)
    ∙ (go (same_text r.name q.name) refl
    ∙ ap (λ b. b || is_further_in g q) (sym (same_parts r q)))
  where
    go : (b : Bool) → same_text r.name q.name ≡ b → holds_life (cond b (Some new) (get text_cmp g q.name)) q.incarnation ≡ ((b && same_number r.incarnation q.incarnation) || is_further_in g q)
    go true same = more q.incarnation ∙ ap (λ b. same_number r.incarnation q.incarnation || b) (sym (here g r q (Some old) was same))
    go false same = refl

-- the first of a name
pub added_first : (g mid h : FurtherMap) (r : Replica) (only : List ℕ) → mid ≡ g → get text_cmp g r.name ≡ None → ((name : List ℕ) → get text_cmp h name ≡ cond (same_text r.name name) (Some only) (get text_cmp mid name)) → only ≡ r.incarnation ∷ []
    → (q : Replica) → is_further_in h q ≡ (same_replica r q || is_further_in g q)
added_first g mid h r only same none put one q =
    ap (λ o. holds_life o q.incarnation) (put q.name ∙ (λ i. cond (same_text r.name q.name) (Some (one i)) (get text_cmp (same i) q.name)))
    ∙ (go (same_text r.name q.name) refl
    ∙ ap (λ b. b || is_further_in g q) (sym (same_parts r q)))
  where
    go : (b : Bool) → same_text r.name q.name ≡ b → holds_life (cond b (Some (r.incarnation ∷ [])) (get text_cmp g q.name)) q.incarnation ≡ ((b && same_number r.incarnation q.incarnation) || is_further_in g q)
    go true e =
        ap (λ b. b || false) ((eq_by_cmp_equiv nat_cmp_total).symm q.incarnation r.incarnation)
        ∙ ap (λ b. same_number r.incarnation q.incarnation || b) (sym (here g r q None none e))
    go false e = refl

-- one less
pub less_where : (g h : FurtherMap) (r : Replica) (old new : List ℕ) → get text_cmp g r.name ≡ Some old → WritesThrough text_cmp (text_cmp r.name) g new h → ((n : ℕ) → is_one_of new n ≡ (not (same_number r.incarnation n) && is_one_of old n))
    → (q : Replica) → is_further_in h q ≡ (not (same_replica r q) && is_further_in g q)
less_where g h r old new was through less q =
    ap (λ o. holds_life o q.incarnation) ((through.3 (found g r.name old was)).0 q.name)
    ∙ (go (same_text r.name q.name) refl
    ∙ ap (λ b. not b && is_further_in g q) (sym (same_parts r q)))
  where
    go : (b : Bool) → same_text r.name q.name ≡ b → holds_life (cond b (Some new) (get text_cmp g q.name)) q.incarnation ≡ (not (b && same_number r.incarnation q.incarnation) && is_further_in g q)
    go true same = less q.incarnation ∙ ap (λ b. not (same_number r.incarnation q.incarnation) && b) (sym (here g r q (Some old) was same))
    go false same = refl

pub less_none : (g mid : FurtherMap) (r : Replica) → mid ≡ g → get text_cmp g r.name ≡ None → (q : Replica) → is_further_in mid q ≡ (not (same_replica r q) && is_further_in g q)
less_none g mid r same none q =
    ap (λ m. is_further_in m q) same
    ∙ (go (same_text r.name q.name) refl
    ∙ ap (λ b. not b && is_further_in g q) (sym (same_parts r q)))
  where
    no : (b : Bool) → false ≡ (b && false)
    no true = refl
    no false = refl

    go : (b : Bool) → same_text r.name q.name ≡ b → is_further_in g q ≡ (not (b && same_number r.incarnation q.incarnation) && is_further_in g q)
    go true e = here g r q None none e ∙ (no (not (same_number r.incarnation q.incarnation)) ∙ ap (λ b. not (same_number r.incarnation q.incarnation) && b) (sym (here g r q None none e)))
    go false e = refl

-- as they were
pub same_where : (g h : FurtherMap) (r : Replica) (old new : List ℕ) → get text_cmp g r.name ≡ Some old → WritesThrough text_cmp (text_cmp r.name) g new h → new ≡ old → (q : Replica) → is_further_in h q ≡ is_further_in g q
same_where g h r old new was through same q = ap (λ o. holds_life o q.incarnation) ((through.3 (found g r.name old was)).0 q.name) ∙ go (same_text r.name q.name) refl
  where
    go : (b : Bool) → same_text r.name q.name ≡ b → holds_life (cond b (Some new) (get text_cmp g q.name)) q.incarnation ≡ is_further_in g q
    go true e = ap (λ ns. is_one_of ns q.incarnation) same ∙ sym (here g r q (Some old) was e)
    go false e = refl

pub same_entries : (g h : FurtherMap) → h.entries ≡ g.entries → (q : Replica) → is_further_in h q ≡ is_further_in g q
same_entries g h same q = ap (λ es. holds_life (lookup (same_text q.name) es) q.incarnation) same

-- the first of each name, and the further ones

pub already : (test : Replica → Bool) (r : Replica) → test r ≡ true → (q : Replica) → test q ≡ (same_replica r q || test q)
already test r is q = go (same_replica r q) refl
  where
    go : (b : Bool) → same_replica r q ≡ b → test q ≡ (b || test q)
    go true same = ap test (sym (same_replica-true r q same)) ∙ is
    go false same = refl

at_first : (f : FirstMap) (r q : Replica) (o : Option ℕ) → get text_cmp f r.name ≡ o → same_text r.name q.name ≡ true → is_first_in f q ≡ is_first o q.incarnation
at_first f r q o was same = ap (λ name. is_first (get text_cmp f name) q.incarnation) (sym (same_text-true r.name q.name same)) ∙ ap (λ l. is_first l q.incarnation) was

or_false : (b : Bool) → b ≡ (b || false)
or_false true = refl
or_false false = refl

one_first : (f k : FirstMap) (r : Replica) → get text_cmp f r.name ≡ None → ((name : List ℕ) → get text_cmp k name ≡ cond (same_text r.name name) (Some r.incarnation) (get text_cmp f name))
    → (q : Replica) → is_first_in k q ≡ (same_replica r q || is_first_in f q)
one_first f k r none put q =
    ap (λ o. is_first o q.incarnation) (put q.name)
    ∙ (go (same_text r.name q.name) refl
    ∙ ap (λ b. b || is_first_in f q) (sym (same_parts r q)))
  where
    go : (b : Bool) → same_text r.name q.name ≡ b → is_first (cond b (Some r.incarnation) (get text_cmp f q.name)) q.incarnation ≡ ((b && same_number r.incarnation q.incarnation) || is_first_in f q)
    go true e =
        (eq_by_cmp_equiv nat_cmp_total).symm q.incarnation r.incarnation
        ∙ (or_false (same_number r.incarnation q.incarnation)
        ∙ ap (λ b. same_number r.incarnation q.incarnation || b) (sym (at_first f r q None none e)))
    go false e = refl

or_three : (a b c : Bool) → ((a || b) || c) ≡ (a || (b || c))
or_three true b c = refl
or_three false b c = refl

pub more_first : (f k : FirstMap) (g : FurtherMap) (r : Replica) → get text_cmp f r.name ≡ None → ((name : List ℕ) → get text_cmp k name ≡ cond (same_text r.name name) (Some r.incarnation) (get text_cmp f name))
    → (q : Replica) → (is_first_in k q || is_further_in g q) ≡ (same_replica r q || (is_first_in f q || is_further_in g q))
more_first f k g r none put q = ap (λ b. b || is_further_in g q) (one_first f k r none put q) ∙ or_three (same_replica r q) (is_first_in f q) (is_further_in g q)

pub none_where : (f : FirstMap) (name : List ℕ) → is_some (get text_cmp f name) ≡ false → get text_cmp f name ≡ None
none_where f name = go (get text_cmp f name)
  where
    go : (o : Option ℕ) → is_some o ≡ false → o ≡ None
    go None e = refl
    go (Some x) e = absurd (cc)

-- without one

neither : (s a b : Bool) → ((not s && a) || (not s && b)) ≡ (not s && (a || b))
neither true a b = refl
neither false a b = refl

pub less_both : (f k : FirstMap) (g h : FurtherMap) (r : Replica) → ((q : Replica) → is_first_in k q ≡ (not (same_replica r q) && is_first_in f q)) → ((q : Replica) → is_further_in h q ≡ (not (same_replica r q) && is_further_in g q))
    → (q : Replica) → (is_first_in k q || is_further_in h q) ≡ (not (same_replica r q) && (is_first_in f q || is_further_in g q))
less_both f k g h r first further q = (λ i. first q i || further q i) ∙ neither (same_replica r q) (is_first_in f q) (is_further_in g q)

is_only : (o : Option ℕ) (n m : ℕ) → is_first o n ≡ true → is_first o m ≡ same_number n m
is_only None n m e = absurd (cc)
is_only (Some x) n m e = ap (same_number m) (sym (same_number-true n x e)) ∙ (eq_by_cmp_equiv nat_cmp_total).symm m n

not_both : (b : Bool) → false ≡ (not b && b)
not_both true = refl
not_both false = refl

pub one_out : (f k : FirstMap) (r : Replica) → is_first_in f r ≡ true → ((name : List ℕ) → get text_cmp k name ≡ cond (same_text r.name name) None (get text_cmp f name)) → (q : Replica) → is_first_in k q ≡ (not (same_replica r q) && is_first_in f q)
one_out f k r is out q =
    ap (λ o. is_first o q.incarnation) (out q.name)
    ∙ (go (same_text r.name q.name) refl
    ∙ ap (λ b. not b && is_first_in f q) (sym (same_parts r q)))
  where
    go : (b : Bool) → same_text r.name q.name ≡ b → is_first (cond b None (get text_cmp f q.name)) q.incarnation ≡ (not (b && same_number r.incarnation q.incarnation) && is_first_in f q)
    go true e =
        not_both (same_number r.incarnation q.incarnation)
        ∙ ap (λ b. not (same_number r.incarnation q.incarnation) && b) (sym (at_first f r q (get text_cmp f r.name) refl e ∙ is_only (get text_cmp f r.name) r.incarnation q.incarnation is))
    go false e = refl

pub none_out : (f : FirstMap) (r : Replica) → is_first_in f r ≡ false → (q : Replica) → is_first_in f q ≡ (not (same_replica r q) && is_first_in f q)
none_out f r is q = go (same_replica r q) refl
  where
    go : (b : Bool) → same_replica r q ≡ b → is_first_in f q ≡ (not b && is_first_in f q)
    go true same = ap (is_first_in f) (sym (same_replica-true r q same)) ∙ is
    go false same = refl
