-- What is found in the two maps, and what each call changes.
use Rattle.std.proofs.Common.{◌≡◌, ℕ, Bool, true, false, cond, not, ◌&&◌, ◌||◌, List, [], ◌∷◌, ◌++◌, Option, Some, None, Result, Ok, Err, OnOk, OnErr, refl, sym, ◌∙◌, ap, subst, append-nil, ◌+◌, ◌<◌, length, drop, get_or, drop-cons, add-one}
use Rattle.std.specs.Prelude.{map}
use Rattle.std.specs.Option.{unwrap_or, option_map}
use Rattle.std.specs.Map.{lookup, keys_of}
use Rattle.std.specs.BTreeMap.{get}
use Rattle.std.specs.List.{AllByRecursion}
use Rattle.std.specs.List.Sorted.{IsStrictlySortedBy}
use Rattle.std.specs.Cmp.{eq_by_cmp_equiv}
use Rattle.std.proofs.lemmas.Cmp.{nat_list_cmp_total}
use Rattle.std.proofs.lemmas.Map.{lookup-none}
use Rattle.std.proofs.lemmas.Map.Entries.{none_past_head}
use Rattle.std.proofs.lemmas.Map.Keys.{IsDistinct-from_sorted, sorted_tail}
use Rattle.std.proofs.lemmas.Map.Made.{lookup-map_values}
use Rattle.presence_base.specs.declared.dots.Replica.{Replica}
use Rattle.presence_base.specs.Order.{text_cmp, replica_cmp, same_text, same_replica}
use Rattle.replica_status.specs.declared.standing.Standing.{Standing}
use Rattle.replica_status.specs.declared.standing.Standing.TheVariants.{Unheard, Up, Down, Gone}
use Rattle.replica_status.specs.Boards.{standing_in}
use Rattle.replica_status.specs.Table.{heard_at, ticked_at}
use Rattle.presence_journal_lists.specs.Lives.{same_number, is_one_of}
use Rattle.presence_journal_lists.specs.declared.gone.GoneReplicas.{GoneReplicas}
use Rattle.presence_journal_lists.specs.Standings.{StandingMap, gone_life, first_list, gone_lives, gone_list, all_of, is_first, is_first_in, holds_life, is_further_in, is_gone_in, standing_at, AreOrdered, AreKept, TellsOthers, Puts, AllStay, Ticks, is_gone, IsGoneAt}
use Rattle.presence_journal_lists.proofs.GoneLemmas.{same_parts, same_replica-true}

-- a look-up in those that are gone, and in the others behind them

abbrev first : Option Standing → Option Standing → Option Standing
first None o = o
first (Some x) o = Some x

either : (b : Bool) (x : Standing) (o p q : Option Standing) → p ≡ first o q → cond b (Some x) p ≡ first (cond b (Some x) o) q
either true x o p q is = refl
either false x o p q is = is

lookup-both : (t : Replica → Bool) (xs ys : List (Replica × Standing)) → lookup t (xs ++ ys) ≡ first (lookup t xs) (lookup t ys)
lookup-both t [] ys = refl
lookup-both t (x ∷ xs) ys = either (t x.0) x.1 (lookup t xs) (lookup t (xs ++ ys)) (lookup t ys) (lookup-both t xs ys)

lookup-lives : (r : Replica) (name : List ℕ) (ns : List ℕ) → lookup (same_replica r) (gone_lives name ns) ≡ cond (same_text r.name name && is_one_of ns r.incarnation) (Some Gone) None
lookup-lives r name [] = go (same_text r.name name)
  where
    go : (a : Bool) → None ≡ cond {A = Option Standing} (a && false) (Some Gone) None
    go true = refl
    go false = refl
lookup-lives r name (n ∷ ns) =
    (λ i. cond (same_parts r (gone_life name n).0 i) (Some Gone) (lookup-lives r name ns i))
    ∙ go (same_text r.name name) (same_number r.incarnation n) (is_one_of ns r.incarnation)
  where
    go : (a b c : Bool) → cond {A = Option Standing} (a && b) (Some Gone) (cond (a && c) (Some Gone) None) ≡ cond (a && (b || c)) (Some Gone) None
    go true true c = refl
    go true false c = refl
    go false b c = refl

lookup-gone : (r : Replica) (es : List (List ℕ × List ℕ)) → IsStrictlySortedBy text_cmp (keys_of es) → lookup (same_replica r) (gone_list es) ≡ cond (holds_life (lookup (same_text r.name) es) r.incarnation) (Some Gone) None
lookup-gone r [] ordered = refl
lookup-gone r (e ∷ es) ordered =
    lookup-both (same_replica r) (gone_lives e.0 e.1) (gone_list es)
    ∙ ((λ i. first (lookup-lives r e.0 e.1 i) (lookup-gone r es (sorted_tail text_cmp e.0 (keys_of es) ordered) i))
    ∙ go (same_text r.name e.0) refl)
  where
    only : same_text r.name e.0 ≡ true → lookup (same_text r.name) es ≡ None
    only same = lookup-none (same_text r.name) es (none_past_head (eq_by_cmp_equiv nat_list_cmp_total) r.name e es (IsDistinct-from_sorted text_cmp (keys_of (e ∷ es)) ordered) same)

    here : (b : Bool) (o : Option (List ℕ)) → o ≡ None → first (cond b (Some Gone) None) (cond (holds_life o r.incarnation) (Some Gone) None) ≡ cond b (Some Gone) None
    here true o none = refl
    here false o none = ap (λ l. cond (holds_life l r.incarnation) (Some Gone) None) none

    go : (a : Bool) → same_text r.name e.0 ≡ a → first (cond (a && is_one_of e.1 r.incarnation) (Some Gone) None) (cond (holds_life (lookup (same_text r.name) es) r.incarnation) (Some Gone) None)
        ≡ cond (holds_life (cond a (Some e.1) (lookup (same_text r.name) es)) r.incarnation) (Some Gone) None
    go true same = here (is_one_of e.1 r.incarnation) (lookup (same_text r.name) es) (only same)
    go false same = refl

lookup-first : (r : Replica) (es : List (List ℕ × ℕ)) → IsStrictlySortedBy text_cmp (keys_of es) → lookup (same_replica r) (first_list es) ≡ cond (is_first (lookup (same_text r.name) es) r.incarnation) (Some Gone) None
lookup-first r [] ordered = refl
lookup-first r (e ∷ es) ordered =
    (λ i. cond (same_parts r (gone_life e.0 e.1).0 i) (Some Gone) (lookup-first r es (sorted_tail text_cmp e.0 (keys_of es) ordered) i))
    ∙ go (same_text r.name e.0) refl
  where
    only : same_text r.name e.0 ≡ true → lookup (same_text r.name) es ≡ None
    only same = lookup-none (same_text r.name) es (none_past_head (eq_by_cmp_equiv nat_list_cmp_total) r.name e es (IsDistinct-from_sorted text_cmp (keys_of (e ∷ es)) ordered) same)

    here : (b : Bool) (o : Option ℕ) → o ≡ None → cond b (Some Gone) (cond (is_first o r.incarnation) (Some Gone) None) ≡ cond b (Some Gone) None
    here b o none = ap (λ l. cond b (Some Gone) (cond (is_first l r.incarnation) (Some Gone) None)) none

    go : (a : Bool) → same_text r.name e.0 ≡ a → cond (a && same_number r.incarnation e.1) (Some Gone) (cond (is_first (lookup (same_text r.name) es) r.incarnation) (Some Gone) None)
        ≡ cond (is_first (cond a (Some e.1) (lookup (same_text r.name) es)) r.incarnation) (Some Gone) None
    go true same = here (same_number r.incarnation e.1) (lookup (same_text r.name) es) (only same)
    go false same = refl

pub standing_split : (g : GoneReplicas) (m : StandingMap) (r : Replica) → AreOrdered g → standing_in (all_of g m) r ≡ cond (is_gone_in g r) Gone (standing_at m r)
standing_split g m r ordered =
    ap (λ o. unwrap_or o Unheard) (lookup-both (same_replica r) (first_list g.first.entries) (gone_list g.further.entries ++ m.entries))
    ∙ (ap (λ o. unwrap_or (first (lookup (same_replica r) (first_list g.first.entries)) o) Unheard) (lookup-both (same_replica r) (gone_list g.further.entries) m.entries)
    ∙ ((λ i. unwrap_or (first (lookup-first r g.first.entries ordered.first i) (first (lookup-gone r g.further.entries ordered.further i) (lookup (same_replica r) m.entries))) Unheard)
    ∙ go (is_first_in g.first r) (is_further_in g.further r)))
  where
    go : (a b : Bool) → unwrap_or (first (cond a (Some Gone) None) (first (cond b (Some Gone) None) (lookup (same_replica r) m.entries))) Unheard ≡ cond (a || b) Gone (standing_at m r)
    go true b = refl
    go false true = refl
    go false false = refl

-- the standing that is read

pub read_gone : (g : GoneReplicas) (m : StandingMap) (r : Replica) → AreKept g m → is_gone_in g r ≡ true → Gone ≡ standing_in (all_of g m) r
read_gone g m r k is = sym (standing_split g m r k.ordered ∙ ap (λ b. cond b Gone (standing_at m r)) is)

pub read_other : (g : GoneReplicas) (m : StandingMap) (r : Replica) → AreKept g m → is_gone_in g r ≡ false → standing_at m r ≡ standing_in (all_of g m) r
read_other g m r k is = sym (standing_split g m r k.ordered ∙ ap (λ b. cond b Gone (standing_at m r)) is)

pub tells_others : (g : GoneReplicas) (m : StandingMap) → AreKept g m → TellsOthers (all_of g m) m
tells_others g m k passes unheard gone r = go (is_gone_in g r) refl ∙ ap passes (sym (standing_split g m r k.ordered))
  where
    go : (b : Bool) → is_gone_in g r ≡ b → passes (standing_at m r) ≡ passes (cond b Gone (standing_at m r))
    go true is = ap (λ o. passes (unwrap_or o Unheard)) (k.apart r is) ∙ (unheard ∙ sym gone)
    go false is = refl

-- a replica was heard

stays : (b : Bool) (x : Standing) → x ≡ cond b x x
stays true x = refl
stays false x = refl

pub heard_gone : (xs : List (Replica × Standing)) (r : Replica) (time : ℕ) → standing_in xs r ≡ Gone → Puts xs xs r (heard_at time (standing_in xs r))
heard_gone xs r time gone q = go (same_replica r q) refl
  where
    go : (b : Bool) → same_replica r q ≡ b → standing_in xs q ≡ cond b (heard_at time (standing_in xs r)) (standing_in xs q)
    go true same = ap (λ p. standing_in xs p) (sym (same_replica-true r q same)) ∙ (gone ∙ ap (heard_at time) (sym gone))
    go false same = refl

-- the other one has a standing from now on

put_at : (m n : StandingMap) (r q : Replica) (x : Standing) → get replica_cmp n q ≡ cond (same_replica r q) (Some x) (get replica_cmp m q) → standing_at n q ≡ cond (same_replica r q) x (standing_at m q)
put_at m n r q x is = ap (λ o. unwrap_or o Unheard) is ∙ go (same_replica r q)
  where
    go : (b : Bool) → unwrap_or (cond b (Some x) (get replica_cmp m q)) Unheard ≡ cond b x (standing_at m q)
    go true = refl
    go false = refl

pub heard_kept : (g : GoneReplicas) (m n : StandingMap) (r : Replica) (x : Standing) → AreKept g m → is_gone_in g r ≡ false → ((q : Replica) → get replica_cmp n q ≡ cond (same_replica r q) (Some x) (get replica_cmp m q)) → AreKept g n
heard_kept g m n r x k other puts = record { ordered = k.ordered; apart = λ q gone. puts q ∙ go q gone (same_replica r q) refl }
  where
    go : (q : Replica) → is_gone_in g q ≡ true → (b : Bool) → same_replica r q ≡ b → cond b (Some x) (get replica_cmp m q) ≡ None
    go q gone true same =
        let w : true ≡ false = sym gone ∙ (ap (is_gone_in g) (sym (same_replica-true r q same)) ∙ other) in
        absurd (cc)
    go q gone false same = k.apart q gone

pub unchanged_kept : (g : GoneReplicas) (m n : StandingMap) → AreKept g m → n.entries ≡ m.entries → AreKept g n
unchanged_kept g m n k same = record { ordered = k.ordered; apart = λ q gone. ap (λ es. lookup (same_replica q) es) same ∙ k.apart q gone }

pub heard_puts : (g : GoneReplicas) (m n : StandingMap) (r : Replica) (x : Standing) → AreKept g m → is_gone_in g r ≡ false → ((q : Replica) → get replica_cmp n q ≡ cond (same_replica r q) (Some x) (get replica_cmp m q)) → Puts (all_of g m) (all_of g n) r x
heard_puts g m n r x k other puts q =
    standing_split g n q k.ordered
    ∙ (ap (λ y. cond (is_gone_in g q) Gone y) (put_at m n r q x (puts q))
    ∙ (go (same_replica r q) refl
    ∙ ap (λ y. cond (same_replica r q) x y) (sym (standing_split g m q k.ordered))))
  where
    go : (b : Bool) → same_replica r q ≡ b → cond (is_gone_in g q) Gone (cond b x (standing_at m q)) ≡ cond b x (cond (is_gone_in g q) Gone (standing_at m q))
    go true same = ap (λ b. cond b Gone x) (ap (is_gone_in g) (sym (same_replica-true r q same)) ∙ other)
    go false same = refl

pub heard_as : (g : GoneReplicas) (m n : StandingMap) (r : Replica) (time : ℕ) (x : Standing) → AreKept g m → is_gone_in g r ≡ false → x ≡ heard_at time (standing_at m r) → ((q : Replica) → get replica_cmp n q ≡ cond (same_replica r q) (Some x) (get replica_cmp m q))
    → Puts (all_of g m) (all_of g n) r (heard_at time (standing_in (all_of g m) r))
heard_as g m n r time x k other is puts q =
    heard_puts g m n r x k other puts q
    ∙ ap (λ y. cond (same_replica r q) y (standing_in (all_of g m) q)) (is ∙ ap (heard_at time) (read_other g m r k other))

-- the replica is gone, or nothing is kept of it

taken_out : (m n : StandingMap) (r q : Replica) → get replica_cmp n q ≡ cond (same_replica r q) None (get replica_cmp m q) → standing_at n q ≡ cond (same_replica r q) Unheard (standing_at m q)
taken_out m n r q is = ap (λ o. unwrap_or o Unheard) is ∙ go (same_replica r q)
  where
    go : (b : Bool) → unwrap_or (cond b None (get replica_cmp m q)) Unheard ≡ cond b Unheard (standing_at m q)
    go true = refl
    go false = refl

pub down_kept : (g h : GoneReplicas) (m n : StandingMap) (r : Replica) → AreKept g m → AreOrdered h → ((q : Replica) → is_gone_in h q ≡ (same_replica r q || is_gone_in g q)) → ((q : Replica) → get replica_cmp n q ≡ cond (same_replica r q) None (get replica_cmp m q)) → AreKept h n
down_kept g h m n r k ordered more out = record { ordered = ordered; apart = λ q gone. out q ∙ go q (same_replica r q) (sym (more q) ∙ gone) }
  where
    go : (q : Replica) (b : Bool) → (b || is_gone_in g q) ≡ true → cond b None (get replica_cmp m q) ≡ None
    go q true gone = refl
    go q false gone = k.apart q gone

pub down_puts : (g h : GoneReplicas) (m n : StandingMap) (r : Replica) → AreKept g m → AreOrdered h → ((q : Replica) → is_gone_in h q ≡ (same_replica r q || is_gone_in g q)) → ((q : Replica) → get replica_cmp n q ≡ cond (same_replica r q) None (get replica_cmp m q))
    → Puts (all_of g m) (all_of h n) r Gone
down_puts g h m n r k ordered more out q =
    standing_split h n q ordered
    ∙ ((λ i. cond (more q i) Gone (taken_out m n r q (out q) i))
    ∙ (go (same_replica r q)
    ∙ ap (λ y. cond (same_replica r q) Gone y) (sym (standing_split g m q k.ordered))))
  where
    go : (b : Bool) → cond (b || is_gone_in g q) Gone (cond b Unheard (standing_at m q)) ≡ cond b Gone (cond (is_gone_in g q) Gone (standing_at m q))
    go true = refl
    go false = refl

pub same_kept : (g h : GoneReplicas) (m : StandingMap) → AreKept g m → AreOrdered h → ((q : Replica) → is_gone_in h q ≡ is_gone_in g q) → AreKept h m
same_kept g h m k ordered same = record { ordered = ordered; apart = λ q gone. k.apart q (sym (same q) ∙ gone) }

pub same_stay : (g h : GoneReplicas) (m : StandingMap) → AreKept g m → AreOrdered h → ((q : Replica) → is_gone_in h q ≡ is_gone_in g q) → AllStay (all_of g m) (all_of h m)
same_stay g h m k ordered same q = standing_split h m q ordered ∙ (ap (λ b. cond b Gone (standing_at m q)) (same q) ∙ sym (standing_split g m q k.ordered))

pub out_kept : (g h : GoneReplicas) (m n : StandingMap) (r : Replica) → AreKept g m → AreOrdered h → ((q : Replica) → is_gone_in h q ≡ (not (same_replica r q) && is_gone_in g q)) → ((q : Replica) → get replica_cmp n q ≡ cond (same_replica r q) None (get replica_cmp m q)) → AreKept h n
out_kept g h m n r k ordered less out = record { ordered = ordered; apart = λ q gone. out q ∙ go q (same_replica r q) (sym (less q) ∙ gone) }
  where
    go : (q : Replica) (b : Bool) → (not b && is_gone_in g q) ≡ true → cond b None (get replica_cmp m q) ≡ None
    go q true gone = refl
    go q false gone = k.apart q gone

pub out_puts : (g h : GoneReplicas) (m n : StandingMap) (r : Replica) → AreKept g m → AreOrdered h → ((q : Replica) → is_gone_in h q ≡ (not (same_replica r q) && is_gone_in g q)) → ((q : Replica) → get replica_cmp n q ≡ cond (same_replica r q) None (get replica_cmp m q))
    → Puts (all_of g m) (all_of h n) r Unheard
out_puts g h m n r k ordered less out q =
    standing_split h n q ordered
    ∙ ((λ i. cond (less q i) Gone (taken_out m n r q (out q) i))
    ∙ (go (same_replica r q)
    ∙ ap (λ y. cond (same_replica r q) Unheard y) (sym (standing_split g m q k.ordered))))
  where
    go : (b : Bool) → cond (not b && is_gone_in g q) Gone (cond b Unheard (standing_at m q)) ≡ cond b Unheard (cond (is_gone_in g q) Gone (standing_at m q))
    go true = refl
    go false = refl

-- time passed

abbrev pub each_ticked : ℕ → List (Replica × Standing) → List (Replica × Standing)
each_ticked t es = map (λ e. (e.0, ticked_at t e.1)) es

ticked_get : (m n : StandingMap) (t : ℕ) (q : Replica) → n.entries ≡ each_ticked t m.entries → get replica_cmp n q ≡ option_map (ticked_at t) (get replica_cmp m q)
ticked_get m n t q is = ap (λ es. lookup (same_replica q) es) is ∙ lookup-map_values (ticked_at t) (same_replica q) m.entries

pub tick_kept : (g : GoneReplicas) (m n : StandingMap) (t : ℕ) → AreKept g m → n.entries ≡ each_ticked t m.entries → AreKept g n
tick_kept g m n t k is = record { ordered = k.ordered; apart = λ q gone. ticked_get m n t q is ∙ ap (option_map (ticked_at t)) (k.apart q gone) }

pub tick_puts : (g : GoneReplicas) (m n : StandingMap) (t : ℕ) → AreKept g m → n.entries ≡ each_ticked t m.entries → Ticks t (all_of g m) (all_of g n)
tick_puts g m n t k is q =
    standing_split g n q k.ordered
    ∙ (ap (λ o. cond (is_gone_in g q) Gone (unwrap_or o Unheard)) (ticked_get m n t q is)
    ∙ (go (is_gone_in g q) (get replica_cmp m q)
    ∙ ap (ticked_at t) (sym (standing_split g m q k.ordered))))
  where
    go : (b : Bool) (o : Option Standing) → cond b Gone (unwrap_or (option_map (ticked_at t) o) Unheard) ≡ ticked_at t (cond b Gone (unwrap_or o Unheard))
    go true o = refl
    go false None = refl
    go false (Some x) = refl

-- moving those that became gone

pub gone_there : (g : GoneReplicas) (m : StandingMap) (rs : List Replica) → AreKept g m → AllByRecursion (IsGoneAt m) rs → AllByRecursion (λ r. standing_in (all_of g m) r ≡ Gone) rs
gone_there g m [] k all = tt
gone_there g m (r ∷ rs) k all = (standing_split g m r k.ordered ∙ go (is_gone_in g r), gone_there g m rs k all.1)
  where
    go : (b : Bool) → cond b Gone (standing_at m r) ≡ Gone
    go true = refl
    go false = all.0

-- one was put down that is gone, or memory was refused
pub still_all : {E : Type 0} (xs ys : List (Replica × Standing)) (r : Replica) (o : Result (Unit {0}) E) → standing_in xs r ≡ Gone → OnOk o (Puts xs ys r Gone) → OnErr o (AllStay xs ys) → AllStay xs ys
still_all xs ys r (Ok u) gone puts stay q = puts q ∙ go (same_replica r q) refl
  where
    go : (b : Bool) → same_replica r q ≡ b → cond b Gone (standing_in xs q) ≡ standing_in xs q
    go true same = sym gone ∙ ap (λ p. standing_in xs p) (same_replica-true r q same)
    go false same = refl
still_all xs ys r (Err e) gone puts stay q = stay q

pub all_stay : (xs ys zs : List (Replica × Standing)) → AllStay xs ys → AllStay ys zs → AllStay xs zs
all_stay xs ys zs first second q = second q ∙ first q

pub ticks_stay : (t : ℕ) (xs ys zs : List (Replica × Standing)) → Ticks t xs ys → AllStay ys zs → Ticks t xs zs
ticks_stay t xs ys zs ticks stay q = stay q ∙ ticks q

-- what an error leaves
pub err_leaves : {A E P : Type 0} (r : Result A E) → P → OnErr r P
err_leaves (Ok x) p = tt
err_leaves (Err e) p = p

-- a list of those that are gone

all_push : {A : Type 0} (P : A → Type 0) (xs : List A) (x : A) → AllByRecursion P xs → P x → AllByRecursion P (xs ++ x ∷ [])
all_push P [] x all here = (here, tt)
all_push P (y ∷ ys) x all here = (all.0, all_push P ys x all.1 here)

pub one_gone : (m : StandingMap) (rs new : List Replica) (r : Replica) (x : Standing) → get replica_cmp m r ≡ Some x → new ≡ rs ++ cond (is_gone x) (r ∷ []) [] → AllByRecursion (IsGoneAt m) rs → AllByRecursion (IsGoneAt m) new
one_gone m rs new r x found is all = subst (AllByRecursion (IsGoneAt m)) (sym is) (go x found)
  where
    go : (y : Standing) → get replica_cmp m r ≡ Some y → AllByRecursion (IsGoneAt m) (rs ++ cond (is_gone y) (r ∷ []) [])
    go Unheard f = subst (AllByRecursion (IsGoneAt m)) (sym (append-nil rs)) all
    go (Up t) f = subst (AllByRecursion (IsGoneAt m)) (sym (append-nil rs)) all
    go (Down t) f = subst (AllByRecursion (IsGoneAt m)) (sym (append-nil rs)) all
    go Gone f = all_push (IsGoneAt m) rs r all (ap (λ o. unwrap_or o Unheard) f)

pub drop_next : {A : Type 0} (es : List A) (i : ℕ) (e : A) → i < length es → e ≡ get_or es i e → drop i es ≡ e ∷ drop (i + 1) es
drop_next es i e l is = drop-cons es i e l ∙ (λ j. sym is j ∷ drop (sym (add-one i) j) es)

-- a copy

pub same_pair : {A B : Type 0} (p q : A × B) → (q.0 ≡ p.0) × (q.1 ≡ p.1) → q ≡ p
same_pair p q same i = (same.0 i, same.1 i)

module _ (g h : GoneReplicas) (m n : StandingMap) (one : h.first.entries ≡ g.first.entries) (more : h.further.entries ≡ g.further.entries) (others : n.entries ≡ m.entries) where
  same_gone : (r : Replica) → is_gone_in h r ≡ is_gone_in g r
  same_gone r i = is_first (lookup (same_text r.name) (one i)) r.incarnation || holds_life (lookup (same_text r.name) (more i)) r.incarnation

  pub copy_kept : AreKept g m → AreKept h n
  copy_kept k = record {
    ordered = record {
      first = subst (λ es. IsStrictlySortedBy text_cmp (keys_of es)) (sym one) k.ordered.first;
      further = subst (λ es. IsStrictlySortedBy text_cmp (keys_of es)) (sym more) k.ordered.further;
    };
    apart = λ r gone. ap (λ es. lookup (same_replica r) es) others ∙ k.apart r (sym (same_gone r) ∙ gone);
  }

  pub copy_view : all_of h n ≡ all_of g m
  copy_view i = first_list (one i) ++ (gone_list (more i) ++ others i)
