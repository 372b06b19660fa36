-- Leaving the replicas that are gone out of a set.
use Rattle.std.proofs.Common.{◌≡◌, ℕ, Bool, true, false, cond, not, ◌&&◌, ◌||◌, List, [], ◌∷◌, ◌++◌, Option, Some, None, refl, sym, ◌∙◌, ap, subst}
use Rattle.std.specs.FinSet as set
use Rattle.std.specs.FinMap as map
use Rattle.std.specs.Prelude.{max}
use Rattle.std.specs.Map.{lookup}
use Rattle.presence_base.specs.declared.dots.Dot.{Dot}
use Rattle.presence_base.specs.declared.dots.Replica.{Replica}
use Rattle.presence_base.specs.Order.{same_replica}
use Rattle.dot_context.proofs.SetFacts.{contains-without}
use Rattle.orswot_core.specs.Sets.{DotRows, without_replica}
use Rattle.replica_status.specs.declared.standing.Standing.{Standing}
use Rattle.replica_status.specs.declared.standing.Standing.TheVariants.{Unheard}
use Rattle.replica_status.specs.declared.status.Status.TheVariants as status_is
use Rattle.std.specs.Option.{unwrap_or}
use Rattle.std.proofs.lemmas.Bool.{or_parts}
use Rattle.replica_status.specs.Table.{status_of, heard_at, put_down}
use Rattle.replica_status.specs.Boards.{standing_in}
use Rattle.presence_journal.specs.declared.step.Step.TheVariants as steps_are
use Rattle.presence_journal.specs.declared.step.Step.{Step}
use Rattle.presence_journal.specs.declared.entry.Entry.{Entry}
use Rattle.presence_journal.specs.declared.entry.Start.{Start}
use Rattle.presence_journal.specs.History.{History, Begin, Then, onto, own, own_after, known, live, time, time_of, standing, standing_after, status, is_gone}
use Rattle.presence_journal.proofs.Same.{same_replica-true, dot_cmp-IsAntisymmetric}
use Rattle.presence_journal_known.proofs.StatusLemmas.{own-begin}
use Rattle.presence_journal_known.specs.Walked.{Holds}
use Rattle.presence_journal_known.specs.LeftOut.{HoldsCovered, LeavesOut, without_gone, named_by, is_it, is_named, is_listed, none_left, LeavesListed}

get_without : (s : DotRows) (r : Replica) (d : Dot) → map.get (without_replica s r).live d ≡ cond (not (same_replica d.replica r)) (map.get s.live d) None
get_without s r d = map.get-retain_keys s.live (λ x. not (same_replica x.replica r)) d (λ q e. sym (ap (λ (x : Dot). not (same_replica x.replica r)) (dot_cmp-IsAntisymmetric d q e)))

and_true : (b : Bool) → (b && true) ≡ b
and_true true = refl
and_true false = refl

and_false : (b : Bool) → (b && false) ≡ false
and_false true = refl
and_false false = refl

-- a replica that is not gone is another one than one that is
other : (h : History) (r y : Replica) → is_gone (status h r) ≡ false → is_gone (status h y) ≡ true → same_replica r y ≡ false
other h r y f g = go (same_replica r y) refl
  where
    go : (b : Bool) → same_replica r y ≡ b → b ≡ false
    go false e = refl
    go true e = let w : false ≡ true = sym f ∙ (ap (λ x. is_gone (status h x)) (same_replica-true r y e) ∙ g) in absurd (cc)

left_some : (h : History) (left later : Replica → Bool) (s : DotRows) (y : Replica) (b : Bool) → is_gone (status h y) ≡ b → ((r : Replica) → left r ≡ (same_replica r y || later r)) → LeavesOut h left s → LeavesOut h later (cond b (without_replica s y) s)
left_some h left later s y false g is o = record {
  kept = o.kept;
  lost = λ d f none. o.lost d f (is d.replica ∙ ((λ i. same d f (same_replica d.replica y) refl i || none i)));
}
  where
    same : (d : Dot) → is_gone (status h d.replica) ≡ true → (b : Bool) → same_replica d.replica y ≡ b → b ≡ false
    same d f false e = refl
    same d f true e = let w : true ≡ false = sym f ∙ (ap (λ x. is_gone (status h x)) (same_replica-true d.replica y e) ∙ g) in absurd (cc)
left_some h left later s y true g is o = record {
  kept = λ d f.
      let apart = other h d.replica y f g in
      let before = o.kept d f in (
        contains-without s.covered y d ∙ ((λ i. set.contains s.covered d && not (apart i)) ∙ (and_true (set.contains s.covered d) ∙ before.0)),
        get_without s y d ∙ ((λ i. cond (not (apart i)) (map.get s.live d) None) ∙ before.1),
      );
  lost = λ d f none. go d f none (same_replica d.replica y) refl;
}
  where
    go : (d : Dot) → is_gone (status h d.replica) ≡ true → later d.replica ≡ false → (b : Bool) → same_replica d.replica y ≡ b → (set.contains (without_replica s y).covered d ≡ false) × (map.get (without_replica s y).live d ≡ None)
    go d f none true e = (
      contains-without s.covered y d ∙ ((λ i. set.contains s.covered d && not (e i)) ∙ and_false (set.contains s.covered d)),
      get_without s y d ∙ (λ i. cond (not (e i)) (map.get s.live d) None),
    )
    go d f none false e =
        let before = o.lost d f (is d.replica ∙ (λ i. e i || none i)) in (
          contains-without s.covered y d ∙ (λ i. before.0 i && not (e i)),
          get_without s y d ∙ ((λ i. cond (not (e i)) (before.1 i) None)),
        )

-- one replica more is left out where it is gone
pub left_more : (h : History) (left later : Replica → Bool) (s u : DotRows) (x : Option Replica) → u ≡ without_gone h s x → ((r : Replica) → left r ≡ (is_it x r || later r)) → LeavesOut h left s → LeavesOut h later u
left_more h left later s u None is none o = subst (LeavesOut h later) (sym is) (record { kept = o.kept; lost = λ d f e. o.lost d f (none d.replica ∙ e) })
left_more h left later s u (Some y) is some o = subst (LeavesOut h later) (sym is) (left_some h left later s y (is_gone (status h y)) refl some o)

-- none is left
pub left_all : (h : History) (s : DotRows) → LeavesOut h none_left s → HoldsCovered h s
left_all h s o = record { covered = λ d. (go d (is_gone (status h d.replica)) refl).0; live = λ d. (go d (is_gone (status h d.replica)) refl).1 }
  where
    go : (d : Dot) (b : Bool) → is_gone (status h d.replica) ≡ b → (set.contains s.covered d ≡ (known h d && not b)) × (map.get s.live d ≡ cond b None (live h d))
    go d true e = let gone = o.lost d e refl in (gone.0 ∙ sym (and_false (known h d)), gone.1)
    go d false e = let there = o.kept d e in (there.0 ∙ sym (and_true (known h d)), there.1)

-- only a replica that is listed or named can be gone

stays_unheard : (o : Replica) (s : Step) (t : ℕ) (r : Replica) → is_it (named_by o s) r ≡ false → standing_after o s t r Unheard ≡ Unheard
stays_unheard o (steps_are.Heard replica now) t r f = ap (λ b. cond b (heard_at t Unheard) Unheard) f
stays_unheard o (steps_are.Tick now) t r f = refl
stays_unheard o (steps_are.PermDown replica) t r f = ap (λ b. cond b (put_down Unheard) Unheard) f
stays_unheard o (steps_are.Rebirth i) t r f = ap (λ b. cond b (put_down Unheard) Unheard) f
stays_unheard o _ t r f = refl

unheard_on : (h : History) (es : List Entry) (r : Replica) → standing h r ≡ Unheard → is_named (own h) es r ≡ false → standing (onto h es) r ≡ Unheard
unfolding standing own
unheard_on h [] r u f = u
unheard_on h (e ∷ es) r u f =
    let p = or_parts (is_it (named_by (own h) e.step) r) (is_named (own_after e.step (own h)) es r) f in
    unheard_on (Then h e) es r (ap (standing_after (own h) e.step (max (time h) (time_of e.step)) r) u ∙ stays_unheard (own h) e.step (max (time h) (time_of e.step)) r p.0) p.1

unlisted : (xs : List (Replica × Standing)) (r : Replica) → is_listed xs r ≡ false → standing_in xs r ≡ Unheard
unlisted [] r f = refl
unlisted (x ∷ xs) r f =
    let p = or_parts (same_replica r x.0) (is_listed xs r) f in
    ap (λ b. unwrap_or (cond b (Some x.1) (lookup (same_replica r) xs)) Unheard) p.0 ∙ unlisted xs r p.1

standing-begin : (s : Start) (r : Replica) → standing (Begin s) r ≡ standing_in s.standings r
unfolding standing
standing-begin s r = refl

not_gone : (h : History) (r : Replica) → standing h r ≡ Unheard → is_gone (status h r) ≡ false
unfolding status
not_gone h r u = ap (λ (x : Standing). is_gone (cond (same_replica r (own h)) status_is.Up (status_of x))) u ∙ go (same_replica r (own h))
  where
    go : (b : Bool) → is_gone (cond b status_is.Up status_is.Unheard) ≡ false
    go true = refl
    go false = refl

-- at first all that are listed or named are left
pub left_none : (s : Start) (es : List Entry) (x : DotRows) → Holds (onto (Begin s) es) x → LeavesOut (onto (Begin s) es) (λ r. is_listed s.standings r || is_named s.own es r) x
left_none s es x holds = record {
  kept = λ d f. (holds.known d, holds.live d);
  lost = λ d f none. go d f (or_parts (is_listed s.standings d.replica) (is_named s.own es d.replica) none);
}
  where
    go : (d : Dot) → is_gone (status (onto (Begin s) es) d.replica) ≡ true → (is_listed s.standings d.replica ≡ false) × (is_named s.own es d.replica ≡ false) → (set.contains x.covered d ≡ false) × (map.get x.live d ≡ None)
    go d f p =
        let u = unheard_on (Begin s) es d.replica (standing-begin s d.replica ∙ unlisted s.standings d.replica p.0) (ap (λ o. is_named o es d.replica) (own-begin s) ∙ p.1) in
        let w : true ≡ false = sym f ∙ not_gone (onto (Begin s) es) d.replica u in
        absurd (cc)

grouped : (a b c : Bool) → ((a || b) || c) ≡ (a || (b || c))
grouped true b c = refl
grouped false b c = refl

any_both : (r : Replica) (xs ys : List (Replica × Standing)) → is_listed (xs ++ ys) r ≡ (is_listed xs r || is_listed ys r)
any_both r [] ys = refl
any_both r (x ∷ xs) ys = ap (λ b. same_replica r x.0 || b) (any_both r xs ys) ∙ sym (grouped (same_replica r x.0) (is_listed xs r) (is_listed ys r))

-- the same are left
relabelled : (h : History) (left later : Replica → Bool) (s : DotRows) → ((r : Replica) → left r ≡ later r) → LeavesOut h left s → LeavesOut h later s
relabelled h left later s same o = record { kept = o.kept; lost = λ d f none. o.lost d f (same d.replica ∙ none) }

-- of the listed only these may still have to be left out
abbrev pub LeavesRest : History → List (Replica × Standing) → List (Replica × Standing) → DotRows → DotRows → Type 0
LeavesRest h xs left s u = (later : Replica → Bool) → LeavesOut h (λ r. is_listed xs r || later r) s → LeavesOut h (λ r. is_listed left r || later r) u

pub rest_one : (h : History) (xs left rest : List (Replica × Standing)) (x : Replica × Standing) (s u v : DotRows) → left ≡ x ∷ rest → v ≡ without_gone h u (Some x.0) → LeavesRest h xs left s u → LeavesRest h xs rest s v
rest_one h xs left rest x s u v split is leaves later o =
    left_more h (λ r. is_listed left r || later r) (λ r. is_listed rest r || later r) u v (Some x.0) is
    (λ r. ap (λ (ys : List (Replica × Standing)). is_listed ys r || later r) split ∙ grouped (same_replica r x.0) (is_listed rest r) (later r)) (leaves later o)

pub rest_some : (h : History) (xs left some rest : List (Replica × Standing)) (s u v : DotRows) → left ≡ some ++ rest → LeavesListed h some u v → LeavesRest h xs left s u → LeavesRest h xs rest s v
rest_some h xs left some rest s u v split is leaves later o =
    is (λ r. is_listed rest r || later r)
    (relabelled h (λ r. is_listed left r || later r) (λ r. is_listed some r || (is_listed rest r || later r)) u
    (λ r.
    ap (λ (ys : List (Replica × Standing)). is_listed ys r || later r) split
    ∙ (ap (λ b. b || later r) (any_both r some rest) ∙ grouped (is_listed some r) (is_listed rest r) (later r))) (leaves later o))

pub rest_done : (h : History) (xs left : List (Replica × Standing)) (s u : DotRows) → left ≡ [] → LeavesRest h xs left s u → LeavesListed h xs s u
rest_done h xs left s u none leaves later o = subst (λ (ys : List (Replica × Standing)). LeavesOut h (λ r. is_listed ys r || later r) u) none (leaves later o)

-- all that are listed, in two parts
pub both_listed : (h : History) (all xs ys : List (Replica × Standing)) (named : Replica → Bool) (s u v : DotRows) → all ≡ xs ++ ys → LeavesListed h xs s u → LeavesListed h ys u v → LeavesOut h (λ r. is_listed all r || named r) s → LeavesOut h named v
both_listed h all xs ys named s u v split first second o =
    second named
    (first (λ r. is_listed ys r || named r)
    (relabelled h (λ r. is_listed all r || named r) (λ r. is_listed xs r || (is_listed ys r || named r)) s
    (λ r.
    ap (λ (zs : List (Replica × Standing)). is_listed zs r || named r) split
    ∙ (ap (λ b. b || named r) (any_both r xs ys) ∙ grouped (is_listed xs r) (is_listed ys r) (named r))) o))

pub one_named : (h : History) (own p : Replica) (es rest : List Entry) (e : Entry) (s u : DotRows) → es ≡ e ∷ rest → p ≡ own_after e.step own → u ≡ without_gone h s (named_by own e.step) → LeavesOut h (is_named own es) s → LeavesOut h (is_named p rest) u
one_named h own p es rest e s u split mine is o = left_more h (is_named own es) (is_named p rest) s u (named_by own e.step) is (λ r. ap (λ (ys : List Entry). is_named own ys r) split ∙ ap (λ (q : Replica). is_it (named_by own e.step) r || is_named q rest r) (sym mine)) o
