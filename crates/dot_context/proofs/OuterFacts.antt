-- The runs of each replica: what a change at one replica leaves, and what the loops over the replicas leave.
use Rattle.std.proofs.Common.{◌≡◌, ℕ, ◌<◌, Bool, true, false, cond, ◌&&◌, ◌||◌, eqb, List, [], ◌∷◌, ◌++◌, length, arith, refl, sym, ◌∙◌, ap, true≢false, Option, Some, None, IsSome, subst, Result, Ok, Err, OnOk, OnErr}
use Rattle.std.specs.Bool.{MatchBool}
use Rattle.std.specs.List.{list_any, All}
use Rattle.std.proofs.lemmas.List.Elements.{All-head, All-tail}
use Rattle.std.specs.Map.{lookup}
use Rattle.std.specs.BTreeMap.{get, WritesThrough}
use Rattle.std.specs.Cmp.{eq_by_cmp_equiv}
use Rattle.presence_base.specs.declared.dots.Replica.{Replica}
use Rattle.presence_base.specs.Order.{replica_cmp, same_replica}
use Rattle.dot_context.specs.Runs.{in_run, holds, AreRuns, AreLong, AreApart, has_room, is_hollow, begins, Opens, Fills, Sweeps}
use Rattle.dot_context.specs.Changes.{ChangesAt}
use Rattle.dot_context.specs.Sets.{RunsOf, listed, runs_at, runs_in, HasSome, IsCompact, HasRoomFor}
use Rattle.dot_context.proofs.SetFacts.{replica_total, replica_antisymmetric, is_tied, flipped}
use Rattle.dot_context.proofs.LoopFacts.{either, left_true, opens_none, strict, none_hollow, room_kept, some_room, begins_first, all_proper, key_itself}

pub same_as : (q r : Replica) → same_replica q r ≡ true → q ≡ r
same_as q r e = replica_antisymmetric q r (is_tied (replica_cmp q r) e)

pub same_itself : (r : Replica) → same_replica r r ≡ true
same_itself r = (eq_by_cmp_equiv replica_total).refl r

found_some : (m : RunsOf) (r : Replica) (old : List (ℕ × ℕ)) → get replica_cmp m r ≡ Some old → IsSome (get replica_cmp m r)
found_some m r old e = subst (λ o. IsSome o) (sym e) refl

pub stepped : (m n : RunsOf) (r : Replica) (old new : List (ℕ × ℕ)) → get replica_cmp m r ≡ Some old → WritesThrough replica_cmp (replica_cmp r) m new n → ChangesAt m n r (Some new)
stepped m n r old new was through q = (through.3 (found_some m r old was)).0 q

pub now_at : (m n : RunsOf) (r : Replica) (new : Option (List (ℕ × ℕ))) → ChangesAt m n r new → (q : Replica) (b : Bool) → same_replica q r ≡ b → get replica_cmp n q ≡ cond b new (get replica_cmp m q)
now_at m n r new step q b e = step q ∙ ap (λ b. cond b new (get replica_cmp m q)) (flipped r q ∙ e)

was_at : (m : RunsOf) (r q : Replica) → same_replica q r ≡ true → runs_at m q ≡ runs_at m r
was_at m r q e = ap (runs_at m) (same_as q r e)

pub some_at : (m n : RunsOf) (r : Replica) (new : Option (List (ℕ × ℕ))) → ChangesAt m n r new → ((q : Replica) → HasSome (get replica_cmp m q)) → HasSome new → (q : Replica) → HasSome (get replica_cmp n q)
some_at m n r new step some here q = go (same_replica q r) refl
  where
    go : (b : Bool) → same_replica q r ≡ b → HasSome (get replica_cmp n q)
    go true e = subst HasSome (sym (now_at m n r new step q true e)) here
    go false e = subst HasSome (sym (now_at m n r new step q false e)) (some q)

pub opens_at : (m n : RunsOf) (r : Replica) (old new : List (ℕ × ℕ)) (asked : ℕ → Bool) → ChangesAt m n r (Some new) → ((q : Replica) → AreApart 0 (runs_at m q)) → runs_at m r ≡ old → Opens old new asked
    → (q : Replica) → Opens (runs_at m q) (runs_at n q) (λ g. same_replica q r && asked g)
opens_at m n r old new asked step apart was opens q = go (same_replica q r) refl
  where
    go : (b : Bool) → same_replica q r ≡ b → Opens (runs_at m q) (runs_at n q) (λ g. b && asked g)
    go true e = subst (λ s. Opens (runs_at m q) s asked) (sym (ap listed (now_at m n r (Some new) step q true e))) (subst (λ s. Opens s new asked) (sym (was_at m r q e ∙ was)) opens)
    go false e = subst (λ s. Opens (runs_at m q) s (λ g. false)) (sym (ap listed (now_at m n r (Some new) step q false e))) (opens_none (runs_at m q) (λ g. false) (apart q))

fills_none : (rs : List (ℕ × ℕ)) → AreApart 0 rs → Fills rs rs (λ n. false) (λ g. false)
fills_none rs h = record { apart = h; counts = λ n. or_none (holds rs n); room = λ g there. there; hollow = λ g there. there; cleared = λ g e. absurd (cc) }
  where
    or_none : (b : Bool) → b ≡ (b || false)
    or_none true = refl
    or_none false = refl

pub fills_at : (m n : RunsOf) (r : Replica) (old new : List (ℕ × ℕ)) (more filled : ℕ → Bool) → ChangesAt m n r (Some new) → ((q : Replica) → AreApart 0 (runs_at m q)) → runs_at m r ≡ old → Fills old new more filled
    → (q : Replica) → Fills (runs_at m q) (runs_at n q) (λ n. same_replica q r && more n) (λ g. same_replica q r && filled g)
fills_at m n r old new more filled step apart was fills q = go (same_replica q r) refl
  where
    go : (b : Bool) → same_replica q r ≡ b → Fills (runs_at m q) (runs_at n q) (λ n. b && more n) (λ g. b && filled g)
    go true e = subst (λ s. Fills (runs_at m q) s more filled) (sym (ap listed (now_at m n r (Some new) step q true e))) (subst (λ s. Fills s new more filled) (sym (was_at m r q e ∙ was)) fills)
    go false e = subst (λ s. Fills (runs_at m q) s (λ n. false) (λ g. false)) (sym (ap listed (now_at m n r (Some new) step q false e))) (fills_none (runs_at m q) (apart q))

sweeps_none : (rs : List (ℕ × ℕ)) → AreApart 0 rs → Sweeps rs rs (λ g. false)
sweeps_none rs h = record { apart = h; same = λ n. refl; hollow = λ g there. there; cleared = λ g e. absurd (cc) }

pub sweeps_at : (m n : RunsOf) (r : Replica) (old new : List (ℕ × ℕ)) (swept : ℕ → Bool) → ChangesAt m n r (Some new) → ((q : Replica) → AreApart 0 (runs_at m q)) → runs_at m r ≡ old → Sweeps old new swept
    → (q : Replica) → Sweeps (runs_at m q) (runs_at n q) (λ g. same_replica q r && swept g)
sweeps_at m n r old new swept step apart was sweeps q = go (same_replica q r) refl
  where
    go : (b : Bool) → same_replica q r ≡ b → Sweeps (runs_at m q) (runs_at n q) (λ g. b && swept g)
    go true e = subst (λ s. Sweeps (runs_at m q) s swept) (sym (ap listed (now_at m n r (Some new) step q true e))) (subst (λ s. Sweeps s new swept) (sym (was_at m r q e ∙ was)) sweeps)
    go false e = subst (λ s. Sweeps (runs_at m q) s (λ g. false)) (sym (ap listed (now_at m n r (Some new) step q false e))) (sweeps_none (runs_at m q) (apart q))

-- a replica that isn't there
pub fills_nothing : (m n : RunsOf) (r : Replica) (runs : List (ℕ × ℕ)) → n ≡ m → None ≡ get replica_cmp m r → ((q : Replica) → AreApart 0 (runs_at m q))
    → ((q : Replica) (g : ℕ) → (same_replica q r && begins runs g) ≡ true → has_room (runs_at m q) g ≡ true)
    → (q : Replica) → Fills (runs_at m q) (runs_at n q) (λ n. same_replica q r && holds runs n) (λ g. same_replica q r && begins runs g)
fills_nothing m n r runs same none apart room q =
    let empty : runs ≡ [] = begins_first runs (λ g there. true≢false (sym (room r g (ap (λ b. b && begins runs g) (same_itself r) ∙ there)) ∙ ap (λ o. has_room (listed o) g) (sym none))) in
    subst (λ k. Fills (runs_at m q) (runs_at k q) (λ n. same_replica q r && holds runs n) (λ g. same_replica q r && begins runs g)) (sym same)
    (subst (λ s. Fills (runs_at m q) (runs_at m q) (λ n. same_replica q r && holds s n) (λ g. same_replica q r && begins s g)) (sym empty) (go (same_replica q r)))
  where
    go : (b : Bool) → Fills (runs_at m q) (runs_at m q) (λ n. b && false) (λ g. b && false)
    go true = fills_none (runs_at m q) (apart q)
    go false = fills_none (runs_at m q) (apart q)

pub sweeps_nothing : (m n : RunsOf) (r : Replica) (swept : ℕ → Bool) → n ≡ m → None ≡ get replica_cmp m r → ((q : Replica) → AreApart 0 (runs_at m q)) → (q : Replica) → Sweeps (runs_at m q) (runs_at n q) (λ g. same_replica q r && swept g)
sweeps_nothing m n r swept same none apart q = subst (λ k. Sweeps (runs_at m q) (runs_at k q) (λ g. same_replica q r && swept g)) (sym same) (go (same_replica q r) refl)
  where
    go : (b : Bool) → same_replica q r ≡ b → Sweeps (runs_at m q) (runs_at m q) (λ g. b && swept g)
    go true e = record { apart = apart q; same = λ n. refl; hollow = λ g there. there; cleared = λ g asked. ap (λ s. is_hollow s g) (was_at m r q e ∙ ap listed (sym none)) }
    go false e = sweeps_none (runs_at m q) (apart q)

pub room_here : (m n : RunsOf) (r : Replica) (new : List (ℕ × ℕ)) (asked : ℕ → Bool) → ChangesAt m n r (Some new) → ((g : ℕ) → asked g ≡ true → has_room new g ≡ true)
    → (q : Replica) (g : ℕ) → (same_replica q r && asked g) ≡ true → has_room (runs_at n q) g ≡ true
room_here m n r new asked step room q g there = go (same_replica q r) refl there
  where
    go : (b : Bool) → same_replica q r ≡ b → (b && asked g) ≡ true → has_room (runs_at n q) g ≡ true
    go true e there' = ap (λ o. has_room (listed o) g) (now_at m n r (Some new) step q true e) ∙ room g there'
    go false e there' = absurd (cc)

pub either_way : {A E P Q X : Type 0} (r : Result A E) → OnOk r P → OnErr r Q → (P → X) → (Q → X) → X
either_way (Ok x) p q f g = f p
either_way (Err e) p q f g = g q

pub opens_unchanged : (m n : RunsOf) (r : Replica) (asked : ℕ → Bool) → n.entries ≡ m.entries → ((q : Replica) → AreApart 0 (runs_at m q)) → (q : Replica) → Opens (runs_at m q) (runs_at n q) (λ g. same_replica q r && asked g)
opens_unchanged m n r asked same apart q =
    subst (λ es. Opens (runs_at m q) (listed (lookup (same_replica q) es)) (λ g. same_replica q r && asked g)) (sym same) (opens_none (runs_at m q) (λ g. same_replica q r && asked g) (apart q))

pub some_unchanged : (m n : RunsOf) → n.entries ≡ m.entries → ((q : Replica) → HasSome (get replica_cmp m q)) → (q : Replica) → HasSome (get replica_cmp n q)
some_unchanged m n same some q = subst (λ es. HasSome (lookup (same_replica q) es)) (sym same) (some q)

pub some_left : (m n : RunsOf) (r : Replica) (new : List (ℕ × ℕ)) (gone : Bool) → ChangesAt m n r (Some new) → ((q : Replica) → HasSome (get replica_cmp m q)) → MatchBool gone (new ≡ []) (0 < length new)
    → (q : Replica) → (gone && same_replica r q) ≡ false → HasSome (get replica_cmp n q)
some_left m n r new gone step some cases q left = go (same_replica r q) refl gone cases left
  where
    go : (b : Bool) → same_replica r q ≡ b → (gone : Bool) → MatchBool gone (new ≡ []) (0 < length new) → (gone && same_replica r q) ≡ false → HasSome (get replica_cmp n q)
    go true e true cases left = absurd (true≢false (sym e ∙ left))
    go true e false cases left = subst HasSome (sym (step q ∙ ap (λ b. cond b (Some new) (get replica_cmp m q)) e)) cases
    go false e gone cases left = subst HasSome (sym (step q ∙ ap (λ b. cond b (Some new) (get replica_cmp m q)) e)) (some q)

pub some_of : (m : RunsOf) (r : Replica) (old new : List (ℕ × ℕ)) → get replica_cmp m r ≡ Some old → ((q : Replica) → HasSome (get replica_cmp m q)) → AreApart 0 old → ((g : ℕ) → has_room old g ≡ true → has_room new g ≡ true) → 0 < length new
some_of m r old new was some apart room = room_kept old new apart room (subst HasSome was (some r))

-- a replica with no run left is taken out
pub nothing_lost : (m n : RunsOf) (r : Replica) → ChangesAt m n r None → ((q : Replica) → same_replica r q ≡ true → runs_at m q ≡ []) → (q : Replica) → runs_at n q ≡ runs_at m q
nothing_lost m n r step none q = go (same_replica r q) refl
  where
    go : (b : Bool) → same_replica r q ≡ b → runs_at n q ≡ runs_at m q
    go true e = ap listed (step q ∙ ap (λ b. cond b None (get replica_cmp m q)) e) ∙ sym (none q e)
    go false e = ap listed (step q ∙ ap (λ b. cond b None (get replica_cmp m q)) e)

pub some_out : (m n : RunsOf) (r : Replica) → ChangesAt m n r None → ((q : Replica) → same_replica r q ≡ false → HasSome (get replica_cmp m q)) → (q : Replica) → HasSome (get replica_cmp n q)
some_out m n r step some q = go (same_replica r q) refl
  where
    go : (b : Bool) → same_replica r q ≡ b → HasSome (get replica_cmp n q)
    go true e = subst HasSome (sym (step q ∙ ap (λ b. cond b None (get replica_cmp m q)) e)) tt
    go false e = subst HasSome (sym (step q ∙ ap (λ b. cond b None (get replica_cmp m q)) e)) (some q e)

-- the entries of the others
pub any-appended : (p : ℕ × ℕ → Bool) (b : Bool) (rs ss : List (ℕ × ℕ)) → list_any p (cond b rs [] ++ ss) ≡ ((b && list_any p rs) || list_any p ss)
any-appended p true [] ss = refl
any-appended p true (r ∷ rs) ss = ap (λ b. p r || b) (any-appended p true rs ss) ∙ groups (p r) (list_any p rs) (list_any p ss)
  where
    groups : (a b c : Bool) → (a || (b || c)) ≡ ((a || b) || c)
    groups true b c = refl
    groups false b c = refl
any-appended p false rs ss = refl

pub begins_parts : (e : Replica × List (ℕ × ℕ)) (es : List (Replica × List (ℕ × ℕ))) (q : Replica) (g : ℕ) → begins (runs_in (e ∷ es) q) g ≡ ((same_replica q e.0 && begins e.1 g) || begins (runs_in es q) g)
begins_parts e es q g = any-appended (λ r. eqb r.0 g) (same_replica q e.0) e.1 (runs_in es q)

pub holds_parts : (e : Replica × List (ℕ × ℕ)) (es : List (Replica × List (ℕ × ℕ))) (q : Replica) (n : ℕ) → holds (runs_in (e ∷ es) q) n ≡ ((same_replica q e.0 && holds e.1 n) || holds (runs_in es q) n)
holds_parts e es q n = any-appended (λ r. in_run r n) (same_replica q e.0) e.1 (runs_in es q)

long_rest : (rs ss : List (ℕ × ℕ)) → AreLong (rs ++ ss) → AreLong ss
long_rest [] ss h = h
long_rest (r ∷ rs) ss h = long_rest rs ss h.1

long_first : (rs ss : List (ℕ × ℕ)) → AreLong (rs ++ ss) → AreLong rs
long_first [] ss h = tt
long_first (r ∷ rs) ss h = (h.0, long_first rs ss h.1)

long_both : (rs ss : List (ℕ × ℕ)) → AreLong rs → AreLong ss → AreLong (rs ++ ss)
long_both [] ss h h' = h'
long_both (r ∷ rs) ss h h' = (h.0, long_both rs ss h.1 h')

pub long_entries : (e : Replica × List (ℕ × ℕ)) (es : List (Replica × List (ℕ × ℕ))) (q : Replica) → AreLong (runs_in (e ∷ es) q) → AreLong (runs_in es q)
long_entries e es q h = long_rest (cond (same_replica q e.0) e.1 []) (runs_in es q) h

pub long_entry : (e : Replica × List (ℕ × ℕ)) (es : List (Replica × List (ℕ × ℕ))) → AreLong (runs_in (e ∷ es) e.0) → AreLong e.1
long_entry e es h = subst (λ b. AreLong (cond b e.1 [])) (same_itself e.0) (long_first (cond (same_replica e.0 e.0) e.1 []) (runs_in es e.0) h)

pub long_in : (o : RunsOf) (es : List (Replica × List (ℕ × ℕ))) (q : Replica) → All (λ e. get replica_cmp o e.0 ≡ Some e.1) es → ((r : Replica) → AreRuns 0 (runs_at o r)) → AreLong (runs_in es q)
long_in o [] q all h = tt
long_in o (e ∷ es) q all h =
    let there : get replica_cmp o e.0 ≡ Some e.1 = All-head (λ (e : Replica × List (ℕ × ℕ)). get replica_cmp o e.0 ≡ Some e.1) e es all in
    long_both (cond (same_replica q e.0) e.1 []) (runs_in es q)
    (chosen (same_replica q e.0) e.1 (all_proper 0 e.1 (subst (λ o. AreRuns 0 (listed o)) there (h e.0))))
    (long_in o es q (All-tail (λ (e : Replica × List (ℕ × ℕ)). get replica_cmp o e.0 ≡ Some e.1) e es all) h)
  where
    chosen : (b : Bool) (rs : List (ℕ × ℕ)) → AreLong rs → AreLong (cond b rs [])
    chosen true rs h = h
    chosen false rs h = tt

-- each entry is what a look-up finds, so that the runs of a replica's entries are those of the replica
same_tests : (a b : Bool) → (a ≡ true → b ≡ true) → (b ≡ true → a ≡ true) → a ≡ b
same_tests true b f g = sym (f refl)
same_tests false true f g = g refl
same_tests false false f g = refl

looked_up : (es : List (Replica × List (ℕ × ℕ))) (q : Replica) (n : ℕ) → holds (listed (lookup (same_replica q) es)) n ≡ true → holds (runs_in es q) n ≡ true
looked_up [] q n h = h
looked_up (e ∷ es) q n h = holds_parts e es q n ∙ first_found (same_replica q e.0) e.1 (lookup (same_replica q) es) (holds (runs_in es q) n) (looked_up es q n) h
  where
    first_found : (same : Bool) (rs : List (ℕ × ℕ)) (o : Option (List (ℕ × ℕ))) (rest : Bool) → (holds (listed o) n ≡ true → rest ≡ true) → holds (listed (cond same (Some rs) o)) n ≡ true → ((same && holds rs n) || rest) ≡ true
    first_found true rs o rest f h = left_true (holds rs n) rest h
    first_found false rs o rest f h = f h

here_or_rest : (same b rest : Bool) {P : Type 0} → ((same && b) || rest) ≡ true → (same ≡ true → b ≡ true → P) → (rest ≡ true → P) → P
here_or_rest true true rest h f g = f refl refl
here_or_rest true false rest h f g = g h
here_or_rest false b rest h f g = g h

any_found : (m : RunsOf) (es : List (Replica × List (ℕ × ℕ))) (q : Replica) (n : ℕ) → All (λ e. get replica_cmp m e.0 ≡ Some e.1) es → holds (runs_in es q) n ≡ true → holds (runs_at m q) n ≡ true
any_found m [] q n all h = absurd (cc)
any_found m (e ∷ es) q n all h =
    here_or_rest (same_replica q e.0) (holds e.1 n) (holds (runs_in es q) n) (sym (holds_parts e es q n) ∙ h)
    (λ same there.
    ap (λ (x : Replica). holds (runs_at m x) n) (same_as q e.0 same)
    ∙ ap (λ o. holds (listed o) n) (All-head (λ (e : Replica × List (ℕ × ℕ)). get replica_cmp m e.0 ≡ Some e.1) e es all) ∙ there)
    (any_found m es q n (All-tail (λ (e : Replica × List (ℕ × ℕ)). get replica_cmp m e.0 ≡ Some e.1) e es all))

pub in_entries : (m : RunsOf) (q : Replica) (n : ℕ) → All (λ e. get replica_cmp m e.0 ≡ Some e.1) m.entries → holds (runs_in m.entries q) n ≡ holds (runs_at m q) n
in_entries m q n all = same_tests (holds (runs_in m.entries q) n) (holds (runs_at m q) n) (any_found m m.entries q n all) (looked_up m.entries q n)

-- the runs are compact again
pub compact_filled : (m n : RunsOf) (more filled : Replica → ℕ → Bool) → IsCompact m → ((q : Replica) → HasSome (get replica_cmp n q)) → ((q : Replica) → Fills (runs_at m q) (runs_at n q) (more q) (filled q)) → IsCompact n
compact_filled m n more filled compact some fills = record { runs = λ q. strict 0 (runs_at n q) (fills q).apart (λ g there. none_hollow 0 (runs_at m q) (compact.runs q) g ((fills q).hollow g there)); some = some }

pub room_made : (m n others : RunsOf) → IsCompact m → IsCompact others → ((q : Replica) → HasSome (get replica_cmp n q))
    → ((q : Replica) → Opens (runs_at m q) (runs_at n q) (begins (runs_in others.entries q)))
    → ((q : Replica) (g : ℕ) → begins (runs_in others.entries q) g ≡ true → has_room (runs_at n q) g ≡ true) → HasRoomFor n others
room_made m n others compact more some opens room = record {
  compact = more;
  apart = λ q. (opens q).apart;
  some = some;
  room = room;
  hollow = λ q g there. either (is_hollow (runs_at m q) g) (begins (runs_in others.entries q) g) ((opens q).hollow g there) (λ e. absurd (none_hollow 0 (runs_at m q) (compact.runs q) g e)) (λ e. e);
}

pub room_filled : (m n others : RunsOf) (more : Replica → ℕ → Bool) → HasRoomFor m others → ((q : Replica) → HasSome (get replica_cmp n q))
    → ((q : Replica) → Fills (runs_at m q) (runs_at n q) (more q) (begins (runs_in others.entries q))) → IsCompact n
room_filled m n others more room some fills = record {
  runs = λ q. strict 0 (runs_at n q) (fills q).apart (λ g there. true≢false (sym there ∙ (fills q).cleared g (room.hollow q g ((fills q).hollow g there))));
  some = some;
}

pub room_closed : (m n others : RunsOf) → HasRoomFor m others → ((q : Replica) → HasSome (get replica_cmp n q))
    → ((q : Replica) → Sweeps (runs_at m q) (runs_at n q) (begins (runs_in others.entries q))) → IsCompact n
room_closed m n others room some sweeps = record {
  runs = λ q. strict 0 (runs_at n q) (sweeps q).apart (λ g there. true≢false (sym there ∙ (sweeps q).cleared g (room.hollow q g ((sweeps q).hollow g there))));
  some = some;
}

pub compact_swept : (m mid n : RunsOf) (asked : Replica → ℕ → Bool) → IsCompact m → ((q : Replica) → HasSome (get replica_cmp n q)) → ((q : Replica) → Opens (runs_at m q) (runs_at mid q) (asked q))
    → ((q : Replica) → Sweeps (runs_at mid q) (runs_at n q) (asked q)) → IsCompact n
compact_swept m mid n asked compact some opens sweeps = record {
  runs = λ q. strict 0 (runs_at n q) (sweeps q).apart (λ g there.
      either (is_hollow (runs_at m q) g) (asked q g) ((opens q).hollow g ((sweeps q).hollow g there)) (none_hollow 0 (runs_at m q) (compact.runs q) g) (λ e. true≢false (sym there ∙ (sweeps q).cleared g e)));
  some = some;
}

pub compact_same : (m n : RunsOf) → IsCompact m → ((q : Replica) → runs_at n q ≡ runs_at m q) → ((q : Replica) → HasSome (get replica_cmp n q)) → IsCompact n
compact_same m n compact same some = record { runs = λ q. subst (AreRuns 0) (sym (same q)) (compact.runs q); some = some }

pub kept_at : (m n : RunsOf) (r : Replica) (old new : List (ℕ × ℕ)) → ChangesAt m n r (Some new) → runs_at m r ≡ old → new ≡ old → (q : Replica) → runs_at n q ≡ runs_at m q
kept_at m n r old new step was same q = go (same_replica q r) refl
  where
    go : (b : Bool) → same_replica q r ≡ b → runs_at n q ≡ runs_at m q
    go true e = ap listed (now_at m n r (Some new) step q true e) ∙ same ∙ sym (was_at m r q e ∙ was)
    go false e = ap listed (now_at m n r (Some new) step q false e)

pub same_entries : (m n : RunsOf) → n.entries ≡ m.entries → (q : Replica) → runs_at n q ≡ runs_at m q
same_entries m n same q = ap (λ es. listed (lookup (same_replica q) es)) same

pub some_opened : (runs new : List (ℕ × ℕ)) → 0 < length runs → ((g : ℕ) → begins runs g ≡ true → has_room new g ≡ true) → 0 < length new
some_opened [] new some room = absurd (omega arith)
some_opened (r ∷ rs) new some room = some_room new r.0 (room r.0 (left_true (eqb r.0 r.0) (begins rs r.0) (key_itself r.0)))
