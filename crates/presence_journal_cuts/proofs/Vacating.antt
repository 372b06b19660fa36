-- Runs without the counts of the live rows of a replica.
use Rattle.std.proofs.Common.{◌≡◌, ℕ, suc, ◌<◌, ◌≤◌, Bool, true, false, cond, ◌&&◌, ◌||◌, nat_lt, nat_le, List, [], ◌∷◌, ◌++◌, Option, None, is_none, refl, sym, ◌∙◌, ap, subst, arith, ltb-true, leb-true, le-leb, zero, length, get_or, drop, drop_of_length-le}
use Rattle.std.specs.FinMap as map
use Rattle.std.specs.List.{AllByRecursion, filter, list_all}
use Rattle.std.specs.List.Sorted.{IsStrictlySortedBy}
use Rattle.std.specs.Map.{lookup, keys_of}
use Rattle.std.proofs.lemmas.Bool.{and_parts}
use Rattle.std.proofs.lemmas.List.Kept.{IsStrictlySortedBy-filter}
use Rattle.std.proofs.lemmas.Map.Entries.{lookup-filter-keys}
use Rattle.presence_base.specs.declared.dots.Replica.{Replica}
use Rattle.presence_base.specs.declared.dots.Dot.{Dot}
use Rattle.presence_base.specs.declared.row.Row.{Row}
use Rattle.presence_base.specs.Order.{dot_cmp, same_dot, same_replica}
use Rattle.dot_context.specs.Runs.{AreRuns, AreLong, holds, in_run}
use Rattle.orswot_core.specs.Telling.{range_has}
use Rattle.orswot_core.specs.Full.{dot_of}
use Rattle.orswot_core.specs.Sets.{DotRows, LiveRows, rows_within}
use Rattle.orswot_core.proofs.FullFacts.{live_sorted}
use Rattle.orswot_core.proofs.RowFacts.{find_is}
use Rattle.orswot_core.proofs.RunFacts.{any_either_list}
use Rattle.presence_journal.specs.History.{History, own, is_gone, live}
use Rattle.presence_journal.proofs.HistoryLemmas.{status-own}
use Rattle.presence_journal.proofs.Same.{same_replica-true, same_replica-refl, same_dot-true}
use Rattle.presence_journal_known.specs.LeftOut.{HoldsCovered}
use Rattle.presence_journal_cuts.specs.Parting.{vacant, row_in, HasOwnRows, AreVacant}
use Rattle.presence_journal_cuts.specs.ToldParts.{row_of_count}
use Rattle.presence_journal_cuts.proofs.CutShort.{keys_kept}
use Rattle.presence_journal_cuts.proofs.PartRows.{Ascend, ascending, holds_vacant, runs_from, runs_vacant, all_append, ends_vacant}

-- the counts of runs that no row has, where f gives the rows in a run
abbrev pub vacant_in : (ℕ × ℕ → List (Dot × Row)) → List (ℕ × ℕ) → List (ℕ × ℕ)
vacant_in f [] = []
vacant_in f (r ∷ rs) = vacant r.1 r.0 (f r) ++ vacant_in f rs

-- the rows of a replica in a run
abbrev pub rows_in_run : LiveRows → Replica → ℕ × ℕ → List (Dot × Row)
rows_in_run live r g = rows_within live (r, g.0, g.1)

-- ---- the rows in a run

module _ (live : LiveRows) (r : Replica) (g : ℕ × ℕ) where
  abbrev is_in : Dot → Bool
  is_in d = range_has d (r, g.0, g.1)

  abbrev Parts : Dot → Type 0
  Parts d = (d.replica ≡ r) × (g.0 < d.count)

  parts : (d : Dot) → is_in d ≡ true → Parts d
  parts d e =
      let p = and_parts (same_replica d.replica r) (nat_lt g.0 d.count && nat_le d.count g.1) e in
      (same_replica-true d.replica r p.0, ltb-true g.0 d.count (and_parts (nat_lt g.0 d.count) (nat_le d.count g.1) p.1).0)

  each : (P : Dot × Row → Type 0) → ((x : Dot × Row) → Parts x.0 → P x) → (es : List (Dot × Row)) → AllByRecursion P (filter (λ x. is_in x.0) es)
  each P f [] = tt
  each P f (x ∷ xs) = go (is_in x.0) refl (each P f xs)
    where
      go : (b : Bool) → is_in x.0 ≡ b → AllByRecursion P (filter (λ y. is_in y.0) xs) → AllByRecursion P (cond b (x ∷ filter (λ y. is_in y.0) xs) (filter (λ y. is_in y.0) xs))
      go true e rest = (f x (parts x.0 e), rest)
      go false e rest = rest

  sorted : IsStrictlySortedBy dot_cmp (keys_of (rows_in_run live r g))
  sorted = subst (IsStrictlySortedBy dot_cmp) (keys_kept is_in (map.entries live)) (IsStrictlySortedBy-filter dot_cmp is_in (keys_of (map.entries live)) (live_sorted live))

  ascend : Ascend r g.0 (rows_in_run live r g)
  ascend =
      ascending r g.0 (rows_in_run live r g)
      (each (λ x. x.0.replica ≡ r) (λ x p. p.0) (map.entries live))
      (each (λ x. g.0 < x.0.count) (λ x p. p.1) (map.entries live)) sorted

  found : (n : ℕ) → lookup (same_dot (dot_of r n)) (rows_in_run live r g) ≡ cond (in_run g n) (map.get live (dot_of r n)) None
  found n =
      lookup-filter-keys (same_dot (dot_of r n)) is_in (is_in (dot_of r n)) (λ k same. ap is_in (sym (same_dot-true (dot_of r n) k same))) (map.entries live)
      ∙ (λ i. cond (same_replica-refl r i && in_run g n) ((sym (find_is (map.entries live) (dot_of r n)) ∙ sym (map.get-entries live (dot_of r n))) i) None)

  -- a count of the run that no row has
  free : (a b : Bool) (o : Option Row) → (a && (b && is_none (cond (a && b) o None))) ≡ ((a && b) && is_none o)
  free true true o = refl
  free true false o = refl
  free false b o = refl

  held : (n : ℕ) → holds (vacant g.1 g.0 (rows_in_run live r g)) n ≡ (in_run g n && is_none (map.get live (dot_of r n)))
  held n =
      holds_vacant r g.1 g.0 (rows_in_run live r g) ascend n
      ∙ (ap (λ o. nat_lt g.0 n && (nat_le n g.1 && is_none o)) (found n)
      ∙ free (nat_lt g.0 n) (nat_le n g.1) (map.get live (dot_of r n)))

-- ---- all runs

either : (a b c : Bool) → ((a && c) || (b && c)) ≡ ((a || b) && c)
either true true true = refl
either true true false = refl
either true false true = refl
either true false false = refl
either false b c = refl

pub holds_free : (live : LiveRows) (r : Replica) (rs : List (ℕ × ℕ)) (n : ℕ) → holds (vacant_in (rows_in_run live r) rs) n ≡ (holds rs n && is_none (map.get live (dot_of r n)))
holds_free live r [] n = refl
holds_free live r (g ∷ rs) n =
    any_either_list (λ q. in_run q n) (vacant g.1 g.0 (rows_in_run live r g)) (vacant_in (rows_in_run live r) rs)
    ∙ ((λ i. held live r g n i || holds_free live r rs n i)
    ∙ either (in_run g n) (holds rs n) (is_none (map.get live (dot_of r n))))

-- runs up to a count, and those behind it
runs_append : (a b : ℕ) (xs ys : List (ℕ × ℕ)) → a ≤ suc b → AreRuns a xs → list_all (λ (q : ℕ × ℕ). nat_le q.1 b) xs ≡ true → AreRuns (suc b) ys → AreRuns a (xs ++ ys)
runs_append a b [] ys le h low k = runs_from a (suc b) ys le k
runs_append a b (x ∷ xs) ys le h low k =
    let p = and_parts (nat_le x.1 b) (list_all (λ (q : ℕ × ℕ). nat_le q.1 b) xs) low in
    (h.0, h.1, runs_append (suc x.1) b xs ys (above x.1 b p.0) h.2 p.1 k)
  where
    above : (m n : ℕ) → nat_le m n ≡ true → suc m ≤ suc n
    above m n e = omega (arith, leb-true m n e)

pub runs_free : (live : LiveRows) (r : Replica) (a : ℕ) (rs : List (ℕ × ℕ)) → AreRuns a rs → AreRuns a (vacant_in (rows_in_run live r) rs)
runs_free live r a [] h = tt
runs_free live r a (g ∷ rs) h =
    runs_append a g.1 (vacant g.1 g.0 (rows_in_run live r g)) (vacant_in (rows_in_run live r) rs) (omega (arith, h.0, h.1))
    (runs_from a g.0 (vacant g.1 g.0 (rows_in_run live r g)) h.0 (runs_vacant r g.1 g.0 (rows_in_run live r g) (ascend live r g)))
    (ends_vacant g.1 g.0 (rows_in_run live r g)) (runs_free live r (suc g.1) rs h.2)

ends_lower : (m n : ℕ) (xs : List (ℕ × ℕ)) → nat_le m n ≡ true → list_all (λ (q : ℕ × ℕ). nat_le q.1 m) xs ≡ true → list_all (λ (q : ℕ × ℕ). nat_le q.1 n) xs ≡ true
ends_lower m n [] le h = refl
ends_lower m n (x ∷ xs) le h =
    let p = and_parts (nat_le x.1 m) (list_all (λ (q : ℕ × ℕ). nat_le q.1 m) xs) h in
    ap (λ b. b && list_all (λ (q : ℕ × ℕ). nat_le q.1 n) xs) (trans x.1 m n p.0 le) ∙ ends_lower m n xs le p.1
  where
    trans : (a b c : ℕ) → nat_le a b ≡ true → nat_le b c ≡ true → nat_le a c ≡ true
    trans a b c p q = le-leb a c (omega (arith, leb-true a b p, leb-true b c q))

pub ends_free : (live : LiveRows) (r : Replica) (end : ℕ) (rs : List (ℕ × ℕ)) → list_all (λ (q : ℕ × ℕ). nat_le q.1 end) rs ≡ true → list_all (λ (q : ℕ × ℕ). nat_le q.1 end) (vacant_in (rows_in_run live r) rs) ≡ true
ends_free live r end [] h = refl
ends_free live r end (g ∷ rs) h =
    let p = and_parts (nat_le g.1 end) (list_all (λ (q : ℕ × ℕ). nat_le q.1 end) rs) h in
    all_append (λ (q : ℕ × ℕ). nat_le q.1 end) (vacant g.1 g.0 (rows_in_run live r g)) (vacant_in (rows_in_run live r) rs)
    (ends_lower g.1 end (vacant g.1 g.0 (rows_in_run live r g)) p.0 (ends_vacant g.1 g.0 (rows_in_run live r g))) (ends_free live r end rs p.1)

-- ---- run by run

append_none : (xs : List (ℕ × ℕ)) → xs ++ [] ≡ xs
append_none [] = refl
append_none (x ∷ xs) = ap (λ (ys : List (ℕ × ℕ)). x ∷ ys) (append_none xs)

append_on : (xs ys zs : List (ℕ × ℕ)) → (xs ++ ys) ++ zs ≡ xs ++ (ys ++ zs)
append_on [] ys zs = refl
append_on (x ∷ xs) ys zs = ap (λ (l : List (ℕ × ℕ)). x ∷ l) (append_on xs ys zs)

pub long_at : (rs : List (ℕ × ℕ)) (i : ℕ) (x : ℕ × ℕ) → i < length rs → AreLong rs → (get_or rs i x).0 < (get_or rs i x).1
long_at [] i x lt l = absurd (omega (arith, lt))
long_at (y ∷ rs) zero x lt l = l.0
long_at (y ∷ rs) (suc i) x lt l = long_at rs i x (omega (arith, lt)) l.1

pub got : (rs : List (ℕ × ℕ)) (i : ℕ) (x y : ℕ × ℕ) → i < length rs → get_or rs i x ≡ get_or rs i y
got [] i x y lt = absurd (omega (arith, lt))
got (z ∷ rs) zero x y lt = refl
got (z ∷ rs) (suc i) x y lt = got rs i x y (omega (arith, lt))

pub free_more : (live : LiveRows) (r : Replica) (old new rest all whole : List (ℕ × ℕ)) (x : ℕ × ℕ) → new ≡ old ++ vacant x.1 x.0 (rows_in_run live r x) → all ≡ x ∷ rest → old ++ vacant_in (rows_in_run live r) all ≡ whole → new ++ vacant_in (rows_in_run live r) rest ≡ whole
free_more live r old new rest all whole x is next so_far =
    ap (λ (l : List (ℕ × ℕ)). l ++ vacant_in (rows_in_run live r) rest) is
    ∙ (append_on old (vacant x.1 x.0 (rows_in_run live r x)) (vacant_in (rows_in_run live r) rest)
    ∙ (ap (λ (l : List (ℕ × ℕ)). old ++ vacant_in (rows_in_run live r) l) (sym next)
    ∙ so_far))

pub free_all : (live : LiveRows) (r : Replica) (found rs : List (ℕ × ℕ)) (i : ℕ) → length rs ≤ i → found ++ vacant_in (rows_in_run live r) (drop i rs) ≡ vacant_in (rows_in_run live r) rs → found ≡ vacant_in (rows_in_run live r) rs
free_all live r found rs i end so_far =
    sym (append_none found)
    ∙ (ap (λ (l : List (ℕ × ℕ)). found ++ vacant_in (rows_in_run live r) l) (sym (drop_of_length-le rs end))
    ∙ so_far)

pub are_vacant : (s : DotRows) (r : Replica) (rs free : List (ℕ × ℕ)) → free ≡ vacant_in (rows_in_run s.live r) rs → AreVacant (row_in s r) rs free
are_vacant s r rs free is = record {
  counts = λ n. ap (λ (xs : List (ℕ × ℕ)). holds xs n) is ∙ holds_free s.live r rs n;
  runs = λ h. subst (AreRuns 0) (sym is) (runs_free s.live r 0 rs h);
  below = λ end h. ap (list_all (λ (q : ℕ × ℕ). nat_le q.1 end)) is ∙ ends_free s.live r end rs h;
}

-- the own replica is never gone
pub own_rows : (h : History) (s : DotRows) → HoldsCovered h s → HasOwnRows h s
own_rows h s covered n = covered.live (dot_of (own h) n) ∙ ap (λ b. cond b None (live h (dot_of (own h) n))) (ap is_gone (status-own h))

pub vacant_own : (h : History) (s : DotRows) (r : Replica) (rs free : List (ℕ × ℕ)) → r ≡ own h → HoldsCovered h s → AreVacant (row_in s r) rs free → AreVacant (row_of_count h) rs free
vacant_own h s r rs free is covered v = record {
  counts = λ n. v.counts n ∙ ap (λ o. holds rs n && is_none o) (ap (λ q. row_in s q n) is ∙ own_rows h s covered n);
  runs = v.runs;
  below = v.below;
}
