-- What is known at a Start.
use Rattle.std.proofs.Common.{◌≡◌, ℕ, Bool, true, false, cond, not, ◌&&◌, ◌||◌, List, [], ◌∷◌, ◌++◌, Option, Some, None, Result, Ok, Err, IfOk, MatchResult, refl, sym, ◌∙◌, ap, append_assoc}
use Rattle.std.specs.FinSet as set
use Rattle.std.specs.FinMap as map
use Rattle.std.specs.Cmp.{eq_by_cmp_equiv}
use Rattle.std.specs.Option.{unwrap_or}
use Rattle.std.specs.Map.{lookup}
use Rattle.presence_base.specs.declared.dots.Replica.{Replica}
use Rattle.presence_base.specs.declared.dots.Dot.{Dot}
use Rattle.presence_base.specs.declared.row.Row.{Row}
use Rattle.presence_base.specs.Order.{same_replica}
use Rattle.dot_context.proofs.SetFacts.{contains-without}
use Rattle.orswot_core.specs.Sets.{DotRows, without_replica}
use Rattle.replica_status.specs.declared.standing.Standing.{Standing}
use Rattle.replica_status.specs.declared.standing.Standing.TheVariants.{Unheard, Gone}
use Rattle.replica_status.specs.declared.status.Status.TheVariants as status_is
use Rattle.replica_status.specs.Boards.{standing_in}
use Rattle.replica_status.specs.Table.{status_of}
use Rattle.presence_journal.specs.declared.entry.Start.{Start}
use Rattle.presence_journal.specs.History.{History, Begin, own, count, time, standing, status, is_gone}
use Rattle.presence_journal.proofs.Same.{replica_total}
use Rattle.presence_journal_lists.specs.Standings.{StandingMap, gone_life, first_list, gone_lives, gone_list, all_of, standing_at, Puts}
use Rattle.presence_journal_lists.specs.declared.gone.GoneReplicas.{GoneReplicas}
use Rattle.presence_journal_known.specs.LeftOut.{HoldsCovered, is_listed}
use Rattle.presence_journal_known.specs.Walked.{Holds}
use Rattle.tracker_known.specs.declared.others.Others.{Others}
use Rattle.tracker_known.specs.Standings.{AreOthersOf}
use Rattle.tracker_known.specs.declared.known.Known.{Known}
use Rattle.tracker_known.specs.Known.{IsKnownOf}
use Rattle.tracker_known.specs.Starts.{is_gone_by}
use Rattle.tracker_known.specs.Steps.{LosesReplicas}
use Rattle.tracker_known.proofs.FadingLemmas.{StillLoses, status-here, get_without}

-- the others

own-begin : (s : Start) → own (Begin s) ≡ s.own
unfolding own
own-begin s = refl

time-begin : (s : Start) → time (Begin s) ≡ s.time
unfolding time
time-begin s = refl

count-begin : (s : Start) → count (Begin s) ≡ s.count
unfolding count
count-begin s = refl

standing-begin : (s : Start) (r : Replica) → standing (Begin s) r ≡ standing_in s.standings r
unfolding standing
standing-begin s r = refl

pub others_begin : (s : Start) (o : Others) → o.own ≡ s.own → o.time ≡ s.time → Puts s.standings o.standings s.own Unheard → AreOthersOf (Begin s) o
others_begin s o mine at kept = record {
  none_own = λ r f. kept r ∙ ap (λ b. cond b Unheard (standing_in s.standings r)) (flip r ∙ (ap (same_replica r) (sym (own-begin s)) ∙ f));
  standing = λ r f. kept r ∙ (ap (λ b. cond b Unheard (standing_in s.standings r)) (flip r ∙ (ap (same_replica r) (sym (own-begin s)) ∙ f)) ∙ sym (standing-begin s r));
  time = at ∙ sym (time-begin s);
  own = mine ∙ sym (own-begin s);
}
  where
    flip : (r : Replica) → same_replica s.own r ≡ same_replica r s.own
    flip r = (eq_by_cmp_equiv replica_total).symm s.own r

-- the set

gone_now : (h : History) (o : Others) (r : Replica) → AreOthersOf h o → is_gone (status h r) ≡ is_gone (status_of (standing_in o.standings r))
gone_now h o r a = ap is_gone (sym (status-here h r)) ∙ go (same_replica r (own h)) refl
  where
    go : (b : Bool) → same_replica r (own h) ≡ b → is_gone (cond b status_is.Up (status_of (standing h r))) ≡ is_gone (status_of (standing_in o.standings r))
    go true f = ap (λ x. is_gone (status_of x)) (sym (a.none_own r f))
    go false f = ap (λ x. is_gone (status_of x)) (sym (a.standing r f))

pub covered_begin : (h : History) (o : Others) (s u : DotRows) → AreOthersOf h o → Holds h s → LosesReplicas s (λ r. is_gone (status_of (standing_in o.standings r))) u → HoldsCovered h u
covered_begin h o s u a holds loses = record {
  covered = λ d. (loses d).0 ∙ (λ i. holds.known d i && not (sym (gone_now h o d.replica a) i));
  live = λ d. (loses d).1 ∙ (λ i. cond (sym (gone_now h o d.replica a) i) None (holds.live d i));
}

-- losing some after others

both_lost : (c a b : Bool) → ((c && not a) && not b) ≡ (c && not (a || b))
both_lost false a b = refl
both_lost true true b = refl
both_lost true false b = refl

either_lost : (a b : Bool) (o : Option Row) → cond b None (cond a None o) ≡ cond (a || b) None o
either_lost true true o = refl
either_lost true false o = refl
either_lost false b o = refl

pub loses_both : (s u v : DotRows) (a b test : Replica → Bool) → LosesReplicas s a u → LosesReplicas u b v → ((r : Replica) → (a r || b r) ≡ test r) → LosesReplicas s test v
loses_both s u v a b test first second same d = (
  (second d).0
      ∙ (ap (λ c. c && not (b d.replica)) (first d).0
      ∙ (both_lost (set.contains s.covered d) (a d.replica) (b d.replica)
      ∙ ap (λ c. set.contains s.covered d && not c) (same d.replica))),
  (second d).1
      ∙ (ap (λ o. cond (b d.replica) None o) (first d).1
      ∙ (either_lost (a d.replica) (b d.replica) (map.get s.live d)
      ∙ ap (λ c. cond c None (map.get s.live d)) (same d.replica))),
)

pub still_some : (s u v : DotRows) (test rest one later : Replica → Bool) → ((r : Replica) → rest r ≡ (one r || later r)) → LosesReplicas u one v → StillLoses s test rest u → StillLoses s test later v
still_some s u v test rest one later same loses left = record {
  covered = λ d.
      ap (λ c. c && not (later d.replica)) (loses d).0
      ∙ (both_lost (set.contains u.covered d) (one d.replica) (later d.replica)
      ∙ (ap (λ c. set.contains u.covered d && not c) (sym (same d.replica)) ∙ left.covered d));
  live = λ d.
      ap (λ o. cond (later d.replica) None o) (loses d).1
      ∙ (either_lost (one d.replica) (later d.replica) (map.get u.live d)
      ∙ (ap (λ c. cond c None (map.get u.live d)) (sym (same d.replica)) ∙ left.live d));
}

pub loses_one : (s : DotRows) (r : Replica) → LosesReplicas s (λ q. same_replica q r) (without_replica s r)
loses_one s r d = (contains-without s.covered r d, get_without s r d)

-- those that are listed are gone

any_both : (r : Replica) (xs ys : List (Replica × Standing)) → is_listed (xs ++ ys) r ≡ (is_listed xs r || is_listed ys r)
any_both r [] ys = refl
any_both r (x ∷ xs) ys = ap (λ b. same_replica r x.0 || b) (any_both r xs ys) ∙ go (same_replica r x.0) (is_listed xs r) (is_listed ys r)
  where
    go : (a b c : Bool) → (a || (b || c)) ≡ ((a || b) || c)
    go true b c = refl
    go false b c = refl

pub next_names : (all : List (List ℕ × List ℕ)) (name ns : List ℕ) (rest : List (List ℕ × List ℕ)) → all ≡ (name, ns) ∷ rest → (r : Replica) → is_listed (gone_list all) r ≡ (is_listed (gone_lives name ns) r || is_listed (gone_list rest) r)
next_names all name ns rest is r = ap (λ es. is_listed (gone_list es) r) is ∙ any_both r (gone_lives name ns) (gone_list rest)

one_gone : (b c d : Bool) (o : Option Standing) → is_gone_by (unwrap_or o Unheard) ≡ (c || d) → is_gone_by (unwrap_or (cond b (Some Gone) o) Unheard) ≡ ((b || c) || d)
one_gone true c d o is = refl
one_gone false c d o is = is

lives_gone : (r : Replica) (name ns : List ℕ) (ys : List (Replica × Standing)) → is_gone_by (standing_in (gone_lives name ns ++ ys) r) ≡ (is_listed (gone_lives name ns) r || is_gone_by (standing_in ys r))
lives_gone r name [] ys = refl
lives_gone r name (n ∷ ns) ys =
    one_gone (same_replica r (gone_life name n).0) (is_listed (gone_lives name ns) r) (is_gone_by (standing_in ys r)) (lookup (same_replica r) (gone_lives name ns ++ ys)) (lives_gone r name ns ys)

names_gone : (r : Replica) (es : List (List ℕ × List ℕ)) (ys : List (Replica × Standing)) → is_gone_by (standing_in (gone_list es ++ ys) r) ≡ (is_listed (gone_list es) r || is_gone_by (standing_in ys r))
names_gone r [] ys = refl
names_gone r (e ∷ es) ys =
    ap (λ xs. is_gone_by (standing_in xs r)) (append_assoc (gone_lives e.0 e.1) (gone_list es) ys)
    ∙ (lives_gone r e.0 e.1 (gone_list es ++ ys)
    ∙ (ap (λ b. is_listed (gone_lives e.0 e.1) r || b) (names_gone r es ys)
    ∙ (go (is_listed (gone_lives e.0 e.1) r) (is_listed (gone_list es) r) (is_gone_by (standing_in ys r))
    ∙ ap (λ b. b || is_gone_by (standing_in ys r)) (sym (any_both r (gone_lives e.0 e.1) (gone_list es))))))
  where
    go : (a b c : Bool) → (a || (b || c)) ≡ ((a || b) || c)
    go true b c = refl
    go false b c = refl

firsts_gone : (r : Replica) (es : List (List ℕ × ℕ)) (ys : List (Replica × Standing)) → is_gone_by (standing_in (first_list es ++ ys) r) ≡ (is_listed (first_list es) r || is_gone_by (standing_in ys r))
firsts_gone r [] ys = refl
firsts_gone r (e ∷ es) ys =
    one_gone (same_replica r (gone_life e.0 e.1).0) (is_listed (first_list es) r) (is_gone_by (standing_in ys r)) (lookup (same_replica r) (first_list es ++ ys)) (firsts_gone r es ys)

pub all_gone : (g : GoneReplicas) (m : StandingMap) (xs : List (Replica × Standing)) → xs ≡ all_of g m → (r : Replica) → (is_listed (first_list g.first.entries) r || (is_listed (gone_list g.further.entries) r || is_gone_by (standing_at m r))) ≡ is_gone_by (standing_in xs r)
all_gone g m xs is r =
    sym
    (ap (λ ys. is_gone_by (standing_in ys r)) is
    ∙ (firsts_gone r g.first.entries (gone_list g.further.entries ++ m.entries)
    ∙ ap (λ b. is_listed (first_list g.first.entries) r || b) (names_gone r g.further.entries m.entries)))

-- a copy has what the other has
pub copied : {A E : Type 0} (P Q : A → Type 0) (R : E → Type 0) → ((x : A) → P x → Q x) → (r : Result A E) → MatchResult r P R → IfOk r Q
copied P Q R f (Ok x) p = f x p
copied P Q R f (Err e) p = tt

-- all of it
pub known_at : (s : Start) (k : Known) → HoldsCovered (Begin s) k.set → AreOthersOf (Begin s) k.others → k.count ≡ s.count → IsKnownOf (Begin s) k
known_at s k holds others counts = record { set = holds; others = others; count = counts ∙ sym (count-begin s) }
