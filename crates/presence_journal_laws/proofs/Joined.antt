-- A joined delta tells a history what its two parts tell it in turn.
use Rattle.std.proofs.Common.{◌≡◌, ◌+◌, Bool, true, false, cond, not, ◌&&◌, ◌||◌, Option, Some, None, is_some, refl, sym, ◌∙◌, ap, subst, arith, true≢false}
use Rattle.std.specs.Prelude.{is_none}
use Rattle.std.specs.List.{list_all}
use Rattle.std.proofs.lemmas.Bool.{and_parts, and_from}
use Rattle.std.proofs.lemmas.List.Folds.{list_all-append}
use Rattle.presence_base.specs.declared.dots.Replica.{Replica}
use Rattle.presence_base.specs.declared.dots.Dot.{Dot}
use Rattle.presence_base.specs.declared.row.Row.{Row}
use Rattle.orswot_core.specs.Limits.{is_dot, is_row, is_range, are_texts}
use Rattle.orswot_core.specs.Telling.{ToldValue, covers, live_row, tells_removed}
use Rattle.orswot_core.specs.Checks.{IsTold, are_forward, are_live_covered, has_live_twice}
use Rattle.orswot_core.proofs.SoundFacts.{told_sound, only_covered}
use Rattle.delta_range.specs.Deltas.{DeltaValue, telling, IsDelta, GoesOn}
use Rattle.delta_range.specs.Joining.{joined, not_covered}
use Rattle.delta_range.proofs.DeltaFacts.{delta_told}
use Rattle.delta_range.proofs.JoinFacts.{all_filter, joined_keeps}
use Rattle.delta_range.proofs.ViewFacts.{union_at, row_at, fresh}
use Rattle.presence_journal.specs.StepLimits.{is_told, is_named, is_heard}
use Rattle.presence_journal.specs.declared.entry.Outcome.TheVariants as outcomes_are
use Rattle.presence_journal.specs.History.{History, Then, own, count, is_full, standing, status, is_up, hears, is_counted, known, first_some, removed, row, live, shown}
use Rattle.presence_journal.specs.Present.{of_topic}
use Rattle.presence_journal.specs.Table.{outcome_of, next_entry}
use Rattle.presence_journal.proofs.Fold.{same_present}
use Rattle.presence_journal.proofs.HistoryLemmas.{after-accepted, known-then}
use Rattle.presence_journal_laws.specs.Joined.{merge_of, merged, SayTheSame, MergesInTurn, StaysWithinLimits}

-- ---- one merge

-- the history with the entry of a merge
abbrev with_merge : History → DeltaValue → History
with_merge h d = Then h (next_entry h (merge_of d) None outcomes_are.Merged)

merged_is : (h : History) (d : DeltaValue) → is_full h ≡ false → merged h d ≡ with_merge h d
unfolding outcome_of
merged_is h d room = after-accepted h (merge_of d) None outcomes_are.Merged refl room

status_same : (h : History) (d : DeltaValue) (r : Replica) → status (with_merge h d) r ≡ status h r
unfolding status standing own
status_same h d r = refl

hears_same : (h : History) (d : DeltaValue) (r : Replica) → hears (with_merge h d) r ≡ hears h r
unfolding hears status standing own
hears_same h d r = refl

own_same : (h : History) (d : DeltaValue) → own (with_merge h d) ≡ own h
unfolding own
own_same h d = refl

count_same : (h : History) (d : DeltaValue) → count (with_merge h d) ≡ count h
unfolding count
count_same h d = let none : count h + 0 ≡ count h = omega arith in none

known_in : (h : History) (d : DeltaValue) (q : Dot) → known (with_merge h d) q ≡ (known h q || (is_counted (own h) (count h) q || (hears h q.replica && covers (telling d) q)))
known_in h d q = known-then h (next_entry h (merge_of d) None outcomes_are.Merged) q ∙ (λ i. known h q || (is_counted (own_same h d i) (count_same h d i) q || (hears h q.replica && covers (telling d) q)))

removed_in : (h : History) (d : DeltaValue) (q : Dot) → removed (with_merge h d) q ≡ (removed h q || (hears h q.replica && tells_removed (telling d) q))
unfolding removed
removed_in h d q = refl

row_in : (h : History) (d : DeltaValue) (q : Dot) → row (with_merge h d) q ≡ first_some (row h q) (cond (hears h q.replica) (live_row (telling d) q) None)
unfolding row
row_in h d q = refl

-- ---- what both tell of one dot

spread : (k heard x y : Bool) → ((k || (heard && x)) || (heard && y)) ≡ (k || (heard && (x || y)))
spread true heard x y = refl
spread false true x y = refl
spread false false x y = refl

-- the own counts are known before both
counted_once : (k c heard x y : Bool) → ((k || (c || (heard && x))) || (c || (heard && y))) ≡ (k || (c || (heard && (x || y))))
counted_once true c heard x y = refl
counted_once false true heard x y = refl
counted_once false false heard x y = spread false heard x y

-- which of them tells the dot as removed, by what each covers and has live
gone : (ca cb : Bool) (ra rb : Option Row) → (is_some rb ≡ true → ca ≡ false) → ((ca && is_none ra) || (cb && is_none rb)) ≡ ((ca || cb) && is_none (cond cb rb ra))
gone true true ra (Some y) apart = absurd (true≢false (apart refl))
gone true true None None apart = refl
gone true true (Some x) None apart = refl
gone false true ra None apart = refl
gone false true ra (Some y) apart = refl
gone true false None rb apart = refl
gone true false (Some x) rb apart = refl
gone false false ra rb apart = refl

-- the row of a dot that neither tells as removed
first_told : (ca cb : Bool) (o ra rb : Option Row) → (is_some ra ≡ true → ca ≡ true) → (is_some rb ≡ true → cb ≡ true) → (is_some rb ≡ true → ca ≡ false)
    → cond ((ca || cb) && is_none (cond cb rb ra)) None (first_some (first_some o ra) rb) ≡ cond ((ca || cb) && is_none (cond cb rb ra)) None (first_some o (cond cb rb ra))
first_told ca false o ra (Some y) f g apart = absurd (true≢false (sym (g refl)))
first_told true true o ra (Some y) f g apart = absurd (true≢false (apart refl))
first_told false true o (Some x) (Some y) f g apart = absurd (true≢false (sym (f refl)))
first_told false true None None (Some y) f g apart = refl
first_told false true (Some r) None (Some y) f g apart = refl
first_told true true o ra None f g apart = refl
first_told false true o ra None f g apart = refl
first_told true false o None None f g apart = refl
first_told true false None (Some x) None f g apart = refl
first_told true false (Some r) (Some x) None f g apart = refl
first_told false false o (Some x) None f g apart = absurd (true≢false (sym (f refl)))
first_told false false None None None f g apart = refl
first_told false false (Some r) None None f g apart = refl

-- the same, where what is told may not be heard, and the dot may be removed already
left_live : (k heard z : Bool) (o p q r : Option Row) → cond z None (first_some (first_some o p) q) ≡ cond z None (first_some o r)
    → cond (k || (heard && z)) None (first_some (first_some o (cond heard p None)) (cond heard q None)) ≡ cond (k || (heard && z)) None (first_some o (cond heard r None))
left_live true heard z o p q r e = refl
left_live false true z o p q r e = e
left_live false false z None p q r e = refl
left_live false false z (Some x) p q r e = refl

-- ---- both in turn

module _ (h : History) (a b : DeltaValue) (ha : IsDelta a) (hb : IsDelta b) (next : GoesOn a.owner a.to b) where
  known_turn : (q : Dot) → known (with_merge (with_merge h a) b) q ≡ known (with_merge h (joined a b)) q
  known_turn q =
      known_in (with_merge h a) b q
      ∙ (λ i. known_in h a q i || (is_counted (own_same h a i) (count_same h a i) q || (hears_same h a q.replica i && covers (telling b) q)))
      ∙ counted_once (known h q) (is_counted (own h) (count h) q) (hears h q.replica) (covers (telling a) q) (covers (telling b) q)
      ∙ ap (λ x. known h q || (is_counted (own h) (count h) q || (hears h q.replica && x))) (sym (union_at a b ha hb next q))
      ∙ sym (known_in h (joined a b) q)

  removed_told : (q : Dot) → (tells_removed (telling a) q || tells_removed (telling b) q) ≡ tells_removed (telling (joined a b)) q
  removed_told q =
      gone (covers (telling a) q) (covers (telling b) q) (live_row (telling a) q) (live_row (telling b) q) (fresh a b ha hb next q)
      ∙ (λ i. sym (union_at a b ha hb next q) i && is_none (sym (row_at a b ha hb next q) i))

  removed_turn : (q : Dot) → removed (with_merge (with_merge h a) b) q ≡ removed (with_merge h (joined a b)) q
  removed_turn q =
      removed_in (with_merge h a) b q
      ∙ (λ i. removed_in h a q i || (hears_same h a q.replica i && tells_removed (telling b) q))
      ∙ spread (removed h q) (hears h q.replica) (tells_removed (telling a) q) (tells_removed (telling b) q)
      ∙ ap (λ x. removed h q || (hears h q.replica && x)) (removed_told q)
      ∙ sym (removed_in h (joined a b) q)

  row_turn : (q : Dot) → row (with_merge (with_merge h a) b) q ≡ first_some (first_some (row h q) (cond (hears h q.replica) (live_row (telling a) q) None)) (cond (hears h q.replica) (live_row (telling b) q) None)
  row_turn q = row_in (with_merge h a) b q ∙ (λ i. first_some (row_in h a q i) (cond (hears_same h a q.replica i) (live_row (telling b) q) None))

  row_left : (q : Dot) → cond (tells_removed (telling (joined a b)) q) None (first_some (first_some (row h q) (live_row (telling a) q)) (live_row (telling b) q))
      ≡ cond (tells_removed (telling (joined a b)) q) None (first_some (row h q) (live_row (telling (joined a b)) q))
  row_left q =
      let ca = covers (telling a) q in
      let cb = covers (telling b) q in
      let ra = live_row (telling a) q in
      let rb = live_row (telling b) q in
      subst (λ (t : Bool × Option Row). cond (t.0 && is_none t.1) None (first_some (first_some (row h q) ra) rb) ≡ cond (t.0 && is_none t.1) None (first_some (row h q) t.1))
      (λ i. (sym (union_at a b ha hb next q) i, sym (row_at a b ha hb next q) i))
      (first_told ca cb (row h q) ra rb (only_covered q ca ra (told_sound (telling a) (delta_told a ha) q)) (only_covered q cb rb (told_sound (telling b) (delta_told b hb) q)) (fresh a b ha hb next q))

  live_turn : (q : Dot) → live (with_merge (with_merge h a) b) q ≡ live (with_merge h (joined a b)) q
  unfolding live
  live_turn q =
      (λ i. cond ((removed_turn q ∙ removed_in h (joined a b) q) i) None (row_turn q i))
      ∙ left_live (removed h q) (hears h q.replica) (tells_removed (telling (joined a b)) q) (row h q) (live_row (telling a) q) (live_row (telling b) q) (live_row (telling (joined a b)) q) (row_left q)
      ∙ (λ i. cond (sym (removed_in h (joined a b) q) i) None (sym (row_in h (joined a b) q) i))

  shown_turn : (q : Dot) → shown (with_merge (with_merge h a) b) q ≡ shown (with_merge h (joined a b)) q
  unfolding shown
  shown_turn q =
      let same : status (with_merge (with_merge h a) b) q.replica ≡ status (with_merge h (joined a b)) q.replica = status_same (with_merge h a) b q.replica ∙ status_same h a q.replica ∙ sym (status_same h (joined a b) q.replica) in
      λ i. cond (is_up (same i)) (live_turn q i) None

  in_turn : SayTheSame (with_merge (with_merge h a) b) (with_merge h (joined a b))
  in_turn = record {
    known = known_turn;
    removed = removed_turn;
    live = live_turn;
    present = λ t. same_present (with_merge (with_merge h a) b) (with_merge h (joined a b)) t (λ q. ap (of_topic t) (shown_turn q));
  }

pub merges_in_turn : MergesInTurn
merges_in_turn h a b ha hb next room more =
    let first : merged h a ≡ with_merge h a = merged_is h a room in
    let two : merged (merged h a) b ≡ with_merge (with_merge h a) b = merged_is (merged h a) b more ∙ ap (λ g. with_merge g b) first in
    let one : merged h (joined a b) ≡ with_merge h (joined a b) = merged_is h (joined a b) room in
    subst (λ g. SayTheSame g (merged h (joined a b))) (sym two) (subst (SayTheSame (with_merge (with_merge h a) b)) (sym one) (in_turn h a b ha hb next))

-- ---- limits

told_test : (t : ToldValue) → IsTold t → is_told t ≡ true
told_test t k =
    and_from (are_forward t) _ k.forward
    (and_from (list_all is_range t.ranges) _ k.ranges
    (and_from (list_all is_dot t.extras) _ k.extras
    (and_from (list_all (λ x. is_dot x.0 && is_row x.1) t.live) _ k.rows
    (and_from (are_live_covered t) (not (has_live_twice t)) k.covered (ap not k.once)))))

-- what holds of all rows of both deltas holds of those of the joined one
all_joined : (p : Dot × Row → Bool) (a b : DeltaValue) → list_all p a.live ≡ true → list_all p b.live ≡ true → list_all p (joined a b).live ≡ true
unfolding joined
all_joined p a b f g =
    list_all-append p (not_covered (telling b) a.live) b.live
    ∙ and_from (list_all p (not_covered (telling b) a.live)) (list_all p b.live) (all_filter (λ x. not (covers (telling b) x.0)) p a.live f) g

pub stays_within_limits : StaysWithinLimits
stays_within_limits a b ha hb next f g =
    let rows = λ (d : DeltaValue) (e : is_heard (telling d) ≡ true). and_parts (list_all is_named d.live) (list_all (λ x. are_texts x.1) d.live) (and_parts (is_told (telling d)) _ e).1 in
    and_from (is_told (telling (joined a b))) _ (told_test (telling (joined a b)) (delta_told (joined a b) (joined_keeps a b ha hb next)))
    (and_from (list_all is_named (joined a b).live) (list_all (λ x. are_texts x.1) (joined a b).live)
    (all_joined is_named a b (rows a f).0 (rows b g).0)
    (all_joined (λ x. are_texts x.1) a b (rows a f).1 (rows b g).1))
