-- What is known, entry by entry.
use Rattle.std.proofs.Common.{◌≡◌, ℕ, ◌+◌, ◌<◌, ◌≤◌, ◌^◌, Bool, true, false, cond, not, nat_lt, ◌&&◌, ◌||◌, List, [], ◌∷◌, Option, Some, None, refl, sym, ◌∙◌, ap, subst, arith}
use Rattle.std.specs.Prelude.{max}
use Rattle.std.specs.FinSet as set
use Rattle.std.specs.FinMap as map
use Rattle.std.specs.Map.{lookup, keys_of}
use Rattle.std.specs.List.{filter}
use Rattle.std.specs.List.Sorted.{IsStrictlySortedBy}
use Rattle.std.proofs.lemmas.Bool.{lt-ltb, ltb-true}
use Rattle.std.proofs.lemmas.List.Kept.{IsStrictlySortedBy-filter}
use Rattle.presence_base.specs.declared.dots.Replica.{Replica}
use Rattle.presence_base.specs.declared.dots.Dot.{Dot}
use Rattle.presence_base.specs.declared.row.Row.{Row}
use Rattle.presence_base.specs.Order.{dot_cmp, same_replica, same_dot}
use Rattle.dot_context.specs.Sets.{HasUpTo}
use Rattle.orswot_core.specs.Telling.{ToldValue}
use Rattle.orswot_core.specs.Sets.{DotRows, rows_by, without_replica}
use Rattle.orswot_core.specs.declared.form.Form.{Form}
use Rattle.orswot_core.specs.Full.{IsFullIn}
use Rattle.orswot_core.proofs.FullFacts.{live_sorted}
use Rattle.presence_journal.specs.declared.step.Step.TheVariants as steps_are
use Rattle.presence_journal.specs.declared.entry.Outcome.TheVariants as outcomes_are
use Rattle.presence_journal.specs.declared.step.Step.{Step}
use Rattle.presence_journal.specs.declared.entry.Entry.{Entry}
use Rattle.presence_journal.specs.History.{History, Then, begun, count, counts_used, known, removed, row, live, status, is_gone, next_dot, IsTop}
use Rattle.presence_journal.specs.Laws.{is_callers}
use Rattle.presence_journal.specs.Table.{IsLegal}
use Rattle.presence_journal.specs.Walk.{tells, is_reborn, is_rebirth}
use Rattle.presence_journal.proofs.HistoryLemmas.{count-then, kind_of, tells_quiet, callers_plain, kind_plain}
use Rattle.presence_journal.proofs.Walking.{count-limit, quiet_uses_none}
use Rattle.presence_journal_known.specs.LeftOut.{HoldsCovered}
use Rattle.presence_journal_known.specs.Full.{IsFullOf}
use Rattle.tracker_known.specs.declared.known.Known.{Known}
use Rattle.tracker_known.specs.Known.{IsKnownOf, CanFollow, Follows, FollowsStep, Stays, next_left, AreRowsOf}
use Rattle.replica_status.specs.Boards.{standing_in}
use Rattle.tracker_known.specs.Standings.{AreOthersOf, OthersFollow, OthersStay}
use Rattle.tracker_known.specs.Steps.{CanTake, Takes, TakesMerge, LosesReplicas, fades, loses}
use Rattle.tracker_known.proofs.OthersLemmas.{others_callers, others_merge}
use Rattle.tracker_known.proofs.GatherLemmas.{found_by}
use Rattle.tracker_known.proofs.FadingLemmas.{noted_leaves, noted_heard, noted_tick, noted_down, lost, loses_none, loses_other, gone_heard, gone_down, gone_tick}

-- a new shard

none_known : (r : Replica) (d : Dot) → known (begun r) d ≡ false
unfolding known
none_known r d = refl

none_live : (r : Replica) (d : Dot) → live (begun r) d ≡ None
unfolding live removed row
none_live r d = refl

pub known_begins : (r : Replica) (k : Known) → k.set ≡ record { covered = set.empty; live = map.empty } → AreOthersOf (begun r) k.others → k.count ≡ 0 → IsKnownOf (begun r) k
unfolding count
known_begins r k empty others zero_is = record {
  set = record {
    covered = λ d. ap (λ (s : DotRows). set.contains s.covered d) empty ∙ (set.contains-empty dot_cmp d ∙ (λ i. sym (none_known r d) i && not (is_gone (status (begun r) d.replica))));
    live = λ d. ap (λ (s : DotRows). map.get s.live d) empty ∙ (map.get-empty dot_cmp d ∙ (none (is_gone (status (begun r) d.replica)) ∙ (λ i. cond (is_gone (status (begun r) d.replica)) None (sym (none_live r d) i))));
  };
  others = others;
  count = zero_is;
}
  where
    none : (b : Bool) → None ≡ cond {A = Option Row} b None None
    none true = refl
    none false = refl

-- reads

pub top_is : (h : History) (k : Known) (r : Replica) (n : ℕ) → HasUpTo k.set.covered r n → set.contains k.set.covered (record { replica = r; count = n + 1 }) ≡ false → IsKnownOf h k → IsTop h r n
top_is h k r n below next known = record {
  below = λ m low high. sym (known.set.covered (record { replica = r; count = m })) ∙ below m low high;
  next = sym (known.set.covered (record { replica = r; count = n + 1 })) ∙ next;
}

keys_filter : (p : Dot → Bool) (es : List (Dot × Row)) → filter p (keys_of es) ≡ keys_of (filter (λ e. p e.0) es)
keys_filter p [] = refl
keys_filter p (e ∷ es) = go (p e.0) (keys_filter p es)
  where
    go : (b : Bool) → filter p (keys_of es) ≡ keys_of (filter (λ x. p x.0) es) → cond b (e.0 ∷ filter p (keys_of es)) (filter p (keys_of es)) ≡ keys_of (cond b (e ∷ filter (λ x. p x.0) es) (filter (λ x. p x.0) es))
    go true ih = ap (λ ks. e.0 ∷ ks) ih
    go false ih = ih

pub rows_are : (h : History) (k : Known) (r : Replica) (es : List (Dot × Row)) → es ≡ rows_by k.set.live r → IsKnownOf h k → AreRowsOf h r es
rows_are h k r es is known = record {
  found = λ d. ap (lookup (same_dot d)) is ∙ (found_by k.set.live r d ∙ ap (λ o. cond (same_replica d.replica r) o None) (known.set.live d));
  in_order = subst (λ ks. IsStrictlySortedBy dot_cmp ks) (keys_filter (λ d. same_replica d.replica r) (map.entries k.set.live) ∙ ap keys_of (sym is)) (IsStrictlySortedBy-filter dot_cmp (λ d. same_replica d.replica r) (keys_of (map.entries k.set.live)) (live_sorted k.set.live));
}

next_counts : (h : History) (k : Known) → IsKnownOf h k → ◌≡◌ {A = Dot} (record { replica = k.others.own; count = k.count + 1 }) (next_dot h)
next_counts h k known = λ i. record { replica = known.others.own i; count = known.count i + 1 }

not_less : (n m : ℕ) → m ≤ n → nat_lt n m ≡ false
not_less n m l = go (nat_lt n m) refl
  where
    go : (b : Bool) → nat_lt n m ≡ b → b ≡ false
    go true e = let less : n < m = ltb-true n m e in absurd (omega (arith, l, less))
    go false e = refl

pub none_next : (h : History) (k : Known) → 2 ^ 62 ≤ k.count → IsKnownOf h k → None ≡ next_left h
none_next h k most known = ap (λ b. cond b (Some (next_dot h)) None) (sym (ap (λ n. nat_lt n (2 ^ 62)) (sym known.count) ∙ not_less k.count (2 ^ 62) most))

pub some_next : (h : History) (k : Known) → k.count < 2 ^ 62 → IsKnownOf h k → Some (record { replica = k.others.own; count = k.count + 1 }) ≡ next_left h
some_next h k less known =
    ap (λ (d : Dot). Some d) (next_counts h k known)
    ∙ ap (λ b. cond b (Some (next_dot h)) None) (sym (ap (λ n. nat_lt n (2 ^ 62)) (sym known.count) ∙ lt-ltb k.count (2 ^ 62) less))

pub full_of : (form : Form) (h : History) (k : Known) (t : ToldValue) → IsFullIn form k.set t → IsKnownOf h k → IsFullOf form h t
full_of form h k t full known = (k.set, known.set, full)

-- entries that are noted

count_stays : (h : History) (e : Entry) → e.outcome ≡ outcomes_are.Noted → count (Then h e) ≡ count h
count_stays h e is = count-then h e (ap is_reborn is) ∙ (ap (λ o. count h + counts_used o) is ∙ more (count h))
  where
    more : (n : ℕ) → n + 0 ≡ n
    more n = omega arith

pub follows_heard : (k l : Known) (r : Replica) (now : ℕ) → l.set ≡ k.set → OthersFollow k.others (steps_are.Heard r now) l.others → l.count ≡ k.count → FollowsStep k (steps_are.Heard r now) l
follows_heard k l r now same others counts h e is legal known =
    let noted = noted_heard h e r now is legal in
    record {
      set = subst (HoldsCovered (Then h e)) (sym same) (lost h e k.set k.set (λ q. false) (noted_leaves h e legal noted (ap tells is)) (loses_none k.set) (gone_heard h e r now is) known.set);
      others = others h e is known.others;
      count = counts ∙ (known.count ∙ sym (count_stays h e noted));
    }

pub follows_tick : (k l : Known) (now t : ℕ) → t ≡ max k.others.time now → LosesReplicas k.set (λ r. fades t (standing_in k.others.standings r)) l.set → OthersFollow k.others (steps_are.Tick now) l.others → l.count ≡ k.count → FollowsStep k (steps_are.Tick now) l
follows_tick k l now t time loses others counts h e is legal known =
    let noted = noted_tick h e now is legal in
    record {
      set = lost h e k.set l.set (λ r. fades t (standing_in k.others.standings r)) (noted_leaves h e legal noted (ap tells is)) loses
          (λ q. gone_tick h e now k.others is known.others q ∙ ap (λ n. fades n (standing_in k.others.standings q) || is_gone (status h q)) (sym time)) known.set;
      others = others h e is known.others;
      count = counts ∙ (known.count ∙ sym (count_stays h e noted));
    }

pub follows_down : (k l : Known) (r mine : Replica) → mine ≡ k.others.own → l.set ≡ cond (same_replica r mine) k.set (without_replica k.set r) → OthersFollow k.others (steps_are.PermDown r) l.others → l.count ≡ k.count → FollowsStep k (steps_are.PermDown r) l
follows_down k l r mine own_is losing others counts h e is legal known =
    let noted = noted_down h e r is legal in
    record {
      set = lost h e k.set l.set (loses mine r) (noted_leaves h e legal noted (ap tells is)) (loses_other k.set l.set mine r losing) (gone_down h e r mine is (own_is ∙ known.others.own)) known.set;
      others = others h e is known.others;
      count = counts ∙ (known.count ∙ sym (count_stays h e noted));
    }

-- a merge

merged_outcome : (h : History) (e : Entry) (t : ToldValue) → e.step ≡ steps_are.Merge t → IsLegal (Then h e) → counts_used e.outcome ≡ 0
merged_outcome h e t is legal = quiet_uses_none e.outcome (tells_quiet h e.step e.outcome (kind_of h e.step e.outcome (ap is_rebirth is) legal.1) (ap tells is))

pub follows_merge : (k l : Known) (t : ToldValue) → TakesMerge k.set k.others t l.set → l.others ≡ k.others → l.count ≡ k.count → FollowsStep k (steps_are.Merge t) l
follows_merge k l t takes same counts h e is legal known = record {
  set = takes h e legal is known.others known.set;
  others = subst (AreOthersOf (Then h e)) (sym same) (others_merge h e t k.others is known.others);
  count = counts ∙ (known.count ∙ (sym (more (count h)) ∙ (ap (λ n. count h + n) (sym (merged_outcome h e t is legal)) ∙ sym (count-then h e (kind_plain h e.step e.outcome (kind_of h e.step e.outcome (ap is_rebirth is) legal.1))))));
}
  where
    more : (n : ℕ) → n + 0 ≡ n
    more n = omega arith

-- own steps

pub can_take : (k : Known) (e : Entry) (next : Dot) → next ≡ record { replica = k.others.own; count = k.count + 1 } → CanFollow k e → CanTake next k.set e
can_take k e next is can = record { before = can.before; legal = can.legal; holds = can.known.set; counts = is ∙ next_counts can.before k can.known }

pub follows_own : (k l : Known) (e : Entry) (next : Dot) → is_callers e.step ≡ true → next ≡ record { replica = k.others.own; count = k.count + 1 } → Takes next k.set e l.set → l.others ≡ k.others → l.count ≡ k.count + counts_used e.outcome → Follows k e l
follows_own k l e next c is takes same counts h legal known = record {
  set = takes h legal (is ∙ next_counts h k known) known.set;
  others = subst (AreOthersOf (Then h e)) (sym same) (others_callers h e k.others c known.others);
  count = counts ∙ (ap (λ n. n + counts_used e.outcome) known.count ∙ sym (count-then h e (kind_plain h e.step e.outcome (kind_of h e.step e.outcome (callers_plain e.step c) legal.1))));
}

pub count_room : (k : Known) (e : Entry) → is_callers e.step ≡ true → CanFollow k e → (k.count ≤ 2 ^ 62) × (k.count + counts_used e.outcome ≤ 2 ^ 62)
count_room k e c can =
    let h = can.before in
    let before = count-limit h can.legal.0 in
    let after = count-limit (Then h e) can.legal in
    (omega (arith, before, can.known.count), omega (arith, after, can.known.count, count-then h e (kind_plain h e.step e.outcome (kind_of h e.step e.outcome (callers_plain e.step c) can.legal.1))))

-- where nothing changes
pub stays_by : (k l : Known) → l.set ≡ k.set → OthersStay k.others l.others → l.count ≡ k.count → Stays k l
stays_by k l same others counts h known = record {
  set = subst (HoldsCovered h) (sym same) known.set;
  others = others h known.others;
  count = counts ∙ known.count;
}

pub stays_set : (k l : Known) → l.set ≡ k.set → l.others ≡ k.others → l.count ≡ k.count → Stays k l
stays_set k l same others counts = stays_by k l same (λ h a. subst (AreOthersOf h) (sym others) a) counts

-- the step is of the own replica alone
pub rest_is_callers : (s : Step) → ((r : Replica) (now : ℕ) → s ≡ steps_are.Heard r now → ⊥) → ((now : ℕ) → s ≡ steps_are.Tick now → ⊥) → ((r : Replica) → s ≡ steps_are.PermDown r → ⊥) → ((t : ToldValue) → s ≡ steps_are.Merge t → ⊥) → ((i : ℕ) → s ≡ steps_are.Rebirth i → ⊥) → is_callers s ≡ true
rest_is_callers (steps_are.Heard r now) f g j k m = absurd (f r now refl)
rest_is_callers (steps_are.Tick now) f g j k m = absurd (g now refl)
rest_is_callers (steps_are.PermDown r) f g j k m = absurd (j r refl)
rest_is_callers (steps_are.Merge t) f g j k m = absurd (k t refl)
rest_is_callers (steps_are.Rebirth i) f g j k m = absurd (m i refl)
rest_is_callers _ f g j k m = refl
