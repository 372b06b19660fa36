-- What a node tells is true: a cut, two deltas joined, and all that is covered.
use Rattle.std.proofs.Common.{◌≡◌, ℕ, is_none, ◌<◌, ◌≤◌, Bool, true, false, cond, not, ◌&&◌, ◌||◌, nat_lt, nat_le, [], ◌∷◌, Option, Some, None, refl, sym, ◌∙◌, ap, subst, arith, inl, inr, ltb-true, leb-true, lt-ltb, le-leb, is_some}
use Rattle.std.specs.Prelude.{◌⊎◌, is_none}
use Rattle.std.proofs.lemmas.Bool.{and_parts, and_from, or_cases, or_left, or_right, both_ways, cases_lt, not-true}
use Rattle.presence_base.specs.declared.dots.Replica.{Replica}
use Rattle.presence_base.specs.declared.dots.Dot.{Dot}
use Rattle.presence_base.specs.declared.row.Row.{Row}
use Rattle.presence_base.specs.Order.{same_replica}
use Rattle.dot_context.specs.Runs.{holds}
use Rattle.dot_context.specs.Sets.{in_range}
use Rattle.orswot_core.specs.declared.form.Form.{Form}
use Rattle.orswot_core.specs.declared.form.Form.TheVariants.{One}
use Rattle.orswot_core.specs.Telling.{ToldValue, covers, live_row, tells_removed, lies_in, is_among}
use Rattle.orswot_core.specs.Full.{dot_of}
use Rattle.delta_range.specs.Deltas.{DeltaValue, telling, telling_in, own_dots, older_dots, IsDelta, GoesOn}
use Rattle.delta_range.specs.Joining.{joined}
use Rattle.delta_range.proofs.DeltaFacts.{older_has, held_below}
use Rattle.delta_range.proofs.FormFacts.{tells_the_same}
use Rattle.delta_range.proofs.ViewFacts.{union_at, row_at, fresh}
use Rattle.presence_journal.specs.History.{History, own, count, last_cut, status, is_gone, covered, known, removed, row, live, shown}
use Rattle.presence_journal.specs.Table.{IsLegal}
use Rattle.presence_journal.proofs.Same.{same_replica-true, same_replica-refl}
use Rattle.presence_journal.proofs.PresentLemmas.{shown-row}
use Rattle.presence_journal.proofs.HistoryLemmas.{known_from, shown-live}
use Rattle.presence_journal.proofs.Merges.{removed_is_known, known_is_live_or_removed}
use Rattle.presence_journal_cuts.specs.Cuts.{older, recent, IsCut}
use Rattle.presence_journal_cuts.specs.ToldParts.{row_of_count}
use Rattle.presence_journal_cuts.proofs.Histories.{last_cut-low}
use Rattle.presence_journal_cuts.specs.Checkpoints.{kept_row}
use Rattle.presence_journal_cuts.proofs.Sound.{full_stands}
use Rattle.presence_journal_laws.specs.Deeds.{AllDeeds}
use Rattle.presence_journal_laws.specs.Truth.{AreDeeds, IsHonest, TellsTrue, IsTrueOf}
use Rattle.presence_journal_laws.specs.DeedLaws.{CutsTellTrue, FullsTellTrue, JoinedTellTrue}

pub some_or_none : {A : Type 0} (o : Option A) → ((a : A) × (o ≡ Some a)) ⊎ (o ≡ None)
some_or_none (Some a) = inl (a, refl)
some_or_none None = inr refl

pub is_none_is : {A : Type 0} (o : Option A) → is_none o ≡ true → o ≡ None
is_none_is None f = refl
is_none_is (Some a) f = absurd (cc)

pub told_gone : (t : ToldValue) (d : Dot) → covers t d ≡ true → live_row t d ≡ None → tells_removed t d ≡ true
told_gone t d f n = and_from (covers t d) (is_none (live_row t d)) f (ap is_none n)

pub gone_told : (t : ToldValue) (d : Dot) → tells_removed t d ≡ true → (covers t d ≡ true) × (live_row t d ≡ None)
gone_told t d f = let p = and_parts (covers t d) (is_none (live_row t d)) f in (p.0, is_none_is (live_row t d) p.1)

pub live_gone : (h : History) (d : Dot) → removed h d ≡ true → live h d ≡ None
unfolding live
live_gone h d f = ap (λ b. cond b None (row h d)) f

pub live_some : (h : History) (d : Dot) (r : Row) → live h d ≡ Some r → row h d ≡ Some r
unfolding live
live_some h d r f = go (removed h d) f
  where
    go : (b : Bool) → cond b None (row h d) ≡ Some r → row h d ≡ Some r
    go true g = absurd (cc)
    go false g = g

-- what is known and not live was removed
pub gone_or_live : (h : History) → IsLegal h → (d : Dot) → known h d ≡ true → (removed h d ≡ true) ⊎ ((r : Row) × (live h d ≡ Some r))
gone_or_live h l d k = go (some_or_none (live h d))
  where
    go : ((r : Row) × (live h d ≡ Some r)) ⊎ (live h d ≡ None) → (removed h d ≡ true) ⊎ ((r : Row) × (live h d ≡ Some r))
    go (inl p) = inr p
    go (inr n) = inl (known_is_live_or_removed h l d k n)

-- ---- a cut

pub range_parts : (r : Replica) (from to : ℕ) (d : Dot) → in_range r from to d ≡ true → (d.replica ≡ r) × (from < d.count) × (d.count ≤ to)
range_parts r from to d f =
    let p = and_parts (same_replica d.replica r) (nat_lt from d.count && nat_le d.count to) f in
    let q = and_parts (nat_lt from d.count) (nat_le d.count to) p.1 in
    (same_replica-true d.replica r p.0, ltb-true from d.count q.0, leb-true d.count to q.1)

pub range_from : (r : Replica) (from to n : ℕ) → from < n → n ≤ to → in_range r from to (dot_of r n) ≡ true
range_from r from to n a b = and_from (same_replica r r) (nat_lt from n && nat_le n to) (same_replica-refl r) (and_from (nat_lt from n) (nat_le n to) (lt-ltb from n a) (le-leb n to b))

module _ (deeds : AllDeeds) (h : History) (c : DeltaValue) (are : (r : Replica) → AreDeeds (deeds r)) (t : IsTrueOf deeds h) (cut : IsCut h c) (delta : IsDelta c) where
  abbrev In : Dot → Type 0
  In d = (d.replica ≡ own h) × (last_cut h < d.count) × (d.count ≤ count h)

  abbrev Older : Dot → Type 0
  Older d = (d.replica ≡ own h) × (0 < d.count) × (older h d.count ≡ true) × (live h d ≡ None)

  same_range : (d : Dot) → in_range c.owner c.from c.to d ≡ in_range (own h) (last_cut h) (count h) d
  same_range d = λ i. in_range (cut.owner i) (cut.from i) (cut.to i) d

  own_dot : (d : Dot) → d.replica ≡ own h → dot_of (own h) d.count ≡ d
  own_dot d o = λ i. dot_of (sym o i) d.count

  cut_cases : (d : Dot) → covers (telling c) d ≡ true → In d ⊎ Older d
  cut_cases d f = go (or_cases (lies_in (own_dots c ∷ []) d) (is_among (older_dots c) d) f)
    where
      ranged : (in_range c.owner c.from c.to d ≡ true) ⊎ (false ≡ true) → In d ⊎ Older d
      ranged (inl g) = inl (range_parts (own h) (last_cut h) (count h) d (sym (same_range d) ∙ g))
      ranged (inr g) = absurd (cc)

      go : (lies_in (own_dots c ∷ []) d ≡ true) ⊎ (is_among (older_dots c) d ≡ true) → In d ⊎ Older d
      go (inl g) = ranged (or_cases (in_range c.owner c.from c.to d) false g)
      go (inr g) =
          let p = and_parts (same_replica d.replica c.owner) (holds c.older d.count) (sym (older_has c d) ∙ g) in
          let pos : 0 < d.count = ltb-true 0 d.count (held_below c.from d.count c.older delta.below p.1).0 in
          let mine : d.replica ≡ own h = same_replica-true d.replica c.owner p.0 ∙ cut.owner in
          let q = and_parts (older h d.count) (is_none (row_of_count h d.count)) (sym (cut.before d.count (omega (arith, pos))) ∙ p.1) in
          inr (mine, pos, q.0, ap (live h) (sym (own_dot d mine)) ∙ is_none_is (row_of_count h d.count) q.1)

  covers_in : (n : ℕ) → last_cut h < n → n ≤ count h → covers (telling c) (dot_of (own h) n) ≡ true
  covers_in n a b =
      or_left (lies_in (own_dots c ∷ []) (dot_of (own h) n)) (is_among (older_dots c) (dot_of (own h) n))
      (or_left (in_range c.owner c.from c.to (dot_of (own h) n)) false (same_range (dot_of (own h) n) ∙ range_from (own h) (last_cut h) (count h) n a b))

  covers_older : (n : ℕ) → 0 < n → older h n ≡ true → live h (dot_of (own h) n) ≡ None → covers (telling c) (dot_of (own h) n) ≡ true
  covers_older n pos f gone =
      or_right (lies_in (own_dots c ∷ []) (dot_of (own h) n)) (is_among (older_dots c) (dot_of (own h) n))
      (older_has c (dot_of (own h) n)
      ∙ and_from (same_replica (own h) c.owner) (holds c.older n) (ap (same_replica (own h)) cut.owner ∙ same_replica-refl (own h)) (cut.before n (omega (arith, pos)) ∙ and_from (older h n) (is_none (row_of_count h n)) f (ap is_none gone)))

  in_known : (d : Dot) → In d → known h d ≡ true
  in_known d p = known_from h t.legal d p.0 (omega (arith, p.1)) p.2

  older_known : (d : Dot) → Older d → known h d ≡ true
  older_known d p =
      let low = t.closed.older_low d.count p.1 p.2 in
      known_from h t.legal d p.0 p.1 (omega (arith, low, last_cut-low h t.legal))

  older_removed : (d : Dot) → Older d → removed h d ≡ true
  older_removed d p = known_is_live_or_removed h t.legal d (older_known d p) p.3

  cut_known : (d : Dot) → In d ⊎ Older d → known h d ≡ true
  cut_known d (inl p) = in_known d p
  cut_known d (inr p) = older_known d p

  cut_row : (d : Dot) (r : Row) → live_row (telling c) d ≡ Some r → row h d ≡ Some r
  unfolding recent
  cut_row d r f = go (in_range (own h) (last_cut h) (count h) d) (sym (cut.rows d) ∙ f)
    where
      go : (b : Bool) → cond b (shown h d) None ≡ Some r → row h d ≡ Some r
      go true g = (shown-row h d r g).0
      go false g = absurd (cc)

  cut_none : (d : Dot) → removed h d ≡ true → live_row (telling c) d ≡ None
  unfolding recent
  cut_none d f = go (some_or_none (live_row (telling c) d))
    where
      shown_too : (r : Row) → live_row (telling c) d ≡ Some r → shown h d ≡ Some r
      shown_too r g = pick (in_range (own h) (last_cut h) (count h) d) (sym (cut.rows d) ∙ g)
        where
          pick : (b : Bool) → cond b (shown h d) None ≡ Some r → shown h d ≡ Some r
          pick true u = u
          pick false u = absurd (cc)

      go : ((r : Row) × (live_row (telling c) d ≡ Some r)) ⊎ (live_row (telling c) d ≡ None) → live_row (telling c) d ≡ None
      go (inl p) = absurd (both_ways (removed h d) (shown-row h d p.0 (shown_too p.0 p.1)).1 f)
      go (inr n) = n

  in_removed : (d : Dot) → In d → live_row (telling c) d ≡ None → removed h d ≡ true
  unfolding recent
  in_removed d p n = go (gone_or_live h t.legal d (in_known d p))
    where
      ranged : in_range (own h) (last_cut h) (count h) d ≡ true
      ranged = ap (in_range (own h) (last_cut h) (count h)) (sym (own_dot d p.0)) ∙ range_from (own h) (last_cut h) (count h) d.count p.1 p.2

      go : (removed h d ≡ true) ⊎ ((r : Row) × (live h d ≡ Some r)) → removed h d ≡ true
      go (inl f) = f
      go (inr q) =
          let there : live_row (telling c) d ≡ Some q.0 = cut.rows d ∙ (ap (λ b. cond b (shown h d) None) ranged ∙ (shown-live h d p.0 ∙ q.1)) in
          let no : None ≡ Some q.0 = sym n ∙ there in
          absurd (cc)

  cut_removed : (d : Dot) → In d ⊎ Older d → live_row (telling c) d ≡ None → removed h d ≡ true
  cut_removed d (inl p) n = in_removed d p n
  cut_removed d (inr p) n = older_removed d p

  -- what a count that is told removed is not live
  target_gone : (m n : ℕ) → In (dot_of (own h) m) ⊎ Older (dot_of (own h) m) → (deeds (own h)).removes m n ≡ true → live h (dot_of (own h) n) ≡ None
  target_gone m n p k = live_gone h (dot_of (own h) n) (t.honest.targets_known (own h) m n (cut_known (dot_of (own h) m) p) k)

  own_targets : (m n : ℕ) → In (dot_of (own h) m) ⊎ Older (dot_of (own h) m) → (deeds (own h)).removes m n ≡ true → live h (dot_of (own h) n) ≡ None → covers (telling c) (dot_of (own h) n) ≡ true
  own_targets m n (inl p) k gone = go (cases_lt (last_cut h) n)
    where
      low : (0 < n) × (n < m) × (m ≤ (deeds (own h)).used)
      low = (are (own h)).targets_in m n k

      go : (last_cut h < n) ⊎ (n ≤ last_cut h) → covers (telling c) (dot_of (own h) n) ≡ true
      go (inl a) = covers_in n a (omega (arith, p.2, low.1))
      go (inr a) = covers_older n low.0 (t.closed.older_all m n k p.1 a) gone
  own_targets m n (inr p) k gone = covers_older n ((are (own h)).targets_in m n k).0 (t.closed.older_closed m n k p.2) gone

  pub cut_tells : TellsTrue deeds (telling c)
  cut_tells = record {
    row_made = λ d r f. t.honest.row_made d r (cut_row d r f);
    used = λ d f. t.honest.known_used d (cut_known d (cut_cases d f));
    removed_went = λ d f. let p = gone_told (telling c) d f in t.honest.removed_went d (cut_removed d (cut_cases d p.0) p.1);
    targets_told = λ r m n f k. removes r m n (cut_cases (dot_of r m) f) k;
  }
    where
      own_case : (m n : ℕ) → In (dot_of (own h) m) ⊎ Older (dot_of (own h) m) → (deeds (own h)).removes m n ≡ true → tells_removed (telling c) (dot_of (own h) n) ≡ true
      own_case m n p k = told_gone (telling c) (dot_of (own h) n) (own_targets m n p k (target_gone m n p k)) (cut_none (dot_of (own h) n) (t.honest.targets_known (own h) m n (cut_known (dot_of (own h) m) p) k))

      of_own : (r : Replica) (m : ℕ) → In (dot_of r m) ⊎ Older (dot_of r m) → r ≡ own h
      of_own r m (inl p) = p.0
      of_own r m (inr p) = p.0

      removes : (r : Replica) (m n : ℕ) → In (dot_of r m) ⊎ Older (dot_of r m) → (deeds r).removes m n ≡ true → tells_removed (telling c) (dot_of r n) ≡ true
      removes r m n p k = subst (λ (q : Replica). (In (dot_of q m) ⊎ Older (dot_of q m)) → (deeds q).removes m n ≡ true → tells_removed (telling c) (dot_of q n) ≡ true) (sym (of_own r m p)) (own_case m n) p k

-- what covers the same and has the same rows tells as truly
true_alike : (deeds : AllDeeds) (t u : ToldValue) → ((d : Dot) → covers t d ≡ covers u d) → ((d : Dot) → live_row t d ≡ live_row u d) → TellsTrue deeds t → TellsTrue deeds u
true_alike deeds t u same_dots same_rows k = record {
  row_made = λ d r f. k.row_made d r (same_rows d ∙ f);
  used = λ d f. k.used d (same_dots d ∙ f);
  removed_went = λ d f. k.removed_went d (alike d ∙ f);
  targets_told = λ r m n f g. sym (alike (dot_of r n)) ∙ k.targets_told r m n (same_dots (dot_of r m) ∙ f) g;
}
  where
    alike : (d : Dot) → tells_removed t d ≡ tells_removed u d
    alike d = λ i. same_dots d i && is_none (same_rows d i)

pub delta_tells_alike : (deeds : AllDeeds) (form : Form) (c : DeltaValue) → TellsTrue deeds (telling c) → TellsTrue deeds (telling_in form c)
delta_tells_alike deeds form c k = true_alike deeds (telling c) (telling_in form c) (λ d. (tells_the_same One form c d).0) (λ d. (tells_the_same One form c d).1) k

form_tells_alike : (deeds : AllDeeds) (form : Form) (c : DeltaValue) → TellsTrue deeds (telling_in form c) → TellsTrue deeds (telling c)
form_tells_alike deeds form c k = true_alike deeds (telling_in form c) (telling c) (λ d. (tells_the_same form One c d).0) (λ d. (tells_the_same form One c d).1) k

pub cuts_tell_true : CutsTellTrue
cuts_tell_true deeds h c are t cut delta form = delta_tells_alike deeds form c (cut_tells deeds h c are t cut delta)

-- ---- all that is covered

module _ (deeds : AllDeeds) (h : History) (t : ToldValue) (l : IsLegal h) (ho : IsHonest deeds h) (is_covered : (d : Dot) → covers t d ≡ covered h d) (is_live : (d : Dot) → live_row t d ≡ kept_row h d) where
  covered_parts : (d : Dot) → covers t d ≡ true → (known h d ≡ true) × (is_gone (status h d.replica) ≡ false)
  covered_parts d f = let p = and_parts (known h d) (not (is_gone (status h d.replica))) (sym (is_covered d) ∙ f) in (p.0, not-true (is_gone (status h d.replica)) p.1)

  kept_live : (d : Dot) → is_gone (status h d.replica) ≡ false → live_row t d ≡ live h d
  kept_live d g = is_live d ∙ ap (λ b. cond b None (live h d)) g

  row_live : (d : Dot) (r : Row) → live_row t d ≡ Some r → row h d ≡ Some r
  row_live d r f = go (is_gone (status h d.replica)) (sym (is_live d) ∙ f)
    where
      go : (b : Bool) → cond b None (live h d) ≡ Some r → row h d ≡ Some r
      go true g = absurd (cc)
      go false g = live_some h d r g

  covers_known : (d : Dot) → known h d ≡ true → is_gone (status h d.replica) ≡ false → covers t d ≡ true
  covers_known d k g = is_covered d ∙ and_from (known h d) (not (is_gone (status h d.replica))) k (ap not g)

  all_removed : (d : Dot) → covers t d ≡ true → live_row t d ≡ None → removed h d ≡ true
  all_removed d f n =
      let p = covered_parts d f in
      known_is_live_or_removed h l d p.0 (sym (kept_live d p.1) ∙ n)

  pub all_tells : TellsTrue deeds t
  all_tells = record {
    row_made = λ d r f. ho.row_made d r (row_live d r f);
    used = λ d f. ho.known_used d (covered_parts d f).0;
    removed_went = λ d f. let p = gone_told t d f in ho.removed_went d (all_removed d p.0 p.1);
    targets_told = λ r m n f k.
        let p = covered_parts (dot_of r m) f in
        let went = ho.targets_known r m n p.0 k in
        told_gone t (dot_of r n) (covers_known (dot_of r n) (removed_is_known h l (dot_of r n) went) p.1) (kept_live (dot_of r n) p.1 ∙ live_gone h (dot_of r n) went);
  }

pub fulls_tell_true : FullsTellTrue
fulls_tell_true deeds h form t k f = let s = full_stands form h t f in all_tells deeds h t k.legal k.honest s.0 s.1

-- ---- joined deltas

module _ (deeds : AllDeeds) (a b : DeltaValue) (da : IsDelta a) (db : IsDelta b) (next : GoesOn a.owner a.to b) (ta : TellsTrue deeds (telling a)) (tb : TellsTrue deeds (telling b)) where
  abbrev j : ToldValue
  j = telling (joined a b)

  union : (d : Dot) → covers j d ≡ (covers (telling a) d || covers (telling b) d)
  union = union_at a b da db next

  rows : (d : Dot) → live_row j d ≡ cond (covers (telling b) d) (live_row (telling b) d) (live_row (telling a) d)
  rows = row_at a b da db next

  -- what is told as removed, by which of them
  by_parts : (d : Dot) → tells_removed j d ≡ true → (tells_removed (telling b) d ≡ true) ⊎ (tells_removed (telling a) d ≡ true)
  by_parts d f = let p = gone_told j d f in go (covers (telling b) d) refl (or_cases (covers (telling a) d) (covers (telling b) d) (sym (union d) ∙ p.0)) (sym (rows d) ∙ p.1)
    where
      go : (c : Bool) → covers (telling b) d ≡ c → (covers (telling a) d ≡ true) ⊎ (covers (telling b) d ≡ true) → cond c (live_row (telling b) d) (live_row (telling a) d) ≡ None → (tells_removed (telling b) d ≡ true) ⊎ (tells_removed (telling a) d ≡ true)
      go true p q n = inl (told_gone (telling b) d p n)
      go false p (inl q) n = inr (told_gone (telling a) d q n)
      go false p (inr q) n = absurd (both_ways (covers (telling b) d) p q)

  first_gone : (d : Dot) → tells_removed (telling a) d ≡ true → tells_removed j d ≡ true
  first_gone d f = let p = gone_told (telling a) d f in told_gone j d (union d ∙ or_left (covers (telling a) d) (covers (telling b) d) p.0) (rows d ∙ go (covers (telling b) d) (some_or_none (live_row (telling b) d)) p)
    where
      go : (c : Bool) → ((r : Row) × (live_row (telling b) d ≡ Some r)) ⊎ (live_row (telling b) d ≡ None) → (covers (telling a) d ≡ true) × (live_row (telling a) d ≡ None) → cond c (live_row (telling b) d) (live_row (telling a) d) ≡ None
      go true (inl r) p = absurd (both_ways (covers (telling a) d) (fresh a b da db next d (ap is_some r.1)) p.0)
      go true (inr n) p = n
      go false o p = p.1

  then_gone : (d : Dot) → tells_removed (telling b) d ≡ true → tells_removed j d ≡ true
  then_gone d f = let p = gone_told (telling b) d f in told_gone j d (union d ∙ or_right (covers (telling a) d) (covers (telling b) d) p.0) (rows d ∙ (ap (λ c. cond c (live_row (telling b) d) (live_row (telling a) d)) p.0 ∙ p.1))

  pub joined_tells : TellsTrue deeds (telling (joined a b))
  joined_tells = record {
    row_made = λ d r f. made d r (covers (telling b) d) (sym (rows d) ∙ f);
    used = λ d f. low d (or_cases (covers (telling a) d) (covers (telling b) d) (sym (union d) ∙ f));
    removed_went = λ d f. went d (by_parts d f);
    targets_told = λ r m n f k. removes r m n k (or_cases (covers (telling a) (dot_of r m)) (covers (telling b) (dot_of r m)) (sym (union (dot_of r m)) ∙ f));
  }
    where
      made : (d : Dot) (r : Row) (c : Bool) → cond c (live_row (telling b) d) (live_row (telling a) d) ≡ Some r → (deeds d.replica).made d.count ≡ Some r
      made d r true f = tb.row_made d r f
      made d r false f = ta.row_made d r f

      low : (d : Dot) → (covers (telling a) d ≡ true) ⊎ (covers (telling b) d ≡ true) → d.count ≤ (deeds d.replica).used
      low d (inl f) = ta.used d f
      low d (inr f) = tb.used d f

      went : (d : Dot) → (tells_removed (telling b) d ≡ true) ⊎ (tells_removed (telling a) d ≡ true) → (deeds d.replica).went d.count ≡ true
      went d (inl f) = tb.removed_went d f
      went d (inr f) = ta.removed_went d f

      removes : (r : Replica) (m n : ℕ) → (deeds r).removes m n ≡ true → (covers (telling a) (dot_of r m) ≡ true) ⊎ (covers (telling b) (dot_of r m) ≡ true) → tells_removed j (dot_of r n) ≡ true
      removes r m n k (inl f) = first_gone (dot_of r n) (ta.targets_told r m n f k)
      removes r m n k (inr f) = then_gone (dot_of r n) (tb.targets_told r m n f k)

pub joined_tell_true : JoinedTellTrue
joined_tell_true deeds a b da db next f g k ta tb =
    delta_tells_alike deeds k (joined a b)
    (joined_tells deeds a b da db next (form_tells_alike deeds f a ta) (form_tells_alike deeds g b tb))
