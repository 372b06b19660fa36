-- What a part tells is true: whoever is told a count in it is told as removed all that the count removed.
use Rattle.std.proofs.Common.{◌≡◌, ℕ, is_none, ◌<◌, ◌≤◌, Bool, true, false, cond, ◌&&◌, ◌||◌, nat_lt, nat_le, [], ◌∷◌, Option, Some, None, refl, sym, ◌∙◌, ap, subst, arith, inl, inr, ltb-true, leb-true, lt-ltb, le-leb}
use Rattle.std.specs.Prelude.{◌⊎◌}
use Rattle.std.proofs.lemmas.Bool.{and_parts, and_from, or_cases, or_left, or_right, cases_lt}
use Rattle.presence_base.specs.declared.dots.Replica.{Replica}
use Rattle.presence_base.specs.declared.dots.Dot.{Dot}
use Rattle.presence_base.specs.declared.row.Row.{Row}
use Rattle.presence_base.specs.Order.{same_replica}
use Rattle.dot_context.specs.Runs.{holds}
use Rattle.dot_context.specs.Sets.{in_range}
use Rattle.orswot_core.specs.Telling.{covers, live_row, tells_removed, lies_in, is_among}
use Rattle.orswot_core.specs.Full.{dot_of}
use Rattle.delta_range.specs.Deltas.{DeltaValue, telling, own_dots, older_dots, IsDelta}
use Rattle.delta_range.proofs.DeltaFacts.{older_has, held_below}
use Rattle.presence_journal.specs.History.{History, own, count, known, removed, row, live}
use Rattle.presence_journal.proofs.Same.{same_replica-true, same_replica-refl}
use Rattle.presence_journal.proofs.HistoryLemmas.{known_from}
use Rattle.presence_journal.proofs.Merges.{known_is_live_or_removed}
use Rattle.presence_journal_cuts.specs.ToldParts.{IsPart, is_vacant, row_of_count}
use Rattle.presence_journal_laws.specs.Deeds.{AllDeeds}
use Rattle.presence_journal_laws.specs.Truth.{AreDeeds, TellsTrue, IsTrueOf}
use Rattle.presence_journal_laws.specs.DeedLaws.{PartsTellTrue}
use Rattle.presence_journal_laws.proofs.Telling.{is_none_is, told_gone, gone_told, live_gone, live_some, range_parts, range_from, delta_tells_alike}

module _ (deeds : AllDeeds) (h : History) (n : ℕ) (d : DeltaValue) (are : (r : Replica) → AreDeeds (deeds r)) (t : IsTrueOf deeds h) (p : IsPart h n d) (delta : IsDelta d) where
  abbrev In : Dot → Type 0
  In q = (q.replica ≡ own h) × (d.from < q.count) × (q.count ≤ d.to)

  abbrev Vacant : Dot → Type 0
  Vacant q = (q.replica ≡ own h) × (0 < q.count) × (q.count ≤ d.from) × (live h q ≡ None)

  same_range : (q : Dot) → in_range d.owner d.from d.to q ≡ in_range (own h) d.from d.to q
  same_range q = ap (λ (r : Replica). in_range r d.from d.to q) p.owner

  own_dot : (q : Dot) → q.replica ≡ own h → dot_of (own h) q.count ≡ q
  own_dot q o = λ i. dot_of (sym o i) q.count

  vacant : (q : Dot) → q.replica ≡ own h → 0 < q.count → is_vacant h d.from q.count ≡ true → Vacant q
  vacant q o pos f =
      let parts = and_parts (nat_le q.count d.from) (is_none (row_of_count h q.count)) f in
      (o, pos, leb-true q.count d.from parts.0, ap (live h) (sym (own_dot q o)) ∙ is_none_is (row_of_count h q.count) parts.1)

  part_cases : (q : Dot) → covers (telling d) q ≡ true → In q ⊎ Vacant q
  part_cases q f = go (or_cases (lies_in (own_dots d ∷ []) q) (is_among (older_dots d) q) f)
    where
      ranged : (in_range d.owner d.from d.to q ≡ true) ⊎ (false ≡ true) → In q ⊎ Vacant q
      ranged (inl g) = inl (range_parts (own h) d.from d.to q (sym (same_range q) ∙ g))
      ranged (inr g) = absurd (cc)

      go : (lies_in (own_dots d ∷ []) q ≡ true) ⊎ (is_among (older_dots d) q ≡ true) → In q ⊎ Vacant q
      go (inl g) = ranged (or_cases (in_range d.owner d.from d.to q) false g)
      go (inr g) =
          let parts = and_parts (same_replica q.replica d.owner) (holds d.older q.count) (sym (older_has d q) ∙ g) in
          let pos : 0 < q.count = ltb-true 0 q.count (held_below d.from q.count d.older delta.below parts.1).0 in
          inr (vacant q (same_replica-true q.replica d.owner parts.0 ∙ p.owner) pos (sym (p.before q.count (omega (arith, pos))) ∙ parts.1))

  part_known : (q : Dot) → In q ⊎ Vacant q → known h q ≡ true
  part_known q (inl c) = known_from h t.legal q c.0 (omega (arith, c.1)) (omega (arith, c.2, p.to))
  part_known q (inr c) = known_from h t.legal q c.0 c.1 (omega (arith, c.2, delta.forward, p.to))

  part_row : (q : Dot) (r : Row) → live_row (telling d) q ≡ Some r → row h q ≡ Some r
  part_row q r f = go (in_range (own h) d.from d.to q) (sym (p.rows q) ∙ f)
    where
      go : (b : Bool) → cond b (live h q) None ≡ Some r → row h q ≡ Some r
      go true g = live_some h q r g
      go false g = absurd (cc)

  part_none : (q : Dot) → live h q ≡ None → live_row (telling d) q ≡ None
  part_none q f = p.rows q ∙ go (in_range (own h) d.from d.to q)
    where
      go : (b : Bool) → cond b (live h q) None ≡ None
      go true = f
      go false = refl

  not_live : (q : Dot) → In q ⊎ Vacant q → live_row (telling d) q ≡ None → live h q ≡ None
  not_live q (inr c) n = c.3
  not_live q (inl c) n = sym (ap (λ b. cond b (live h q) None) ranged) ∙ (sym (p.rows q) ∙ n)
    where
      ranged : in_range (own h) d.from d.to q ≡ true
      ranged = ap (in_range (own h) d.from d.to) (sym (own_dot q c.0)) ∙ range_from (own h) d.from d.to q.count c.1 c.2

  part_removed : (q : Dot) → In q ⊎ Vacant q → live_row (telling d) q ≡ None → removed h q ≡ true
  part_removed q c n = known_is_live_or_removed h t.legal q (part_known q c) (not_live q c n)

  low : (q : Dot) → In q ⊎ Vacant q → q.count ≤ d.to
  low q (inl c) = c.2
  low q (inr c) = omega (arith, c.2, delta.forward)

  covers_gone : (m : ℕ) → 0 < m → m ≤ d.to → live h (dot_of (own h) m) ≡ None → covers (telling d) (dot_of (own h) m) ≡ true
  covers_gone m pos within gone = go (cases_lt d.from m)
    where
      go : (d.from < m) ⊎ (m ≤ d.from) → covers (telling d) (dot_of (own h) m) ≡ true
      go (inl a) =
          or_left (lies_in (own_dots d ∷ []) (dot_of (own h) m)) (is_among (older_dots d) (dot_of (own h) m))
          (or_left (in_range d.owner d.from d.to (dot_of (own h) m)) false (same_range (dot_of (own h) m) ∙ range_from (own h) d.from d.to m a within))
      go (inr a) =
          or_right (lies_in (own_dots d ∷ []) (dot_of (own h) m)) (is_among (older_dots d) (dot_of (own h) m))
          (older_has d (dot_of (own h) m)
          ∙ and_from (same_replica (own h) d.owner) (holds d.older m) (ap (same_replica (own h)) p.owner ∙ same_replica-refl (own h))
          (p.before m (omega (arith, pos)) ∙ and_from (nat_le m d.from) (is_none (row_of_count h m)) (le-leb m d.from a) (ap is_none gone)))

  own_case : (c m : ℕ) → In (dot_of (own h) c) ⊎ Vacant (dot_of (own h) c) → (deeds (own h)).removes c m ≡ true → tells_removed (telling d) (dot_of (own h) m) ≡ true
  own_case c m at k =
      let below = (are (own h)).targets_in c m k in
      let gone = live_gone h (dot_of (own h) m) (t.honest.targets_known (own h) c m (part_known (dot_of (own h) c) at) k) in
      told_gone (telling d) (dot_of (own h) m) (covers_gone m below.0 (omega (arith, below.1, low (dot_of (own h) c) at)) gone) (part_none (dot_of (own h) m) gone)

  of_own : (r : Replica) (c : ℕ) → In (dot_of r c) ⊎ Vacant (dot_of r c) → r ≡ own h
  of_own r c (inl at) = at.0
  of_own r c (inr at) = at.0

  removes : (r : Replica) (c m : ℕ) → In (dot_of r c) ⊎ Vacant (dot_of r c) → (deeds r).removes c m ≡ true → tells_removed (telling d) (dot_of r m) ≡ true
  removes r c m at k = subst (λ (q : Replica). (In (dot_of q c) ⊎ Vacant (dot_of q c)) → (deeds q).removes c m ≡ true → tells_removed (telling d) (dot_of q m) ≡ true) (sym (of_own r c at)) (own_case c m) at k

  pub part_tells : TellsTrue deeds (telling d)
  part_tells = record {
    row_made = λ q r f. t.honest.row_made q r (part_row q r f);
    used = λ q f. t.honest.known_used q (part_known q (part_cases q f));
    removed_went = λ q f. let g = gone_told (telling d) q f in t.honest.removed_went q (part_removed q (part_cases q g.0) g.1);
    targets_told = λ r c m f k. removes r c m (part_cases (dot_of r c) f) k;
  }

pub parts_tell_true : PartsTellTrue
parts_tell_true deeds h n d are t part delta form = delta_tells_alike deeds form d (part_tells deeds h n d are t part delta)
