-- A part that is made of the own live rows of a legal history.
use Rattle.std.proofs.Common.{◌≡◌, ℕ, suc, ◌+◌, ◌-◌, ◌<◌, ◌≤◌, ◌^◌, min, Bool, true, false, not, cond, ◌&&◌, nat_lt, nat_le, List, [], ◌∷◌, ◌++◌, length, Option, Some, None, is_none, refl, sym, ◌∙◌, ap, subst, arith, inl, inr, ltb-true, leb-true, lt-ltb, le-leb}
use Rattle.std.specs.Prelude.{◌⊎◌, IsSome}
use Rattle.std.specs.List.{AllByRecursion, list_all}
use Rattle.std.specs.Map.{lookup, keys_of}
use Rattle.std.proofs.lemmas.Bool.{and_from, cases_lt}
use Rattle.std.proofs.lemmas.Bool.Decides.{nat_tests}
use Rattle.presence_base.specs.declared.dots.TheConstants.{MAX_COUNT}
use Rattle.presence_base.specs.declared.dots.Dot.{Dot}
use Rattle.presence_base.specs.declared.row.Row.{Row}
use Rattle.presence_base.specs.Order.{same_dot, same_replica}
use Rattle.dot_context.specs.Runs.{holds}
use Rattle.dot_context.specs.Sets.{in_range}
use Rattle.orswot_core.specs.declared.form.Form.TheVariants.{Two}
use Rattle.orswot_core.specs.Limits.{is_count, is_dot, is_row}
use Rattle.orswot_core.specs.Full.{dot_of}
use Rattle.delta_range.specs.Deltas.{DeltaValue, IsDelta}
use Rattle.delta_range.specs.Fitting.{fits_line}
use Rattle.delta_range.proofs.CountFacts.{runs_fit_then, runs_fit_else}
use Rattle.presence_journal.specs.History.{History, own, count, live, removed, row}
use Rattle.presence_journal.specs.Table.{IsLegal}
use Rattle.presence_journal.proofs.Same.{same_replica-true, same_replica-refl}
use Rattle.presence_journal.proofs.Walking.{count-limit}
use Rattle.presence_journal.proofs.HistoryLemmas.{legal_knows, known_parts}
use Rattle.presence_journal_known.proofs.RebornLemmas.{row_limits}
use Rattle.presence_journal_cuts.specs.ToldParts.{IsPart, IsLargestPart, HasNoPart, GoesFar, row_of_count, is_vacant}
use Rattle.presence_journal_cuts.specs.Parting.{AreOwnRows, vacant, rows_above, end_of}
use Rattle.presence_journal_cuts.proofs.Keeping.{own_limit, known_is_dot, each_found, no_repeat, all_of}
use Rattle.presence_journal_cuts.proofs.PartRows.{Ascend, Within, ascending, in_order, holds_vacant, runs_vacant, ends_vacant, end_from, end_within, rows_ascend, rows_found, few_rows, goes_far}

live_row_of : (h : History) (d : Dot) (r : Row) → live h d ≡ Some r → row h d ≡ Some r
unfolding live
live_row_of h d r f = go (removed h d) f
  where
    go : (b : Bool) → cond b None (row h d) ≡ Some r → row h d ≡ Some r
    go true g = absurd (cc)
    go false g = g

module _ (h : History) (l : IsLegal h) (es : List (Dot × Row)) (rows : AreOwnRows h es) where
  -- what is true of each of the rows
  pub record IsOwnRow (d : Dot) (r : Row) : Type 0 where
    pub of : d.replica ≡ own h
    pub positive : 0 < d.count
    pub within : d.count ≤ count h
    pub limits : (is_dot d && is_row r) ≡ true

  own_row : (d : Dot) (r : Row) → lookup (same_dot d) es ≡ Some r → IsOwnRow d r
  own_row d r found = go (same_replica d.replica (own h)) refl (sym (rows.found d) ∙ found)
    where
      go : (b : Bool) → same_replica d.replica (own h) ≡ b → cond b (live h d) None ≡ Some r → IsOwnRow d r
      go true p g =
          let mine = same_replica-true d.replica (own h) p in
          let has_row = live_row_of h d r g in
          let known = (legal_knows h l).of_row d r has_row in
          let parts = known_parts h l d mine known in
          record {
            of = mine;
            positive = parts.0;
            within = parts.1;
            limits = and_from (is_dot d) (is_row r) (known_is_dot h l d mine known) (row_limits h l d r has_row);
          }
      go false p g = absurd (cc)

  each : (P : Dot × Row → Type 0) → ((x : Dot × Row) → IsOwnRow x.0 x.1 → P x) → (xs : List (Dot × Row)) → AllByRecursion (λ (x : Dot × Row). lookup (same_dot x.0) es ≡ Some x.1) xs → AllByRecursion P xs
  each P f [] a = tt
  each P f (x ∷ xs) a = (f x (own_row x.0 x.1 a.0), each P f xs a.1)

  found : AllByRecursion (λ (x : Dot × Row). lookup (same_dot x.0) es ≡ Some x.1) es
  found = each_found es rows.in_order

  ascend : Ascend (own h) 0 es
  ascend = ascending (own h) 0 es (each (λ x. x.0.replica ≡ own h) (λ x k. k.of) es found) (each (λ x. 0 < x.0.count) (λ x k. k.positive) es found) rows.in_order

  within : Within (count h) es
  within = each (λ x. x.0.count ≤ count h) (λ x k. k.within) es found

-- The runs are made of one list of the own rows, and the rows of the part of another, which is the same.
module _ (h : History) (l : IsLegal h) (es fs : List (Dot × Row)) (before : AreOwnRows h es) (rows : AreOwnRows h fs) (n from room : ℕ) (begins : from ≡ min n (count h)) (low : from ≤ count h) where
  abbrev end : ℕ
  end = end_of from (count h) room fs

  abbrev told : List (Dot × Row)
  told = rows_above from room fs

  abbrev pub the_part : DeltaValue
  the_part = record { owner = own h; from = from; to = end_of from (count h) room fs; older = vacant from 0 es; live = rows_above from room fs }

  ends_within : end ≤ count h
  ends_within = end_within from (count h) room fs (within h l fs rows)

  told_found : (d : Dot) → lookup (same_dot d) told ≡ cond (nat_lt from d.count && nat_le d.count end) (lookup (same_dot d) fs) None
  told_found = rows_found (own h) from (count h) room 0 fs (ascend h l fs rows) (within h l fs rows)

  told_each : AllByRecursion (λ (x : Dot × Row). lookup (same_dot x.0) told ≡ Some x.1) told
  told_each = each_found told (in_order (own h) 0 told (rows_ascend (own h) from room 0 fs (ascend h l fs rows)))

  told_parts : (d : Dot) (r : Row) → lookup (same_dot d) told ≡ Some r → IsOwnRow h l fs rows d r × (in_range (own h) from end d ≡ true)
  told_parts d r e = go (nat_lt from d.count && nat_le d.count end) refl (sym (told_found d) ∙ e)
    where
      go : (b : Bool) → (nat_lt from d.count && nat_le d.count end) ≡ b → cond b (lookup (same_dot d) fs) None ≡ Some r → IsOwnRow h l fs rows d r × (in_range (own h) from end d ≡ true)
      go true p f =
          let k = own_row h l fs rows d r f in
          (k, and_from (same_replica d.replica (own h)) (nat_lt from d.count && nat_le d.count end) (ap (λ q. same_replica q (own h)) k.of ∙ same_replica-refl (own h)) p)
      go false p f = absurd (cc)

  pub part_sound : IsDelta the_part
  part_sound =
      let most = count-limit h l in
      record {
        range = and_from (is_count (own h).incarnation) (nat_le from MAX_COUNT && nat_le end MAX_COUNT) (own_limit h l)
            (and_from (nat_le from MAX_COUNT) (nat_le end MAX_COUNT) (le-leb from MAX_COUNT (omega (arith, low, most))) (le-leb end MAX_COUNT (omega (arith, ends_within, most))));
        forward = end_from from (count h) room fs low;
        runs = runs_vacant (own h) from 0 es (ascend h l es before);
        below = ends_vacant from 0 es;
        rows = all_of (λ (x : Dot × Row). lookup (same_dot x.0) told ≡ Some x.1) (λ x. is_dot x.0 && is_row x.1) (λ x f. (told_parts x.0 x.1 f).0.limits) told told_each;
        within = all_of (λ (x : Dot × Row). lookup (same_dot x.0) told ≡ Some x.1) (λ x. in_range (own h) from end x.0) (λ x f. (told_parts x.0 x.1 f).1) told told_each;
        once = no_repeat (keys_of told) (in_order (own h) 0 told (rows_ascend (own h) from room 0 fs (ascend h l fs rows)));
      }

  own_at : (xs : List (Dot × Row)) → AreOwnRows h xs → (c : ℕ) → lookup (same_dot (dot_of (own h) c)) xs ≡ row_of_count h c
  own_at xs are c = are.found (dot_of (own h) c) ∙ ap (λ b. cond b (row_of_count h c) None) (same_replica-refl (own h))

  pub part_is : IsPart h n the_part
  part_is = record {
    owner = refl;
    from = begins;
    to = ends_within;
    before = λ c low.
        holds_vacant (own h) from 0 es (ascend h l es before) c
        ∙ (ap (λ b. b && (nat_le c from && is_none (lookup (same_dot (dot_of (own h) c)) es))) (lt-ltb 0 c (omega (arith, low)))
        ∙ ap (λ o. nat_le c from && is_none o) (own_at es before c));
    rows = λ x.
        told_found x
        ∙ (ap (λ o. cond (nat_lt from x.count && nat_le x.count end) o None) (rows.found x)
        ∙ both_tests (nat_lt from x.count && nat_le x.count end) (same_replica x.replica (own h)) (live h x));
    in_order = in_order (own h) 0 told (rows_ascend (own h) from room 0 fs (ascend h l fs rows));
  }
    where
      both_tests : (a b : Bool) (o : Option Row) → cond a (cond b o None) None ≡ cond (b && a) o None
      both_tests true true o = refl
      both_tests true false o = refl
      both_tests false true o = refl
      both_tests false false o = refl

  pub part_far : length (vacant from 0 es) + room + 1 ≡ 65536 → GoesFar h the_part
  part_far fills = go (goes_far (own h) from (count h) room 0 fs (ascend h l fs rows) (within h l fs rows) low)
    where
      go : (end ≡ count h) ⊎ (IsSome (lookup (same_dot (dot_of (own h) (suc end))) fs) × (length told ≡ room)) → GoesFar h the_part
      go (inl e) = inl e
      go (inr f) = inr (subst IsSome (own_at fs rows (suc end)) f.0, ap (λ k. length (vacant from 0 es) + k + 1) f.1 ∙ fills)

  pub part_largest : length (vacant from 0 es) + room + 1 ≡ 65536 → IsLargestPart h n the_part
  part_largest fills = record { part = part_is; fits = fits; far = part_far fills }
    where
      few : length told ≤ room
      few = few_rows from room fs

      with_room : (runs rows : ℕ) → rows ≤ room → runs + room + 1 ≡ 65536 → nat_lt runs (65536 - rows) ≡ true
      with_room runs rows le e = grind (arith, nat_tests, le, e)

      fits : fits_line Two the_part ≡ true
      fits = sym (runs_fit_then the_part (omega (arith, few, fills))) ∙ with_room (length (vacant from 0 es)) (length told) few fills

  pub no_part : 65536 ≤ length (vacant from 0 es) → HasNoPart h n
  no_part many = (the_part, part_sound, part_is, go (cases_lt (length told) 65536), many)
    where
      no_room : (runs rows : ℕ) → 65536 ≤ runs → nat_lt runs (65536 - rows) ≡ false
      no_room runs rows le = grind (arith, nat_tests, le)

      over : (rows : ℕ) → 65536 ≤ rows → nat_lt rows 65536 ≡ false
      over rows le = grind (arith, nat_tests, le)

      go : (length told < 65536) ⊎ (65536 ≤ length told) → fits_line Two the_part ≡ false
      go (inl lt) = sym (runs_fit_then the_part lt) ∙ no_room (length (vacant from 0 es)) (length told) many
      go (inr ge) = sym (runs_fit_else the_part ge) ∙ over (length told) ge

-- ---- as it is made

pub at_most : (a b : ℕ) → min a b ≤ b
at_most a b = omega arith

-- the parts of a part, each as it was made
pub record IsMadeOf (h : History) (n : ℕ) (es fs : List (Dot × Row)) (room : ℕ) (d : DeltaValue) : Type 0 where
  pub owner : d.owner ≡ own h
  pub from : d.from ≡ min n (count h)
  pub to : d.to ≡ end_of d.from (count h) room fs
  pub older : d.older ≡ vacant d.from 0 es
  pub live : d.live ≡ rows_above d.from room fs

module _ (h : History) (l : IsLegal h) (es fs : List (Dot × Row)) (before : AreOwnRows h es) (rows : AreOwnRows h fs) (n room : ℕ) (d : DeltaValue) (made : IsMadeOf h n es fs room d) where
  low : d.from ≤ count h
  low = subst (λ k. k ≤ count h) (sym made.from) (at_most n (count h))

  is : the_part h l es fs before rows n d.from room made.from low ≡ d
  is = λ i. record { owner = sym made.owner i; from = d.from; to = sym made.to i; older = sym made.older i; live = sym made.live i }

  pub made_sound : IsDelta d
  made_sound = subst IsDelta is (part_sound h l es fs before rows n d.from room made.from low)

  pub made_largest : length d.older + room + 1 ≡ 65536 → IsLargestPart h n d
  made_largest fills = subst (IsLargestPart h n) is (part_largest h l es fs before rows n d.from room made.from low (sym (ap (λ rs. length rs + room + 1) made.older) ∙ fills))

  pub made_none : 65536 ≤ length d.older → HasNoPart h n
  made_none many = no_part h l es fs before rows n d.from room made.from low (subst (λ rs. 65536 ≤ length rs) made.older many)
