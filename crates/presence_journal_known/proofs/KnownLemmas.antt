-- What is known of a dot, entry by entry, and how far a replica's dots are covered.
use Rattle.std.proofs.Common.{◌≡◌, ℕ, ◌+◌, ◌<◌, ◌≤◌, Bool, true, false, not, nat_lt, nat_le, ◌&&◌, ◌||◌, List, [], ◌∷◌, length, get_or, take, refl, sym, ◌∙◌, ap, subst, arith, inl, inr}
use Rattle.std.specs.Prelude.{◌⊎◌}
use Rattle.std.specs.List.{list_all, list_any}
use Rattle.std.proofs.lemmas.Bool.{and_parts, or_cases, leb-true}
use Rattle.presence_base.specs.declared.dots.Dot.{Dot}
use Rattle.presence_base.specs.declared.dots.Replica.{Replica}
use Rattle.presence_base.specs.declared.dots.TheConstants.{MAX_COUNT}
use Rattle.presence_base.specs.Order.{same_replica, same_dot}
use Rattle.orswot_core.specs.Limits.{is_count, is_dot, is_range}
use Rattle.orswot_core.specs.Telling.{Range, ToldValue, covers, range_has, lies_in, is_among}
use Rattle.orswot_core.specs.Checks.{are_forward}
use Rattle.presence_journal.specs.StepLimits.{is_told, is_heard}
use Rattle.presence_journal.specs.declared.step.Step.TheVariants as steps_are
use Rattle.presence_journal.specs.declared.step.Step.{Step}
use Rattle.presence_journal.specs.declared.entry.Entry.{Entry}
use Rattle.presence_journal.specs.declared.entry.Start.{Start}
use Rattle.presence_journal.specs.History.{History, Begin, Then, onto, own, own_after, count, count_after, is_counted, is_gone, status, hears, told_covers, known, covered, IsTop}
use Rattle.presence_journal.specs.Table.{IsLegal, is_step}
use Rattle.presence_journal.proofs.Same.{same_dot-true}
use Rattle.presence_journal.proofs.Walking.{IsCounted, count-limit, counted_start, counted_more, own_more}
use Rattle.presence_journal.proofs.Diffs.{legal_at}
use Rattle.presence_journal.proofs.HistoryLemmas.{legal_before, counted_parts, known-then, known_cases}
use Rattle.presence_journal_known.proofs.StatusLemmas.{own-begin}
use Rattle.presence_journal_known.proofs.FrontLemmas.{front_next}

-- one or the other of two tests, by the first of them

pub or_first : (a b x : Bool) → x ≡ a → x ≡ true → x ≡ (a || b)
or_first a b x is t = t ∙ ap (λ c. c || b) (sym t ∙ is)

pub or_second : (a b x y : Bool) → x ≡ a → x ≡ false → y ≡ b → y ≡ (a || b)
or_second a b x y is f other = other ∙ ap (λ c. c || b) (sym f ∙ is)

-- what is known after so many entries, with the own count

pub record KnownTo (s : Start) (es : List Entry) (i : ℕ) (d : Dot) (b : Bool) (o : Replica) (used : ℕ) : Type 0 where
  pub mine : o ≡ own (onto (Begin s) (take i es))
  pub known : b ≡ known (onto (Begin s) (take i es)) d
  pub counted : IsCounted used (onto (Begin s) (take i es))

pub known-begin : (s : Start) (d : Dot) → covers s.content d ≡ known (Begin s) d
unfolding known
known-begin s d = refl

pub known_none : (s : Start) (es : List Entry) (d : Dot) (b : Bool) → IsLegal (onto (Begin s) es) → b ≡ covers s.content d → KnownTo s es 0 d b s.own s.count
known_none s es d b l is = record { mine = sym (own-begin s); known = is ∙ known-begin s d; counted = counted_start s (legal_before (Begin s) es l) }

pub known_more : (s : Start) (es : List Entry) (i : ℕ) (e : Entry) (d : Dot) (b c : Bool) (o p : Replica) (used more : ℕ) → IsLegal (onto (Begin s) es) → i < length es → e ≡ get_or es i e → p ≡ own_after e.step o → more ≡ count_after e.outcome used → c ≡ (known (onto (Begin s) (take i es)) d || (is_counted p more d || told_covers (onto (Begin s) (take i es)) e.step d)) → KnownTo s es i d b o used → KnownTo s es (i + 1) d c p more
known_more s es i e d b c o p used more l lt is owned m now before =
    let h = onto (Begin s) (take i es) in
    let next = front_next (Begin s) es i e lt is in
    let counted : IsCounted more (Then h e) =
    subst (λ (n : ℕ). IsCounted n (Then h e)) (sym m) (counted_more used h e (legal_at (Begin s) es i e lt is l) before.counted) in
    let mine : p ≡ own (Then h e) = owned ∙ own_more o h e before.mine in
    record {
      mine = mine ∙ ap own (sym next);
      known = now
          ∙ ((λ j. known h d || (is_counted (mine j) (counted.0 j) d || told_covers h e.step d))
          ∙ (sym (known-then h e d) ∙ ap (λ (g : History). known g d) (sym next)));
      counted = subst (λ (g : History). IsCounted more g) (sym next) counted;
    }

-- a known dot's count is within its limit

-- one of those that all pass a test
one_of : {A : Type 0} (p q : A → Bool) (P : Type 0) (xs : List A) → ((x : A) → q x ≡ true → p x ≡ true → P) → list_all q xs ≡ true → list_any p xs ≡ true → P
one_of p q P [] f all any = absurd (cc)
one_of p q P (x ∷ xs) f all any = let parts = and_parts (q x) (list_all q xs) all in go parts.0 (or_cases (p x) (list_any p xs) any) (one_of p q P xs f parts.1)
  where
    go : q x ≡ true → (p x ≡ true) ⊎ (list_any p xs ≡ true) → (list_any p xs ≡ true → P) → P
    go here (inl is) rest = f x here is
    go here (inr later) rest = rest later

range_limit : (d : Dot) (g : Range) → is_range g ≡ true → range_has d g ≡ true → d.count ≤ MAX_COUNT
range_limit d g limits has =
    let within = and_parts (nat_le g.1 MAX_COUNT) (nat_le g.2 MAX_COUNT) (and_parts (is_count g.0.incarnation) (nat_le g.1 MAX_COUNT && nat_le g.2 MAX_COUNT) limits).1 in
    let here = and_parts (nat_lt g.1 d.count) (nat_le d.count g.2) (and_parts (same_replica d.replica g.0) (nat_lt g.1 d.count && nat_le d.count g.2) has).1 in
    omega (arith, leb-true g.2 MAX_COUNT within.1, leb-true d.count g.2 here.1)

extra_limit : (d x : Dot) → is_dot x ≡ true → same_dot d x ≡ true → d.count ≤ MAX_COUNT
extra_limit d x limits same =
    let within = and_parts (nat_le 1 x.count) (nat_le x.count MAX_COUNT) (and_parts (is_count x.replica.incarnation) (is_count x.count) limits).1 in
    omega (arith, leb-true x.count MAX_COUNT within.1, ap (λ (y : Dot). y.count) (same_dot-true d x same))

covers_limit : (t : ToldValue) (d : Dot) → is_heard t ≡ true → covers t d ≡ true → d.count ≤ MAX_COUNT
covers_limit t d heard has =
    let told = (and_parts (is_told t) _ heard).0 in
    let b = (and_parts (are_forward t) _ told).1 in
    let ranges = and_parts (list_all is_range t.ranges) _ b in
    let extras = and_parts (list_all is_dot t.extras) _ ranges.1 in
    go ranges.0 extras.0 (or_cases (lies_in t.ranges d) (is_among t.extras d) has)
  where
    go : list_all is_range t.ranges ≡ true → list_all is_dot t.extras ≡ true → (lies_in t.ranges d ≡ true) ⊎ (is_among t.extras d ≡ true) → d.count ≤ MAX_COUNT
    go ranges extras (inl lies) = one_of (range_has d) is_range (d.count ≤ MAX_COUNT) t.ranges (range_limit d) ranges lies
    go ranges extras (inr among) = one_of (same_dot d) is_dot (d.count ≤ MAX_COUNT) t.extras (extra_limit d) extras among

told_limit : (h : History) (s : Step) (d : Dot) → is_step s ≡ true → told_covers h s d ≡ true → d.count ≤ MAX_COUNT
told_limit h (steps_are.Merge t) d limits has = covers_limit t d limits (and_parts (hears h d.replica) (covers t d) has).1
told_limit h _ d limits has = absurd (cc)

known_limit : (h : History) (d : Dot) → IsLegal h → known h d ≡ true → d.count ≤ MAX_COUNT
known_limit (Begin s) d legal has = covers_limit s.content d legal.content (known-begin s d ∙ has)
known_limit (Then h e) d legal has = go (known_cases h e d has) (known_limit h d legal.0)
  where
    go : (known h d ≡ true) ⊎ ((is_counted (own (Then h e)) (count (Then h e)) d ≡ true) ⊎ (told_covers h e.step d ≡ true)) → (known h d ≡ true → d.count ≤ MAX_COUNT) → d.count ≤ MAX_COUNT
    go (inl before) rest = rest before
    go (inr (inl now)) rest = let c = counted_parts (own (Then h e)) (count (Then h e)) d now in omega (arith, c.2, count-limit (Then h e) legal)
    go (inr (inr now)) rest = told_limit h e.step d legal.4 now

-- how far a replica's dots are covered

-- all counts of the replica up to this one are covered
abbrev pub CoversUpTo : History → Replica → ℕ → Type 0
CoversUpTo h r n = (m : ℕ) → 1 ≤ m → m ≤ n → covered h (record { replica = r; count = m }) ≡ true

-- no dot above the limit is covered
none_above : (h : History) (r : Replica) → IsLegal h → covered h (record { replica = r; count = MAX_COUNT + 1 }) ≡ false
none_above h r legal = go (covered h (record { replica = r; count = MAX_COUNT + 1 })) refl
  where
    go : (b : Bool) → covered h (record { replica = r; count = MAX_COUNT + 1 }) ≡ b → b ≡ false
    go false e = refl
    go true e =
        let d : Dot = record { replica = r; count = MAX_COUNT + 1 } in
        absurd (omega (arith, known_limit h d legal (and_parts (known h d) (not (is_gone (status h r))) e).0))

pub top_at_limit : (h : History) (r : Replica) (n : ℕ) → IsLegal h → CoversUpTo h r n → MAX_COUNT ≤ n → IsTop h r MAX_COUNT
top_at_limit h r n legal below far = record { below = λ m low high. below m low (omega (arith, high, far)); next = none_above h r legal }
