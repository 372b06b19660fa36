-- Chains, entry by entry: each own row that is shown keeps its own.
use Rattle.std.proofs.Common.{◌≡◌, ℕ, ◌+◌, ◌<◌, ◌≤◌, Bool, true, false, cond, ◌&&◌, ◌||◌, nat_eq, nat_le, nat_lt, length, List, [], ◌∷◌, ◌++◌, Option, Some, None, inl, inr, refl, sym, ◌∙◌, ap, subst, arith}
use Rattle.std.specs.Prelude.{◌⊎◌}
use Rattle.std.specs.List.{AllByRecursion}
use Rattle.std.specs.BTreeMap.{get}
use Rattle.std.specs.Ordering.{nat_cmp}
use Rattle.std.proofs.lemmas.Bool.{eqb-true, leb-true, leb-false, le-leb, lt-ltb, or_parts, or_from, or_cases, or_left, or_right, both_ways}
use Rattle.std.proofs.lemmas.Bool.Decides.{nat_tests}
use Rattle.presence_base.specs.declared.dots.Dot.{Dot}
use Rattle.presence_base.specs.declared.row.Row.{Row}
use Rattle.presence_base.specs.Order.{same_dot}
use Rattle.dot_context.specs.Runs.{holds, AreLong}
use Rattle.dot_context.specs.Sets.{listed}
use Rattle.delta_range.specs.Longest.{up_to}
use Rattle.delta_range.proofs.RunFacts.{holds_up_to}
use Rattle.presence_journal.specs.declared.entry.Outcome.TheVariants as outcomes_are
use Rattle.presence_journal.specs.declared.entry.Outcome.{Outcome}
use Rattle.presence_journal.specs.declared.entry.Entry.{Entry}
use Rattle.presence_journal.specs.History.{History, Then, own, count, counts_used, last_cut, first_some, has_dot, row_added, shown}
use Rattle.presence_journal.specs.Present.{dots_taken}
use Rattle.presence_journal.specs.Table.{IsLegal}
use Rattle.presence_journal.proofs.Same.{same_dot-refl}
use Rattle.presence_journal.proofs.HistoryLemmas.{IsOwnShown, own-then, count-then}
use Rattle.presence_journal_cuts.specs.Chains.{Chains, AreChains, Counts, TakesIn, kept_chain}
use Rattle.presence_journal_cuts.specs.Cuts.{stands_for, chain_after, chain, goes, goes_by, older_after, older}
use Rattle.presence_journal_cuts.specs.Handing.{handed}
use Rattle.presence_journal_cuts.proofs.Handings.{IsHanded, is_handed, long_handed}
use Rattle.presence_journal_cuts.proofs.RunLemmas.{holds_append}
use Rattle.presence_journal_cuts.proofs.Histories.{own_shown}
use Rattle.presence_journal_cuts.specs.declared.change.Link.{Link}
use Rattle.presence_journal_cuts.specs.Untold.{HasChains, HasUnused, AreBelow, AreSettled}
use Rattle.presence_journal_cuts.specs.KeptDeltas.{renews_kept}
use Rattle.presence_journal_cuts.specs.Changes.{told_in, is_counted, IsLinkOf, TellsGone, linked, IsLinked, LosesChains}
use Rattle.presence_journal_cuts.proofs.FreshLemmas.{counted, added_next, added_stays, replaced_parts, taken_shown}
use Rattle.presence_journal.specs.Walk.{is_reborn}
use Rattle.presence_journal_known.proofs.OwnLemmas.{plain_step}

abbrev Runs : Type 0
Runs = List (ℕ × ℕ)

abbrev RunsOption : Type 0
RunsOption = Option (List (ℕ × ℕ))

pub lost_more : (b c : Bool) (o p : RunsOption) → p ≡ cond b None o → cond (b || c) None o ≡ cond c None p
lost_more true true o p e = refl
lost_more true false o p e = sym e
lost_more false true o p e = refl
lost_more false false o p e = sym e

-- ---- what an outcome makes of the chains that are kept

-- the new row of an update has a chain
abbrev pub passed : Outcome → (ℕ → Runs) → ℕ → Runs
passed (outcomes_are.Replaced new old) f c = cond (nat_eq c new.count) (handed (f old.count) old.count) (f c)
passed _ f c = f c

-- and the rows that are taken out have none
abbrev pub Hands : Outcome → (ℕ → Runs) → (ℕ → Runs) → Type 0
Hands o f g = (c : ℕ) → g c ≡ cond (is_counted (dots_taken o) c) [] (passed o f c)

has_lost : (b : Bool) (o : RunsOption) → listed (cond b None o) ≡ cond b [] (listed o)
has_lost true o = refl
has_lost false o = refl

at_to : (b : Bool) (r s : Runs) (o : RunsOption) → r ≡ s → listed (cond b (Some r) o) ≡ cond b s (listed o)
at_to true r s o is = is
at_to false r s o is = refl

link_has : (unsettled : ℕ) (o : Outcome) (m : Chains) (l : Option Link) (c : ℕ) → IsLinkOf unsettled o m l → listed (linked l m c) ≡ passed o (kept_chain m) c
link_has unsettled (outcomes_are.Replaced new old) m (Some l) c hands =
    (λ i. listed (cond (nat_eq c (hands.to i)) (Some l.chain) (get nat_cmp m c)))
    ∙ at_to (nat_eq c new.count) l.chain (handed (kept_chain m old.count) old.count) (get nat_cmp m c) hands.chain
link_has unsettled (outcomes_are.Replaced new old) m None c hands = absurd hands
link_has unsettled _ m l c none = ap (λ (x : Option Link). listed (linked x m c)) none

pub hands_on : (unsettled : ℕ) (o : Outcome) (m w v : Chains) (l : Option Link) → IsLinkOf unsettled o m l → IsLinked l m w → LosesChains (dots_taken o) w v → Hands o (kept_chain m) (kept_chain v)
hands_on unsettled o m w v l is put lost c =
    ap listed (lost c)
    ∙ (has_lost (is_counted (dots_taken o) c) (get nat_cmp w c)
    ∙ ap (cond (is_counted (dots_taken o) c) []) (ap listed (put c) ∙ link_has unsettled o m l c is))

long_lost : (b : Bool) (rs : Runs) → AreLong rs → AreLong (cond b [] rs)
long_lost true rs a = tt
long_lost false rs a = a

long_passed : (o : Outcome) (f : ℕ → Runs) (c : ℕ) → ((x : ℕ) → AreLong (f x)) → AreLong (passed o f c)
long_passed (outcomes_are.Replaced new old) f c long = go (nat_eq c new.count)
  where
    go : (b : Bool) → AreLong (cond b (handed (f old.count) old.count) (f c))
    go true = long_handed (f old.count) old.count (long old.count)
    go false = long c
long_passed _ f c long = long c

pub stays_long : (o : Outcome) (m v : Chains) → Hands o (kept_chain m) (kept_chain v) → AreChains m → AreChains v
stays_long o m v hands long c = subst AreLong (sym (hands c)) (long_lost (is_counted (dots_taken o) c) (passed o (kept_chain m) c) (long_passed o (kept_chain m) c long))

-- ---- no count above the last one has a chain

pub over_next : (c k : ℕ) → k < c → nat_eq c k ≡ false
over_next c k p = grind (arith, nat_tests)

unless : (b : Bool) (x : Runs) → x ≡ [] → cond b [] x ≡ []
unless true x e = refl
unless false x e = e

other_one : (b : Bool) (x y : Runs) → b ≡ false → y ≡ [] → cond b x y ≡ []
other_one true x y e f = let g : true ≡ false = e in absurd (cc)
other_one false x y e f = f

above_new : (h : History) (e : Entry) (new old : Dot) (c : ℕ) → IsLegal (Then h e) → e.outcome ≡ outcomes_are.Replaced new old → count (Then h e) < c → nat_eq c new.count ≡ false
above_new h e new old c l is above =
    let next : new.count ≡ count h + 1 = ap (λ (d : Dot). d.count) (replaced_parts h e new old l is).0 in
    let most : count (Then h e) ≡ count h + 1 = count-then h e (ap is_reborn is) ∙ ap (λ o. count h + counts_used o) is in
    over_next c new.count (omega (arith, above, next, most))

before : (h : History) (e : Entry) (c : ℕ) → is_reborn e.outcome ≡ false → count (Then h e) < c → count h < c
before h e c a above = let most = count-then h e a in omega (arith, above, most)

pub few_then : (h : History) (e : Entry) (unsettled : ℕ) (f g : ℕ → Runs) → IsLegal (Then h e) → is_reborn e.outcome ≡ false → AreBelow (count h) unsettled f → Hands e.outcome f g → AreBelow (count (Then h e)) unsettled g
few_then h e unsettled f g l a few hands c above over = hands c ∙ unless (is_counted (dots_taken e.outcome) c) (passed e.outcome f c) (go e.outcome refl)
  where
    go : (o : Outcome) → e.outcome ≡ o → passed o f c ≡ []
    go (outcomes_are.Replaced new old) is = other_one (nat_eq c new.count) (handed (f old.count) old.count) (f c) (above_new h e new old c l is above) (few c (before h e c a above) over)
    go _ is = few c (before h e c a above) over

chain-then : (h : History) (e : Entry) (c : ℕ) → chain (Then h e) c ≡ chain_after e.outcome (chain h) c
unfolding chain
chain-then h e c = refl

-- ---- each own row that is shown has its chain

left : (b : Bool) (x : Runs) → b ≡ false → x ≡ cond b [] x
left true x e = let g : true ≡ false = e in absurd (cc)
left false x e = refl

same_passed : (o : Outcome) (f g : ℕ → Runs) (c : ℕ) → is_reborn o ≡ false → f c ≡ g c → AllByRecursion (λ (x : Dot). f x.count ≡ g x.count) (dots_taken o) → is_counted (dots_taken o) c ≡ false → passed o f c ≡ chain_after o g c
same_passed (outcomes_are.Replaced new old) f g c plain here olds none =
    (λ i. cond (nat_eq c new.count) (handed (olds.0 i) old.count) (here i))
    ∙ ap (cond (nat_eq c new.count) (handed (g old.count) old.count)) (left (nat_eq c old.count) (g c) (or_parts (nat_eq c old.count) false none).0)
same_passed (outcomes_are.Reborn ps) f g c plain here olds none = absurd (cc)
same_passed _ f g c plain here olds none = here

none_counted : (h : History) (ds : List Dot) (d : Dot) → AllByRecursion (IsOwnShown h) ds → d.replica ≡ own h → has_dot ds d ≡ false → is_counted ds d.count ≡ false
none_counted h [] d a o f = refl
none_counted h (x ∷ xs) d a o f =
    let parts = or_parts (same_dot d x) (has_dot xs d) f in
    or_from (nat_eq d.count x.count) (is_counted xs d.count) (go (nat_eq d.count x.count) refl parts.0) (none_counted h xs d a.1 o parts.1)
  where
    go : (b : Bool) → nat_eq d.count x.count ≡ b → same_dot d x ≡ false → b ≡ false
    go false p g = refl
    go true p g =
        let same : d ≡ x = λ i. record { replica = (o ∙ sym a.0.own) i; count = eqb-true d.count x.count p i } in
        let both : true ≡ false = sym (same_dot-refl d) ∙ (ap (same_dot d) same ∙ g) in
        absurd (cc)

-- those of the rows that are taken out
pub taken_have : (h : History) (m : Chains) (ds : List Dot) → HasChains h m → AllByRecursion (IsOwnShown h) ds → AllByRecursion (λ (x : Dot). kept_chain m x.count ≡ chain h x.count) ds
taken_have h m [] has_chains a = tt
taken_have h m (x ∷ xs) has_chains a = (has_chains x a.0.row a.0.own a.0.shown, taken_have h m xs has_chains a.1)

none_above : (h : History) (ds : List Dot) (c : ℕ) → IsLegal h → AllByRecursion (IsOwnShown h) ds → count h < c → is_counted ds c ≡ false
none_above h [] c l a above = refl
none_above h (x ∷ xs) c l a above =
    let low = counted h x l a.0 in
    or_from (nat_eq c x.count) (is_counted xs c) (over_next c x.count (omega (arith, low, above))) (none_above h xs c l a.1 above)

-- a count that neither goes nor is new keeps its chain
keeps : (h : History) (e : Entry) (m v : Chains) (c : ℕ) → IsLegal (Then h e) → is_reborn e.outcome ≡ false → HasChains h m → Hands e.outcome (kept_chain m) (kept_chain v) → kept_chain m c ≡ chain h c → is_counted (dots_taken e.outcome) c ≡ false → kept_chain v c ≡ chain (Then h e) c
keeps h e m v c l plain has_chains hands here none =
    hands c
    ∙ (ap (λ b. cond b [] (passed e.outcome (kept_chain m) c)) none
    ∙ (same_passed e.outcome (kept_chain m) (chain h) c plain here (taken_have h m (dots_taken e.outcome) has_chains (taken_shown h e l)) none
    ∙ sym (chain-then h e c)))

pub unused_then : (h : History) (e : Entry) (m v : Chains) → IsLegal (Then h e) → is_reborn e.outcome ≡ false → HasChains h m → HasUnused h m → Hands e.outcome (kept_chain m) (kept_chain v) → HasUnused (Then h e) v
unused_then h e m v l a has_chains unused hands c above =
    let over = before h e c a above in
    keeps h e m v c l a has_chains hands (unused c over) (none_above h (dots_taken e.outcome) c l.0 (taken_shown h e l) over)

pub chains_then : (h : History) (e : Entry) (m v : Chains) → IsLegal (Then h e) → is_reborn e.outcome ≡ false → HasChains h m → HasUnused h m → Hands e.outcome (kept_chain m) (kept_chain v) → HasChains (Then h e) v
chains_then h e m v l a has_chains unused hands d r mine there =
    let parts = go (row_added e.step e.outcome d) refl (sym (own_shown h e d l a own_one) ∙ there) in
    keeps h e m v d.count l a has_chains hands parts.1 (none_counted h (dots_taken e.outcome) d (taken_shown h e l) own_one parts.0)
  where
    own_one : d.replica ≡ own h
    own_one = mine ∙ own-then h e (plain_step h e l a)

    at : (b : Bool) → has_dot (dots_taken e.outcome) d ≡ b → cond b None (shown h d) ≡ Some r → (has_dot (dots_taken e.outcome) d ≡ false) × (kept_chain m d.count ≡ chain h d.count)
    at true p f = absurd (cc)
    at false p f = (p, has_chains d r own_one f)

    go : (a : Option Row) → row_added e.step e.outcome d ≡ a → first_some a (cond (has_dot (dots_taken e.outcome) d) None (shown h d)) ≡ Some r → (has_dot (dots_taken e.outcome) d ≡ false) × (kept_chain m d.count ≡ chain h d.count)
    go (Some x) p f =
        let next : d.count ≡ count h + 1 = ap (λ (y : Dot). y.count) (added_next h e d x l p) in
        let above : count h < d.count = omega (arith, next) in
        (added_stays h e d x l p, unused d.count above)
    go None p f = at (has_dot (dots_taken e.outcome) d) refl f

-- ---- the older counts

more : (b x y z : Bool) → (b || y) ≡ (b || z) → (b || (x || y)) ≡ (b || (x || z))
more true x y z e = refl
more false x y z e = ap (λ w. x || w) e

leave : (b x z : Bool) → (x ≡ true → b ≡ true) → (b || z) ≡ (b || (x || z))
leave true x z f = refl
leave false true z f = let g : false ≡ true = f refl in absurd (cc)
leave false false z f = refl

-- what stands for a count above `unsettled` went before
told_same : (last unsettled n : ℕ) (ch : ℕ → Runs) (b : Bool) (ds : List Dot) → n ≤ last → last ≤ unsettled → ((c : ℕ) → unsettled < c → holds (ch c) n ≡ true → b ≡ true) → (b || goes ch (told_in unsettled ds) n) ≡ (b || goes ch ds n)
told_same last unsettled n ch b [] within most settled = refl
told_same last unsettled n ch b (d ∷ ds) within most settled = at (nat_le d.count unsettled) refl (told_same last unsettled n ch b ds within most settled)
  where
    stood : unsettled < d.count → (s : Bool) → nat_eq n d.count ≡ s → (s || holds (ch d.count) n) ≡ true → b ≡ true
    stood above true p f = let same = eqb-true n d.count p in absurd (omega (arith, within, most, above, same))
    stood above false p f = settled d.count above f

    at : (p : Bool) → nat_le d.count unsettled ≡ p → (b || goes ch (told_in unsettled ds) n) ≡ (b || goes ch ds n) → (b || goes ch (cond p (d ∷ told_in unsettled ds) (told_in unsettled ds)) n) ≡ (b || (stands_for ch d.count n || goes ch ds n))
    at true p ih = more b (stands_for ch d.count n) (goes ch (told_in unsettled ds) n) (goes ch ds n) ih
    at false p ih = ih ∙ leave b (stands_for ch d.count n) (goes ch ds n) (λ f. stood (leb-false d.count unsettled p) (nat_eq n d.count) refl f)

-- with what goes with the dots up to `unsettled`, the runs have what goes with all of them
goes_told : (last unsettled : ℕ) (m : Chains) (ds : List Dot) (gone old : Runs) (n : ℕ) → TakesIn last m (told_in unsettled ds) [] gone → AreSettled last unsettled (kept_chain m) old → last ≤ unsettled → 1 ≤ n
    → holds (old ++ gone) n ≡ (holds old n || (nat_le n last && goes (kept_chain m) ds n))
goes_told last unsettled m ds gone old n t settled most low =
    holds_append old gone n
    ∙ (ap (λ b. holds old n || b) (t n low)
    ∙ at (nat_le n last) refl)
  where
    at : (p : Bool) → nat_le n last ≡ p → (holds old n || (p && goes (kept_chain m) (told_in unsettled ds) n)) ≡ (holds old n || (p && goes (kept_chain m) ds n))
    at false p = refl
    at true p = told_same last unsettled n (kept_chain m) (holds old n) ds (leb-true n last p) most (λ c above f. settled c n low (leb-true n last p) above f)

-- of an entry that links no rows
pub others_gone : (last unsettled : ℕ) (m : Chains) (o : Outcome) (gone : Runs) → IsLinkOf unsettled o m None → TakesIn last m (told_in unsettled (dots_taken o)) [] gone → TellsGone last unsettled m o gone
others_gone last unsettled m (outcomes_are.Replaced new old_one) gone none t = absurd none
others_gone last unsettled m (outcomes_are.Removed ds) gone none t = λ old settled most n low. goes_told last unsettled m ds gone old n t settled most low
others_gone last unsettled m _ gone none t = λ old settled most n low. goes_told last unsettled m [] gone old n t settled most low

none_told : (b x z : Bool) → (x ≡ true → z ≡ true → b ≡ true) → (b || false) ≡ (b || (x && z))
none_told true x z f = refl
none_told false true true f = let g : false ≡ true = f refl refl in absurd (cc)
none_told false true false f = refl
none_told false false z f = refl

-- of an update
pub links_gone : (last unsettled : ℕ) (m : Chains) (o : Outcome) (l : Link) (gone : Runs) → IsLinkOf unsettled o m (Some l) → gone ≡ cond l.is_told (up_to last l.chain) [] → TellsGone last unsettled m o gone
links_gone last unsettled m (outcomes_are.Replaced new old_one) l gone hands is = λ old settled most n low.
    holds_append old gone n ∙ (ap (λ (rs : Runs). holds old n || holds rs n) is ∙ at old settled most n low l.is_told refl)
  where
    chain_is : (n : ℕ) → holds l.chain n ≡ holds (handed (kept_chain m old_one.count) old_one.count) n
    chain_is n = ap (λ (rs : Runs). holds rs n) hands.chain

    in_old : (old : Runs) → AreSettled last unsettled (kept_chain m) old → last ≤ unsettled → (n : ℕ) → 1 ≤ n → n ≤ last → l.is_told ≡ false → (nat_eq n old_one.count ≡ true) ⊎ (holds (kept_chain m old_one.count) n ≡ true) → holds old n ≡ true
    in_old old settled most n low within told (inl e) = let same = eqb-true n old_one.count e in absurd (omega (arith, within, most, hands.above told, same))
    in_old old settled most n low within told (inr f) = settled old_one.count n low within (hands.above told) f

    at : (old : Runs) → AreSettled last unsettled (kept_chain m) old → last ≤ unsettled → (n : ℕ) → 1 ≤ n → (b : Bool) → l.is_told ≡ b
        → (holds old n || holds (cond b (up_to last l.chain) []) n) ≡ (holds old n || (nat_le n last && holds (handed (kept_chain m old_one.count) old_one.count) n))
    at old settled most n low true told = ap (λ b. holds old n || b) (holds_up_to last n l.chain ∙ ap (λ b. nat_le n last && b) (chain_is n))
    at old settled most n low false told =
        none_told (holds old n) (nat_le n last) (holds (handed (kept_chain m old_one.count) old_one.count) n)
        (λ within f. in_old old settled most n low (leb-true n last within) told
        (or_cases (nat_eq n old_one.count) (holds (kept_chain m old_one.count) n) (sym (hands.same told n low) ∙ (chain_is n ∙ f))))
links_gone last unsettled m _ l gone none is = absurd (cc)

-- a chain that has no fewer runs than the one it comes from has but one count more
pub only_more : (chain rs : Runs) (c unsettled : ℕ) (b : Bool) → AreLong rs → chain ≡ handed rs c → b ≡ (nat_le c unsettled || nat_lt (length chain) (length rs)) → b ≡ false → (unsettled < c) × Counts (holds chain) (λ n. nat_eq n c || holds rs n)
only_more chain rs c unsettled b long is told none =
    let parts = or_parts (nat_le c unsettled) (nat_lt (length chain) (length rs)) (sym told ∙ none) in
    (leb-false c unsettled parts.0, go parts.1 (is_handed rs c long))
  where
    turned : (x y : Bool) → (x || y) ≡ (y || x)
    turned true true = refl
    turned true false = refl
    turned false true = refl
    turned false false = refl

    go : nat_lt (length chain) (length rs) ≡ false → IsHanded rs c → Counts (holds chain) (λ n. nat_eq n c || holds rs n)
    go shorter (inl f) = λ n low. ap (λ (xs : Runs). holds xs n) is ∙ (f n low ∙ turned (holds rs n) (nat_eq n c))
    go shorter (inr f) =
        let less : length chain < length rs = omega (arith, ap length is, f.1) in
        absurd (both_ways (nat_lt (length chain) (length rs)) shorter (lt-ltb (length chain) (length rs) less))

pub is_link : (unsettled : ℕ) (o : Outcome) (m : Chains) (new old : Dot) (l : Link) → o ≡ outcomes_are.Replaced new old → AreChains m → l.to ≡ new.count → l.chain ≡ handed (kept_chain m old.count) old.count
    → l.is_told ≡ (nat_le old.count unsettled || nat_lt (length l.chain) (length (kept_chain m old.count))) → IsLinkOf unsettled o m (Some l)
is_link unsettled o m new old l is long to chain told =
    subst (λ (p : Outcome). IsLinkOf unsettled p m (Some l)) (sym is)
    (record {
      to = to;
      chain = chain;
      above = λ none. (only_more l.chain (kept_chain m old.count) old.count unsettled l.is_told (long old.count) chain told none).0;
      same = λ none. (only_more l.chain (kept_chain m old.count) old.count unsettled l.is_told (long old.count) chain told none).1;
    })

goes_by_same : (o : Outcome) (f g : ℕ → Runs) (n : ℕ) → AllByRecursion (λ (x : Dot). f x.count ≡ g x.count) (dots_taken o) → goes_by o f n ≡ goes_by o g n
goes_by_same (outcomes_are.Replaced new old) f g n a = ap (λ (rs : Runs). holds (handed rs old.count) n) a.0
goes_by_same (outcomes_are.Removed ds) f g n a = goes_same ds a
  where
    goes_same : (ds : List Dot) → AllByRecursion (λ (x : Dot). f x.count ≡ g x.count) ds → goes f ds n ≡ goes g ds n
    goes_same [] a = refl
    goes_same (d ∷ ds) a = (λ i. (nat_eq n d.count || holds (a.0 i) n) || goes_same ds a.1 i)
goes_by_same _ f g n a = refl

older_is : (o : Outcome) (last : ℕ) (ch : ℕ → Runs) (f : ℕ → Bool) (n : ℕ) → renews_kept o ≡ false → (f n || (nat_le n last && goes_by o ch n)) ≡ older_after o last ch f n
older_is (outcomes_are.CutAt from to) last ch f n uncut = absurd (cc)
older_is (outcomes_are.Reborn ps) last ch f n uncut = absurd (cc)
older_is _ last ch f n uncut = refl

older-then : (h : History) (e : Entry) (n : ℕ) → older (Then h e) n ≡ older_after e.outcome (last_cut h) (chain h) (older h) n
unfolding older
older-then h e n = refl

pub older_then : (h : History) (e : Entry) (last : ℕ) (m : Chains) (old new : Runs) (n : ℕ) → IsLegal (Then h e) → renews_kept e.outcome ≡ false → HasChains h m → last ≡ last_cut h → Counts (holds old) (older h) → 1 ≤ n
    → holds new n ≡ (holds old n || (nat_le n last && goes_by e.outcome (kept_chain m) n)) → holds new n ≡ older (Then h e) n
older_then h e last m old new n l uncut has_chains same counts low after =
    after
    ∙ ((λ i. counts n low i || (nat_le n (same i) && goes_by_same e.outcome (kept_chain m) (chain h) n (taken_have h m (dots_taken e.outcome) has_chains (taken_shown h e l)) i))
    ∙ (older_is e.outcome (last_cut h) (chain h) (older h) n uncut
    ∙ sym (older-then h e n)))

there : (b : Bool) (x : Runs) (n : ℕ) → holds (cond b [] x) n ≡ true → holds x n ≡ true
there true x n e = let g : false ≡ true = e in absurd (cc)
there false x n e = e

both : (x p s : Bool) → p ≡ true → s ≡ true → (x || (p && s)) ≡ true
both x p s f g = (λ i. x || (f i && g i)) ∙ or_right x true refl

pub settled_then : (o : Outcome) (last unsettled : ℕ) (f g : ℕ → Runs) (old new : Runs) → AreSettled last unsettled f old → Hands o f g → ((n : ℕ) → 1 ≤ n → holds new n ≡ (holds old n || (nat_le n last && goes_by o f n))) → AreSettled last unsettled g new
settled_then o last unsettled f g old new settled hands after c n low within above has_it = after n low ∙ go o (there (is_counted (dots_taken o) c) (passed o f c) n (ap (λ (rs : Runs). holds rs n) (sym (hands c)) ∙ has_it))
  where
    kept : (x : Bool) → holds (f c) n ≡ true → (holds old n || x) ≡ true
    kept x t = or_left (holds old n) x (settled c n low within above t)

    go : (p : Outcome) → holds (passed p f c) n ≡ true → (holds old n || (nat_le n last && goes_by p f n)) ≡ true
    go (outcomes_are.Replaced new old_one) t = at (nat_eq c new.count) t
      where
        at : (b : Bool) → holds (cond b (handed (f old_one.count) old_one.count) (f c)) n ≡ true → (holds old n || (nat_le n last && holds (handed (f old_one.count) old_one.count) n)) ≡ true
        at true s = both (holds old n) (nat_le n last) (holds (handed (f old_one.count) old_one.count) n) (le-leb n last within) s
        at false s = kept (nat_le n last && holds (handed (f old_one.count) old_one.count) n) s
    go (outcomes_are.Removed ds) t = kept (nat_le n last && goes f ds n) t
    go _ t = kept (nat_le n last && false) t
