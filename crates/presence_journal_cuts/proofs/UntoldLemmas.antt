-- What is kept, at the beginning and entry by entry.
use Rattle.std.proofs.Common.{◌≡◌, ℕ, ◌+◌, ◌<◌, ◌≤◌, ◌^◌, true, false, cond, ◌&&◌, nat_eq, nat_le, is_none, List, [], Option, None, Result, Ok, Err, OnOk, OnErr, refl, sym, ◌∙◌, ap, subst, arith}
use Rattle.std.specs.Prelude.{option_map}
use Rattle.std.specs.List.{list_all}
use Rattle.std.specs.BTreeMap.{get, is_at}
use Rattle.std.specs.List.Sorted.{IsStrictlySortedBy}
use Rattle.std.specs.Map.{lookup, keys_of}
use Rattle.std.specs.Ordering.{nat_cmp}
use Rattle.presence_base.specs.declared.dots.Replica.{Replica}
use Rattle.presence_base.specs.declared.dots.Dot.{Dot}
use Rattle.presence_base.specs.declared.row.Row.{Row}
use Rattle.presence_base.specs.Order.{dot_cmp}
use Rattle.dot_context.specs.Runs.{holds, AreRuns, AreLong}
use Rattle.dot_context.specs.Sets.{listed}
use Rattle.orswot_core.specs.declared.form.Form.{Form}
use Rattle.orswot_core.specs.Telling.{ToldValue}
use Rattle.orswot_core.specs.Full.{dot_of}
use Rattle.orswot_core.specs.Sets.{DotRows}
use Rattle.delta_range.specs.Deltas.{DeltaValue, telling_in, IsDelta, GoesOn}
use Rattle.delta_range.specs.Longest.{longest}
use Rattle.delta_range.specs.Keeping.{Kept as KeptDeltas, pushed, IsNext, from_count}
use Rattle.presence_journal.specs.declared.entry.Outcome.TheVariants as outcomes_are
use Rattle.presence_journal.specs.declared.entry.Start.{Start}
use Rattle.presence_journal.specs.declared.entry.Outcome.{Outcome}
use Rattle.presence_journal.specs.declared.entry.Entry.{Entry}
use Rattle.presence_journal.specs.History.{History, Begin, Then, begun, nothing_kept, start_of, own, count, counts_used, cut_after, last_cut, first_some, has_dot, row_added, live}
use Rattle.presence_journal.specs.Present.{dots_taken}
use Rattle.presence_journal.specs.Table.{IsLegal, IsStart}
use Rattle.presence_journal.proofs.HistoryLemmas.{own-then, count-then}
use Rattle.presence_journal.proofs.Walking.{count-limit}
use Rattle.presence_journal_known.specs.ByDot.{Alike}
use Rattle.presence_journal_cuts.specs.Chains.{Chains, AreChains, AreUpTo, Counts, kept_chain, recent_after, rows_recent}
use Rattle.presence_journal_cuts.specs.Cuts.{chain, older_after, older, IsCut}
use Rattle.presence_journal_cuts.specs.Parting.{row_in, HasOwnRows, AreVacant}
use Rattle.presence_journal_cuts.specs.ToldParts.{row_of_count}
use Rattle.presence_journal_cuts.specs.KeptDeltas.{IsPushed, AreKeptOf, renews_kept}
use Rattle.presence_journal_cuts.proofs.Histories.{CutsHere, cuts_here, last_cut-begin, last_more, own_live, recent-begin, recent-more}
use Rattle.presence_journal_cuts.proofs.Goings.{Gone, gone_start}
use Rattle.presence_journal_cuts.proofs.Keeping.{cut_keeps, cut_is}
use Rattle.presence_journal_cuts.proofs.Vacating.{own_rows}
use Rattle.presence_journal_cuts.proofs.KeptLemmas.{kept-begin, kept_cut, goes_on_from}
use Rattle.presence_journal_cuts.specs.declared.untold.Untold.{Untold}
use Rattle.presence_journal_cuts.specs.Untold.{HasChains, HasUnused, AreBelow, AreSettled, IsUntoldOf, IsKeptFrom, IsOfOne, CanFollow, Follows, Stays}
use Rattle.presence_journal_cuts.specs.Changes.{is_counted, SameChains, with_kept, KeepsCut, IsToldTo}
use Rattle.presence_journal_cuts.proofs.ChainLemmas.{Hands, passed, chains_then, unused_then, few_then}
use Rattle.presence_journal.specs.Walk.{is_reborn}
use Rattle.presence_journal_known.proofs.OwnLemmas.{plain_step}

abbrev Rows : Type 0
Rows = List (Dot × Row)

abbrev Kept : Type 0
Kept = List (ℕ × List (ℕ × ℕ))

-- where a journal begins
pub opens : (s : Start) (u : Untold) → IsStart s → u.own ≡ s.own → u.count ≡ s.count → u.last ≡ s.last_cut → u.last ≤ u.unsettled → ((c : ℕ) → u.unsettled < c → lookup (nat_eq c) s.chains ≡ None)
    → ((c : ℕ) → get nat_cmp u.chains c ≡ lookup (nat_eq c) s.chains) → u.older.items ≡ s.older → Alike (get dot_cmp u.rows) (rows_recent s s.content.live) → u.kept ≡ s.kept → IsUntoldOf (Begin s) u
unfolding own count
opens s u start own_is count_is last_is most none found older_is rows_are kept_is =
    let g : Gone s.last_cut u.chains u.older.items (Begin s) = gone_start s u.chains u.older.items start found older_is in
    record {
      chains = λ d r mine there. g.chained d.count;
      unused = λ c above. g.chained c;
      long = g.long;
      few = λ c above over. no_has c over;
      settled = λ c n low within over f. let both : false ≡ true = sym (ap (λ (rs : List (ℕ × ℕ)). holds rs n) (no_has c over)) ∙ f in absurd (cc);
      unsettled = most;
      counts = g.counts;
      low = subst (λ n. AreUpTo n u.older.items) (sym last_is) g.kept;
      rows = λ d. rows_are d ∙ sym (recent-begin s d);
      kept = kept-begin s u.kept kept_is;
      last = last_is ∙ sym (last_cut-begin s);
      own = own_is;
      count = count_is;
    }
  where
    no_has : (c : ℕ) → u.unsettled < c → kept_chain u.chains c ≡ []
    no_has c over = ap listed (found c ∙ none c over)

-- a new shard
pub begins : (r : Replica) (u : Untold) → u.own ≡ r → u.count ≡ 0 → u.last ≡ 0 → u.unsettled ≡ 0 → u.chains.entries ≡ [] → u.older.items ≡ [] → u.rows.entries ≡ [] → u.kept ≡ nothing_kept → IsUntoldOf (begun r) u
unfolding own count chain older
begins r u own_is count_is last_is open_is no_chain none no_row kept_is = record {
  chains = λ d s mine there. no_has d.count;
  unused = λ c above. no_has c;
  long = λ c. subst (λ (es : Kept). AreLong (listed (lookup (is_at (nat_cmp c)) es))) (sym no_chain) tt;
  few = λ c above over. no_has c;
  settled = λ c n low within above f. let g : false ≡ true = sym (ap (λ (rs : List (ℕ × ℕ)). holds rs n) (no_has c)) ∙ f in absurd (cc);
  unsettled = omega (arith, last_is);
  counts = λ n low. ap (λ (xs : List (ℕ × ℕ)). holds xs n) none;
  low = subst (AreUpTo u.last) (sym none) (tt, refl);
  rows = λ d. ap (λ (es : Rows). lookup (is_at (dot_cmp d)) es) no_row ∙ sym (recent-begin (start_of (begun r)) d);
  kept = kept-begin (start_of (begun r)) u.kept kept_is;
  last = last_is ∙ sym (last_cut-begin (start_of (begun r)));
  own = own_is;
  count = count_is;
}
  where
    no_has : (c : ℕ) → kept_chain u.chains c ≡ []
    no_has c = ap (λ (es : Kept). listed (lookup (is_at (nat_cmp c)) es)) no_chain

-- one entry more
pub record Takes (h : History) (u : Untold) (e : Entry) (v : Untold) : Type 0 where
  pub chains : HasChains (Then h e) v.chains
  pub long : AreChains v.chains
  pub unused : HasUnused (Then h e) v.chains
  pub few : AreBelow (count (Then h e)) v.unsettled (kept_chain v.chains)
  pub settled : AreSettled v.last v.unsettled (kept_chain v.chains) v.older.items
  pub unsettled : v.last ≤ v.unsettled
  pub counts : Counts (holds v.older.items) (older (Then h e))
  pub low : AreUpTo v.last v.older.items
  pub rows : Alike (get dot_cmp v.rows) (recent_after e (get dot_cmp u.rows))
  pub kept : AreKeptOf (Then h e) v.kept
  pub last : v.last ≡ cut_after e.outcome u.last
  pub own : v.own ≡ u.own
  pub count : v.count ≡ u.count + counts_used e.outcome

-- an entry that is no cut is no rebirth
pub uncut_plain : (o : Outcome) → renews_kept o ≡ false → is_reborn o ≡ false
uncut_plain (outcomes_are.Reborn ps) f = absurd (cc)
uncut_plain _ f = refl

pub rest_uncut : (o : Outcome) → ((from to : ℕ) → o ≡ outcomes_are.CutAt from to → ⊥) → is_reborn o ≡ false → renews_kept o ≡ false
rest_uncut (outcomes_are.CutAt from to) f a = absurd (f from to refl)
rest_uncut (outcomes_are.Reborn ps) f a = absurd (cc)
rest_uncut _ f a = refl

pub taken : (u v : Untold) (e : Entry) (h : History) → IsLegal (Then h e) → is_reborn e.outcome ≡ false → IsUntoldOf h u → Takes h u e v → IsUntoldOf (Then h e) v
taken u v e h l a k t = record {
  chains = t.chains;
  long = t.long;
  unused = t.unused;
  few = t.few;
  settled = t.settled;
  unsettled = t.unsettled;
  counts = t.counts;
  low = t.low;
  rows = recent-more (get dot_cmp u.rows) (get dot_cmp v.rows) h e l a t.rows k.rows;
  kept = t.kept;
  last = last_more u.last v.last h e t.last k.last;
  own = t.own ∙ (k.own ∙ sym (own-then h e (plain_step h e l a)));
  count = t.count ∙ (ap (λ n. n + counts_used e.outcome) k.count ∙ sym (count-then h e a));
}

-- a cut

none_lost : (m v : Chains) (o : Outcome) (from to : ℕ) → o ≡ outcomes_are.CutAt from to → v ≡ m → Hands o (kept_chain m) (kept_chain v)
none_lost m v o from to is same c = ap (λ (x : Chains). kept_chain x c) same ∙ ap (λ p. cond (is_counted (dots_taken p) c) [] (passed p (kept_chain m) c)) (sym is)

older_cut : (h : History) (e : Entry) (from to n : ℕ) → e.outcome ≡ outcomes_are.CutAt from to → older (Then h e) n ≡ false
unfolding older
older_cut h e from to n is = ap (λ o. older_after o (last_cut h) (chain h) (older h) n) is

to_count : (h : History) (e : Entry) (from to : ℕ) → IsLegal (Then h e) → e.outcome ≡ outcomes_are.CutAt from to → to ≡ count h
to_count h e from to l is = (subst (CutsHere h) is (cuts_here h e.step e.outcome l.1)).1

-- a cut changes no own row
live-cut : (h : History) (e : Entry) (from to : ℕ) (d : Dot) → IsLegal (Then h e) → e.outcome ≡ outcomes_are.CutAt from to → d.replica ≡ own h → live (Then h e) d ≡ live h d
live-cut h e from to d l is mine =
    own_live h e d l (ap is_reborn is) mine
    ∙ ap (λ o. first_some (row_added e.step o d) (cond (has_dot (dots_taken o) d) None (live h d))) is

rows_before : (h : History) (e : Entry) (from to : ℕ) (s : DotRows) → IsLegal (Then h e) → e.outcome ≡ outcomes_are.CutAt from to → HasOwnRows (Then h e) s → HasOwnRows h s
rows_before h e from to s l is has n =
    ap (λ r. row_in s r n) (sym same)
    ∙ (has n
    ∙ (ap (λ r. live (Then h e) (dot_of r n)) same
    ∙ live-cut h e from to (dot_of (own h) n) l is refl))
  where
    same : own (Then h e) ≡ own h
    same = own-then h e (plain_step h e l (ap is_reborn is))

pub told_to : (u v : Untold) (deltas : KeptDeltas) (e : Entry) (from to : ℕ) (s : DotRows) → e.outcome ≡ outcomes_are.CutAt from to → ((h : History) → IsUntoldOf h u → HasOwnRows h s → IsPushed (AreKeptOf h) h deltas) → IsToldTo to (with_kept u deltas) v → Follows u e s v
told_to u v deltas e from to s is push t h l has k =
    let hands : Hands e.outcome (kept_chain u.chains) (kept_chain v.chains) = none_lost u.chains v.chains e.outcome from to is t.chains in
    let opened : u.unsettled ≤ v.unsettled = t.unsettled in
    taken u v e h l (ap is_reborn is) k (record {
      chains = chains_then h e u.chains v.chains l (ap is_reborn is) k.chains k.unused hands;
      unused = unused_then h e u.chains v.chains l (ap is_reborn is) k.chains k.unused hands;
      long = subst AreChains (sym t.chains) k.long;
      few = λ c above over. few_then h e u.unsettled (kept_chain u.chains) (kept_chain v.chains) l (ap is_reborn is) k.few hands c above (omega (arith, over, opened));
      settled = λ c n low within above f.
          let is_to : to ≡ count h = to_count h e from to l is in
          let over : count h < c = omega (arith, above, t.above, is_to) in
          let none : false ≡ true = sym (ap (λ (rs : List (ℕ × ℕ)). holds rs n) (k.few c over (omega (arith, above, opened)))) ∙ (sym (ap (λ (x : Chains). holds (kept_chain x c) n) t.chains) ∙ f) in
          absurd (cc);
      unsettled = omega (arith, t.last, t.above);
      counts = λ n low. ap (λ (xs : List (ℕ × ℕ)). holds xs n) t.older ∙ sym (older_cut h e from to n is);
      low = subst (AreUpTo v.last) (sym t.older) (tt, refl);
      rows = λ d. ap (λ (es : Rows). lookup (is_at (dot_cmp d)) es) t.rows ∙ ap (λ o. recent_after (record { number = e.number; seat = e.seat; step = e.step; outcome = o }) (get dot_cmp u.rows) d) (sym is);
      kept = subst (AreKeptOf (Then h e)) (sym t.kept) (kept_cut h e deltas from to is (push h k (rows_before h e from to s l is (own_rows (Then h e) s has))));
      last = t.last ∙ ap (λ o. cut_after o u.last) (sym is);
      own = t.own;
      count = t.count ∙ (plus u.count ∙ ap (λ o. u.count + counts_used o) (sym is));
    })
  where
    plus : (n : ℕ) → n ≡ n + 0
    plus n = omega arith

-- once what it tells is kept
pub kept_to : (u v w : Untold) (e : Entry) (from to : ℕ) (s : DotRows) → e.outcome ≡ outcomes_are.CutAt from to → KeepsCut u s v → IsToldTo to v w → Follows u e s w
kept_to u v w e from to s is keeps t = told_to u w v.kept e from to s is keeps.pushed (subst (λ (x : Untold). IsToldTo to x w) keeps.same t)

-- what is cut goes on from what is kept
pub goes_on : (u : Untold) (d : DeltaValue) → IsOfOne u → GoesOn u.own u.last d → IsNext u.kept.last d
goes_on u d one next =
    goes_on_from one.history u.kept one.legal one.kept.kept d (record { owned = next.owned ∙ one.kept.own; begins = next.begins ∙ one.kept.last })

pub one_before : (u : Untold) (e : Entry) → CanFollow u e → IsOfOne u
one_before u e can = record { history = can.before; legal = can.legal.0; kept = can.kept }

-- what the next cut tells

abbrev told : Untold → List (ℕ × ℕ) → Rows → DeltaValue
told u runs rows = record { owner = u.own; from = u.last; to = u.count; older = runs; live = rows }

told_is : (h : History) (u : Untold) (free : List (ℕ × ℕ)) (rows : Rows) → IsUntoldOf h u → rows ≡ u.rows.entries
    → ◌≡◌ {A = DeltaValue} (record { owner = own h; from = last_cut h; to = count h; older = free; live = u.rows.entries }) (told u free rows)
told_is h u free rows k rows_are = λ i. record { owner = sym k.own i; from = sym k.last i; to = sym k.count i; older = free; live = sym rows_are i }

-- the runs without the counts of own rows
own_vacant : (h : History) (u : Untold) (s : DotRows) (gone free : List (ℕ × ℕ)) → IsUntoldOf h u → HasOwnRows h s → gone ≡ longest u.older.items → AreVacant (row_in s u.own) gone free → AreVacant (row_of_count h) (longest u.older.items) free
own_vacant h u s gone free k has gone_is v = record {
  counts = λ n. v.counts n ∙ (λ i. holds (gone_is i) n && is_none ((ap (λ r. row_in s r n) k.own ∙ has n) i));
  runs = λ a. v.runs (subst (AreRuns 0) (sym gone_is) a);
  below = λ end a. v.below end (ap (list_all (λ r. nat_le r.1 end)) gone_is ∙ a);
}

low_of : (h : History) (u : Untold) → IsUntoldOf h u → AreUpTo (last_cut h) u.older.items
low_of h u k = subst (λ n. AreUpTo n u.older.items) k.last k.low

pub told_keeps : (u : Untold) (row : ℕ → Option Row) (gone free : List (ℕ × ℕ)) (rows : Rows) → IsOfOne u → gone ≡ longest u.older.items → AreVacant row gone free → rows ≡ u.rows.entries → IsStrictlySortedBy dot_cmp (keys_of u.rows.entries) → IsDelta (told u free rows)
told_keeps u row gone free rows one gone_is vacant rows_are sorted =
    let h = one.history in
    subst IsDelta (told_is h u free rows one.kept rows_are)
    (cut_keeps h one.legal row u.older.items free u.rows.entries (low_of h u one.kept) (subst (λ (rs : List (ℕ × ℕ)). AreVacant row rs free) gone_is vacant) one.kept.rows sorted)

pub told_cut : (h : History) (u : Untold) (s : DotRows) (gone free : List (ℕ × ℕ)) (rows : Rows) → IsUntoldOf h u → HasOwnRows h s → gone ≡ longest u.older.items → AreVacant (row_in s u.own) gone free → rows ≡ u.rows.entries → IsStrictlySortedBy dot_cmp (keys_of u.rows.entries) → IsCut h (told u free rows)
told_cut h u s gone free rows k has gone_is vacant rows_are sorted =
    subst (IsCut h) (told_is h u free rows k rows_are)
    (cut_is h u.older.items free u.rows.entries (low_of h u k) k.counts (own_vacant h u s gone free k has gone_is vacant) k.rows sorted)

-- where nothing changes
pub stays : (u v : Untold) → v.own ≡ u.own → v.count ≡ u.count → v.last ≡ u.last → v.unsettled ≡ u.unsettled → SameChains u.chains v.chains → v.older.items ≡ u.older.items → Alike (get dot_cmp v.rows) (get dot_cmp u.rows) → v.kept ≡ u.kept → Stays u v
stays u v owns counts last opens_same chains older rows deltas h k = record {
  chains = λ d r mine there. same_has d.count ∙ k.chains d r mine there;
  long = λ c. subst (λ (o : Option (List (ℕ × ℕ))). AreLong (listed o)) (sym (chains c)) (k.long c);
  unused = λ c above. same_has c ∙ k.unused c above;
  few = λ c above over. same_has c ∙ k.few c above (omega (arith, over, opens_same));
  settled = λ c n low within above f.
      ap (λ (xs : List (ℕ × ℕ)). holds xs n) older
      ∙ k.settled c n low (omega (arith, within, last)) (omega (arith, above, opens_same)) (sym (ap (λ (rs : List (ℕ × ℕ)). holds rs n) (same_has c)) ∙ f);
  unsettled = omega (arith, last, opens_same, k.unsettled);
  counts = λ n low. ap (λ (xs : List (ℕ × ℕ)). holds xs n) older ∙ k.counts n low;
  low = subst (λ n. AreUpTo n v.older.items) (sym last) (subst (AreUpTo u.last) (sym older) k.low);
  rows = λ d. rows d ∙ k.rows d;
  kept = subst (AreKeptOf h) (sym deltas) k.kept;
  last = last ∙ k.last;
  own = owns ∙ k.own;
  count = counts ∙ k.count;
}
  where
    same_has : (c : ℕ) → kept_chain v.chains c ≡ kept_chain u.chains c
    same_has c = ap listed (chains c)

-- a count is left
pub count_room : (u : Untold) (e : Entry) → is_reborn e.outcome ≡ false → CanFollow u e → u.count + counts_used e.outcome ≤ 2 ^ 62
count_room u e a can =
    let h = can.before in
    let after = count-limit (Then h e) can.legal in
    omega (arith, after, can.kept.count, count-then h e a)

-- what an error leaves
pub err_leaves : {A E P : Type 0} (r : Result A E) → P → OnErr r P
err_leaves (Ok x) p = tt
err_leaves (Err e) p = p

-- what is told of the kept deltas
pub kept_from : (form : Form) (u : Untold) (n : ℕ) (o : Option ToldValue) → o ≡ option_map (telling_in form) (from_count form u.kept n) → (h : History) → IsUntoldOf h u → IsKeptFrom form h n o
kept_from form u n o is h k = record { kept = u.kept; of = k.kept; is = is }

-- once a cut is pushed, or memory was refused for it

pub cut_kept : {A E : Type 0} (r : Result A E) (u : Untold) (s : DotRows) (k : KeptDeltas) (d : DeltaValue) → ((h : History) → IsUntoldOf h u → HasOwnRows h s → IsCut h d) → IsDelta d → OnOk r (k ≡ pushed u.kept d) → OnOk r (KeepsCut u s (with_kept u k))
cut_kept (Ok x) u s k d cuts sound is = record {
  same = refl;
  pushed = λ h of has. record { before = u.kept; was = of.kept; delta = d; cut = cuts h of has; sound = sound; is = is };
}
cut_kept (Err e) u s k d cuts sound is = tt

pub cut_stays : {A E : Type 0} (r : Result A E) (u : Untold) (k : KeptDeltas) → OnErr r (k ≡ u.kept) → OnErr r (Stays u (with_kept u k))
cut_stays (Ok x) u k same = tt
cut_stays (Err e) u k same = stays u (with_kept u k) refl refl refl refl (λ c. refl) refl (λ d. refl) same
