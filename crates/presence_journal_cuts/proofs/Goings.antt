-- What goes at an entry, and the chains after it.
use Rattle.std.proofs.Common.{◌≡◌, ℕ, Bool, true, false, cond, ◌&&◌, ◌||◌, nat_eq, nat_le, List, [], ◌∷◌, Option, Some, refl, sym, ◌∙◌, ap, subst}
use Rattle.std.specs.List.{AllByRecursion}
use Rattle.std.specs.BTreeMap.{get}
use Rattle.std.specs.Map.{lookup}
use Rattle.std.specs.Ordering.{nat_cmp}
use Rattle.presence_base.specs.declared.dots.Dot.{Dot}
use Rattle.dot_context.specs.Runs.{holds, AreLong}
use Rattle.dot_context.specs.Sets.{listed}
use Rattle.presence_journal.specs.declared.entry.Outcome.TheVariants as outcomes_are
use Rattle.presence_journal.specs.declared.entry.Outcome.{Outcome}
use Rattle.presence_journal.specs.declared.entry.Entry.{Entry}
use Rattle.presence_journal.specs.declared.entry.Start.{Start}
use Rattle.presence_journal.specs.History.{History, Begin, Then, cut_after, last_cut}
use Rattle.presence_journal.specs.Table.{IsStart, IsLegal}
use Rattle.presence_journal_cuts.specs.Chains.{Chains, AreChains, AreUpTo, Counts, kept_chain}
use Rattle.presence_journal_cuts.specs.Cuts.{chain_after, chain, goes, goes_by, older_after, older}
use Rattle.presence_journal_cuts.specs.Handing.{handed}
use Rattle.presence_journal_cuts.proofs.Handings.{long_handed}
use Rattle.presence_journal_cuts.proofs.Histories.{last_cut-begin, last_more}

abbrev Runs : Type 0
Runs = List (ℕ × ℕ)

shape : (f le x r : Bool) → ((f || (le && (x || false))) || (le && r)) ≡ (f || (le && (x || r)))
shape true le x r = refl
shape false true true r = refl
shape false true false r = refl
shape false false x r = refl

-- one dot more that goes
pub gone_more : (f g le : Bool) (ch : ℕ → Runs) (d : Dot) (ds : List Dot) (n : ℕ) → g ≡ (f || (le && goes ch (d ∷ []) n)) → (g || (le && goes ch ds n)) ≡ (f || (le && goes ch (d ∷ ds) n))
gone_more f g le ch d ds n e = ap (λ b. b || (le && goes ch ds n)) e ∙ shape f le (nat_eq n d.count || holds (ch d.count) n) (goes ch ds n)

goes_same : (f g : ℕ → Runs) (ds : List Dot) (n : ℕ) → ((c : ℕ) → f c ≡ g c) → goes f ds n ≡ goes g ds n
goes_same f g [] n e = refl
goes_same f g (d ∷ ds) n e = (λ i. (nat_eq n d.count || holds (e d.count i) n) || goes_same f g ds n e i)

goes_by_same : (o : Outcome) (f g : ℕ → Runs) (n : ℕ) → ((c : ℕ) → f c ≡ g c) → goes_by o f n ≡ goes_by o g n
goes_by_same (outcomes_are.Replaced new old) f g n e = ap (λ (rs : Runs). holds (handed rs old.count) n) (e old.count)
goes_by_same (outcomes_are.Removed ds) f g n e = goes_same f g ds n e
goes_by_same _ f g n e = refl

older_same : (o : Outcome) (k k' : ℕ) (f g : ℕ → Runs) (p q : ℕ → Bool) (n : ℕ) → k ≡ k' → ((c : ℕ) → f c ≡ g c) → p n ≡ q n → older_after o k f p n ≡ older_after o k' g q n
older_same (outcomes_are.CutAt from to) k k' f g p q n a b c = refl
older_same (outcomes_are.Replaced new old) k k' f g p q n a b c = λ i. c i || (nat_le n (a i) && goes_by_same (outcomes_are.Replaced new old) f g n b i)
older_same (outcomes_are.Removed ds) k k' f g p q n a b c = λ i. c i || (nat_le n (a i) && goes_same f g ds n b i)
older_same (outcomes_are.Reborn ps) k k' f g p q n a b c = refl
older_same _ k k' f g p q n a b c = λ i. c i || (nat_le n (a i) && false)

chain_same : (o : Outcome) (f g : ℕ → Runs) (c : ℕ) → ((x : ℕ) → f x ≡ g x) → chain_after o f c ≡ chain_after o g c
chain_same (outcomes_are.Replaced new old) f g c e = λ i. cond (nat_eq c new.count) (handed (e old.count i) old.count) (cond (nat_eq c old.count) [] (e c i))
chain_same (outcomes_are.Reborn ps) f g c e = refl
chain_same _ f g c e = e c

-- no run of a chain becomes hollow
pub long_after : (o : Outcome) (f : ℕ → Runs) (c : ℕ) → ((x : ℕ) → AreLong (f x)) → AreLong (chain_after o f c)
long_after (outcomes_are.Replaced new old) f c l = go (nat_eq c new.count) (nat_eq c old.count)
  where
    go : (a b : Bool) → AreLong (cond a (handed (f old.count) old.count) (cond b [] (f c)))
    go true b = long_handed (f old.count) old.count (l old.count)
    go false true = tt
    go false false = l c
long_after (outcomes_are.Reborn ps) f c l = tt
long_after _ f c l = l c

-- a walk's last cut, its chains and the runs that went are those of the history
pub record Gone (k : ℕ) (m : Chains) (rs : List (ℕ × ℕ)) (h : History) : Type 0 where
  pub cut : k ≡ last_cut h
  pub chained : (c : ℕ) → kept_chain m c ≡ chain h c
  pub long : AreChains m
  pub counts : Counts (holds rs) (older h)
  pub kept : AreUpTo k rs

kept_long : (xs : List (ℕ × List (ℕ × ℕ))) (c : ℕ) → AllByRecursion (λ x. AreLong x.1) xs → AreLong (listed (lookup (nat_eq c) xs))
kept_long [] c all = tt
kept_long (x ∷ xs) c all = go (nat_eq c x.0) (kept_long xs c all.1)
  where
    go : (b : Bool) → AreLong (listed (lookup (nat_eq c) xs)) → AreLong (listed (cond b (Some x.1) (lookup (nat_eq c) xs)))
    go true ih = all.0
    go false ih = ih

pub gone_start : (s : Start) (m : Chains) (rs : List (ℕ × ℕ)) → IsStart s → ((c : ℕ) → get nat_cmp m c ≡ lookup (nat_eq c) s.chains) → rs ≡ s.older → Gone s.last_cut m rs (Begin s)
unfolding chain older
gone_start s m rs start found e = record {
  cut = sym (last_cut-begin s);
  chained = λ c. ap listed (found c);
  long = λ c. subst (λ (o : Option (List (ℕ × ℕ))). AreLong (listed o)) (sym (found c)) (kept_long s.chains c start.chains);
  counts = λ n low. ap (λ (xs : List (ℕ × ℕ)). holds xs n) e;
  kept = subst (AreUpTo s.last_cut) (sym e) (start.older, start.older_low);
}

pub gone_then : (k k' : ℕ) (m m' : Chains) (rs rs' : Runs) (h : History) (e : Entry) → k' ≡ cut_after e.outcome k → Counts (holds rs') (older_after e.outcome k (kept_chain m) (holds rs)) → (AreChains m → AreUpTo k rs → AreUpTo (cut_after e.outcome k) rs')
    → ((c : ℕ) → kept_chain m' c ≡ chain_after e.outcome (kept_chain m) c) → Gone k m rs h → Gone k' m' rs' (Then h e)
unfolding chain older
gone_then k k' m m' rs rs' h e cuts counted kept chained g = record {
  cut = last_more k k' h e cuts g.cut;
  chained = λ c. chained c ∙ chain_same e.outcome (kept_chain m) (chain h) c g.chained;
  long = λ c. subst AreLong (sym (chained c)) (long_after e.outcome (kept_chain m) c g.long);
  counts = λ n low. counted n low ∙ older_same e.outcome k (last_cut h) (kept_chain m) (chain h) (holds rs) (older h) n g.cut g.chained (g.counts n low);
  kept = kept_at k' (sym cuts) (kept g.long g.kept);
}
  where
    kept_at : (x : ℕ) → cut_after e.outcome k ≡ x → AreUpTo (cut_after e.outcome k) rs' → AreUpTo x rs'
    kept_at x p a = subst (λ y. AreUpTo y rs') p a

-- no run of a chain of a legal history is hollow
pub chain_long : (h : History) → IsLegal h → (c : ℕ) → AreLong (chain h c)
unfolding chain
chain_long (Begin s) l c = kept_long s.chains c l.chains
chain_long (Then h e) l c = long_after e.outcome (chain h) c (chain_long h l.0)
