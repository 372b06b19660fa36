-- What is untold after a rebirth: all own rows, and nothing else is left of what was.
use Rattle.std.proofs.Common.{◌≡◌, ℕ, Bool, true, false, cond, List, [], ◌∷◌, Option, Some, None, refl, sym, ◌∙◌, ap, subst, arith}
use Rattle.std.specs.List.{IsDistinct}
use Rattle.std.specs.Map.{lookup, keys_of}
use Rattle.std.specs.BTreeMap.{get, is_at}
use Rattle.std.specs.Cmp.{eq_by_cmp_equiv}
use Rattle.std.specs.Ordering.{nat_cmp}
use Rattle.std.proofs.lemmas.Map.{lookup-none}
use Rattle.std.proofs.lemmas.Map.Entries.{none_past_head}
use Rattle.std.proofs.lemmas.Map.Keys.{IsDistinct-tail}
use Rattle.presence_base.specs.declared.dots.Replica.{Replica}
use Rattle.presence_base.specs.declared.dots.Dot.{Dot}
use Rattle.presence_base.specs.declared.row.Row.{Row}
use Rattle.presence_base.specs.Order.{dot_cmp, same_dot}
use Rattle.dot_context.specs.Sets.{listed}
use Rattle.dot_context.specs.Runs.{holds, AreLong}
use Rattle.delta_range.specs.Keeping.{Kept}
use Rattle.presence_journal.specs.declared.entry.Outcome.TheVariants as outcomes_are
use Rattle.presence_journal.specs.declared.entry.Outcome.{Outcome}
use Rattle.presence_journal.specs.History.{History, cut_after, last_cut, first_some, nothing_kept}
use Rattle.presence_journal.specs.Walk.{is_reborn, row_at}
use Rattle.presence_journal.proofs.Same.{dot_total}
use Rattle.presence_journal_cuts.specs.Cuts.{chain_after, chain, older_after, older}
use Rattle.presence_journal_known.specs.ByDot.{Alike}
use Rattle.presence_journal_cuts.specs.Chains.{AreUpTo, kept_chain}
use Rattle.presence_journal_cuts.specs.KeptDeltas.{KeepsAfter, AreKeptOf}
use Rattle.presence_journal_cuts.proofs.Histories.{recent_again}
use Rattle.presence_journal_cuts.specs.declared.untold.Untold.{Untold}
use Rattle.presence_journal_cuts.specs.Untold.{BeginsAgain}

-- the copies

-- f gives the rows that were copied so far, and the rest is still to be copied
pub record AreCopied (es rest : List (Dot × Row)) (f : Dot → Option Row) : Type 0 where
  pub distinct : IsDistinct same_dot (keys_of rest)
  pub here : (d : Dot) → lookup (same_dot d) es ≡ first_some (lookup (same_dot d) rest) (f d)

none_yet : (o : Option Row) → o ≡ first_some o None
none_yet None = refl
none_yet (Some r) = refl

pub none_copied : (es : List (Dot × Row)) (f : Dot → Option Row) → IsDistinct same_dot (keys_of es) → ((d : Dot) → f d ≡ None) → AreCopied es es f
none_copied es f once none = record {
  distinct = once;
  here = λ d. none_yet (lookup (same_dot d) es) ∙ ap (first_some (lookup (same_dot d) es)) (sym (none d));
}

pub more_copied : (es rest : List (Dot × Row)) (x : Dot × Row) (f g : Dot → Option Row) → ((d : Dot) → g d ≡ first_some (row_at (Some x) d) (f d)) → AreCopied es (x ∷ rest) f → AreCopied es rest g
more_copied es rest x f g put a = record {
  distinct = IsDistinct-tail same_dot x.0 (keys_of rest) a.distinct;
  here = λ d. a.here d ∙ (go d (same_dot d x.0) refl ∙ ap (first_some (lookup (same_dot d) rest)) (sym (put d)));
}
  where
    go : (d : Dot) (b : Bool) → same_dot d x.0 ≡ b → first_some (cond b (Some x.1) (lookup (same_dot d) rest)) (f d) ≡ first_some (lookup (same_dot d) rest) (first_some (cond (same_dot d x.0) (Some x.1) None) (f d))
    go d true e =
        let none : lookup (same_dot d) rest ≡ None = lookup-none (same_dot d) rest (none_past_head (eq_by_cmp_equiv dot_total) d x rest a.distinct e) in
        sym ((λ i. first_some (none i) (first_some (cond (e i) (Some x.1) None) (f d))))
    go d false e = ap (λ b. first_some (lookup (same_dot d) rest) (first_some (cond b (Some x.1) None) (f d))) (sym e)

pub all_copied : (es : List (Dot × Row)) (f : Dot → Option Row) → AreCopied es [] f → (d : Dot) → f d ≡ lookup (same_dot d) es
all_copied es f a d = sym (a.here d)

-- a rebirth

chain_again : (o : Outcome) (f : ℕ → List (ℕ × ℕ)) (c : ℕ) → is_reborn o ≡ true → chain_after o f c ≡ []
chain_again (outcomes_are.Reborn ps) f c a = refl
chain_again _ f c a = absurd (cc)

older_again : (o : Outcome) (last : ℕ) (f : ℕ → List (ℕ × ℕ)) (g : ℕ → Bool) (n : ℕ) → is_reborn o ≡ true → older_after o last f g n ≡ false
older_again (outcomes_are.Reborn ps) last f g n a = refl
older_again _ last f g n a = absurd (cc)

cut_again : (o : Outcome) (n : ℕ) → is_reborn o ≡ true → cut_after o n ≡ 0
cut_again (outcomes_are.Reborn ps) n a = refl
cut_again _ n a = absurd (cc)

kept_again : (o : Outcome) (Before : Kept → Type 0) (h : History) → is_reborn o ≡ true → KeepsAfter o Before h nothing_kept
kept_again (outcomes_are.Reborn ps) Before h a = refl
kept_again _ Before h a = absurd (cc)

pub begins_again : (o : Replica) (n : ℕ) (rows : List (Dot × Row)) (u : Untold) → u.own ≡ o → u.count ≡ n → u.last ≡ 0 → u.unsettled ≡ 0 → u.chains.entries ≡ [] → u.older.items ≡ [] → Alike (get dot_cmp u.rows) (λ d. lookup (same_dot d) rows) → u.kept ≡ nothing_kept
    → BeginsAgain o n rows u
unfolding chain older last_cut AreKeptOf
begins_again o n rows u own_is count_is last_is open_is no_chain none copies kept_is h e l a mine counted lists = record {
  chains = λ d s there shows. no_has d.count ∙ sym (chain_again e.outcome (chain h) d.count a);
  unused = λ c above. no_has c ∙ sym (chain_again e.outcome (chain h) c a);
  long = λ c. subst (λ (es : List (ℕ × List (ℕ × ℕ))). AreLong (listed (lookup (is_at (nat_cmp c)) es))) (sym no_chain) tt;
  few = λ c above over. no_has c;
  settled = λ c m low within above f. let g : false ≡ true = sym (ap (λ (rs : List (ℕ × ℕ)). holds rs m) (no_has c)) ∙ f in absurd (cc);
  unsettled = omega (arith, last_is);
  counts = λ m low. ap (λ (xs : List (ℕ × ℕ)). holds xs m) none ∙ sym (older_again e.outcome (last_cut h) (chain h) (older h) m a);
  low = subst (AreUpTo u.last) (sym none) (tt, refl);
  rows = λ d. copies d ∙ (lists d ∙ recent_again h e d l a);
  kept = subst (KeepsAfter e.outcome (AreKeptOf h) h) (sym kept_is) (kept_again e.outcome (AreKeptOf h) h a);
  last = last_is ∙ sym (cut_again e.outcome (last_cut h) a);
  own = own_is ∙ mine;
  count = count_is ∙ counted;
}
  where
    no_has : (c : ℕ) → kept_chain u.chains c ≡ []
    no_has c = ap (λ (es : List (ℕ × List (ℕ × ℕ))). listed (lookup (is_at (nat_cmp c)) es)) no_chain
