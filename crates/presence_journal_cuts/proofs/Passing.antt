-- An entry that changes no own row and cuts nothing leaves what is untold as it is.
use Rattle.std.proofs.Common.{◌≡◌, ℕ, ◌+◌, Bool, true, false, ◌&&◌, ◌||◌, nat_le, List, [], ◌∷◌, Option, None, refl, sym, ◌∙◌, ap, arith}
use Rattle.std.specs.BTreeMap.{get}
use Rattle.presence_base.specs.declared.dots.Dot.{Dot}
use Rattle.presence_base.specs.declared.row.Row.{Row}
use Rattle.presence_base.specs.Order.{dot_cmp}
use Rattle.dot_context.specs.Runs.{holds}
use Rattle.presence_journal.specs.declared.entry.Outcome.TheVariants as outcomes_are
use Rattle.presence_journal.specs.declared.entry.Outcome.{Outcome}
use Rattle.presence_journal.specs.declared.entry.Entry.{Entry}
use Rattle.presence_journal.specs.History.{History, Then, counts_used}
use Rattle.presence_journal.specs.Table.{IsLegal}
use Rattle.presence_journal.proofs.HistoryLemmas.{is_quiet, quiet_plain}
use Rattle.presence_journal.proofs.Walking.{quiet_uses_none}
use Rattle.presence_journal_cuts.specs.Chains.{kept_chain, recent_after}
use Rattle.presence_journal_cuts.specs.Cuts.{goes_by}
use Rattle.presence_journal_cuts.specs.KeptDeltas.{renews_kept}
use Rattle.presence_journal_cuts.specs.declared.untold.Untold.{Untold}
use Rattle.presence_journal_cuts.specs.Untold.{IsUntoldOf}
use Rattle.presence_journal_cuts.proofs.Histories.{after_quiet}
use Rattle.presence_journal_cuts.proofs.KeptLemmas.{kept_other}
use Rattle.presence_journal_cuts.proofs.ChainLemmas.{Hands, chains_then, unused_then, few_then, older_then}
use Rattle.presence_journal_cuts.proofs.UntoldLemmas.{taken}
use Rattle.presence_journal_cuts.proofs.ChangeLemmas.{stays_last, no_cut}

-- no chain is handed on, and none goes
quiet_hands : (o : Outcome) (f : ℕ → List (ℕ × ℕ)) → is_quiet o ≡ true → Hands o f f
quiet_hands (outcomes_are.Replaced new old) f q = absurd (cc)
quiet_hands (outcomes_are.Removed (y ∷ ys)) f q = absurd (cc)
quiet_hands (outcomes_are.Removed []) f q = λ c. refl
quiet_hands _ f q = λ c. refl

none_goes : (o : Outcome) (f : ℕ → List (ℕ × ℕ)) (n : ℕ) → is_quiet o ≡ true → goes_by o f n ≡ false
none_goes (outcomes_are.Replaced new old) f n q = absurd (cc)
none_goes (outcomes_are.Removed (y ∷ ys)) f n q = absurd (cc)
none_goes (outcomes_are.Removed []) f n q = refl
none_goes _ f n q = refl

no_more : (x y : Bool) → x ≡ (x || (y && false))
no_more true y = refl
no_more false true = refl
no_more false false = refl

pub untold_passes : (h : History) (e : Entry) (u : Untold) → IsLegal (Then h e) → is_quiet e.outcome ≡ true → renews_kept e.outcome ≡ false → IsUntoldOf h u → IsUntoldOf (Then h e) u
untold_passes h e u l q uncut k =
    let hands : Hands e.outcome (kept_chain u.chains) (kept_chain u.chains) = quiet_hands e.outcome (kept_chain u.chains) q in
    taken u u e h l (quiet_plain e.outcome q) k (record {
      chains = chains_then h e u.chains u.chains l (quiet_plain e.outcome q) k.chains k.unused hands;
      long = k.long;
      unused = unused_then h e u.chains u.chains l (quiet_plain e.outcome q) k.chains k.unused hands;
      few = few_then h e u.unsettled (kept_chain u.chains) (kept_chain u.chains) l (quiet_plain e.outcome q) k.few hands;
      settled = k.settled;
      unsettled = k.unsettled;
      counts = λ n low. older_then h e u.last u.chains u.older.items u.older.items n l uncut k.chains k.last k.counts low (stay n);
      low = k.low;
      rows = λ d. sym (after_quiet e.step e.outcome d (get dot_cmp u.rows d) q) ∙ no_cut e.outcome _ uncut;
      kept = kept_other h e u.kept uncut k.kept;
      last = stays_last e.outcome u.last uncut;
      own = refl;
      count = plus u.count ∙ ap (λ n. u.count + n) (sym (quiet_uses_none e.outcome q));
    })
  where
    stay : (n : ℕ) → holds u.older.items n ≡ (holds u.older.items n || (nat_le n u.last && goes_by e.outcome (kept_chain u.chains) n))
    stay n = no_more (holds u.older.items n) (nat_le n u.last) ∙ ap (λ b. holds u.older.items n || (nat_le n u.last && b)) (sym (none_goes e.outcome (kept_chain u.chains) n q))

    plus : (n : ℕ) → n ≡ n + 0
    plus n = omega arith
