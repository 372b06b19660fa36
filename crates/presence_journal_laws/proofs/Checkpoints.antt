-- All stays true of a Start that stands for a history, and is true of a new life.
use Rattle.std.proofs.Common.{◌≡◌, ℕ, List, ◌<◌, Bool, true, false, ◌&&◌, nat_lt, nat_le, refl, sym, ◌∙◌, ap, subst, arith, IsTrue, ltb-true, leb-true}
use Rattle.presence_base.specs.declared.dots.Replica.{Replica}
use Rattle.presence_base.specs.declared.dots.Dot.{Dot}
use Rattle.presence_base.specs.Names.{is_node_name}
use Rattle.presence_base.specs.Refs.{IsCount}
use Rattle.presence_base.specs.Order.{same_replica}
use Rattle.dot_context.specs.Runs.{holds}
use Rattle.orswot_core.specs.Full.{dot_of}
use Rattle.presence_journal.specs.declared.entry.Start.{Start}
use Rattle.presence_journal.specs.History.{History, Begin, begun, own, count, last_cut, status, is_gone, known, removed, row, shown, is_counted}
use Rattle.presence_journal.specs.Table.{IsLegal}
use Rattle.presence_journal.proofs.HistoryLemmas.{status-own}
use Rattle.presence_journal_cuts.specs.Cuts.{chain, older}
use Rattle.presence_journal_cuts.proofs.KeptLemmas.{begin-kept}
use Rattle.presence_journal_cuts.specs.Checkpoints.{IsCheckpoint}
use Rattle.presence_journal_laws.proofs.Covered.{begins_alike, keeps_counts}
use Rattle.presence_journal_laws.proofs.Shown.{keeps_shown, keeps_removed}
use Rattle.presence_journal_laws.proofs.Sound.{begins_legal}
use Rattle.presence_journal_laws.proofs.Told.{keeps_kept_deltas}
use Rattle.presence_journal_laws.specs.Deeds.{AllDeeds}
use Rattle.presence_journal_laws.specs.Truth.{AreDeeds, IsHonest, TellsTrue, IsOwners, IsShownAt, IsClosed, AreTrueKept, IsTrueOf}
use Rattle.presence_journal_laws.specs.DeedLaws.{CheckpointsStayTrue, LivesBeginTrue}
use Rattle.presence_journal_laws.proofs.Telling.{all_tells}

-- a Start says what its content tells
begin_honest : (deeds : AllDeeds) (s : Start) → TellsTrue deeds s.content → IsHonest deeds (Begin s)
unfolding known removed row
begin_honest deeds s t = record { row_made = t.row_made; known_used = t.used; removed_went = t.removed_went; targets_known = t.targets_told }

module _ (deeds : AllDeeds) (h : History) (s : Start) (t : IsTrueOf deeds h) (c : IsCheckpoint h s) where
  abbrev b : History
  b = Begin s

  same_own : own b ≡ own h
  same_own = (keeps_counts h s c).own

  same_count : count b ≡ count h
  same_count = (keeps_counts h s c).count

  same_last : last_cut b ≡ last_cut h
  same_last = (keeps_counts h s c).last_cut

  own_here : is_gone (status h (own h)) ≡ false
  own_here = ap is_gone (status-own h)

  removed_same : (n : ℕ) → removed b (dot_of (own b) n) ≡ removed h (dot_of (own h) n)
  removed_same n = ap (λ r. removed b (dot_of r n)) same_own ∙ keeps_removed h s c (dot_of (own h) n) own_here

  shown_same : (n : ℕ) → IsShownAt b n → IsShownAt h n
  shown_same n p = (p.0, sym (keeps_shown h s c (dot_of (own h) n)) ∙ (ap (λ r. shown b (dot_of r n)) (sym same_own) ∙ p.1))

  older_same : (n : ℕ) → 0 < n → older b n ≡ older h n
  older_same n pos = (begins_alike h s c).older n (omega (arith, pos))

  chain_same : (m n : ℕ) → IsShownAt b m → holds (chain b m) n ≡ holds (chain h m) n
  chain_same m n p = let q = shown_same m p in ap (λ (rs : List (ℕ × ℕ)). holds rs n) ((begins_alike h s c).chains (dot_of (own h) m) q.0 refl q.1)

  module _ (are : AreDeeds (deeds (own h))) where
    pub begin_closed : IsClosed (deeds (own h)) b
    begin_closed = record {
      older_low = λ n pos f. let p = t.closed.older_low n pos (sym (older_same n pos) ∙ f) in omega (arith, p, same_last);
      older_all = λ m n k u v. older_same n (are.targets_in m n k).0 ∙ t.closed.older_all m n k (omega (arith, u, same_last)) (omega (arith, v, same_last));
      older_closed = λ m n k f. let p = are.targets_in m n k in older_same n p.0 ∙ t.closed.older_closed m n k (sym (older_same m (omega (arith, p.1))) ∙ f);
      chain_first = λ m n p k. chain_same m n p ∙ t.closed.chain_first m n (shown_same m p) k;
      chain_closed = λ a m n p f k. chain_same a n p ∙ t.closed.chain_closed a m n (shown_same a p) (sym (chain_same a m p) ∙ f) k;
      chain_low = λ m n p pos f. t.closed.chain_low m n (shown_same m p) pos (sym (chain_same m n p) ∙ f);
      chain_unused = λ m n u pos. ap (λ (rs : List (ℕ × ℕ)). holds rs n) ((begins_alike h s c).unused m (omega (arith, u, same_count))) ∙ t.closed.chain_unused m n (omega (arith, u, same_count)) pos;
    }

    begin_owners : IsOwners (deeds (own h)) b
    begin_owners = record { used = t.owners.used ∙ sym same_count; went = λ n f. removed_same n ∙ t.owners.went n f }

    pub begin_true : IsTrueOf deeds b
    begin_true = record {
      legal = begins_legal h s c;
      honest = begin_honest deeds s (all_tells deeds h s.content t.legal t.honest c.stands.covers c.stands.rows);
      owners = subst (λ r. IsOwners (deeds r) b) (sym same_own) begin_owners;
      closed = subst (λ r. IsClosed (deeds r) b) (sym same_own) begin_closed;
      kept = λ k f. t.kept k ((keeps_kept_deltas h s c k).1 f);
    }

pub checkpoints_stay_true : CheckpointsStayTrue
checkpoints_stay_true deeds h s are t c = begin_true deeds h s t c (are (own h))

-- ---- a new life

begun_legal : (r : Replica) → IsTrue (is_node_name r.name) → IsCount r.incarnation → IsLegal (begun r)
begun_legal r name inc = record {
  name = name;
  incarnation = inc;
  number = omega arith;
  count = omega arith;
  content = refl;
  own_dots = λ d o. none d;
  cut = omega arith;
  older = tt;
  older_low = refl;
  chains = tt;
  kept = λ d g. tt;
  subscribers = refl;
  subscribers_once = refl;
  seated = omega arith;
}
  where
    none : (d : Dot) → false ≡ is_counted r 0 d
    none d = go (same_replica d.replica r) (nat_lt 0 d.count) (nat_le d.count 0) refl refl
      where
        go : (a x y : Bool) → nat_lt 0 d.count ≡ x → nat_le d.count 0 ≡ y → false ≡ (a && (x && y))
        go false x y p q = refl
        go true false y p q = refl
        go true true false p q = refl
        go true true true p q = let l = ltb-true 0 d.count p in let m = leb-true d.count 0 q in absurd (omega (arith, l, m))

pub lives_begin_true : LivesBeginTrue
unfolding known removed row count own shown chain older last_cut
lives_begin_true deeds r name inc none = record {
  legal = begun_legal r name inc;
  honest = record { row_made = λ d x f. absurd (cc); known_used = λ d f. absurd (cc); removed_went = λ d f. absurd (cc); targets_known = λ q c n f k. absurd (cc) };
  owners = subst (λ x. IsOwners x (begun r)) (sym none) (record { used = refl; went = λ n f. absurd (cc) });
  closed = subst (λ x. IsClosed x (begun r)) (sym none) (record {
    older_low = λ n p f. absurd (cc);
    older_all = λ c n f u v. absurd (cc);
    older_closed = λ c n f g. absurd (cc);
    chain_first = λ c n s f. absurd (cc);
    chain_closed = λ b c n s f g. absurd (cc);
    chain_low = λ b n s p f. absurd (cc);
    chain_unused = λ b n u p. refl;
  });
  kept = λ k f. subst (AreTrueKept deeds) (sym (begin-kept _ k f)) (record { short = tt; middle = tt; long = tt });
}
