-- Going over the entries with what came before each.
use Rattle.std.proofs.Common.{◌≡◌, ℕ, zero, suc, ◌+◌, ◌<◌, ◌≤◌, List, [], ◌∷◌, length, get_or, take, drop, take-append-drop, refl, sym, ◌∙◌, ap, subst, arith, add-one}
use Rattle.presence_base.specs.declared.dots.Replica.{Replica}
use Rattle.presence_base.specs.declared.dots.Dot.{Dot}
use Rattle.orswot_core.specs.Sets.{DotRows}
use Rattle.presence_journal.specs.declared.entry.Entry.{Entry}
use Rattle.presence_journal.specs.declared.entry.Start.{Start}
use Rattle.presence_journal.specs.History.{History, Begin, Then, onto, own, own_after, count, count_after, next_dot}
use Rattle.presence_journal.specs.Table.{IsLegal}
use Rattle.presence_journal.proofs.Walking.{IsCounted, counted_start, counted_more, own_more}
use Rattle.presence_journal.proofs.HistoryLemmas.{legal_before, onto-append}
use Rattle.presence_journal.proofs.Diffs.{legal_at}
use Rattle.presence_journal_known.specs.Walked.{Holds}
use Rattle.presence_journal_known.proofs.StatusLemmas.{own-begin}

front_suc : (h : History) (es : List Entry) (i : ℕ) (e : Entry) → i < length es → e ≡ get_or es i e → onto h (take (suc i) es) ≡ Then (onto h (take i es)) e
front_suc h [] i e l is = absurd (omega arith)
front_suc h (x ∷ es) zero e l is = ap (λ y. Then h y) (sym is)
front_suc h (x ∷ es) (suc n) e l is = front_suc (Then h x) es n e (omega arith) is

-- the history after one more entry
pub front_next : (h : History) (es : List Entry) (i : ℕ) (e : Entry) → i < length es → e ≡ get_or es i e → onto h (take (i + 1) es) ≡ Then (onto h (take i es)) e
front_next h es i e l is = ap (λ n. onto h (take n es)) (add-one i) ∙ front_suc h es i e l is

pub front_all : (h : History) (es : List Entry) (i : ℕ) → length es ≤ i → onto h (take i es) ≡ onto h es
front_all h [] i l = nil i
  where
    nil : (i : ℕ) → onto h (take i []) ≡ onto h []
    nil zero = refl
    nil (suc i) = refl
front_all h (x ∷ es) zero l = absurd (omega arith)
front_all h (x ∷ es) (suc i) l = front_all (Then h x) es i (omega arith)

-- the set and the own count after so many entries
pub record WalkedTo (s : Start) (es : List Entry) (i : ℕ) (set : DotRows) (o : Replica) (used : ℕ) : Type 0 where
  pub mine : o ≡ own (onto (Begin s) (take i es))
  pub holds : Holds (onto (Begin s) (take i es)) set
  pub counted : IsCounted used (onto (Begin s) (take i es))

pub walked_none : (s : Start) (es : List Entry) (set : DotRows) → IsLegal (onto (Begin s) es) → Holds (Begin s) set → WalkedTo s es 0 set s.own s.count
walked_none s es set l holds = record { mine = sym (own-begin s); holds = holds; counted = counted_start s (legal_before (Begin s) es l) }

pub walked_more : (s : Start) (es : List Entry) (i : ℕ) (e : Entry) (set : DotRows) (o p : Replica) (used more : ℕ) → IsLegal (onto (Begin s) es) → i < length es → e ≡ get_or es i e → o ≡ own (onto (Begin s) (take i es)) → IsCounted used (onto (Begin s) (take i es)) → p ≡ own_after e.step o → more ≡ count_after e.outcome used → Holds (Then (onto (Begin s) (take i es)) e) set → WalkedTo s es (i + 1) set p more
walked_more s es i e set o p used more l lt is mine counted owned m holds =
    let next = front_next (Begin s) es i e lt is in
    record {
      mine = (owned ∙ own_more o (onto (Begin s) (take i es)) e mine) ∙ ap own (sym next);
      holds = subst (λ (h : History). Holds h set) (sym next) holds;
      counted = subst (λ (h : History). IsCounted more h) (sym next)
          (subst (λ (n : ℕ). IsCounted n (Then (onto (Begin s) (take i es)) e)) (sym m)
          (counted_more used (onto (Begin s) (take i es)) e (legal_at (Begin s) es i e lt is l) counted));
    }

-- the next own dot
pub next_own : (h : History) (o : Replica) (n : ℕ) → o ≡ own h → n ≡ count h → ◌≡◌ {A = Dot} (record { replica = o; count = n + 1 }) (next_dot h)
next_own h o n mine c = λ i. record { replica = mine i; count = c i + 1 }

-- the entry at a place
pub entry_at : (es : List Entry) (i : ℕ) → i < length es → (e : Entry) × (e ≡ get_or es i e)
entry_at [] i l = absurd (omega arith)
entry_at (x ∷ es) zero l = (x, refl)
entry_at (x ∷ es) (suc n) l = entry_at es n (omega arith)

-- what is left after one more entry
pub front_rest : (h : History) (es : List Entry) (i : ℕ) (e : Entry) → i < length es → e ≡ get_or es i e → onto (Then (onto h (take i es)) e) (drop (i + 1) es) ≡ onto h es
front_rest h es i e l is =
    ap (λ g. onto g (drop (i + 1) es)) (sym (front_next h es i e l is))
    ∙ (sym (onto-append h (take (i + 1) es) (drop (i + 1) es))
    ∙ ap (onto h) (take-append-drop (i + 1) es))
