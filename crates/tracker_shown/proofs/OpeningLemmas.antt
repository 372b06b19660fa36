-- From nothing to the rows that a Start shows.
use Rattle.std.proofs.Common.{◌≡◌, ℕ, ◌+◌, Bool, true, false, cond, ◌&&◌, List, [], ◌∷◌, drop, Option, Some, None, refl, sym, ◌∙◌, ap, subst}
use Rattle.std.specs.Prelude.{is_none}
use Rattle.replica_status.specs.Boards.{standing_in}
use Rattle.replica_status.specs.Table.{status_of}
use Rattle.replica_status.specs.declared.status.Status.{Status}
use Rattle.replica_status.specs.declared.status.Status.TheVariants as status_is
use Rattle.presence_base.specs.declared.dots.Replica.{Replica}
use Rattle.presence_base.specs.declared.dots.Dot.{Dot}
use Rattle.presence_base.specs.declared.row.Row.{Row}
use Rattle.presence_base.specs.Order.{same_replica}
use Rattle.orswot_core.specs.Telling.{covers, live_row}
use Rattle.orswot_core.specs.Checks.{IsTold}
use Rattle.orswot_core.proofs.CutFacts.{cut_tells, cut_told}
use Rattle.presence_journal.specs.declared.rows.Place.{Place}
use Rattle.presence_journal.specs.declared.entry.Start.{Start}
use Rattle.presence_journal.specs.History.{Begin, own, is_up, status, standing, row, live, removed, shown}
use Rattle.tracker_shown.specs.declared.stand.Holder.{Holder}
use Rattle.tracker_shown.specs.declared.shown.Shown.{Shown}
use Rattle.tracker_shown.specs.Turns.{IsListOf}
use Rattle.tracker_shown.specs.Kept.{Kept, kept_at, IsNothing, IsSet, IsShownOf}
use Rattle.tracker_shown.specs.ShownTurns.{set_all, PutsAll}
use Rattle.tracker_shown.specs.Opening.{up_rows, PutsUp}
use Rattle.tracker_shown.proofs.TurnLemmas.{shown_from}

-- the status of a replica at a Start

pub own_up : (s : Start) (r : Replica) → same_replica r s.own ≡ true → true ≡ is_up (status (Begin s) r)
unfolding status own
own_up s r e = sym (ap (λ b. is_up (cond b status_is.Up (status_of (standing (Begin s) r)))) e)

pub other_up : (s : Start) (r : Replica) (x : Status) → same_replica r s.own ≡ false → x ≡ status_of (standing_in s.standings r) → is_up x ≡ is_up (status (Begin s) r)
unfolding status own standing
other_up s r x e is = ap is_up is ∙ sym (ap (λ b. is_up (cond b status_is.Up (status_of (standing_in s.standings r)))) e)

-- what is kept once those of the first i rows are set that are up, and what is left to set
abbrev pub UpTo : Start → List (Dot × Row) → ℕ → Kept → Kept → Type 0
UpTo s xs i m n =
    (w : Holder) (t : List ℕ) (p : Place)
    → set_all (λ r. Some r) s.own (up_rows s (drop i xs)) w t p (kept_at n w t p) ≡ set_all (λ r. Some r) s.own (up_rows s xs) w t p (kept_at m w t p)

pub up_more : (s : Start) (xs : List (Dot × Row)) (i : ℕ) (x : Dot × Row) (m k n : Kept) → drop i xs ≡ x ∷ drop (i + 1) xs → PutsUp s (x ∷ []) k n → UpTo s xs i m k → UpTo s xs (i + 1) m n
up_more s xs i x m k n at one told w t p =
    ap (set_all (λ r. Some r) s.own rest w t p) (one w t p)
    ∙ (go (is_up (status (Begin s) x.0.replica))
    ∙ (ap (λ ys. set_all (λ r. Some r) s.own (up_rows s ys) w t p (kept_at k w t p)) (sym at) ∙ told w t p))
  where
    rest : List (Dot × Row)
    rest = up_rows s (drop (i + 1) xs)

    go : (b : Bool) → set_all (λ r. Some r) s.own rest w t p (set_all (λ r. Some r) s.own (cond b (x ∷ []) []) w t p (kept_at k w t p)) ≡ set_all (λ r. Some r) s.own (cond b (x ∷ rest) rest) w t p (kept_at k w t p)
    go true = refl
    go false = refl

-- one row, where it is up and where it isn't
pub one_put : (s : Start) (x : Dot × Row) (m n : Kept) → is_up (status (Begin s) x.0.replica) ≡ true → IsSet s.own x.0 x.1 (Some x.1) m n → PutsUp s (x ∷ []) m n
one_put s x m n up set w t p = set w t p ∙ ap (λ b. set_all (λ r. Some r) s.own (cond b (x ∷ []) []) w t p (kept_at m w t p)) (sym up)

pub one_skipped : (s : Start) (x : Dot × Row) (m : Kept) → is_up (status (Begin s) x.0.replica) ≡ false → PutsUp s (x ∷ []) m m
one_skipped s x m up w t p = ap (λ b. set_all (λ r. Some r) s.own (cond b (x ∷ []) []) w t p (kept_at m w t p)) (sym up)

pub up_end : (s : Start) (xs : List (Dot × Row)) (i : ℕ) (m n : Kept) → drop i xs ≡ [] → UpTo s xs i m n → PutsUp s xs m n
up_end s xs i m n e told w t p = ap (λ ys. set_all (λ r. Some r) s.own (up_rows s ys) w t p (kept_at n w t p)) (sym e) ∙ told w t p

-- a row of a Start is live
alive : (b : Bool) (o : Option Row) → o ≡ cond (b && is_none o) None o
alive true None = refl
alive true (Some r) = refl
alive false o = refl

shown_at : (s : Start) (d : Dot) → cond (is_up (status (Begin s) d.replica)) (live_row s.content d) None ≡ shown (Begin s) d
unfolding shown live removed row
shown_at s d = ap (λ o. cond (is_up (status (Begin s) d.replica)) o None) (alive (covers s.content d) (live_row s.content d))

up_listed : (s : Start) → IsTold s.content → IsListOf (shown (Begin s)) (up_rows s s.content.live)
up_listed s told =
    let picks : Replica → Bool = λ r. is_up (status (Begin s) r) in
    record {
      found = λ d. (cut_tells picks s.content d).1 ∙ shown_at s d;
      once = (cut_told picks s.content told).once;
    }

own-begin : (s : Start) → s.own ≡ own (Begin s)
unfolding own
own-begin s = refl

pub opened : (s : Start) (x : Shown) (m : Kept) (live : List (Dot × Row)) → IsNothing m → x.own ≡ s.own → live ≡ s.content.live → IsTold s.content → PutsUp s live m x.rows → IsShownOf (Begin s) x
opened s x m live nothing mine is told puts =
    shown_from (Begin s) x m (up_rows s s.content.live) nothing
    (subst (λ xs. PutsAll x.own (up_rows s xs) m x.rows) is (subst (λ o. PutsAll o (up_rows s live) m x.rows) (sym mine) puts))
    (mine ∙ own-begin s) (up_listed s told)
