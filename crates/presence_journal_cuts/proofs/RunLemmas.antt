-- Runs of the counts that go.
use Rattle.std.proofs.Common.{◌≡◌, ℕ, Bool, true, false, ◌&&◌, ◌||◌, nat_eq, nat_le, List, [], ◌∷◌, ◌++◌, length, get_or, set, take, drop, zero, suc, ◌<◌, arith, refl, sym, ◌∙◌, ap, subst}
use Rattle.std.specs.List.{list_all}
use Rattle.dot_context.specs.Runs.{in_run, holds, AreLong}
use Rattle.delta_range.specs.Longest.{up_to}
use Rattle.delta_range.proofs.RunFacts.{long_append, long_up_to, holds_up_to, ends_up_to}
use Rattle.presence_journal_cuts.specs.Chains.{AreUpTo}

abbrev Runs : Type 0
Runs = List (ℕ × ℕ)

pub holds_append : (rs ss : Runs) (n : ℕ) → holds (rs ++ ss) n ≡ (holds rs n || holds ss n)
holds_append [] ss n = refl
holds_append (r ∷ rs) ss n = ap (λ b. in_run r n || b) (holds_append rs ss n) ∙ grouped (in_run r n) (holds rs n) (holds ss n)
  where
    grouped : (a b c : Bool) → (a || (b || c)) ≡ ((a || b) || c)
    grouped true b c = refl
    grouped false b c = refl

whole : (rs : Runs) → take (length rs) (rs ++ drop (length rs) rs) ≡ rs
whole [] = refl
whole (r ∷ rs) = ap (λ (xs : Runs). r ∷ xs) (whole rs)

-- runs that were lent and left alone
pub left_whole : (k : ℕ) (rs ss : Runs) → rs ≡ ss → k ≡ length ss → take k (rs ++ drop (length rs) ss) ≡ ss
left_whole k rs ss e f = (λ i. take (f i) (e i ++ drop (length (e i)) ss)) ∙ whole ss

-- the run at a place, put there again
pub put_again : (rs : Runs) (i : ℕ) (r : ℕ × ℕ) → i < length rs → r ≡ get_or rs i r → set rs i r ≡ rs
put_again [] i r within is = absurd (omega (arith, within))
put_again (x ∷ rs) zero r within is = ap (λ (y : ℕ × ℕ). y ∷ rs) is
put_again (x ∷ rs) (suc i) r within is = ap (λ (xs : Runs). x ∷ xs) (put_again rs i r (omega (arith, within)) is)

pub all_append : (p : ℕ × ℕ → Bool) (rs ss : Runs) → list_all p rs ≡ true → list_all p ss ≡ true → list_all p (rs ++ ss) ≡ true
all_append p [] ss a b = b
all_append p (r ∷ rs) ss a b = go (p r) a (λ f. all_append p rs ss f b)
  where
    go : (x : Bool) → (x && list_all p rs) ≡ true → (list_all p rs ≡ true → list_all p (rs ++ ss) ≡ true) → (x && list_all p (rs ++ ss)) ≡ true
    go true f ih = ih f
    go false f ih = f

-- runs up to a count, with more of them
pub more_up_to : (end : ℕ) (rs ss : Runs) → AreLong ss → AreUpTo end rs → AreUpTo end (rs ++ up_to end ss)
more_up_to end rs ss l k = (long_append rs (up_to end ss) k.0 (long_up_to end ss l), all_append (λ r. nat_le r.1 end) rs (up_to end ss) k.1 (ends_up_to end ss))

pub holds_more : (end n : ℕ) (rs ss : Runs) → holds (rs ++ up_to end ss) n ≡ (holds rs n || (nat_le n end && holds ss n))
holds_more end n rs ss = holds_append rs (up_to end ss) n ∙ ap (λ b. holds rs n || b) (holds_up_to end n ss)

-- the count of a dot and its chain, as far as they are at or below the end

gone_shape : (r le x c : Bool) → ((r || (le && x)) || (le && c)) ≡ (r || (le && ((x || c) || false)))
gone_shape true le x c = refl
gone_shape false true true c = refl
gone_shape false true false true = refl
gone_shape false true false false = refl
gone_shape false false x c = refl

pub dot_gone : (end n c : ℕ) (rs one mid new ch : Runs) → holds one n ≡ nat_eq n c → mid ≡ rs ++ up_to end one → new ≡ mid ++ up_to end ch → holds new n ≡ (holds rs n || (nat_le n end && ((nat_eq n c || holds ch n) || false)))
dot_gone end n c rs one mid new ch is e f =
    ap (λ (xs : Runs). holds xs n) f
    ∙ (holds_more end n mid ch
    ∙ (ap (λ b. b || (nat_le n end && holds ch n)) (ap (λ (xs : Runs). holds xs n) e ∙ (holds_more end n rs one ∙ ap (λ b. holds rs n || (nat_le n end && b)) is))
    ∙ gone_shape (holds rs n) (nat_le n end) (nat_eq n c) (holds ch n)))

pub dot_kept : (end : ℕ) (rs one mid new ch : Runs) → AreLong one → AreLong ch → mid ≡ rs ++ up_to end one → new ≡ mid ++ up_to end ch → AreUpTo end rs → AreUpTo end new
dot_kept end rs one mid new ch lo lc e f k = subst (AreUpTo end) (sym f) (more_up_to end mid ch lc (subst (AreUpTo end) (sym e) (more_up_to end rs one lo k)))

-- with no chain
nil_up_to : (end : ℕ) (rs : Runs) → rs ≡ rs ++ up_to end []
nil_up_to end [] = refl
nil_up_to end (r ∷ rs) = ap (λ (xs : Runs). r ∷ xs) (nil_up_to end rs)

pub none_more : (end : ℕ) (mid new : Runs) → new ≡ mid → new ≡ mid ++ up_to end []
none_more end mid new e = e ∙ nil_up_to end mid

-- what an update hands on, as far as it is at or below the end

pub handed_more : (end n : ℕ) (rs new lent ch : Runs) → lent ≡ ch → new ≡ rs ++ up_to end lent → holds new n ≡ (holds rs n || (nat_le n end && holds ch n))
handed_more end n rs new lent ch is e = ap (λ (xs : Runs). holds xs n) e ∙ (holds_more end n rs lent ∙ ap (λ (xs : Runs). holds rs n || (nat_le n end && holds xs n)) is)

pub handed_up_to : (end : ℕ) (rs new lent ch : Runs) → lent ≡ ch → AreLong ch → new ≡ rs ++ up_to end lent → AreUpTo end rs → AreUpTo end new
handed_up_to end rs new lent ch is l e k = subst (AreUpTo end) (sym e) (more_up_to end rs lent (subst AreLong (sym is) l) k)
