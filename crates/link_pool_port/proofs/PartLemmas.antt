-- A part that is cut short for a line.
use Rattle.std.proofs.Common.{◌≡◌, ℕ, ◌+◌, ◌<◌, ◌≤◌, suc, min, max, Bool, true, false, ◌||◌, not, cond, nat_lt, List, [], ◌∷◌, ◌++◌, length, Option, Some, None, refl, sym, ◌∙◌, ap, subst, arith, inl, inr}
use Rattle.std.specs.Prelude.{◌⊎◌, Result, Ok, Err, IfOk, IfErr, is_some}
use Rattle.std.specs.List.{filter}
use Rattle.std.proofs.lemmas.Bool.Decides.{nat_tests}
use Rattle.presence_base.specs.declared.dots.Dot.{Dot}
use Rattle.presence_base.specs.declared.row.Row.{Row}
use Rattle.presence_base.specs.Names.{guarded}
use Rattle.orswot_core.specs.declared.form.Form.{Form}
use Rattle.orswot_core.specs.declared.form.Form.TheVariants.{Two}
use Rattle.orswot_core.specs.Telling.{ToldValue, Range, run_ranges}
use Rattle.orswot_core.specs.Checks.{is_too_many_in, WhereItFits}
use Rattle.delta_range.specs.Deltas.{DeltaValue, telling_in, own_dots, IsDelta}
use Rattle.delta_range.specs.Fitting.{fits_line}
use Rattle.presence_journal.specs.History.{History}
use Rattle.presence_journal_cuts.specs.ToldParts.{IsPartWhereItFits}
use Rattle.presence_journal_cuts.specs.Parting.{is_up_to, up_to}
use Rattle.presence_journal_cuts.proofs.CutShort.{short_sound, parts_cut_short}
use Rattle.presence_journal_cuts.specs.KeptDeltas.{TellsFrom}
use Rattle.shard_pool.specs.Unseated.{IsBehindOf}
use Rattle.tracker_shard.specs.declared.fault.ShardFault.{ShardFault}
use Rattle.tracker_shard.specs.declared.fault.ShardFault.TheVariants as faults
use Rattle.node_links.specs.declared.port.ActFault.{ActFault}
use Rattle.link_pool_port.specs.Asking.{act_fault, told_of, TellsSince}
use Rattle.link_pool_port.specs.Parts.{IsLargeIfOk, IsOneCount, IsOneTooLong, IsPartOnLine, IsPartUpTo, IsShortened, IsSmallIfOk, IsUpTo, GoesNowhere, TakesNoMore, TellsPart, is_long, is_no_part, is_over, shorter_reply}

-- ---- no more than before

one_more : (xs : List Range) (y z : Range) → length (xs ++ y ∷ []) ≡ length (xs ++ z ∷ [])
one_more [] y z = refl
one_more (x ∷ xs) y z = ap suc (one_more xs y z)

no_longer : (p : Dot × Row → Bool) (xs : List (Dot × Row)) → length (filter p xs) ≤ length xs
no_longer p [] = omega arith
no_longer p (x ∷ xs) = go (p x) (no_longer p xs)
  where
    go : (b : Bool) → length (filter p xs) ≤ length xs → length (cond b (x ∷ filter p xs) (filter p xs)) ≤ suc (length xs)
    go true le = omega (arith, le)
    go false le = omega (arith, le)

fewer : (a k l : ℕ) → l ≤ k → not (nat_lt 65536 (a + (0 + k))) ≡ true → nat_lt 65536 (a + (0 + l)) ≡ false
fewer a k l le e = grind (arith, nat_tests, le, e)

short_fits : (m : ℕ) (d : DeltaValue) → fits_line Two d ≡ true → is_too_many_in Two (telling_in Two (up_to m d)) ≡ false
short_fits m d fits =
    fewer (length (run_ranges d.owner d.older ++ own_dots (up_to m d) ∷ [])) (length d.live) (length (up_to m d).live) (no_longer (λ x. is_up_to m x.0) d.live)
    (ap (λ k. not (nat_lt 65536 (k + (0 + length d.live)))) (one_more (run_ranges d.owner d.older) (own_dots (up_to m d)) (own_dots d)) ∙ fits)

-- ---- on a line

pub guarded_short : (shard : ℕ) (t : ToldValue) (o : Option ToldValue) (m : ℕ) (d : DeltaValue) → t ≡ telling_in Two (up_to m d) → o ≡ guarded (not (is_long shard t)) t → IsUpTo shard m d o
guarded_short shard t o m d is made = subst (IsUpTo shard m d) (sym made) (go (is_long shard t) refl)
  where
    go : (b : Bool) → is_long shard t ≡ b → IsUpTo shard m d (guarded (not b) t)
    go true e = ap (is_long shard) (sym is) ∙ e
    go false e = (is, e)

pub nothing_more : (shard : ℕ) (d : DeltaValue) → d.to ≤ d.from → IsShortened shard d None
nothing_more shard d none = inl none

left_false : (a b : Bool) → (a || b) ≡ false → a ≡ false
left_false true b e = absurd cc
left_false false b e = refl

pub up_to_rows : (shard m : ℕ) (d : DeltaValue) (o : Option ToldValue) → IsDelta d → d.from < d.to → d.from < m → TakesNoMore m d → IsPartUpTo shard m d o → is_some o ≡ true → IsShortened shard d o
up_to_rows shard m d None sound some above full upto there = absurd (cc)
up_to_rows shard m d (Some t) sound some above full upto there =
    (m, sound, some, above, upto.0, ap (is_long shard) upto.0 ∙ left_false (is_long shard (telling_in Two (up_to m d))) (is_over (up_to m d).live) upto.1, inl (upto.1, full))

one_count : (shard next : ℕ) (d : DeltaValue) (o : Option ToldValue) → IsDelta d → d.from < d.to → next ≡ suc d.from → IsOneCount shard next d → IsUpTo shard next d o → IsShortened shard d o
one_count shard next d None sound some is one upto = inr (sound, some, ap (λ m. is_long shard (telling_in Two (up_to m d))) (sym is) ∙ upto)
one_count shard next d (Some t) sound some is one upto = (next, sound, some, omega (arith, is), upto.0, upto.1, inr one)

-- already the next one is the last for which a part has room
pub by_one : (shard next end : ℕ) (d : DeltaValue) (o : Option ToldValue) → IsDelta d → d.from < d.to → next ≡ suc d.from → TakesNoMore end d → end ≤ next → IsUpTo shard next d o → IsShortened shard d o
by_one shard next end d o sound some is full low upto =
    one_count shard next d o sound some is (record { one = is; end = end; no_more = full; why = inl low }) upto

no_part : (shard m : ℕ) (d : DeltaValue) (o : Option ToldValue) → IsPartUpTo shard m d o → is_some o ≡ false → is_no_part shard m d ≡ true
no_part shard m d None upto none = upto
no_part shard m d (Some t) upto none = absurd (cc)

-- as many rows as a part has are none
pub by_one_alone : (shard next end : ℕ) (d : DeltaValue) (o fuller : Option ToldValue) → IsDelta d → d.from < d.to → next ≡ suc d.from → TakesNoMore end d → IsPartUpTo shard end d fuller → is_some fuller ≡ false → IsUpTo shard next d o → IsShortened shard d o
by_one_alone shard next end d o fuller sound some is full upto none one =
    one_count shard next d o sound some is (record { one = is; end = end; no_more = full; why = inr (no_part shard end d fuller upto none) }) one

pub ruleset shortening = (nothing_more, up_to_rows, by_one, by_one_alone)

goes_further : (from m to : ℕ) → from < to → from < m → from < max from (min m to)
goes_further from m to some above = omega (arith, some, above)

one_further : (from to : ℕ) → from < to → max from (min (suc from) to) ≡ suc from
one_further from to some = omega (arith, some)

told_part : (shard n : ℕ) (h : History) (d : DeltaValue) (o : Option ToldValue) → IsPartWhereItFits h n (Some d) → IsShortened shard d o → TellsPart shard h n o
told_part shard n h d None part (inl le) = inr (inl (record { delta = d; largest = part; nothing = le }))
told_part shard n h d None part (inr short) = inr (inr (record {
  delta = up_to (suc d.from) d;
  part = parts_cut_short h n (suc d.from) d part.part short.0;
  one = one_further d.from d.to short.1;
  long = short.2;
}))
told_part shard n h d (Some t) part short = record {
  delta = up_to short.0 d;
  part = parts_cut_short h n short.0 d part.part short.1;
  further = goes_further d.from short.0 d.to short.2 short.3;
  sound = short_sound short.0 d short.1;
  tells = short.4;
  few = ap (is_too_many_in Two) short.4 ∙ short_fits short.0 d part.fits;
  short = short.5;
  largest = d;
  is_largest = part;
  end = short.0;
  cut = refl;
  filled = short.6;
}

pub told_behind : (Here : History → Type 0) (shard n : ℕ) (part : Option DeltaValue) (d : DeltaValue) (o : Option ToldValue) → part ≡ Some d → IsBehindOf Here (λ h. IsPartWhereItFits h n part) → IsShortened shard d o → IsBehindOf Here (λ h. TellsPart shard h n o)
told_behind Here shard n part d o is b short = record {
  history = b.history;
  legal = b.legal;
  here = b.here;
  is = told_part shard n b.history d o (subst (IsPartWhereItFits b.history n) is b.is) short;
}

pub none_behind : (Here : History → Type 0) (shard n : ℕ) → IsBehindOf Here (λ h. IsPartWhereItFits h n None) → IsBehindOf Here (λ h. TellsPart shard h n None)
none_behind Here shard n b = record { history = b.history; legal = b.legal; here = b.here; is = inl b.is }

-- ---- as a link is told it

pub told_whole : (Here : History → Type 0) (shard n : ℕ) (form : Form) (r : Result (Option ToldValue) ShardFault) (a : Result (Option ToldValue) ActFault) → a ≡ told_of r → IsSmallIfOk shard form r
    → IfOk r (λ o. IsBehindOf Here (λ h. WhereItFits form (TellsFrom form h (Some n)) o)) → IfErr r (λ e. e ≡ faults.OutOfMemory) → TellsSince Here shard form n a
told_whole Here shard n form r a is small behind err = subst (TellsSince Here shard form n) (sym is) (go r small behind err)
  where
    go : (x : Result (Option ToldValue) ShardFault) → IsSmallIfOk shard form x → IfOk x (λ o. IsBehindOf Here (λ h. WhereItFits form (TellsFrom form h (Some n)) o)) → IfErr x (λ e. e ≡ faults.OutOfMemory) → TellsSince Here shard form n (told_of x)
    go (Ok o) l b e = inl (b, l)
    go (Err f) l b e = ap act_fault e

-- the shorter one of a whole and a part
pub told_in_parts : (Here : History → Type 0) (shard n : ℕ) (form : Form) (w p : Result (Option ToldValue) ShardFault) (a : Result (Option ToldValue) ActFault) → a ≡ told_of (shorter_reply shard w p) → form ≡ Two → IsLargeIfOk shard w
    → IfOk w (λ o. IsBehindOf Here (λ h. WhereItFits form (TellsFrom form h (Some n)) o)) → IfOk p (λ o. IsBehindOf Here (λ h. TellsPart shard h n o)) → IfErr p (λ e. e ≡ faults.OutOfMemory) → TellsSince Here shard form n a
told_in_parts Here shard n form w p a is two large behind parts err =
    subst (TellsSince Here shard form n) (sym is) (go w p large (subst (λ f. IfOk w (λ o. IsBehindOf Here (λ h. WhereItFits f (TellsFrom f h (Some n)) o))) two behind) parts err)
  where
    go : (x y : Result (Option ToldValue) ShardFault) → IsLargeIfOk shard x → IfOk x (λ o. IsBehindOf Here (λ h. WhereItFits Two (TellsFrom Two h (Some n)) o)) → IfOk y (λ o. IsBehindOf Here (λ h. TellsPart shard h n o)) → IfErr y (λ e. e ≡ faults.OutOfMemory) → TellsSince Here shard form n (told_of (shorter_reply shard x y))
    go (Ok x) (Ok y) l b c e = inr (two, record { whole = x; tells = b; large = l; part = y; parts = c; is = refl })
    go (Ok x) (Err f) l b c e = ap act_fault e
    go (Err f) y l b c e = absurd l
