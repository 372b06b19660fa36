-- What is told where it fits.
use Rattle.std.proofs.Common.{◌≡◌, ℕ, Bool, true, false, not, cond, nat_le, ◌&&◌, Option, Some, None, refl, sym, ◌∙◌, ap, subst}
use Rattle.std.specs.Prelude.{Result, IfOk, option_map}
use Rattle.std.proofs.lemmas.Option.{same_Some}
use Rattle.std.proofs.lemmas.Result.{IfOk-weaker}
use Rattle.presence_base.specs.Names.{guarded}
use Rattle.orswot_core.specs.declared.form.Form.{Form}
use Rattle.orswot_core.specs.Telling.{ToldValue}
use Rattle.orswot_core.specs.Checks.{is_too_many_in, WhereItFits}
use Rattle.orswot_core.proofs.FitFacts.{fits_still}
use Rattle.orswot_core.specs.Sets.{DotRows}
use Rattle.orswot_core.specs.Full.{IsFullIn}
use Rattle.presence_journal.specs.History.{History}
use Rattle.delta_range.specs.Deltas.{DeltaValue, telling_in}
use Rattle.delta_range.specs.Keeping.{begun, first_of_both, from_count}
use Rattle.presence_journal_cuts.specs.KeptDeltas.{IsToldFrom}
use Rattle.presence_journal_known.specs.LeftOut.{HoldsCovered}
use Rattle.presence_journal_known.specs.Full.{IsFullOf}
use Rattle.tracker_known.specs.Known.{IsKnownOf}
use Rattle.tracker_index.specs.Seen.{Seen}
use Rattle.tracker_index.specs.declared.parts.Parts.{Parts}
use Rattle.tracker_index.specs.declared.parts.Stage.TheVariants.{Done}
use Rattle.tracker_index.specs.Parts.{IsSound}
use Rattle.tracker_index.proofs.IndexedLemmas.{seen, kept_at_end, kept_seen, told_kept, tells_all, KeptFrom}

-- of what is known at the end

pub full_fits : {E : Type 0} (form : Form) (s : Seen) (j : History) (p : Parts) (r : Result (Option ToldValue) E) → seen j p ≡ s → p.stage ≡ Done → IsSound j p
    → IfOk r (λ o. (h : History) → IsKnownOf h p.known → WhereItFits form (IsFullOf form h) o) → IfOk r (WhereItFits form (IsFullOf form s.history))
full_fits form s j p r view done sound told =
    IfOk-weaker r (λ o. (h : History) → IsKnownOf h p.known → WhereItFits form (IsFullOf form h) o) (WhereItFits form (IsFullOf form s.history))
    (λ o f. f s.history (kept_at_end s j p view done sound).known) told

pub walked_fits : {E : Type 0} (form : Form) (s : Seen) (j : History) (p : Parts) (set : DotRows) (r : Result (Option ToldValue) E) → seen j p ≡ s → HoldsCovered j set
    → IfOk r (WhereItFits form (IsFullIn form set)) → IfOk r (WhereItFits form (IsFullOf form s.history))
walked_fits form s j p set r view holds told =
    IfOk-weaker r (WhereItFits form (IsFullIn form set)) (WhereItFits form (IsFullOf form s.history))
    (fits_still form (IsFullIn form set) (IsFullOf form s.history) (λ t f. (set, subst (λ h. HoldsCovered h set) (ap (λ (v : Seen). v.history) view) holds, f))) told

-- a kept delta that is told fits

abbrev IsFew : Form → ToldValue → Type 0
IsFew form t = is_too_many_in form t ≡ false

begun_fits : (form : Form) (n : ℕ) (o : Option DeltaValue) (t : ToldValue) → Some t ≡ option_map (telling_in form) (begun form n o) → IsFew form t
begun_fits form n None t e = absurd (cc)
begun_fits form n (Some d) t e = go (nat_le d.from n) (is_too_many_in form (telling_in form d)) refl e
  where
    go : (low many : Bool) → many ≡ is_too_many_in form (telling_in form d) → Some t ≡ option_map (telling_in form) (guarded (low && not many) d) → IsFew form t
    go true false m f = ap (is_too_many_in form) (same_Some t (telling_in form d) f) ∙ sym m
    go true true m f = absurd (cc)
    go false many m f = absurd (cc)

first_fits : (form : Form) (a b : Option DeltaValue) (t : ToldValue) → (Some t ≡ option_map (telling_in form) a → IsFew form t)
    → (Some t ≡ option_map (telling_in form) b → IsFew form t) → Some t ≡ option_map (telling_in form) (first_of_both a b) → IsFew form t
first_fits form (Some d) b t left right e = left e
first_fits form None b t left right e = right e

pub from_fits : (form : Form) (s : Seen) (j : History) (p : Parts) (n : ℕ) (o : Option ToldValue) (t : ToldValue) → seen j p ≡ s → s.is_ready ≡ true → IsSound j p → KeptFrom form p n o → o ≡ Some t
    → WhereItFits form (IsToldFrom form s.history n) (Some t)
from_fits form s j p n o t view ready sound told is =
    let f = told s.history (kept_seen s j p view ready sound).untold in (
      told_kept form s j p n o t view ready sound told is,
      first_fits form (begun form n f.kept.short) (first_of_both (begun form n f.kept.middle) (begun form n f.kept.long)) t (begun_fits form n f.kept.short t)
          (first_fits form (begun form n f.kept.middle) (begun form n f.kept.long) t (begun_fits form n f.kept.middle t) (begun_fits form n f.kept.long t)) (sym is ∙ f.is),
    )

pub all_fits : {E : Type 0} (form : Form) (s : Seen) (j : History) (p : Parts) (n : ℕ) (o : Option ToldValue) (r : Result (Option ToldValue) E) → seen j p ≡ s → s.is_ready ≡ true → IsSound j p → KeptFrom form p n o
    → o ≡ None → IfOk r (WhereItFits form (IsFullOf form s.history)) → IfOk r (WhereItFits form (IsToldFrom form s.history n))
all_fits form s j p n o r view ready sound told is full =
    let f = told s.history (kept_seen s j p view ready sound).untold in
    IfOk-weaker r (WhereItFits form (IsFullOf form s.history)) (WhereItFits form (IsToldFrom form s.history n))
    (fits_still form (IsFullOf form s.history) (IsToldFrom form s.history n)
    (λ t whole. record { kept = f.kept; of = f.of; tells = tells_all form (from_count form f.kept n) s.history t (sym is ∙ f.is) whole })) full
