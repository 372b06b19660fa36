-- What holds of a journal with what is kept of it.
use Rattle.std.proofs.Common.{◌≡◌, ℕ, zero, suc, ◌+◌, ◌-◌, ◌≤◌, Bool, true, false, cond, List, [], ◌∷◌, Option, Some, None, slice_get, length, refl, sym, ◌∙◌, ap, subst, arith}
use Rattle.std.specs.Prelude.{Result, IfOk, option_map}
use Rattle.std.proofs.lemmas.Option.{same_Some, slice_get_within}
use Rattle.std.proofs.lemmas.Result.{IfOk-weaker}
use Rattle.presence_base.specs.declared.dots.Replica.{Replica}
use Rattle.presence_base.specs.declared.dots.Dot.{Dot}
use Rattle.presence_base.specs.declared.row.Row.{Row}
use Rattle.orswot_core.specs.declared.form.Form.{Form}
use Rattle.orswot_core.specs.Telling.{ToldValue}
use Rattle.orswot_core.specs.Sets.{DotRows}
use Rattle.orswot_core.specs.Full.{IsFullIn}
use Rattle.presence_journal.specs.declared.step.Step.{Step}
use Rattle.presence_journal.specs.declared.entry.Outcome.{Outcome}
use Rattle.presence_journal.specs.declared.entry.Entry.{Entry}
use Rattle.presence_journal.specs.declared.entry.Start.{Start}
use Rattle.presence_journal.specs.History.{History, Begin, Then, begun, onto, start_of, own, is_full, is_up, status, removed, row, live, shown}
use Rattle.presence_journal.specs.StepLimits.{is_within_limits}
use Rattle.presence_journal.specs.Table.{IsLegal, AreWithinLimits, IsKept, outcome_of, next_entry, after}
use Rattle.presence_journal.proofs.HistoryLemmas.{after-accepted, within_step}
use Rattle.delta_range.specs.Deltas.{DeltaValue, telling_in}
use Rattle.delta_range.specs.Keeping.{from_count}
use Rattle.presence_journal_cuts.specs.Parting.{HasOwnRows}
use Rattle.presence_journal_cuts.proofs.Vacating.{own_rows}
use Rattle.presence_journal_cuts.specs.Cuts.{IsCut}
use Rattle.presence_journal_cuts.specs.KeptDeltas.{TellsOrAll, IsToldFrom}
use Rattle.presence_journal_known.specs.LeftOut.{HoldsCovered}
use Rattle.presence_journal_known.specs.Full.{IsFullOf}
use Rattle.tracker_known.specs.Known.{IsKnownOf}
use Rattle.tracker_shown.specs.declared.shown.Shown.{Shown}
use Rattle.tracker_shown.specs.Kept.{IsShownOf, IsNothing}
use Rattle.tracker_shown.proofs.TurnLemmas.{at_first, shown_from}
use Rattle.presence_journal_cuts.specs.Untold.{IsUntoldOf, IsOfOne, IsKeptFrom}
use Rattle.tracker_feeds.specs.Fed.{Fed, found, IsFedBy}
use Rattle.tracker_feeds.proofs.LawLemmas as laws
use Rattle.tracker_index.specs.Seen.{Seen}
use Rattle.tracker_index.specs.declared.parts.Parts.{Parts}
use Rattle.tracker_index.specs.declared.parts.Stage.{Stage}
use Rattle.tracker_index.specs.declared.parts.Stage.TheVariants.{Done, Begun, Delivered, Learned}
use Rattle.tracker_index.specs.Parts.{IsKeptOf, IsBegun, IsAt, is_done, IsSound, CanGoOn, GoesOn}

-- An empty journal.

own_begun : (r : Replica) → r ≡ own (begun r)
unfolding own
own_begun r = refl

none_shown : (r : Replica) (d : Dot) → None ≡ shown (begun r) d
unfolding shown live row
none_shown r d = go (is_up (status (begun r) d.replica)) (removed (begun r) d) (row (begun r) d) refl
  where
    go : (u b : Bool) (o : Option Row) → o ≡ None → None ≡ cond u (cond b None o) None
    go true true o e = refl
    go true false o e = sym e
    go false b o e = refl

pub shown_begins : (r : Replica) (x : Shown) → x.own ≡ r → IsNothing x.rows → IsShownOf (begun r) x
shown_begins r x o none = shown_from (begun r) x x.rows [] none (λ w t p. refl) (o ∙ own_begun r) (record { found = none_shown r; once = refl })

pub fed_begins : (r : Replica) (f : Fed) → f ≡ record { subscribers = []; delivered = 0 } → IsFedBy (begun r) f
fed_begins r f e = laws.begins (start_of (begun r)) f (record { subscribers = λ n. ap (λ (g : Fed). found g n) e; delivered = ap (λ (g : Fed). g.delivered) e })

pub sound_new : (r o : Replica) (h : History) (p : Parts) → h ≡ begun r → o ≡ own h → IsLegal h → AreWithinLimits h → IsAt p.stage (begun o) p → IsSound h p
sound_new r o h p e is legal limits at = record {
  kept = record { legal = legal; limits = limits };
  parts = subst (λ g. IsAt p.stage g p) (ap begun (is ∙ (ap own e ∙ sym (own_begun r))) ∙ sym e) at;
}

-- A journal as it is.

pub sound_whole : (s : Start) (es : List Entry) (whole : History) (p : Parts) → onto (Begin s) es ≡ whole → IsLegal whole → AreWithinLimits whole
    → IsAt p.stage (onto (Begin s) es) p → IsSound whole p
sound_whole s es whole p w legal limits at = record { kept = record { legal = legal; limits = limits }; parts = subst (λ h. IsAt p.stage h p) w at }

-- The last entry.

last_is : (h : History) (es : List Entry) (n : ℕ) (e : Entry) → n + 1 ≡ length es → slice_get es n ≡ Some e → (before : History) × (Then before e ≡ onto h es)
last_is h [] n e l g = absurd (omega arith)
last_is h (x ∷ []) zero e l g = (h, ap (Then h) (sym (same_Some x e g)))
last_is h (x ∷ y ∷ ys) zero e l g = absurd (omega arith)
last_is h (x ∷ xs) (suc n) e l g = last_is (Then h x) xs n e (omega arith) g

ends_with : (s : Start) (es : List Entry) (whole : History) (e : Entry) → onto (Begin s) es ≡ whole → Some e ≡ slice_get es (length es - 1) → (before : History) × (Then before e ≡ whole)
ends_with s es whole e w g =
    let within = slice_get_within es (length es - 1) e (sym g) in
    let l = last_is (Begin s) es (length es - 1) e (omega arith) (sym g) in
    (l.0, l.1 ∙ w)

pub can_go_on : (s : Start) (es : List Entry) (whole : History) (e : Entry) (p : Parts) → onto (Begin s) es ≡ whole → Some e ≡ slice_get es (length es - 1) → IsSound whole p → CanGoOn p e
can_go_on s es whole e p w g sound =
    let l = ends_with s es whole e w g in
    record { before = l.0; legal = subst IsLegal (sym l.1) sound.kept.legal; at = subst (λ h. IsAt p.stage h p) (sym l.1) sound.parts }

pub gone_on : (s : Start) (es : List Entry) (whole : History) (e : Entry) (p q : Parts) → onto (Begin s) es ≡ whole → Some e ≡ slice_get es (length es - 1) → GoesOn e p q → IsSound whole p → IsSound whole q
gone_on s es whole e p q w g goes sound =
    let l = ends_with s es whole e w g in
    record { kept = sound.kept; parts = subst (λ h. IsAt q.stage h q) l.1 (goes l.0 (subst IsLegal (sym l.1) sound.kept.legal) (subst (λ h. IsAt p.stage h p) (sym l.1) sound.parts)) }

no_entries : (es : List Entry) → length es ≤ 0 → es ≡ []
no_entries [] l = refl
no_entries (x ∷ es) l = absurd (omega arith)

-- without an entry none is pending
pub none_pending : (s : Start) (es : List Entry) (whole : History) (p : Parts) → onto (Begin s) es ≡ whole → length es ≤ 0 → IsSound whole p → is_done p.stage ≡ true
none_pending s es whole p w l sound = go p.stage (subst (λ h. IsAt p.stage h p) (sym (ap (onto (Begin s)) (sym (no_entries es l)) ∙ w)) sound.parts)
  where
    go : (x : Stage) → IsAt x (Begin s) p → is_done x ≡ true
    go Done at = refl
    go Begun at = absurd at
    go Delivered at = absurd at
    go Learned at = absurd at

-- What is kept, by how far it has come.

pub kept_done : (h : History) (p : Parts) → p.stage ≡ Done → IsSound h p → IsKeptOf h p
kept_done h p e sound = subst (λ x. IsAt x h p) e sound.parts

pub kept_ready : (h : History) (p : Parts) → is_done p.stage ≡ true → IsSound h p → IsKeptOf h p
kept_ready h p done sound = go p.stage refl done
  where
    go : (x : Stage) → p.stage ≡ x → is_done x ≡ true → IsKeptOf h p
    go Done e d = kept_done h p e sound
    go Begun e d = absurd (cc)
    go Delivered e d = absurd (cc)
    go Learned e d = absurd (cc)

delivered_fed : (h : History) (p : Parts) → IsAt Delivered h p → IsFedBy h p.feeds
delivered_fed (Begin s) p at = absurd at
delivered_fed (Then h e) p at = at.feeds

learned_fed : (h : History) (p : Parts) → IsAt Learned h p → IsFedBy h p.feeds
learned_fed (Begin s) p at = absurd at
learned_fed (Then h e) p at = at.feeds

pub fed_unless : (h : History) (p : Parts) → (p.stage ≡ Begun → ⊥) → IsSound h p → IsFedBy h p.feeds
fed_unless h p not sound = go p.stage refl
  where
    go : (x : Stage) → p.stage ≡ x → IsFedBy h p.feeds
    go Done e = (kept_done h p e sound).feeds
    go Begun e = absurd (not e)
    go Delivered e = delivered_fed h p (subst (λ x. IsAt x h p) e sound.parts)
    go Learned e = learned_fed h p (subst (λ x. IsAt x h p) e sound.parts)

-- The same, of what is seen of it.

abbrev pub seen : History → Parts → Seen
seen j p = record { history = j; is_ready = is_done p.stage }

pub kept_seen : (s : Seen) (j : History) (p : Parts) → seen j p ≡ s → s.is_ready ≡ true → IsSound j p → IsKeptOf s.history p
kept_seen s j p view ready sound = subst (λ g. IsKeptOf g p) (ap (λ (v : Seen). v.history) view) (kept_ready j p (ap (λ (v : Seen). v.is_ready) view ∙ ready) sound)

pub kept_at_end : (s : Seen) (j : History) (p : Parts) → seen j p ≡ s → p.stage ≡ Done → IsSound j p → IsKeptOf s.history p
kept_at_end s j p view done sound = subst (λ g. IsKeptOf g p) (ap (λ (v : Seen). v.history) view) (kept_done j p done sound)

pub fed_seen : (s : Seen) (j : History) (p : Parts) → seen j p ≡ s → (p.stage ≡ Begun → ⊥) → IsSound j p → IsFedBy s.history p.feeds
fed_seen s j p view not sound = subst (λ g. IsFedBy g p.feeds) (ap (λ (v : Seen). v.history) view) (fed_unless j p not sound)

-- an entry more, which is begun
pub begins_next : (h new : History) (p q : Parts) (s : Step) (seat : Option ℕ) (o : Outcome) → is_done p.stage ≡ true → IsSound h p → outcome_of h s ≡ Some o → is_full h ≡ false → is_within_limits s ≡ true → new ≡ after h s seat → q ≡ record { known = p.known; shown = p.shown; feeds = p.feeds; untold = p.untold; stage = Begun } → IsSound new q
begins_next h new p q s seat o done sound e room limits is same =
    let k = kept_ready h p done sound in
    let entry = next_entry h s seat o in
    let kept : IsKept (Then h entry) = record { legal = (sound.kept.legal, e, refl, room, within_step s limits); limits = (sound.kept.limits, limits) } in
    let begun : IsBegun h entry q = rw same (record { known = k.known; shown = at_first h entry p.shown k.shown; feeds = k.feeds; untold = k.untold }) in
    subst (λ g. IsSound g q) (sym (is ∙ after-accepted h s seat o e room)) (record { kept = kept; parts = subst (λ x. IsAt x (Then h entry) q) (sym (ap (λ (y : Parts). y.stage) same)) begun })

pub begins_seen : (s : Seen) (j new : History) (p q : Parts) (step : Step) (seat : Option ℕ) (o : Outcome) → seen j p ≡ s → s.is_ready ≡ true → IsSound j p → outcome_of s.history step ≡ Some o → is_full s.history ≡ false → is_within_limits step ≡ true → new ≡ after j step seat → q ≡ record { known = p.known; shown = p.shown; feeds = p.feeds; untold = p.untold; stage = Begun } → IsSound new q
begins_seen s j new p q step seat o view ready sound e room limits is same =
    begins_next j new p q step seat o (ap (λ (v : Seen). v.is_ready) view ∙ ready) sound
    (ap (λ (v : Seen). outcome_of v.history step) view ∙ e) (ap (λ (v : Seen). is_full v.history) view ∙ room) limits is same

-- What is told of all.

pub full_kept : {E : Type 0} (form : Form) (s : Seen) (j : History) (p : Parts) (r : Result ToldValue E) → seen j p ≡ s → p.stage ≡ Done → IsSound j p → IfOk r (λ t. (h : History) → IsKnownOf h p.known → IsFullOf form h t) → IfOk r (IsFullOf form s.history)
full_kept form s j p r view done sound told = IfOk-weaker r (λ t. (h : History) → IsKnownOf h p.known → IsFullOf form h t) (IsFullOf form s.history) (λ t f. f s.history (kept_at_end s j p view done sound).known) told

pub full_walked : {E : Type 0} (form : Form) (s : Seen) (j : History) (p : Parts) (set : DotRows) (r : Result ToldValue E) → seen j p ≡ s → HoldsCovered j set → IfOk r (IsFullIn form set) → IfOk r (IsFullOf form s.history)
full_walked form s j p set r view holds told = IfOk-weaker r (IsFullIn form set) (IsFullOf form s.history) (λ t f. (set, subst (λ h. HoldsCovered h set) (ap (λ (v : Seen). v.history) view) holds, f)) told

-- What a cut tells.

pub of_one : (h : History) (p : Parts) → p.stage ≡ Done → IsSound h p → IsOfOne p.untold
of_one h p done sound = record { history = h; legal = sound.kept.legal; kept = (kept_done h p done sound).untold }

pub cut_kept : {E : Type 0} (s : Seen) (j : History) (p : Parts) (set : DotRows) (r : Result DeltaValue E) → seen j p ≡ s → p.stage ≡ Done → IsSound j p → ((h : History) → IsKnownOf h p.known → HoldsCovered h set) → IfOk r (λ d. (h : History) → IsUntoldOf h p.untold → HasOwnRows h set → IsCut h d) → IfOk r (IsCut s.history)
cut_kept s j p set r view done sound covered told =
    let kept = kept_at_end s j p view done sound in
    IfOk-weaker r (λ d. (h : History) → IsUntoldOf h p.untold → HasOwnRows h set → IsCut h d) (IsCut s.history) (λ d f. f s.history kept.untold (own_rows s.history set (covered s.history kept.known))) told

-- What is told from a count on.

tells_one : (form : Form) (o : Option DeltaValue) (h : History) (t : ToldValue) → Some t ≡ option_map (telling_in form) o → TellsOrAll form o h t
tells_one form None h t e = absurd (cc)
tells_one form (Some d) h t e = same_Some t (telling_in form d) e

pub tells_all : (form : Form) (o : Option DeltaValue) (h : History) (t : ToldValue) → None ≡ option_map (telling_in form) o → IsFullOf form h t → TellsOrAll form o h t
tells_all form None h t e full = full
tells_all form (Some d) h t e full = absurd (cc)

abbrev pub KeptFrom : Form → Parts → ℕ → Option ToldValue → Type 0
KeptFrom form p n o = (h : History) → IsUntoldOf h p.untold → IsKeptFrom form h n o

pub told_kept : (form : Form) (s : Seen) (j : History) (p : Parts) (n : ℕ) (o : Option ToldValue) (t : ToldValue) → seen j p ≡ s → s.is_ready ≡ true → IsSound j p → KeptFrom form p n o → o ≡ Some t → IsToldFrom form s.history n t
told_kept form s j p n o t view ready sound told is =
    let f = told s.history (kept_seen s j p view ready sound).untold in
    record { kept = f.kept; of = f.of; tells = tells_one form (from_count form f.kept n) s.history t (sym is ∙ f.is) }

pub told_all : {E : Type 0} (form : Form) (s : Seen) (j : History) (p : Parts) (n : ℕ) (o : Option ToldValue) (r : Result ToldValue E) → seen j p ≡ s → s.is_ready ≡ true → IsSound j p → KeptFrom form p n o → o ≡ None → IfOk r (IsFullOf form s.history) → IfOk r (IsToldFrom form s.history n)
told_all form s j p n o r view ready sound told is full =
    let f = told s.history (kept_seen s j p view ready sound).untold in
    IfOk-weaker r (IsFullOf form s.history) (IsToldFrom form s.history n) (λ t whole. record { kept = f.kept; of = f.of; tells = tells_all form (from_count form f.kept n) s.history t (sym is ∙ f.is) whole }) full
