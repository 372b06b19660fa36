-- What is kept of a told value has the same faults, and is the told value where it has none.
use Rattle.std.proofs.Common.{◌≡◌, ℕ, suc, Bool, true, false, not, ◌&&◌, cond, nat_lt, List, [], ◌∷◌, length, map, Option, Some, None, Ok, refl, ap, ap₂, ◌∙◌}
use Rattle.std.specs.List.{list_all}
use Rattle.serde_json.specs.Data.{Data, null}
use Rattle.presence_base.specs.Metas.{is_meta}
use Rattle.presence_base.specs.Names.{guarded, is_short_text}
use Rattle.presence_base.specs.Order.{same_replica, same_dot}
use Rattle.presence_base.specs.declared.dots.Dot.{Dot}
use Rattle.presence_base.specs.declared.dots.Replica.{Replica}
use Rattle.presence_base.specs.declared.row.Row.{Row}
use Rattle.orswot_core.specs.Limits.{is_dot, is_row, are_texts, is_range}
use Rattle.orswot_core.specs.Checks.{is_too_many_in, has_range_astray, are_forward, are_limited, are_live_covered, has_live_twice, has_repeat, dots_of, first_fault, is_raw_row, sum_in}
use Rattle.orswot_core.specs.Telling.{ToldValue, covers}
use Rattle.orswot_core.specs.declared.form.Form.{Form}
use Rattle.orswot_core.specs.declared.told.TheConstants.{MAX_ROWS}
use Rattle.orswot_core.specs.declared.told.ToldFault.{ToldFault}
use Rattle.orswot_core.specs.declared.told.ToldFault.TheVariants.{TooMany, TwoRanges, BadRange, RowLimits, LiveNotCovered, LiveTwice}
use Rattle.link_lines.specs.Results.{◌>>=◌, or_bad}
use Rattle.link_lines.specs.Rows.{kept_meta, kept_entry, kept}
use Rattle.link_lines.specs.Told.{unless, sound, is_delta_of, are_own_ranges, own_delta}

first_true : (a b : Bool) → (a && b) ≡ true → a ≡ true
first_true true b e = refl
first_true false b e = e

second_true : (a b : Bool) → (a && b) ≡ true → b ≡ true
second_true true b e = e
second_true false b e = absurd (cc)

abbrev chosen : Data → Bool → Data
chosen d b = cond b d null

meta_by : (d : Data) (b : Bool) → is_meta d ≡ b → is_meta (chosen d b) ≡ b
meta_by d true e = e
meta_by d false e = refl

meta_kept : (d : Data) → is_meta (kept_meta d) ≡ is_meta d
meta_kept d = meta_by d (is_meta d) refl

meta_stays : (d : Data) → is_meta d ≡ true → kept_meta d ≡ d
meta_stays d e = rw e

row_kept : (shard n : ℕ) (x : Dot × Row) → is_raw_row shard n (kept_entry x) ≡ is_raw_row shard n x
row_kept shard n x = rw (meta_kept x.1.meta)

rows_kept : (shard n : ℕ) (xs : List (Dot × Row)) → list_all (is_raw_row shard n) (map kept_entry xs) ≡ list_all (is_raw_row shard n) xs
rows_kept shard n [] = refl
rows_kept shard n (x ∷ xs) = ap₂ (λ a b. a && b) (row_kept shard n x) (rows_kept shard n xs)

lengths : (xs : List (Dot × Row)) → length (map kept_entry xs) ≡ length xs
lengths [] = refl
lengths (x ∷ xs) = ap (λ n. suc n) (lengths xs)

covers_kept : (p : Dot → Bool) (xs : List (Dot × Row)) → list_all (λ x. p x.0) (map kept_entry xs) ≡ list_all (λ x. p x.0) xs
covers_kept p [] = refl
covers_kept p (x ∷ xs) = ap (λ b. p x.0 && b) (covers_kept p xs)

dots_kept : (xs : List (Dot × Row)) → dots_of (map kept_entry xs) ≡ dots_of xs
dots_kept [] = refl
dots_kept (x ∷ xs) = ap (λ ds. x.0 ∷ ds) (dots_kept xs)

abbrev first_of : Bool → Bool → Bool → Bool → Bool → Bool → Option ToldFault
first_of many astray forward limited covered twice =
    cond many (Some TooMany) (cond astray (Some TwoRanges) (cond (not forward) (Some BadRange)
    (cond (not limited) (Some RowLimits) (cond (not covered) (Some LiveNotCovered) (cond twice (Some LiveTwice) None)))))

pub fault_kept : (shard n : ℕ) (form : Form) (t : ToldValue) → first_fault shard n form (kept t) ≡ first_fault shard n form t
fault_kept shard n form t =
    let astray = has_range_astray form t.ranges in
    let forward = are_forward t in
    let ranges = list_all is_range t.ranges in
    let extras = list_all is_dot t.extras in
    ap (λ k. first_of (nat_lt MAX_ROWS (sum_in form (length t.ranges) (length t.extras) k)) astray forward (are_limited shard n (kept t)) (are_live_covered (kept t)) (has_live_twice (kept t))) (lengths t.live)
    ∙ ap (λ b. first_of (is_too_many_in form t) astray forward (ranges && (extras && b)) (are_live_covered (kept t)) (has_live_twice (kept t))) (rows_kept shard n t.live)
    ∙ ap (λ b. first_of (is_too_many_in form t) astray forward (are_limited shard n t) b (has_live_twice (kept t))) (covers_kept (covers t) t.live)
    ∙ ap (λ ds. first_of (is_too_many_in form t) astray forward (are_limited shard n t) (are_live_covered t) (has_repeat same_dot ds)) (dots_kept t.live)

entry_stays : (shard n : ℕ) (x : Dot × Row) → is_raw_row shard n x ≡ true → kept_entry x ≡ x
entry_stays shard n x e =
    let texts : are_texts x.1 ≡ true = first_true (are_texts x.1) _ (second_true (is_row x.1) _ (second_true (is_dot x.0) _ e)) in
    let within : is_meta x.1.meta ≡ true = second_true (is_short_text x.1.key) _ (second_true (is_short_text x.1.topic) _ texts) in
    ap (λ d. (x.0, record { topic = x.1.topic; key = x.1.key; pid = x.1.pid; meta = d; prev = x.1.prev })) (meta_stays x.1.meta within)

all_stay : (shard n : ℕ) (xs : List (Dot × Row)) → list_all (is_raw_row shard n) xs ≡ true → map kept_entry xs ≡ xs
all_stay shard n [] e = refl
all_stay shard n (x ∷ xs) e =
    let one : is_raw_row shard n x ≡ true = first_true (is_raw_row shard n x) _ e in
    let more : list_all (is_raw_row shard n) xs ≡ true = second_true (is_raw_row shard n x) _ e in
    ap₂ (λ y ys. y ∷ ys) (entry_stays shard n x one) (all_stay shard n xs more)

pub told_stays : (shard n : ℕ) (t : ToldValue) → are_limited shard n t ≡ true → kept t ≡ t
told_stays shard n t e =
    let rows : list_all (is_raw_row shard n) t.live ≡ true =
    second_true (list_all is_dot t.extras) _ (second_true (list_all is_range t.ranges) _ e) in
    ap (λ l. record { ranges = t.ranges; extras = t.extras; live = l }) (all_stay shard n t.live rows)

abbrev SoundAs : ToldValue → ToldValue → Option ToldFault → Type 0
SoundAs s t o = unless o s ≡ unless o t

sound_by : (many astray forward limited covered twice : Bool) (s t : ToldValue) → (limited ≡ true → s ≡ t) → SoundAs s t (first_of many astray forward limited covered twice)
sound_by true astray forward limited covered twice s t h = refl
sound_by false true forward limited covered twice s t h = refl
sound_by false false false limited covered twice s t h = refl
sound_by false false true false covered twice s t h = refl
sound_by false false true true false twice s t h = refl
sound_by false false true true true true s t h = refl
sound_by false false true true true false s t h = ap (λ u. Ok u) (h refl)

-- the check of what is kept is the check of what is told
pub sound_kept : (shard n : ℕ) (form : Form) (t : ToldValue) → sound shard n form (kept t) ≡ sound shard n form t
sound_kept shard n form t =
    ap (λ o. unless o (kept t)) (fault_kept shard n form t)
    ∙ sound_by (is_too_many_in form t) (has_range_astray form t.ranges) (are_forward t) (are_limited shard n t) (are_live_covered t) (has_live_twice t) (kept t) t (told_stays shard n t)

delta_kept : (form : Form) (r : Replica) (t : ToldValue) → is_delta_of form r (kept t) ≡ is_delta_of form r t
delta_kept form r t =
    ap (λ b. are_own_ranges form r t.ranges && (list_all (λ d. same_replica d.replica r) t.extras && b)) (covers_kept (λ d. same_replica d.replica r) t.live)

own_by : (b : Bool) (t : ToldValue) → or_bad (guarded b (kept t)) ≡ (or_bad (guarded b t) >>= (λ u. Ok (kept u)))
own_by true t = refl
own_by false t = refl

pub own_kept : (form : Form) (r : Replica) (t : ToldValue) → own_delta form r (kept t) ≡ (own_delta form r t >>= (λ u. Ok (kept u)))
own_kept form r t = ap (λ b. or_bad (guarded b (kept t))) (delta_kept form r t) ∙ own_by (is_delta_of form r t) t
