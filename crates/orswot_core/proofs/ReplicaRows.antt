-- The rows of a replica, and those in a range, among the live ones.
use Rattle.std.proofs.Common.{◌≡◌, ℕ, Bool, true, false, cond, ◌&&◌, nat_lt, nat_le, List, [], ◌∷◌, refl, ◌∙◌, ap, Option, Some, None, is_some, arith}
use Rattle.std.proofs.lemmas.Bool.Decides.{nat_tests}
use Rattle.std.specs.List.{filter}
use Rattle.std.specs.List.Sorted.{IsStrictlySortedBy}
use Rattle.std.specs.Map.{lookup, keys_of}
use Rattle.std.specs.FinSet as set
use Rattle.std.specs.BTreeMap.{get}
use Rattle.presence_base.specs.declared.dots.TheConstants.{MAX_COUNT}
use Rattle.presence_base.specs.declared.dots.Dot.{Dot}
use Rattle.presence_base.specs.declared.dots.Replica.{Replica}
use Rattle.presence_base.specs.declared.row.Row.{Row}
use Rattle.presence_base.specs.Order.{dot_cmp, same_dot, same_replica}
use Rattle.dot_context.specs.Sets.{DotSet}
use Rattle.orswot_core.specs.Limits.{is_count, is_dot, is_row}
use Rattle.orswot_core.specs.Telling.{Range, range_has}
use Rattle.orswot_core.proofs.OrderFacts.{same_itself}
use Rattle.orswot_core.specs.Sets.{Rows, LiveRows, rows_of, rows_by, rows_within, is_sound, IsSound}
use Rattle.orswot_core.proofs.SoundFacts.{sound_at}
use Rattle.orswot_core.proofs.FullFacts.{entries_are}

-- tests that agree at each key that is there keep the same entries
same_kept : (p q : Dot → Bool) (es : List (Dot × Row)) → ((d : Dot) → is_some (lookup (same_dot d) es) ≡ true → p d ≡ q d) → filter (λ e. p e.0) es ≡ filter (λ e. q e.0) es
same_kept p q [] f = refl
same_kept p q (e ∷ es) f =
    ap (λ b. cond b (e ∷ filter (λ x. p x.0) es) (filter (λ x. p x.0) es)) (f e.0 (found (same_dot e.0 e.0) e.1 (lookup (same_dot e.0) es) (same_itself e.0)))
    ∙ ap (λ l. cond (q e.0) (e ∷ l) l) (same_kept p q es (λ d there. f d (later (same_dot d e.0) e.1 (lookup (same_dot d) es) there)))
  where
    found : (b : Bool) (r : Row) (o : Option Row) → b ≡ true → is_some (cond b (Some r) o) ≡ true
    found true r o h = refl
    found false r o h = absurd (cc)

    later : (b : Bool) (r : Row) (o : Option Row) → is_some o ≡ true → is_some (cond b (Some r) o) ≡ true
    later true r o h = refl
    later false r o h = h

in_limits : (same : Bool) (n limit : ℕ) → (nat_le 1 n && nat_le n limit) ≡ true → (same && (nat_lt 0 n && nat_le n limit)) ≡ same
in_limits true n limit h = grind (arith, nat_tests)
in_limits false n limit h = refl

live_dot : (d : Dot) (c : Bool) (o : Option Row) → is_sound d c o ≡ true → is_some o ≡ true → is_dot d ≡ true
live_dot d true (Some r) h there = first (is_dot d) (is_row r) h
  where
    first : (a b : Bool) → (a && b) ≡ true → a ≡ true
    first true b h = refl
    first false b h = absurd (cc)
live_dot d true None h there = absurd (cc)
live_dot d false None h there = absurd (cc)
live_dot d false (Some r) h there = absurd (cc)

second : (a b : Bool) → (a && b) ≡ true → b ≡ true
second true b h = h
second false b h = absurd (cc)

pub rows_found : (s : DotSet) (m : Rows) (live : LiveRows) (r : Replica) → IsSound s (rows_of m.entries) → IsStrictlySortedBy dot_cmp (keys_of m.entries) → rows_of m.entries ≡ live
    → filter (λ e. range_has e.0 (r, 0, MAX_COUNT)) m.entries ≡ rows_by live r
rows_found s m live r sound sorted e =
    same_kept (λ d. range_has d (r, 0, MAX_COUNT)) (λ d. same_replica d.replica r) m.entries
    (λ d there. in_limits (same_replica d.replica r) d.count MAX_COUNT
    (second (is_count d.replica.incarnation) (is_count d.count) (live_dot d (set.contains s d) (get dot_cmp m d) (sound_at s m sound d) there)))
    ∙ ap (filter (λ e. same_replica e.0.replica r)) (entries_are m.entries sorted)
    ∙ ap (λ l. rows_by l r) e

pub rows_in_are : (m : Rows) (live : LiveRows) (g : Range) → IsStrictlySortedBy dot_cmp (keys_of m.entries) → rows_of m.entries ≡ live
    → filter (λ e. range_has e.0 g) m.entries ≡ rows_within live g
rows_in_are m live g sorted e = ap (filter (λ e. range_has e.0 g)) (entries_are m.entries sorted) ∙ ap (λ l. rows_within l g) e
