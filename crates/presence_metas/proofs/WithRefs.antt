-- The text of a meta with the references of its row, round which the text of the meta goes.
use Rattle.std.proofs.Common.{◌≡◌, ℕ, List, [], ◌∷◌, ◌++◌, length, Bool, true, false, if◌then◌else◌, Option, Some, None, Result, Ok, Err, OnOk, is_ok, codes, refl, ap, sym, subst, ◌∙◌, append_assoc}
use Rattle.std.specs.declared.cmp.Ordering.TheVariants.{Less, Greater}
use Rattle.std.specs.Ordering.{is_lt, ordering_reverse}
use Rattle.std.specs.Str.{bytes_eq}
use Rattle.json.specs.Print.{quoted, escape_byte}
use Rattle.serde_json.specs.Data.{Data, string, object, Members, no_members, member, put}
use Rattle.serde_json.specs.Written.{compact_text, members_text, comma_if}
use Rattle.presence_base.specs.Order.{text_cmp}
use Rattle.presence_base.specs.RefPlace.{members_before, members_from, begin_behind, ref_place}
use Rattle.presence_base.specs.Refs.{ref_of}
use Rattle.presence_base.specs.declared.dots.Dot.{Dot}
use Rattle.presence_base.specs.declared.row.Row.{Row}
use Rattle.presence_base.proofs.RefPlace.{members_open, after, over_member, cut_parts, is_object}
use Rattle.presence_metas.specs.Rows.{members_in, with_prev}
use Rattle.presence_metas.proofs.Lookups.{order, order_cases, true_false}
use Rattle.presence_metas.specs.RefTexts.{prev_text, refs_text, refs_first, refs_behind}
use Rattle.presence_metas.specs.Texts.{row_text}

-- the members with the references among them
abbrev with_refs : Dot → Option Dot → Members → Members
with_refs d prev ms = with_prev prev (put (codes "phx_ref") (string (ref_of d)) ms)

-- ---- the members behind the references

is_behind : (l : List ℕ) → is_lt (text_cmp (codes "phx_ref_prev") l) ≡ true → text_cmp (codes "phx_ref_prev") l ≡ Less
is_behind l h =
    order_cases (text_cmp (codes "phx_ref_prev") l) (λ o. o) (λ o. true_false (sym h ∙ ap is_lt o)) (λ o. true_false (sym h ∙ ap is_lt o))

behind_both : (ms : Members) → begin_behind ms ≡ true → (d : Data) → put (codes "phx_ref") d ms ≡ member (codes "phx_ref") d ms
behind_both no_members h d = refl
behind_both (member l e ms) h d = rw (order.trans (codes "phx_ref") (codes "phx_ref_prev") l refl (is_behind l h)) refl

behind_prev : (ms : Members) → begin_behind ms ≡ true → (d : Data) → put (codes "phx_ref_prev") d ms ≡ member (codes "phx_ref_prev") d ms
behind_prev no_members h d = refl
behind_prev (member l e ms) h d = rw (is_behind l h) refl

put_both : (d : Dot) (prev : Option Dot) (later : Bool) (ms : Members) → begin_behind ms ≡ true → members_text later (with_refs d prev ms) ≡ comma_if later ++ (refs_text d prev ++ members_text true ms)
unfolding escape_byte refs_text
put_both d None later ms h =
    ap (members_text later) (behind_both ms h (string (ref_of d)))
    ∙ ap (λ z. comma_if later ++ (codes "\"phx_ref\":" ++ z)) (sym (append_assoc (quoted (ref_of d)) [] (members_text true ms)))
put_both d (Some p) later ms h =
    ap (λ z. members_text later (put (codes "phx_ref_prev") (string (ref_of p)) z)) (behind_both ms h (string (ref_of d)))
    ∙ ap (λ z. members_text later (member (codes "phx_ref") (string (ref_of d)) z)) (behind_prev ms h (string (ref_of p)))
    ∙ ap (λ z. comma_if later ++ (codes "\"phx_ref\":" ++ z)) (sym (append_assoc (quoted (ref_of d)) (prev_text (Some p)) (members_text true ms)))

-- a comma stands before members that follow
rest_is : (ms : Members) → (if bytes_eq (members_text false ms) (codes "}") then members_text false ms else (44 ∷ members_text false ms)) ≡ members_text true ms
rest_is no_members = refl
rest_is (member l e ms) = refl

-- ---- the members before them

-- a name before both stays before them
before_both : (d : Dot) (prev : Option Dot) (l : List ℕ) (e : Data) (ms : Members) → text_cmp (codes "phx_ref") l ≡ Greater → with_refs d prev (member l e ms) ≡ member l e (with_refs d prev ms)
before_both d None l e ms h = rw h refl
before_both d (Some p) l e ms h =
    let under : text_cmp l (codes "phx_ref") ≡ Less = order.antisymm l (codes "phx_ref") ∙ ap ordering_reverse h in
    let above : text_cmp (codes "phx_ref_prev") l ≡ Greater = order.antisymm (codes "phx_ref_prev") l ∙ ap ordering_reverse (order.trans l (codes "phx_ref") (codes "phx_ref_prev") under refl) in
    rw (h, above) refl

-- the members in two parts, and the references between them
abbrev in_parts : Dot → Option Dot → Bool → Members → Members → List ℕ
in_parts d prev later bs fs = members_open later bs ++ (comma_if (after later bs) ++ (refs_text d prev ++ members_text true fs))

-- a name that is not before both
from_here : (d : Dot) (prev : Option Dot) (later : Bool) (ms : Members) → members_before ms ≡ no_members → members_from ms ≡ ms → begin_behind (members_from ms) ≡ true
    → members_text later (with_refs d prev ms) ≡ in_parts d prev later (members_before ms) (members_from ms)
unfolding members_open after
from_here d prev later ms none all h =
    put_both d prev later ms (ap begin_behind (sym all) ∙ h)
    ∙ ap (λ fs. in_parts d prev later no_members fs) (sym all)
    ∙ ap (λ bs. in_parts d prev later bs (members_from ms)) (sym none)

both_parts : (d : Dot) (prev : Option Dot) (later : Bool) (ms : Members) → begin_behind (members_from ms) ≡ true
    → members_text later (with_refs d prev ms) ≡ in_parts d prev later (members_before ms) (members_from ms)
unfolding members_open after
both_parts d prev later no_members h = put_both d prev later no_members h
both_parts d prev later (member l e ms) h =
    order_cases (text_cmp (codes "phx_ref") l)
    (λ o. from_here d prev later (member l e ms) (rw o refl) (rw o refl) h)
    (λ o. from_here d prev later (member l e ms) (rw o refl) (rw o refl) h)
    (λ o.
    let next : members_before (member l e ms) ≡ member l e (members_before ms) = rw o refl in
    let same : members_from (member l e ms) ≡ members_from ms = rw o refl in
    ap (members_text later) (before_both d prev l e ms o)
    ∙ ap (λ z. comma_if later ++ (quoted l ++ 58 ∷ (compact_text e ++ z))) (both_parts d prev true ms (ap begin_behind (sym same) ∙ h) ∙ ap (λ b. members_open true (members_before ms) ++ (comma_if b ++ (refs_text d prev ++ members_text true (members_from ms)))) (after_true (members_before ms)))
    ∙ over_member later l e (members_open true (members_before ms)) (44 ∷ (refs_text d prev ++ members_text true (members_from ms)))
    ∙ ap (λ fs. in_parts d prev later (member l e (members_before ms)) fs) (sym same)
    ∙ ap (λ bs. in_parts d prev later bs (members_from (member l e ms))) (sym next))
  where
    after_true : (bs : Members) → after true bs ≡ true
    after_true no_members = refl
    after_true (member j x bs) = refl

-- ---- the text

-- what stands in front of the references of an object, and behind them
cut_first : (d : Dot) (prev : Option Dot) (bs fs : Members) → bytes_eq (123 ∷ members_open false bs) (codes "{") ≡ true
    → refs_first d prev (members_text (after false bs) fs) ≡ 123 ∷ in_parts d prev false bs fs
unfolding members_open after
cut_first d prev no_members fs h = ap (λ z. 123 ∷ (refs_text d prev ++ z)) (rest_is fs)
cut_first d prev (member k x bs) fs h = true_false (sym h)

cut_behind : (d : Dot) (prev : Option Dot) (bs fs : Members) → bytes_eq (123 ∷ members_open false bs) (codes "{") ≡ false
    → refs_behind d prev (123 ∷ members_open false bs) ++ members_text (after false bs) fs ≡ 123 ∷ in_parts d prev false bs fs
unfolding members_open after
cut_behind d prev no_members fs h = true_false h
cut_behind d prev (member k x bs) fs h =
    append_assoc (123 ∷ members_open false (member k x bs)) (44 ∷ refs_text d prev) (members_text true fs)

object_first : (d : Dot) (prev : Option Dot) (ms : Members) (front rest : List ℕ) → Some (length front) ≡ ref_place (object ms) → front ++ rest ≡ compact_text (object ms) → bytes_eq front (codes "{") ≡ true
    → refs_first d prev rest ≡ compact_text (object (with_refs d prev ms))
object_first d prev ms front rest h e opens =
    let cut = cut_parts ms (length front) front rest (sym h) refl e in
    ap (refs_first d prev) cut.1
    ∙ cut_first d prev (members_before ms) (members_from ms) (ap (λ z. bytes_eq z (codes "{")) (sym cut.0) ∙ opens)
    ∙ ap (λ z. 123 ∷ z) (sym (both_parts d prev false ms cut.2))

object_behind : (d : Dot) (prev : Option Dot) (ms : Members) (front rest : List ℕ) → Some (length front) ≡ ref_place (object ms) → front ++ rest ≡ compact_text (object ms) → bytes_eq front (codes "{") ≡ false
    → refs_behind d prev front ++ rest ≡ compact_text (object (with_refs d prev ms))
object_behind d prev ms front rest h e opens =
    let cut = cut_parts ms (length front) front rest (sym h) refl e in
    ap (λ z. refs_behind d prev front ++ z) cut.1
    ∙ ap (λ z. refs_behind d prev z ++ members_text (after false (members_before ms)) (members_from ms)) cut.0
    ∙ cut_behind d prev (members_before ms) (members_from ms) (ap (λ z. bytes_eq z (codes "{")) (sym cut.0) ∙ opens)
    ∙ ap (λ z. 123 ∷ z) (sym (both_parts d prev false ms cut.2))

pub first_written : (d : Dot) (r : Row) (front rest : List ℕ) → Some (length front) ≡ ref_place r.meta → front ++ rest ≡ compact_text r.meta → bytes_eq front (codes "{") ≡ true → refs_first d r.prev rest ≡ row_text (d, r)
first_written d r front rest h e opens =
    let it = is_object r.meta (length front) (sym h) in
    subst (λ (m : Data). refs_first d r.prev rest ≡ compact_text (object (with_refs d r.prev (members_in m)))) (sym it.1)
    (object_first d r.prev it.0 front rest (h ∙ ap ref_place it.1) (e ∙ ap compact_text it.1) opens)

behind_written : (d : Dot) (r : Row) (front rest : List ℕ) → Some (length front) ≡ ref_place r.meta → front ++ rest ≡ compact_text r.meta → bytes_eq front (codes "{") ≡ false → refs_behind d r.prev front ++ rest ≡ row_text (d, r)
behind_written d r front rest h e opens =
    let it = is_object r.meta (length front) (sym h) in
    subst (λ (m : Data). refs_behind d r.prev front ++ rest ≡ compact_text (object (with_refs d r.prev (members_in m)))) (sym it.1)
    (object_behind d r.prev it.0 front rest (h ∙ ap ref_place it.1) (e ∙ ap compact_text it.1) opens)

-- where what follows was written too, all of it was
pub behind_pushed : {A E : Type 0} (result : Result A E) (d : Dot) (r : Row) (text mid new front rest : List ℕ) → Some (length front) ≡ ref_place r.meta → front ++ rest ≡ compact_text r.meta → bytes_eq front (codes "{") ≡ false → mid ≡ text ++ refs_behind d r.prev front
    → new ≡ (if is_ok result then mid ++ rest else mid) → OnOk result (new ≡ text ++ row_text (d, r))
behind_pushed (Ok x) d r text mid new front rest h e opens first second =
    second
    ∙ ap (λ z. z ++ rest) first
    ∙ append_assoc text (refs_behind d r.prev front) rest
    ∙ ap (λ z. text ++ z) (behind_written d r front rest h e opens)
behind_pushed (Err x) d r text mid new front rest h e opens first second = tt
