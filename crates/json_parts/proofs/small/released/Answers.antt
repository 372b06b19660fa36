use Rattle.std.proofs.Common.{◌≡◌, ◌≤◌, ◌+◌, ◌∷◌, ◌++◌, [], option_map, string_bytes, sym, refl, ap, ◌∙◌, subst, arith, append_assoc}
use Rattle.std.specs.List.Sorted.{IsStrictlySortedBy}
use Rattle.std.specs.Map.{keys_of}
use Rattle.std.specs.String.{string_cmp}
use Rattle.serde_json.specs.Data.{object, no_members, put, members_depth}
use Rattle.serde_json.specs.View.{view, members_view}
use Rattle.serde_json.specs.declared.value.Value.{Object}
use Rattle.serde_json.proofs.Views.{view-Object}
use Rattle.json_parts.specs.Small.{Entry, HoldsAll, part_view}
use Rattle.json_parts.proofs.Ends.{object_part, one_deeper}
use Rattle.json_parts.proofs.Sizes.{join, join_none, total_members}
use Rattle.json_parts.proofs.Turns.{none_held, let_one_go, one_stays}
use Rattle.json_parts.proofs.small.released.Goals as goal

pub loop-key-init : goal.loop-key-init
unfolding join total_members
loop-key-init c =
    let all : c.args.held.entries ≡ c.into_iter-key-iterator.result = sym c.into_iter-key-iterator.ensures.into_iter_gives.0 in
    ([], all, (λ limit ms same. (no_members, ms, refl, tt, subst (λ es. HoldsAll limit es ms) all same, ap members_view c.new-members.ensures.empty, omega arith, omega arith)), omega arith)

pub returns-in_default : goal.returns-in_default
returns-in_default c = λ limit ms same.
    let l = c.loop-key in
    let e : Entry = (c.in-Some.key, c.in-Some.member) in
    let old = l.invariant.2 limit ms same in
    one_deeper limit (object ms)
    (one_stays limit l.left c.take.new.left c.next.new.self e old.0 old.1 ms (option_map part_view c.in_ok-part.part) (option_map view c.take.result)
    old.2 (subst (λ es. HoldsAll limit es old.1) c.in-Some.ensures.steps old.4) old.6 c.in_ok-part.ensures (ap (option_map view) c.in_default.is) c.take.ensures)

pub loop-key-preserved : goal.loop-key-preserved
loop-key-preserved c =
    let l = c.loop-key in
    let done = l.invariant.0 in
    let e : Entry = (c.in-Some.key, c.in-Some.member) in
    let left = c.next.new.self in
    let all : c.args.held.entries ≡ done ++ e ∷ left = l.invariant.1 ∙ ap (λ es. done ++ es) c.in-Some.ensures.steps in
    let sorted = subst (λ es. IsStrictlySortedBy string_cmp (keys_of es)) all c.into_iter-key-iterator.ensures.into_iter_gives.5 in (
      done ++ e ∷ [],
      all ∙ sym (append_assoc done (e ∷ []) left),
      (λ limit ms same.
          let old = l.invariant.2 limit ms same in
          let_one_go limit l.left c.take.new.left done left e old.0 old.1 ms (members_view l.members.entries) (members_view c.insert.new.members.entries) (view c.in-Some-take.value)
          (option_map part_view c.in_ok-part.part) (option_map view c.take.result)
          sorted old.2 old.3 (subst (λ es. HoldsAll limit es old.1) c.in-Some.ensures.steps old.4) old.5 old.6 old.7 c.in_ok-insert.ensures
          c.in_ok-part.ensures (ap (option_map view) c.in-Some-take.is) c.take.ensures),
      grind arith,
    )

pub returns : goal.returns
returns c = λ limit ms same.
    let l = c.loop-key in
    let old = l.invariant.2 limit ms same in
    let over : l.key-iterator ≡ [] = grind arith in
    let none = none_held limit old.1 (subst (λ es. HoldsAll limit es old.1) over old.4) in
    let is = sym (join_none old.0) ∙ ap (join old.0) (sym none) ∙ old.2 in
    object_part limit l.left ms (members_view l.members.entries) (view (Object l.members)) (old.5 ∙ is)
    (subst (λ m. members_depth m ≤ limit) is old.7) (subst (λ m. 16384 ≤ l.left + total_members m) is old.6) (view-Object l.members)
