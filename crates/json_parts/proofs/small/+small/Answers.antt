use Rattle.std.proofs.Common.{◌≡◌, ◌≤◌, ◌<◌, ◌+◌, ◌-◌, ◌++◌, ◌∷◌, [], false, suc, Some, None, option_map, string_bytes, length, refl, sym, ap, ◌∙◌, subst, arith}
use Rattle.json.specs.Json.{after_end_array, read_key}
use Rattle.json.specs.Reads.{token_of}
use Rattle.json.specs.Token.{Token}
use Rattle.json.specs.Tree.{items_tokens, members_tokens}
use Rattle.json.proofs.Grammar.{read_key-shorter}
use Rattle.serde_json.specs.Data.{array, object, no_members, depth, items_depth}
use Rattle.serde_json.specs.View.{view, items_view}
use Rattle.serde_json.specs.declared.value.Value.{Array}
use Rattle.serde_json.proofs.Views.{view-Array}
use Rattle.json_parts.specs.Places.{data_of, items_data, members_data, At, Leaves}
use Rattle.json_parts.specs.Small.{IsPart, HoldsAll, part_view, part_in}
use Rattle.json_parts.proofs.Places.{led, not_empty, items_end, items_next, key_stands, members_end, members_next}
use Rattle.json_parts.proofs.Sizes.{total}
use Rattle.json_parts.proofs.Walks.{items_before, member_passed, member_not_refused}
use Rattle.json_parts.proofs.Turns.{never_more, item_kept, item_dropped, member_held, members_too_many, is_nest_token, flat, too_deep}
use Rattle.json_parts.proofs.Ends.{any_ok, one_deeper, nests, flat_part, array_part, members_same, object_leaves}
use Rattle.json_parts.proofs.small.+small.Goals as goal

pub small_items-loop-alloc-init : goal.small_items-loop-alloc-init
unfolding total
small_items-loop-alloc-init t c =
    let none = c.new-items.ensures.items in
    let flat_yet : items_depth (items_view c.new-items.result.items) ≡ 0 = ap (λ vs. items_depth (items_view vs)) none in (
      (λ all rest at. (
        all,
        at,
        ap (λ vs. items_before vs (items_data all)) none,
        omega arith,
        omega (arith, flat_yet),
      )),
      grind arith,
      grind arith,
    )

pub small_items-returns-in_err-part-clause-read : goal.small_items-returns-in_err-part-clause-read
small_items-returns-in_err-part-clause-read t c = λ all rest at.
    let l = c.loop-alloc in
    let going : (after_end_array l.reader ≡ None) × (c.take_end_array.new.self ≡ l.reader) = grind arith in
    let here = l.invariant.0 all rest at in
    let n = items_next l.reader here.0 rest here.1 going.0 in
    let more = items_tokens n.1 ++ rest in
    let memory = c.in_err-part.ensures.read n.0 more (subst (λ ts. At ts n.0 more) (sym going.1) n.3) in
    grind (arith, memory)

pub small_items-returns-in_err-skip_items-clause-read : goal.small_items-returns-in_err-skip_items-clause-read
small_items-returns-in_err-skip_items-clause-read t c = λ all rest at.
    let l = c.loop-alloc in
    let going : (after_end_array l.reader ≡ None) × (c.take_end_array.new.self ≡ l.reader) = grind arith in
    let here = l.invariant.0 all rest at in
    let gone = item_dropped c.args.limit l.left c.take.new.left l.items.items (option_map part_view c.in_ok-part.part) (option_map view c.take.result)
    l.reader c.small_value.new.reader here.0 all rest here.1 going.0 here.2 here.3
    (λ j more stands. c.in_ok-part.ensures.read j more (subst (λ ts. At ts j more) (sym going.1) stands))
    (ap (option_map view) c.in_default.is) c.take.ensures in
    let memory = c.in_err-skip_items.ensures.passed gone.0 rest gone.1 in
    grind (arith, memory)

pub small_items-returns-in_default-clause-read : goal.small_items-returns-in_default-clause-read
small_items-returns-in_default-clause-read t c = λ all rest at.
    let l = c.loop-alloc in
    let going : (after_end_array l.reader ≡ None) × (c.take_end_array.new.self ≡ l.reader) = grind arith in
    let here = l.invariant.0 all rest at in
    let gone = item_dropped c.args.limit l.left c.take.new.left l.items.items (option_map part_view c.in_ok-part.part) (option_map view c.take.result)
    l.reader c.small_value.new.reader here.0 all rest here.1 going.0 here.2 here.3
    (λ j more stands. c.in_ok-part.ensures.read j more (subst (λ ts. At ts j more) (sym going.1) stands))
    (ap (option_map view) c.in_default.is) c.take.ensures in
    let passed = c.in_ok-skip_items.ensures.passed gone.0 rest gone.1 in
    (one_deeper c.args.limit (array (items_data all)) gone.2, passed.1)

pub small_items-loop-alloc-preserved : goal.small_items-loop-alloc-preserved
small_items-loop-alloc-preserved t c =
    let l = c.loop-alloc in
    let going : (after_end_array l.reader ≡ None) × (c.take_end_array.new.self ≡ l.reader) = grind arith in
    let less : length c.small_value.new.reader < length c.take_end_array.new.self = c.in_ok-part.ensures.shorter in
    let same : length c.take_end_array.new.self ≡ length l.reader = ap length going.1 in
    let fewer : c.take.new.left ≤ l.left = never_more (option_map part_view c.in_ok-part.part) l.left c.take.new.left (view c.in-Some.item) (option_map view c.take.result)
    (ap (option_map view) c.in-Some.is) c.take.ensures in (
      (λ all rest at.
          let here = l.invariant.0 all rest at in
          item_kept c.args.limit l.left c.take.new.left l.items.items c.push.new.items.items c.in-Some.item (option_map part_view c.in_ok-part.part) (option_map view c.take.result)
          l.reader c.small_value.new.reader here.0 all rest here.1 going.0 here.2 here.3 here.4 c.in_ok-push.ensures
          (λ j more stands. c.in_ok-part.ensures.read j more (subst (λ ts. At ts j more) (sym going.1) stands))
          (ap (option_map view) c.in-Some.is) c.take.ensures),
      omega (arith, less, same, l.invariant.1),
      omega (arith, fewer, l.invariant.2),
    )

pub small_items-returns-clause-read : goal.small_items-returns-clause-read
small_items-returns-clause-read t c = λ all rest at.
    let l = c.loop-alloc in
    let over : after_end_array l.reader ≡ Some c.take_end_array.new.self = grind arith in
    let here = l.invariant.0 all rest at in
    let end = items_end l.reader c.take_end_array.new.self here.0 rest here.1 over in
    (array_part c.args.limit l.left l.items.items (view (Array l.items)) here.0 all end.0 here.2 here.4 here.3 (view-Array l.items), end.1)

pub small_members-loop-held-init : goal.small_members-loop-held-init
small_members-loop-held-init t c = ((λ all rest at. (no_members, all, at, refl, subst (λ es. HoldsAll c.args.limit es no_members) (sym c.new-held.ensures.empty) tt)), omega arith)

pub small_members-returns-in_err-name-clause-read : goal.small_members-returns-in_err-name-clause-read
small_members-returns-in_err-name-clause-read t c = λ all rest at.
    let l = c.loop-held in
    let here = l.invariant.0 all rest at in
    absurd (key_stands l.reader here.1 rest here.2 c.in_err-name.ensures.value)

pub small_members-returns-in_err-skip_value-clause-read : goal.small_members-returns-in_err-skip_value-clause-read
small_members-returns-in_err-skip_value-clause-read t c = λ all rest at.
    let l = c.loop-held in
    let k = c.in-Some.name.now in
    let s = c.next_key.new.self in
    let named : read_key l.reader ≡ Some (Some k, s) = grind arith in
    let here = l.invariant.0 all rest at in
    absurd (member_not_refused l.reader s k here.1 rest here.2 named c.in_err-skip_value.ensures.value)

pub small_members-returns-in_err-skip_members-clause-read : goal.small_members-returns-in_err-skip_members-clause-read
small_members-returns-in_err-skip_members-clause-read t c = λ all rest at.
    let l = c.loop-held in
    let k = c.in-Some.name.now in
    let s = c.next_key.new.self in
    let named : read_key l.reader ≡ Some (Some k, s) = grind arith in
    let here = l.invariant.0 all rest at in
    let left = member_passed l.reader s c.skip_value.new.self k here.1 rest here.2 named c.in_ok-skip_value.ensures.value in
    let memory = c.in_err-skip_members.ensures.passed left.0 rest left.1 in
    grind (arith, memory)

pub small_members-returns-then-len-ge-MAX_MEMBERS-clause-read : goal.small_members-returns-then-len-ge-MAX_MEMBERS-clause-read
small_members-returns-then-len-ge-MAX_MEMBERS-clause-read t c = λ all rest at.
    let l = c.loop-held in
    let k = c.in-Some.name.now in
    let s = c.next_key.new.self in
    let named : read_key l.reader ≡ Some (Some k, s) = grind arith in
    let here = l.invariant.0 all rest at in
    let left = member_passed l.reader s c.skip_value.new.self k here.1 rest here.2 named c.in_ok-skip_value.ensures.value in
    let passed = c.in_ok-skip_members.ensures.passed left.0 rest left.1 in
    let many : 5462 ≤ length l.held.entries = omega (arith, c.if-len-ge-MAX_MEMBERS.true, c.len.ensures.len) in (
      one_deeper c.args.limit (object (members_data all no_members)) (members_too_many c.args.limit l.held.entries here.1 all here.0 many here.3 here.4),
      passed.1,
    )

pub small_members-returns-in_err-part-clause-read : goal.small_members-returns-in_err-part-clause-read
small_members-returns-in_err-part-clause-read t c = λ all rest at.
    let l = c.loop-held in
    let k = c.in-Some.name.now in
    let s = c.next_key.new.self in
    let named : read_key l.reader ≡ Some (Some k, s) = grind arith in
    let here = l.invariant.0 all rest at in
    let n = members_next l.reader s k here.1 rest here.2 named in
    let memory = c.in_err-part.ensures.read n.0 (members_tokens n.1 ++ rest) n.3 in
    grind (arith, memory)

pub small_members-returns-in_err-member-clause-read : goal.small_members-returns-in_err-member-clause-read
small_members-returns-in_err-member-clause-read t c = λ all rest at.
    let l = c.loop-held in
    let k = c.in-Some.name.now in
    let s = c.next_key.new.self in
    let named : read_key l.reader ≡ Some (Some k, s) = grind arith in
    let here = l.invariant.0 all rest at in
    let n = members_next l.reader s k here.1 rest here.2 named in
    let read = c.in_ok-part.ensures.read n.0 (members_tokens n.1 ++ rest) n.3 in
    let low : c.args.limit ≤ 32 = omega (arith, c.requires.low) in
    let memory = c.in_err-member.ensures (nests c.args.limit (data_of n.0) c.in_ok-part.part low read.0) in
    grind (arith, memory)

pub small_members-loop-held-preserved : goal.small_members-loop-held-preserved
small_members-loop-held-preserved t c =
    let l = c.loop-held in
    let k = c.in-Some.name.now in
    let s = c.next_key.new.self in
    let named : read_key l.reader ≡ Some (Some k, s) = grind arith in
    let less : length s < length l.reader = read_key-shorter l.reader (Some k) s named in
    let lesser : length c.small_value.new.reader < length s = c.in_ok-part.ensures.shorter in
    let low : c.args.limit ≤ 32 = omega (arith, c.requires.low) in
    let copied : string_bytes c.in_ok-key.key ≡ k = grind arith in (
      (λ all rest at.
          let here = l.invariant.0 all rest at in
          member_held c.args.limit l.held.entries c.keep.new.held.entries c.in_ok-key.key c.in_ok-member.member k l.reader s c.small_value.new.reader
          here.1 all rest here.0 here.2 named here.3 here.4 c.in_ok-keep.ensures copied
          (λ j more stands.
          let read = c.in_ok-part.ensures.read j more stands in
          (subst (IsPart c.args.limit (data_of j)) (sym (c.in_ok-member.ensures (nests c.args.limit (data_of j) c.in_ok-part.part low read.0))) read.0, read.1))),
      omega (arith, less, lesser, l.invariant.1),
    )

pub small_members-returns : goal.small_members-returns
small_members-returns t c =
    let l = c.loop-held in
    let over : read_key l.reader ≡ Some (None, c.next_key.new.self) = grind arith in
    let less : length c.next_key.new.self < length l.reader = read_key-shorter l.reader None c.next_key.new.self over in
    record {
      read = λ all rest at.
          let here = l.invariant.0 all rest at in
          let end = members_end l.reader c.next_key.new.self here.1 rest here.2 over in
          object_leaves c.args.limit here.0 (members_data all no_members) c.released.result c.next_key.new.self rest
          (members_same here.1 all here.0 end.0 here.3) end.1 (c.released.ensures c.args.limit here.0 here.4);
      shorter = any_ok c.released.result (length c.next_key.new.self < length c.args.reader.now) (omega (arith, less, l.invariant.1));
    }

pub small_value-returns-in_err-token-clause-read : goal.small_value-returns-in_err-token-clause-read
small_value-returns-in_err-token-clause-read t c = λ j rest at.
    let none : c.args.reader.now ≡ [] = grind arith in
    absurd (not_empty j rest (subst (λ ts. At ts j rest) none at))

pub small_value-returns-in_err-skip_items-in-BeginArray-clause-read : goal.small_value-returns-in_err-skip_items-in-BeginArray-clause-read
small_value-returns-in_err-skip_items-in-BeginArray-clause-read t c = λ j rest at.
    let first : c.args.reader.now ≡ Token.begin_array ∷ c.next.new.self = grind arith in
    let n = led Token.begin_array c.next.new.self j rest (subst (λ ts. At ts j rest) first at) in
    let memory = c.in_err-skip_items-in-BeginArray.ensures.passed n.0 rest n.2 in
    grind (arith, memory)

pub small_value-returns-then-limit-eq0-clause-read : goal.small_value-returns-then-limit-eq0-clause-read
small_value-returns-then-limit-eq0-clause-read t c = λ j rest at.
    let first : c.args.reader.now ≡ Token.begin_array ∷ c.next.new.self = grind arith in
    let n = led Token.begin_array c.next.new.self j rest (subst (λ ts. At ts j rest) first at) in
    let deep : 0 < depth (data_of j) = subst (λ i. 0 < depth (data_of i)) (sym n.1) (omega arith) in
    let none : c.args.limit ≡ 0 = grind arith in
    let passed = c.in_ok-skip_items-in-BeginArray.ensures.passed n.0 rest n.2 in
    (too_deep c.args.limit (data_of j) none deep, passed.1)

pub small_value-returns-in_err-skip_members-in-BeginObject-clause-read : goal.small_value-returns-in_err-skip_members-in-BeginObject-clause-read
small_value-returns-in_err-skip_members-in-BeginObject-clause-read t c = λ j rest at.
    let first : c.args.reader.now ≡ Token.begin_object ∷ c.next.new.self = grind arith in
    let n = led Token.begin_object c.next.new.self j rest (subst (λ ts. At ts j rest) first at) in
    let memory = c.in_err-skip_members-in-BeginObject.ensures.passed n.0 rest n.2 in
    grind (arith, memory)

pub small_value-returns-then-limit-eq0-2-clause-read : goal.small_value-returns-then-limit-eq0-2-clause-read
small_value-returns-then-limit-eq0-2-clause-read t c = λ j rest at.
    let first : c.args.reader.now ≡ Token.begin_object ∷ c.next.new.self = grind arith in
    let n = led Token.begin_object c.next.new.self j rest (subst (λ ts. At ts j rest) first at) in
    let deep : 0 < depth (data_of j) = subst (λ i. 0 < depth (data_of i)) (sym n.1) (omega arith) in
    let none : c.args.limit ≡ 0 = grind arith in
    let passed = c.in_ok-skip_members-in-BeginObject.ensures.passed n.0 rest n.2 in
    (too_deep c.args.limit (data_of j) none deep, passed.1)

pub small_value-returns-else-limit-eq0-clause-read : goal.small_value-returns-else-limit-eq0-clause-read
small_value-returns-else-limit-eq0-clause-read t c = λ j rest at.
    let first : c.args.reader.now ≡ Token.begin_array ∷ c.next.new.self = grind arith in
    let n = led Token.begin_array c.next.new.self j rest (subst (λ ts. At ts j rest) first at) in
    let some : 0 < c.args.limit = grind arith in
    let back : c.args.limit - 1 + 1 ≡ c.args.limit = omega (arith, some) in
    let left = c.small_items.new.reader in
    let result = c.small_items.result in
    subst (λ i. Leaves left rest result (λ o. IsPart c.args.limit (data_of i) (option_map part_view o))) (sym n.1)
    (subst (λ d. Leaves left rest result (λ o. IsPart d (array (items_data n.0)) (option_map part_view o))) back
    (c.small_items.ensures.read n.0 rest n.2))

pub small_value-returns-else-limit-eq0-2-clause-read : goal.small_value-returns-else-limit-eq0-2-clause-read
small_value-returns-else-limit-eq0-2-clause-read t c = λ j rest at.
    let first : c.args.reader.now ≡ Token.begin_object ∷ c.next.new.self = grind arith in
    let n = led Token.begin_object c.next.new.self j rest (subst (λ ts. At ts j rest) first at) in
    let some : 0 < c.args.limit = grind arith in
    let back : c.args.limit - 1 + 1 ≡ c.args.limit = omega (arith, some) in
    let left = c.small_members.new.reader in
    let result = c.small_members.result in
    subst (λ i. Leaves left rest result (λ o. IsPart c.args.limit (data_of i) (option_map part_view o))) (sym n.1)
    (subst (λ d. Leaves left rest result (λ o. IsPart d (object (members_data n.0 no_members)) (option_map part_view o))) back
    (c.small_members.ensures.read n.0 rest n.2))

pub small_value-returns-in_ok-value-in_default : goal.small_value-returns-in_ok-value-in_default
small_value-returns-in_ok-value-in_default t c =
    let first : c.args.reader.now ≡ token_of c.in_ok-token.token ∷ c.next.new.self = grind arith in
    let other : is_nest_token (token_of c.in_ok-token.token) ≡ false = grind arith in
    let longer : length c.args.reader.now ≡ suc (length c.next.new.self) = ap length first in
    let less : length c.brief_of.new.reader < length c.args.reader.now = omega (arith, longer, c.in_ok-value-in_default.ensures.shorter) in
    record {
      read = λ j rest at.
          let stands = subst (λ ts. At ts j rest) first at in
          let seen = c.in_ok-value-in_default.ensures.read j rest stands in (
            flat_part c.args.limit (data_of j) (view c.in_ok-value-in_default.value)
                (flat (token_of c.in_ok-token.token) c.next.new.self j rest stands other) seen.0,
            seen.1,
          );
      shorter = less;
    }
