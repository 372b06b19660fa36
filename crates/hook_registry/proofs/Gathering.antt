-- Members that are given within the limits are gathered into an extra.
use Rattle.std.proofs.Common.{◌≡◌, ◌≤◌, ◌+◌, ℕ, suc, List, [], ◌∷◌, length, Bool, true, false, ◌&&◌, nat_le, IsTrue, refl, subst, arith}
use Rattle.std.specs.declared.cmp.Ordering.{Ordering}
use Rattle.std.specs.declared.cmp.Ordering.TheVariants.{Less, Equal, Greater}
use Rattle.std.specs.Ordering.{match_ordering}
use Rattle.std.proofs.lemmas.Bool.Decides.{nat_tests}
use Rattle.serde_json.specs.Data.{Data, Members, no_members, member, put}
use Rattle.serde_json.specs.Events.{members_len}
use Rattle.presence_base.specs.Order.{text_cmp}
use Rattle.presence_metas.proofs.Lookups.{order_cases, equal_is}
use Rattle.hook_registry.specs.Extras.{is_extra_member, are_extra_members, names_differ, are_extra, all_extra_members, is_extra, gathered_into, gathered}
use Rattle.hook_registry.specs.declared.extra.TheConstants.{MAX_EXTRA_MEMBERS}

both : (a b : Bool) → IsTrue a → IsTrue b → IsTrue (a && b)
both true b h k = k
both false b h k = cc

first_of : (a b : Bool) → IsTrue (a && b) → IsTrue a
first_of true b h = refl
first_of false b h = cc

second_of : (a b : Bool) → IsTrue (a && b) → IsTrue b
second_of true b h = h
second_of false b h = cc

-- one member more is at most one more
len_put : (k : List ℕ) (d : Data) (ms : Members) → members_len (put k d ms) ≤ suc (members_len ms)
len_put k d no_members = omega arith
len_put k d (member l e ms) = at_order (text_cmp k l) (len_put k d ms)
  where
    at_order : (o : Ordering) → members_len (put k d ms) ≤ suc (members_len ms)
        → members_len (match_ordering o (member k d (member l e ms)) (member l d ms) (member l e (put k d ms))) ≤ suc (suc (members_len ms))
    at_order Less h = omega arith
    at_order Equal h = omega arith
    at_order Greater h = omega arith

extra_put : (k : List ℕ) (d : Data) (ms : Members) → IsTrue (is_extra_member k d) → IsTrue (all_extra_members ms) → IsTrue (all_extra_members (put k d ms))
extra_put k d no_members h i = both (is_extra_member k d) true h refl
extra_put k d (member l e ms) h i =
    let here : IsTrue (is_extra_member l e) = first_of (is_extra_member l e) (all_extra_members ms) i in
    let behind : IsTrue (all_extra_members ms) = second_of (is_extra_member l e) (all_extra_members ms) i in
    order_cases (text_cmp k l)
    (λ o. rw o (both (is_extra_member k d) (is_extra_member l e && all_extra_members ms) h i))
    (λ o. rw o (both (is_extra_member l d) (all_extra_members ms) (subst (λ z. IsTrue (is_extra_member z d)) (equal_is k l o) h) behind))
    (λ o. rw o (both (is_extra_member l e) (all_extra_members (put k d ms)) here (extra_put k d ms h behind)))

gathered_len : (ms : Members) (ps : List (List ℕ × Data)) → members_len (gathered_into ms ps) ≤ members_len ms + length ps
gathered_len ms [] = omega arith
gathered_len ms (p ∷ ps) =
    let more : members_len (gathered_into (put p.0 p.1 ms) ps) ≤ members_len (put p.0 p.1 ms) + length ps = gathered_len (put p.0 p.1 ms) ps in
    let one : members_len (put p.0 p.1 ms) ≤ suc (members_len ms) = len_put p.0 p.1 ms in
    omega arith

gathered_extra : (ms : Members) (ps : List (List ℕ × Data)) → IsTrue (are_extra_members ps) → IsTrue (all_extra_members ms) → IsTrue (all_extra_members (gathered_into ms ps))
gathered_extra ms [] h i = i
gathered_extra ms (p ∷ ps) h i =
    gathered_extra (put p.0 p.1 ms) ps (second_of (is_extra_member p.0 p.1) (are_extra_members ps) h) (extra_put p.0 p.1 ms (first_of (is_extra_member p.0 p.1) (are_extra_members ps) h) i)

le_within : (a b : ℕ) → IsTrue (nat_le a b) → a ≤ b
le_within a b h = grind (arith, nat_tests)

within_le : (a b : ℕ) → a ≤ b → IsTrue (nat_le a b)
within_le a b h = grind (arith, nat_tests)

-- what is gathered of members within the limits is an extra
pub gathered_is_extra : (ps : List (List ℕ × Data)) → are_extra ps ≡ true → IsTrue (is_extra (gathered ps))
gathered_is_extra ps h =
    let limited : IsTrue (nat_le (length ps) MAX_EXTRA_MEMBERS && are_extra_members ps) = first_of (nat_le (length ps) MAX_EXTRA_MEMBERS && are_extra_members ps) (names_differ ps) h in
    let few : length ps ≤ MAX_EXTRA_MEMBERS = le_within (length ps) MAX_EXTRA_MEMBERS (first_of (nat_le (length ps) MAX_EXTRA_MEMBERS) (are_extra_members ps) limited) in
    let gathered_few : members_len (gathered ps) ≤ length ps = from_none (gathered_len no_members ps) in
    both (nat_le (members_len (gathered ps)) MAX_EXTRA_MEMBERS) (all_extra_members (gathered ps))
    (within_le (members_len (gathered ps)) MAX_EXTRA_MEMBERS (few_of gathered_few few))
    (gathered_extra no_members ps (second_of (nat_le (length ps) MAX_EXTRA_MEMBERS) (are_extra_members ps) limited) refl)
  where
    from_none : {a b : ℕ} → a ≤ 0 + b → a ≤ b
    from_none h = omega arith

    few_of : {a b c : ℕ} → a ≤ b → b ≤ c → a ≤ c
    few_of h k = omega arith
