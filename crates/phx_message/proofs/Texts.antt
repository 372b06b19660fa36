-- An orderly value without floats is what its compact text reads as.
use Rattle.std.proofs.Common.{◌≡◌, ◌≤◌, ℕ, suc, pos, negsuc, List, [], false, Option, Some, option_map, option_and_then, Less, Greater, refl, sym, ap, ◌∙◌, arith, append-nil}
use Rattle.std.specs.Ordering.{nat_cmp, match_ordering, ordering_reverse}
use Rattle.std.specs.Cmp.Lexicographic.{slice_cmp}
use Rattle.std.proofs.lemmas.Bool.{or_parts}
use Rattle.std.proofs.lemmas.Cmp.{nat_list_cmp_total}
use Rattle.json.specs.Token.{Token}
use Rattle.json.specs.Lex.{tokens}
use Rattle.json.specs.Print.{IsNumber}
use Rattle.json.specs.Json as json
use Rattle.json.specs.Tree as tree
use Rattle.json.specs.Tree.{json_tokens, HasNumbers, ItemsHaveNumbers, MembersHaveNumbers}
use Rattle.json.proofs.Printed.Decimals.{IsNumber-decimal, IsNumber-signed_decimal}
use Rattle.json.proofs.Printed.Tokens.{tokens-print}
use Rattle.json.proofs.Printed.Trees.{ArePrintable-json_tokens, value-json_tokens}
use Rattle.serde_json.specs.Data.{Num, unsigned, negative, float, Data, null, boolean, number, string, array, object, Items, no_items, item, Members, no_members, member, put, depth, items_depth, members_depth}
use Rattle.serde_json.specs.Read.{number_of, of_json, of_items, of_members, max_depth, read}
use Rattle.serde_json.specs.Written.{number_text, outline, items_outline, members_outline, has_float, items_have_float, members_have_float, compact_text}
use Rattle.serde_json.proofs.Numbers.{number_of-decimal, number_of-negative}
use Rattle.serde_json.proofs.Texts.{print-outline}
use Rattle.phx_message.specs.Orderly.{Is64Bits, IsBelow, IsOrderly, AreOrderly, MembersAreOrderly}

-- ---- numbers

number_again : (n : Num) → Is64Bits n → has_float (number n) ≡ false → number_of (number_text n) ≡ Some n
number_again (unsigned n) h whole = number_of-decimal n h
number_again (negative (pos n)) h whole = absurd h
number_again (negative (negsuc n)) h whole = number_of-negative n h
number_again (float x) h whole = absurd (cc)

number_is : (n : Num) → Is64Bits n → has_float (number n) ≡ false → IsNumber (number_text n)
number_is (unsigned n) h whole = IsNumber-decimal n h
number_is (negative (pos n)) h whole = absurd h
number_is (negative (negsuc n)) h whole = IsNumber-signed_decimal (negsuc n) (omega arith)
number_is (float x) h whole = absurd (cc)

mutual
  numbers_are : (d : Data) → IsOrderly d → has_float d ≡ false → HasNumbers (outline d)
  numbers_are null h whole = tt
  numbers_are (boolean b) h whole = tt
  numbers_are (number n) h whole = number_is n h whole
  numbers_are (string s) h whole = tt
  numbers_are (array ds) h whole = item_numbers ds h whole
  numbers_are (object ms) h whole = member_numbers ms h whole

  item_numbers : (ds : Items) → AreOrderly ds → items_have_float ds ≡ false → ItemsHaveNumbers (items_outline ds)
  item_numbers no_items h whole = tt
  item_numbers (item d ds) h whole = let p = or_parts (has_float d) _ whole in (numbers_are d h.0 p.0, item_numbers ds h.1 p.1)

  member_numbers : (ms : Members) → MembersAreOrderly ms → members_have_float ms ≡ false → MembersHaveNumbers (members_outline ms)
  member_numbers no_members h whole = tt
  member_numbers (member k d ms) h whole = let p = or_parts (has_float d) _ whole in (numbers_are d h.1 p.0, member_numbers ms h.2 p.1)

-- ---- members that come in order

abbrev onto : Members → Members → Members
onto no_members rest = rest
onto (member k d ms) rest = member k d (onto ms rest)

-- all keys are below this one
abbrev AllBelow : Members → List ℕ → Type 0
AllBelow no_members k = Unit {0}
AllBelow (member l d ms) k = (slice_cmp nat_cmp l k ≡ Less) × AllBelow ms k

put_last : (found : Members) (k : List ℕ) (d : Data) → AllBelow found k → put k d found ≡ onto found (member k d no_members)
put_last no_members k d h = refl
put_last (member l x ms) k d h =
    let more : slice_cmp nat_cmp k l ≡ Greater = nat_list_cmp_total.antisymm k l ∙ ap ordering_reverse h.0 in
    ap (λ o. match_ordering o (member k d (member l x ms)) (member l d ms) (member l x (put k d ms))) more ∙ ap (member l x) (put_last ms k d h.1)

onto-more : (xs ys zs : Members) → onto (onto xs ys) zs ≡ onto xs (onto ys zs)
onto-more no_members ys zs = refl
onto-more (member k d ms) ys zs = ap (member k d) (onto-more ms ys zs)

below_onto : (found : Members) (k l : List ℕ) (d : Data) → AllBelow found k → slice_cmp nat_cmp k l ≡ Less → AllBelow (onto found (member k d no_members)) l
below_onto no_members k l d h e = (e, tt)
below_onto (member j x ms) k l d h e = (nat_list_cmp_total.trans j k l h.0 e, below_onto ms k l d h.1 e)

-- the first of these keys, where there is one, is above all that were found
abbrev Follows : Members → Members → Type 0
Follows found no_members = Unit {0}
Follows found (member k d ms) = AllBelow found k

follows_next : (found : Members) (k : List ℕ) (d : Data) (ms : Members) → AllBelow found k → IsBelow k ms → Follows (onto found (member k d no_members)) ms
follows_next found k d no_members h b = tt
follows_next found k d (member l x ms) h b = below_onto found k l d h b

onto-none : (found : Members) → onto found no_members ≡ found
onto-none no_members = refl
onto-none (member k d ms) = ap (member k d) (onto-none ms)

follows_none : (ms : Members) → Follows no_members ms
follows_none no_members = tt
follows_none (member k d ms) = tt

mutual
  again : (d : Data) → IsOrderly d → has_float d ≡ false → of_json (outline d) ≡ Some d
  again null h whole = refl
  again (boolean b) h whole = refl
  again (number n) h whole = ap (option_map number) (number_again n h whole)
  again (string s) h whole = refl
  again (array ds) h whole = ap (option_map array) (items_again ds h whole)
  again (object ms) h whole = ap (option_map object) (members_again ms no_members h whole (follows_none ms))

  items_again : (ds : Items) → AreOrderly ds → items_have_float ds ≡ false → of_items (items_outline ds) ≡ Some ds
  items_again no_items h whole = refl
  items_again (item d ds) h whole =
      let p = or_parts (has_float d) _ whole in
      ap (option_and_then (λ x. option_map (item x) (of_items (items_outline ds)))) (again d h.0 p.0) ∙ ap (option_map (item d)) (items_again ds h.1 p.1)

  members_again : (ms found : Members) → MembersAreOrderly ms → members_have_float ms ≡ false → Follows found ms → of_members (members_outline ms) found ≡ Some (onto found ms)
  members_again no_members found h whole f = ap Some (sym (onto-none found))
  members_again (member k d ms) found h whole f =
      let p = or_parts (has_float d) _ whole in
      ap (option_and_then (λ x. of_members (members_outline ms) (put k x found))) (again d h.1 p.0)
      ∙ ap (of_members (members_outline ms)) (put_last found k d f)
      ∙ members_again ms (onto found (member k d no_members)) h.2 p.1 (follows_next found k d ms f h.0)
      ∙ ap Some (onto-more found (member k d no_members) ms)

-- ---- depths

mutual
  depth-outline : (d : Data) → tree.depth (outline d) ≡ depth d
  depth-outline null = refl
  depth-outline (boolean b) = refl
  depth-outline (number n) = refl
  depth-outline (string s) = refl
  depth-outline (array ds) = ap suc (items_depth-outline ds)
  depth-outline (object ms) = ap suc (members_depth-outline ms)

  items_depth-outline : (ds : Items) → tree.items_depth (items_outline ds) ≡ items_depth ds
  items_depth-outline no_items = refl
  items_depth-outline (item d ds) = rw (depth-outline d, items_depth-outline ds) refl

  members_depth-outline : (ms : Members) → tree.members_depth (members_outline ms) ≡ members_depth ms
  members_depth-outline no_members = refl
  members_depth-outline (member k d ms) = rw (depth-outline d, members_depth-outline ms) refl

-- ---- the text

abbrev whole_value : Option (json.Json × List Token) → Option Data
whole_value o = option_and_then of_json (option_and_then (λ p. json.if_last p.0 p.1) o)

tokens_again : (d : Data) → IsOrderly d → has_float d ≡ false → tokens (compact_text d) ≡ json_tokens (outline d)
tokens_again d h whole = ap tokens (sym (print-outline d)) ∙ tokens-print (json_tokens (outline d)) (ArePrintable-json_tokens (outline d) (numbers_are d h whole))

pub text_again : (d : Data) → IsOrderly d → has_float d ≡ false → depth d ≤ 127 → read (compact_text d) ≡ Some d
text_again d h whole shallow =
    ap (λ ts. whole_value (json.value max_depth ts)) (tokens_again d h whole ∙ sym (append-nil (json_tokens (outline d))))
    ∙ ap whole_value (value-json_tokens (outline d) max_depth [] (omega (arith, depth-outline d, shallow)))
    ∙ again d h whole
