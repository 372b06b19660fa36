-- A list that is next in an array.
use Rattle.std.proofs.Common.{◌≡◌, ◌≤◌, List, ◌++◌, Bool, true, false, Option, Some, None, Result, Ok, Err, refl, sym, ap, ◌∙◌, subst}
use Rattle.json.specs.Json as json
use Rattle.json.specs.Token.{Token}
use Rattle.json.specs.Tree.{items_tokens, items_depth}
use Rattle.serde_json.specs.Data.{Data, null, boolean, number, string, array, object}
use Rattle.serde_json.specs.Read.{max_depth}
use Rattle.json_parts.specs.Items.{is_other, Begins}
use Rattle.json_parts.specs.Places.{data_of, items_data}
use Rattle.json_parts.specs.declared.items.Begun.{Begun}
use Rattle.json_parts.specs.declared.items.Begun.TheVariants as begun
use Rattle.link_lines.specs.declared.fault.LinkFault.{LinkFault}
use Rattle.link_lines.specs.ReadingMembers.{Found, first_in, FoundNext}
use Rattle.link_lines.specs.Results.{Fails, or_bad}
use Rattle.link_lines.specs.Telling.{each_in, list_in}

or_bad_some : {A : Type 0} (o : Option A) (x : A) → or_bad o ≡ Ok x → o ≡ Some x
or_bad_some None x e = absurd (cc)
or_bad_some {A} (Some y) x e = ap some_of e
  where
    some_of : Result A LinkFault → Option A
    some_of (Ok z) = Some z
    some_of (Err f) = None

pub next_found : {X A : Type 0} (view : X → List A) (f : Data → Option A) (js is more : json.Items) (rest new : List Token) (r : Result X LinkFault)
    → js ≡ json.item (json.array is) more → items_depth more ≤ max_depth → Found view new (items_tokens more ++ rest) r (or_bad (each_in f (items_data is)))
    → FoundNext view (list_in f) js rest new r
next_found view f js is more rest new (Ok x) e deep found = (json.array is, more, e, or_bad_some (each_in f (items_data is)) (view x) found.0, (found.1, deep))
next_found view f js is more rest new (Err g) e deep found = subst (λ l. Fails g (or_bad (first_in (list_in f) (items_data l)))) (sym e) found

abbrev pub is_array_begun : Begun → Bool
is_array_begun begun.Array = true
is_array_begun _ = false

pub not_array : (b : Begun) → (b ≡ begun.Array → ⊥) → is_array_begun b ≡ false
not_array begun.End f = refl
not_array begun.Array f = absurd (f refl)
not_array begun.Null f = refl
not_array begun.Other f = refl

other_is_none : {A : Type 0} (f : Data → Option A) (d : Data) → is_other d ≡ true → list_in f d ≡ None
other_is_none f null e = refl
other_is_none f (boolean b) e = refl
other_is_none f (number n) e = refl
other_is_none f (string s) e = refl
other_is_none f (array ds) e = absurd (cc)
other_is_none f (object ms) e = refl

pub no_list : {A : Type 0} (f : Data → Option A) (js : json.Items) (rest new : List Token) (b : Begun) → Begins js rest new b → is_array_begun b ≡ false → first_in (list_in f) (items_data js) ≡ None
no_list f js rest new begun.End h e = ap (λ l. first_in (list_in f) (items_data l)) h.0
no_list f js rest new begun.Array h e = absurd (cc)
no_list f js rest new begun.Null h e = ap (λ l. first_in (list_in f) (items_data l)) h.1
no_list f js rest new begun.Other h e = ap (λ l. first_in (list_in f) (items_data l)) h.2 ∙ other_is_none f (data_of h.0) h.3
