-- The row that is next in a list.
use Rattle.std.proofs.Common.{◌≡◌, List, ◌∷◌, true, Option, Some, None, Result, Ok, Err, refl, ap, ◌∙◌}
use Rattle.json.specs.Json as json
use Rattle.serde_json.specs.Data.{Data, null, boolean, number, string, array, object}
use Rattle.presence_base.specs.declared.dots.Dot.{Dot}
use Rattle.presence_base.specs.declared.row.Row.{Row}
use Rattle.json_parts.specs.Items.{is_other}
use Rattle.json_parts.specs.Places.{data_of, items_data}
use Rattle.link_lines.specs.declared.fault.LinkFault.{LinkFault}
use Rattle.link_lines.specs.declared.fault.LinkFault.TheVariants.{BadLine}
use Rattle.link_lines.specs.Members as members
use Rattle.link_lines.specs.Results.{or_bad}
use Rattle.link_lines.specs.Rows.{kept_row_in}
use Rattle.link_lines.specs.Telling.{each_in}

pub row_is : (o : Option (Dot × Row)) (x : Dot × Row) → or_bad o ≡ Ok x → o ≡ Some x
row_is None x e = absurd (cc)
row_is (Some y) x e = ap some_of e
  where
    some_of : Result (Dot × Row) LinkFault → Option (Dot × Row)
    some_of (Ok z) = Some z
    some_of (Err f) = None

pub other_row : (d : Data) → is_other d ≡ true → kept_row_in d ≡ None
other_row null e = refl
other_row (boolean b) e = refl
other_row (number n) e = refl
other_row (string s) e = refl
other_row (array ds) e = absurd (cc)
other_row (object ms) e = refl

abbrev joined : Option (Dot × Row) → Option (List (Dot × Row)) → Option (List (Dot × Row))
joined o p = members.◌>>=◌ o (λ x. members.◌>>=◌ p (λ xs. Some (x ∷ xs)))

-- where the first is no row, the list is none
pub first_none : (js more : json.Items) (j : json.Json) → js ≡ json.item j more → kept_row_in (data_of j) ≡ None → each_in kept_row_in (items_data js) ≡ None
first_none js more j split none =
    ap (λ l. each_in kept_row_in (items_data l)) split
    ∙ ap (λ o. joined o (each_in kept_row_in (items_data more))) none

pub first_fault : (js more : json.Items) (j : json.Json) (e : LinkFault) → js ≡ json.item j more → or_bad (kept_row_in (data_of j)) ≡ Err e → or_bad (each_in kept_row_in (items_data js)) ≡ Err e
first_fault js more j e split h = go (kept_row_in (data_of j)) refl h
  where
    go : (o : Option (Dot × Row)) → kept_row_in (data_of j) ≡ o → or_bad o ≡ Err e → or_bad (each_in kept_row_in (items_data js)) ≡ Err e
    go None is h = ap or_bad (first_none js more j split is) ∙ bad_as h
      where
        fault_or : LinkFault → Result (Dot × Row) LinkFault → LinkFault
        fault_or f (Ok x) = f
        fault_or f (Err g) = g

        bad_as : ◌≡◌ {A = Result (Dot × Row) LinkFault} (Err BadLine) (Err e) → ◌≡◌ {A = Result (List (Dot × Row)) LinkFault} (Err BadLine) (Err e)
        bad_as k = ap (λ r. Err (fault_or BadLine r)) k
    go (Some x) is h = absurd (cc)
