-- Steps of walks that read each value of a list.
use Rattle.std.proofs.Common.{◌≡◌, List, [], ◌∷◌, ◌++◌, Option, Some, None, option_map, Ok, Err, refl, sym, ap, ◌∙◌, append-nil, append_assoc}
use Rattle.json.specs.Json as json
use Rattle.serde_json.specs.Data.{Data}
use Rattle.json_parts.specs.Places.{data_of, items_data}
use Rattle.link_lines.specs.declared.fault.LinkFault.{LinkFault}
use Rattle.link_lines.specs.declared.fault.LinkFault.TheVariants.{BadLine}
use Rattle.link_lines.specs.Members.{◌>>=◌}
use Rattle.link_lines.specs.Results.{or_bad}
use Rattle.link_lines.specs.Telling.{each_in}

-- what was found, before what the rest gives
abbrev pub before : {A : Type 0} → List A → Option (List A) → Option (List A)
before done o = option_map (λ rest. done ++ rest) o

grown : {A : Type 0} (done : List A) (x : A) (o : Option (List A)) → before done (o >>= (λ xs. Some (x ∷ xs))) ≡ before (done ++ x ∷ []) o
grown done x None = refl
grown done x (Some xs) = ap Some (sym (append_assoc done (x ∷ []) xs))

pub before_all : {A : Type 0} (o : Option (List A)) → before [] o ≡ o
before_all None = refl
before_all (Some xs) = refl

-- one more was found
pub found_one : {A : Type 0} (f : Data → Option A) (js more : json.Items) (j : json.Json) (done next : List A) (x : A) (all : Option (List A))
    → js ≡ json.item j more → f (data_of j) ≡ Some x → next ≡ done ++ x ∷ [] → before done (each_in f (items_data js)) ≡ all → before next (each_in f (items_data more)) ≡ all
found_one f js more j done next x all split is step was =
    ap (λ d. before d (each_in f (items_data more))) step
    ∙ sym (grown done x (each_in f (items_data more)))
    ∙ ap (λ o. before done (o >>= (λ y. each_in f (items_data more) >>= (λ ys. Some (y ∷ ys))))) (sym is)
    ∙ ap (λ l. before done (each_in f (items_data l))) (sym split)
    ∙ was

-- one wasn't found
pub found_none : {A : Type 0} (f : Data → Option A) (js more : json.Items) (j : json.Json) (done : List A) (all : Option (List A))
    → js ≡ json.item j more → f (data_of j) ≡ None → before done (each_in f (items_data js)) ≡ all → or_bad all ≡ Err BadLine
found_none f js more j done all split is was =
    ap or_bad (sym was
    ∙ ap (λ l. before done (each_in f (items_data l))) split
    ∙ ap (λ o. before done (o >>= (λ y. each_in f (items_data more) >>= (λ ys. Some (y ∷ ys))))) is)

-- all were found
pub found_all : {A : Type 0} (f : Data → Option A) (js : json.Items) (done : List A) (all : Option (List A))
    → js ≡ json.no_items → before done (each_in f (items_data js)) ≡ all → or_bad all ≡ Ok done
found_all f js done all end was =
    ap or_bad (sym was ∙ ap (λ l. before done (each_in f (items_data l))) end)
    ∙ ap (λ l. Ok l) (append-nil done)

-- a fault of one is a fault of all
pub fault_of_one : {A : Type 0} (f : Data → Option A) (js : json.Items) (done : List A) (all : Option (List A)) (e : LinkFault)
    → before done (each_in f (items_data js)) ≡ all → or_bad (each_in f (items_data js)) ≡ Err e → or_bad all ≡ Err e
fault_of_one {A} f js done all e was h = ap or_bad (sym was) ∙ go (each_in f (items_data js)) h
  where
    go : (o : Option (List A)) → or_bad o ≡ Err e → or_bad (before done o) ≡ Err e
    go None h = h
    go (Some xs) h = absurd (cc)
