-- What is written as JSON goes out as JSON.
use Rattle.std.proofs.Common.{◌≡◌, ℕ, not, Bool, true, false, List, [], ◌∷◌, ◌++◌, drop, if◌then◌else◌, refl, sym, ap, ◌∙◌, append_assoc, append-nil}
use Rattle.std.specs.List.{list_all}
use Rattle.json.specs.Json.{Json, null, boolean, number, string, array, object, Items, no_items, item, Members, no_members, member}
use Rattle.serde_json.specs.Written.{comma_if}
use Rattle.number_texts.specs.Numbers.{is_marked_number, is_number, is_whole}
use Rattle.serde_json.specs.Read.{number_of}
use Rattle.number_texts.specs.Pieces.{Piece, quoted, run, other, plain, inside, running, is_run, colon_first, piece_text, scan, joined}
use Rattle.number_texts.specs.Marks.{mark, has_mark, unmarked, map_named, unmarked_text}
use Rattle.number_texts.specs.Written.{written, items_written, members_written, in_quotes, is_string, IsWritten, ItemsAreWritten, MembersAreWritten, IsJsonText}
use Rattle.number_texts.proofs.Back.{IsRunList, both, push, run_not_34, run_on}
use Rattle.number_texts.proofs.Chars.{string_behind, string_content}
use Rattle.number_texts.proofs.Runs.{number_runs}

-- ---- what a value is told as

abbrev told_text : List ℕ → Json
told_text t =
    if has_mark t then
    (if has_mark (drop 6 t) then string (drop 6 t) else if is_marked_number (drop 6 t) then number (drop 6 t) else string (mark ++ drop 6 t))
    else string t

abbrev told_name : List ℕ → List ℕ
told_name t = if has_mark t then (if has_mark (drop 6 t) then drop 6 t else mark ++ drop 6 t) else t

abbrev mutual
  told : Json → Json
  told null = null
  told (boolean b) = boolean b
  told (number r) = number r
  told (string t) = told_text t
  told (array js) = array (items_told js)
  told (object ms) = object (members_told ms)

  items_told : Items → Items
  items_told no_items = no_items
  items_told (item j js) = item (told j) (items_told js)

  members_told : Members → Members
  members_told no_members = no_members
  members_told (member k j ms) = member (told_name k) (told j) (members_told ms)

-- ---- strings, names and numbers

abbrev out : List ℕ → List ℕ
out s = joined (map_named unmarked (scan plain s))

text_by : (a b c : Bool) (t u : List ℕ)
    → piece_text (if a then (if b then quoted u else if c then run u else quoted (mark ++ u)) else quoted t)
    ≡ written (if a then (if b then string u else if c then number u else string (mark ++ u)) else string t)
text_by true true c t u = refl
text_by true false true t u = refl
text_by true false false t u = refl
text_by false b c t u = refl

name_by : (a b : Bool) (t u : List ℕ)
    → piece_text (if a then (if b then quoted u else quoted (mark ++ u)) else quoted t)
    ≡ in_quotes (if a then (if b then u else mark ++ u) else t)
name_by true true t u = refl
name_by true false t u = refl
name_by false b t u = refl

one_out : (s rest : List ℕ) (p : Piece) → scan plain s ≡ p ∷ scan plain rest
    → out s ≡ piece_text (unmarked (colon_first (scan plain rest)) p) ++ out rest
one_out s rest p e = ap (λ ps. joined (map_named unmarked ps)) e

quoted_read : (t rest : List ℕ) → is_string t ≡ true → scan plain (in_quotes t ++ rest) ≡ quoted t ∷ scan plain rest
quoted_read t rest is = ap (λ x. scan (inside []) x) (push t 34 rest) ∙ string_content t is [] rest

text_out : (t rest : List ℕ) → is_string t ≡ true → colon_first (scan plain rest) ≡ false
    → out (in_quotes t ++ rest) ≡ written (told_text t) ++ out rest
text_out t rest is none =
    one_out (in_quotes t ++ rest) rest (quoted t) (quoted_read t rest is)
    ∙ ap (λ n. piece_text (unmarked n (quoted t)) ++ out rest) none
    ∙ ap (λ x. x ++ out rest) (text_by (has_mark t) (has_mark (drop 6 t)) (is_marked_number (drop 6 t)) t (drop 6 t))

name_out : (t rest : List ℕ) → is_string t ≡ true → colon_first (scan plain rest) ≡ true
    → out (in_quotes t ++ rest) ≡ in_quotes (told_name t) ++ out rest
name_out t rest is named =
    one_out (in_quotes t ++ rest) rest (quoted t) (quoted_read t rest is)
    ∙ ap (λ n. piece_text (unmarked n (quoted t)) ++ out rest) named
    ∙ ap (λ x. x ++ out rest) (name_by (has_mark t) (has_mark (drop 6 t)) t (drop 6 t))

-- what stands behind a value: no byte of a run, and no colon
abbrev After : List ℕ → Type 0
After s = ((r : List ℕ) → scan (running r) s ≡ run r ∷ scan plain s) × (colon_first (scan plain s) ≡ false)

run_read : (r rest : List ℕ) → IsRunList r → After rest → scan plain (r ++ rest) ≡ run r ∷ scan plain rest
run_read [] rest is after = absurd (cc)
run_read (b ∷ r) rest is after =
    let parts = both (is_run b) (list_all is_run r) is.0 in
    rw (run_not_34 b parts.0, parts.0, run_on r (b ∷ []) rest parts.1) (after.0 (b ∷ r))

run_out : (r rest : List ℕ) → IsRunList r → After rest → out (r ++ rest) ≡ r ++ out rest
run_out r rest is after = one_out (r ++ rest) rest (run r) (run_read r rest is after)

-- ---- values

three : (a b c d : List ℕ) → (a ++ (b ++ c)) ++ d ≡ a ++ (b ++ (c ++ d))
three a b c d = append_assoc a (b ++ c) d ∙ ap (λ x. a ++ x) (append_assoc b c d)

comma_out : (later : Bool) (s : List ℕ) → out (comma_if later ++ s) ≡ comma_if later ++ out s
comma_out true s = refl
comma_out false s = refl

items_after : (js : Items) (rest : List ℕ) → After (items_written true js ++ rest)
items_after no_items rest = (λ r. refl, refl)
items_after (item j js) rest = (λ r. refl, refl)

members_after : (ms : Members) (rest : List ℕ) → After (members_written true ms ++ rest)
members_after no_members rest = (λ r. refl, refl)
members_after (member k j ms) rest = (λ r. refl, refl)

mutual
  value_out : (j : Json) → IsWritten j → (rest : List ℕ) → After rest → out (written j ++ rest) ≡ written (told j) ++ out rest
  value_out null is rest after = refl
  value_out (boolean true) is rest after =
      ap (λ ps. joined (map_named unmarked (other 116 ∷ other 114 ∷ other 117 ∷ ps))) (after.0 (101 ∷ []))
  value_out (boolean false) is rest after =
      ap (λ ps. joined (map_named unmarked (other 102 ∷ other 97 ∷ other 108 ∷ other 115 ∷ ps))) (after.0 (101 ∷ []))
  value_out (number r) is rest after = run_out r rest (number_runs r is) after
  value_out (string t) is rest after = text_out t rest is after.1
  value_out (array js) is rest after = ap (λ x. 91 ∷ x) (items_out js false is rest)
  value_out (object ms) is rest after = ap (λ x. 123 ∷ x) (members_out ms false is rest)

  items_out : (js : Items) (later : Bool) → ItemsAreWritten js → (rest : List ℕ)
      → out (items_written later js ++ rest) ≡ items_written later (items_told js) ++ out rest
  items_out no_items later is rest = refl
  items_out (item j js) later is rest =
      let more = items_written true js in
      ap out (three (comma_if later) (written j) more rest) ∙ comma_out later (written j ++ (more ++ rest))
      ∙ ap (λ x. comma_if later ++ x)
      (value_out j is.0 (more ++ rest) (items_after js rest) ∙ ap (λ x. written (told j) ++ x) (items_out js true is.1 rest))
      ∙ sym (three (comma_if later) (written (told j)) (items_written true (items_told js)) (out rest))

  members_out : (ms : Members) (later : Bool) → MembersAreWritten ms → (rest : List ℕ)
      → out (members_written later ms ++ rest) ≡ members_written later (members_told ms) ++ out rest
  members_out no_members later is rest = refl
  members_out (member k j ms) later is rest =
      let more = members_written true ms in
      let value = written j ++ more in
      let name = in_quotes (told_name k) in
      let valued : out (value ++ rest) ≡ (written (told j) ++ members_written true (members_told ms)) ++ out rest =
      ap out (append_assoc (written j) more rest) ∙ value_out j is.1 (more ++ rest) (members_after ms rest)
      ∙ ap (λ x. written (told j) ++ x) (members_out ms true is.2 rest)
      ∙ sym (append_assoc (written (told j)) (members_written true (members_told ms)) (out rest)) in
      ap out (three (comma_if later) (in_quotes k) (58 ∷ value) rest) ∙ comma_out later (in_quotes k ++ 58 ∷ (value ++ rest))
      ∙ ap (λ x. comma_if later ++ x)
      (name_out k (58 ∷ (value ++ rest)) is.0 refl ∙ ap (λ x. name ++ 58 ∷ x) valued)
      ∙ sym (three (comma_if later) name (58 ∷ (written (told j) ++ members_written true (members_told ms))) (out rest))

-- ---- and it is JSON

number_is : (t : List ℕ) → is_marked_number t ≡ true → is_number t ≡ true
unfolding is_marked_number
number_is t is = (both (is_number t) (not (is_whole (number_of t))) is).0

text_is_by : (a b c : Bool) (t u : List ℕ) → is_string t ≡ true → (a ≡ true → is_string u ≡ true) → (c ≡ true → is_number u ≡ true)
    → IsWritten (if a then (if b then string u else if c then number u else string (mark ++ u)) else string t)
text_is_by true true c t u is behind num = behind refl
text_is_by true false true t u is behind num = num refl
text_is_by true false false t u is behind num = behind refl
text_is_by false b c t u is behind num = is

text_is : (t : List ℕ) → is_string t ≡ true → IsWritten (told_text t)
text_is t is =
    let u = drop 6 t in
    text_is_by (has_mark t) (has_mark u) (is_marked_number u) t u is (λ e. string_behind t e is) (number_is u)

name_is_by : (a b : Bool) (t u : List ℕ) → is_string t ≡ true → (a ≡ true → is_string u ≡ true)
    → is_string (if a then (if b then u else mark ++ u) else t) ≡ true
name_is_by true true t u is behind = behind refl
name_is_by true false t u is behind = behind refl
name_is_by false b t u is behind = is

name_is : (t : List ℕ) → is_string t ≡ true → is_string (told_name t) ≡ true
name_is t is = name_is_by (has_mark t) (has_mark (drop 6 t)) t (drop 6 t) is (λ e. string_behind t e is)

mutual
  value_is : (j : Json) → IsWritten j → IsWritten (told j)
  value_is null is = tt
  value_is (boolean b) is = tt
  value_is (number r) is = is
  value_is (string t) is = text_is t is
  value_is (array js) is = items_are js is
  value_is (object ms) is = members_are ms is

  items_are : (js : Items) → ItemsAreWritten js → ItemsAreWritten (items_told js)
  items_are no_items is = tt
  items_are (item j js) is = (value_is j is.0, items_are js is.1)

  members_are : (ms : Members) → MembersAreWritten ms → MembersAreWritten (members_told ms)
  members_are no_members is = tt
  members_are (member k j ms) is = (name_is k is.0, value_is j is.1, members_are ms is.2)

pub told_is_json : (s : List ℕ) → IsJsonText s → IsJsonText (unmarked_text s)
unfolding unmarked_text
told_is_json s is =
    let j = is.0 in
    let whole : out (written j ++ []) ≡ written (told j) ++ [] = value_out j is.1 [] (λ r. refl, refl) in
    (told j, value_is j is.1, ap out is.2 ∙ ap out (sym (append-nil (written j))) ∙ whole ∙ append-nil (written (told j)))
