-- The keys of lines, as they are read one by one.
use Rattle.std.proofs.Common.{◌≡◌, ℕ, ◌<◌, ◌==◌, Bool, true, false, if◌then◌else◌, List, [], ◌∷◌, length, map, arith, Option, Some, None, Vec, get_or, Result, Ok, Err, Bor, refl, sym, ap, subst, ◌∙◌}
use Rattle.std.proofs.lemmas.List.{length-map}
use Rattle.std.proofs.lemmas.Iterator.{YieldsList}
use Rattle.std.proofs.lemmas.Iterator.Splits.{YieldsList-from_lines}
use Rattle.std.specs.Str.Iter.{lines_rest, lines_steps}
use Rattle.std.specs.Str.Lines.{lines}
use Rattle.std.specs.declared.alloc.Global.{Global}
use Rattle.hmac_keys.specs.Lines.{AreKeysOf, FailsKeys, added, bytes_of, keys_from, keys_in, some_keys, then_keys}
use Rattle.hmac_keys.specs.declared.fault.KeysFault.{KeysFault}
use Rattle.hmac_keys.specs.declared.fault.KeysFault.TheVariants.{Line, NoKey, OutOfMemory}

-- What the keys of the text are is left to the lines that are left, behind those that were found.
abbrev pub Left : {S : Type 0} → (S → Option (Bor (List ℕ)) → S → Type 0) → S → List ℕ → List (List ℕ) → Type 0
Left steps it text found =
    (ls : List (List ℕ)) × YieldsList steps (λ x. x.now) it ls × (keys_in text ≡ keys_from ls found)

pub all_left : {it : _} (text : List ℕ) → lines_rest it ≡ text → Left lines_steps it text []
all_left text rest = (lines text, YieldsList-from_lines text rest, refl)

pub one_less : {S : Type 0} (steps : S → Option (Bor (List ℕ)) → S → Type 0) (it next : S) (text : List ℕ) (line : Bor (List ℕ))
    (found more : List (List ℕ)) → Left steps it text found → steps it (Some line) next → added found line.now ≡ Ok more
    → Left steps next text more
unfolding keys_from
one_less steps it next text line found more ([], yields, is) step is_added = absurd (yields.runs line next step)
one_less steps it next text line found more (l ∷ ls, yields, is) step is_added =
    let here = yields.runs.1 line next step in
    let e : added found l ≡ Ok more = ap (added found) (sym here.0) ∙ is_added in
    (ls, record { runs = here.1 }, is ∙ ap (λ r. then_keys r (keys_from ls)) e)

fails_then : (e : KeysFault) (r : Result (List (List ℕ)) KeysFault) (more : List (List ℕ) → Result (List (List ℕ)) KeysFault)
    → FailsKeys e r → FailsKeys e (then_keys r more)
fails_then OutOfMemory r more fails = tt
fails_then NoKey r more fails = ap (λ x. then_keys x more) fails
fails_then (Line n f) r more fails = ap (λ x. then_keys x more) fails

pub one_fails : {S : Type 0} (steps : S → Option (Bor (List ℕ)) → S → Type 0) (it next : S) (text : List ℕ) (line : Bor (List ℕ))
    (found : List (List ℕ)) (e : KeysFault) → Left steps it text found → steps it (Some line) next
    → FailsKeys e (added found line.now) → FailsKeys e (keys_in text)
unfolding keys_from
one_fails steps it next text line found e ([], yields, is) step fails = absurd (yields.runs line next step)
one_fails steps it next text line found e (l ∷ ls, yields, is) step fails =
    let here = yields.runs.1 line next step in
    let P : Result (List (List ℕ)) KeysFault → Type 0 = λ r. FailsKeys e (then_keys r (keys_from ls)) in
    rw is (subst P (ap (added found) here.0) (fails_then e (added found line.now) (keys_from ls) fails))

pub none_left : {S : Type 0} (steps : S → Option (Bor (List ℕ)) → S → Type 0) (it next : S) (text : List ℕ) (found : List (List ℕ))
    → Left steps it text found → steps it None next → keys_in text ≡ some_keys found
unfolding keys_from
none_left steps it next text found ([], yields, is) step = is
none_left steps it next text found (l ∷ ls, yields, is) step = absurd (yields.runs.0 next step)

-- ---- there is one at least

abbrev ok_or : {A E : Type 0} → Result A E → A → A
ok_or (Ok x) y = x
ok_or (Err e) y = y

some_kept : (b : Bool) (found ks : List (List ℕ)) → (length found == 0) ≡ b → (if b then Err NoKey else Ok found) ≡ Ok ks
    → 0 < length ks
some_kept true found ks is_none is = absurd (cc)
some_kept false [] ks is_none is = absurd (cc)
some_kept false (k ∷ found) ks is_none is =
    let same : k ∷ found ≡ ks = ap (λ r. ok_or r (k ∷ found)) is in
    subst (λ l. 0 < length l) same (omega arith)

ok_then : (r : Result (List (List ℕ)) KeysFault) (more : List (List ℕ) → Result (List (List ℕ)) KeysFault) (ks : List (List ℕ))
    → ((found : List (List ℕ)) → more found ≡ Ok ks → 0 < length ks) → then_keys r more ≡ Ok ks → 0 < length ks
ok_then (Ok found) more ks there is = there found is
ok_then (Err e) more ks there is = absurd (cc)

pub some_there : (ls found ks : List (List ℕ)) → keys_from ls found ≡ Ok ks → 0 < length ks
unfolding keys_from
some_there [] found ks is = some_kept (length found == 0) found ks refl is
some_there (l ∷ ls) found ks is =
    ok_then (added found l) (keys_from ls) ks (λ more is_more. some_there ls more ks is_more) is

pub some_keys_there : (text : List ℕ) (keys : Vec (Vec ℕ Global) Global) → AreKeysOf text keys → 0 < length keys.items
some_keys_there text keys are =
    subst (λ n. 0 < n) (length-map keys.items (λ k. k.items)) (some_there (lines text) [] (bytes_of keys) are)

-- the first and those behind it
pub first_kept : (items : List (Vec ℕ Global)) (v : Vec ℕ Global) → 0 < length items → v ≡ get_or items 0 v
    → (rest : List (List ℕ)) × (map (λ k. k.items) items ≡ v.items ∷ rest)
first_kept [] v some is = absurd (omega (arith, some))
first_kept (k ∷ ks) v some is = (map (λ k. k.items) ks, ap (λ w. w.items ∷ map (λ k. k.items) ks) (sym is))
