-- What becomes of texts, one after another.
use Rattle.std.proofs.Common.{◌≡◌, ℕ, Bool, true, false, ◌||◌, List, [], ◌∷◌, ◌++◌, map, Option, Some, None, String, string_bytes, refl, sym, ap, ◌∙◌}
use Rattle.std.specs.Global.{Global}
use Rattle.std.specs.List.{list_any}
use Rattle.std.proofs.lemmas.List.{map-append, append-nil}
use Rattle.client_settings.specs.Names.{Names}
use Rattle.client_settings.specs.Telling.{all_told_by, ends_as_kept, told_text, with_told}

with_more : (o : Option (List ℕ)) (xs ys : List (List ℕ)) → with_told o (xs ++ ys) ≡ with_told o xs ++ ys
with_more None xs ys = refl
with_more (Some text) xs ys = refl

pub all_told_more : (given : Names) (pid : ℕ) (texts : List (List ℕ)) (text : List ℕ)
    → all_told_by given pid (texts ++ text ∷ []) ≡ all_told_by given pid texts ++ with_told (told_text given pid text) []
all_told_more given pid [] text = refl
all_told_more given pid (t ∷ texts) text =
    ap (with_told (told_text given pid t)) (all_told_more given pid texts text)
    ∙ with_more (told_text given pid t) (all_told_by given pid texts) (with_told (told_text given pid text) [])

with_one : (given : Names) (pid : ℕ) (texts done : List (List ℕ)) (text : List ℕ) (o : Option (List ℕ))
    → done ≡ all_told_by given pid texts → o ≡ told_text given pid text
    → done ++ with_told o [] ≡ all_told_by given pid (texts ++ text ∷ [])
with_one given pid texts done text o is told = (λ i. is i ++ with_told (told i) []) ∙ sym (all_told_more given pid texts text)

-- the same of strings: one that is told stands behind the others
pub told_behind : (given : Names) (pid : ℕ) (texts told more : List (String Global)) (text out : String Global)
    → map string_bytes told ≡ all_told_by given pid (map string_bytes texts)
    → Some (string_bytes out) ≡ told_text given pid (string_bytes text) → more ≡ told ++ out ∷ []
    → map string_bytes more ≡ all_told_by given pid (map string_bytes (texts ++ text ∷ []))
told_behind given pid texts told more text out before is all =
    ap (map string_bytes) all ∙ (map-append string_bytes told (out ∷ [])
    ∙ (with_one given pid (map string_bytes texts) (map string_bytes told) (string_bytes text) (Some (string_bytes out)) before is
    ∙ ap (all_told_by given pid) (sym (map-append string_bytes texts (text ∷ [])))))

-- and one that isn't leaves them
pub left_out : (given : Names) (pid : ℕ) (texts told : List (String Global)) (text : String Global)
    → map string_bytes told ≡ all_told_by given pid (map string_bytes texts)
    → None ≡ told_text given pid (string_bytes text)
    → map string_bytes told ≡ all_told_by given pid (map string_bytes (texts ++ text ∷ []))
left_out given pid texts told text before is =
    sym (append-nil (map string_bytes told))
    ∙ (with_one given pid (map string_bytes texts) (map string_bytes told) (string_bytes text) None before is
    ∙ ap (all_told_by given pid) (sym (map-append string_bytes texts (text ∷ []))))

-- ---- texts of which none ends as that of a shout whose payload isn't kept as it was sent

neither : (a b : Bool) → (a || b) ≡ false → (a ≡ false) × (b ≡ false)
neither false b isnt = (refl, isnt)
neither true b isnt = absurd (cc)

alike : (given : Names) (pid : ℕ) (text : List ℕ) → ends_as_kept text ≡ false → told_text given pid text ≡ Some text
unfolding told_text
alike given pid text isnt = rw isnt refl

pub told_alike : (given : Names) (pid : ℕ) (texts : List (List ℕ)) → list_any ends_as_kept texts ≡ false → all_told_by given pid texts ≡ texts
told_alike given pid [] isnt = refl
told_alike given pid (text ∷ texts) isnt =
    let parts = neither (ends_as_kept text) (list_any ends_as_kept texts) isnt in
    rw (alike given pid text parts.0, told_alike given pid texts parts.1) refl
