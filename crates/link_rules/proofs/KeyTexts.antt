-- What the codes of links are of: no two links have one text, nor do both ends of one.
use Rattle.std.proofs.Common.{◌≡◌, ℕ, ◌==◌, List, [], ◌∷◌, ◌++◌, length, get_or, take, drop, Bool, true, false, ◌&&◌, refl, ap, sym, ◌∙◌}
use Rattle.std.specs.List.{list_all}
use Rattle.std.proofs.lemmas.List.{append_assoc, drop_at, take_at}
use Rattle.presence_base.specs.Names.{is_name_byte, is_node_name}
use Rattle.link_rules.specs.Apart.{AnswersApart, CodesAreApart, ProofsApart, RolesApart}

and_left : (x y : Bool) → (x && y) ≡ true → x ≡ true
and_left true y e = refl
and_left false y e = absurd cc

and_right : (x y : Bool) → (x && y) ≡ true → y ≡ true
and_right true y e = e
and_right false y e = absurd cc

-- two texts that begin as long as one another begin with the same, and go on with the same
halves : (xs ys us vs : List ℕ) → length xs ≡ length ys → xs ++ us ≡ ys ++ vs → (xs ≡ ys) × (us ≡ vs)
halves xs ys us vs l e = (
  sym (take_at xs us (length xs) refl) ∙ ap (take (length xs)) e ∙ take_at ys vs (length xs) (sym l),
  sym (drop_at xs us (length xs) refl) ∙ ap (drop (length xs)) e ∙ drop_at ys vs (length xs) (sym l),
)

no_space : (y : ℕ) → 32 ≡ y → is_name_byte y ≡ true → ⊥
no_space y is named = let none : false ≡ true = ap is_name_byte is ∙ named in absurd cc

-- a name ends at the first space
cut : (xs ys us vs : List ℕ) → list_all is_name_byte xs ≡ true → list_all is_name_byte ys ≡ true
    → xs ++ 32 ∷ us ≡ ys ++ 32 ∷ vs → (xs ≡ ys) × (us ≡ vs)
cut [] [] us vs p q e = (refl, ap (drop 1) e)
cut [] (y ∷ ys) us vs p q e =
    let none = no_space y (ap (λ l. get_or l 0 0) e) (and_left (is_name_byte y) (list_all is_name_byte ys) q) in absurd none
cut (x ∷ xs) [] us vs p q e =
    let none = no_space x (sym (ap (λ l. get_or l 0 0) e)) (and_left (is_name_byte x) (list_all is_name_byte xs) p) in absurd none
cut (x ∷ xs) (y ∷ ys) us vs p q e =
    let rest = cut xs ys us vs (and_right (is_name_byte x) (list_all is_name_byte xs) p) (and_right (is_name_byte y) (list_all is_name_byte ys) q) (ap (drop 1) e)
    in (ap (λ h. h ∷ xs) (ap (λ l. get_or l 0 0) e) ∙ ap (λ t. y ∷ t) rest.0, rest.1)

-- behind two nonces stands one rest
middle : (f s t f' s' t' : List ℕ) → length f ≡ length f' → length s ≡ length s'
    → f ++ 32 ∷ (s ++ 32 ∷ t) ≡ f' ++ 32 ∷ (s' ++ 32 ∷ t') → (f ≡ f') × (s ≡ s') × (t ≡ t')
middle f s t f' s' t' l m e =
    let one = halves f f' (32 ∷ (s ++ 32 ∷ t)) (32 ∷ (s' ++ 32 ∷ t')) l e
    in let two = halves s s' (32 ∷ t) (32 ∷ t') m (ap (drop 1) one.1) in (one.0, two.0, ap (drop 1) two.1)

spread : (f s n v : List ℕ) → (f ++ 32 ∷ (s ++ 32 ∷ n)) ++ 32 ∷ v ≡ f ++ 32 ∷ (s ++ 32 ∷ (n ++ 32 ∷ v))
spread f s n v = append_assoc f (32 ∷ (s ++ 32 ∷ n)) (32 ∷ v) ∙ ap (λ t. f ++ 32 ∷ t) (append_assoc s (32 ∷ n) (32 ∷ v))

name_bytes : (name : List ℕ) → is_node_name name ≡ true → list_all is_name_byte name ≡ true
name_bytes name is = and_right _ (list_all is_name_byte name) is

answers : AnswersApart
answers a b alike e =
    let parts = middle a.first.now a.second.now a.dialled.now b.first.now b.second.now b.dialled.now alike.first alike.second (ap (drop 7) e)
    in record { first = parts.0; second = parts.1; dialled = parts.2 }

proofs : ProofsApart
proofs a b v w alike named e =
    let same = sym (spread a.first.now a.second.now a.dialled.now v) ∙ ap (drop 6) e ∙ spread b.first.now b.second.now b.dialled.now w
    in let parts = middle a.first.now a.second.now (a.dialled.now ++ 32 ∷ v) b.first.now b.second.now (b.dialled.now ++ 32 ∷ w) alike.first alike.second same
    in let names = cut a.dialled.now b.dialled.now v w (name_bytes a.dialled.now named.one) (name_bytes b.dialled.now named.other) parts.2
    in record { link = record { first = parts.0; second = parts.1; dialled = names.0 }; who = names.1 }

roles : RolesApart
roles a b w e = let none : false ≡ true = ap (λ l. get_or l 0 0 == 112) e in absurd cc

pub apart : CodesAreApart
apart = record { answers = answers; proofs = proofs; roles = roles }
