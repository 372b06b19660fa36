-- Lists of dots in pieces: one dot, and one piece, at a time.
use Rattle.std.proofs.Common.{◌≡◌, ◌++◌, List, [], ◌∷◌, true, false, Option, Some, None, is_none, option_map, Ordering, is_eq, append_assoc, append-nil, refl, sym, ap, ◌∙◌}
use Rattle.std.specs.Ordering.{nat_cmp, ordering_then}
use Rattle.std.specs.declared.cmp.Ordering.TheVariants.{Less, Equal, Greater}
use Rattle.std.specs.Cmp.Lexicographic.{slice_cmp}
use Rattle.std.specs.FinSet as set
use Rattle.presence_base.specs.declared.dots.Replica.{Replica}
use Rattle.presence_base.specs.declared.dots.Dot.{Dot}
use Rattle.presence_base.specs.declared.row.Row.{Row}
use Rattle.presence_base.specs.Order.{replica_cmp, dot_cmp}
use Rattle.presence_journal.specs.RowDots.{dots_in}
use Rattle.presence_journal.specs.ListedDots.{piece_dots, pieces_dots, same_dots, IsNext, BeginsWith}
use Rattle.presence_journal.specs.declared.listed_dots.Piece.{Piece}

then_equal : (o p : Ordering) → is_eq o ≡ true → is_eq (ordering_then o p) ≡ is_eq p
then_equal Equal p h = refl
then_equal Less p h = cc
then_equal Greater p h = cc

then_other : (o p : Ordering) → is_eq o ≡ false → is_eq (ordering_then o p) ≡ false
then_other Equal p h = cc
then_other Less p h = refl
then_other Greater p h = refl

pub same_behind : (x y : Dot) (xs ys : List Dot) → is_eq (dot_cmp x y) ≡ true → same_dots (x ∷ xs) (y ∷ ys) ≡ same_dots xs ys
same_behind x y xs ys h = then_equal (dot_cmp x y) _ h

pub other_first : (x y : Dot) (xs ys : List Dot) → is_eq (dot_cmp x y) ≡ false → same_dots (x ∷ xs) (y ∷ ys) ≡ false
other_first x y xs ys h = then_other (dot_cmp x y) _ h

-- equal by their order, two dots are one

both_equal : (o p : Ordering) → ordering_then o p ≡ Equal → (o ≡ Equal) × (p ≡ Equal)
both_equal Less p e = absurd (cc)
both_equal Equal p e = (refl, e)
both_equal Greater p e = absurd (cc)

is_equal : (o : Ordering) → is_eq o ≡ true → o ≡ Equal
is_equal Equal h = refl
is_equal Less h = cc
is_equal Greater h = cc

replica_is : (x y : Replica) → replica_cmp x y ≡ Equal → x ≡ y
replica_is x y e =
    let parts = both_equal (slice_cmp nat_cmp x.name y.name) (nat_cmp x.incarnation y.incarnation) e in
    let p : x.name ≡ y.name = set.slice_cmp-IsAntisymmetric set.nat_cmp-IsAntisymmetric x.name y.name parts.0 in
    let q : x.incarnation ≡ y.incarnation = set.nat_cmp-IsAntisymmetric x.incarnation y.incarnation parts.1 in
    λ i. record { name = p i; incarnation = q i }

dot_is : (x y : Dot) → dot_cmp x y ≡ Equal → x ≡ y
dot_is x y e =
    let parts = both_equal (replica_cmp x.replica y.replica) (nat_cmp x.count y.count) e in
    let p : x.replica ≡ y.replica = replica_is x.replica y.replica parts.0 in
    let q : x.count ≡ y.count = set.nat_cmp-IsAntisymmetric x.count y.count parts.1 in
    λ i. record { replica = p i; count = q i }

-- rows that begin with the dots of a piece, one of them at a time

pub begins_further : (ds os : List Dot) (d : Dot) (left behind : List (Dot × Row)) (row : Dot × Row) → ds ≡ d ∷ os → left ≡ row ∷ behind → is_eq (dot_cmp row.0 d) ≡ true → (t : List (Dot × Row)) → BeginsWith os behind t → BeginsWith ds left t
begins_further ds os d left behind row is il e t b =
    let same : row.0 ≡ d = dot_is row.0 d (is_equal (dot_cmp row.0 d) e) in
    ap dots_in il ∙ (ap (λ x. x ∷ dots_in behind) same ∙ (ap (λ xs. d ∷ xs) b ∙ ap (λ xs. xs ++ dots_in t) (sym is)))

-- the pieces so far, with one more
pub one_more : (ps : List Piece) (p : Piece) (rest left : List (Dot × Row)) → BeginsWith (piece_dots p) rest left → pieces_dots (ps ++ p ∷ []) ++ dots_in left ≡ pieces_dots ps ++ dots_in rest
one_more [] p rest left b = ap (λ xs. xs ++ dots_in left) (append-nil (piece_dots p)) ∙ sym b
one_more (q ∷ qs) p rest left b = append_assoc (piece_dots q) (pieces_dots (qs ++ p ∷ [])) (dots_in left) ∙ (ap (λ xs. piece_dots q ++ xs) (one_more qs p rest left b) ∙ sym (append_assoc (piece_dots q) (pieces_dots qs) (dots_in rest)))

-- two lists that are gone over side by side

pub same_on : (l a b c : List Dot) (x y : Dot) → l ≡ x ∷ b → a ≡ y ∷ c → is_eq (dot_cmp x y) ≡ true → same_dots l a ≡ same_dots b c
same_on l a b c x y p q e = ap (λ k. same_dots k a) p ∙ (ap (λ k. same_dots (x ∷ b) k) q ∙ same_behind x y b c e)

pub differ_on : (l a b c : List Dot) (x y : Dot) → l ≡ x ∷ b → a ≡ y ∷ c → is_eq (dot_cmp x y) ≡ false → same_dots l a ≡ false
differ_on l a b c x y p q e = ap (λ k. same_dots k a) p ∙ (ap (λ k. same_dots (x ∷ b) k) q ∙ other_first x y b c e)

pub one_is_longer : (l a b : List Dot) (x : Dot) → l ≡ x ∷ b → a ≡ [] → same_dots l a ≡ false
one_is_longer l a b x p q = ap (λ k. same_dots k a) p ∙ ap (λ k. same_dots (x ∷ b) k) q

pub at_the_end : {W : Type 0} (l a : List Dot) (f : W → Dot × List Dot) (r : Option W) → l ≡ [] → IsNext a (option_map f r) → is_none r ≡ same_dots l a
at_the_end l a f None p q = sym (ap (λ k. same_dots k a) p ∙ ap (λ k. same_dots [] k) q)
at_the_end l a f (Some w) p q = sym (ap (λ k. same_dots k a) p ∙ ap (λ k. same_dots [] k) q)

-- the dots so far, with one more
pub moved_on : (xs l b : List Dot) (x : Dot) → l ≡ x ∷ b → (xs ++ x ∷ []) ++ b ≡ xs ++ l
moved_on xs l b x p = append_assoc xs (x ∷ []) b ∙ ap (λ k. xs ++ k) (sym p)

pub ruleset sameness = (same_on, differ_on, one_is_longer, at_the_end)
