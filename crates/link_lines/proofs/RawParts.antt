-- A told value, from the lists in which it is read.
use Rattle.std.proofs.Common.{◌≡◌, List, [], ◌∷◌, map, Option, Some, None, option_map, Result, Ok, Err, refl, sym, ap, ap₂, ◌∙◌}
use Rattle.serde_json.specs.Data.{Data, null, boolean, number, string, array, object, Items, no_items, item}
use Rattle.presence_base.specs.declared.dots.Dot.{Dot}
use Rattle.presence_base.specs.declared.row.Row.{Row}
use Rattle.orswot_core.specs.Telling.{Range, ToldValue}
use Rattle.orswot_core.specs.declared.form.Form.TheVariants.{One, Two}
use Rattle.link_lines.specs.declared.fault.LinkFault.{LinkFault}
use Rattle.link_lines.specs.declared.fault.LinkFault.TheVariants.{BadLine}
use Rattle.link_lines.specs.Members as members
use Rattle.link_lines.specs.ReadingMembers.{first_in, none_left, kept_told_in}
use Rattle.link_lines.specs.Results.{◌>>=◌, or_bad}
use Rattle.link_lines.specs.Rows.{kept_entry, kept, kept_row_in}
use Rattle.link_lines.specs.Telling.{range_in, extra_in, row_in, each_in, list_in}
use Rattle.link_lines.specs.Told.{raw_told_in}

is_none : {A : Type 0} (o : Option A) (e : LinkFault) → or_bad o ≡ Err e → o ≡ None
is_none None e h = refl
is_none (Some x) e h = absurd (cc)

fault_or : {A : Type 0} → LinkFault → Result A LinkFault → LinkFault
fault_or e (Ok x) = e
fault_or e (Err f) = f

bad_is : {A B : Type 0} (o : Option A) (e : LinkFault) → or_bad o ≡ Err e → ◌≡◌ {A = Result B LinkFault} (Err BadLine) (Err e)
unfolding fault_or
bad_is None e h = ap Err (ap (fault_or BadLine) h)
bad_is (Some x) e h = absurd (cc)

-- ---- the rows that are kept

abbrev joined : Option (Dot × Row) → Option (List (Dot × Row)) → Option (List (Dot × Row))
joined o p = members.◌>>=◌ o (λ x. members.◌>>=◌ p (λ xs. Some (x ∷ xs)))

each_kept : (ds : Items) → each_in kept_row_in ds ≡ option_map (map kept_entry) (each_in row_in ds)
each_kept no_items = refl
each_kept (item d ds) = go (row_in d) (each_in row_in ds) (each_kept ds)
  where
    go : (o : Option (Dot × Row)) (p : Option (List (Dot × Row))) → each_in kept_row_in ds ≡ option_map (map kept_entry) p
        → joined (option_map kept_entry o) (each_in kept_row_in ds) ≡ option_map (map kept_entry) (joined o p)
    go None p e = refl
    go (Some x) None e = ap (joined (Some (kept_entry x))) e
    go (Some x) (Some xs) e = ap (joined (Some (kept_entry x))) e

rows_kept : (d : Data) → list_in kept_row_in d ≡ option_map (map kept_entry) (list_in row_in d)
rows_kept null = refl
rows_kept (boolean b) = refl
rows_kept (number n) = refl
rows_kept (string s) = refl
rows_kept (array ds) = each_kept ds
rows_kept (object ms) = refl

-- ---- the first form

abbrev one_of : Option (List Range) → Option (List Dot) → Option (List (Dot × Row)) → Result ToldValue LinkFault
one_of ranges extras live =
    (or_bad ranges >>= (λ rs. or_bad extras >>= (λ es. or_bad live >>= (λ xs. Ok (record { ranges = rs; extras = es; live = xs }))))) >>= (λ t. Ok (kept t))

one_is : (a b c : Data) → kept_told_in One (array (item a (item b (item c no_items)))) ≡ one_of (list_in range_in a) (list_in extra_in b) (list_in row_in c)
unfolding raw_told_in
one_is a b c = refl

no_ranges : (r : Option (List Range)) (x : Option (List Dot)) (l : Option (List (Dot × Row))) → r ≡ None → one_of r x l ≡ Err BadLine
no_ranges r x l e = ap (λ o. one_of o x l) e

no_extras : (r : Option (List Range)) (x : Option (List Dot)) (l : Option (List (Dot × Row))) → x ≡ None → one_of r x l ≡ Err BadLine
no_extras None x l e = refl
no_extras (Some r) x l e = ap (λ o. one_of (Some r) o l) e

no_rows : (r : Option (List Range)) (x : Option (List Dot)) (l : Option (List (Dot × Row))) → l ≡ None → one_of r x l ≡ Err BadLine
no_rows None x l e = refl
no_rows (Some r) None l e = refl
no_rows (Some r) (Some x) l e = ap (λ o. one_of (Some r) (Some x) o) e

pub one_ranges : (ds : Items) (e : LinkFault) → or_bad (first_in (list_in range_in) ds) ≡ Err e → kept_told_in One (array ds) ≡ Err e
unfolding raw_told_in
one_ranges no_items e h = bad_is None e h
one_ranges (item a no_items) e h = bad_is (list_in range_in a) e h
one_ranges (item a (item b no_items)) e h = bad_is (list_in range_in a) e h
one_ranges (item a (item b (item c no_items))) e h = no_ranges (list_in range_in a) (list_in extra_in b) (list_in row_in c) (is_none (list_in range_in a) e h) ∙ bad_is (list_in range_in a) e h
one_ranges (item a (item b (item c (item d ds)))) e h = bad_is (list_in range_in a) e h

pub one_extras : (a : Data) (ds : Items) (e : LinkFault) → or_bad (first_in (list_in extra_in) ds) ≡ Err e → kept_told_in One (array (item a ds)) ≡ Err e
unfolding raw_told_in
one_extras a no_items e h = bad_is None e h
one_extras a (item b no_items) e h = bad_is (list_in extra_in b) e h
one_extras a (item b (item c no_items)) e h = no_extras (list_in range_in a) (list_in extra_in b) (list_in row_in c) (is_none (list_in extra_in b) e h) ∙ bad_is (list_in extra_in b) e h
one_extras a (item b (item c (item d ds))) e h = bad_is (list_in extra_in b) e h

kept_none : (c : Data) → list_in kept_row_in c ≡ None → list_in row_in c ≡ None
kept_none c h = go (list_in row_in c) (sym (rows_kept c) ∙ h)
  where
    go : (o : Option (List (Dot × Row))) → option_map (map kept_entry) o ≡ None → o ≡ None
    go None e = refl
    go (Some xs) e = absurd (cc)

pub one_rows : (a b : Data) (ds : Items) (e : LinkFault) → or_bad (first_in (list_in kept_row_in) ds) ≡ Err e → kept_told_in One (array (item a (item b ds))) ≡ Err e
unfolding raw_told_in
one_rows a b no_items e h = bad_is None e h
one_rows a b (item c no_items) e h =
    no_rows (list_in range_in a) (list_in extra_in b) (list_in row_in c) (kept_none c (is_none (list_in kept_row_in c) e h)) ∙ bad_is (list_in kept_row_in c) e h
one_rows a b (item c (item d ds)) e h = bad_is (list_in kept_row_in c) e h

pub one_ended : (a b c : Data) (ds : Items) (e : LinkFault) → none_left ds ≡ Err e → kept_told_in One (array (item a (item b (item c ds)))) ≡ Err e
unfolding raw_told_in
one_ended a b c no_items e h = absurd (cc)
one_ended a b c (item d ds) e h = bad_is None e (ap (λ r. r >>= (λ u. Ok u)) h)

pub one_all : (a b c : Data) (ds : Items) (rs : List Range) (es : List Dot) (xs : List (Dot × Row)) → none_left ds ≡ Ok tt → list_in range_in a ≡ Some rs → list_in extra_in b ≡ Some es → list_in kept_row_in c ≡ Some xs
    → kept_told_in One (array (item a (item b (item c ds)))) ≡ Ok (record { ranges = rs; extras = es; live = xs })
one_all a b c no_items rs es xs end r x l =
    one_is a b c ∙ ap₂ (λ o p. one_of o p (list_in row_in c)) r x ∙ go (list_in row_in c) (sym (rows_kept c) ∙ l)
  where
    go : (o : Option (List (Dot × Row))) → option_map (map kept_entry) o ≡ Some xs → one_of (Some rs) (Some es) o ≡ Ok (record { ranges = rs; extras = es; live = xs })
    go None e = absurd (cc)
    go (Some ys) e = ap (λ l. Ok (record { ranges = rs; extras = es; live = l })) (ap (or_none xs) e)
      where
        or_none : List (Dot × Row) → Option (List (Dot × Row)) → List (Dot × Row)
        or_none zs None = zs
        or_none zs (Some ys) = ys
one_all a b c (item d ds) rs es xs end r x l = absurd (cc)

-- ---- the second form

abbrev two_of : Option (List Range) → Option (List (Dot × Row)) → Result ToldValue LinkFault
two_of ranges live = (or_bad ranges >>= (λ rs. or_bad live >>= (λ xs. Ok (record { ranges = rs; extras = []; live = xs })))) >>= (λ t. Ok (kept t))

two_is : (a c : Data) → kept_told_in Two (array (item a (item c no_items))) ≡ two_of (list_in range_in a) (list_in row_in c)
unfolding raw_told_in
two_is a c = refl

two_no_rows : (r : Option (List Range)) (l : Option (List (Dot × Row))) → l ≡ None → two_of r l ≡ Err BadLine
two_no_rows None l e = refl
two_no_rows (Some r) l e = ap (λ o. two_of (Some r) o) e

pub two_ranges : (ds : Items) (e : LinkFault) → or_bad (first_in (list_in range_in) ds) ≡ Err e → kept_told_in Two (array ds) ≡ Err e
unfolding raw_told_in
two_ranges no_items e h = bad_is None e h
two_ranges (item a no_items) e h = bad_is (list_in range_in a) e h
two_ranges (item a (item c no_items)) e h = ap (λ o. two_of o (list_in row_in c)) (is_none (list_in range_in a) e h) ∙ bad_is (list_in range_in a) e h
two_ranges (item a (item c (item d ds))) e h = bad_is (list_in range_in a) e h

pub two_rows : (a : Data) (ds : Items) (e : LinkFault) → or_bad (first_in (list_in kept_row_in) ds) ≡ Err e → kept_told_in Two (array (item a ds)) ≡ Err e
unfolding raw_told_in
two_rows a no_items e h = bad_is None e h
two_rows a (item c no_items) e h = two_no_rows (list_in range_in a) (list_in row_in c) (kept_none c (is_none (list_in kept_row_in c) e h)) ∙ bad_is (list_in kept_row_in c) e h
two_rows a (item c (item d ds)) e h = bad_is (list_in kept_row_in c) e h

pub two_ended : (a c : Data) (ds : Items) (e : LinkFault) → none_left ds ≡ Err e → kept_told_in Two (array (item a (item c ds))) ≡ Err e
unfolding raw_told_in
two_ended a c no_items e h = absurd (cc)
two_ended a c (item d ds) e h = bad_is None e (ap (λ r. r >>= (λ u. Ok u)) h)

pub two_all : (a c : Data) (ds : Items) (rs : List Range) (xs : List (Dot × Row)) → none_left ds ≡ Ok tt → list_in range_in a ≡ Some rs → list_in kept_row_in c ≡ Some xs
    → kept_told_in Two (array (item a (item c ds))) ≡ Ok (record { ranges = rs; extras = []; live = xs })
two_all a c no_items rs xs end r l = two_is a c ∙ ap (λ o. two_of o (list_in row_in c)) r ∙ go (list_in row_in c) (sym (rows_kept c) ∙ l)
  where
    go : (o : Option (List (Dot × Row))) → option_map (map kept_entry) o ≡ Some xs → two_of (Some rs) o ≡ Ok (record { ranges = rs; extras = []; live = xs })
    go None e = absurd (cc)
    go (Some ys) e = ap (λ l. Ok (record { ranges = rs; extras = []; live = l })) (ap (or_none xs) e)
      where
        or_none : List (Dot × Row) → Option (List (Dot × Row)) → List (Dot × Row)
        or_none zs None = zs
        or_none zs (Some ys) = ys
two_all a c (item d ds) rs xs end r l = absurd (cc)
