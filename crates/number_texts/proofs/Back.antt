-- What was marked comes back, and what needs no mark stays.
use Rattle.std.proofs.Common.{◌≡◌, ℕ, ◌==◌, ◌||◌, ◌&&◌, not, Bool, true, false, List, [], ◌∷◌, ◌++◌, drop, if◌then◌else◌, refl, sym, ap, subst, ◌∙◌, append_assoc, append-nil, arith}
use Rattle.std.specs.List.{list_all}
use Rattle.json.specs.Word.{is_space}
use Rattle.number_texts.specs.Numbers.{is_marked_number}
use Rattle.number_texts.specs.Marks.{mark, has_mark, behind, marked, unmarked, map_named, all_named, marked_text, unmarked_text, needs_no_mark, has_none, needs_no_marks, has_no_marks}
use Rattle.number_texts.specs.Pieces.{Piece, quoted, run, other, open_quote, State, plain, inside, escaped, running, is_run, colon_first, scan, pieces, joined}

-- ---- joined pieces are the text

-- what was read before
abbrev before : State → List ℕ
before plain = []
before (inside t) = 34 ∷ t
before (escaped t) = 34 ∷ t
before (running r) = r

pub push : (t : List ℕ) (b : ℕ) (bs : List ℕ) → (t ++ b ∷ []) ++ bs ≡ t ++ b ∷ bs
push t b bs = append_assoc t (b ∷ []) bs

pub is_same : (b n : ℕ) → (b == n) ≡ true → b ≡ n
is_same b n e = grind arith

is_34 : (b : ℕ) → (b == 34) ≡ true → b ≡ 34
is_34 b e = grind arith

join_plain : (q r : Bool) (b : ℕ) (bs : List ℕ) → (b == 34) ≡ q → joined (scan (inside []) bs) ≡ 34 ∷ bs
    → joined (scan (running (b ∷ [])) bs) ≡ b ∷ bs → joined (scan plain bs) ≡ bs
    → joined (if q then scan (inside []) bs else if r then scan (running (b ∷ [])) bs else other b ∷ scan plain bs) ≡ b ∷ bs
join_plain true r b bs e ins rs ps = rw (is_34 b e) ins
join_plain false true b bs e ins rs ps = rs
join_plain false false b bs e ins rs ps = ap (λ x. b ∷ x) ps

join_inside : (q k : Bool) (t : List ℕ) (b : ℕ) (bs : List ℕ) → (b == 34) ≡ q → joined (scan plain bs) ≡ bs
    → joined (scan (escaped (t ++ b ∷ [])) bs) ≡ 34 ∷ ((t ++ b ∷ []) ++ bs)
    → joined (scan (inside (t ++ b ∷ [])) bs) ≡ 34 ∷ ((t ++ b ∷ []) ++ bs)
    → joined (if q then quoted t ∷ scan plain bs else if k then scan (escaped (t ++ b ∷ [])) bs else scan (inside (t ++ b ∷ [])) bs)
    ≡ 34 ∷ (t ++ b ∷ bs)
join_inside true k t b bs e ps es ins = rw (is_34 b e, ps) (ap (λ x. 34 ∷ x) (push t 34 bs))
join_inside false true t b bs e ps es ins = es ∙ ap (λ x. 34 ∷ x) (push t b bs)
join_inside false false t b bs e ps es ins = ins ∙ ap (λ x. 34 ∷ x) (push t b bs)

join_running : (q k : Bool) (r : List ℕ) (b : ℕ) (bs : List ℕ) → (b == 34) ≡ q → joined (scan (inside []) bs) ≡ 34 ∷ bs
    → joined (scan (running (r ++ b ∷ [])) bs) ≡ (r ++ b ∷ []) ++ bs → joined (scan plain bs) ≡ bs
    → joined (if q then run r ∷ scan (inside []) bs else if k then scan (running (r ++ b ∷ [])) bs else run r ∷ other b ∷ scan plain bs)
    ≡ r ++ b ∷ bs
join_running true k r b bs e ins rs ps = rw (is_34 b e, ins) refl
join_running false true r b bs e ins rs ps = rs ∙ push r b bs
join_running false false r b bs e ins rs ps = ap (λ x. r ++ b ∷ x) ps

pub joined_scan : (st : State) (s : List ℕ) → joined (scan st s) ≡ before st ++ s
joined_scan plain [] = refl
joined_scan plain (b ∷ bs) =
    join_plain (b == 34) (is_run b) b bs refl (joined_scan (inside []) bs) (joined_scan (running (b ∷ [])) bs) (joined_scan plain bs)
joined_scan (inside t) [] = refl
joined_scan (inside t) (b ∷ bs) =
    join_inside (b == 34) (b == 92) t b bs refl (joined_scan plain bs) (joined_scan (escaped (t ++ b ∷ [])) bs) (joined_scan (inside (t ++ b ∷ [])) bs)
joined_scan (escaped t) [] = refl
joined_scan (escaped t) (b ∷ bs) = joined_scan (inside (t ++ b ∷ [])) bs ∙ ap (λ x. 34 ∷ x) (push t b bs)
joined_scan (running r) [] = refl
joined_scan (running r) (b ∷ bs) =
    join_running (b == 34) (is_run b) r b bs refl (joined_scan (inside []) bs) (joined_scan (running (r ++ b ∷ [])) bs) (joined_scan plain bs)

-- ---- pieces that are read as they are

-- the bytes of a quoted text, whatever was read before and whatever follows
abbrev pub IsContent : List ℕ → Type 0
IsContent t = (front rest : List ℕ) → scan (inside front) (t ++ 34 ∷ rest) ≡ quoted (front ++ t) ∷ scan plain rest

-- the bytes of one that has no end
abbrev IsOpen : List ℕ → Type 0
IsOpen t = scan (inside []) t ≡ open_quote t ∷ []

abbrev pub has_some : List ℕ → Bool
has_some [] = false
has_some (b ∷ bs) = true

abbrev pub IsRunList : List ℕ → Type 0
IsRunList r = (list_all is_run r ≡ true) × (has_some r ≡ true)

abbrev NoRunFirst : List Piece → Type 0
NoRunFirst [] = Unit {0}
NoRunFirst (quoted t ∷ ps) = Unit {0}
NoRunFirst (run r ∷ ps) = ⊥
NoRunFirst (other b ∷ ps) = Unit {0}
NoRunFirst (open_quote t ∷ ps) = Unit {0}

abbrev AreRead : List Piece → Type 0
AreRead [] = Unit {0}
AreRead (quoted t ∷ ps) = IsContent t × AreRead ps
AreRead (run r ∷ ps) = IsRunList r × NoRunFirst ps × AreRead ps
AreRead (other b ∷ ps) = ((b == 34) ≡ false) × (is_run b ≡ false) × AreRead ps
AreRead (open_quote t ∷ ps) = IsOpen t × (ps ≡ [])

no_test : (t : Bool) (b n : ℕ) → (b == n) ≡ t → is_run n ≡ false → is_run b ≡ true → t ≡ false
no_test false b n e none is = refl
no_test true b n e none is =
    let same : b ≡ n = is_same b n e in
    let P : ℕ → Type 0 = λ x. is_run x ≡ true in
    let there : is_run n ≡ true = subst P same is in
    absurd (cc)

pub run_not_34 : (b : ℕ) → is_run b ≡ true → (b == 34) ≡ false
run_not_34 b e = no_test (b == 34) b 34 refl refl e

run_not_92 : (b : ℕ) → is_run b ≡ true → (b == 92) ≡ false
run_not_92 b e = no_test (b == 92) b 92 refl refl e

pub both : (a b : Bool) → (a && b) ≡ true → (a ≡ true) × (b ≡ true)
both true b is = (refl, is)
both false b is = absurd (cc)

-- a run goes on through its bytes
pub run_on : (r front rest : List ℕ) → list_all is_run r ≡ true → scan (running front) (r ++ rest) ≡ scan (running (front ++ r)) rest
run_on [] front rest all = rw (append-nil front) refl
run_on (b ∷ r) front rest all =
    let parts = both (is_run b) (list_all is_run r) all in
    rw (run_not_34 b parts.0, parts.0, run_on r (front ++ b ∷ []) rest parts.1, push front b r) refl

-- and a quoted text through those of a run
run_in : (r front rest : List ℕ) → list_all is_run r ≡ true → scan (inside front) (r ++ rest) ≡ scan (inside (front ++ r)) rest
run_in [] front rest all = rw (append-nil front) refl
run_in (b ∷ r) front rest all =
    let parts = both (is_run b) (list_all is_run r) all in
    rw (run_not_34 b parts.0, run_not_92 b parts.0, run_in r (front ++ b ∷ []) rest parts.1, push front b r) refl

-- behind a run that ends
end_run : (q : List ℕ) (ps : List Piece) → NoRunFirst ps → AreRead ps → scan (running q) (joined ps) ≡ run q ∷ scan plain (joined ps)
end_run q [] none read = refl
end_run q (quoted t ∷ ps) none read = refl
end_run q (run r ∷ ps) none read = absurd none
end_run q (other b ∷ ps) none read = rw (read.0, read.1) refl
end_run q (open_quote t ∷ ps) none read = refl

whole_run : (r : List ℕ) (ps : List Piece) → IsRunList r → NoRunFirst ps → AreRead ps
    → scan plain (r ++ joined ps) ≡ run r ∷ scan plain (joined ps)
whole_run [] ps is none read = absurd (cc)
whole_run (b ∷ r) ps is none read =
    let parts = both (is_run b) (list_all is_run r) is.0 in
    rw (run_not_34 b parts.0, parts.0, run_on r (b ∷ []) (joined ps) parts.1) (end_run (b ∷ r) ps none read)

scan_joined : (ps : List Piece) → AreRead ps → scan plain (joined ps) ≡ ps
scan_joined [] read = refl
scan_joined (quoted t ∷ ps) read =
    rw (push t 34 (joined ps), read.0 [] (joined ps), scan_joined ps read.1) refl
scan_joined (run r ∷ ps) read = rw (whole_run r ps read.0 read.1 read.2, scan_joined ps read.2) refl
scan_joined (other b ∷ ps) read = rw (read.0, read.1, scan_joined ps read.2) refl
scan_joined (open_quote t ∷ ps) read = rw (read.1, append-nil t, read.0) refl

-- ---- what is scanned is read as it is

abbrev GoesIn : List ℕ → (List ℕ → State) → Type 0
GoesIn t at = (front rest : List ℕ) → scan (inside front) (t ++ rest) ≡ scan (at (front ++ t)) rest

abbrev IsState : State → Type 0
IsState plain = Unit {0}
IsState (inside t) = GoesIn t inside
IsState (escaped t) = GoesIn t escaped
IsState (running r) = IsRunList r

at_start : GoesIn [] inside
at_start front rest = rw (append-nil front) refl

one_more : (t : List ℕ) (b : ℕ) (front : List ℕ) → (front ++ t) ++ b ∷ [] ≡ front ++ (t ++ b ∷ [])
one_more t b front = append_assoc front t (b ∷ [])

goes_on : (t : List ℕ) (b : ℕ) → GoesIn t inside → (b == 34) ≡ false → (b == 92) ≡ false → GoesIn (t ++ b ∷ []) inside
goes_on t b so q k front rest = rw (push t b rest, so front (b ∷ rest), q, k, one_more t b front) refl

goes_back : (t : List ℕ) (b : ℕ) → GoesIn t inside → (b == 34) ≡ false → (b == 92) ≡ true → GoesIn (t ++ b ∷ []) escaped
goes_back t b so q k front rest = rw (push t b rest, so front (b ∷ rest), q, k, one_more t b front) refl

goes_behind : (t : List ℕ) (b : ℕ) → GoesIn t escaped → GoesIn (t ++ b ∷ []) inside
goes_behind t b so front rest = rw (push t b rest, so front (b ∷ rest), one_more t b front) refl

no_run_by : (q k : Bool) (t : List ℕ) (b : ℕ) (bs : List ℕ) → NoRunFirst (scan (inside (t ++ b ∷ [])) bs)
    → NoRunFirst (scan (escaped (t ++ b ∷ [])) bs)
    → NoRunFirst (if q then quoted t ∷ scan plain bs else if k then scan (escaped (t ++ b ∷ [])) bs else scan (inside (t ++ b ∷ [])) bs)
no_run_by true k t b bs ins es = tt
no_run_by false true t b bs ins es = es
no_run_by false false t b bs ins es = ins

mutual
  no_run_inside : (t s : List ℕ) → NoRunFirst (scan (inside t) s)
  no_run_inside t [] = tt
  no_run_inside t (b ∷ bs) = no_run_by (b == 34) (b == 92) t b bs (no_run_inside (t ++ b ∷ []) bs) (no_run_escaped (t ++ b ∷ []) bs)

  no_run_escaped : (t s : List ℕ) → NoRunFirst (scan (escaped t) s)
  no_run_escaped t [] = tt
  no_run_escaped t (b ∷ bs) = no_run_inside (t ++ b ∷ []) bs

all_more : (r : List ℕ) (b : ℕ) → list_all is_run r ≡ true → is_run b ≡ true → list_all is_run (r ++ b ∷ []) ≡ true
all_more [] b all is = rw is refl
all_more (x ∷ r) b all is =
    let parts = both (is_run x) (list_all is_run r) all in
    rw (parts.0, all_more r b parts.1 is) refl

some_more : (r : List ℕ) (b : ℕ) → has_some (r ++ b ∷ []) ≡ true
some_more [] b = refl
some_more (x ∷ r) b = refl

read_plain : (q k : Bool) (b : ℕ) (bs : List ℕ) → (b == 34) ≡ q → is_run b ≡ k → AreRead (scan (inside []) bs)
    → (IsRunList (b ∷ []) → AreRead (scan (running (b ∷ [])) bs)) → AreRead (scan plain bs)
    → AreRead (if q then scan (inside []) bs else if k then scan (running (b ∷ [])) bs else other b ∷ scan plain bs)
read_plain true k b bs e f ins rs ps = ins
read_plain false true b bs e f ins rs ps = rs (rw f refl, refl)
read_plain false false b bs e f ins rs ps = (e, f, ps)

read_inside : (q k : Bool) (t : List ℕ) (b : ℕ) (bs : List ℕ) → (b == 34) ≡ q → (b == 92) ≡ k → GoesIn t inside
    → AreRead (scan plain bs) → (GoesIn (t ++ b ∷ []) escaped → AreRead (scan (escaped (t ++ b ∷ [])) bs))
    → (GoesIn (t ++ b ∷ []) inside → AreRead (scan (inside (t ++ b ∷ [])) bs))
    → AreRead (if q then quoted t ∷ scan plain bs else if k then scan (escaped (t ++ b ∷ [])) bs else scan (inside (t ++ b ∷ [])) bs)
read_inside true k t b bs e f so ps es ins = (λ front rest. so front (34 ∷ rest), ps)
read_inside false true t b bs e f so ps es ins = es (goes_back t b so e f)
read_inside false false t b bs e f so ps es ins = ins (goes_on t b so e f)

read_running : (q k : Bool) (r : List ℕ) (b : ℕ) (bs : List ℕ) → (b == 34) ≡ q → is_run b ≡ k → IsRunList r
    → AreRead (scan (inside []) bs) → (IsRunList (r ++ b ∷ []) → AreRead (scan (running (r ++ b ∷ [])) bs)) → AreRead (scan plain bs)
    → AreRead (if q then run r ∷ scan (inside []) bs else if k then scan (running (r ++ b ∷ [])) bs else run r ∷ other b ∷ scan plain bs)
read_running true k r b bs e f is ins rs ps = (is, no_run_inside [] bs, ins)
read_running false true r b bs e f is ins rs ps = rs (all_more r b is.0 f, some_more r b)
read_running false false r b bs e f is ins rs ps = (is, tt, (e, f, ps))

opened : (t : List ℕ) (at : List ℕ → State) → GoesIn t at → scan (at t) [] ≡ open_quote t ∷ [] → IsOpen t
opened t at so ends = rw (← append-nil t) (so [] [] ∙ ends ∙ ap (λ x. open_quote x ∷ []) (sym (append-nil t)))

read_scan : (st : State) (s : List ℕ) → IsState st → AreRead (scan st s)
read_scan plain [] is = tt
read_scan plain (b ∷ bs) is =
    read_plain (b == 34) (is_run b) b bs refl refl (read_scan (inside []) bs at_start) (λ r. read_scan (running (b ∷ [])) bs r) (read_scan plain bs tt)
read_scan (inside t) [] is = (opened t inside is refl, refl)
read_scan (inside t) (b ∷ bs) is =
    read_inside (b == 34) (b == 92) t b bs refl refl is (read_scan plain bs tt) (λ so. read_scan (escaped (t ++ b ∷ [])) bs so) (λ so. read_scan (inside (t ++ b ∷ [])) bs so)
read_scan (escaped t) [] is = (opened t escaped is refl, refl)
read_scan (escaped t) (b ∷ bs) is = read_scan (inside (t ++ b ∷ [])) bs (goes_behind t b is)
read_scan (running r) [] is = (is, tt, tt)
read_scan (running r) (b ∷ bs) is =
    read_running (b == 34) (is_run b) r b bs refl refl is (read_scan (inside []) bs at_start) (λ so. read_scan (running (r ++ b ∷ [])) bs so) (read_scan plain bs tt)

-- ---- marked pieces are read as they are

abbrev behind_mark : List ℕ → List ℕ
behind_mark front = (((((front ++ 92 ∷ []) ++ 117 ∷ []) ++ 48 ∷ []) ++ 48 ∷ []) ++ 48 ∷ []) ++ 48 ∷ []

all_behind : (front t : List ℕ) → behind_mark front ++ t ≡ front ++ (mark ++ t)
all_behind front t = simp append_assoc refl

marked_content : (t : List ℕ) → IsContent t → IsContent (mark ++ t)
marked_content t is front rest = is (behind_mark front) rest ∙ ap (λ x. quoted x ∷ scan plain rest) (all_behind front t)

run_content : (r : List ℕ) → list_all is_run r ≡ true → IsContent r
run_content r all front rest = run_in r front (34 ∷ rest) all

by_refused : (t : Bool) (r : List ℕ) (ps : List Piece) → IsRunList r → NoRunFirst ps → AreRead ps
    → AreRead ((if t then quoted (mark ++ r) else run r) ∷ ps)
by_refused true r ps is none read = (marked_content r (run_content r is.0), read)
by_refused false r ps is none read = (is, none, read)

by_mark : (m : Bool) (t : List ℕ) (ps : List Piece) → IsContent t → AreRead ps
    → AreRead ((if m then quoted (mark ++ t) else quoted t) ∷ ps)
by_mark true t ps is read = (marked_content t is, read)
by_mark false t ps is read = (is, read)

no_run_if : (m : Bool) (t u : List ℕ) (ps : List Piece) → NoRunFirst ((if m then quoted t else quoted u) ∷ ps)
no_run_if true t u ps = tt
no_run_if false t u ps = tt

still_no_run : (ps : List Piece) → NoRunFirst ps → NoRunFirst (map_named marked ps)
still_no_run [] none = tt
still_no_run (quoted t ∷ ps) none = no_run_if (has_mark t) (mark ++ t) t (map_named marked ps)
still_no_run (run r ∷ ps) none = absurd none
still_no_run (other b ∷ ps) none = tt
still_no_run (open_quote t ∷ ps) none = tt

read_marked : (ps : List Piece) → AreRead ps → AreRead (map_named marked ps)
read_marked [] read = tt
read_marked (quoted t ∷ ps) read = by_mark (has_mark t) t (map_named marked ps) read.0 (read_marked ps read.1)
read_marked (run r ∷ ps) read =
    by_refused (not (colon_first ps) && is_marked_number r) r (map_named marked ps) read.0 (still_no_run ps read.1) (read_marked ps read.2)
read_marked (other b ∷ ps) read = (read.0, read.1, read_marked ps read.2)
read_marked (open_quote t ∷ ps) read = (read.0, ap (λ x. map_named marked x) read.1)

-- ---- names stay names

no_colon_if : (m : Bool) (t : List ℕ) (ps : List Piece) → colon_first ((if m then quoted (mark ++ t) else quoted t) ∷ ps) ≡ false
no_colon_if true t ps = refl
no_colon_if false t ps = refl

no_colon_run : (m : Bool) (r : List ℕ) (ps : List Piece) → colon_first ((if m then quoted (mark ++ r) else run r) ∷ ps) ≡ false
no_colon_run true r ps = refl
no_colon_run false r ps = refl

colon_stays : (ps : List Piece) → colon_first (map_named marked ps) ≡ colon_first ps
colon_stays [] = refl
colon_stays (quoted t ∷ ps) = no_colon_if (has_mark t) t (map_named marked ps)
colon_stays (run r ∷ ps) = no_colon_run (not (colon_first ps) && is_marked_number r) r (map_named marked ps)
colon_stays (other b ∷ ps) = ap (λ x. (b == 58) || (is_space b && x)) (colon_stays ps)
colon_stays (open_quote t ∷ ps) = refl

-- ---- marks come off

swapped : (b : ℕ) → is_run b ≡ true → (92 == b) ≡ false
swapped b e = grind (arith, run_not_92 b e)

run_has_none : (r : List ℕ) → IsRunList r → has_mark r ≡ false
run_has_none [] is = absurd (cc)
run_has_none (b ∷ r) is =
    let parts = both (is_run b) (list_all is_run r) is.0 in
    rw (swapped b parts.0) refl

run_back : (n m : Bool) (r : List ℕ) → is_marked_number r ≡ m → IsRunList r
    → unmarked n (if not n && m then quoted (mark ++ r) else run r) ≡ run r
run_back true m r e is = refl
run_back false true r e is = rw (run_has_none r is, e) refl
run_back false false r e is = refl

quoted_back : (n m : Bool) (t : List ℕ) → has_mark t ≡ m → unmarked n (if m then quoted (mark ++ t) else quoted t) ≡ quoted t
quoted_back n true t e = rw e refl
quoted_back n false t e = rw e refl

same_more : (p q : Piece) (ps qs : List Piece) → p ≡ q → ps ≡ qs → p ∷ ps ≡ q ∷ qs
same_more p q ps qs e f = rw (e, f) refl

undone : (ps : List Piece) → AreRead ps → map_named unmarked (map_named marked ps) ≡ ps
undone [] read = refl
undone (quoted t ∷ ps) read =
    same_more _ _ _ _ (quoted_back (colon_first (map_named marked ps)) (has_mark t) t refl) (undone ps read.1)
undone (run r ∷ ps) read =
    rw (colon_stays ps) (same_more _ _ _ _ (run_back (colon_first ps) (is_marked_number r) r refl read.0) (undone ps read.2))
undone (other b ∷ ps) read = ap (λ x. other b ∷ x) (undone ps read.2)
undone (open_quote t ∷ ps) read = rw read.1 refl

pub marks_back : (s : List ℕ) → unmarked_text (marked_text s) ≡ s
unfolding marked_text unmarked_text
marks_back s =
    let read : AreRead (scan plain s) = read_scan plain s tt in
    rw (scan_joined (map_named marked (scan plain s)) (read_marked (scan plain s) read), undone (scan plain s) read)
    (joined_scan plain s)

-- ---- where nothing is to be marked, or unmarked, nothing is

keeps : (m : Bool) (p q : Piece) → not m ≡ true → (if m then q else p) ≡ p
keeps false p q is = refl
keeps true p q is = absurd (cc)

kept : (ps : List Piece) → all_named needs_no_mark ps ≡ true → map_named marked ps ≡ ps
kept [] all = refl
kept (quoted t ∷ ps) all =
    let parts = both (not (has_mark t)) (all_named needs_no_mark ps) all in
    same_more _ _ _ _ (keeps (has_mark t) (quoted t) (quoted (mark ++ t)) parts.0) (kept ps parts.1)
kept (run r ∷ ps) all =
    let m = not (colon_first ps) && is_marked_number r in
    let parts = both (not m) (all_named needs_no_mark ps) all in
    same_more _ _ _ _ (keeps m (run r) (quoted (mark ++ r)) parts.0) (kept ps parts.1)
kept (other b ∷ ps) all = ap (λ x. other b ∷ x) (kept ps all)
kept (open_quote t ∷ ps) all = ap (λ x. open_quote t ∷ x) (kept ps all)

pub marked_kept : (s : List ℕ) → needs_no_marks s ≡ true → marked_text s ≡ s
unfolding marked_text needs_no_marks
marked_kept s all = rw (kept (scan plain s) all) (joined_scan plain s)

left : (ps : List Piece) → all_named has_none ps ≡ true → map_named unmarked ps ≡ ps
left [] all = refl
left (quoted t ∷ ps) all =
    let parts = both (not (has_mark t)) (all_named has_none ps) all in
    same_more _ _ _ _ (keeps (has_mark t) (quoted t) (behind (colon_first ps) (drop 6 t)) parts.0) (left ps parts.1)
left (run r ∷ ps) all = ap (λ x. run r ∷ x) (left ps all)
left (other b ∷ ps) all = ap (λ x. other b ∷ x) (left ps all)
left (open_quote t ∷ ps) all = ap (λ x. open_quote t ∷ x) (left ps all)

pub unmarked_kept : (s : List ℕ) → has_no_marks s ≡ true → unmarked_text s ≡ s
unfolding unmarked_text has_no_marks
unmarked_kept s all = rw (left (scan plain s) all) (joined_scan plain s)
