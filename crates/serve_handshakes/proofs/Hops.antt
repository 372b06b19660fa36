-- What is known behind hops, one after another.
use Rattle.std.proofs.Common.{◌≡◌, ◌++◌, ℕ, zero, suc, ap, ◌+◌, ◌-◌, ◌<◌, ◌≤◌, Bool, true, false, cond, ◌||◌, ◌==◌, List, [], ◌∷◌, length, get_or, take, drop, codes, Option, Some, refl, subst, sym, arith, length-drop, get_or-drop}
use Rattle.std.proofs.lemmas.List.{drop_more, take_more}
use Rattle.std.specs.declared.net.ip_addr.IpAddr.{IpAddr}
use Rattle.httparse.specs.Spans.{header_bytes}
use Rattle.httparse.specs.declared.spans.HeaderSpan.{HeaderSpan}
use Rattle.websocket.specs.Headers.{Fields, eq_ignore_case, fields_of}
use Rattle.serve_handshakes.specs.Clients.{Behind, BehindAll, Writes, farther, hops_of, pieces_from}

-- behind the first hops, and then behind the others
pub behind_append : (proxies : List IpAddr) (first others : List (List ℕ)) (before between after : Option IpAddr)
    → BehindAll proxies first before between → BehindAll proxies others between after → BehindAll proxies (first ++ others) before after
behind_append proxies [] others before between after h k = subst (λ b. BehindAll proxies others b after) h k
behind_append proxies (hop ∷ hops) others before between after h k = (h.0, h.1, behind_append proxies hops others h.0 between after h.2 k)

-- a hop that ends at a separator
pub at_separator : (proxies : List IpAddr) (piece bs : List ℕ) (i : ℕ) (before next after : Option IpAddr) → i < length bs
    → (get_or bs i 0 == 32 || get_or bs i 0 == 44) ≡ true → Behind proxies piece before next
    → BehindAll proxies (pieces_from (take (i + 1 - (i + 1)) (drop (i + 1) bs)) (drop (i + 1) bs)) next after
    → BehindAll proxies (pieces_from piece (drop i bs)) before after
at_separator proxies piece bs i before next after inside test one rest =
    let none : i + 1 - (i + 1) ≡ 0 = omega arith in
    let rest_is : BehindAll proxies (pieces_from [] (drop (i + 1) bs)) next after = subst (λ n. BehindAll proxies (pieces_from (take n (drop (i + 1) bs)) (drop (i + 1) bs)) next after) none rest in
    rw (drop_more bs i 0 inside, test) (next, one, rest_is)

-- any other byte extends the piece
pub in_piece : (bs : List ℕ) (start i : ℕ) → start ≤ i → i < length bs → (get_or bs i 0 == 32 || get_or bs i 0 == 44) ≡ false
    → pieces_from (take (i - start) (drop start bs)) (drop i bs) ≡ pieces_from (take (i + 1 - start) (drop start bs)) (drop (i + 1) bs)
in_piece bs start i ordered inside test =
    let more : i + 1 - start ≡ i - start + 1 = omega arith in
    let back : start + (i - start) ≡ i = omega arith in
    rw (drop_more bs i 0 inside, test, more, take_more (drop start bs) (i - start) 0 (omega (arith, length-drop start bs)), get_or-drop, back) refl

-- ---- at the end

none_dropped : {A : Type 0} (i : ℕ) → drop {A = A} i [] ≡ []
none_dropped zero = refl
none_dropped (suc i) = refl

none_left : {A : Type 0} (i : ℕ) (xs : List A) → length xs ≤ i → drop i xs ≡ []
none_left i [] h = none_dropped i
none_left zero (x ∷ xs) h = absurd (omega arith)
none_left (suc i) (x ∷ xs) h = none_left i xs (omega arith)

none_taken : {A : Type 0} (i : ℕ) → take {A = A} i [] ≡ []
none_taken zero = refl
none_taken (suc i) = refl

all_taken : {A : Type 0} (n : ℕ) (xs : List A) → length xs ≤ n → take n xs ≡ xs
all_taken n [] h = none_taken n
all_taken zero (x ∷ xs) h = absurd (omega arith)
all_taken (suc n) (x ∷ xs) h = ap (λ l. x ∷ l) (all_taken n xs (omega arith))

-- the last hop
pub last_hop : (proxies : List IpAddr) (bs : List ℕ) (start i : ℕ) (before after : Option IpAddr) → start ≤ i → length bs ≤ i
    → Behind proxies (take (length bs - start) (drop start bs)) before after
    → BehindAll proxies (pieces_from (take (i - start) (drop start bs)) (drop i bs)) before after
last_hop proxies bs start i before after ordered past h =
    let rest : length (drop start bs) ≤ i - start = omega (arith, length-drop start bs) in
    let whole : length (drop start bs) ≤ length bs - start = omega (arith, length-drop start bs) in
    let last : Behind proxies (drop start bs) before after = subst (λ p. Behind proxies p before after) (all_taken (length bs - start) (drop start bs) whole) h in
    rw (none_left i bs past, all_taken (i - start) (drop start bs) rest) (after, last, refl)

-- a hop that is an address
pub behind_some : (proxies : List IpAddr) (hop : List ℕ) (before : Option IpAddr) (told client : IpAddr) → (length hop == 0) ≡ false
    → Writes hop told → client ≡ farther proxies told before → Behind proxies hop before (Some client)
behind_some proxies [] before told client some written is = absurd (cc)
behind_some proxies (b ∷ bs) before told client some written is = (told, written, is)

-- ---- fields

hops_cons : (f : List ℕ × List ℕ) (fs : Fields) → hops_of (f ∷ fs) ≡ hops_of (f ∷ []) ++ hops_of fs
hops_cons f fs = hops_at (eq_ignore_case f.0 (codes "X-Forwarded-For"))
  where
    append_none : (xs ys : List (List ℕ)) → xs ++ ys ≡ (xs ++ []) ++ ys
    append_none [] ys = refl
    append_none (x ∷ xs) ys = ap (λ l. x ∷ l) (append_none xs ys)

    hops_at : (b : Bool) → cond b (pieces_from [] f.1 ++ hops_of fs) (hops_of fs) ≡ cond b (pieces_from [] f.1 ++ []) [] ++ hops_of fs
    hops_at true = append_none (pieces_from [] f.1) (hops_of fs)
    hops_at false = refl

-- the hops of one more field
pub next_field : (proxies : List IpAddr) (head : List ℕ) (spans : List HeaderSpan) (i : ℕ) (d : HeaderSpan) (before next after : Option IpAddr)
    → i < length spans → BehindAll proxies (hops_of (header_bytes head (get_or spans i d) ∷ [])) before next
    → BehindAll proxies (hops_of (fields_of head (drop (i + 1) spans))) next after
    → BehindAll proxies (hops_of (fields_of head (drop i spans))) before after
next_field proxies head spans i d before next after inside one rest =
    let f = header_bytes head (get_or spans i d) in
    let fs = fields_of head (drop (i + 1) spans) in
    let both = behind_append proxies (hops_of (f ∷ [])) (hops_of fs) before next after one rest in
    let whole : BehindAll proxies (hops_of (f ∷ fs)) before after = subst (λ hs. BehindAll proxies hs before after) (sym (hops_cons f fs)) both in
    rw (drop_more spans i d inside) whole

-- a field by itself
pub one_field : (proxies : List IpAddr) (f : List ℕ × List ℕ) (before after : Option IpAddr) → eq_ignore_case f.0 (codes "X-Forwarded-For") ≡ true
    → BehindAll proxies (pieces_from [] f.1) before after → BehindAll proxies (hops_of (f ∷ [])) before after
one_field proxies f before after is h = rw is (behind_append proxies (pieces_from [] f.1) [] before after after h refl)
