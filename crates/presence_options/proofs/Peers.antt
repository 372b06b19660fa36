-- A text that is cut at a byte which one of its parts lacks: there is one such cut.
use Rattle.std.proofs.Common.{◌≡◌, ◌≢◌, ◌<◌, ◌≤◌, ◌++◌, ◌==◌, ℕ, zero, suc, Bor, List, map, [], ◌∷◌, length, take, drop, Bool, true, false, ◌&&◌, cond, nat_le, eqb-true, get_or, IsTrue, Option, Some, None, Result, Ok, refl, sym, ap, ap₂, subst, ◌∙◌, arith}
use Rattle.std.specs.List.{AllByRecursion, list_all}
use Rattle.std.specs.Char.{digit_value}
use Rattle.std.specs.Str.{NoCharPasses}
use Rattle.std.specs.Str.Parse.{AllDigits, without_leading_plus}
use Rattle.std.specs.Str.Pattern.{FindsChar, RFindsChar, SplitsAroundMatch}
use Rattle.std.proofs.lemmas.Str.Pattern.{NoCharPasses-char, drop_at_char}
use Rattle.std.proofs.lemmas.List.{take-append-drop}
use Rattle.presence_base.specs.Names.{guarded, is_name_byte, is_node_name}
use Rattle.presence_options.specs.Given.{ArePeers, AllArePeers, IsAddress, IsAddressIn, IsFor, IsNumberIn, IsNumberWithin, IsPeer, IsPeerIn, IsPeerText, number_in}
use Rattle.presence_options.specs.Hosts.{is_host}
use Rattle.presence_options.specs.declared.fault.UsageCause.TheVariants.{Peer}
use Rattle.presence_options.specs.declared.fault.UsageFault.{UsageFault}
use Rattle.presence_options.specs.declared.fault.UsageFault.TheVariants.{Usage, Memory}
use Rattle.presence_options.specs.declared.options.PeerOption.{PeerOption}

-- no byte of the text is this one
abbrev pub Lacks : ℕ → List ℕ → Type 0
Lacks c bs = AllByRecursion (λ b. b ≡ c → ⊥) bs

abbrev head_of : List ℕ → ℕ
head_of [] = 0
head_of (b ∷ bs) = b

abbrev tail_of : List ℕ → List ℕ
tail_of [] = []
tail_of (b ∷ bs) = bs

-- a text that lacks the byte is not cut at it
lacks_no_cut : (c : ℕ) (front back bs : List ℕ) → Lacks c bs → bs ≡ front ++ c ∷ back → ⊥
lacks_no_cut c [] back [] l e = cc
lacks_no_cut c (x ∷ front) back [] l e = cc
lacks_no_cut c [] back (b ∷ bs) l e = l.0 (ap head_of e)
lacks_no_cut c (x ∷ front) back (b ∷ bs) l e = lacks_no_cut c front back bs l.1 (ap tail_of e)

-- where the backs lack it, two cuts are one
pub last_cut : (c : ℕ) (xs ys xs' ys' : List ℕ) → Lacks c ys → Lacks c ys' → xs ++ c ∷ ys ≡ xs' ++ c ∷ ys' → (xs ≡ xs') × (ys ≡ ys')
last_cut c [] ys [] ys' l l' e = (refl, ap tail_of e)
last_cut c [] ys (x' ∷ xs') ys' l l' e = absurd (lacks_no_cut c xs' ys' ys l (ap tail_of e))
last_cut c (x ∷ xs) ys [] ys' l l' e = absurd (lacks_no_cut c xs ys ys' l' (sym (ap tail_of e)))
last_cut c (x ∷ xs) ys (x' ∷ xs') ys' l l' e =
    let rest = last_cut c xs ys xs' ys' l l' (ap tail_of e) in
    (cons_same x x' xs xs' (ap head_of e) rest.0, rest.1)
  where
    cons_same : (x x' : ℕ) (xs xs' : List ℕ) → x ≡ x' → xs ≡ xs' → x ∷ xs ≡ x' ∷ xs'
    cons_same x x' xs xs' a b = rw (a, b) refl

-- where the fronts lack it, two cuts are one
pub first_cut : (c : ℕ) (xs ys xs' ys' : List ℕ) → Lacks c xs → Lacks c xs' → xs ++ c ∷ ys ≡ xs' ++ c ∷ ys' → (xs ≡ xs') × (ys ≡ ys')
first_cut c [] ys [] ys' l l' e = (refl, ap tail_of e)
first_cut c [] ys (x' ∷ xs') ys' l l' e = absurd (l'.0 (sym (ap head_of e)))
first_cut c (x ∷ xs) ys [] ys' l l' e = absurd (l.0 (ap head_of e))
first_cut c (x ∷ xs) ys (x' ∷ xs') ys' l l' e =
    let rest = first_cut c xs ys xs' ys' l.1 l'.1 (ap tail_of e) in
    (cons_same x x' xs xs' (ap head_of e) rest.0, rest.1)
  where
    cons_same : (x x' : ℕ) (xs xs' : List ℕ) → x ≡ x' → xs ≡ xs' → x ∷ xs ≡ x' ∷ xs'
    cons_same x x' xs xs' a b = rw (a, b) refl

-- ---- what the tests of a name and of a port say

and_left : (a b : Bool) → (a && b) ≡ true → a ≡ true
and_left true b h = refl
and_left false b h = absurd (cc)

and_right : (a b : Bool) → (a && b) ≡ true → b ≡ true
and_right true b h = h
and_right false b h = absurd (cc)

-- a name has no `=`
no_name_byte : (b : ℕ) → is_name_byte b ≡ true → b ≡ 61 → ⊥
no_name_byte b h e = absurd (cc)

names_lack : (bs : List ℕ) → list_all is_name_byte bs ≡ true → Lacks 61 bs
names_lack [] h = tt
names_lack (b ∷ bs) h = (no_name_byte b (and_left (is_name_byte b) (list_all is_name_byte bs) h), names_lack bs (and_right (is_name_byte b) (list_all is_name_byte bs) h))

pub name_lacks : (name : List ℕ) → IsTrue (is_node_name name) → Lacks 61 name
name_lacks name h = names_lack name (and_right (nat_le 1 (length name) && nat_le (length name) 32) (list_all is_name_byte name) h)

-- digits have no `:`
no_digit : (b : ℕ) → digit_value b < 10 → b ≡ 58 → ⊥
no_digit b h e = above (subst (λ x. digit_value x < 10) e h)
  where
    above : 36 < 10 → ⊥
    above small = absurd (omega arith)

digits_lack : (bs : List ℕ) → AllDigits 10 bs → Lacks 58 bs
digits_lack [] h = tt
digits_lack (b ∷ bs) h = (no_digit b h.0, digits_lack bs h.1)

plus_lacks : (bs : List ℕ) → Lacks 58 (without_leading_plus bs) → Lacks 58 bs
plus_lacks [] h = tt
plus_lacks (b ∷ bs) h = plus_at (b == 43) refl h
  where
    differs : b ≡ 43 → b ≡ 58 → ⊥
    differs e f = cc

    plus_at : (t : Bool) → (b == 43) ≡ t → Lacks 58 (drop (cond t 1 0) (b ∷ bs)) → Lacks 58 (b ∷ bs)
    plus_at true e h = (differs (eqb-true b 43 e), h)
    plus_at false e h = h

pub port_lacks : (port : List ℕ) → IsNumberWithin 1 65535 port → Lacks 58 port
port_lacks port h = plus_lacks port (digits_lack (without_leading_plus port) h.numeral.1)

-- ---- the cuts that are made

lacks_by : (c : ℕ) (bs : List ℕ) → ((i : ℕ) → i < length bs → get_or bs i 0 ≢ c) → Lacks c bs
lacks_by c [] h = tt
lacks_by c (b ∷ bs) h = (h 0 (omega arith), lacks_by c bs (λ i below. h (suc i) (omega arith)))

-- no byte of such a text is the character's
pub none_lacks : (c : ℕ) (bs : List ℕ) → NoCharPasses (λ d. d == c) bs → c < 128 → Lacks c bs
none_lacks c bs h small = lacks_by c bs (λ i below. NoCharPasses-char c bs i h small below)

-- the parts round the first such character
pub parts_at_first : (c : ℕ) (bs front back : List ℕ) → SplitsAroundMatch (FindsChar c) bs front back → c < 128 → (bs ≡ front ++ c ∷ back) × Lacks c front
parts_at_first c bs front back (i, j, found, front_is, back_is, below, many, rest) small =
    (cut, subst (Lacks c) (sym front_is) (none_lacks c (take i bs) found.0 small))
  where
    cut : bs ≡ front ++ c ∷ back
    cut = sym (take-append-drop i bs) ∙ ap (λ l. take i bs ++ l) (drop_at_char c bs i j found.1 small) ∙ ap₂ (λ f b. f ++ c ∷ b) (sym front_is) (sym back_is)

-- the parts round the last such character
pub parts_at_last : (c : ℕ) (bs front back : List ℕ) → SplitsAroundMatch (RFindsChar c) bs front back → c < 128 → (bs ≡ front ++ c ∷ back) × Lacks c back
parts_at_last c bs front back (i, j, found, front_is, back_is, below, many, rest) small =
    (cut, subst (Lacks c) (sym back_is) (none_lacks c (drop j bs) found.0 small))
  where
    cut : bs ≡ front ++ c ∷ back
    cut = sym (take-append-drop i bs) ∙ ap (λ l. take i bs ++ l) (drop_at_char c bs i j found.1 small) ∙ ap₂ (λ f b. f ++ c ∷ b) (sym front_is) (sym back_is)

module _ (text front back : List ℕ) (parts : (text ≡ front ++ 58 ∷ back) × Lacks 58 back) where
  -- an address is cut so
  one_address : (host port : List ℕ) → IsAddress text host port → (front ≡ host) × (back ≡ port)
  one_address host port a = last_cut 58 front back host port parts.1 (port_lacks port a.port_is) (sym parts.0 ∙ a.cut)

  pub no_host : is_host front ≡ false → (host port : List ℕ) → IsAddress text host port → ⊥
  no_host none host port a =
      let is : is_host front ≡ true = subst (λ h. is_host h ≡ true) (sym (one_address host port a).0) a.host_is in
      cc

  pub no_port : (IsNumberWithin 1 65535 back → ⊥) → (host port : List ℕ) → IsAddress text host port → ⊥
  no_port other host port a = other (subst (IsNumberWithin 1 65535) (sym (one_address host port a).1) a.port_is)

  pub address_is : (n : ℕ) → IsTrue (is_host front) → IsNumberIn 1 65535 back (Some n) → IsAddressIn text (Some (front, n))
  address_is n some number = (back, record { cut = parts.0; host_is = some; port_is = number.1 }, number.0)

-- without such a byte there is none
pub no_address : (text : List ℕ) → Lacks 58 text → (host port : List ℕ) → IsAddress text host port → ⊥
no_address text lacks host port a = lacks_no_cut 58 host port text lacks a.cut

-- ---- a peer

pub no_peer : (text : List ℕ) → Lacks 61 text → IsPeerText text → ⊥
no_peer text lacks t = lacks_no_cut 61 t.name t.is.address text lacks t.is.cut

module _ (text front back : List ℕ) (parts : (text ≡ front ++ 61 ∷ back) × Lacks 61 front) where
  one_peer : (name host port : List ℕ) → (p : IsPeer text name host port) → (front ≡ name) × (back ≡ p.address)
  one_peer name host port p = first_cut 61 front back name p.address parts.1 (name_lacks name p.name_is) (sym parts.0 ∙ p.cut)

  pub no_name : is_node_name front ≡ false → IsPeerText text → ⊥
  no_name other t =
      let named : is_node_name front ≡ true = subst (λ n. is_node_name n ≡ true) (sym (one_peer t.name t.host t.port t.is).0) t.is.name_is in
      cc

  pub no_place : IsAddressIn back None → IsPeerText text → ⊥
  no_place other t = other t.host t.port (subst (λ a. IsAddress a t.host t.port) (sym (one_peer t.name t.host t.port t.is).1) t.is.address_is)

  pub peer_made : (name host : List ℕ) (n : ℕ) → name ≡ front → IsTrue (is_node_name front) → IsAddressIn back (Some (host, n)) → (port : List ℕ) × IsPeer text name host port × (n ≡ number_in port)
  peer_made name host n named is (port, a, number) =
      (port, record { address = back; cut = subst (λ f. text ≡ f ++ 61 ∷ back) (sym named) parts.0; name_is = subst (λ f. IsTrue (is_node_name f)) (sym named) is; address_is = a }, number)

-- a text that is taken for a name is one
ok_same : {A E : Type 0} (x y : A) → ◌≡◌ {A = Result A E} (Ok x) (Ok y) → x ≡ y
ok_same x y e = cc

pub not_named : {E : Type 0} (front : List ℕ) (o : Option (List ℕ)) → ◌≡◌ {A = Result (Option (List ℕ)) E} (Ok o) (Ok (guarded (is_node_name front) front)) → ((name : List ℕ) → o ≡ Some name → ⊥) → is_node_name front ≡ false
not_named front o is none = not_named_at (is_node_name front) refl
  where
    not_named_at : (b : Bool) → is_node_name front ≡ b → is_node_name front ≡ false
    not_named_at false e = e
    not_named_at true e = absurd (none front (subst (λ b. o ≡ guarded b front) e (ok_same o (guarded (is_node_name front) front) is)))

pub named_so : {E : Type 0} (front : List ℕ) (o : Option (List ℕ)) (name : List ℕ) → ◌≡◌ {A = Result (Option (List ℕ)) E} (Ok o) (Ok (guarded (is_node_name front) front)) → o ≡ Some name → (name ≡ front) × IsTrue (is_node_name front)
named_so front o name is some = named_at (is_node_name front) refl (sym some ∙ ok_same o (guarded (is_node_name front) front) is)
  where
    some_same : (x y : List ℕ) → Some x ≡ Some y → x ≡ y
    some_same x y e = cc

    none_some : Some name ≡ None → ⊥
    none_some e = cc

    named_at : (b : Bool) → is_node_name front ≡ b → Some name ≡ guarded b front → (name ≡ front) × IsTrue (is_node_name front)
    named_at true e h = (some_same name front h, e)
    named_at false e h = absurd (none_some h)

-- ---- all of them

-- peers that follow others, told with those
pub peers_more : (texts : List (List ℕ)) (text : List ℕ) (rest : List (List ℕ)) (peers : List PeerOption) (peer : PeerOption) (back : List PeerOption)
    → IsPeerIn text (Some peer) → ((more : List PeerOption) → ArePeers (text ∷ rest) more → ArePeers texts (peers ++ more)) → ArePeers rest back → ArePeers texts ((peers ++ peer ∷ []) ++ back)
peers_more texts text rest peers peer back is so_far are = subst (ArePeers texts) (sym (append_assoc_one peers peer back)) (so_far (peer ∷ back) (is, are))
  where
    append_assoc_one : {A : Type 0} (xs : List A) (x : A) (ys : List A) → (xs ++ x ∷ []) ++ ys ≡ xs ++ x ∷ ys
    append_assoc_one [] x ys = refl
    append_assoc_one (y ∷ xs) x ys = ap (λ l. y ∷ l) (append_assoc_one xs x ys)

none_dropped : {A : Type 0} (i : ℕ) → drop {A = A} i [] ≡ []
none_dropped zero = refl
none_dropped (suc i) = refl

none_left : {A : Type 0} (i : ℕ) (xs : List A) → length xs ≤ i → drop i xs ≡ []
none_left i [] h = none_dropped i
none_left zero (x ∷ xs) h = absurd (omega arith)
none_left (suc i) (x ∷ xs) h = none_left i xs (omega arith)

none_after : {A : Type 0} (xs : List A) → xs ++ [] ≡ xs
none_after [] = refl
none_after (x ∷ xs) = ap (λ l. x ∷ l) (none_after xs)

-- at the end none is left
pub peers_all : {A : Type 0} (texts : List A) (text_of : A → List ℕ) (i : ℕ) (peers : List PeerOption) → length texts ≤ i
    → ((more : List PeerOption) → ArePeers (map text_of (drop i texts)) more → ArePeers (map text_of texts) (peers ++ more)) → ArePeers (map text_of texts) peers
peers_all texts text_of i peers past h =
    subst (ArePeers (map text_of texts)) (none_after peers) (h [] (subst (λ l. ArePeers (map text_of l) []) (sym (none_left i texts past)) tt))

-- ---- refusals

pub weaker : (A B : Type 0) (fault : UsageFault) → (B → A) → IsFor Peer (A → ⊥) fault → IsFor Peer (B → ⊥) fault
weaker A B (Usage cause text) h (same, other) = (same, λ b. other (h b))
weaker A B Memory h is = tt

-- of all peers that are left the first is one
pub first_peer : (texts : List (Bor (List ℕ))) (i : ℕ) (d : Bor (List ℕ)) → i < length texts → AllArePeers (map (λ t. t.now) (drop i texts)) → IsPeerText (get_or texts i d).now
first_peer [] i d below all = absurd (omega arith)
first_peer (t ∷ texts) zero d below all = all.0
first_peer (t ∷ texts) (suc i) d below all = first_peer texts i d (omega arith) all
