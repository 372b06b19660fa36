-- Texts and the addresses that they write, one after another.
use Rattle.std.proofs.Common.{◌≡◌, ◌<◌, ◌≤◌, ◌++◌, ℕ, zero, suc, Bor, List, map, [], ◌∷◌, length, drop, get_or, refl, sym, ap, subst, arith}
use Rattle.std.specs.declared.net.ip_addr.IpAddr.{IpAddr}
use Rattle.presence_options.specs.Given.{AreAddressTexts, AreFewAddresses, HasCause, IsAddressText, IsFor, WriteAddresses, WritesAddress}
use Rattle.presence_options.specs.declared.fault.UsageCause.{UsageCause}
use Rattle.presence_options.specs.declared.fault.UsageFault.{UsageFault}
use Rattle.presence_options.specs.declared.fault.UsageFault.TheVariants.{Usage, Memory}

-- an address that follows others, told with those
pub addresses_more : (texts : List (List ℕ)) (text : List ℕ) (rest : List (List ℕ)) (all : List IpAddr) (one : IpAddr) (back : List IpAddr)
    → WritesAddress text one → ((more : List IpAddr) → WriteAddresses (text ∷ rest) more → WriteAddresses texts (all ++ more)) → WriteAddresses rest back → WriteAddresses texts ((all ++ one ∷ []) ++ back)
addresses_more texts text rest all one back is so_far are = subst (WriteAddresses texts) (sym (append_one all one back)) (so_far (one ∷ back) (is, are))
  where
    append_one : {A : Type 0} (xs : List A) (x : A) (ys : List A) → (xs ++ x ∷ []) ++ ys ≡ xs ++ x ∷ ys
    append_one [] x ys = refl
    append_one (y ∷ xs) x ys = ap (λ l. y ∷ l) (append_one xs x ys)

none_dropped : {A : Type 0} (i : ℕ) → drop {A = A} i [] ≡ []
none_dropped zero = refl
none_dropped (suc i) = refl

none_left : {A : Type 0} (i : ℕ) (xs : List A) → length xs ≤ i → drop i xs ≡ []
none_left i [] h = none_dropped i
none_left zero (x ∷ xs) h = absurd (omega arith)
none_left (suc i) (x ∷ xs) h = none_left i xs (omega arith)

none_after : {A : Type 0} (xs : List A) → xs ++ [] ≡ xs
none_after [] = refl
none_after (x ∷ xs) = ap (λ l. x ∷ l) (none_after xs)

-- at the end none is left
pub addresses_all : {A : Type 0} (texts : List A) (text_of : A → List ℕ) (i : ℕ) (all : List IpAddr) → length texts ≤ i
    → ((more : List IpAddr) → WriteAddresses (map text_of (drop i texts)) more → WriteAddresses (map text_of texts) (all ++ more)) → WriteAddresses (map text_of texts) all
addresses_all texts text_of i all past h =
    subst (WriteAddresses (map text_of texts)) (none_after all) (h [] (subst (λ l. WriteAddresses (map text_of l) []) (sym (none_left i texts past)) tt))

same_length : {A B : Type 0} (f : A → B) (xs : List A) → length (map f xs) ≡ length xs
same_length f [] = refl
same_length f (x ∷ xs) = ap suc (same_length f xs)

pub few_addresses : {A : Type 0} (texts : List A) (text_of : A → List ℕ) (i most : ℕ) → length texts ≤ i → length texts ≤ most
    → (AreAddressTexts (map text_of (drop i texts)) → AreAddressTexts (map text_of texts)) → AreFewAddresses most (map text_of texts)
few_addresses texts text_of i most past few h = record {
  each = h (subst (λ l. AreAddressTexts (map text_of l)) (sym (none_left i texts past)) tt);
  few = subst (λ n. n ≤ most) (sym (same_length text_of texts)) few;
}

-- ---- refusals

pub many_addresses : {A : Type 0} (texts : List A) (text_of : A → List ℕ) (most : ℕ) (cause : UsageCause) (fault : UsageFault) → most < length texts
    → HasCause cause fault → IsFor cause (AreFewAddresses most (map text_of texts) → ⊥) fault
many_addresses texts text_of most cause (Usage c text) many has = (
  has,
  λ few.
      let short : length texts ≤ most = subst (λ n. n ≤ most) (same_length text_of texts) few.few in absurd (omega (arith, many, short)),
)
many_addresses texts text_of most cause Memory many has = tt

pub weaker_for : (cause : UsageCause) (A B : Type 0) (fault : UsageFault) → (B → A) → IsFor cause (A → ⊥) fault → IsFor cause (B → ⊥) fault
weaker_for cause A B (Usage c text) h (same, other) = (same, λ b. other (h b))
weaker_for cause A B Memory h is = tt

-- of all texts that are left the first writes an address
pub first_address : (texts : List (Bor (List ℕ))) (i : ℕ) (d : Bor (List ℕ)) → i < length texts → AreAddressTexts (map (λ t. t.now) (drop i texts)) → IsAddressText (get_or texts i d).now
first_address [] i d below all = absurd (omega arith)
first_address (t ∷ texts) zero d below all = all.0
first_address (t ∷ texts) (suc i) d below all = first_address texts i d (omega arith) all
