-- What stands behind a token that is taken.
use Rattle.std.proofs.Common.{◌≡◌, ◌≤◌, ◌<◌, ℕ, suc, Bool, true, false, if◌then◌else◌, List, [], ◌∷◌, length, slice_index_or, nat_lt, nat_le, Option, Some, None, Result, Ok, Err, refl, ap, subst, sym, ◌||◌, IfOk, ◌∙◌, arith}
use Rattle.std.proofs.lemmas.Bool.Decides.{nat_tests}
use Rattle.std.proofs.lemmas.Slice.Eq.{bytes_eq-Decides}
use Rattle.hmac_keys.specs.Hmac.{hmac_sha256}
use Rattle.tokens.specs.Answers.{◌>>=◌, Gives, present}
use Rattle.tokens.specs.Certified.{IsCertified}
use Rattle.tokens.specs.Claimed.{Granted, is_hs256, claims_in}
use Rattle.tokens.specs.Judging.{signs, is_signed, in_time, judged, judged_code, judged_head, judged_parts, named, value_in}
use Rattle.tokens.specs.Parts.{bytes_in, parts_in, signed_text}
use Rattle.tokens.specs.declared.fault.TokenFault.{TokenFault}
use Rattle.tokens.specs.declared.fault.TokenFault.TheVariants.{OtherAlgorithm, BadSignature, TooEarly, Expired}
use Rattle.tokens.proofs.Cutting.{parts_back}

-- what an answer that is Ok was made of
bind_ok : {A B : Type 0} (r : Result A TokenFault) (f : A → Result B TokenFault) (y : B) → (r >>= f) ≡ Ok y
    → (x : A) × (r ≡ Ok x) × (f x ≡ Ok y)
bind_ok (Ok x) f y is = (x, refl, is)
bind_ok (Err e) f y is = absurd (cc)

if_ok : {A : Type 0} (b : Bool) (r : Result A TokenFault) (e : TokenFault) (y : A) → (if b then r else Err e) ≡ Ok y
    → (b ≡ true) × (r ≡ Ok y)
if_ok true r e y is = (refl, is)
if_ok false r e y is = absurd (cc)

unless_ok : {A : Type 0} (b : Bool) (r : Result A TokenFault) (e : TokenFault) (y : A) → (if b then Err e else r) ≡ Ok y
    → (b ≡ false) × (r ≡ Ok y)
unless_ok false r e y is = (refl, is)
unless_ok true r e y is = absurd (cc)

present_ok : {A : Type 0} (o : Option A) (x : A) → present o ≡ Ok x → o ≡ Some x
present_ok None x is = absurd (cc)
present_ok (Some y) x is = cc

early_not : (n g : ℕ) → nat_lt n g ≡ false → g ≤ n
early_not n g is = grind (arith, nat_tests)

late_not : (g n : ℕ) → nat_le g n ≡ false → n < g
late_not g n is = grind (arith, nat_tests)

-- it is the time for it
timely : (now : ℕ) (g h : Granted) → in_time now g ≡ Ok h → (g ≡ h) × (g.begins ≤ now) × (now < g.ends)
timely now g h is =
    let begun = unless_ok (nat_lt now g.begins) _ TooEarly h is in
    let lasts = unless_ok (nat_le g.ends now) _ Expired h begun.1 in
    (cc, early_not now g.begins begun.0, late_not g.ends now lasts.0)

-- a key that signs it, of those
pub record Signer (keys : List (List ℕ)) (head claims signature : List ℕ) : Type 0 where
  pub key : List ℕ
  pub place : ℕ
  pub low : place < length keys
  pub is_there : slice_index_or keys place key ≡ key
  pub is_code : hmac_sha256 key (signed_text head claims) ≡ signature

later : (k : List ℕ) (keys : List (List ℕ)) (head claims signature : List ℕ) → Signer keys head claims signature
    → Signer (k ∷ keys) head claims signature
later k keys head claims signature found = record {
  key = found.key;
  place = suc found.place;
  low = omega (arith, found.low);
  is_there = found.is_there;
  is_code = found.is_code;
}

by_test : (test : Bool) (k : List ℕ) (keys : List (List ℕ)) (head claims signature : List ℕ)
    → signs head claims signature k ≡ test → (is_signed keys head claims signature ≡ true → Signer keys head claims signature)
    → (test || is_signed keys head claims signature) ≡ true → Signer (k ∷ keys) head claims signature
by_test true k keys head claims signature e rest is = record {
  key = k;
  place = 0;
  low = omega arith;
  is_there = refl;
  is_code = (bytes_eq-Decides _ _).0 e;
}
by_test false k keys head claims signature e rest is = later k keys head claims signature (rest is)

signer : (keys : List (List ℕ)) (head claims signature : List ℕ) → is_signed keys head claims signature ≡ true
    → Signer keys head claims signature
signer [] head claims signature is = absurd (cc)
signer (k ∷ keys) head claims signature is =
    by_test (signs head claims signature k) k keys head claims signature refl (signer keys head claims signature) is

pub certified : (keys : List (List ℕ)) (now : ℕ) (text : List ℕ) (g : Granted) → judged keys now text ≡ Ok g
    → IsCertified keys now text g
unfolding judged
certified keys now text g is =
    let parts = bind_ok (present (parts_in text)) (judged_parts keys now) g is in
    let p = parts.0 in
    let looked = bind_ok (judged_head p.head) (λ _. bytes_in p.signature >>= judged_code keys now p) g parts.2 in
    let header = bind_ok (value_in p.head) named looked.0 looked.1 in
    let names = if_ok (is_hs256 header.0) (Ok tt) OtherAlgorithm looked.0 header.2 in
    let code = bind_ok (bytes_in p.signature) (judged_code keys now p) g looked.2 in
    let signed = if_ok (is_signed keys p.head p.claims code.0) _ BadSignature g code.2 in
    let found = signer keys p.head p.claims code.0 signed.0 in
    let claims = bind_ok (value_in p.claims) _ g signed.1 in
    let granted = bind_ok (claims_in claims.0) (in_time now) g claims.2 in
    let time = timely now granted.0 g granted.2 in
    record {
      head = p.head;
      claims = p.claims;
      signature = p.signature;
      text_is = parts_back text p (present_ok (parts_in text) p parts.1);
      header = header.0;
      head_is = header.1;
      is_named = names.0;
      key = found.key;
      is_known = (found.place, found.low, found.is_there);
      is_signed = code.1 ∙ ap (λ c. Ok c) (sym found.is_code);
      value = claims.0;
      claims_are = claims.1;
      grants = granted.1 ∙ ap (λ x. Ok x) time.0;
      begun = let P : Granted → Type 0 = λ x. x.begins ≤ now in subst P time.0 time.1;
      lasts = let P : Granted → Type 0 = λ x. now < x.ends in subst P time.0 time.2;
    }

-- of what was answered
pub certified_by : {X : Type 0} (view : X → Granted) (r : Result X TokenFault) (keys : List (List ℕ)) (now : ℕ) (text : List ℕ)
    → Gives view r (judged keys now text) → IfOk r (λ x. IsCertified keys now text (view x))
certified_by view (Ok x) keys now text is = certified keys now text (view x) is
certified_by view (Err e) keys now text is = tt
