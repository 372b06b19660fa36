-- Known bytes over several calls.
use Rattle.std.proofs.Common.{◌≡◌, ◌+◌, ◌-◌, ◌≤◌, subst, ℕ, List, [], ◌++◌, length, take, drop, Option, Some, None, refl, sym, ap, ◌∙◌, append_assoc, rules, arith}
use Rattle.std.proofs.Math.Seq.{take-add}
use Rattle.std.proofs.lemmas.Grind.{common_steps}
use Rattle.std.specs.Io.KnownBytes.{Keeps, Consumes, IsAtEnd, Appends}

pub keeps-itself : (o : Option (List ℕ)) → Keeps o o
keeps-itself None = tt
keeps-itself (Some xs) = refl

pub keeps-then : (a b c : Option (List ℕ)) → Keeps a b → Keeps b c → Keeps a c
keeps-then None b c h k = tt
keeps-then (Some xs) None c h k = absurd h
keeps-then (Some xs) (Some ys) None h k = absurd k
keeps-then (Some xs) (Some ys) (Some zs) h k = k ∙ h

pub keeps-consumes : (a b c : Option (List ℕ)) (bs : List ℕ) → Keeps a b → Consumes b c bs → Consumes a c bs
keeps-consumes None b c bs h k = tt
keeps-consumes (Some xs) None c bs h k = absurd h
keeps-consumes (Some xs) (Some ys) None bs h k = absurd k
keeps-consumes (Some xs) (Some ys) (Some zs) bs h k = sym h ∙ k

-- nothing was consumed, and nothing is left
pub keeps-at_end : (a b c : Option (List ℕ)) → Keeps a b → Consumes b c [] → IsAtEnd c → IsAtEnd a
keeps-at_end None b c h k e = tt
keeps-at_end (Some xs) None c h k e = absurd h
keeps-at_end (Some xs) (Some ys) None h k e = absurd k
keeps-at_end (Some xs) (Some ys) (Some zs) h k e = sym h ∙ k ∙ e

pub appends-itself : (o : Option (List ℕ)) → Appends o o []
appends-itself None = tt
appends-itself (Some xs) = search rules

pub appends-then : (a b c : Option (List ℕ)) (bs cs : List ℕ) → Appends a b bs → Appends b c cs → Appends a c (bs ++ cs)
appends-then None b c bs cs h k = tt
appends-then (Some xs) None c bs cs h k = absurd h
appends-then (Some xs) (Some ys) None bs cs h k = absurd k
appends-then (Some xs) (Some ys) (Some zs) bs cs h k = k ∙ ap (λ v. v ++ cs) h ∙ append_assoc xs bs cs

pub keeps-appends : (a b : Option (List ℕ)) → Keeps a b → Appends a b []
keeps-appends None b h = tt
keeps-appends (Some xs) None h = h
keeps-appends (Some xs) (Some ys) h = h ∙ search rules

pub consumes-itself : (o : Option (List ℕ)) → Consumes o o []
consumes-itself None = tt
consumes-itself (Some xs) = refl

pub consumes-then : (a b c : Option (List ℕ)) (bs cs : List ℕ) → Consumes a b bs → Consumes b c cs → Consumes a c (bs ++ cs)
consumes-then None b c bs cs h k = tt
consumes-then (Some xs) None c bs cs h k = absurd h
consumes-then (Some xs) (Some ys) None bs cs h k = absurd k
consumes-then (Some xs) (Some ys) (Some zs) bs cs h k = h ∙ ap (λ v. bs ++ v) k ∙ sym (append_assoc bs cs zs)

pub consumes-keeps : (a b c : Option (List ℕ)) (bs : List ℕ) → Consumes a b bs → Keeps b c → Consumes a c bs
consumes-keeps None b c bs h k = tt
consumes-keeps (Some xs) None c bs h k = absurd h
consumes-keeps (Some xs) (Some ys) None bs h k = absurd k
consumes-keeps (Some xs) (Some ys) (Some zs) bs h k = h ∙ ap (λ v. bs ++ v) (sym k)

-- a write of some bytes after those that went out before
pub appends-more : (a b c : Option (List ℕ)) (i n : ℕ) (bytes : List ℕ) → i ≤ length bytes → Appends a b (take i bytes) → Appends b c (take n (take (length bytes - i) (drop i bytes))) → Appends a c (take (i + n) bytes)
appends-more a b c i n bytes h p q =
    let rest : take (length bytes - i) (drop i bytes) ≡ drop i bytes = grind (arith, common_steps) in
    rw take-add (appends-then a b c (take i bytes) (take n (drop i bytes)) p (rw rest at q))

pub appends-keeps : (a b c : Option (List ℕ)) (bs : List ℕ) → Appends a b bs → Keeps b c → Appends a c bs
appends-keeps None b c bs h k = tt
appends-keeps (Some xs) None c bs h k = absurd h
appends-keeps (Some xs) (Some ys) None bs h k = absurd k
appends-keeps (Some xs) (Some ys) (Some zs) bs h k = k ∙ h

pub front_itself : (a : Option (List ℕ)) (bytes : List ℕ) → Appends a a (take 0 bytes)
front_itself a bytes = appends-itself a

-- all of the bytes went out
pub appends-whole : (a b : Option (List ℕ)) (n : ℕ) (bytes : List ℕ) → length bytes ≤ n → Appends a b (take n bytes) → Appends a b bytes
appends-whole a b n bytes h p = subst (Appends a b) (whole n bytes h) p
  where
    whole : (n : ℕ) (xs : List ℕ) → length xs ≤ n → take n xs ≡ xs
    whole n xs h = grind (arith, common_steps)
