-- Known bytes over several calls.
use Rattle.std.proofs.Common.{◌≡◌, ◌+◌, ◌-◌, ◌≤◌, ◌<◌, ◌==◌, not, true, ℕ, List, [], ◌∷◌, ◌++◌, length, take, drop, Some, None, subst, ◌∙◌, arith}
use Rattle.std.proofs.Math.Seq.{take-add}
use Rattle.std.proofs.KnownBytes.{Consumes-trans, Consumes-kept, Appends-trans}
use Rattle.std.proofs.lemmas.List.Folds.{list_all-append}
use Rattle.std.proofs.lemmas.Bool.Decides.{nat_tests}
use Rattle.std.proofs.lemmas.Grind.{common_steps}
use Rattle.std.specs.Io.KnownBytes.{Keeps, Consumes, Appends}
use Rattle.link_lines.specs.declared.lines.TheConstants.{MAX_LINE_BYTES}
use Rattle.node_links.specs.Bytes.{Known, FindsEnd, lacks_feed, TakesWhole, BreaksLine, CutsLine}
use Rattle.node_links.specs.Streams.{ReadsLittle}

-- a write of some bytes after those that went out before
pub appends-more : (a b c : Known) (i n : ℕ) (bytes : List ℕ) → i ≤ length bytes → Appends a b (take i bytes) → Appends b c (take n (take (length bytes - i) (drop i bytes))) → Appends a c (take (i + n) bytes)
appends-more a b c i n bytes h p q =
    let rest : take (length bytes - i) (drop i bytes) ≡ drop i bytes = grind (arith, common_steps) in
    rw take-add (Appends-trans a b c (take i bytes) (take n (drop i bytes)) p (rw rest at q))

pub appends-keeps : (a b c : Known) (bs : List ℕ) → Appends a b bs → Keeps b c → Appends a c bs
appends-keeps None b c bs h k = tt
appends-keeps (Some xs) None c bs h k = absurd h
appends-keeps (Some xs) (Some ys) None bs h k = absurd k
appends-keeps (Some xs) (Some ys) (Some zs) bs h k = k ∙ h

none_more : (xs : List ℕ) → xs ++ [] ≡ xs
none_more xs = grind (arith, common_steps)

-- the end within a line
pub cut_here : (a b c : Known) (text : List ℕ) → lacks_feed text ≡ true → length text ≤ MAX_LINE_BYTES → 0 < length text → Consumes a b text → FindsEnd b c → CutsLine a c
cut_here a b c text plain short some h k = record {
  part = text;
  taken = subst (Consumes a c) (none_more text) (Consumes-trans a b c text [] h k.0);
  plain = plain;
  some = some;
  short = short;
  ends = k.1;
}

-- the end where no byte was read yet
pub end_here : (a b c : Known) (text : List ℕ) → text ≡ [] → Consumes a b text → FindsEnd b c → FindsEnd a c
end_here a b c text none h k = (rw none at (subst (Consumes a c) (none_more text) (Consumes-trans a b c text [] h k.0)), k.1)

-- a line feed ends the line
pub whole_here : (a b c : Known) (text : List ℕ) → lacks_feed text ≡ true → length text ≤ MAX_LINE_BYTES → Consumes a b text → Consumes b c (10 ∷ []) → TakesWhole a c text
whole_here a b c text plain short h k = record { taken = Consumes-trans a b c text (10 ∷ []) h k; plain = plain; short = short }

-- a failed read
pub stopped_here : (a b c : Known) (text : List ℕ) → lacks_feed text ≡ true → length text ≤ MAX_LINE_BYTES → Consumes a b text → Keeps b c → BreaksLine a c
stopped_here a b c text plain short h k = record { part = text; taken = Consumes-kept a b c text h k; plain = plain; short = omega arith }

-- a byte that found no room
pub unkept_here : (a b c : Known) (text : List ℕ) (x : ℕ) → lacks_feed text ≡ true → length text ≤ MAX_LINE_BYTES → Consumes a b text → Consumes b c (x ∷ []) → (x ≡ 10 → ⊥) → BreaksLine a c
unkept_here a b c text x plain short h k other = record {
  part = text ++ x ∷ [];
  taken = Consumes-trans a b c text (x ∷ []) h k;
  plain = list_all-append (λ b. not (b == 10)) text (x ∷ []) ∙ grind (arith, nat_tests);
  short = within;
}
  where
    within : length (text ++ x ∷ []) ≤ MAX_LINE_BYTES + 1
    within = grind (arith, common_steps)

-- a whole line is at most one byte more than the limit
pub little_here : (a b : Known) (text : List ℕ) → TakesWhole a b text → ReadsLittle a b
little_here a b text whole = record { part = text ++ 10 ∷ []; taken = whole.taken; short = within }
  where
    within : length (text ++ 10 ∷ []) ≤ MAX_LINE_BYTES + 1
    within = let short = whole.short in grind (arith, common_steps)
