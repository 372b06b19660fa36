use Rattle.std.proofs.Common.{◌≡◌, ℕ, ◌+◌, ◌-◌, ◌<◌, ◌≤◌, true, false, ◌||◌, ◌==◌, List, length, get_or, take, drop, refl, ◌∙◌, arith, length-drop, get_or-drop, bytes_eq}
use Rattle.std.proofs.lemmas.List.{drop_more, take_more}
use Rattle.std.proofs.lemmas.Bool.Decides.{nat_tests}
use Rattle.serve_handshakes.specs.Protocols.{has_word, has_word_from}
use Rattle.serve_handshakes.proofs.protocols.has_word.Goals as goal
use Rattle.serve_handshakes.proofs.protocols.has_word.Goals.{then-value-i-eq32+else-eq, else-value-i-eq32+else-value-i-eq44}

-- at a separator a new piece begins
at_separator : (wanted piece bs : List ℕ) (i : ℕ) → i < length bs → (get_or bs i 0 == 32 || get_or bs i 0 == 44) ≡ true → bytes_eq piece wanted ≡ false
    → has_word_from wanted piece (drop i bs) ≡ has_word_from wanted (take (i + 1 - (i + 1)) (drop (i + 1) bs)) (drop (i + 1) bs)
at_separator wanted piece bs i inside test other =
    let none : i + 1 - (i + 1) ≡ 0 = omega arith in rw (drop_more bs i 0 inside, test, other, none)

-- any other byte extends the piece
in_piece : (wanted bs : List ℕ) (start i : ℕ) → start ≤ i → i < length bs → (get_or bs i 0 == 32 || get_or bs i 0 == 44) ≡ false
    → has_word_from wanted (take (i - start) (drop start bs)) (drop i bs) ≡ has_word_from wanted (take (i + 1 - start) (drop start bs)) (drop (i + 1) bs)
in_piece wanted bs start i ordered inside test =
    let more : i + 1 - start ≡ i - start + 1 = omega arith in
    let back : start + (i - start) ≡ i = omega arith in
    rw (drop_more bs i 0 inside, test, more, take_more (drop start bs) (i - start) 0 (omega (arith, length-drop start bs)), get_or-drop, back)

pub loop-i-init : goal.loop-i-init
unfolding has_word
loop-i-init c = (omega arith, refl)

pub loop-i-preserved : goal.loop-i-preserved
loop-i-preserved c =
    elim c.if-value-i-eq32.branch [
      | then-value-i-eq32+else-eq w ↦
          rw w.start-is (omega arith, c.loop-i.invariant.1 ∙ at_separator _ _ c.args.value.now c.loop-i.i (omega arith) (grind (arith, nat_tests)) (grind arith))
      | else-value-i-eq32+else-value-i-eq44 w ↦
          rw w.start-is (omega arith, c.loop-i.invariant.1 ∙ in_piece _ c.args.value.now c.loop-i.start c.loop-i.i c.loop-i.invariant.0 (omega arith) (grind (arith, nat_tests)))
    ]
