use Rattle.std.proofs.Common.{◌≡◌, ℕ, ◌+◌, ◌-◌, ◌<◌, ◌≤◌, true, false, ◌||◌, ◌==◌, List, length, get_or, take, drop, Option, Some, None, option_map, is_some, refl, sym, ◌∙◌, arith, length-drop, get_or-drop}
use Rattle.std.proofs.lemmas.List.{drop_more, take_more}
use Rattle.std.proofs.lemmas.Bool.Decides.{nat_tests}
use Rattle.serve_handshakes.specs.Shown.{behind, piece_behind, piece_from}
use Rattle.serve_handshakes.proofs.shown.piece_behind.Goals as goal
use Rattle.serve_handshakes.proofs.shown.piece_behind.Goals.{then-text-i+else-is_some, then-text-i-via-then-text-i, then-text-i-via-else-text-i+then-text-i-2, else-text-i+else-text-i-2}

-- nothing was found
none_found : {A B : Type 0} (f : A → B) (o : Option A) → is_some o ≡ false → option_map f o ≡ None
none_found f None is = refl
none_found f (Some x) is = absurd (cc)

-- at one of the bytes a new piece begins, where nothing was found in the one before it
at_byte : (one other : ℕ) (front piece bs : List ℕ) (i : ℕ) → i < length bs → (get_or bs i 0 == one || get_or bs i 0 == other) ≡ true
    → behind front piece ≡ None
    → piece_from one other front piece (drop i bs) ≡ piece_from one other front (take (i + 1 - (i + 1)) (drop (i + 1) bs)) (drop (i + 1) bs)
at_byte one other front piece bs i inside test missed =
    let none : i + 1 - (i + 1) ≡ 0 = omega arith in rw (drop_more bs i 0 inside, test, missed, none)

-- any other byte extends the piece
in_piece : (one other : ℕ) (front bs : List ℕ) (start i : ℕ) → start ≤ i → i < length bs → (get_or bs i 0 == one || get_or bs i 0 == other) ≡ false
    → piece_from one other front (take (i - start) (drop start bs)) (drop i bs) ≡ piece_from one other front (take (i + 1 - start) (drop start bs)) (drop (i + 1) bs)
in_piece one other front bs start i ordered inside test =
    let more : i + 1 - start ≡ i - start + 1 = omega arith in
    let back : start + (i - start) ≡ i = omega arith in
    rw (drop_more bs i 0 inside, test, more, take_more (drop start bs) (i - start) 0 (omega (arith, length-drop start bs)), get_or-drop, back)

pub loop-i-init : goal.loop-i-init
unfolding piece_behind
loop-i-init c = (omega arith, refl)

pub loop-i-preserved : goal.loop-i-preserved
loop-i-preserved c =
    elim c.if-text-i.branch [
      | then-text-i+else-is_some w ↦
          let hit : (get_or c.args.text.now c.loop-i.i 0 == c.args.one || get_or c.args.text.now c.loop-i.i 0 == c.args.other) ≡ true =
          elim w.then-text-i.branch [
            | then-text-i-via-then-text-i w' ↦ grind (arith, nat_tests)
            | then-text-i-via-else-text-i+then-text-i-2 w' ↦ grind (arith, nat_tests)
          ] in
          let missed = sym w.behind-found.ensures ∙ none_found _ w.behind-found.result (sym w.is_some.ensures ∙ w.if-is_some.false) in
          rw w.start-is (omega arith, c.loop-i.invariant.1 ∙ at_byte _ _ _ _ c.args.text.now c.loop-i.i (omega arith) hit missed)
      | else-text-i+else-text-i-2 w ↦
          rw w.start-is (omega arith, c.loop-i.invariant.1 ∙ in_piece _ _ _ c.args.text.now c.loop-i.start c.loop-i.i c.loop-i.invariant.0 (omega arith) (grind (arith, nat_tests)))
    ]
