-- A shard's history stays one of the shard, whatever step or checkpoint is made.
use Rattle.std.proofs.Common.{◌≡◌, ℕ, zero, suc, inl, inr, List, Option, refl, sym, subst}
use Rattle.std.specs.Prelude.{Result, Ok, Err, OnOk, OnErr}
use Rattle.presence_journal.specs.declared.step.Step.{Step}
use Rattle.presence_journal.specs.History.{History}
use Rattle.tracker_shard.specs.declared.fault.ShardFault.{ShardFault}
use Rattle.tracker_shard.specs.declared.fault.ShardFault.TheVariants.{AlreadyTracked, NoPresence, ClockFull, JournalFull, NoSub, BadIncarnation, OutOfMemory}
use Rattle.tracker_shard.specs.Steps.{Made, Stepped}
use Rattle.tracker_index.specs.Starting.{IsBegunAgain}
use Rattle.shard_pool.specs.Lines.{Descends, IsOfLane}

pub line_begins : (Begins : History → Type 0) (h new : History) → Begins h → new ≡ h → IsOfLane Begins new
line_begins Begins h new is e = ∣ record { turns = zero; comes = subst Begins (sym e) is } ∣₁

pub line_same : (Begins : History → Type 0) (old new : History) → new ≡ old → IsOfLane Begins old → IsOfLane Begins new
line_same Begins old new e d = subst (λ (h : History). IsOfLane Begins h) (sym e) d

next_made : (Begins : History → Type 0) (old new : History) (seat : Option ℕ) (s : Step) → Made old new seat s → Descends Begins old → Descends Begins new
next_made Begins old new seat s m d = record {
  turns = suc d.turns;
  comes = record { old = old; is = d.comes; follows = inl (record { step = s; seat = seat; is = m.journal }) };
}

made_line : (Begins : History → Type 0) (old new : History) (seat : Option ℕ) (s : Step) → Made old new seat s → IsOfLane Begins old → IsOfLane Begins new
made_line Begins old new seat s m d = ∥∥₁_rec squash₁ (λ x. ∣ next_made Begins old new seat s m x ∣₁) d

next_again : (Begins : History → Type 0) (old new : History) → IsBegunAgain old new → Descends Begins old → Descends Begins new
next_again Begins old new b d = record { turns = suc d.turns; comes = record { old = old; is = d.comes; follows = inr b } }

again_line : (Begins : History → Type 0) (old new : History) → IsBegunAgain old new → IsOfLane Begins old → IsOfLane Begins new
again_line Begins old new b d = ∥∥₁_rec squash₁ (λ x. ∣ next_again Begins old new b x ∣₁) d

pub line_stays : {A : Type 0} (Begins : History → Type 0) (old new : History) (seat : Option ℕ) (s : Step) (r : Result A ShardFault)
    → Stepped old new seat s r → IsOfLane Begins old → IsOfLane Begins new
line_stays Begins old new seat s (Ok x) m d = made_line Begins old new seat s m d
line_stays Begins old new seat s (Err AlreadyTracked) m d = made_line Begins old new seat s m d
line_stays Begins old new seat s (Err NoPresence) m d = made_line Begins old new seat s m d
line_stays Begins old new seat s (Err ClockFull) m d = line_same Begins old new m d
line_stays Begins old new seat s (Err JournalFull) m d = line_same Begins old new m d
line_stays Begins old new seat s (Err NoSub) m d = line_same Begins old new m d
line_stays Begins old new seat s (Err BadIncarnation) m d = line_same Begins old new m d
line_stays Begins old new seat s (Err OutOfMemory) m d = line_same Begins old new m d

pub line_after : {A : Type 0} (Begins : History → Type 0) (old new : History) (r : Result A ShardFault)
    → OnOk r (IsBegunAgain old new) → OnErr r (new ≡ old) → IsOfLane Begins old → IsOfLane Begins new
line_after Begins old new (Ok x) again same d = again_line Begins old new again d
line_after Begins old new (Err e) again same d = line_same Begins old new same d
