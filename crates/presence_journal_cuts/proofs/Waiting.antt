-- What waits for subscribers behind a checkpoint, by whom it counts as current.
use Rattle.std.proofs.Common.{◌≡◌, ℕ, Bool, true, false, List, [], ◌∷◌, Some, refl, sym, ◌∙◌, ap}
use Rattle.presence_journal.specs.declared.entry.Start.{Start}
use Rattle.presence_journal.specs.History.{History, Begin}
use Rattle.presence_journal.specs.Queue.{Waiting, Behind, Queued, topic_of, is_current, first_waiting, queue, left_waiting, CurrentStay, AllAreBehind}
use Rattle.presence_journal.proofs.Topics.{queue-begin}
use Rattle.presence_journal_cuts.specs.Checkpoints.{IsCheckpoint, CountsCurrent}

-- nobody
pub none_current : (s : Start) → s.current ≡ [] → AllAreBehind (Begin s)
none_current s none n t e = queue-begin s n ∙ ap (λ (ns : List ℕ). first_waiting (is_current ns n)) none

-- each for whom nothing waits
pub current_stay : (h : History) (s : Start) → IsCheckpoint h s → CountsCurrent h s → CurrentStay h (Begin s)
current_stay h s c counts n t e = go (queue h n) refl
  where
    behind : (queue h n ≡ Queued [] → ⊥) → (b : Bool) → is_current s.current n ≡ b → queue (Begin s) n ≡ Behind
    behind other false f = queue-begin s n ∙ ap first_waiting f
    behind other true f = absurd (other (c.stands.current n f))

    go : (w : Waiting) → queue h n ≡ w → queue (Begin s) n ≡ left_waiting w
    go Behind is = behind (λ q. let bad : Behind ≡ Queued [] = sym is ∙ q in cc) (is_current s.current n) refl
    go (Queued []) is = queue-begin s n ∙ ap first_waiting (counts n t e is)
    go (Queued (i ∷ is)) q = behind (λ p. let bad : Queued (i ∷ is) ≡ Queued [] = sym q ∙ p in cc) (is_current s.current n) refl
