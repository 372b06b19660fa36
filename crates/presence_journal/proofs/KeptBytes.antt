-- The bytes that are kept, entry by entry.
use Rattle.std.proofs.Common.{◌≡◌, ◌∙◌, ◌+◌, ℕ, List, [], ◌∷◌, ◌++◌, arith, refl, sym, ap}
use Rattle.presence_journal.specs.EntryBytes.{entry_bytes}
use Rattle.presence_journal.specs.Steps.{Entry, Start}
use Rattle.presence_journal.specs.History.{History, Begin, Then, onto}
use Rattle.presence_journal.specs.KeptBytes.{entries_bytes, kept_bytes}

pub pushed_bytes : (es : List Entry) (e : Entry) → entries_bytes (es ++ e ∷ []) ≡ entries_bytes es + entry_bytes e.step e.outcome
pushed_bytes [] e = omega arith
pushed_bytes (x ∷ xs) e = omega (arith, pushed_bytes xs e)

pub bytes_onto : (h : History) (es : List Entry) → kept_bytes (onto h es) ≡ kept_bytes h + entries_bytes es
bytes_onto h [] = omega arith
bytes_onto h (e ∷ es) = omega (arith, bytes_onto (Then h e) es)

pub bytes_here : (s : Start) (es : List Entry) (h : History) → onto (Begin s) es ≡ h → entries_bytes es ≡ kept_bytes h
bytes_here s es h v = omega (arith, bytes_onto (Begin s) es, ap kept_bytes v)
