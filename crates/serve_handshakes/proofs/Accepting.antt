-- Which heads a key is answered of.
use Rattle.std.proofs.Common.{◌≡◌, ℕ, List, Option, None, Some, IfSome}
use Rattle.httparse.specs.Spans.{IsRequestOf}
use Rattle.httparse.specs.declared.spans.HeaderSpan.{HeaderSpan}
use Rattle.httparse.specs.declared.spans.RequestSpans.{RequestSpans}
use Rattle.serve_handshakes.specs.Heads.{IsAcceptOf, IsAsking, key_at}

-- a key that is answered was asked with
pub asking : (head : List ℕ) (spans : List HeaderSpan) (found : RequestSpans) (k o : Option (List ℕ)) → IsRequestOf head spans found
    → key_at head spans found ≡ k → IsAcceptOf k o → IfSome o (λ _. IsAsking head)
asking head spans found (Some key) (Some a) is at h = (spans, found, key, is, at, h.0)
asking head spans found (Some key) None is at h = tt
asking head spans found None (Some a) is at h = absurd (cc)
asking head spans found None None is at h = tt
