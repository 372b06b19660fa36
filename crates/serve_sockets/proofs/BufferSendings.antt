-- Some of what waits goes out, and then more of it.
use Rattle.std.proofs.Common.{ℕ, List, ◌++◌, ◌≡◌, Option, sym, ap, ◌∙◌, append_assoc}
use Rattle.tungstenite.specs.Socket.{Socket, Sent}
use Rattle.tungstenite.proofs.SocketLemmas.{appends-chain}

module _ {S : Type 0} where
  pub sent_then : (contents : S → Option (List ℕ)) (a b d : Socket S) → Sent contents a b → Sent contents b d → Sent contents a d
  sent_then contents a b d h k = (
    h.0 ++ k.0,
    h.1 ∙ ap (λ z. h.0 ++ z) k.1 ∙ sym (append_assoc h.0 k.0 d.output),
    appends-chain (contents a.stream) (contents b.stream) (contents d.stream) h.0 k.0 h.2 k.2,
    k.3 ∙ h.3,
    k.4 ∙ h.4,
    λ empty.
        let same : b ≡ a = h.5 empty in
        k.5 (ap (λ (x : Socket S). x.output) same ∙ empty) ∙ same,
  )
