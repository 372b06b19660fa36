-- What sending one text after another does to a socket.
use Rattle.std.proofs.Common.{ℕ, List, [], ◌∷◌, ◌++◌, Option, Some, refl, sym, ap, ◌∙◌, subst, append_assoc, append-nil, map, Ok, Err}
use Rattle.std.proofs.lemmas.List.{map-append}
use Rattle.websocket.specs.Connection.{Outgoing, Sends, send, write_step, check_can_write}
use Rattle.websocket.specs.Content.{text}
use Rattle.websocket.specs.Frame.{after_check, Checked}
use Rattle.websocket.specs.declared.error.Error.{Error as FrameError}
use Rattle.websocket.specs.declared.protocol.frame.coding.Data.TheVariants as kinds
use Rattle.websocket.specs.declared.protocol.frame.coding.OpCode.TheVariants as opcodes
use Rattle.websocket.specs.declared.protocol.config.Role.{Role}
use Rattle.tungstenite.specs.Socket.{Socket, Flushed, Writes}
use Rattle.tungstenite.proofs.SocketLemmas.{appends-chain, appends-nil}
use Rattle.serve_sockets.specs.Sending.{text_frame, Gains, SentAll}

sends-behind : (role : Role) (f : Outgoing) (p o n : List ℕ) → Sends role (Some f) o n → Sends role (Some f) (p ++ o) (p ++ n)
sends-behind role f p o n h = (h.0, h.1, ap (λ x. p ++ x) h.2 ∙ sym (append_assoc p o _))

gains-behind : (role : Role) (texts : List (List ℕ)) (p o n : List ℕ) → Gains role texts o n → Gains role texts (p ++ o) (p ++ n)
gains-behind role [] p o n h = ap (λ x. p ++ x) h
gains-behind role (t ∷ ts) p o n h = (p ++ h.0, sends-behind role (text_frame t) p o h.0 h.1, gains-behind role ts p h.0 n h.2)

gains-append : (role : Role) (xs ys : List (List ℕ)) (a b c : List ℕ) → Gains role xs a b → Gains role ys b c → Gains role (xs ++ ys) a c
gains-append role [] ys a b c h k = subst (λ x. Gains role ys x c) h k
gains-append role (x ∷ xs) ys a b c h k = (h.0, h.1, gains-append role xs ys h.0 b c h.2 k)

module _ {S : Type 0} where
  -- texts, and then more texts
  pub sent_then : (contents : S → Option (List ℕ)) (a b d : Socket S) (xs ys : List (List ℕ)) → SentAll contents a b xs → SentAll contents b d ys → SentAll contents a d (xs ++ ys)
  sent_then contents a b d xs ys h k =
      let role : Role = a.conn.role in
      let more : Gains role ys b.output (k.sent ++ d.output) = subst (λ c. Gains c.role ys b.output (k.sent ++ d.output)) h.conn k.frames in
      let behind : Gains role ys (h.sent ++ b.output) ((h.sent ++ k.sent) ++ d.output) =
      subst (λ x. Gains role ys (h.sent ++ b.output) x) (sym (append_assoc h.sent k.sent d.output)) (gains-behind role ys h.sent b.output (k.sent ++ d.output) more) in
      record {
        sent = h.sent ++ k.sent;
        frames = gains-append role xs ys a.output (h.sent ++ b.output) ((h.sent ++ k.sent) ++ d.output) h.frames behind;
        stream = appends-chain (contents a.stream) (contents b.stream) (contents d.stream) h.sent k.sent h.stream k.stream;
        conn = k.conn ∙ h.conn;
        input = k.input ∙ h.input;
      }

  -- nothing was sent
  pub sent_nothing : (contents : S → Option (List ℕ)) (a : Socket S) → SentAll contents a a []
  sent_nothing contents a = record { sent = []; frames = refl; stream = appends-nil (contents a.stream); conn = refl; input = refl }

  -- a flush after texts
  pub sent_flushed : (contents : S → Option (List ℕ)) (a b d : Socket S) (xs : List (List ℕ)) → SentAll contents a b xs → Flushed contents b d → SentAll contents a d xs
  sent_flushed contents a b d xs h k =
      subst (λ l. SentAll contents a d l) (append-nil xs)
      (sent_then contents a b d xs [] h (record { sent = k.0; frames = sym k.1; stream = k.2; conn = k.3; input = k.4 }))

  wrote_where : (contents : S → Option (List ℕ)) (a b : Socket S) (words : List ℕ) (may : Checked FrameError)
      → Writes contents a b (after_check may (send a.conn (opcodes.Data kinds.Text) words)) → SentAll contents a b (words ∷ [])
  wrote_where contents a b words (Ok u) h =
      record {
        sent = h.0;
        frames = (h.0 ++ b.output, subst (λ c. Sends c.role (Some (text_frame words)) a.output (h.0 ++ b.output)) h.1.0 h.1.1, refl);
        stream = h.2;
        conn = h.1.0;
        input = h.3;
      }
  wrote_where contents a b words (Err e) h = absurd h.1

  -- a text was written
  pub wrote : (contents : S → Option (List ℕ)) (a b : Socket S) (words : List ℕ) → Writes contents a b (write_step a.conn (text words)) → SentAll contents a b (words ∷ [])
  wrote contents a b words h = wrote_where contents a b words (check_can_write a.conn.state) h

  -- one text more
  pub sent_more : {X : Type 0} (f : X → List ℕ) (contents : S → Option (List ℕ)) (a b d : Socket S) (xs : List X) (x : X)
      → SentAll contents a b (map f xs) → SentAll contents b d (f x ∷ []) → SentAll contents a d (map f (xs ++ x ∷ []))
  sent_more f contents a b d xs x h k =
      subst (λ l. SentAll contents a d l) (sym (map-append f xs (x ∷ []))) (sent_then contents a b d (map f xs) (f x ∷ []) h k)
