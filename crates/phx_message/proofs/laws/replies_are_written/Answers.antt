use Rattle.std.proofs.Common.{◌∷◌, ◌++◌, codes, ap, sym, append_assoc}
use Rattle.json.specs.Print.{quoted, escape_byte}
use Rattle.serde_json.specs.Written.{compact_text}
use Rattle.phx_message.specs.Message.{ref_value}
use Rattle.phx_message.proofs.laws.replies_are_written.Goals as goal

pub returns : goal.returns
unfolding escape_byte
returns c = λ join_ref msg_ref topic response.
    ap (λ z. 91 ∷ (compact_text (ref_value join_ref) ++ (44 ∷ (compact_text (ref_value msg_ref) ++ (44 ∷ (quoted topic ++ (codes ",\"phx_reply\",{\"response\":" ++ z)))))))
    (sym (append_assoc (compact_text response) (codes ",\"status\":\"ok\"}") (codes "]")))
