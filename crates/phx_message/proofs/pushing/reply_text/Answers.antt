use Rattle.std.proofs.Common.{rules, ◌≡◌, ◌∷◌, ◌++◌, ℕ, List, string_bytes, codes, ap, ◌∙◌}
use Rattle.json.specs.Print.{quoted as quoted_text}
use Rattle.serde_json.specs.Written.{compact_text}
use Rattle.phx_message.specs.Message.{ref_value}
use Rattle.phx_message.proofs.Joined.{joined}
use Rattle.phx_message.proofs.pushing.reply_text.Goals as goal

pub returns : goal.returns
returns c =
    let r : List ℕ = compact_text (ref_value c.args.join_ref.now) in
    let s : List ℕ = compact_text (ref_value c.args.msg_ref.now) in
    let q : List ℕ = quoted_text c.args.topic.now in
    let front : List ℕ = 91 ∷ (r ++ (44 ∷ (s ++ (44 ∷ q)))) in
    let asked : string_bytes c.push_asked.new.text ≡ front = search rules in
    c.in_ok-push_str-3.ensures.bytes
    ∙ ap (λ z. z ++ codes ",\"status\":\"ok\"}]") (c.in_ok-push_str-2.ensures.bytes
    ∙ ap (λ z. z ++ c.args.response.now) (c.in_ok-push_str.ensures.bytes ∙ ap (λ z. z ++ codes ",\"phx_reply\",{\"response\":") asked))
    ∙ joined r s q (codes ",\"phx_reply\",{\"response\":") c.args.response.now (codes ",\"status\":\"ok\"}]")
