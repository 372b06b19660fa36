-- The texts of pushes and replies, round the text of what they tell.
use Rattle.std.specs.Prelude.{◌≡◌, ℕ, List, [], ◌∷◌, ◌++◌, Option, codes}
use Rattle.json.specs.Print.{quoted}
use Rattle.serde_json.specs.Data.{Data}
use Rattle.serde_json.specs.Written.{compact_text}
use Rattle.phx_message.specs.Making.{push_of, ok_reply}
use Rattle.phx_message.specs.Message.{ref_value, value_of}
use Rattle.phx_message.specs.declared.message.MsgRef.{MsgRef}

-- `[join_ref,null,topic,event,payload]`
abbrev pub push_text : Option MsgRef → List ℕ → List ℕ → List ℕ → List ℕ
push_text join_ref topic event payload =
    91 ∷ (compact_text (ref_value join_ref)
    ++ (44 ∷ (codes "null" ++ (44 ∷ (quoted topic ++ (44 ∷ (quoted event ++ (44 ∷ (payload ++ 93 ∷ [])))))))))

-- round the text of a value it is the text of the message that pushes the value
abbrev pub PushesAreWritten : Type 0
PushesAreWritten = (join_ref : Option MsgRef) (topic event : List ℕ) (payload : Data)
    → push_text join_ref topic event (compact_text payload)
    ≡ compact_text (value_of (push_of join_ref topic event payload))

-- `[join_ref,ref,topic,"phx_reply",{"response":response,"status":"ok"}]`
abbrev pub ok_text : Option MsgRef → Option MsgRef → List ℕ → List ℕ → List ℕ
ok_text join_ref msg_ref topic response =
    91 ∷ (compact_text (ref_value join_ref) ++ (44 ∷ (compact_text (ref_value msg_ref) ++ (44 ∷ (quoted topic
    ++ (codes ",\"phx_reply\",{\"response\":" ++ (response ++ codes ",\"status\":\"ok\"}]")))))))

-- round the text of a value it is the text of the reply whose response the value is
abbrev pub RepliesAreWritten : Type 0
RepliesAreWritten = (join_ref msg_ref : Option MsgRef) (topic : List ℕ) (response : Data)
    → ok_text join_ref msg_ref topic (compact_text response)
    ≡ compact_text (value_of (ok_reply join_ref msg_ref topic response))
