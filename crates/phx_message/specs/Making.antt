-- The messages that a server makes.
use Rattle.std.specs.Prelude.{List, ℕ, Option, None, codes}
use Rattle.serde_json.specs.Data.{Data, string, object, member, no_members}
use Rattle.phx_message.specs.declared.message.MsgRef.{MsgRef}
use Rattle.phx_message.specs.declared.message.Message.{Message}
use Rattle.phx_message.specs.declared.making.Status.{Status}
use Rattle.phx_message.specs.declared.making.Status.TheVariants as status_is

abbrev pub status_text : Status → List ℕ
status_text status_is.Ok = codes "ok"
status_text status_is.Error = codes "error"

-- the payload of a reply
abbrev pub reply_value : Status → Data → Data
reply_value status response =
    object (member (codes "response") response (member (codes "status") (string (status_text status)) no_members))

-- the response of a refusal
abbrev pub reason_value : List ℕ → Data
reason_value reason = object (member (codes "reason") (string reason) no_members)

abbrev pub reply_of : Option MsgRef → Option MsgRef → List ℕ → Status → Data → Message
reply_of join_ref msg_ref topic status response = record {
  join_ref = join_ref;
  msg_ref = msg_ref;
  topic = topic;
  event = codes "phx_reply";
  payload = reply_value status response;
}

abbrev pub ok_reply : Option MsgRef → Option MsgRef → List ℕ → Data → Message
ok_reply join_ref msg_ref topic response = reply_of join_ref msg_ref topic status_is.Ok response

-- a refusal tells its reason
abbrev pub error_reply : Option MsgRef → Option MsgRef → List ℕ → List ℕ → Message
error_reply join_ref msg_ref topic reason = reply_of join_ref msg_ref topic status_is.Error (reason_value reason)

-- a push has no reference
abbrev pub push_of : Option MsgRef → List ℕ → List ℕ → Data → Message
push_of join_ref topic event payload =
    record { join_ref = join_ref; msg_ref = None; topic = topic; event = event; payload = payload }

-- a broadcast has neither
abbrev pub broadcast_of : List ℕ → List ℕ → Data → Message
broadcast_of topic event payload = push_of None topic event payload

-- `phx_close` under the join's reference in both places
abbrev pub closing : Option MsgRef → List ℕ → Message
closing join_ref topic = record {
  join_ref = join_ref;
  msg_ref = join_ref;
  topic = topic;
  event = codes "phx_close";
  payload = object no_members;
}
