use Rattle.std.proofs.Common.{string_bytes, ◌<◌, length, map, rules}
use Rattle.serve_sockets.proofs.Stopping.{stops_at_flush, some_mapped}
use Rattle.serve_sockets.specs.Sending.{SentAll}
use Rattle.serve_sockets.proofs.sending.send_all.Goals as goal

pub returns-in-Err-clause-stops : goal.returns-in-Err-clause-stops
returns-in-Err-clause-stops g c =
    let some : 0 < length (map string_bytes c.args.texts.items) = some_mapped string_bytes c.args.texts.items (search rules) in
    let all : SentAll g.S.Write.contents c.args.socket.now c.queue_all.new.socket (map string_bytes c.args.texts.items) = search rules in
    stops_at_flush g.S.Write.contents c.args.socket.now c.queue_all.new.socket c.flush.new.self (map string_bytes c.args.texts.items) c.in-Err.error some all c.in-Err.ensures.sent c.in-Err.ensures.only_io
