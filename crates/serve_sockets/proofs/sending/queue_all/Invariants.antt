use Rattle.std.proofs.Common.{map, string_bytes}
use Rattle.serve_sockets.specs.Sending.{SentAll}
use Rattle.serve_sockets.proofs.sending.queue_all.Given as goal

abbrev pub invariant-loop-text : goal.invariant-loop-text
invariant-loop-text g l = SentAll g.S.Write.contents l.fn.socket l.socket (map string_bytes l.yielded)
