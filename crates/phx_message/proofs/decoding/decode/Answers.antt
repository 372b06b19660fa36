use Rattle.phx_message.proofs.Decoded.{decoded_only, found_from_answer}
use Rattle.phx_message.proofs.decoding.decode.Goals as goal

pub returns-clause-found : goal.returns-clause-found
returns-clause-found c = found_from_answer c.args.limits c.args.text.now c.decode_exactly.result c.decode_exactly.ensures.exact

pub returns-clause-only : goal.returns-clause-only
returns-clause-only c = λ m within short reads. rw (decoded_only c.args.limits c.args.text.now m within short reads) at c.decode_exactly.ensures.exact
