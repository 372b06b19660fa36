use Rattle.std.proofs.Common.{◌≡◌, ◌++◌, ◌∷◌, [], string_bytes, map, sym, ◌∙◌, rules}
use Rattle.std.proofs.iter.Next.{Yields-more}
use Rattle.std.specs.Vec.Iter.{into_iter_items, into_iter_steps}
use Rattle.serve_sockets.proofs.Sendings.{sent_more}
use Rattle.serve_sockets.proofs.Stopping.{split_at, stops_behind, taken_front}
use Rattle.serve_sockets.proofs.sending.queue_all.Goals as goal

pub returns-in-Err-clause-stops : goal.returns-in-Err-clause-stops
returns-in-Err-clause-stops g c =
    let it = c.into_iter-text-iterator.result in
    let xs = c.loop-text.yielded in
    let more = Yields-more into_iter_steps it xs c.loop-text.text-iterator c.in-Some.text c.next.new.self c.loop-text.yielded_by c.in-Some.ensures.steps in
    let whole : into_iter_items it ≡ c.args.texts.items = search rules in
    let all : c.args.texts.items ≡ (xs ++ c.in-Some.text ∷ []) ++ into_iter_items c.next.new.self =
    sym whole ∙ taken_front it (xs ++ c.in-Some.text ∷ []) c.next.new.self more in
    stops_behind g.S.Write.contents c.args.socket.now c.loop-text.socket c.queue_text.new.socket (map string_bytes xs)
    (string_bytes c.in-Some.text) (map string_bytes (into_iter_items c.next.new.self)) (map string_bytes c.args.texts.items) c.in-Err.error
    c.loop-text.invariant c.in-Err.ensures.stops (split_at string_bytes c.args.texts.items xs (into_iter_items c.next.new.self) c.in-Some.text all)

pub loop-text-preserved : goal.loop-text-preserved
loop-text-preserved g c =
    sent_more string_bytes g.S.Write.contents c.args.socket.now c.loop-text.socket c.queue_text.new.socket c.loop-text.yielded c.in-Some.text
    c.loop-text.invariant c.in-Ok.ensures.sent
