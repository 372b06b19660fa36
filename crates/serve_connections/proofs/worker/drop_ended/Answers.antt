use Rattle.std.proofs.Common.{◌≡◌, ℕ, List, sym, ap, ◌∙◌, rules}
use Rattle.std.proofs.lemmas.Fn.{filter_same}
use Rattle.serve_connections.specs.Places.{AreKept, AreLeft, served}
use Rattle.serve_connections.proofs.LeavingLemmas.{filled, left_kept, left_served}
use Rattle.serve_connections.proofs.Notes.{all_filled, filled_at_rest}
use Rattle.serve_connections.proofs.worker.drop_ended.Goals as goal

pub returns-then-not-let_go-clause-left : goal.returns-then-not-let_go-clause-left
returns-then-not-let_go-clause-left g c =
    let keys : List ℕ = c.args.order.now.items in
    let left : AreLeft c.args.clients.now c.let_go.new.clients keys = rw c.as_slice.ensures.value at c.let_go.ensures.left in
    let same : c.let_go.new.clients ≡ c.args.clients.now = c.let_go.ensures.none c.if-not-let_go.true in
    let kept : AreKept c.let_go.new.clients keys = rw same c.requires.kept in
    ap (served c.let_go.new.clients) (sym (all_filled c.let_go.new.clients keys kept)) ∙ left_served c.args.clients.now c.let_go.new.clients keys c.requires.kept left

pub returns-clause-kept : goal.returns-clause-kept
returns-clause-kept g c =
    let keys : List ℕ = c.args.order.now.items in
    let left : AreLeft c.args.clients.now c.let_go.new.clients keys = rw c.as_slice.ensures.value at c.let_go.ensures.left in
    let kept : c.retain.new.self.items ≡ filled c.let_go.new.clients keys = filter_same _ _ _ (λ x b q k. search rules) _ _ c.retain.ensures.filtered in
    rw kept (left_kept c.args.clients.now c.let_go.new.clients keys c.requires.kept left)

pub returns-clause-at_rest : goal.returns-clause-at_rest
returns-clause-at_rest g c =
    let keys : List ℕ = c.args.order.now.items in
    let left : AreLeft c.args.clients.now c.let_go.new.clients keys = rw c.as_slice.ensures.value at c.let_go.ensures.left in
    let kept : c.retain.new.self.items ≡ filled c.let_go.new.clients keys = filter_same _ _ _ (λ x b q k. search rules) _ _ c.retain.ensures.filtered in
    rw kept (filled_at_rest c.args.clients.now c.let_go.new.clients c.args.resting.now.notes.items keys left c.requires.at_rest)

pub returns-clause-left : goal.returns-clause-left
returns-clause-left g c =
    let keys : List ℕ = c.args.order.now.items in
    let left : AreLeft c.args.clients.now c.let_go.new.clients keys = rw c.as_slice.ensures.value at c.let_go.ensures.left in
    let kept : c.retain.new.self.items ≡ filled c.let_go.new.clients keys = filter_same _ _ _ (λ x b q k. search rules) _ _ c.retain.ensures.filtered in
    ap (served c.let_go.new.clients) kept ∙ left_served c.args.clients.now c.let_go.new.clients keys c.requires.kept left
