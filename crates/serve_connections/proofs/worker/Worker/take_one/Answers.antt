use Rattle.std.proofs.Common.{◌≡◌, ◌<◌, ◌≤◌, ◌+◌, ◌++◌, ◌∷◌, [], ℕ, true, false, List, length, refl, sym, ap, ◌∙◌, rules}
use Rattle.crossbeam_queue.specs.Passes.{view}
use Rattle.serve_connections.specs.Places.{AreKept, served}
use Rattle.serve_connections.specs.declared.client.Client.{Client}
use Rattle.serve_connections.specs.declared.worker.TheConstants.{MAX_CONNECTIONS}
use Rattle.serve_connections.proofs.Notes.{pushed_at_rest, room_at_rest, same_at_rest}
use Rattle.serve_connections.proofs.Numbers.{rising_more}
use Rattle.serve_connections.proofs.Takings.{lost_not, just}
use Rattle.serve_connections.proofs.Places.{kept_length, same_kept, same_served, pushed_kept, pushed_served}
use Rattle.serve_connections.proofs.worker.Worker.take_one.Goals as goal

pub invariant_of-self-in-Break-branch-3 : goal.invariant_of-self-in-Break-branch-3
invariant_of-self-in-Break-branch-3 g c =
    let keys : List ℕ = c.args.self.now.order.items in
    let slots = ap (λ s. s.slots) c.reserve-2.ensures.rest_kept in
    let same : served c.reserve-2.new.self keys ≡ served c.args.self.now.clients keys = same_served c.args.self.now.clients c.reserve-2.new.self keys slots in
    record {
      kept = rw c.reserve.ensures.items (same_kept c.args.self.now.clients c.reserve-2.new.self keys slots c.args.self.now.kept);
      at_rest = rw c.reserve.ensures.items (same_at_rest c.args.self.now.clients c.reserve-2.new.self c.args.self.now.resting.notes.items keys slots c.args.self.now.at_rest);
      few = rw c.reserve.ensures.items c.args.self.now.few;
      rising = rw (c.reserve.ensures.items, same) c.args.self.now.rising;
    }

pub invariant_of-self-in-Err-1 : goal.invariant_of-self-in-Err-1
invariant_of-self-in-Err-1 g c =
    let keys : List ℕ = c.args.self.now.order.items in
    let slots = ap (λ s. s.slots) c.reserve-2.ensures.rest_kept in
    let same : served c.reserve-2.new.self keys ≡ served c.args.self.now.clients keys = same_served c.args.self.now.clients c.reserve-2.new.self keys slots in
    let none : (view c.take.new.self.pass).taken ≡ (view c.args.self.now.taker.pass).taken = search rules in
    record {
      kept = rw c.reserve.ensures.items (same_kept c.args.self.now.clients c.reserve-2.new.self keys slots c.args.self.now.kept);
      at_rest = rw c.reserve.ensures.items (same_at_rest c.args.self.now.clients c.reserve-2.new.self c.args.self.now.resting.notes.items keys slots c.args.self.now.at_rest);
      few = rw c.reserve.ensures.items c.args.self.now.few;
      rising = rw (c.reserve.ensures.items, same, none) c.args.self.now.rising;
    }

pub invariant_of-self-2 : goal.invariant_of-self-2
invariant_of-self-2 g c =
    let keys : List ℕ = c.args.self.now.order.items in
    let slots = ap (λ s. s.slots) c.reserve-2.ensures.rest_kept in
    let x : Client g.row.S.Denot = record { number = c.in-Ok.connection.number; token = c.vacant_key-token.result; ready = true; unsent = false; connection = c.taken.result } in
    let room : AreKept c.reserve-2.new.self keys = same_kept c.args.self.now.clients c.reserve-2.new.self keys slots c.args.self.now.kept in
    let same : served c.reserve-2.new.self keys ≡ served c.args.self.now.clients keys = same_served c.args.self.now.clients c.reserve-2.new.self keys slots in
    let more : c.push_reserved.new.self.items ≡ keys ++ c.insert_reserved-key.result ∷ [] =
    c.push_reserved.ensures.items ∙ ap (λ l. l ++ c.insert_reserved-key.result ∷ []) c.reserve.ensures.items in
    let all : served c.insert_reserved-key.new.self (keys ++ c.insert_reserved-key.result ∷ []) ≡ served c.args.self.now.clients keys ++ x ∷ [] =
    pushed_served c.reserve-2.new.self c.insert_reserved-key.new.self c.insert_reserved-key.result x keys
    c.insert_reserved-key.ensures.updates c.insert_reserved-key.ensures.was_vacant room ∙ ap (λ (l : List (Client g.row.S.Denot)). l ++ x ∷ []) same in
    let top : ℕ = (view c.args.self.now.taker.pass).taken in
    let above : top < c.in-Ok.connection.number = search rules in
    let token : c.vacant_key-token.result ≡ c.insert_reserved-key.result = c.vacant_key-token.ensures.value ∙ sym c.insert_reserved-key.ensures.key in
    let is : (view c.take.new.self.pass).taken ≡ c.in-Ok.connection.number = search rules in
    record {
      kept = rw more (pushed_kept c.reserve-2.new.self c.insert_reserved-key.new.self c.insert_reserved-key.result x keys
          c.insert_reserved-key.ensures.updates c.insert_reserved-key.ensures.was_vacant
          (c.vacant_key-token.ensures.value ∙ sym c.insert_reserved-key.ensures.key) room);
      at_rest = rw (more, c.wake.ensures, token) (pushed_at_rest c.reserve-2.new.self c.insert_reserved-key.new.self c.make_room.new.self.notes.items c.insert_reserved-key.result x keys
          c.insert_reserved-key.ensures.updates
          (room_at_rest c.reserve-2.new.self c.args.self.now.resting.notes.items c.make_room.new.self.notes.items keys c.make_room.ensures
          (same_at_rest c.args.self.now.clients c.reserve-2.new.self c.args.self.now.resting.notes.items keys slots c.args.self.now.at_rest)));
      few = search rules;
      rising = rw (more, all, is) (rising_more 0 top (served c.args.self.now.clients keys) x above c.args.self.now.rising);
    }

pub returns-then-len-ge-MAX_CONNECTIONS-clause-takes : goal.returns-then-len-ge-MAX_CONNECTIONS-clause-takes
returns-then-len-ge-MAX_CONNECTIONS-clause-takes g c =
    let keys : List ℕ = c.args.self.now.order.items in
    let many : length (served c.args.self.now.clients keys) ≡ length keys = kept_length c.args.self.now.clients keys c.args.self.now.kept in
    let enough : MAX_CONNECTIONS ≤ length keys = search rules in
    (refl, many ∙ just (length keys) enough c.args.self.now.few)

pub returns-clause-takes : goal.returns-clause-takes
returns-clause-takes g c =
    let keys : List ℕ = c.args.self.now.order.items in
    let slots = ap (λ s. s.slots) c.reserve-2.ensures.rest_kept in
    let x : Client g.row.S.Denot = record { number = c.in-Ok.connection.number; token = c.vacant_key-token.result; ready = true; unsent = false; connection = c.taken.result } in
    let room : AreKept c.reserve-2.new.self keys = same_kept c.args.self.now.clients c.reserve-2.new.self keys slots c.args.self.now.kept in
    let same : served c.reserve-2.new.self keys ≡ served c.args.self.now.clients keys = same_served c.args.self.now.clients c.reserve-2.new.self keys slots in
    let more : c.push_reserved.new.self.items ≡ keys ++ c.insert_reserved-key.result ∷ [] =
    c.push_reserved.ensures.items ∙ ap (λ l. l ++ c.insert_reserved-key.result ∷ []) c.reserve.ensures.items in
    let all : served c.insert_reserved-key.new.self (keys ++ c.insert_reserved-key.result ∷ []) ≡ served c.args.self.now.clients keys ++ x ∷ [] =
    pushed_served c.reserve-2.new.self c.insert_reserved-key.new.self c.insert_reserved-key.result x keys
    c.insert_reserved-key.ensures.updates c.insert_reserved-key.ensures.was_vacant room ∙ ap (λ (l : List (Client g.row.S.Denot)). l ++ x ∷ []) same in (
      x,
      record { number = c.in-Ok.connection.number; token = c.vacant_key-token.result; socket = c.in-Ok.connection.stream; signs_in = rw c.in_ok-settings.ensures at c.taken.ensures; new = refl },
      rw more all,
    )

pub returns-clause-none_lost : goal.returns-clause-none_lost
returns-clause-none_lost g c =
    let keys : List ℕ = c.args.self.now.order.items in
    let slots = ap (λ s. s.slots) c.reserve-2.ensures.rest_kept in
    let x : Client g.row.S.Denot = record { number = c.in-Ok.connection.number; token = c.vacant_key-token.result; ready = true; unsent = false; connection = c.taken.result } in
    let room : AreKept c.reserve-2.new.self keys = same_kept c.args.self.now.clients c.reserve-2.new.self keys slots c.args.self.now.kept in
    let same : served c.reserve-2.new.self keys ≡ served c.args.self.now.clients keys = same_served c.args.self.now.clients c.reserve-2.new.self keys slots in
    let more : c.push_reserved.new.self.items ≡ keys ++ c.insert_reserved-key.result ∷ [] =
    c.push_reserved.ensures.items ∙ ap (λ l. l ++ c.insert_reserved-key.result ∷ []) c.reserve.ensures.items in
    let all : served c.insert_reserved-key.new.self (keys ++ c.insert_reserved-key.result ∷ []) ≡ served c.args.self.now.clients keys ++ x ∷ [] =
    pushed_served c.reserve-2.new.self c.insert_reserved-key.new.self c.insert_reserved-key.result x keys
    c.insert_reserved-key.ensures.updates c.insert_reserved-key.ensures.was_vacant room ∙ ap (λ (l : List (Client g.row.S.Denot)). l ++ x ∷ []) same in
    let one : (view c.take.new.self.pass).pops ≡ (view c.args.self.now.taker.pass).pops + 1 = search rules in
    lost_not (view c.args.self.now.taker.pass).pops (view c.take.new.self.pass).pops (served c.args.self.now.clients keys)
    (served c.insert_reserved-key.new.self c.push_reserved.new.self.items) x one (rw more all)
