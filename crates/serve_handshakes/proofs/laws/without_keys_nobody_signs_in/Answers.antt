use Rattle.serve_handshakes.specs.Answers.{answer_in}
use Rattle.serve_handshakes.specs.Greeting.{while_so_in}
use Rattle.serve_handshakes.proofs.Unkeyed.{answer_names, seats_all, seats_name, well_names}
use Rattle.serve_handshakes.proofs.laws.without_keys_nobody_signs_in.Goals as goal

pub returns-clause-as_before : goal.returns-clause-as_before
returns-clause-as_before c = λ site places request answer h.
    let seat = seats_all places request (while_so_in h.0 (answer_in site request)) answer h.1 in
    (h.0, seat.0, seat.1)

pub returns-clause-no_token : goal.returns-clause-no_token
returns-clause-no_token c = λ site places request answer h.
    seats_name places request (while_so_in h.0 (answer_in site request)) answer h.1 (well_names h.0 _ (answer_names site request))
