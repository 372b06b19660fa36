use Rattle.std.proofs.Common.{◌≡◌, ◌∷◌, [], true, ap, ◌∙◌, subst, arith}
use Rattle.json.specs.Token.{Token}
use Rattle.json.specs.Json.{item}
use Rattle.json.specs.Reads.{token_of}
use Rattle.json_parts.specs.Places.{AtItems}
use Rattle.json_parts.proofs.Walks.{items_led, items_stand, is_other_token, other_begun}
use Rattle.json_parts.proofs.items.begin.Goals as goal

pub returns-in-EndArray-clause-begun : goal.returns-in-EndArray-clause-begun
returns-in-EndArray-clause-begun c = λ js rest at.
    let first : c.args.reader.now ≡ Token.end_array ∷ c.next.new.self = grind arith in
    items_led Token.end_array c.next.new.self js rest (subst (λ l. AtItems l js rest) first at)

pub returns-in-BeginArray-clause-begun : goal.returns-in-BeginArray-clause-begun
returns-in-BeginArray-clause-begun c = λ js rest at.
    let first : c.args.reader.now ≡ Token.begin_array ∷ c.next.new.self = grind arith in
    let n = items_led Token.begin_array c.next.new.self js rest (subst (λ l. AtItems l js rest) first at) in
    (n.4.0, n.1, n.2 ∙ ap (λ j. item j n.1) n.4.1, n.4.2, n.3)

pub returns-in-Null-clause-begun : goal.returns-in-Null-clause-begun
returns-in-Null-clause-begun c = λ js rest at.
    let first : c.args.reader.now ≡ Token.null ∷ c.next.new.self = grind arith in
    let n = items_led Token.null c.next.new.self js rest (subst (λ l. AtItems l js rest) first at) in
    (n.1, n.2 ∙ ap (λ j. item j n.1) n.4.0, (n.4.1, n.3))

pub returns-in-BeginObject-clause-begun : goal.returns-in-BeginObject-clause-begun
returns-in-BeginObject-clause-begun c = λ js rest at.
    let first : c.args.reader.now ≡ token_of c.in-Some.token ∷ c.next.new.self = grind arith in
    let other : is_other_token (token_of c.in-Some.token) ≡ true = grind arith in
    other_begun (token_of c.in-Some.token) c.next.new.self js rest (subst (λ l. AtItems l js rest) first at) other

pub returns-in_default-clause-begun : goal.returns-in_default-clause-begun
returns-in_default-clause-begun c = λ js rest at.
    let none : c.args.reader.now ≡ [] = grind arith in
    absurd (items_stand js rest (subst (λ l. AtItems l js rest) none at))
