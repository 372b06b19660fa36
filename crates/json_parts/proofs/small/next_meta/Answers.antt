use Rattle.std.proofs.Common.{◌≡◌, ◌++◌, ◌∷◌, [], false, sym, ap, ◌∙◌, subst, arith}
use Rattle.json.specs.Reads.{token_of}
use Rattle.json.specs.Token.{Token}
use Rattle.json.specs.Tree.{items_tokens}
use Rattle.serde_json.specs.Data.{object, no_members}
use Rattle.presence_base.specs.Metas.{is_meta}
use Rattle.presence_base.specs.Names.{guarded}
use Rattle.json_parts.specs.Places.{data_of, members_data, AtItems}
use Rattle.json_parts.specs.Small.{is_object}
use Rattle.json_parts.proofs.Ends.{is_object_token, no_object_next, never_over}
use Rattle.json_parts.proofs.Walks.{items_led}
use Rattle.json_parts.proofs.small.next_meta.Goals as goal

pub returns-in_default-clause-next : goal.returns-in_default-clause-next
returns-in_default-clause-next c = λ js rest at.
    let none : c.args.reader.now ≡ [] = grind arith in
    absurd (never_over c.args.reader.now js rest at none)

pub returns-in_default-token-clause-next : goal.returns-in_default-token-clause-next
returns-in_default-token-clause-next c = λ js rest at.
    let first : c.args.reader.now ≡ token_of c.in-Some.token ∷ c.next.new.self = grind arith in
    let other : is_object_token (token_of c.in-Some.token) ≡ false = grind arith in
    no_object_next (token_of c.in-Some.token) c.args.reader.now c.next.new.self js rest at first other

pub returns-in_err-part-clause-next : goal.returns-in_err-part-clause-next
returns-in_err-part-clause-next c = λ js rest at.
    let first : c.args.reader.now ≡ Token.begin_object ∷ c.next.new.self = grind arith in
    let n = items_led Token.begin_object c.next.new.self js rest (subst (λ ts. AtItems ts js rest) first at) in
    let memory = c.in_err-part.ensures.read n.4.0 (items_tokens n.1 ++ rest) n.4.2 in
    grind (arith, memory)

pub returns-in_err-meta_of-clause-next : goal.returns-in_err-meta_of-clause-next
returns-in_err-meta_of-clause-next c = λ js rest at.
    let first : c.args.reader.now ≡ Token.begin_object ∷ c.next.new.self = grind arith in
    let n = items_led Token.begin_object c.next.new.self js rest (subst (λ ts. AtItems ts js rest) first at) in
    let read = c.in_ok-part.ensures.read n.4.0 (items_tokens n.1 ++ rest) n.4.2 in
    let memory = c.in_err-meta_of.ensures (object (members_data n.4.0 no_members)) read.0 in
    grind (arith, memory)

pub returns-clause-next : goal.returns-clause-next
returns-clause-next c = λ js rest at.
    let first : c.args.reader.now ≡ Token.begin_object ∷ c.next.new.self = grind arith in
    let n = items_led Token.begin_object c.next.new.self js rest (subst (λ ts. AtItems ts js rest) first at) in
    let read = c.in_ok-part.ensures.read n.4.0 (items_tokens n.1 ++ rest) n.4.2 in
    let meta = c.in_ok-meta_of.ensures (object (members_data n.4.0 no_members)) read.0 in
    (n.0, n.1, n.2, ap (λ j. is_object (data_of j)) n.4.1, meta ∙ ap (λ j. guarded (is_meta (data_of j)) (data_of j)) (sym n.4.1), (read.1, n.3))
