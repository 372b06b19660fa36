use Rattle.std.proofs.Common.{◌≡◌, ◌∷◌, [], false, suc, length, sym, ap, ◌∙◌, subst, arith}
use Rattle.std.proofs.lemmas.Result.{on_ok_weaker}
use Rattle.json.specs.Reads.{token_of}
use Rattle.json.specs.Token.{Token}
use Rattle.serde_json.specs.Data.{array}
use Rattle.serde_json.specs.View.{view}
use Rattle.serde_json.proofs.Views.{view-Array}
use Rattle.json_parts.specs.Outline.{shallow}
use Rattle.json_parts.specs.Places.{data_of, At, Leaves}
use Rattle.json_parts.proofs.Places.{led, not_empty}
use Rattle.json_parts.proofs.Walks.{is_array_token, no_array}
use Rattle.json_parts.proofs.items.shallow.Goals as goal

pub returns-in_err-token-clause-read : goal.returns-in_err-token-clause-read
returns-in_err-token-clause-read c = λ j rest at.
    let none : c.args.reader.now ≡ [] = grind arith in
    absurd (not_empty j rest (subst (λ l. At l j rest) none at))

pub returns-in_err-items-clause-read : goal.returns-in_err-items-clause-read
returns-in_err-items-clause-read c = λ j rest at.
    let first : c.args.reader.now ≡ Token.begin_array ∷ c.next.new.self = grind arith in
    let l = led Token.begin_array c.next.new.self j rest (subst (λ ts. At ts j rest) first at) in
    let memory = c.in_err-items.ensures.read l.0 rest l.2 in
    grind (arith, memory)

pub returns-in-BeginArray-clause-read : goal.returns-in-BeginArray-clause-read
returns-in-BeginArray-clause-read c = λ j rest at.
    let first : c.args.reader.now ≡ Token.begin_array ∷ c.next.new.self = grind arith in
    let l = led Token.begin_array c.next.new.self j rest (subst (λ ts. At ts j rest) first at) in
    let read = c.in_ok-items.ensures.read l.0 rest l.2 in
    (view-Array c.in_ok-items.items ∙ ap array read.0 ∙ ap (λ i. shallow c.args.most (data_of i)) (sym l.1), read.1)

pub returns : goal.returns
returns c =
    let first : c.args.reader.now ≡ token_of c.in_ok-token.token ∷ c.next.new.self = grind arith in
    let other : is_array_token (token_of c.in_ok-token.token) ≡ false = grind arith in
    let longer : length c.args.reader.now ≡ suc (length c.next.new.self) = ap length first in
    record {
      read = λ j rest at.
          let stands = subst (λ l. At l j rest) first at in
          subst (λ d. Leaves c.brief_of.new.reader rest c.brief_of.result (λ v. view v ≡ d)) (sym (no_array (token_of c.in_ok-token.token) c.next.new.self j rest c.args.most stands other))
          (c.brief_of.ensures.read j rest stands);
      shorter = on_ok_weaker c.brief_of.result (λ le. omega (arith, le, longer)) c.brief_of.ensures.shorter;
    }
