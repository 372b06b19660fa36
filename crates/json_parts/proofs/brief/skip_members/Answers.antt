use Rattle.std.proofs.Common.{◌≡◌, ◌<◌, Some, None, length, arith}
use Rattle.json.specs.Json.{read_key, skip_value}
use Rattle.json.proofs.Grammar.{read_key-shorter}
use Rattle.serde_json.specs.Read.{max_depth}
use Rattle.json_parts.proofs.Places.{key_stands, members_end}
use Rattle.json_parts.proofs.Walks.{member_passed, member_not_refused}
use Rattle.json_parts.proofs.brief.skip_members.Goals as goal

pub returns-in_err-next_key-clause-passed : goal.returns-in_err-next_key-clause-passed
returns-in_err-next_key-clause-passed c = λ ms rest at.
    let l = c.loop-reader in
    let here = l.invariant.0 ms rest at in
    absurd (key_stands l.reader here.0 rest here.1 c.in_err-next_key.ensures.value)

pub loop-reader-preserved : goal.loop-reader-preserved
loop-reader-preserved c =
    let l = c.loop-reader in
    let k = c.in-Some.field-0.now in
    let s = c.next_key.new.self in
    let r = c.skip_value.new.self in
    let named : read_key l.reader ≡ Some (Some k, s) = grind arith in
    let passed : skip_value max_depth s ≡ Some r = c.in_ok-skip_value.ensures.value in
    let less : length s < length l.reader = read_key-shorter l.reader (Some k) s named in
    let lesser : length r < length s = c.in_ok-skip_value.ensures.shorter in (
      (λ ms rest at.
          let here = l.invariant.0 ms rest at in
          member_passed l.reader s r k here.0 rest here.1 named passed),
      omega (arith, less, lesser, l.invariant.1),
    )

pub returns-in_err-skip_value-clause-passed : goal.returns-in_err-skip_value-clause-passed
returns-in_err-skip_value-clause-passed c = λ ms rest at.
    let l = c.loop-reader in
    let k = c.in-Some.field-0.now in
    let s = c.next_key.new.self in
    let named : read_key l.reader ≡ Some (Some k, s) = grind arith in
    let here = l.invariant.0 ms rest at in
    absurd (member_not_refused l.reader s k here.0 rest here.1 named c.in_err-skip_value.ensures.value)

pub returns-clause-passed : goal.returns-clause-passed
returns-clause-passed c = λ ms rest at.
    let l = c.loop-reader in
    let here = l.invariant.0 ms rest at in
    let over : read_key l.reader ≡ Some (None, c.next_key.new.self) = grind arith in
    (tt, (members_end l.reader c.next_key.new.self here.0 rest here.1 over).1)
