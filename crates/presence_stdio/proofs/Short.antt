-- A reference text is short: a name has at most 32 bytes, and a number of 64 bits at most 20 digits.
use Rattle.std.proofs.Common.{◌≤◌, ◌<◌, ◌^◌, ℕ, List, length, IsTrue, arith}
use Rattle.std.proofs.lemmas.Bool.Decides.{nat_tests}
use Rattle.std.proofs.lemmas.Fmt.{length-decimal-le}
use Rattle.std.proofs.lemmas.Grind.{common_steps}
use Rattle.presence_base.specs.Names.{is_node_name}
use Rattle.presence_base.specs.Refs.{text_of}

name_length : (name : List ℕ) → IsTrue (is_node_name name) → length name ≤ 32
name_length name h = grind (arith, nat_tests)

pub short_text : (name : List ℕ) (i c : ℕ) → IsTrue (is_node_name name) → i < 2 ^ 64 → c < 2 ^ 64 → length (text_of name i c) ≤ 74
short_text name i c is low small =
    let few = name_length name is in
    let digits = length-decimal-le 20 i (omega arith) (omega (arith, low)) low in
    let more = length-decimal-le 20 c (omega arith) (omega (arith, small)) small in
    grind (arith, common_steps)
