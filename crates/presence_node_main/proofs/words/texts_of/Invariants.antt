use Rattle.std.proofs.Common.{◌≡◌, ◌++◌, map, drop, string_bytes}
use Rattle.presence_node_main.proofs.words.texts_of.Given as goal

-- the texts so far, followed by those of the words that are left
abbrev pub invariant-loop-word : goal.invariant-loop-word
invariant-loop-word l =
    map (λ t. t.now) l.texts.items ++ map string_bytes (drop l.word-index l.words) ≡ map string_bytes l.words
