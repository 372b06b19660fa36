-- How the two ends of a link show one another that they have a key in common.
use Rattle.std.specs.Prelude.{◌≡◌, ℕ, ◌==◌, List, [], ◌∷◌, ◌++◌, length, take, drop, Bool, nat_lt, if◌then◌else◌, Option, Some, None, option_and_then, option_map, bytes_eq, codes, decimal}
use Rattle.std.specs.List.{list_any}
use Rattle.base64.specs.GeneralPurpose.{encode_of}
use Rattle.base64.specs.Engines.{url_safe_no_pad}
use Rattle.presence_base.specs.declared.dots.Replica.{Replica}
use Rattle.hmac_keys.specs.Hmac.{hmac_sha256}
use Rattle.hmac_keys.specs.Lines.{has_front}
use Rattle.link_rules.specs.declared.keying.Challenged.{Challenged}
use Rattle.link_rules.specs.declared.keying.TheConstants.{CODE_BYTES}

-- it is what the first of the keys makes of it
abbrev pub ByFirst : List (List ℕ) → (List ℕ → List ℕ) → List ℕ → Type 0
ByFirst keys made text = (key : List ℕ) × (rest : List (List ℕ)) × (keys ≡ key ∷ rest) × (text ≡ made key)

abbrev pub encoded : List ℕ → List ℕ
encoded bytes = encode_of url_safe_no_pad bytes

-- this, a space, and that
abbrev pub beside : List ℕ → List ℕ → List ℕ
beside this that = this ++ 32 ∷ that

-- ---- what is shown

-- who dials, as its proof names it
abbrev pub who_text : Replica → List ℕ
who_text node = node.name ++ (codes "." ++ decimal node.incarnation)

-- what both ends know of a link, by who says it: the nonce of who dials, that of who was dialled, and the name of who was dialled
abbrev pub told : List ℕ → Challenged → List ℕ
told role link = beside role (beside link.first.now (beside link.second.now link.dialled.now))

-- what who was dialled shows that it has a key by
abbrev pub answered : Challenged → List ℕ
answered link = told (codes "answer") link

-- and what who dials does by: which node it is, too
abbrev pub proved : Challenged → List ℕ → List ℕ
proved link who = beside (told (codes "proof") link) who

-- the code of a text under a key
abbrev pub code_text : List ℕ → List ℕ → List ℕ
code_text key text = encoded (hmac_sha256 key text)

-- ---- the lines, without their line feeds

abbrev pub challenge_text : List ℕ → List ℕ
challenge_text first = codes "challenge " ++ first

abbrev pub answer_text : Challenged → List ℕ → List ℕ
answer_text link key = codes "answer " ++ beside link.second.now (code_text key (answered link))

abbrev pub proof_text : Challenged → List ℕ → List ℕ → List ℕ
proof_text link who key = codes "proof " ++ beside (code_text key (proved link who)) who

abbrev pub wanted_text : List ℕ
wanted_text = codes "key wanted"

-- ---- what a line that came says

-- what stands in the line behind this
abbrev pub behind : List ℕ → List ℕ → Option (List ℕ)
behind front line = if has_front front line then Some (drop (length front) line) else None

abbrev pub is_challenge : List ℕ → Bool
is_challenge line = has_front (codes "challenge ") line

-- with its line feed
abbrev pub is_key_wanted : List ℕ → Bool
is_key_wanted line = bytes_eq line (codes "key wanted\n")

abbrev pub if_nonce : List ℕ → Option (List ℕ)
if_nonce text = if length text == CODE_BYTES then Some text else None

-- the nonce of a challenge
abbrev pub first_in : List ℕ → Option (List ℕ)
first_in line = option_and_then if_nonce (behind (codes "challenge ") line)

-- so many bytes as a nonce or a code has, and what stands behind them and a space
abbrev pub parts_in : List ℕ → Option (List ℕ × List ℕ)
parts_in text = if nat_lt (length text) CODE_BYTES then None
    else option_map (λ rest. (take CODE_BYTES text, rest)) (behind (codes " ") (drop CODE_BYTES text))

-- the nonce of an answer, and its code
abbrev pub answer_in : List ℕ → Option (List ℕ × List ℕ)
answer_in line = option_and_then parts_in (behind (codes "answer ") line)

-- the code of a proof, and who it names
abbrev pub proof_in : List ℕ → Option (List ℕ × List ℕ)
proof_in line = option_and_then parts_in (behind (codes "proof ") line)

-- ---- codes that came

-- the first of the keys under which this is the code of the text
abbrev pub shown_key : List (List ℕ) → List ℕ → List ℕ → Option (List ℕ)
shown_key [] text code = None
shown_key (k ∷ ks) text code = if bytes_eq (code_text k text) code then Some k else shown_key ks text code

abbrev pub proof_by : (List ℕ → List ℕ) → Option (List ℕ) → Option (List ℕ)
proof_by made None = None
proof_by made (Some key) = Some (made key)

-- this is the code of the text under one of the keys
abbrev pub is_shown : List (List ℕ) → List ℕ → List ℕ → Bool
is_shown keys text code = list_any (λ k. bytes_eq (code_text k text) code) keys
