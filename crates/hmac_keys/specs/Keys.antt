-- What keys are, beside the file that they came of.
use Rattle.std.specs.Prelude.{ℕ, List, string_bytes}
use Rattle.hmac_keys.specs.Lines.{bytes_of}
use Rattle.hmac_keys.specs.declared.keys.Keys.{Keys}

-- the file's text
abbrev pub key_text : Keys → List ℕ
key_text k = string_bytes k.text

abbrev pub key_bytes : Keys → List (List ℕ)
key_bytes k = bytes_of k.keys
