-- What stands in the fields of a head.
use Rattle.std.specs.Prelude.{ℕ, ◌+◌, ◌*◌, ◌-◌, min, Bool, true, false, cond, ◌||◌, ◌&&◌, ◌==◌, nat_lt, List, [], ◌∷◌, codes, Option, None, Some}
use Rattle.std.specs.Char.{is_ascii_digit}
use Rattle.websocket.specs.Headers.{Fields, eq_ignore_case, has_token}
use Rattle.serve_handshakes.specs.declared.fields.TheConstants.{MAX_BODY_BYTES}

-- how many fields tell the host
abbrev pub host_count : Fields → ℕ
host_count [] = 0
host_count (f ∷ fs) = cond (eq_ignore_case f.0 (codes "Host")) (host_count fs + 1) (host_count fs)

-- One field tells the host; in HTTP/1.0 none may: RFC 9112, section 3.2.
abbrev pub has_host : ℕ → Fields → Bool
has_host version fields = host_count fields == 1 || (version == 0 && host_count fields == 0)

-- the fields with this name, which are one list (RFC 9110, section 5.3), list this, whatever the case of letters
abbrev pub lists : Fields → List ℕ → List ℕ → Bool
lists [] name wanted = false
lists (f ∷ fs) name wanted = cond (eq_ignore_case f.0 name && has_token f.1 wanted) true (lists fs name wanted)

-- the digits behind a number that isn't above what a body may have make one that is
abbrev pub is_long_from : ℕ → List ℕ → Bool
is_long_from n [] = nat_lt MAX_BODY_BYTES n
is_long_from n (d ∷ ds) =
    cond (is_ascii_digit d) (is_long_from (min (n * 10 + (d - 48)) (MAX_BODY_BYTES + 1)) ds) false

-- the length of the body is told, and above what it may be
abbrev pub is_long_body : Option (List ℕ) → Bool
is_long_body None = false
is_long_body (Some digits) = is_long_from 0 digits
