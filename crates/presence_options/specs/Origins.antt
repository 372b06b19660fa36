-- Origins as browsers tell them: RFC 6454, section 6.2.
use Rattle.std.specs.Prelude.{ℕ, ◌+◌, ◌*◌, ◌-◌, List, [], ◌∷◌, length, drop, slice_index, codes, Bool, cond, not, ◌&&◌, ◌||◌, ◌==◌, nat_le, nat_lt, bytes_eq, IsTrue}
use Rattle.std.specs.Char.{is_ascii_alphanumeric, is_ascii_digit, is_ascii_hexdigit, is_ascii_lowercase}
use Rattle.std.specs.List.{AllByRecursion, starts_with, ends_with}
use Rattle.presence_options.specs.declared.origin.Part.{Part}
use Rattle.presence_options.specs.declared.origin.Part.TheVariants.{Scheme, Host, Address, Mixed}

-- what may stand in a part: in a scheme small letters, digits, `+`, `-` and `.` (RFC 3986; browsers write it in lower case),
-- in a host's name letters, digits, `-`, `.` and `_`, in an IPv6 address hexadecimal digits and `:` (browsers write its last
-- 32 bits so too), to which `.` comes where these are written as an IPv4 address
abbrev pub may_be_in : Part → ℕ → Bool
may_be_in Scheme b = is_ascii_lowercase b || is_ascii_digit b || b == 43 || b == 45 || b == 46
may_be_in Host b = is_ascii_alphanumeric b || b == 45 || b == 46 || b == 95
may_be_in Address b = is_ascii_hexdigit b || b == 58
may_be_in Mixed b = is_ascii_hexdigit b || b == 58 || b == 46

-- what stands behind the bytes that may stand in the part
abbrev pub behind : Part → List ℕ → List ℕ
behind part [] = []
behind part (b ∷ bs) = cond (may_be_in part b) (behind part bs) (b ∷ bs)

-- these digits, behind those of n, write a number from 1 to 65535 that has no zero in front
abbrev pub is_port_after : ℕ → List ℕ → Bool
is_port_after n [] = nat_le 1 n
is_port_after n (b ∷ bs) =
    is_ascii_digit b && nat_le 1 (n * 10 + (b - 48)) && nat_le (n * 10 + (b - 48)) 65535
    && is_port_after (n * 10 + (b - 48)) bs

abbrev pub is_port : List ℕ → Bool
is_port text = is_port_after 0 text

abbrev pub begins_with : List ℕ → List ℕ → Bool
begins_with front text = starts_with ◌==◌ text front

-- nothing, or `:` and a port
abbrev pub is_end : List ℕ → Bool
is_end text = length text == 0 || begins_with (codes ":") text && is_port (drop 1 text)

-- a host's name and such an end
abbrev pub is_named : List ℕ → Bool
is_named place = nat_lt (length (behind Host place)) (length place) && is_end (behind Host place)

-- an IPv6 address, `]` and such an end
abbrev pub is_bracketed : List ℕ → Bool
is_bracketed place =
    nat_lt (length (behind Address place)) (length place) && begins_with (codes "]") (behind Address place)
    && is_end (drop 1 (behind Address place))

-- a host, and a port where it has one
abbrev pub is_place : List ℕ → Bool
is_place place = cond (begins_with (codes "[") place) (is_bracketed (drop 1 place)) (is_named place)

-- the scheme is one of WebSockets, which no page has
abbrev pub is_of_sockets : List ℕ → Bool
is_of_sockets text = begins_with (codes "ws://") text || begins_with (codes "wss://") text

-- the port is the scheme's own, which browsers leave out
abbrev pub is_port_of_scheme : List ℕ → Bool
is_port_of_scheme text =
    (begins_with (codes "http://") text && ends_with ◌==◌ text (codes ":80"))
    || (begins_with (codes "https://") text && ends_with ◌==◌ text (codes ":443"))

-- what stands behind a scheme
abbrev pub is_behind_scheme : List ℕ → Bool
is_behind_scheme text = begins_with (codes "://") text && is_place (drop 3 text)

-- `scheme://host` or `scheme://host:port`, where the scheme begins with a small letter
abbrev pub is_of_host : List ℕ → Bool
is_of_host text =
    is_ascii_lowercase (slice_index text 0) && is_behind_scheme (behind Scheme text) && not (is_of_sockets text)
    && not (is_port_of_scheme text)

-- what pages without a host tell: those of files `file://` in some browsers, and `null` in the others, as do pages in
-- sandboxed frames
abbrev pub is_without_host : List ℕ → Bool
is_without_host text = bytes_eq text (codes "null") || bytes_eq text (codes "file://")

-- a text of either kind
unfoldable pub is_origin : List ℕ → Bool
is_origin text = is_without_host text || is_of_host text

-- all are origins
abbrev pub AreOrigins : List (List ℕ) → Type 0
AreOrigins texts = AllByRecursion (λ t. IsTrue (is_origin t)) texts
