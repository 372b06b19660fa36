-- What lines say.
use Rattle.std.specs.Prelude.{ℕ, ◌/◌, ◌-◌, ◌^◌, List, ◌++◌, codes, decimal, unsigned_abs}
use Rattle.std.specs.Fmt.{format_spec, styled_decimal}
use Rattle.jiff_core.specs.declared.civil.datetime.DateTime.{DateTime}
use Rattle.json.specs.Print.{quoted}
use Rattle.node_log.specs.declared.lines.Told.{Told}

-- a number with zeros in front, as so many digits
abbrev pub as_digits : ℕ → ℕ → List ℕ
as_digits width n = styled_decimal (format_spec 32 0 4 width (2 ^ 64 - 1)) n

abbrev pub date_text : DateTime → List ℕ
date_text t =
    as_digits 4 (unsigned_abs t.date.year) ++ (codes "-" ++ (as_digits 2 t.date.month ++ (codes "-" ++ as_digits 2 t.date.day)))

-- to the millisecond
abbrev pub clock_text : DateTime → List ℕ
clock_text t =
    as_digits 2 t.time.hour ++ (codes ":" ++ (as_digits 2 t.time.minute ++ (codes ":"
    ++ (as_digits 2 t.time.second ++ (codes "." ++ as_digits 3 (t.time.subsec_nanosecond / 1_000_000))))))

-- a date and a time of day of UTC, as 2026-11-29T16:25:01.123Z
abbrev pub time_text : DateTime → List ℕ
time_text t = date_text t ++ (codes "T" ++ (clock_text t ++ codes "Z"))

-- of a client: when, how much it matters, what befell it and why
abbrev pub deed_text : Told → List ℕ
deed_text t = t.time.now ++ (codes " " ++ (t.level.now ++ (codes " client " ++ (t.deed.now ++ (codes ": " ++ t.words.now)))))

-- the reason's name, where the client is, and how often
abbrev pub fields_text : Told → List ℕ
fields_text t =
    codes "reason=" ++ (t.label.now ++ (codes " address=" ++ (t.address.now ++ (codes " count=" ++ decimal t.count))))

abbrev pub client_text : Told → List ℕ
client_text t = deed_text t ++ (codes " " ++ (fields_text t ++ codes "\n"))

abbrev pub deed_in_object : Told → List ℕ
deed_in_object t =
    codes "\"time\":\"" ++ (t.time.now ++ (codes "\",\"level\":\"" ++ (t.level.now ++ (codes "\",\"client\":\""
    ++ (t.deed.now ++ (codes "\",\"message\":" ++ quoted t.words.now))))))

abbrev pub fields_in_object : Told → List ℕ
fields_in_object t =
    codes "\"reason\":\"" ++ (t.label.now ++ (codes "\",\"address\":" ++ (quoted t.address.now
    ++ (codes ",\"count\":" ++ decimal t.count))))

abbrev pub client_object : Told → List ℕ
client_object t = codes "{" ++ (deed_in_object t ++ (codes "," ++ (fields_in_object t ++ codes "}\n")))

-- of the server itself
abbrev pub own_text : List ℕ → List ℕ → List ℕ → List ℕ
own_text time level words = time ++ (codes " " ++ (level ++ (codes " " ++ (words ++ codes "\n"))))

abbrev pub own_object : List ℕ → List ℕ → List ℕ → List ℕ
own_object time level words =
    codes "{\"time\":\"" ++ (time ++ (codes "\",\"level\":\"" ++ (level ++ (codes "\",\"message\":"
    ++ (quoted words ++ codes "}\n")))))
