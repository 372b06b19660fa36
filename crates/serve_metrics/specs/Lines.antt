-- The lines of counts in Prometheus's text form.
use Rattle.std.specs.Prelude.{◌≡◌, ℕ, ◌+◌, List, [], ◌∷◌, ◌++◌, codes, decimal, Result, IfOk}
use Rattle.std.specs.Borrow.{Bor}
use Rattle.serve_metrics.specs.declared.text.Family.{Family}

-- how a family of counts is called: by its name, by what it counts, by its kind, and by its label where it has one
pub record Naming : Type 0 where
  pub name : List ℕ
  pub help : List ℕ
  pub kind : List ℕ
  pub label : List ℕ

-- a family's, wherever its words lie in memory
abbrev pub naming_of : Family → Naming
naming_of f = record { name = f.name.now; help = f.help.now; kind = f.kind.now; label = f.label.now }

-- what is told of a family before its counts
abbrev pub head_lines : Naming → List ℕ
head_lines f =
    codes "# HELP " ++ (f.name ++ (codes " " ++ (f.help ++ (codes "\n# TYPE " ++ (f.name ++ (codes " " ++ (f.kind ++ codes "\n")))))))

-- the count of a family that has one
abbrev pub plain_line : Naming → ℕ → List ℕ
plain_line f n = f.name ++ (codes " " ++ (decimal n ++ codes "\n"))

-- a count under a value of the family's label
abbrev pub named_line : Naming → List ℕ → ℕ → List ℕ
named_line f value n =
    f.name ++ (codes "{" ++ (f.label ++ (codes "=\"" ++ (value ++ (codes "\"} " ++ (decimal n ++ codes "\n"))))))

-- a count under a number
abbrev pub numbered_line : Naming → ℕ → ℕ → List ℕ
numbered_line f number n = named_line f (decimal number) n

abbrev pub count_lines : Naming → ℕ → List ℕ
count_lines f n = head_lines f ++ plain_line f n

abbrev pub each_named : Naming → List (List ℕ × ℕ) → List ℕ
each_named f [] = []
each_named f (c ∷ cs) = named_line f c.0 c.1 ++ each_named f cs

abbrev pub named_lines : Naming → List (List ℕ × ℕ) → List ℕ
named_lines f cs = head_lines f ++ each_named f cs

-- from this number on
abbrev pub each_numbered : Naming → ℕ → List ℕ → List ℕ
each_numbered f number [] = []
each_numbered f number (n ∷ ns) = numbered_line f number n ++ each_numbered f (number + 1) ns

abbrev pub numbered_lines : Naming → List ℕ → List ℕ
numbered_lines f ns = head_lines f ++ each_numbered f 0 ns

-- a text with such lines behind it
abbrev pub with_count : List ℕ → Naming → ℕ → List ℕ
with_count text f n = text ++ count_lines f n

abbrev pub with_named : List ℕ → Naming → List (List ℕ × ℕ) → List ℕ
with_named text f cs = text ++ named_lines f cs

abbrev pub with_numbered : List ℕ → Naming → List ℕ → List ℕ
with_numbered text f ns = text ++ numbered_lines f ns

-- an accepted call leaves this text
abbrev pub Leaves : List ℕ → List ℕ → {E : Type 0} → Result (Unit {0}) E → Type 0
Leaves new text result = IfOk result (λ _. new ≡ text)

-- values and their counts, wherever the values lie in memory
abbrev pub values_of : List (Bor (List ℕ) × ℕ) → List (List ℕ × ℕ)
values_of [] = []
values_of (c ∷ cs) = (c.0.now, c.1) ∷ values_of cs
