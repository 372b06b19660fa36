-- Nodes that are added one after another are those of a world that starts.
use Rattle.std.proofs.Common.{◌≡◌, ℕ, false, List, [], ◌∷◌, ◌++◌, map as each, refl, sym, ◌∙◌, ap, subst, true, append_assoc}
use Rattle.std.specs.List.{list_all}
use Rattle.presence_base.specs.declared.dots.Replica.{Replica}
use Rattle.presence_base.specs.Names.{is_node_name}
use Rattle.presence_base.specs.Order.{same_text}
use Rattle.orswot_core.specs.Checks.{has_repeat}
use Rattle.node_world.specs.declared.event.Event.{Event}
use Rattle.node_world.specs.World.{WorldValue, first_life, with_lives, start, Runs}
use Rattle.node_world.specs.Claims.{AreNames}
use Rattle.node_world.specs.Lives.{no_world, with_node, with_nodes}

nil-append : (xs : List Replica) → xs ++ [] ≡ xs
nil-append [] = refl
nil-append (x ∷ xs) = ap (λ ys. x ∷ ys) (nil-append xs)

nodes_are : (w : WorldValue) (ns : List (List ℕ)) → with_nodes w ns ≡ record { lives = with_lives w.lives ns; present = w.present ++ each first_life ns; told = w.told }
nodes_are w [] = λ i. record { lives = w.lives; present = sym (nil-append w.present) i; told = w.told }
nodes_are w (n ∷ ns) = nodes_are (with_node w n) ns ∙ (λ i. record { lives = with_lives (with_node w n).lives ns; present = append_assoc w.present (first_life n ∷ []) (each first_life ns) i; told = w.told })

begun_is : (ns : List (List ℕ)) → with_nodes no_world ns ≡ start ns
begun_is ns = nodes_are no_world ns

pub started : (ns : List (List ℕ)) (a b : WorldValue) → a ≡ no_world → b ≡ with_nodes a ns → b ≡ start ns
started ns a b e f = f ∙ (ap (λ x. with_nodes x ns) e ∙ begun_is ns)

pub runs_from : (ns : List (List ℕ)) (es : List Event) (a w : WorldValue) → a ≡ start ns → Runs a es w → Runs (start ns) es w
runs_from ns es a w e r = subst (λ x. Runs x es w) e r

pub names_are : (ns : List (List ℕ)) → list_all is_node_name ns ≡ true → has_repeat same_text ns ≡ false → AreNames ns
names_are ns a b = record { are = a; once = b }

pub ruleset starting = (started)
