-- The topics in force as a map.
use Rattle.std.proofs.Common.{◌≡◌, ℕ, List, [], ◌∷◌, ◌++◌, Bool, true, false, cond, map, Option, Some, None, option_map, refl, sym, ap, ◌∙◌, rules}
use Rattle.std.specs.Borrow.{Bor}
use Rattle.std.specs.Option.{option_copied, unwrap_or}
use Rattle.std.specs.Cmp.Rules.{comparing}
use Rattle.std.specs.Cmp.Lexicographic.{pointwise}
use Rattle.std.specs.Prelude.{nat_eq, Result, Ok, Err, IsOk, OnOk}
use Rattle.indexmap.specs.IndexMap.{IndexMap, insert_entry}
use Rattle.indexmap.proofs.CallerLemmas.{insert_entry-new}
use Rattle.std.specs.Map.{keys_of, lookup, lookup_key, remove_entry}
use Rattle.presence_base.specs.Order.{same_text}
use Rattle.presence_journal.proofs.Same.{same_text-true}
use Rattle.channel_rules.specs.InForce.{Joined, joined_of, find, without_topic}
use Rattle.channel_rules.specs.declared.topics.Join.{Join}

pub same-bytes : (a b : List ℕ) → pointwise nat_eq a b ≡ same_text a b
same-bytes a b = search (comparing, rules)

found_at : (t k : List ℕ) (join : Join) (b : Bool) (rest : Option Join) (others : Option Joined) → (b ≡ true → t ≡ k) → option_map (λ s. joined_of (t, s)) rest ≡ others
    → option_map (λ s. joined_of (t, s)) (cond b (Some join) rest) ≡ cond b (Some (joined_of (k, join))) others
found_at t k join true rest others same h = ap (λ (x : List ℕ). Some (joined_of (x, join))) (same refl)
found_at t k join false rest others same h = h

key_at : (t : List ℕ) (b : Bool) (found : List ℕ) (rest : Option (List ℕ)) (k : List ℕ) → (b ≡ true → found ≡ t) → (rest ≡ Some k → k ≡ t)
    → cond b (Some found) rest ≡ Some k → k ≡ t
key_at t true found rest k first others h = sym (ap (λ (o : Option (List ℕ)). unwrap_or o found) h) ∙ first refl
key_at t false found rest k first others h = others h

gone_at : (b : Bool) (e : List ℕ × Join) (es rest : List (List ℕ × Join)) (others : List Joined) → map joined_of rest ≡ others
    → map joined_of (cond b es (e ∷ rest)) ≡ cond b (map joined_of es) (joined_of e ∷ others)
gone_at true e es rest others h = refl
gone_at false e es rest others h = ap (λ js. joined_of e ∷ js) h

module _ (t : List ℕ) (test : List ℕ → Bool) (is : (k : List ℕ) → test k ≡ same_text t k) where
  pub find-lookup : (es : List (List ℕ × Join)) → option_map (λ s. joined_of (t, s)) (lookup test es) ≡ find t (map joined_of es)
  find-lookup [] = refl
  find-lookup (e ∷ es) = rw (is e.0) (found_at t e.0 e.1 (same_text t e.0) (lookup test es) (find t (map joined_of es)) (same_text-true t e.0) (find-lookup es))

  pub remove-is-without : (es : List (List ℕ × Join)) → map joined_of (remove_entry test es) ≡ without_topic t (map joined_of es)
  remove-is-without [] = refl
  remove-is-without (e ∷ es) = rw (is e.0) (gone_at (same_text t e.0) e es (remove_entry test es) (without_topic t (map joined_of es)) (remove-is-without es))

  pub find-copied : (o : Option (Bor Join)) (es : List (List ℕ × Join)) → option_copied o ≡ lookup test es → option_map (λ (s : Bor Join). joined_of (t, s.now)) o ≡ find t (map joined_of es)
  find-copied None es h = ap (option_map (λ (s : Join). joined_of (t, s))) h ∙ find-lookup es
  find-copied (Some s) es h = ap (option_map (λ (s : Join). joined_of (t, s))) h ∙ find-lookup es

  pub find-none : (es : List (List ℕ × Join)) → lookup test es ≡ None → find t (map joined_of es) ≡ None
  find-none es h = sym (find-lookup es) ∙ ap (option_map (λ (s : Join). joined_of (t, s))) h

  -- a key that is found is the topic
  pub key-is : (es : List (List ℕ × Join)) (k : List ℕ) → lookup_key test es ≡ Some k → k ≡ t
  key-is [] k h = absurd (cc)
  key-is (e ∷ es) k h = key_at t (test e.0) e.0 (lookup_key test es) k (λ yes. sym (same_text-true t e.0 (sym (is e.0) ∙ yes))) (key-is es k) h

  none_of : (o : Option Join) → option_map (λ s. joined_of (t, s)) o ≡ None → o ≡ None
  none_of None h = refl
  none_of (Some s) h = absurd (cc)

  pub lookup-none : (es : List (List ℕ × Join)) → find t (map joined_of es) ≡ None → lookup test es ≡ None
  lookup-none es h = none_of (lookup test es) (find-lookup es ∙ h)

pub map-append : (es : List (List ℕ × Join)) (e : List ℕ × Join) → map joined_of (es ++ e ∷ []) ≡ map joined_of es ++ joined_of e ∷ []
map-append [] e = refl
map-append (x ∷ es) e = ap (λ js. joined_of x ∷ js) (map-append es e)

is_there : {A E : Type 0} (X : Type 0) (r : Result A E) → IsOk r → OnOk r X → X
is_there X (Ok x) h k = k
is_there X (Err e) h k = absurd (cc)

-- a new topic goes last
pub joined-last : {S A E : Type 0} (eq : List ℕ → List ℕ → Bool) → ((a b : List ℕ) → eq a b ≡ same_text a b) → (m : IndexMap (List ℕ) Join S) (t : List ℕ) (join : Join) (after : List (List ℕ × Join)) (r : Result A E)
    → find t (map joined_of m.entries) ≡ None → IsOk r → OnOk r (after ≡ insert_entry eq m.entries t join)
    → map joined_of after ≡ map joined_of m.entries ++ joined_of (t, join) ∷ []
joined-last eq is m t join after r none is_ok entries =
    let absent : lookup (eq t) m.entries ≡ None = lookup-none t (eq t) (is t) m.entries none in
    let last : after ≡ m.entries ++ (t, join) ∷ [] = is_there _ r is_ok entries ∙ insert_entry-new eq m t join absent in
    ap (map joined_of) last ∙ map-append m.entries (t, join)

-- the topics by name
pub map-topics : (es : List (List ℕ × Join)) → keys_of es ≡ map (λ (j : Joined). j.topic) (map joined_of es)
map-topics [] = refl
map-topics (e ∷ es) = ap (λ ts. e.0 ∷ ts) (map-topics es)
