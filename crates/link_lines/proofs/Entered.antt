-- A text that is an array: where its reader stands behind the bracket.
use Rattle.std.proofs.Common.{◌≡◌, ◌≤◌, ℕ, List, [], ◌∷◌, ◌++◌, Bool, true, false, Option, Some, None, is_some, Result, refl, sym, ap, ◌∙◌, subst, arith}
use Rattle.std.specs.Prelude.{MatchOption}
use Rattle.json.specs.Json as json
use Rattle.json.specs.Lex.{tokens}
use Rattle.json.specs.Reads as seen
use Rattle.json.specs.Token.{Token}
use Rattle.json.specs.Tree.{items_tokens, items_depth}
use Rattle.json.specs.declared.token.Token as code
use Rattle.serde_json.specs.Data.{Num, Data, null, boolean, number, string, array, object, Items}
use Rattle.serde_json.specs.Read.{read, max_depth, number_of}
use Rattle.json_parts.specs.Places.{number_data, data_of, items_data, At, AtItems}
use Rattle.json_parts.proofs.Converted.{stands}
use Rattle.json_parts.proofs.Places.{led}
use Rattle.json_parts.specs.Outline.{shallow}
use Rattle.link_lines.specs.declared.fault.LinkFault.{LinkFault}
use Rattle.link_lines.specs.declared.hearer.Hearer.{Hearer}
use Rattle.link_lines.specs.Results.{◌>>=◌, Answers, or_bad}
use Rattle.link_lines.specs.declared.kinds.Kind.{Kind}
use Rattle.link_lines.specs.declared.lines.Line.{Line}
use Rattle.link_lines.specs.Kinds.{kind_in}
use Rattle.link_lines.specs.Reading.{line_of_kind, line_in, AnswersArray}

pub kind_of_array : (d : Data) (k : Kind) → kind_in d ≡ Some k → (ds : Items) × (d ≡ array ds)
kind_of_array null k e = absurd (cc)
kind_of_array (boolean b) k e = absurd (cc)
kind_of_array (number n) k e = absurd (cc)
kind_of_array (string s) k e = absurd (cc)
kind_of_array (array ds) k e = (ds, refl)
kind_of_array (object ms) k e = absurd (cc)

number_is_none : (o : Option Num) (ds : Items) → number_data o ≡ array ds → ⊥
number_is_none None ds e = absurd (cc)
number_is_none (Some n) ds e = absurd (cc)

pub record Entered (ts : List Token) (d : Data) : Type 0 where
  pub items : json.Items
  pub opened : ts ≡ Token.begin_array ∷ (items_tokens items ++ [])
  pub depth : items_depth items ≤ max_depth
  pub value : array (items_data items) ≡ d

enter : (ts : List Token) (d : Data) (ds : Items) (j : json.Json) → At ts j [] → data_of j ≡ d → d ≡ array ds → Entered ts d
enter ts d ds json.null at is e = absurd (cc)
enter ts d ds (json.boolean b) at is e = absurd (cc)
enter ts d ds (json.number s) at is e = absurd (number_is_none (number_of s) ds (is ∙ e))
enter ts d ds (json.string s) at is e = absurd (cc)
enter ts d ds (json.array js) at is e = record { items = js; opened = at.0; depth = omega (arith, at.1); value = is }
enter ts d ds (json.object ms) at is e = absurd (cc)

pub entered : (text : List ℕ) (d : Data) (ds : Items) → read text ≡ Some d → d ≡ array ds → Entered (tokens text) d
entered text d ds e is = let s = stands text d e in enter (tokens text) d ds s.0 s.1 s.2 is

rest_of : List Token → List Token
rest_of [] = []
rest_of (t ∷ ts) = ts

pub rest_is : (old new ts : List Token) (t : Token) (o : Option code.Token) → MatchOption o ((old ≡ []) × (new ≡ [])) (λ u. old ≡ seen.token_of u ∷ new) → old ≡ t ∷ ts → new ≡ ts
unfolding rest_of
rest_is old new ts t None h e = absurd (let z : t ∷ ts ≡ [] = sym e ∙ h.0 in cc)
rest_is old new ts t (Some u) h e = ap rest_of (sym h ∙ e)

pub some_read : (o : Option Data) → is_some o ≡ true → (d : Data) × (o ≡ Some d)
some_read None e = absurd (cc)
some_read (Some d) e = (d, refl)

pub none_read : (o : Option Data) → is_some o ≡ false → o ≡ None
none_read None e = refl
none_read (Some d) e = absurd (cc)

-- what a line's kind reads in its array is what the text is
pub answered : (h : Hearer) (text : List ℕ) (d v : Data) (k : Kind) (old new : List Token) (o : Option code.Token) (r : Result Line LinkFault)
    → read text ≡ Some d → kind_in d ≡ Some k → v ≡ shallow 9 d → old ≡ tokens text
    → MatchOption o ((old ≡ []) × (new ≡ [])) (λ u. old ≡ seen.token_of u ∷ new)
    → AnswersArray new v (λ e. line_of_kind h e k) r → Answers r (line_in h d)
answered h text d v k old new o r reads is shown begun taken line =
    let a = kind_of_array d k is in
    within (entered text d a.0 reads a.1)
  where
    within : Entered (tokens text) d → Answers r (line_in h d)
    within en =
        let stands = rest_is old new (items_tokens en.items ++ []) Token.begin_array o taken (begun ∙ en.opened) in
        subst (Answers r) (ap (λ e. line_of_kind h e k) en.value ∙ sym (ap (λ q. or_bad q >>= line_of_kind h d) is))
        (line en.items [] (stands, en.depth) (shown ∙ ap (shallow 9) (sym en.value)))
