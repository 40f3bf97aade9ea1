-- The forms of a text's lines, how often a variable is named, and the texts that name each variable once.
use Rattle.std.specs.Prelude.{ℕ, ◌+◌, ◌≤◌, ◌≡◌, List, [], ◌∷◌, ◌++◌, Bool, false, not, cond, ◌&&◌, ◌||◌, length, replicate, eqb, Option, Some, None}
use Rattle.output.specs.Literals.{literal_of}
use Rattle.output.specs.Tokens.{Token, formed, literal, tokens_of, literals_in}
use Rattle.output.specs.declared.lines.LineForm.{LineForm}
use Rattle.output.specs.declared.lines.LineForm.TheVariants.{Comment, Satisfiable, Unsatisfiable, Values}
use Rattle.output.specs.declared.literals.Literal.{Literal}

-- a form before others; a comment's is left out
abbrev pub form_before : Option LineForm → List (Option LineForm) → List (Option LineForm)
form_before None fs = None ∷ fs
form_before (Some Comment) fs = fs
form_before (Some Satisfiable) fs = Some Satisfiable ∷ fs
form_before (Some Unsatisfiable) fs = Some Unsatisfiable ∷ fs
form_before (Some Values) fs = Some Values ∷ fs

-- the forms of the lines that are no comments, in order; a last line without LF is malformed
unfoldable pub forms_in : List Token → List (Option LineForm)
forms_in [] = []
forms_in (formed f ∷ ts) = form_before f (forms_in ts)
forms_in (literal l ∷ ts) = forms_in ts

-- how often a variable is named
unfoldable pub times_named : ℕ → List Literal → ℕ
times_named v [] = 0
times_named v (l ∷ ls) = cond (eqb l.variable v) 1 0 + times_named v ls

-- one of the literals is this variable with a minus
unfoldable pub is_negated : ℕ → List Literal → Bool
is_negated v [] = false
is_negated v (l ∷ ls) = (eqb l.variable v && not l.bare) || is_negated v ls

-- But for comments, the text is the line `s SATISFIABLE` and then lines of literals. The last literal is 0, and those before it name each variable
-- from 1 to n once, and no other.
pub record NamesOnce (n : ℕ) (t : List ℕ) : Type 0 where
  pub lines : ℕ
  pub status : forms_in (tokens_of literal_of t) ≡ Some Satisfiable ∷ replicate lines (Some Values)
  pub named : List Literal
  pub zero : Literal
  pub is_zero : zero.variable ≡ 0
  pub closed : literals_in (tokens_of literal_of t) ≡ named ++ (zero ∷ [])
  pub many : length named ≡ n
  pub once : (v : ℕ) → 1 ≤ v → v ≤ n → times_named v named ≡ 1
