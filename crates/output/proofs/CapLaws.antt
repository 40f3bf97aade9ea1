-- A variable above n is refused whatever it is: a number that is cut off at n + 1 is judged as the whole number.
use Rattle.std.specs.Prelude.{Option, Some, None}
use Prim.Native.Nat.{ℕ, ◌+◌, ◌≤◌, ◌<◌}
use mathlib.Core.Path.{◌≡◌, refl, sym, ap, ◌∙◌}
use mathlib.Core.Logic.{⊎_elim}
use mathlib.Core.List.{List, [], ◌∷◌, ◌++◌, map, foldl}
use native.Mathlib.Omega.{arith}
use borrow.Author.Tests.{lt-ltb, le-ltb, ne_eqb}
use Rattle.text.specs.bytes.Bytes.{split_on}
use Rattle.model.proofs.IndexedLaws.{lt_or_le}
use Rattle.output.specs.declared.lines.LineForm.{LineForm}
use Rattle.output.specs.declared.lines.LineForm.TheVariants.{Comment, Satisfiable, Unsatisfiable, Values}
use Rattle.output.specs.declared.literals.Literal.{Literal}
use Rattle.output.specs.Literals.{literal_of}
use Rattle.output.specs.Lines.{form_of, words_of}
use Rattle.output.specs.Tokens.{Token, formed, literal, literals_by, line_tokens, last_tokens, part_tokens, tokens_of}
use Rattle.output.specs.OutputCall.{Progress, start, judge, judged}
use Rattle.output.specs.Counting.{capped, literal_up_to}

-- a literal, and a token, with the number cut off
abbrev pub cut : ℕ → Literal → Literal
cut n l = record { variable = capped n l.variable; bare = l.bare }

abbrev pub cut_token : ℕ → Token → Token
cut_token n (formed f) = formed f
cut_token n (literal l) = literal (cut n l)

-- ---- the tokens of a text with numbers cut off
map_app : (n : ℕ) (a b : List Token) → map (cut_token n) (a ++ b) ≡ map (cut_token n) a ++ map (cut_token n) b
map_app n [] b = refl
map_app n (t ∷ a) b = ap (λ (l : List Token). cut_token n t ∷ l) (map_app n a b)

words_cut : (n : ℕ) (ws : List (List ℕ)) → map (λ w. literal (literal_up_to n w)) ws ≡ map (cut_token n) (map (λ w. literal (literal_of w)) ws)
unfolding literal_of literal_up_to
words_cut n [] = refl
words_cut n (w ∷ ws) = ap (λ (l : List Token). literal (literal_up_to n w) ∷ l) (words_cut n ws)

by_form : (n : ℕ) (f : Option LineForm) (l : List ℕ) → literals_by (literal_up_to n) f l ≡ map (cut_token n) (literals_by literal_of f l)
by_form n None l = refl
by_form n (Some Comment) l = refl
by_form n (Some Satisfiable) l = refl
by_form n (Some Unsatisfiable) l = refl
by_form n (Some Values) l = words_cut n (words_of l)

line_cut : (n : ℕ) (l : List ℕ) → line_tokens (literal_up_to n) l ≡ map (cut_token n) (line_tokens literal_of l)
unfolding line_tokens
line_cut n l = ap (λ (ts : List Token). formed (form_of l) ∷ ts) (by_form n (form_of l) l)

last_cut : (n : ℕ) (l : List ℕ) → last_tokens l ≡ map (cut_token n) (last_tokens l)
last_cut n [] = refl
last_cut n (b ∷ l) = refl

parts_cut : (n : ℕ) (ps : List (List ℕ)) → part_tokens (literal_up_to n) ps ≡ map (cut_token n) (part_tokens literal_of ps)
unfolding part_tokens
parts_cut n [] = refl
parts_cut n (l ∷ []) = last_cut n l
parts_cut n (l ∷ m ∷ ps) =
    rw (line_cut n l, parts_cut n (m ∷ ps)) (sym (map_app n (line_tokens literal_of l) (part_tokens literal_of (m ∷ ps))))

pub tokens_cut : (n : ℕ) (t : List ℕ) → tokens_of (literal_up_to n) t ≡ map (cut_token n) (tokens_of literal_of t)
unfolding tokens_of
tokens_cut n t = parts_cut n (split_on 10 t)

-- ---- they are judged as the whole numbers
cut_small : (n : ℕ) (l : Literal) → l.variable ≤ n → cut n l ≡ l
cut_small n l h = rw (le-ltb n l.variable h)

cut_above : (n : ℕ) (p : Progress) (l : Literal) → n < l.variable → judge n p (literal (cut n l)) ≡ judge n p (literal l)
unfolding judge
cut_above n p l q =
    let nonzero = ne_eqb l.variable 0 (λ z. omega (arith, q, z)) in
    let one-above = lt-ltb n (n + 1) (omega arith) in
    rw (lt-ltb n l.variable q, nonzero, ne_eqb (n + 1) 0 (λ z. omega (arith, z)), one-above)

judge_cut : (n : ℕ) (p : Progress) (t : Token) → judge n p (cut_token n t) ≡ judge n p t
judge_cut n p (formed f) = refl
judge_cut n p (literal l) =
    ⊎_elim (cut_above n p l) (λ q. ap (λ (k : Literal). judge n p (literal k)) (cut_small n l q)) (lt_or_le n l.variable)

fold_cut : (n : ℕ) (ts : List Token) (p : Progress) → foldl (judge n) p (map (cut_token n) ts) ≡ foldl (judge n) p ts
fold_cut n [] p = refl
fold_cut n (t ∷ ts) p = ap (λ (q : Progress). foldl (judge n) q (map (cut_token n) ts)) (judge_cut n p t) ∙ fold_cut n ts (judge n p t)

pub judged_cut : (n : ℕ) (t : List ℕ) → judged n t ≡ foldl (judge n) start (tokens_of (literal_up_to n) t)
unfolding judged
judged_cut n t = rw (tokens_cut n t) (sym (fold_cut n (tokens_of literal_of t) start))

-- ---- no variable is above n + 1
pub cut_most : (n : ℕ) (l : Literal) → (cut n l).variable ≤ n + 1
cut_most n l = ⊎_elim (λ q. rw (lt-ltb n l.variable q) (omega arith)) (λ q. rw (le-ltb n l.variable q) (omega (arith, q))) (lt_or_le n l.variable)
