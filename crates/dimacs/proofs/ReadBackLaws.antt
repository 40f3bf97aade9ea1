-- The file, read back by a reader of any bytes: the numbers after its first line are the words of the list, in order, and its first line
-- tells variables and clauses. Digits are read by induction on their number, a step for each digit.
use mathlib.Core.Path.{◌≡◌, refl, ap, ◌∙◌}
use mathlib.Core.Bool.{Bool, true, false}
use mathlib.Core.List.{List, [], ◌∷◌, ◌++◌, append_assoc}
use Prim.Native.Nat.{ℕ, zero, suc, ◌+◌, ◌*◌, ◌/◌, ◌%◌, ◌<◌}
use native.Mathlib.Omega.{arith}
use lib.IntN.{ℤ, pos, negsuc}
use lib.ListN.{length, take, drop}
use borrow.Author.Tests.{ne_eqb}
use Rattle.model.specs.declared.Model.{Model}
use Rattle.model.specs.Automaton.{variables}
use Rattle.list.specs.Clauses.{clauses, words}
use Rattle.text.specs.bytes.Ascii.{ascii}
use Rattle.decimal.specs.Decimal.{digit, digits}
use Rattle.decimal.proofs.DecimalLaws.{digits_small, digits_step, digits_ind}
use Rattle.dimacs.specs.File.{space, line_feed, lines_of, first_line, file}
use Rattle.dimacs.specs.Written.{word_text, words_text}
use Rattle.dimacs.specs.ReadBack.{after_first_line, signed, numbers_from, numbers_in, read_back}
use Rattle.dimacs.proofs.LineLaws.{lines_are, text_none, text_cons, text_zero, text_other}

-- ---- digits
-- one digit more
digit_read : (minus : Bool) (n d : ℕ) (t : List ℕ) → d < 10 → numbers_from minus n (digit d ∷ t) ≡ numbers_from minus (n * 10 + d) t
unfolding numbers_from
digit_read minus n d t h =
    rw (ne_eqb (48 + d) 32 (λ e. omega arith), ne_eqb (48 + d) 10 (λ e. omega arith), ne_eqb (48 + d) 45 (λ e. omega arith))
    (ap (λ (k : ℕ). numbers_from minus (n * 10 + k) t) (omega arith))

-- a number from its first digit on
digits_read : (minus : Bool) (n : ℕ) (t : List ℕ) → numbers_from minus 0 (digits n ++ t) ≡ numbers_from minus n t
digits_read minus =
    digits_ind (λ n. (t : List ℕ) → numbers_from minus 0 (digits n ++ t) ≡ numbers_from minus n t)
    (λ n h t.
    ap (λ (l : List ℕ). numbers_from minus 0 (l ++ t)) (digits_small n h)
    ∙ digit_read minus 0 n t h
    ∙ ap (λ (k : ℕ). numbers_from minus k t) (omega arith))
    (λ n h ih t.
    ap (λ (l : List ℕ). numbers_from minus 0 (l ++ t)) (digits_step n h)
    ∙ ap (numbers_from minus 0) (append_assoc (digits (n / 10)) (digit (n % 10) ∷ []) t)
    ∙ ih (digit (n % 10) ∷ t)
    ∙ digit_read minus (n / 10) (n % 10) t (omega arith)
    ∙ ap (λ (k : ℕ). numbers_from minus k t) (omega arith))

-- no digit ends a line
digit_passed : (d : ℕ) (t : List ℕ) → d < 10 → after_first_line (digit d ∷ t) ≡ after_first_line t
unfolding after_first_line
digit_passed d t h = rw (ne_eqb (48 + d) 10 (λ e. omega arith))

digits_passed : (n : ℕ) (t : List ℕ) → after_first_line (digits n ++ t) ≡ after_first_line t
digits_passed =
    digits_ind (λ n. (t : List ℕ) → after_first_line (digits n ++ t) ≡ after_first_line t)
    (λ n h t. ap (λ (l : List ℕ). after_first_line (l ++ t)) (digits_small n h) ∙ digit_passed n t h)
    (λ n h ih t.
    ap (λ (l : List ℕ). after_first_line (l ++ t)) (digits_step n h)
    ∙ ap after_first_line (append_assoc (digits (n / 10)) (digit (n % 10) ∷ []) t)
    ∙ ih (digit (n % 10) ∷ t)
    ∙ digit_passed (n % 10) t (omega arith))

-- ---- words
-- the byte after a number
number_ends : (minus : Bool) (n : ℕ) (t : List ℕ) → numbers_from minus n (space ∷ t) ≡ signed minus n ∷ numbers_in t
unfolding numbers_from
number_ends minus n t = refl

line_ends : (minus : Bool) (n : ℕ) (t : List ℕ) → numbers_from minus n (line_feed ∷ t) ≡ signed minus n ∷ numbers_in t
unfolding numbers_from
line_ends minus n t = refl

minus_read : (n : ℕ) (t : List ℕ) → numbers_from false n (45 ∷ t) ≡ numbers_from true n t
unfolding numbers_from
minus_read n t = refl

-- digits with a space after them
number_read : (minus : Bool) (n : ℕ) (t : List ℕ) → numbers_from minus 0 (digits n ++ (space ∷ []) ++ t) ≡ signed minus n ∷ numbers_in t
number_read minus n t = ap (numbers_from minus 0) (append_assoc (digits n) (space ∷ []) t) ∙ digits_read minus n (space ∷ t) ∙ number_ends minus n t

word_read : (z : ℤ) (t : List ℕ) → numbers_in (word_text z ++ t) ≡ z ∷ numbers_in t
word_read (pos zero) t =
    ap (λ (l : List ℕ). numbers_in (l ++ t)) (text_zero (pos zero) refl) ∙ digit_read false 0 0 (line_feed ∷ t) (omega arith) ∙ line_ends false 0 t
word_read (pos (suc n)) t =
    ap (λ (l : List ℕ). numbers_in (l ++ t)) (text_other (pos (suc n)) (λ e. omega arith)) ∙ number_read false (suc n) t
word_read (negsuc n) t =
    ap (λ (l : List ℕ). numbers_in (l ++ t)) (text_other (negsuc n) (λ e. omega arith))
    ∙ minus_read 0 (digits (suc n) ++ (space ∷ []) ++ t)
    ∙ number_read true (suc n) t

-- the text of words, read back
pub text_read : (ws : List ℤ) → numbers_in (words_text ws) ≡ ws
unfolding numbers_from
text_read [] = ap numbers_in text_none
text_read (z ∷ ws) = ap numbers_in (text_cons z ws) ∙ word_read z (words_text ws) ∙ ap (λ (l : List ℤ). z ∷ l) (text_read ws)

-- ---- the first line
-- what follows the six bytes of its key
rest : ℕ → ℕ → List ℕ → List ℕ
rest v c t = digits v ++ (space ∷ digits c ++ (line_feed ∷ t))

first_parts : (v c : ℕ) (t : List ℕ) → first_line v c ++ t ≡ ascii "p cnf " ++ rest v c t
unfolding first_line rest
first_parts v c t = simp append_assoc

first_passed : (v c : ℕ) (t : List ℕ) → after_first_line (first_line v c ++ t) ≡ t
unfolding after_first_line rest
first_passed v c t = ap after_first_line (first_parts v c t) ∙ digits_passed v (space ∷ digits c ++ (line_feed ∷ t)) ∙ digits_passed c (line_feed ∷ t)

first_read : (v c : ℕ) (t : List ℕ) → numbers_in (rest v c t) ≡ pos v ∷ pos c ∷ numbers_in t
unfolding rest
first_read v c t =
    digits_read false v (space ∷ digits c ++ (line_feed ∷ t))
    ∙ number_ends false v (digits c ++ (line_feed ∷ t))
    ∙ ap (λ (l : List ℤ). pos v ∷ l) (digits_read false c (line_feed ∷ t) ∙ line_ends false c t)

-- ---- the file
module _ (m : Model) (k : ℕ) where
  abbrev v : ℕ
  v = variables m k

  abbrev c : ℕ
  c = length (clauses m k)

  abbrev lines : List ℕ
  lines = lines_of (clauses m k)

  file_parts : file m k ≡ ascii "p cnf " ++ rest v c lines
  unfolding file
  file_parts = first_parts v c lines

  -- the numbers after the first line are the words of the list, for every record and bound
  pub read_back_lem : read_back (file m k) ≡ words m k
  unfolding file words
  read_back_lem = ap numbers_in (first_passed v c lines ∙ lines_are (clauses m k)) ∙ text_read (words m k)

  -- the file begins with the key
  pub first_line_key : take 6 (file m k) ≡ ascii "p cnf "
  first_line_key = ap (take 6) file_parts

  -- the numbers after the key are first the variables and then how many clauses there are
  pub first_line_numbers : take 2 (numbers_in (drop 6 (file m k))) ≡ pos (variables m k) ∷ pos (length (clauses m k)) ∷ []
  first_line_numbers = ap (λ (l : List ℕ). take 2 (numbers_in (drop 6 l))) file_parts ∙ ap (take 2) (first_read v c lines)
