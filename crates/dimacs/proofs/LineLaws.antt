-- The lines of clauses are the texts of their words; how long a text is.
use mathlib.Core.Path.{◌≡◌, refl, sym, ap, ◌∙◌}
use mathlib.Core.Bool.{Bool, true, false, cond}
use mathlib.Core.List.{List, [], ◌∷◌, ◌++◌, map, flat_map, append_assoc}
use Prim.Native.Nat.{ℕ, ◌+◌, ◌*◌, ◌^◌, ◌≤◌, ◌<◌}
use native.Mathlib.Numerals.{add-one}
use native.Mathlib.Omega.{arith}
use lib.Dec.{eqb}
use lib.IntN.{ℤ, pos, negsuc, nat_abs}
use lib.ListN.{length, length-append}
use borrow.Author.Tests.{ne_eqb}
use Rattle.model.specs.Indexed.{each}
use Rattle.new_values.specs.NewValues.{is_negative}
use Rattle.list.specs.Lists.{All}
use Rattle.list.specs.Clauses.{Literal, bare, negated, Clause, word, clause_words, words_of}
use Rattle.list.proofs.ListLaws.{flat_app, flat_none, flat_one, flat_each}
use Rattle.text.specs.bytes.Ascii.{ascii}
use Rattle.decimal.specs.Decimal.{digits, digit}
use Rattle.decimal.proofs.DecimalLaws.{digits_some, digits_most_five, digits_most_twenty}
use Rattle.dimacs.specs.File.{space, line_feed, literal_text, clause_line, lines_of, first_line}
use Rattle.dimacs.specs.Written.{sign_text, word_text, words_text}

-- ---- the text of words, word after word
pub text_none : words_text [] ≡ []
unfolding words_text
text_none = flat_none word_text

pub text_append : (a b : List ℤ) → words_text (a ++ b) ≡ words_text a ++ words_text b
unfolding words_text
text_append = flat_app word_text

pub text_one : (z : ℤ) → words_text (z ∷ []) ≡ word_text z
unfolding words_text
text_one = flat_one word_text

pub text_cons : (z : ℤ) (ws : List ℤ) → words_text (z ∷ ws) ≡ word_text z ++ words_text ws
unfolding words_text flat_map
text_cons z ws = refl

-- a word that is not 0, and the 0 that ends a line
pub text_zero : (z : ℤ) → nat_abs z ≡ 0 → word_text z ≡ digit 0 ∷ line_feed ∷ []
unfolding word_text
text_zero z h = rw h

pub text_other : (z : ℤ) → (nat_abs z ≡ 0 → ⊥) → word_text z ≡ sign_text z ++ digits (nat_abs z) ++ (space ∷ [])
unfolding word_text
text_other z h = rw (ne_eqb (nat_abs z) 0 h)

-- ---- the lines of clauses
pub lines_each : (n : ℕ) (f : ℕ → List Clause) → lines_of (each n f) ≡ each n (λ i. lines_of (f i))
unfolding lines_of
lines_each = flat_each clause_line

literal_is : (l : Literal) → literal_text l ++ (space ∷ []) ≡ word_text (word l)
literal_is (bare i) = sym (text_other (pos (i + 1)) (λ e. omega arith))
literal_is (negated i) = rw (add-one i) (sym (text_other (negsuc i) (λ e. omega arith)))

literals_are : (c : Clause) → flat_map (λ l. literal_text l ++ (space ∷ [])) c ≡ words_text (map word c)
unfolding flat_map
literals_are [] = sym text_none
literals_are (l ∷ c) = rw (literal_is l, literals_are c) (sym (text_cons (word l) (map word c)))

line_is : (c : Clause) → clause_line c ≡ words_text (clause_words c)
unfolding clause_line clause_words
line_is c =
    append_assoc (flat_map (λ l. literal_text l ++ (space ∷ [])) c) (digit 0 ∷ []) (line_feed ∷ [])
    ∙ ap (λ (t : List ℕ). t ++ (digit 0 ∷ line_feed ∷ [])) (literals_are c)
    ∙ ap (λ (t : List ℕ). words_text (map word c) ++ t) (sym (text_one (pos 0) ∙ text_zero (pos 0) refl))
    ∙ sym (text_append (map word c) (pos 0 ∷ []))

-- the file's lines, which are defined by clauses, are the text of the words
pub lines_are : (cs : List Clause) → lines_of cs ≡ words_text (words_of cs)
unfolding lines_of words_of flat_map
lines_are [] = sym text_none
lines_are (c ∷ cs) = rw (line_is c, lines_are cs) (sym (text_append (clause_words c) (words_of cs)))

-- ---- how long
pub sign_most : (z : ℤ) → length (sign_text z) ≤ 1
sign_most z = go (is_negative z)
  where
    go : (b : Bool) → length {A = ℕ} (cond b (45 ∷ []) []) ≤ 1
    go true = omega arith
    go false = omega arith

-- a word has its digits, and at most a sign and the byte that ends it
pub word_most : (z : ℤ) → length (word_text z) ≤ length (digits (nat_abs z)) + 2
unfolding word_text
word_most z = go (eqb (nat_abs z) 0)
  where
    go : (b : Bool) → length (cond b (digit 0 ∷ line_feed ∷ []) (sign_text z ++ digits (nat_abs z) ++ (space ∷ []))) ≤ length (digits (nat_abs z)) + 2
    go true = omega (arith, digits_some (nat_abs z))
    go false =
        omega (
          arith,
          length-append (sign_text z ++ digits (nat_abs z)) (space ∷ []),
          length-append (sign_text z) (digits (nat_abs z)),
          sign_most z,
        )

-- a word of at most five digits
pub word_short : (z : ℤ) → nat_abs z < 100000 → length (word_text z) ≤ 7
word_short z h = omega (arith, word_most z, digits_most_five (nat_abs z) h)

pub words_short : (ws : List ℤ) → All (λ z. nat_abs z < 100000) ws → length (words_text ws) ≤ 7 * length ws
words_short [] h = omega (arith, ap length text_none)
words_short (z ∷ ws) h =
    omega (
      arith,
      ap length (text_cons z ws),
      length-append (word_text z) (words_text ws),
      word_short z h.0,
      words_short ws h.1,
    )

pub lines_short : (cs : List Clause) → All (λ z. nat_abs z < 100000) (words_of cs) → length (lines_of cs) ≤ 7 * length (words_of cs)
lines_short cs h = omega (arith, ap length (lines_are cs), words_short (words_of cs) h)

-- the first line
pub first_line_long : (v c : ℕ) → length (first_line v c) ≡ 6 + length (digits v) + 1 + length (digits c) + 1
unfolding first_line
first_line_long v c =
    let key = ascii "p cnf " in
    omega (
      arith,
      length-append (key ++ digits v ++ (space ∷ []) ++ digits c) (line_feed ∷ []),
      length-append (key ++ digits v ++ (space ∷ [])) (digits c),
      length-append (key ++ digits v) (space ∷ []),
      length-append key (digits v),
    )

pub first_line_most : (v c : ℕ) → v < 2 ^ 64 → c < 2 ^ 64 → length (first_line v c) ≤ 48
first_line_most v c h l = omega (arith, first_line_long v c, digits_most_twenty v h, digits_most_twenty c l)
