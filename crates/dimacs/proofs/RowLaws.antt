-- The lines of a row from the words of the row of its kind at the first block and a table of texts; rows whose lines have the same length.
use mathlib.Core.Path.{◌≡◌, refl, sym, ap, ap₂, ◌∙◌}
use mathlib.Core.Logic.{⊎_elim}
use mathlib.Core.List.{List, [], ◌∷◌, ◌++◌, map, flat_map, map-append}
use Prim.Native.Nat.{ℕ, suc, ◌+◌, ◌≤◌, ◌<◌}
use native.Mathlib.Numerals.{add-one}
use native.Mathlib.Omega.{arith}
use lib.IntN.{ℤ, pos, neg_ℤ, nat_abs}
use lib.ListN.{length, length-append}
use borrow.Author.Tests.{ne_eqb}
use Rattle.model.proofs.IndexedLaws.{lt_or_le}
use Rattle.list.specs.Lists.{All}
use Rattle.list.specs.Clauses.{Literal, bare, negated, Clause, word, clause_words, words_of}
use Rattle.list.proofs.Raised.{raise, raised}
use Rattle.decimal.specs.Decimal.{digits}
use Rattle.decimal.proofs.DecimalLaws.{digits_some, digits_most_five, digits_rise}
use Rattle.dimacs.specs.File.{space, lines_of}
use Rattle.dimacs.specs.Written.{sign_text, word_text, words_text}
use Rattle.dimacs.specs.Texts.{most_near, entries_text, HasText, raised_word, TextsOf}
use Rattle.dimacs.proofs.LineLaws.{text_cons, sign_most, lines_are}
use Rattle.dimacs.proofs.TextLaws.{raised_zero, raised_other}

-- ---- the words of raised clauses
word_raised : (d : ℕ) (l : Literal) → word (raise d l) ≡ raised_word d (word l)
unfolding raised_word
word_raised d (bare i) = rw (ne_eqb (i + 1) 0 (λ e. omega arith)) (ap pos (omega arith))
word_raised d (negated i) =
    let e : d + i + 1 ≡ d + suc i = omega arith in
    ap (λ (n : ℕ). neg_ℤ (pos n)) e ∙ sym (ap (λ (n : ℕ). raised_word d (neg_ℤ (pos n))) (add-one i) ∙ rw (ne_eqb (suc i) 0 (λ q. omega arith)) refl)

literals_raised : (d : ℕ) (c : Clause) → map word (map (raise d) c) ≡ map (raised_word d) (map word c)
literals_raised d [] = refl
literals_raised d (l ∷ c) = ap₂ (λ (z : ℤ) (zs : List ℤ). z ∷ zs) (word_raised d l) (literals_raised d c)

clause_raised : (d : ℕ) (c : Clause) → clause_words (map (raise d) c) ≡ map (raised_word d) (clause_words c)
unfolding clause_words raised_word
clause_raised d c = ap (λ (zs : List ℤ). zs ++ (pos 0 ∷ [])) (literals_raised d c) ∙ sym (map-append (raised_word d) (map word c) (pos 0 ∷ []))

pub words_raised : (d : ℕ) (cs : List Clause) → words_of (raised d cs) ≡ map (raised_word d) (words_of cs)
unfolding words_of
words_raised d [] = refl
words_raised d (c ∷ cs) =
    ap₂ (λ (x y : List ℤ). x ++ y) (clause_raised d c) (words_raised d cs) ∙ sym (map-append (raised_word d) (clause_words c) (words_of cs))

-- ---- how long the text of a raised word is
raised_long : (d : ℕ) (z : ℤ) → (nat_abs z ≡ 0 → ⊥) → length (word_text (raised_word d z)) ≡ length (sign_text z) + length (digits (d + nat_abs z)) + 1
raised_long d z h =
    ap length (raised_other d z h)
    ∙ omega (
      arith,
      length-append (sign_text z ++ digits (d + nat_abs z)) (space ∷ []),
      length-append (sign_text z) (digits (d + nat_abs z)),
    )

-- it is 2 to 7 bytes long
module _ (d n : ℕ) (small : d + n < 100000) (z : ℤ) (h : nat_abs z ≤ n) where
  abbrev Long : Type 0
  Long = (2 ≤ length (word_text (raised_word d z))) × (length (word_text (raised_word d z)) ≤ 7)

  raised_between : Long
  raised_between = ⊎_elim zero_long other_long (lt_or_le (nat_abs z) 1)
    where
      zero_long : nat_abs z < 1 → Long
      zero_long l = let e = ap length (raised_zero d z (omega arith)) in (omega (arith, e), omega (arith, e))

      other_long : 1 ≤ nat_abs z → Long
      other_long l =
          let e = raised_long d z (λ q. omega arith) in
          let s = sign_most z in
          (omega (arith, e, digits_some (d + nat_abs z)), omega (arith, e, s, digits_most_five (d + nat_abs z) (omega arith)))

-- ---- the text of words by a table
module _ {d n : ℕ} (small : d + n < 100000) (near : n ≤ most_near) {texts : List ℕ} (t : TextsOf d n texts) where
  pub has_texts : (ws : List ℤ) → All (λ z. nat_abs z ≤ n) ws → All (HasText texts) ws
  has_texts [] h = tt
  has_texts (z ∷ ws) h =
      let e = ap length (t.texts_are z h.0) in
      let l = raised_between d n small z h.0 in
      (record { near = omega arith; least = omega (arith, e, l.0); most = omega (arith, e, l.1) }, has_texts ws h.1)

  pub entries_are : (ws : List ℤ) → All (λ z. nat_abs z ≤ n) ws → entries_text texts ws ≡ words_text (map (raised_word d) ws)
  unfolding entries_text words_text flat_map
  entries_are [] h = refl
  entries_are (z ∷ ws) h = ap₂ (λ (x y : List ℕ). x ++ y) (t.texts_are z h.0) (entries_are ws h.1)

  -- the lines of raised clauses
  pub entries_lines : (cs : List Clause) → All (λ z. nat_abs z ≤ n) (words_of cs) → entries_text texts (words_of cs) ≡ lines_of (raised d cs)
  entries_lines cs h = entries_are (words_of cs) h ∙ ap words_text (sym (words_raised d cs)) ∙ sym (lines_are (raised d cs))

-- ---- lines of the same length: where all numbers have the same digits
module _ (a b n : ℕ) (order : a ≤ b) (same : length (digits (a + 1)) ≡ length (digits (b + n))) where
  same_digits : (i : ℕ) → 1 ≤ i → i ≤ n → length (digits (a + i)) ≡ length (digits (b + i))
  same_digits i h l =
      let least = digits_rise (a + i) (a + 1) (omega arith) in
      let upper = digits_rise (b + i) (a + i) (omega arith) in
      let most = digits_rise (b + n) (b + i) (omega arith) in
      omega (arith, least, upper, most, same)

  word_same : (z : ℤ) → nat_abs z ≤ n → length (word_text (raised_word a z)) ≡ length (word_text (raised_word b z))
  word_same z h =
      ⊎_elim
      (λ (l : nat_abs z < 1).
      let e : nat_abs z ≡ 0 = omega arith in
      ap length (raised_zero a z e ∙ sym (raised_zero b z e)))
      (λ (l : 1 ≤ nat_abs z).
      omega (arith, raised_long a z (λ q. omega arith), raised_long b z (λ q. omega arith), same_digits (nat_abs z) l h))
      (lt_or_le (nat_abs z) 1)

  words_same : (ws : List ℤ) → All (λ z. nat_abs z ≤ n) ws → length (words_text (map (raised_word a) ws)) ≡ length (words_text (map (raised_word b) ws))
  words_same [] h = refl
  words_same (z ∷ ws) h =
      let x = raised_word a z in
      let y = raised_word b z in
      omega (
        arith,
        ap length (text_cons x (map (raised_word a) ws)),
        ap length (text_cons y (map (raised_word b) ws)),
        length-append (word_text x) (words_text (map (raised_word a) ws)),
        length-append (word_text y) (words_text (map (raised_word b) ws)),
        word_same z h.0,
        words_same ws h.1,
      )

  pub lines_same : (cs : List Clause) → All (λ z. nat_abs z ≤ n) (words_of cs) → length (lines_of (raised a cs)) ≡ length (lines_of (raised b cs))
  lines_same cs h =
      ap length (lines_are (raised a cs) ∙ ap words_text (words_raised a cs))
      ∙ words_same (words_of cs) h
      ∙ sym (ap length (lines_are (raised b cs) ∙ ap words_text (words_raised b cs)))
