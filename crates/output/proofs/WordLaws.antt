-- Laws of words: a minus, digits, 0, the number that digits say, and the words of a line.
use Prim.Native.Nat.{ℕ, suc, ◌+◌, ◌-◌, ◌*◌, ◌≤◌, ◌<◌}
use mathlib.Core.Path.{◌≡◌, refl, sym, ap, ◌∙◌}
use mathlib.Core.List.{List, [], ◌∷◌, ◌++◌, map, append-nil}
use mathlib.Core.Logic.{⊎_elim}
use mathlib.Core.Bool.{Bool, true, false, not, ◌&&◌, false≢true}
use native.Mathlib.Numerals.{add-one}
use native.Mathlib.Omega.{arith}
use denote.Ref.{Bor}
use lib.ListN.{length, get_or, take, drop, drop_of_length-le}
use lib.Seq.{append_snoc, drop-cons, take-suc}
use lib.Dec.{eqb}
use lib.Pointwise.{pointwise}
use borrow.Author.Tests.{eq-eqb, ne_eqb, eqb-true, lt-ltb, le-ltb}
use Rattle.std.specs.Prelude.{Option, Some, None, MatchOption}
use Rattle.std.specs.List.{list_all}
use Rattle.std.specs.Option.{unwrap_or}
use Rattle.model.proofs.IndexedLaws.{lt_or_le}
use Rattle.text.specs.bytes.Bytes.{is_digit, split_on, grow}
use Rattle.output.specs.Literals.{are_digits, is_positive, has_minus, unsigned, is_zero, names_variable, are_literals, number_after}
use Rattle.output.specs.Counting.{capped, literal_up_to}
use Rattle.output.proofs.Parts.{part_any}
use Rattle.output.proofs.LineLaws.{flip}

and_true : (t : Bool) → t && true ≡ t
and_true true = refl
and_true false = refl

and_false : (t : Bool) → t && false ≡ false
and_false true = refl
and_false false = refl

-- ---- a minus
stripped_minus : (w : List ℕ) → pointwise eqb (take 1 w) (45 ∷ []) ≡ has_minus w
unfolding has_minus
stripped_minus [] = refl
stripped_minus (b ∷ w) = and_true (eqb b 45)

pub begins_minus : (w : List ℕ) → pointwise eqb (45 ∷ []) (take 1 w) ≡ has_minus w
unfolding has_minus
begins_minus [] = refl
begins_minus (b ∷ w) = rw (flip 45 b) (and_true (eqb b 45))

pub unsigned_is : (w : Bor (List ℕ)) (r : Option (Bor (List ℕ))) {u : Bor (List ℕ)}
    → MatchOption r (pointwise eqb (take 1 w.now) (45 ∷ []) ≡ false)
    (λ x. (pointwise eqb (take 1 w.now) (45 ∷ []) ≡ true) × (x.now ≡ drop 1 w.now) × (length x.now + 1 ≡ length w.now))
    → u ≡ unwrap_or r w → u.now ≡ unsigned w.now
unfolding unsigned
unsigned_is w None m e = ap (λ (l : Bor (List ℕ)). l.now) e ∙ rw (sym (stripped_minus w.now) ∙ m)
unsigned_is w (Some x) m e = ap (λ (l : Bor (List ℕ)). l.now) e ∙ rw (sym (stripped_minus w.now) ∙ m.0) m.1

-- ---- digits, a number from 1 on, and 0
pub digits_are : (d : List ℕ) → list_all is_digit d ≡ are_digits d
unfolding are_digits
digits_are [] = refl
digits_are (x ∷ d) = ap (λ (b : Bool). is_digit x && b) (digits_are d)

pub positive_none : (d : List ℕ) → length d ≡ 0 → false ≡ is_positive d
unfolding is_positive
positive_none [] h = refl
positive_none (b ∷ d) h = absurd (omega arith)

pub positive_zero : (d : List ℕ) → (length d ≡ 0 → ⊥) → get_or d 0 0 ≡ 48 → false ≡ is_positive d
unfolding is_positive
positive_zero [] h e = absurd (h refl)
positive_zero (b ∷ d) h e = rw (eq-eqb b 48 e)

pub positive_other : (d : List ℕ) → (length d ≡ 0 → ⊥) → (get_or d 0 0 ≡ 48 → ⊥) → are_digits d ≡ is_positive d
unfolding is_positive
positive_other [] h e = absurd (h refl)
positive_other (b ∷ d) h e = rw (ne_eqb b 48 e)

pub zero_is : (w : List ℕ) → pointwise eqb w (48 ∷ []) ≡ is_zero w
unfolding is_zero
zero_is [] = refl
zero_is (d ∷ []) = and_true (eqb d 48)
zero_is (d ∷ e ∷ w) = and_false (eqb d 48)

-- ---- the words of a line: w, and those after it
module _ (s w after : List ℕ) (q : split_on 32 s ≡ w ∷ split_on 32 after) where
  pub words_other : names_variable w ≡ false → are_literals (split_on 32 s) ≡ false
  unfolding are_literals
  words_other n = let parts = part_any 32 after in rw (q, parts.2, n)

  pub words_next : names_variable w ≡ true → are_literals (split_on 32 s) ≡ are_literals (split_on 32 after)
  unfolding are_literals
  words_next n = let parts = part_any 32 after in rw (q, parts.2, n)

-- ---- the number that digits say
after_snoc : (n : ℕ) (l : List ℕ) (x : ℕ) → number_after n (l ++ (x ∷ [])) ≡ number_after n l * 10 + (x - 48)
unfolding number_after
after_snoc n [] x = refl
after_snoc n (d ∷ l) x = after_snoc (n * 10 + (d - 48)) l x

-- above `most` it stays above
capped_again : (most v x : ℕ) → capped most (capped most v * 10 + x) ≡ capped most (v * 10 + x)
capped_again most v x = ⊎_elim
    (λ h. rw (lt-ltb most v h, lt-ltb most ((most + 1) * 10 + x) (omega arith), lt-ltb most (v * 10 + x) (omega (arith, h))))
    (λ h. rw (le-ltb most v h))
    (lt_or_le most v)

-- a tenth of 2 to the 63 is passed
pub tenth_above : (most v x : ℕ) → most < 9223372036854775808 → 922337203685477580 < v → most < v * 10 + x
tenth_above most v x few h = omega (arith, few, h)

-- ---- the loop over the bytes of a word: the first i of them say n, and none of them is a space
abbrev prepend : List ℕ → List (List ℕ) → List (List ℕ)
prepend p [] = p ∷ []
prepend p (q ∷ qs) = (p ++ q) ∷ qs

prepend_grown : (p : List ℕ) (x : ℕ) (parts : List (List ℕ)) → prepend p (grow x parts) ≡ prepend (p ++ (x ∷ [])) parts
prepend_grown p x [] = refl
prepend_grown p x (q ∷ qs) = ap (λ (l : List ℕ). l ∷ qs) (sym (append_snoc p x q))

pub record Saying (s : List ℕ) (most n i : ℕ) : Type 0 where
  pub parts : split_on 32 s ≡ prepend (take i s) (split_on 32 (drop i s))
  pub number : n ≡ capped most (number_after 0 (take i s))

pub saying_none : (s : List ℕ) (most : ℕ) → Saying s most 0 0
unfolding number_after
saying_none s most =
    let parts = part_any 32 s in
    record { parts = rw parts.2; number = rw (le-ltb most 0 (omega arith)) }

module _ {s : List ℕ} {most n i : ℕ} (h : Saying s most n i) where
  pub saying_more : i < length s → (get_or s i 0 ≡ 32 → ⊥) → {u : ℕ} → u ≡ capped most (n * 10 + (get_or s i 0 - 48)) → Saying s most u (i + 1)
  unfolding split_on
  saying_more l other e =
      let x = get_or s i 0 in
      let grown : split_on 32 (drop i s) ≡ grow x (split_on 32 (drop (suc i) s)) = rw (drop-cons s i 0 l, ne_eqb x 32 other) in
      let longer : take (suc i) s ≡ take i s ++ (x ∷ []) = take-suc s i 0 l in
      let said : capped most (n * 10 + (x - 48)) ≡ capped most (number_after 0 (take i s) * 10 + (x - 48)) =
      rw h.number (capped_again most (number_after 0 (take i s)) (x - 48)) in
      rw (add-one i) (record {
        parts = h.parts ∙ ap (prepend (take i s)) grown ∙ rw longer (prepend_grown (take i s) x (split_on 32 (drop (suc i) s)));
        number = e ∙ said ∙ rw longer (ap (capped most) (sym (after_snoc 0 (take i s) x)));
      })

  pub saying_space : i < length s → get_or s i 0 ≡ 32 → split_on 32 s ≡ take i s ∷ split_on 32 (drop (i + 1) s)
  unfolding split_on
  saying_space l e =
      let x = get_or s i 0 in
      let cut : split_on 32 (drop i s) ≡ [] ∷ split_on 32 (drop (suc i) s) = rw (drop-cons s i 0 l, eq-eqb x 32 e) in
      h.parts ∙ rw (cut, append-nil (take i s), add-one i)

  pub saying_all : length s ≤ i → split_on 32 s ≡ take i s ∷ []
  unfolding split_on
  saying_all l =
      let none : split_on 32 (drop i s) ≡ [] ∷ [] = rw (drop_of_length-le s l) in
      h.parts ∙ rw (none, append-nil (take i s))

-- ---- the first of the words that are left: w, whose digits are x
abbrev first_part : List (List ℕ) → List ℕ
first_part [] = []
first_part (p ∷ ps) = p

first_minus : (w : List ℕ) → has_minus (first_part (split_on 32 w)) ≡ has_minus w
unfolding has_minus split_on
first_minus [] = refl
first_minus (b ∷ l) = go (eqb b 32) refl (part_any 32 l)
  where
    go : (t : Bool) → eqb b 32 ≡ t → (p : List ℕ) × (ps : List (List ℕ)) × (split_on 32 l ≡ p ∷ ps) → has_minus (first_part (split_on 32 (b ∷ l))) ≡ eqb b 45
    go true e parts = rw e (sym (ne_eqb b 45 (λ h. omega (arith, eqb-true b 32 e, h))))
    go false e parts = rw (e, parts.2)

minus_leads : (l : List ℕ) → has_minus l ≡ true → l ≡ 45 ∷ drop 1 l
unfolding has_minus
minus_leads [] h = absurd (false≢true h)
minus_leads (b ∷ l) h = ap (λ (x : ℕ). x ∷ l) (eqb-true b 45 h)

pub word_read : (most : ℕ) (w : List ℕ) (v : ℕ) (x : List ℕ) (ps : List (List ℕ)) → split_on 32 (unsigned w) ≡ x ∷ ps → v ≡ capped most (number_after 0 x)
    → map (literal_up_to most) (split_on 32 w) ≡ record { variable = v; bare = not (has_minus w) } ∷ map (literal_up_to most) ps
unfolding unsigned has_minus literal_up_to split_on
word_read most w v x ps q e = go (has_minus w) refl
  where
    go : (t : Bool) → has_minus w ≡ t
        → map (literal_up_to most) (split_on 32 w) ≡ record { variable = v; bare = not (has_minus w) } ∷ map (literal_up_to most) ps
    go false h =
        let parts : split_on 32 w ≡ x ∷ ps = rw h at q in
        let bare : has_minus x ≡ false = ap (λ (l : List (List ℕ)). has_minus (first_part l)) (sym parts) ∙ first_minus w ∙ h in
        rw (parts, h, bare, e)
    go true h =
        let parts : split_on 32 (drop 1 w) ≡ x ∷ ps = rw h at q in
        let whole : split_on 32 w ≡ (45 ∷ x) ∷ ps = ap (split_on 32) (minus_leads w h) ∙ ap (grow 45) parts in
        rw (whole, h, e)
