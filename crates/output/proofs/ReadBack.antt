-- The text that writes an assignment is accepted and reads back to it: digits by induction on their number, words and literals one by one.
use Rattle.std.specs.Prelude.{Some, None}
use Prim.Native.Nat.{ℕ, zero, suc, ◌+◌, ◌*◌, ◌/◌, ◌%◌, ◌≤◌, ◌<◌}
use mathlib.Core.Path.{◌≡◌, refl, sym, ap, ◌∙◌}
use mathlib.Core.Logic.{⊎_elim}
use mathlib.Core.List.{List, [], ◌∷◌, ◌++◌, map, foldl, append_assoc, append-nil}
use mathlib.Core.Bool.{Bool, true, false, not, cond, ◌&&◌, and-false, or-false, or-true, false≢true}
use native.Mathlib.Omega.{arith}
use lib.ListN.{length, get_or}
use lib.Seq.{ext_get_or}
use lib.Dec.{ltb, leb, eqb}
use borrow.Author.Tests.{le-leb, le-ltb, eq-eqb, ne_eqb, leb-true, ltb-true}
use Rattle.model.specs.Indexed.{list_below}
use Rattle.model.proofs.IndexedLaws.{T_true, all_below_lem, lt_or_le, length_list, get_d_list}
use Rattle.text.specs.bytes.Ascii.{ascii}
use Rattle.text.specs.bytes.Bytes.{starts_with, is_digit, split_on}
use Rattle.decimal.specs.Decimal.{digit, digits_within, digits}
use Rattle.decimal.proofs.DecimalLaws.{digits_small, digits_step, digits_ind}
use Rattle.output.specs.declared.lines.LineForm.TheVariants.{Satisfiable, Values}
use Rattle.output.specs.declared.lines.Stage.{Stage}
use Rattle.output.specs.declared.lines.Stage.TheVariants.{InValues, Closed}
use Rattle.output.specs.declared.literals.Literal.{Literal}
use Rattle.output.specs.Literals.{are_digits, is_positive, has_minus, unsigned, names_variable, is_zero, are_literals, number_after, literal_of}
use Rattle.output.specs.Lines.{is_text, words_of, is_values, form_of}
use Rattle.output.specs.Tokens.{Token, formed, literal, line_tokens, part_tokens, tokens_of}
use Rattle.output.specs.OutputCall.{Progress, is_named, all_named, judge, judged, output_accepted, output_report, is_bare, bytes_of, output_left}
use Rattle.output.specs.Written.{are_bits, literal_text, literals_text, output_text}
use Rattle.output.proofs.NamedLaws.{named_more}

both : (a b : Bool) → (a && b) ≡ true → (a ≡ true) × (b ≡ true)
both true b h = (refl, h)
both false b h = absurd (false≢true h)

-- ---- the digits of a number from 1 on
digit_is : (d : ℕ) → d < 10 → is_digit (digit d) ≡ true
digit_is d h = rw (le-leb 48 (48 + d) (omega arith), le-leb (48 + d) 57 (omega arith))

digits_more : (l : List ℕ) (x : ℕ) → are_digits l ≡ true → is_digit x ≡ true → are_digits (l ++ (x ∷ [])) ≡ true
unfolding are_digits
digits_more [] x h e = rw e
digits_more (d ∷ l) x h e =
    let (here, rest) = both (is_digit d) (are_digits l) h in
    rw (here, digits_more l x rest e)

positive_more : (l : List ℕ) (x : ℕ) → is_positive l ≡ true → is_digit x ≡ true → is_positive (l ++ (x ∷ [])) ≡ true
unfolding is_positive
positive_more [] x h e = absurd (false≢true h)
positive_more (d ∷ l) x h e =
    let (first, all) = both (not (eqb d 48)) (are_digits (d ∷ l)) h in
    rw (first, digits_more (d ∷ l) x all e)

positive_one : (v : ℕ) → 1 ≤ v → v < 10 → is_positive (digit v ∷ []) ≡ true
unfolding is_positive are_digits
positive_one v one h = rw (ne_eqb (48 + v) 48 (λ e. omega arith), digit_is v h)

-- they have no leading zero
pub digits_positive : (v : ℕ) → 1 ≤ v → is_positive (digits v) ≡ true
digits_positive =
    digits_ind (λ v. 1 ≤ v → is_positive (digits v) ≡ true)
    (λ v h one. rw (digits_small v h) (positive_one v one h))
    (λ v h ih one. rw (digits_step v h) (positive_more (digits (v / 10)) (digit (v % 10)) (ih (omega arith)) (digit_is (v % 10) (omega arith))))

positive_digits : (l : List ℕ) → is_positive l ≡ true → are_digits l ≡ true
unfolding is_positive
positive_digits [] h = absurd (false≢true h)
positive_digits (d ∷ l) h = (both (not (eqb d 48)) (are_digits (d ∷ l)) h).1

-- no digit is below 48
digit_least : (d : ℕ) → is_digit d ≡ true → 48 ≤ d
digit_least d h = leb-true 48 d (both (leb 48 d) (leb d 57) h).0

positive_bare : (l : List ℕ) → is_positive l ≡ true → has_minus l ≡ false
unfolding is_positive are_digits has_minus
positive_bare [] h = refl
positive_bare (d ∷ l) h =
    let low = digit_least d (both (is_digit d) (are_digits l) (both (not (eqb d 48)) (is_digit d && are_digits l) h).1).0 in
    ne_eqb d 45 (λ e. omega (arith, low, e))

digit_read : (n d : ℕ) (t : List ℕ) → number_after n (digit d ∷ t) ≡ number_after (n * 10 + d) t
unfolding number_after
digit_read n d t = ap (λ (k : ℕ). number_after (n * 10 + k) t) (omega arith)

digits_read : (v : ℕ) (t : List ℕ) → number_after 0 (digits v ++ t) ≡ number_after v t
digits_read =
    digits_ind (λ v. (t : List ℕ) → number_after 0 (digits v ++ t) ≡ number_after v t)
    (λ v h t. ap (λ (l : List ℕ). number_after 0 (l ++ t)) (digits_small v h) ∙ digit_read 0 v t ∙ ap (λ (k : ℕ). number_after k t) (omega arith))
    (λ v h ih t.
    ap (λ (l : List ℕ). number_after 0 (l ++ t)) (digits_step v h)
    ∙ ap (number_after 0) (append_assoc (digits (v / 10)) (digit (v % 10) ∷ []) t)
    ∙ ih (digit (v % 10) ∷ t)
    ∙ digit_read (v / 10) (v % 10) t
    ∙ ap (λ (k : ℕ). number_after k t) (omega arith))

-- they say the number
pub digits_number : (v : ℕ) → number_after 0 (digits v) ≡ v
unfolding number_after
digits_number v = ap (number_after 0) (sym (append-nil (digits v))) ∙ digits_read v []

-- ---- a literal
-- what is read of variable v with byte b
abbrev pub literal_for : ℕ → ℕ → Literal
literal_for v b = record { variable = v; bare = not (eqb b 0) }

pub literal_reads : (v b : ℕ) → 1 ≤ v → literal_of (literal_text v b) ≡ literal_for v b
unfolding literal_of literal_text unsigned has_minus
literal_reads v b one = go (eqb b 0)
  where
    go : (t : Bool) → literal_of (cond t (45 ∷ digits v) (digits v)) ≡ record { variable = v; bare = not t }
    go true = rw (digits_number v)
    go false = rw (positive_bare (digits v) (digits_positive v one), digits_number v)

literal_names : (v b : ℕ) → 1 ≤ v → names_variable (literal_text v b) ≡ true
unfolding literal_text names_variable unsigned has_minus
literal_names v b one = go (eqb b 0)
  where
    go : (t : Bool) → names_variable (cond t (45 ∷ digits v) (digits v)) ≡ true
    go true = digits_positive v one
    go false = rw (positive_bare (digits v) (digits_positive v one)) (digits_positive v one)

-- ---- words and lines
-- digits belong to the first part of what they stand before
split_over : (b : ℕ) (x y p : List ℕ) (ps : List (List ℕ)) → b < 48 → are_digits x ≡ true → split_on b y ≡ p ∷ ps → split_on b (x ++ y) ≡ (x ++ p) ∷ ps
unfolding split_on are_digits
split_over b [] y p ps low h e = e
split_over b (d ∷ x) y p ps low h e =
    let (here, rest) = both (is_digit d) (are_digits x) h in
    rw (ne_eqb d b (λ z. omega (arith, low, digit_least d here, z)), split_over b x y p ps low rest e)

literal_over : (b v c : ℕ) (y p : List ℕ) (ps : List (List ℕ)) → b < 45 → 1 ≤ v → split_on b y ≡ p ∷ ps
    → split_on b (literal_text v c ++ y) ≡ (literal_text v c ++ p) ∷ ps
unfolding literal_text split_on
literal_over b v c y p ps low one e = go (eqb c 0)
  where
    unsigned_over : split_on b (digits v ++ y) ≡ (digits v ++ p) ∷ ps
    unsigned_over = split_over b (digits v) y p ps (omega (arith, low)) (positive_digits (digits v) (digits_positive v one)) e

    go : (t : Bool) → split_on b (cond t (45 ∷ digits v) (digits v) ++ y) ≡ (cond t (45 ∷ digits v) (digits v) ++ p) ∷ ps
    go true = rw (ne_eqb 45 b (λ z. omega (arith, low, z)), unsigned_over)
    go false = unsigned_over

-- the literals of the variables from v on with a space after each, then 0 and t
unfoldable joined : ℕ → List ℕ → List ℕ → List ℕ
joined v [] t = 48 ∷ t
joined v (b ∷ a) t = literal_text v b ++ (32 ∷ joined (v + 1) a t)

text_joined : (v : ℕ) (a t : List ℕ) → literals_text v a ++ (32 ∷ 48 ∷ t) ≡ 32 ∷ joined v a t
unfolding literals_text joined
text_joined v [] t = refl
text_joined v (b ∷ a) t =
    ap (λ (l : List ℕ). 32 ∷ l)
    (append_assoc (literal_text v b) (literals_text (v + 1) a) (32 ∷ 48 ∷ t) ∙ ap (λ (l : List ℕ). literal_text v b ++ l) (text_joined (v + 1) a t))

-- they are one line
line_ends : (v : ℕ) (a : List ℕ) → 1 ≤ v → split_on 10 (joined v a (10 ∷ [])) ≡ joined v a [] ∷ [] ∷ []
unfolding split_on joined
line_ends v [] one = refl
line_ends v (b ∷ a) one =
    literal_over 10 v b (32 ∷ joined (v + 1) a (10 ∷ [])) (32 ∷ joined (v + 1) a []) ([] ∷ []) (omega arith) one
    (rw (line_ends (v + 1) a (omega arith)))

-- the words of that line
unfoldable words_from : ℕ → List ℕ → List (List ℕ)
words_from v [] = (48 ∷ []) ∷ []
words_from v (b ∷ a) = literal_text v b ∷ words_from (v + 1) a

words_are : (v : ℕ) (a : List ℕ) → 1 ≤ v → split_on 32 (joined v a []) ≡ words_from v a
unfolding split_on joined words_from
words_are v [] one = refl
words_are v (b ∷ a) one =
    literal_over 32 v b (32 ∷ joined (v + 1) a []) [] (words_from (v + 1) a) (omega arith) one (rw (words_are (v + 1) a (omega arith)))
    ∙ ap (λ (w : List ℕ). w ∷ words_from (v + 1) a) (append-nil (literal_text v b))

words_literals : (v : ℕ) (a : List ℕ) → 1 ≤ v → are_literals (words_from v a) ≡ true
unfolding words_from are_literals is_zero
words_literals v [] one = refl
words_literals v (b ∷ []) one = rw (literal_names v b one)
words_literals v (b ∷ c ∷ a) one = rw (literal_names v b one) (words_literals (v + 1) (c ∷ a) (omega arith))

-- the line of literals, and its form
abbrev values_line : List ℕ → List ℕ
values_line a = 118 ∷ 32 ∷ joined 1 a []

line_form : (a : List ℕ) → form_of (values_line a) ≡ Some Values
unfolding form_of is_text is_values words_of starts_with
line_form a =
    rw (
      and-false (eqb (length (values_line a)) 13),
      and-false (eqb (length (values_line a)) 15),
      words_are 1 a (omega arith),
      words_literals 1 a (omega arith),
    )

lines_are : (a : List ℕ) → split_on 10 (output_text a) ≡ ascii "s SATISFIABLE" ∷ values_line a ∷ [] ∷ []
unfolding output_text split_on
lines_are a = rw (text_joined 1 a (10 ∷ []), line_ends 1 a (omega arith))

-- ---- tokens
-- the literals of the variables from v on, and the closing 0
unfoldable literals_from : ℕ → List ℕ → List Literal
literals_from v [] = []
literals_from v (b ∷ a) = literal_for v b ∷ literals_from (v + 1) a

unfoldable tokens_from : ℕ → List ℕ → List Token
tokens_from v [] = literal (record { variable = 0; bare = true }) ∷ []
tokens_from v (b ∷ a) = literal (literal_for v b) ∷ tokens_from (v + 1) a

words_read : (v : ℕ) (a : List ℕ) → 1 ≤ v → map (λ w. literal (literal_of w)) (words_from v a) ≡ tokens_from v a
unfolding words_from tokens_from literal_of unsigned has_minus number_after
words_read v [] one = refl
words_read v (b ∷ a) one = rw (literal_reads v b one, words_read (v + 1) a (omega arith))

tokens_are : (a : List ℕ) → tokens_of literal_of (output_text a) ≡ formed (Some Satisfiable) ∷ formed (Some Values) ∷ tokens_from 1 a
unfolding tokens_of part_tokens line_tokens words_of form_of is_text starts_with
tokens_are a = rw (lines_are a, line_form a, words_are 1 a (omega arith), words_read 1 a (omega arith)) (append-nil _)

-- ---- judging
-- the literals name the variables below v and no other
record NamedTo (v : ℕ) (named : List Literal) : Type 0 where
  old : (w : ℕ) → 1 ≤ w → w < v → is_named w named ≡ true
  new : (w : ℕ) → v ≤ w → is_named w named ≡ false

none_named : NamedTo 1 []
unfolding is_named
none_named = record { old = λ w one h. absurd (omega (arith, one, h)); new = λ w h. refl }

one_named : (v b : ℕ) (named : List Literal) → NamedTo v named → NamedTo (v + 1) (named ++ (literal_for v b ∷ []))
one_named v b named p = record {
  old = λ w one h. named_more w named (literal_for v b) ∙ ⊎_elim
      (λ q. rw (p.old w one q))
      (λ q. rw (eq-eqb v w (omega (arith, h, q))) (or-true (is_named w named)))
      (lt_or_le w v);
  new = λ w h. named_more w named (literal_for v b) ∙ rw (p.new w (omega (arith, h)), ne_eqb v w (λ e. omega (arith, h, e)));
}

all_named_lem : (n : ℕ) (named : List Literal) → NamedTo (n + 1) named → all_named n named ≡ true
unfolding all_named
all_named_lem n named p =
    (T_true _).0 ((all_below_lem (λ i. is_named (i + 1) named) n).1 (λ i h. (T_true _).1 (p.old (i + 1) (omega arith) (omega (arith, h)))))

-- no fault so far, on line k
abbrev so_far : ℕ → Stage → List Literal → Progress
so_far k s named = record { fault = None; line = k; stage = s; named = named }

literal_judged : (n v b k : ℕ) (named : List Literal) → 1 ≤ v → v ≤ n → NamedTo v named
    → judge n (so_far k InValues named) (literal (literal_for v b)) ≡ so_far k InValues (named ++ (literal_for v b ∷ []))
unfolding judge
literal_judged n v b k named one most p = rw (ne_eqb v 0 (λ e. omega (arith, one, e)), le-ltb n v most, p.new v (omega arith))

literals_judged : (n v : ℕ) (a : List ℕ) (k : ℕ) (named : List Literal) → 1 ≤ v → v + length a ≡ n + 1 → NamedTo v named
    → foldl (judge n) (so_far k InValues named) (tokens_from v a) ≡ so_far k Closed (named ++ literals_from v a)
unfolding judge tokens_from literals_from
literals_judged n v [] k named one e p =
    let last : v ≡ n + 1 = omega (arith, e) in
    rw (all_named_lem n named (rw last at p), append-nil named)
literals_judged n v (b ∷ a) k named one e p =
    ap (λ (q : Progress). foldl (judge n) q (tokens_from (v + 1) a)) (literal_judged n v b k named one (omega (arith, e)) p)
    ∙ literals_judged n (v + 1) a k (named ++ (literal_for v b ∷ [])) (omega arith) (omega (arith, e)) (one_named v b named p)
    ∙ ap (so_far k Closed) (append_assoc named (literal_for v b ∷ []) (literals_from (v + 1) a))

-- all of the text
text_judged : (a : List ℕ) → judged (length a) (output_text a) ≡ so_far 2 Closed (literals_from 1 a)
unfolding judged judge
text_judged a = rw (tokens_are a) (literals_judged (length a) 1 a 2 [] (omega arith) (omega arith) none_named)

-- ---- the bytes
-- no variable below v is among those from v on
bare_below : (v w : ℕ) (a : List ℕ) → w < v → is_bare w (literals_from v a) ≡ false
unfolding is_bare literals_from
bare_below v w [] h = refl
bare_below v w (b ∷ a) h = rw (ne_eqb v w (λ e. omega (arith, h, e)), bare_below (v + 1) w a (omega (arith, h)))

bare_at : (v : ℕ) (a : List ℕ) (i : ℕ) → i < length a → is_bare (v + i) (literals_from v a) ≡ not (eqb (get_or a i 0) 0)
unfolding is_bare literals_from
bare_at v [] i h = absurd (omega (arith, h))
bare_at v (b ∷ a) zero h =
    rw (eq-eqb v (v + 0) (omega arith), bare_below (v + 1) (v + 0) a (omega arith)) (or-false (not (eqb b 0)))
bare_at v (b ∷ a) (suc i) h =
    let e : v + suc i ≡ v + 1 + i = omega arith in
    rw (ne_eqb v (v + suc i) (λ z. omega (arith, z))) (ap (λ (w : ℕ). is_bare w (literals_from (v + 1) a)) e ∙ bare_at (v + 1) a i (omega (arith, h)))

bit_at : (a : List ℕ) (i : ℕ) → are_bits a ≡ true → i < length a → get_or a i 0 < 2
unfolding are_bits
bit_at [] i h q = absurd (omega (arith, q))
bit_at (b ∷ a) zero h q = ltb-true b 2 (both (ltb b 2) (are_bits a) h).0
bit_at (b ∷ a) (suc i) h q = bit_at a i (both (ltb b 2) (are_bits a) h).1 (omega (arith, q))

bit_is : (b : ℕ) → b < 2 → cond (not (eqb b 0)) 1 0 ≡ b
bit_is zero h = refl
bit_is (suc zero) h = refl
bit_is (suc (suc b)) h = absurd (omega (arith, h))

bytes_are : (a : List ℕ) → are_bits a ≡ true → bytes_of (length a) (literals_from 1 a) ≡ a
unfolding bytes_of
bytes_are a bits = ext_get_or 0 _ a (length_list byte (length a)) (λ i h. each i (rw (length_list byte (length a)) at h))
  where
    byte : ℕ → ℕ
    byte i = cond (is_bare (i + 1) (literals_from 1 a)) 1 0

    each : (i : ℕ) → i < length a → get_or (list_below byte (length a)) i 0 ≡ get_or a i 0
    each i h =
        let e : i + 1 ≡ 1 + i = omega arith in
        get_d_list 0 byte (length a) i h
        ∙ rw (e, bare_at 1 a i h) (bit_is (get_or a i 0) (bit_at a i bits h))

-- ---- the theorem: the text that writes an assignment is accepted as satisfiable, and reading it leaves the assignment
pub reads_back : (a old : List ℕ) → are_bits a ≡ true → length old ≡ length a
    → (output_report (output_text a) (length old) ≡ output_accepted 10) × (output_left (output_text a) old ≡ a)
unfolding output_report output_left
reads_back a old bits long = (rw (long, text_judged a), rw (long, text_judged a) (bytes_are a bits))

-- a worked text
pub text_worked : output_text (1 ∷ 0 ∷ 0 ∷ 0 ∷ 1 ∷ 0 ∷ 1 ∷ 1 ∷ 0 ∷ 1 ∷ 0 ∷ []) ≡ ascii "s SATISFIABLE\nv 1 -2 -3 -4 5 -6 7 8 -9 10 -11 0\n"
unfolding output_text literals_text literal_text digits digits_within
text_worked = refl
