-- The table of texts: the bytes of an entry, words by the table, and texts that are stored eight bytes at a time.
use mathlib.Core.Path.{◌≡◌, refl, sym, ap, ◌∙◌}
use mathlib.Core.Logic.{◌≢◌, ⊎_elim}
use mathlib.Core.List.{List, [], ◌∷◌, ◌++◌, flat_map, append_assoc, append-nil}
use Prim.Native.Nat.{ℕ, zero, suc, ◌+◌, ◌*◌, ◌-◌, ◌/◌, ◌%◌, ◌^◌, ◌≤◌, ◌<◌}
use native.Mathlib.Nat.{mul_assoc, pow-succ', pow-le-pow_right, mod-eq_of_lt, div-div-eq-div-mul}
use native.Mathlib.Numerals.{add-one}
use native.Mathlib.Omega.{arith}
use lib.IntN.{ℤ, pos, negsuc, neg_ℤ, nat_abs}
use lib.ListN.{length, take, drop, get_or, set, length-append, length-drop, length-set, take-append-drop}
use lib.Seq.{take-suc, take-append-le, take-append-add, drop_at, drop-drop, get_or-set_same, get_or-set_other, length-take-le}
use borrow.Author.Tests.{eq-eqb, ne_eqb}
use borrow.Rule.Slice.PartMut.{put_mid, Post-is}
use mir.Syntax.{w32, w64}
use mir.Val.{SFits, to_z, of_z}
use mir.Facts.{to_z-of_z}
use Rattle.std.specs.Int.{to_le_bytes}
use Rattle.model.proofs.IndexedLaws.{lt_or_le, below_cases}
use Rattle.list.specs.Lists.{All}
use Rattle.list.proofs.ListLaws.{all_app, flat_app, flat_none, flat_one}
use Rattle.buffer.specs.Buffers.{Wrote}
use Rattle.decimal.specs.Decimal.{digits, digit}
use Rattle.decimal.proofs.DecimalLaws.{digits_small, digits_step, digits_ind, digits_some, digits_most_five}
use Rattle.dimacs.specs.File.{space, line_feed}
use Rattle.dimacs.specs.Texts.{bytes_of, text_of, packed, Entry, Leads, number_text}
use Rattle.dimacs.specs.Texts.{most_near, entry_count, slot, entry_text, entries_text, HasText, raised_word, TextsOf, Ahead}
use Rattle.dimacs.specs.Written.{sign_text, word_text}
use Rattle.dimacs.proofs.LineLaws.{text_zero, text_other}

-- ---- the bytes of a number
-- there are as many as asked for
pub bytes_long : (k x : ℕ) → length (bytes_of k x) ≡ k
unfolding bytes_of
bytes_long zero x = refl
bytes_long (suc k) x = ap suc (bytes_long k (x / 256))

-- they do not depend on what stands above them
bytes_low : (k m x a : ℕ) → k ≤ m → bytes_of k (x + 256 ^ m * a) ≡ bytes_of k x
unfolding bytes_of
bytes_low zero m x a h = refl
bytes_low (suc k) zero x a h = absurd (omega arith)
bytes_low (suc k) (suc m) x a h =
    let up : 256 ^ suc m * a ≡ 256 * (256 ^ m * a) = ap (λ (p : ℕ). p * a) (pow-succ' 256 m) ∙ mul_assoc 256 (256 ^ m) a in
    let low : (x + 256 ^ suc m * a) % 256 ≡ x % 256 = omega (arith, up) in
    let rest : (x + 256 ^ suc m * a) / 256 ≡ x / 256 + 256 ^ m * a = omega (arith, up) in
    rw (low, rest, bytes_low k m (x / 256) a (omega arith))

-- the first of them
pub bytes_take : (k m x : ℕ) → k ≤ m → take k (bytes_of m x) ≡ bytes_of k x
unfolding bytes_of
bytes_take zero m x h = refl
bytes_take (suc k) zero x h = absurd (omega arith)
bytes_take (suc k) (suc m) x h = ap (λ (l : List ℕ). x % 256 ∷ l) (bytes_take k m (x / 256) (omega arith))

-- eight of them, as the code has them
pub bytes_eight : (x : ℕ) →
    bytes_of 8 x
    ≡ x % 256 ∷ x / 256 % 256 ∷ x / 65536 % 256 ∷ x / 16777216 % 256 ∷ x / 4294967296 % 256
    ∷ x / 1099511627776 % 256 ∷ x / 281474976710656 % 256 ∷ x / 2 ^ 56 % 256 ∷ []
unfolding bytes_of
bytes_eight x =
    rw (
      div-div-eq-div-mul x 256 256,
      div-div-eq-div-mul x 65536 256,
      div-div-eq-div-mul x 16777216 256,
      div-div-eq-div-mul x 4294967296 256,
      div-div-eq-div-mul x 1099511627776 256,
      div-div-eq-div-mul x 281474976710656 256,
    )

-- so has the library
pub low_first : (x : ℕ) → to_le_bytes w64 x ≡ bytes_of 8 x
low_first x = sym (bytes_eight x)

-- bytes that were copied over a part of the buffer
pub wrote_copy : {p new old : List ℕ} {at e : ℕ} → e ≡ at + length p → new ≡ p → e ≤ length old → Wrote p old (put_mid at (e - at) old new) at e
wrote_copy {p} {new} {old} {at} {e} q is h =
    let list : put_mid at (e - at) old new ≡ take at old ++ (p ++ drop e old) = λ i. take at old ++ (is i ++ Post-is at e old (omega (arith, q)) i) in
    let parts : length (take at old ++ (p ++ drop e old)) ≡ length old =
    omega (
      arith,
      length-append (take at old) (p ++ drop e old),
      length-append p (drop e old),
      length-take-le at old (omega (arith, q, h)),
      length-drop e old,
      q,
      h,
    ) in
    record { ends = q; fits = h; long = ap length list ∙ parts; list = list ∙ sym (append_assoc (take at old) p (drop e old)) }

-- ---- entries that are made
-- Every element is a byte.
abbrev Bytes : List ℕ → Type 0
Bytes t = All (λ b. b < 256) t

-- bytes in one number are below the next power of 256
packed_below : (t : List ℕ) → Bytes t → packed t < 256 ^ length t
unfolding packed
packed_below [] h = omega arith
packed_below (b ∷ t) h = omega (arith, h.0, packed_below t h.1, pow-succ' 256 (length t))

-- bytes in one number are read back
bytes_packed : (t : List ℕ) → Bytes t → bytes_of (length t) (packed t) ≡ t
unfolding bytes_of packed
bytes_packed [] h = refl
bytes_packed (b ∷ t) h =
    let low : (b + 256 * packed t) % 256 ≡ b = omega (arith, h.0) in
    let rest : (b + 256 * packed t) / 256 ≡ packed t = omega (arith, h.0) in
    rw (low, rest, bytes_packed t h.1)

-- an entry of up to seven bytes holds its text
entry_text_lem : {t : List ℕ} {x : ℕ} → Entry t x → Bytes t → length t ≤ 7 → text_of x ≡ t
entry_text_lem {t} {x} e all most =
    let same : x ≡ packed t + 256 ^ 7 * length t = omega (arith, e.count, e.bytes) in
    ap (λ (n : ℕ). bytes_of n x) e.count
    ∙ ap (bytes_of (length t)) same
    ∙ bytes_low (length t) 7 (packed t) (length t) most
    ∙ bytes_packed t all

-- one byte more before the text
entry_led : {t : List ℕ} {x b r : ℕ} → Entry t x → Leads b x r → Entry (b ∷ t) r
unfolding packed
entry_led e l = record { count = omega (arith, e.count, l.0); bytes = omega (arith, e.bytes, l.1) }

-- The entry x holds the last digits of n and a space; before it belong the digits of m.
pub record Tail (n m x : ℕ) : Type 0 where
  pub rest : List ℕ
  pub text : number_text n ≡ digits m ++ rest
  pub entry : Entry rest x

-- the space
pub tail_none : (n : ℕ) → Tail n n (32 + 2 ^ 56)
unfolding packed
tail_none n = record { rest = space ∷ []; text = refl; entry = record { count = refl; bytes = refl } }

-- one digit more
pub tail_led : {n m x b r : ℕ} (front : ℕ) → Tail n m x → 10 ≤ m → front ≡ m / 10 → b ≡ digit (m % 10) → Leads b x r → Tail n front r
tail_led {n} {m} {x} {b} {r} front t h e d l = record {
  rest = b ∷ t.rest;
  text =
      t.text
      ∙ ap (λ (s : List ℕ). s ++ t.rest) (digits_step m h)
      ∙ append_assoc (digits (m / 10)) (digit (m % 10) ∷ []) t.rest
      ∙ ap (λ (j : ℕ). digits (m / 10) ++ (j ∷ t.rest)) (sym d)
      ∙ ap (λ (j : ℕ). digits j ++ (b ∷ t.rest)) (sym e);
  entry = entry_led t.entry l;
}

-- the first digit: the text is whole
pub tail_end : {n m x b : ℕ} (r : ℕ) → Tail n m x → m < 10 → b ≡ digit (m % 10) → Leads b x r → Entry (number_text n) r
tail_end {n} {m} {x} {b} r t h d l =
    let first : digit m ∷ t.rest ≡ b ∷ t.rest = ap (λ (j : ℕ). j ∷ t.rest) (ap digit (sym (mod-eq_of_lt h)) ∙ sym d) in
    rw (t.text ∙ ap (λ (s : List ℕ). s ++ t.rest) (digits_small m h) ∙ first) (entry_led t.entry l)

-- ---- the entry of a number
-- the digits of a number are bytes
digits_bytes : (n : ℕ) → Bytes (digits n)
digits_bytes =
    digits_ind (λ n. Bytes (digits n)) (λ n h. rw (digits_small n h) (omega arith, tt))
    (λ n h ih. rw (digits_step n h) ((all_app (λ b. b < 256) (digits (n / 10)) (digit (n % 10) ∷ [])).1 (ih, (omega arith, tt))))

-- its text is bytes
number_bytes : (n : ℕ) → Bytes (number_text n)
number_bytes n = (all_app (λ b. b < 256) (digits n) (space ∷ [])).1 (digits_bytes n, (omega arith, tt))

-- its text has one byte more than digits
number_long : (n : ℕ) → length (number_text n) ≡ length (digits n) + 1
number_long n = length-append (digits n) (space ∷ [])

-- that is two to six bytes: the entry has room for one more
pub number_room : {n x : ℕ} → n < 100000 → Entry (number_text n) x → (2 ≤ x / 2 ^ 56) × (x / 2 ^ 56 ≤ 6) × (x % 2 ^ 56 < 2 ^ 48)
number_room {n} {x} h e =
    let long : x / 2 ^ 56 ≡ length (digits n) + 1 = e.count ∙ number_long n in
    let most : length (number_text n) ≤ 6 = omega (arith, number_long n, digits_most_five n h) in
    let low = packed_below (number_text n) (number_bytes n) in
    let six : 256 ^ length (number_text n) ≤ 2 ^ 48 = pow-le-pow_right {n = 256} (omega arith) {i = length (number_text n)} {j = 6} most in
    (omega (arith, digits_some n), omega (arith, e.count), omega (arith, e.bytes))

-- ---- the last digit rises
-- where a byte rises by 1, the bytes in one number rise by a power of 256, by how many stand before it
packed_rise : (p t : List ℕ) (b : ℕ) → packed ((p ++ ((b + 1) ∷ [])) ++ t) ≡ packed ((p ++ (b ∷ [])) ++ t) + 256 ^ length p
unfolding packed
packed_rise [] t b = omega arith
packed_rise (a ∷ p) t b = omega (arith, packed_rise p t b, pow-succ' 256 (length p))

-- The entry x of the number n rises by `rise` where the last digit of n rises by 1.
pub record Rising (n x rise : ℕ) : Type 0 where
  pub entry : Entry (number_text n) x
  pub unit : 256 * rise ≡ 256 ^ length (digits n)

-- the shift in the code is by 8 bits for each of k digits but one
unit_is : (k : ℕ) → 1 ≤ k → k ≤ 5 → 256 * ((1 * 2 ^ ((k + 1) * 8 - 16)) % 2 ^ 64) ≡ 256 ^ k
unit_is zero l h = absurd (omega arith)
unit_is (suc zero) l h = refl
unit_is (suc (suc zero)) l h = refl
unit_is (suc (suc (suc zero))) l h = refl
unit_is (suc (suc (suc (suc zero)))) l h = refl
unit_is (suc (suc (suc (suc (suc zero))))) l h = refl
unit_is (suc (suc (suc (suc (suc (suc k)))))) l h = absurd (omega arith)

-- the code knows what is added by how many bytes the entry has
pub rising_first : {n x : ℕ} → n < 100000 → Entry (number_text n) x → Rising n x ((1 * 2 ^ (x / 2 ^ 56 * 8 - 16)) % 2 ^ 64)
rising_first {n} {x} h e =
    let count : x / 2 ^ 56 ≡ length (digits n) + 1 = e.count ∙ number_long n in
    record { entry = e; unit = rw count (unit_is (length (digits n)) (digits_some n) (digits_most_five n h)) }

-- what is added is small
pub rising_small : {n x rise : ℕ} → n < 100000 → Rising n x rise → rise ≤ 2 ^ 32
rising_small {n} h t =
    let five : 256 ^ length (digits n) ≤ 256 ^ 5 = pow-le-pow_right {n = 256} (omega arith) {i = length (digits n)} {j = 5} (digits_most_five n h) in
    omega (arith, t.unit)

-- a small number added to an entry leaves its count
added : (x r : ℕ) → x % 2 ^ 56 < 2 ^ 48 → r ≤ 2 ^ 32 → ((x + r) / 2 ^ 56 ≡ x / 2 ^ 56) × ((x + r) % 2 ^ 56 ≡ x % 2 ^ 56 + r)
added x r h l = (omega arith, omega arith)

-- the next number, if all its digits but the last are the same
rising_by : {n x rise : ℕ} (p : List ℕ) (d : ℕ) → n < 100000 → digits n ≡ p ++ (d ∷ []) → digits (n + 1) ≡ p ++ ((d + 1) ∷ [])
    → Rising n x rise → Rising (n + 1) (x + rise) rise
rising_by {n} {x} {rise} p d h e f t =
    let old : length (digits n) ≡ length p + 1 = ap length e ∙ length-append p (d ∷ []) in
    let new : length (digits (n + 1)) ≡ length p + 1 = ap length f ∙ length-append p ((d + 1) ∷ []) in
    let long : length (number_text n) ≡ length (number_text (n + 1)) = omega (arith, number_long n, number_long (n + 1)) in
    let power = ap (λ (j : ℕ). 256 ^ j) (old ∙ add-one (length p)) ∙ pow-succ' 256 (length p) in
    let same : rise ≡ 256 ^ length p = omega (arith, t.unit, power) in
    let up : packed (number_text (n + 1)) ≡ packed (number_text n) + 256 ^ length p = rw (e, f) (packed_rise p (space ∷ []) d) in
    let sum = added x rise (number_room h t.entry).2 (rising_small h t) in
    record {
      entry = record {
        count = sum.0 ∙ t.entry.count ∙ long;
        bytes = sum.1 ∙ ap (λ (j : ℕ). j + rise) t.entry.bytes ∙ ap (λ (j : ℕ). packed (number_text n) + j) same ∙ sym up;
      };
      unit = t.unit ∙ ap (λ (j : ℕ). 256 ^ j) (old ∙ sym new);
    }

-- so they are where the last digit is not 9
pub rising_next : {n x rise : ℕ} → n < 100000 → n % 10 ≢ 9 → Rising n x rise → Rising (n + 1) (x + rise) rise
rising_next {n} h nine =
    ⊎_elim
    (λ (l : n < 10).
    let d : digit (n + 1) ≡ digit n + 1 = omega arith in
    rising_by [] (digit n) h (digits_small n l) (digits_small (n + 1) (omega arith) ∙ ap (λ (j : ℕ). j ∷ []) d))
    (λ (l : 10 ≤ n).
    let q : (n + 1) / 10 ≡ n / 10 = omega arith in
    let d : digit ((n + 1) % 10) ≡ digit (n % 10) + 1 = omega arith in
    rising_by (digits (n / 10)) (digit (n % 10)) h (digits_step n l)
    (digits_step (n + 1) (omega arith)
    ∙ ap (λ (j : ℕ). digits j ++ (digit ((n + 1) % 10) ∷ [])) q
    ∙ ap (λ (j : ℕ). digits (n / 10) ++ (j ∷ [])) d))
    (lt_or_le n 10)

-- ---- words by the table
-- the text of an entry has as many bytes as its highest byte says
pub text_long : (x : ℕ) → length (text_of x) ≡ x / 2 ^ 56
text_long x = bytes_long (x / 2 ^ 56) x

module _ (texts : List ℕ) where
  -- words after words
  entries_append : (a b : List ℤ) → entries_text texts (a ++ b) ≡ entries_text texts a ++ entries_text texts b
  unfolding entries_text
  entries_append = flat_app (entry_text texts)

  -- no word
  pub entries_none : entries_text texts [] ≡ []
  unfolding entries_text
  entries_none = flat_none (entry_text texts)

  -- one word
  entries_one : (z : ℤ) → entries_text texts (z ∷ []) ≡ entry_text texts z
  unfolding entries_text
  entries_one = flat_one (entry_text texts)

  -- one word more
  pub entries_more : (ws : List ℤ) (i : ℕ) → i < length ws
      → entries_text texts (take (i + 1) ws) ≡ entries_text texts (take i ws) ++ entry_text texts (get_or ws i (pos 0))
  entries_more ws i h =
      let z = get_or ws i (pos 0) in
      ap (λ (n : ℕ). entries_text texts (take n ws)) (add-one i)
      ∙ ap (entries_text texts) (take-suc ws i (pos 0) h)
      ∙ entries_append (take i ws) (z ∷ [])
      ∙ ap (λ (l : List ℕ). entries_text texts (take i ws) ++ l) (entries_one z)

  -- the words up to an index, and those after them
  pub entries_split : (ws : List ℤ) (i : ℕ) → entries_text texts ws ≡ entries_text texts (take i ws) ++ entries_text texts (drop i ws)
  entries_split ws i = ap (entries_text texts) (sym (take-append-drop i ws)) ∙ entries_append (take i ws) (drop i ws)

-- the word at an index has a text where all have
pub all_at : (texts : List ℕ) (ws : List ℤ) (i : ℕ) → i < length ws → All (HasText texts) ws → HasText texts (get_or ws i (pos 0))
all_at texts [] i h a = absurd (omega arith)
all_at texts (z ∷ ws) zero h a = a.0
all_at texts (z ∷ ws) (suc i) h a = all_at texts ws i (omega arith) a.1

-- the first words and the one after them take no more than all of them
pub entries_room : (texts : List ℕ) (ws : List ℤ) (i : ℕ) → i < length ws
    → length (entries_text texts (take i ws)) + length (entry_text texts (get_or ws i (pos 0))) ≤ length (entries_text texts ws)
entries_room texts ws i h =
    omega (
      arith,
      ap length (entries_split texts ws (i + 1)),
      length-append (entries_text texts (take (i + 1) ws)) (entries_text texts (drop (i + 1) ws)),
      ap length (entries_more texts ws i h),
      length-append (entries_text texts (take i ws)) (entry_text texts (get_or ws i (pos 0))),
    )

-- what is known of the entry that was read for it: its text, of 2 to 7 bytes
pub entry_known : {x : ℕ} {z : ℤ} (texts : List ℕ) → HasText texts z → SFits w32 z → x ≡ get_or texts (slot (to_z w32 (of_z w32 z))) 0
    → (text_of x ≡ entry_text texts z) × (2 ≤ x / 2 ^ 56) × (x / 2 ^ 56 ≤ 7)
entry_known {x} {z} texts has f e =
    let same : text_of x ≡ entry_text texts z = ap text_of (e ∙ ap (λ (w : ℤ). get_or texts (slot w) 0) (to_z-of_z f)) in
    (same, omega (arith, has.least, text_long x, ap length same), omega (arith, has.most, text_long x, ap length same))

-- the same of the word at an index
pub known_at : {x : ℕ} (texts : List ℕ) (words : List ℤ) (i : ℕ) → i < length words → All (HasText texts) words → SFits w32 (get_or words i (pos 0))
    → x ≡ get_or texts (slot (to_z w32 (of_z w32 (get_or words i (pos 0))))) 0
    → (text_of x ≡ entry_text texts (get_or words i (pos 0))) × (2 ≤ x / 2 ^ 56) × (x / 2 ^ 56 ≤ 7)
known_at texts words i h all f e = entry_known texts (all_at texts words i h all) f e

-- words have two bytes at least each
pub entries_least : (texts : List ℕ) (ws : List ℤ) → All (HasText texts) ws → 2 * length ws ≤ length (entries_text texts ws)
unfolding entries_text flat_map
entries_least texts [] a = omega arith
entries_least texts (z ∷ ws) a =
    omega (arith, length-append (entry_text texts z) (entries_text texts ws), a.0.least, entries_least texts ws a.1)

-- ---- words in two parts
module _ (texts : List ℕ) {ws : List ℤ} (first last : List ℤ) (e : ws ≡ first ++ last) where
  pub parts_text : entries_text texts ws ≡ entries_text texts first ++ entries_text texts last
  parts_text = ap (entries_text texts) e ∙ entries_append texts first last

  -- each has an entry
  pub parts_all : All (HasText texts) ws → All (HasText texts) first × All (HasText texts) last
  parts_all a = (all_app (HasText texts) first last).0 (rw e at a)

-- ---- texts stored eight bytes at a time
-- lists that agree from an index on agree from a later one on
drop_later : (l m : List ℕ) (n p : ℕ) → n ≤ p → drop n l ≡ drop n m → drop p l ≡ drop p m
drop_later l m n p h e =
    let q : p ≡ n + (p - n) = omega arith in
    ap (λ (j : ℕ). drop j l) q
    ∙ sym (drop-drop (p - n) n l)
    ∙ ap (drop (p - n)) e
    ∙ drop-drop (p - n) n m
    ∙ ap (λ (j : ℕ). drop j m) (sym q)

-- nothing is stored
pub ahead_none : (l : List ℕ) (at : ℕ) → Ahead [] l l at at
ahead_none l at = record { ends = omega arith; long = refl; front = sym (append-nil (take at l)); behind = refl }

-- the same text under another name
pub ahead_as : {p q old new : List ℕ} {a e : ℕ} → p ≡ q → Ahead q old new a e → Ahead p old new a e
ahead_as h w = rw h w

-- eight bytes, of which at least two are the text
pub ahead_eight : {t old mid new : List ℕ} {a e : ℕ} (x : ℕ) → Ahead t old mid a e → Wrote (bytes_of 8 x) mid new e (e + 8) → 2 ≤ x / 2 ^ 56
    → x / 2 ^ 56 ≤ 7 → Ahead (t ++ text_of x) old new a (e + x / 2 ^ 56)
ahead_eight {t} {old} {mid} {new} {a} {e} x s w least most =
    let k = x / 2 ^ 56 in
    let bytes = bytes_of 8 x in
    let start : length (take e mid) ≡ e = length-take-le e mid (omega (arith, w.fits)) in
    let whole : length (take e mid ++ bytes) ≡ e + 8 = omega (arith, length-append (take e mid) bytes, bytes_long 8 x) in
    let far : drop (e + 8) new ≡ drop (e + 8) mid = ap (drop (e + 8)) w.list ∙ drop_at (take e mid ++ bytes) (drop (e + 8) mid) (e + 8) whole in
    let near : take (e + k) new ≡ take e mid ++ take k bytes =
    ap (take (e + k)) w.list
    ∙ take-append-le (e + k) (take e mid ++ bytes) (drop (e + 8) mid) (omega (arith, whole))
    ∙ ap (λ (n : ℕ). take (n + k) (take e mid ++ bytes)) (sym start)
    ∙ take-append-add (take e mid) bytes k in
    record {
      ends = omega (arith, length-append t (text_of x), text_long x, s.ends);
      long = w.long ∙ s.long;
      front =
          near
          ∙ ap (λ (l : List ℕ). take e mid ++ l) (bytes_take k 8 x (omega arith))
          ∙ ap (λ (l : List ℕ). l ++ text_of x) s.front
          ∙ append_assoc (take a old) t (text_of x);
      behind = drop_later new mid (e + 8) (e + k + 6) (omega arith) far ∙ drop_later mid old (e + 6) (e + k + 6) (omega arith) s.behind;
    }

-- at least six bytes after them, written exactly
pub ahead_then : {p q old mid new : List ℕ} {a b e : ℕ} → Ahead p old mid a b → Wrote q mid new b e → 6 ≤ length q → Wrote (p ++ q) old new a e
ahead_then {p} {q} {old} {mid} {new} {a} {b} {e} s w h = record {
  ends = omega (arith, length-append p q, s.ends, w.ends);
  fits = omega (arith, w.fits, s.long);
  long = w.long ∙ s.long;
  list =
      w.list
      ∙ ap (λ (l : List ℕ). l ++ q ++ drop e mid) s.front
      ∙ ap (λ (l : List ℕ). take a old ++ p ++ q ++ l) (drop_later mid old (b + 6) e (omega (arith, w.ends)) s.behind)
      ∙ ap (λ (l : List ℕ). l ++ drop e old) (append_assoc (take a old) p q);
}

-- ---- the table is filled
-- the text of the 0 that ends a clause, and of any other word, raised
pub raised_zero : (d : ℕ) (z : ℤ) → nat_abs z ≡ 0 → word_text (raised_word d z) ≡ digit 0 ∷ line_feed ∷ []
unfolding raised_word
raised_zero d z e = rw (eq-eqb (nat_abs z) 0 e) (text_zero (pos 0) refl)

pub raised_other : (d : ℕ) (z : ℤ) → (nat_abs z ≡ 0 → ⊥) → word_text (raised_word d z) ≡ sign_text z ++ digits (d + nat_abs z) ++ (space ∷ [])
unfolding raised_word
raised_other d (pos n) h = rw (ne_eqb n 0 h) (text_other (pos (d + n)) (λ e. h (omega arith)))
raised_other d (negsuc n) h =
    let e : d + suc n ≡ suc (d + n) = omega arith in
    rw (ne_eqb (suc n) 0 h) (
    ap (λ (i : ℕ). word_text (neg_ℤ (pos i))) e
    ∙ text_other (negsuc (d + n)) (λ q. omega arith)
    ∙ ap (λ (i : ℕ). 45 ∷ digits i ++ (space ∷ [])) (sym e))

-- the entry of the word 0, which ends a line
pub texts_none : (o : ℕ) (texts : List ℕ) → length texts ≡ entry_count → TextsOf o 0 (set texts 608 (48 + 10 * 256 + 2 * 2 ^ 56))
unfolding raised_word bytes_of
texts_none o texts h = record {
  long = length-set texts 608 (48 + 10 * 256 + 2 * 2 ^ 56) ∙ h;
  texts_are = λ z l. zero_entry z l;
}
  where
    zero_entry : (z : ℤ) → nat_abs z ≤ 0 → entry_text (set texts 608 (48 + 10 * 256 + 2 * 2 ^ 56)) z ≡ word_text (raised_word o z)
    zero_entry (pos zero) l = ap text_of (get_or-set_same texts 608 (48 + 10 * 256 + 2 * 2 ^ 56) 0 (omega arith)) ∙ sym (text_zero (pos 0) refl)
    zero_entry (pos (suc m)) l = absurd (omega arith)
    zero_entry (negsuc m) l = absurd (omega arith)

-- the two entries of the variable v are stored
module _ (texts : List ℕ) (v x y : ℕ) (long : length texts ≡ entry_count) (some : 1 ≤ v) (near : v ≤ most_near) where
  -- the entry of the word v
  plus_stored : get_or (set (set texts (608 + v) x) (608 - v) y) (608 + v) 0 ≡ x
  plus_stored =
      get_or-set_other (set texts (608 + v) x) (608 - v) (608 + v) y 0 (omega arith) ∙ get_or-set_same texts (608 + v) x 0 (omega arith)

  -- the entry of the word -v
  minus_stored : get_or (set (set texts (608 + v) x) (608 - v) y) (608 - v) 0 ≡ y
  minus_stored = get_or-set_same (set texts (608 + v) x) (608 - v) y 0 (simp length-set (omega arith))

  -- any other entry is as it was
  at_other : (k : ℕ) → k ≢ 608 - v → k ≢ 608 + v → get_or (set (set texts (608 + v) x) (608 - v) y) k 0 ≡ get_or texts k 0
  at_other k f g = get_or-set_other (set texts (608 + v) x) (608 - v) k y 0 f ∙ get_or-set_other texts (608 + v) k x 0 g

  -- so are the texts of the words nearer to 0
  others_stay : (z : ℤ) → nat_abs z < v → entry_text (set (set texts (608 + v) x) (608 - v) y) z ≡ entry_text texts z
  others_stay (pos m) h = ap text_of (at_other (608 + m) (omega arith) (omega arith))
  others_stay (negsuc m) h = ap text_of (at_other (608 - suc m) (omega arith) (omega arith))

-- one variable more
pub texts_more : {o i : ℕ} {texts : List ℕ} (x y : ℕ) → TextsOf o i texts → i + 1 ≤ most_near → o + (i + 1) < 100000
    → Entry (number_text (o + (i + 1))) x → Leads 45 x y → TextsOf o (i + 1) (set (set texts (608 + (i + 1)) x) (608 - (i + 1)) y)
texts_more {o} {i} {texts} x y t h few is led = record {
  long = length-set (set texts (608 + v) x) (608 - v) y ∙ length-set texts (608 + v) x ∙ t.long;
  texts_are = λ z l. below_cases (nat_abs z) v (omega arith) (new z) (λ (b : nat_abs z < v). old z b);
}
  where
    v : ℕ
    v = i + 1

    some : 1 ≤ v
    some = omega arith

    all : Bytes (number_text (o + v))
    all = number_bytes (o + v)

    short : length (number_text (o + v)) ≤ 6
    short = omega (arith, is.count, (number_room few is).1)

    new : (z : ℤ) → nat_abs z ≡ v → entry_text (set (set texts (608 + v) x) (608 - v) y) z ≡ word_text (raised_word o z)
    new (pos m) e =
        let text = raised_other o (pos v) (λ q. omega (arith, some)) in
        rw e (ap text_of (plus_stored texts v x y t.long some h) ∙ entry_text_lem is all (omega (arith, short)) ∙ sym text)
    new (negsuc m) e =
        rw (raised_other o (negsuc m) (λ q. omega arith), e)
        (ap text_of (minus_stored texts v x y t.long some h) ∙ entry_text_lem (entry_led is led) (omega arith, all) (omega (arith, short)))

    old : (z : ℤ) → nat_abs z < v → entry_text (set (set texts (608 + v) x) (608 - v) y) z ≡ word_text (raised_word o z)
    old z b = others_stay texts v x y t.long some h z b ∙ t.texts_are z (omega arith)
