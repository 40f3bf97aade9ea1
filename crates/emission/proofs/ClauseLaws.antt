-- Laws of clauses that are written: those of any buffer, at the words of clauses; and a clause by the words of its literals.
use mathlib.Core.Path.{◌≡◌, refl, sym, ap, ap₂, ◌∙◌}
use mathlib.Core.List.{List, [], ◌∷◌, ◌++◌, append_assoc, append-nil, map}
use Prim.Native.Nat.{ℕ, zero, suc, ◌+◌, ◌-◌, ◌≤◌, ◌<◌}
use lib.IntN.{ℤ, pos}
use native.Mathlib.Omega.{arith}
use lib.ListN.{length, take, drop, length-append, length-drop}
use lib.Seq.{drop-drop, length-take-le}
use mir.Syntax.{w32}
use mir.Val.{SFits, to_z, of_z}
use mir.ValLaws.{to_z-of_z}
use Rattle.model.specs.Indexed.{each}
use Rattle.model.proofs.IndexedLaws.{each_zero, each_suc}
use Rattle.list.specs.Clauses.{Literal, Clause, word, clause_words, words_of, one}
use Rattle.buffer.specs.Buffers.{Room, Wrote}
use Rattle.buffer.proofs.BufferLaws as buffer
use Rattle.emission.specs.Written.{RoomFor, WroteClauses}

-- ---- words
words_append : (cs ds : List Clause) → words_of (cs ++ ds) ≡ words_of cs ++ words_of ds
unfolding words_of
words_append [] ds = refl
words_append (c ∷ cs) ds =
    ap (λ (l : List ℤ). clause_words c ++ l) (words_append cs ds) ∙ sym (append_assoc (clause_words c) (words_of cs) (words_of ds))

words_none : words_of [] ≡ []
unfolding words_of
words_none = refl

words_each : (f : ℕ → List Clause) (n : ℕ) → words_of (each n f) ≡ each n (λ i. words_of (f i))
words_each f zero = ap words_of (each_zero f) ∙ words_none ∙ sym (each_zero (λ i. words_of (f i)))
words_each f (suc n) =
    ap words_of (each_suc n f) ∙ words_append (each n f) (f n) ∙ ap (λ (l : List ℤ). l ++ words_of (f n)) (words_each f n) ∙ sym
    (each_suc n (λ i. words_of (f i)))

pub one_words : (c : Clause) → words_of (one c) ≡ map word c ++ (pos 0 ∷ [])
unfolding words_of one clause_words
one_words c = append-nil (map word c ++ (pos 0 ∷ []))

-- ---- the same clauses under another name
pub wrote_as : {cs ds : List Clause} {old new : List ℤ} {a e : ℕ} → cs ≡ ds → WroteClauses ds old new a e → WroteClauses cs old new a e
wrote_as q p = rw q p

pub room_as : {cs ds : List Clause} {l : List ℤ} {a : ℕ} → cs ≡ ds → RoomFor cs l a → RoomFor ds l a
room_as q p = rw q at p

-- ---- clauses that are written one piece after the other
pub wrote_none : (l : List ℤ) (at : ℕ) → at ≤ length l → WroteClauses [] l l at at
wrote_none l at h = record { words = buffer.wrote_as words_none (buffer.wrote_none l at h) }

pub wrote_then : {cs ds : List Clause} {old mid new : List ℤ} {a b e : ℕ} → WroteClauses cs old mid a b → WroteClauses ds mid new b e
    → WroteClauses (cs ++ ds) old new a e
wrote_then {cs} {ds} p q = record { words = buffer.wrote_as (words_append cs ds) (buffer.wrote_then p.words q.words) }

-- the second piece goes into the tail that begins where the first one ended
pub wrote_tail : {cs ds : List Clause} {old mid new : List ℤ} {a b n : ℕ} → WroteClauses cs old mid a b
    → WroteClauses ds (take (length mid - b) (drop b mid)) new 0 n
    → WroteClauses (cs ++ ds) old (take b mid ++ (new ++ drop (length mid - b) (drop b mid))) a (b + n)
wrote_tail {cs} {ds} p q = record { words = buffer.wrote_as (words_append cs ds) (buffer.wrote_tail p.words q.words) }

pub room_first : {cs : List Clause} (ds : List Clause) {l : List ℤ} {a : ℕ} → RoomFor (cs ++ ds) l a → RoomFor cs l a
room_first {cs} ds h = record { words = buffer.room_first (words_of ds) (buffer.room_as (words_append cs ds) h.words) }

pub room_then : {cs ds : List Clause} {old mid : List ℤ} {a b : ℕ} → WroteClauses cs old mid a b → RoomFor (cs ++ ds) old a → RoomFor ds mid b
room_then {cs} {ds} p h = record { words = buffer.room_then p.words (buffer.room_as (words_append cs ds) h.words) }

pub room_tail : {ds : List Clause} {mid : List ℤ} {b : ℕ} → RoomFor ds mid b → RoomFor ds (take (length mid - b) (drop b mid)) 0
room_tail h = record { words = buffer.room_tail h.words }

-- ---- a loop that writes a piece a turn
module _ (f : ℕ → List Clause) where
  abbrev F : ℕ → List ℤ
  F i = words_of (f i)

  -- its words, turn by turn
  turns : (i : ℕ) {old new : List ℤ} {a e : ℕ} → WroteClauses (each i f) old new a e → Wrote (each i F) old new a e
  turns i p = buffer.wrote_as (sym (words_each f i)) p.words

  pub wrote_each_none : (l : List ℤ) (at : ℕ) → at ≤ length l → WroteClauses (each 0 f) l l at at
  wrote_each_none l at h = record { words = buffer.wrote_as (words_each f 0) (buffer.wrote_each_none F l at h) }

  pub wrote_each : (i : ℕ) {old mid new : List ℤ} {a b e : ℕ} → WroteClauses (each i f) old mid a b → WroteClauses (f i) mid new b e
      → WroteClauses (each (i + 1) f) old new a e
  wrote_each i p q = record { words = buffer.wrote_as (words_each f (i + 1)) (buffer.wrote_each F i (turns i p) q.words) }

  -- the same, each piece in the tail that begins where the one before it ended
  pub wrote_each_tail : (i : ℕ) {old mid new : List ℤ} {a b n : ℕ} → WroteClauses (each i f) old mid a b
      → WroteClauses (f i) (take (length mid - b) (drop b mid)) new 0 n
      → WroteClauses (each (i + 1) f) old (take b mid ++ (new ++ drop (length mid - b) (drop b mid))) a (b + n)
  wrote_each_tail i p q = record { words = buffer.wrote_as (words_each f (i + 1)) (buffer.wrote_each_tail F i (turns i p) q.words) }

  pub room_each : (i n : ℕ) {old mid : List ℤ} {a b : ℕ} → WroteClauses (each i f) old mid a b → i < n → RoomFor (each n f) old a → RoomFor (f i) mid b
  room_each i n p h r = record { words = buffer.room_each F i n (turns i p) h (buffer.room_as (words_each f n) r.words) }

-- ---- a clause word by word
-- its first word, and those of the clause that is left
first_word : (p : Literal) (c : Clause) → words_of (one (p ∷ c)) ≡ (word p ∷ []) ++ words_of (one c)
first_word p c = one_words (p ∷ c) ∙ ap (λ (l : List ℤ). word p ∷ l) (sym (one_words c))

-- a word as it is stored
pub stored : (x : ℤ) {w : ℤ} → x ≡ w → SFits w32 x → to_z w32 (of_z w32 x) ≡ w
stored x e f = to_z-of_z w32 x f ∙ e

module _ (p : Literal) {x : ℤ} (e : x ≡ word p) (f : SFits w32 x) {old : List ℤ} {at : ℕ} where
  pub room_word : (c : Clause) → RoomFor (one (p ∷ c)) old at → Room (to_z w32 (of_z w32 x) ∷ []) old at
  room_word c r = rw (stored x e f) (buffer.room_first (words_of (one c)) (buffer.room_as (first_word p c) r.words))

  -- what is left goes behind the first word
  pub room_rest : (c : Clause) {mid : List ℤ} {b : ℕ} → Wrote (to_z w32 (of_z w32 x) ∷ []) old mid at b → RoomFor (one (p ∷ c)) old at → RoomFor (one c) mid b
  room_rest c w r = record { words = buffer.room_then (rw (stored x e f) at w) (buffer.room_as (first_word p c) r.words) }

  pub wrote_rest : (c : Clause) {mid new : List ℤ} {b e : ℕ} → Wrote (to_z w32 (of_z w32 x) ∷ []) old mid at b → WroteClauses (one c) mid new b e
      → WroteClauses (one (p ∷ c)) old new at e
  wrote_rest c w v = record { words = buffer.wrote_as (first_word p c) (buffer.wrote_then (rw (stored x e f) at w) v.words) }

-- the clause that has no literal left is its 0
pub room_zero : {l : List ℤ} {a : ℕ} → RoomFor (one []) l a → Room (pos 0 ∷ []) l a
room_zero r = buffer.room_as (one_words []) r.words

pub wrote_zero : {old new : List ℤ} {a e : ℕ} → Wrote (pos 0 ∷ []) old new a e → WroteClauses (one []) old new a e
wrote_zero w = record { words = buffer.wrote_as (one_words []) w }

-- the clause of literals that have these words, and a 0
pub wrote_clause : (c : Clause) {literals old new : List ℤ} {a e : ℕ} → literals ≡ map word c → Wrote (literals ++ (pos 0 ∷ [])) old new a e
    → WroteClauses (one c) old new a e
wrote_clause c h w = record { words = buffer.wrote_as (one_words c) (rw h at w) }

-- words that take the place of as many, up to e
pub wrote_part : {p new l : List ℤ} {at n e : ℕ} → n ≡ length p → e ≡ at + length p → new ≡ p → at + length p ≤ length l
    → Wrote p l (take at l ++ (new ++ drop n (drop at l))) at e
wrote_part {p} {new} {l} {at} {n} {e} q f g h =
    let all : take at l ++ (new ++ drop n (drop at l)) ≡ take at l ++ p ++ drop e l =
    ap₂ (λ (x : List ℤ) (k : ℕ). take at l ++ (x ++ drop k (drop at l))) g q
    ∙ ap (λ (x : List ℤ). take at l ++ (p ++ x)) (drop-drop (length p) at l)
    ∙ ap (λ (k : ℕ). take at l ++ (p ++ drop k l)) (sym f)
    ∙ sym (append_assoc (take at l) p (drop e l)) in
    record {
      ends = f;
      fits = omega arith;
      long = ap length all ∙ simp (length-append, length-drop) (omega (arith, length-take-le at l (omega arith)));
      list = all;
    }
