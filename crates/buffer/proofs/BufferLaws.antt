-- A piece that is written where the one before it ended extends what was written.
use mathlib.Core.Path.{◌≡◌, refl, sym, ap, ◌∙◌}
use mathlib.Core.List.{List, [], ◌∷◌, ◌++◌, append_assoc, append-nil}
use Prim.Native.Nat.{ℕ, suc, ◌+◌, ◌-◌, ◌≤◌, ◌<◌}
use native.Mathlib.Nat.{le_refl}
use native.Mathlib.Numerals.{add-one}
use native.Mathlib.Decide.{le_ind}
use native.Mathlib.Omega.{arith}
use lib.ListN.{length, take, drop, set, length-append, length-take, length-drop, take-append-drop}
use lib.Seq.{sets, sets-eq, length-sets, take_at, drop_at, drop-drop, length-take-le, take-length, drop-length}
use Rattle.model.specs.Indexed.{each, list_below}
use Rattle.model.proofs.IndexedLaws.{each_zero, each_suc, list_none, list_more}
use Rattle.buffer.specs.Buffers.{Room, Wrote}

module _ {A : Type 0} where
  -- ---- the same piece under another name
  pub wrote_as : {p q old new : List A} {a e : ℕ} → p ≡ q → Wrote q old new a e → Wrote p old new a e
  wrote_as h w = rw h w

  pub room_as : {p q l : List A} {a : ℕ} → p ≡ q → Room p l a → Room q l a
  room_as h w = rw h at w

  -- ---- pieces that are written
  -- elements that are stored one after the other from index at on
  pub wrote_sets : (p l : List A) (at : ℕ) → at + length p ≤ length l → Wrote p l (sets l at p) at (at + length p)
  wrote_sets p l at h = record { ends = refl; fits = h; long = length-sets l at p; list = sets-eq p l at h }

  -- nothing is written
  pub wrote_none : (l : List A) (at : ℕ) → at ≤ length l → Wrote [] l l at at
  wrote_none l at h = record {
    ends = omega arith;
    fits = h;
    long = refl;
    list = sym (ap (λ (r : List A). r ++ drop at l) (append-nil (take at l)) ∙ take-append-drop at l);
  }

  -- one element is stored
  pub wrote_one : (l : List A) (at : ℕ) (x : A) → at < length l → Wrote (x ∷ []) l (set l at x) at (at + 1)
  wrote_one l at x h = wrote_sets (x ∷ []) l at (omega arith)

  -- a piece that is written where the one before it ended
  pub wrote_then : {p q old mid new : List A} {a b e : ℕ} → Wrote p old mid a b → Wrote q mid new b e → Wrote (p ++ q) old new a e
  wrote_then {p} {q} {old} {mid} {new} {a} {b} {e} w v =
      let front : length (take a old ++ p) ≡ b =
      simp length-append (omega (arith, length-take-le a old (omega (arith, w.ends, w.fits)), w.ends)) in
      let head : take b mid ≡ take a old ++ p = ap (take b) w.list ∙ take_at (take a old ++ p) (drop b old) b front in
      let rest : drop b mid ≡ drop b old = ap (drop b) w.list ∙ drop_at (take a old ++ p) (drop b old) b front in
      let far : drop e mid ≡ drop e old =
      ap (λ (n : ℕ). drop n mid) v.ends
      ∙ sym (drop-drop (length q) b mid)
      ∙ ap (drop (length q)) rest
      ∙ drop-drop (length q) b old
      ∙ ap (λ (n : ℕ). drop n old) (sym v.ends) in
      record {
        ends = simp length-append (omega (arith, w.ends, v.ends));
        fits = omega (arith, v.fits, w.long);
        long = v.long ∙ w.long;
        list =
            v.list
            ∙ ap (λ (l : List A). l ++ q ++ drop e mid) head
            ∙ ap (λ (l : List A). take a old ++ p ++ q ++ l) far
            ∙ ap (λ (l : List A). l ++ drop e old) (append_assoc (take a old) p q);
      }

  -- a piece that is written into the tail of the buffer from a on
  pub wrote_in_tail : {p mid new : List A} {a n : ℕ} → a ≤ length mid → Wrote p (take (length mid - a) (drop a mid)) new 0 n
      → Wrote p mid (take a mid ++ (new ++ drop (length mid - a) (drop a mid))) a (a + n)
  wrote_in_tail {p} {mid} {new} {a} {n} h w =
      let len : length (drop a mid) ≡ length mid - a = length-drop a mid in
      let whole : take (length mid - a) (drop a mid) ≡ drop a mid = ap (λ (k : ℕ). take k (drop a mid)) (sym len) ∙ take-length (drop a mid) in
      let none : drop (length mid - a) (drop a mid) ≡ [] = ap (λ (k : ℕ). drop k (drop a mid)) (sym len) ∙ drop-length (drop a mid) in
      let new_is : new ≡ p ++ drop (a + n) mid =
      w.list ∙ ap (λ (l : List A). p ++ drop n l) whole ∙ ap (λ (l : List A). p ++ l) (drop-drop n a mid) in
      let all : take a mid ++ (new ++ drop (length mid - a) (drop a mid)) ≡ take a mid ++ p ++ drop (a + n) mid =
      ap (λ (l : List A). take a mid ++ (new ++ l)) none
      ∙ ap (λ (l : List A). take a mid ++ l) (append-nil new ∙ new_is)
      ∙ sym (append_assoc (take a mid) p (drop (a + n) mid)) in
      let n-is : n ≤ length mid - a = omega (arith, w.fits, ap length whole, len) in
      record {
        ends = omega (arith, w.ends);
        fits = omega (arith, n-is);
        long = ap length all ∙ simp (length-append, length-drop) (omega (arith, length-take-le a mid h, w.ends, n-is));
        list = all;
      }

  -- the second piece goes into the tail that begins where the first one ended
  pub wrote_tail : {p q old mid new : List A} {a b n : ℕ} → Wrote p old mid a b → Wrote q (take (length mid - b) (drop b mid)) new 0 n
      → Wrote (p ++ q) old (take b mid ++ (new ++ drop (length mid - b) (drop b mid))) a (b + n)
  wrote_tail w v = wrote_then w (wrote_in_tail (omega (arith, w.fits, w.long)) v)

  -- ---- a loop that writes one element a turn
  pub wrote_list_none : (f : ℕ → A) (l : List A) (at : ℕ) → at ≤ length l → Wrote (list_below f 0) l l at at
  wrote_list_none f l at h = wrote_as (list_none f) (wrote_none l at h)

  pub wrote_list : (f : ℕ → A) (i : ℕ) (x : A) {old mid : List A} {a b : ℕ} → Wrote (list_below f i) old mid a b → x ≡ f i → b < length mid
      → Wrote (list_below f (i + 1)) old (set mid b x) a (b + 1)
  wrote_list f i x w e h = rw (list_more f i, ← e) (wrote_then w (wrote_one _ _ x h))

  -- ---- a loop that writes a piece a turn
  pub wrote_each_none : (f : ℕ → List A) (l : List A) (at : ℕ) → at ≤ length l → Wrote (each 0 f) l l at at
  wrote_each_none f l at h = wrote_as (each_zero f) (wrote_none l at h)

  each_more : (n : ℕ) (f : ℕ → List A) → each (n + 1) f ≡ each n f ++ f n
  each_more n f = ap (λ (k : ℕ). each k f) (add-one n) ∙ each_suc n f

  pub wrote_each : (f : ℕ → List A) (i : ℕ) {old mid new : List A} {a b e : ℕ} → Wrote (each i f) old mid a b → Wrote (f i) mid new b e
      → Wrote (each (i + 1) f) old new a e
  wrote_each f i w v = wrote_as (each_more i f) (wrote_then w v)

  -- the same, each piece in the tail that begins where the one before it ended
  pub wrote_each_tail : (f : ℕ → List A) (i : ℕ) {old mid new : List A} {a b n : ℕ} → Wrote (each i f) old mid a b
      → Wrote (f i) (take (length mid - b) (drop b mid)) new 0 n
      → Wrote (each (i + 1) f) old (take b mid ++ (new ++ drop (length mid - b) (drop b mid))) a (b + n)
  wrote_each_tail f i w v = wrote_as (each_more i f) (wrote_tail w v)

  -- ---- room for what is still to be written
  pub room_first : {p : List A} (q : List A) {l : List A} {a : ℕ} → Room (p ++ q) l a → Room p l a
  room_first {p} q h = record { room = omega (arith, length-append p q, h.room) }

  pub room_then : {p q old mid : List A} {a b : ℕ} → Wrote p old mid a b → Room (p ++ q) old a → Room q mid b
  room_then {p} {q} w h = record { room = omega (arith, length-append p q, h.room, w.ends, w.long) }

  pub room_tail : {q mid : List A} {b : ℕ} → Room q mid b → Room q (take (length mid - b) (drop b mid)) 0
  room_tail h = record { room = simp (length-take, length-drop) (omega (arith, h.room)) }

  -- the first pieces are no longer than all
  pub each_le : (f : ℕ → List A) (i n : ℕ) → i ≤ n → length (each i f) ≤ length (each n f)
  each_le f i n h =
      le_ind (λ (k : ℕ). length (each i f) ≤ length (each k f)) (le_refl (length (each i f)))
      (λ k _ ih. rw (each_suc k f, length-append (each k f) (f k)) (omega arith)) n h

  pub room_each : (f : ℕ → List A) (i n : ℕ) {old mid : List A} {a b : ℕ} → Wrote (each i f) old mid a b → i < n → Room (each n f) old a → Room (f i) mid b
  room_each f i n w h r = record {
    room =
        omega (
          arith,
          length-append (each i f) (f i),
          ap length (each_suc i f),
          each_le f (suc i) n h,
          r.room,
          w.ends,
          w.long,
        );
  }
