-- The flags that one pass over the items raises are the tests over all items.
use Prim.Native.Nat.{ℕ, ◌+◌}
use mathlib.Core.Path.{◌≡◌, refl, sym, ap, ◌∙◌}
use mathlib.Core.List.{List, [], ◌∷◌, map, foldl}
use mathlib.Core.Bool.{Bool, true, false, not, cond, ◌&&◌, ◌||◌, or_assoc, or-false, false≢true}
use native.Mathlib.Omega.{arith}
use lib.Dec.{ltb, leb}
use borrow.Author.Tests.{lt-ltb, le-ltb, leb-true, leb-false}
use Rattle.text.specs.declared.bytes.Faults.{Faults}
use Rattle.text.specs.bytes.Faulty.{fault_number, any_of, rises_from}

module _ {S A : Type 0} (step : S → A → S) where
  -- a flag that each item can only raise
  pub flag : (get : S → Bool) (f : A → Bool) → ((s : S) (a : A) → get (step s a) ≡ (get s || f a))
      → (l : List A) (s : S) → get (foldl step s l) ≡ (get s || any_of f l)
  unfolding any_of
  flag get f h [] s = sym (or-false (get s))
  flag get f h (a ∷ l) s = flag get f h l (step s a) ∙ rw (h s a) (or_assoc (get s) (f a) (any_of f l))

  -- a flag that no item raises
  pub unflagged : (get : S → Bool) → ((s : S) (a : A) → get (step s a) ≡ get s) → (l : List A) (s : S) → get (foldl step s l) ≡ get s
  unflagged get h [] s = refl
  unflagged get h (a ∷ l) s = unflagged get h l (step s a) ∙ h s a

  -- a flag that is raised where a number is less than the least allowed, one more than the number before
  pub unrising : (get : S → Bool) (least : S → ℕ) (key : A → ℕ) → ((s : S) (a : A) → get (step s a) ≡ (get s || ltb (key a) (least s)))
      → ((s : S) (a : A) → least (step s a) ≡ key a + 1)
      → (l : List A) (s : S) → get (foldl step s l) ≡ (get s || not (rises_from (least s) (map key l)))
  unfolding rises_from
  unrising get least key h g [] s = sym (or-false (get s))
  unrising get least key h g (a ∷ l) s =
      unrising get least key h g l (step s a)
      ∙ rw (h s a, g s a)
      (or_assoc (get s) (ltb (key a) (least s)) (not (rises_from (key a + 1) (map key l))) ∙ ap (λ (x : Bool). get s || x) (go (leb (least s) (key a)) refl))
    where
      go : (b : Bool) → leb (least s) (key a) ≡ b
          → (ltb (key a) (least s) || not (rises_from (key a + 1) (map key l))) ≡ not (b && rises_from (key a + 1) (map key l))
      go true e = rw (le-ltb (key a) (least s) (leb-true (least s) (key a) e))
      go false e = rw (lt-ltb (key a) (least s) (leb-false (least s) (key a) e))

-- ---- two tests of which none fails
pub or_left : (a b : Bool) → (a || b) ≡ false → a ≡ false
or_left true b h = h
or_left false b h = refl

pub or_right : (a b : Bool) → (a || b) ≡ false → b ≡ false
or_right true b h = absurd (false≢true (sym h))
or_right false b h = h

-- ---- an item of a list of which none fails a test
pub any_head : {A : Type 0} (f : A → Bool) (a : A) (l : List A) → any_of f (a ∷ l) ≡ false → f a ≡ false
unfolding any_of
any_head f a l h = or_left (f a) (any_of f l) h

pub any_tail : {A : Type 0} (f : A → Bool) (a : A) (l : List A) → any_of f (a ∷ l) ≡ false → any_of f l ≡ false
unfolding any_of
any_tail f a l h = or_right (f a) (any_of f l) h

-- no item fails one test, and none another
pub any_neither : {A : Type 0} (f g : A → Bool) (l : List A) → any_of f l ≡ false → any_of g l ≡ false → any_of (λ a. f a || g a) l ≡ false
unfolding any_of
any_neither f g [] h k = refl
any_neither f g (a ∷ l) h k = rw (any_head f a l h, any_head g a l k, any_neither f g l (any_tail f a l h) (any_tail g a l k))

-- ---- faults that agree flag by flag
pub same_faults : (f : Faults) {a b c d e : Bool} → f.malformed ≡ a → f.crowded ≡ b → f.outside ≡ c → f.undeclared ≡ d → f.unordered ≡ e
    → f ≡ record { malformed = a; crowded = b; outside = c; undeclared = d; unordered = e }
same_faults f p q r s t = λ i. record { malformed = p i; crowded = q i; outside = r i; undeclared = s i; unordered = t i }

-- ---- a value without faults passes each test
pub record Passed (f : Faults) : Type 0 where
  pub well_formed_lem : f.malformed ≡ false
  pub few : f.crowded ≡ false
  pub inside : f.outside ≡ false
  pub declared : f.undeclared ≡ false
  pub ordered : f.unordered ≡ false

pub passed : (f : Faults) → fault_number f ≡ 0 → Passed f
unfolding fault_number
passed f h =
    let g = go f.malformed f.crowded f.outside f.undeclared f.unordered h in
    record { well_formed_lem = g.0; few = g.1; inside = g.2; declared = g.3; ordered = g.4 }
  where
    go : (a b c d e : Bool) → ◌≡◌ {A = ℕ} (cond a 3 (cond b 7 (cond c 4 (cond d 5 (cond e 6 0))))) 0
        → (a ≡ false) × (b ≡ false) × (c ≡ false) × (d ≡ false) × (e ≡ false)
    go true b c d e h = absurd (omega arith)
    go false true c d e h = absurd (omega arith)
    go false false true d e h = absurd (omega arith)
    go false false false true e h = absurd (omega arith)
    go false false false false true h = absurd (omega arith)
    go false false false false false h = (refl, refl, refl, refl, refl)
