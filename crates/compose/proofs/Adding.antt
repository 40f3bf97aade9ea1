-- The loops that add moves: what the list is after a turn.
use mathlib.Core.Path.{◌≡◌, refl, sym, ap, ◌∙◌}
use mathlib.Core.Bool.{Bool, true, false, not, ◌&&◌, cond}
use lib.Dec.{eqb}
use mathlib.Core.List.{List, [], ◌∷◌, ◌++◌}
use Prim.Native.Nat.{ℕ, ◌+◌}
use native.Mathlib.Numerals.{add-one}
use lib.ListN.{length}
use Rattle.model.specs.declared.Model.{Model}
use Rattle.model.specs.Indexed.{each, list_below}
use Rattle.model.proofs.IndexedLaws.{each_suc, each_zero, list_more, list_none}
use Rattle.compose.specs.declared.moves.Move.{Move}
use Rattle.compose.specs.declared.moves.Move.TheVariants.{FirstAlone, SecondAlone, Together}
use Rattle.compose.specs.declared.moves.Moves.{Moves}
use Rattle.compose.specs.Moves.{label_at, bears, shared, paired, first_alone, second_alone, pair_of, added}
use Rattle.compose.proofs.PlacedLaws.{added_none, added_then, added_count}

module _ (h₀ : Moves) where
  -- more is added
  pub added_on : {h r : Moves} (l x : List Move) {m : List Move} → h ≡ added h₀ l → r ≡ added h x → m ≡ l ++ x → r ≡ added h₀ m
  added_on l x p q e = q ∙ ap (λ (h : Moves). added h x) p ∙ added_then h₀ l x ∙ ap (added h₀) (sym e)

  pub counted : {h : Moves} (l : List Move) → h ≡ added h₀ l → h.count ≡ h₀.count + length l
  counted l p = ap (λ (h : Moves). h.count) p ∙ added_count h₀ l

  -- ---- one by one
  pub list_start : (f : ℕ → Move) → h₀ ≡ added h₀ (list_below f 0)
  list_start f = sym (ap (added h₀) (list_none f) ∙ added_none h₀)

  pub list_turn : {h r : Moves} (f : ℕ → Move) (n : ℕ) → h ≡ added h₀ (list_below f n) → r ≡ added h (f n ∷ []) → r ≡ added h₀ (list_below f (n + 1))
  list_turn f n p q = added_on (list_below f n) (f n ∷ []) p q (list_more f n)

  -- ---- piece by piece
  pub each_start : (f : ℕ → List Move) → h₀ ≡ added h₀ (each 0 f)
  each_start f = sym (ap (added h₀) (each_zero f) ∙ added_none h₀)

  pub each_turn : {h r : Moves} (f : ℕ → List Move) (n : ℕ) (x : List Move) → h ≡ added h₀ (each n f) → r ≡ added h x → f n ≡ x
      → r ≡ added h₀ (each (n + 1) f)
  each_turn f n x p q e = added_on (each n f) x p q (ap (λ (k : ℕ). each k f) (add-one n) ∙ each_suc n f ∙ ap (λ (y : List Move). each n f ++ y) e)

  -- nothing is added where the piece is empty
  pub each_skip : {h r : Moves} (f : ℕ → List Move) (n : ℕ) → h ≡ added h₀ (each n f) → r ≡ h → f n ≡ [] → r ≡ added h₀ (each (n + 1) f)
  each_skip {h} f n p q e = each_turn f n [] p (q ∙ sym (added_none h)) e

-- ---- the pieces, by the test of the label
-- the moves of an edge that moves alone, none where its label is shared; f is the move of an edge and a location
abbrev pub lone : Model → Model → (ℕ → ℕ → Move) → ℕ → List Move
lone own other f e = cond (shared own other (label_at own e)) [] (list_below (f e) other.locations)

module _ (own other : Model) (f : ℕ → ℕ → Move) (e : ℕ) where
  pub lone_here : shared own other (label_at own e) ≡ false → lone own other f e ≡ list_below (f e) other.locations
  lone_here t = rw t

  pub lone_none : shared own other (label_at own e) ≡ true → lone own other f e ≡ []
  lone_none t = rw t

module _ (a b : Model) where
  -- either model's labels are shared with the other's
  shared_sym : (l : ℕ) → shared b a l ≡ shared a b l
  unfolding shared
  shared_sym l = by (not (eqb l 0)) (bears a l) (bears b l)
    where
      by : (p q r : Bool) → p && r && q ≡ p && q && r
      by false q r = refl
      by true false false = refl
      by true false true = refl
      by true true false = refl
      by true true true = refl

  pub first_lone : (n : ℕ) → each n (lone a b FirstAlone) ≡ each n (first_alone a b)
  unfolding first_alone
  first_lone n = refl

  pub second_lone : (n : ℕ) → each n (lone b a SecondAlone) ≡ each n (second_alone a b)
  unfolding second_alone
  second_lone n = λ i. each n (λ f. cond (shared_sym (label_at b f) i) [] (list_below (SecondAlone f) a.locations))

  pub pair_here : (e f : ℕ) → paired a b e f ≡ true → pair_of a b e f ≡ Together e f ∷ []
  pair_here e f t = rw t

  pub pair_none : (e f : ℕ) → paired a b e f ≡ false → pair_of a b e f ≡ []
  pair_none e f t = rw t
