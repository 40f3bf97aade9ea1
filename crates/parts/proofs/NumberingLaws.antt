-- The number of a solver variable in terms of the list's blocks, and bounds of what a well-formed record's blocks hold.
use mathlib.Core.Path.{◌≡◌, refl, sym, ap, ◌∙◌}
use Prim.Native.Nat.{ℕ, ◌+◌, ◌*◌, ◌≤◌, ◌<◌}
use native.Mathlib.Nat.{mul-le-mul}
use native.Mathlib.Omega.{arith}
use lib.Dec.{T}
use Rattle.model.specs.Form.{well_formed}
use Rattle.model.specs.declared.Model.{Model}
use Rattle.model.specs.declared.Totals.{Totals}
use Rattle.model.specs.Bounds.{KnownTotals}
use Rattle.model.specs.Automaton.{Component, state_size, choices}
use Rattle.model.proofs.FormLaws.{WellFormed, formed, state_size_le, choices_le, state_of_totals, choices_of_totals}
use Rattle.list.specs.Items.{offset, state_width, block_at, state_member, choice_member}
use Rattle.list.specs.Clauses.{one_hot_width, variable_of}
use Rattle.list.proofs.OneHot.{state_width_is, block_is}
use Rattle.parts.specs.Numbering.{variable_number, sixteen_bits, InSixteenBits}

module _ (m : Model) where
  -- a variable's number is one more than its place after the blocks before
  pub variable_number_lem : (t p : ℕ) → variable_number m t p ≡ block_at one_hot_width m t + p + 1
  unfolding variable_number
  variable_number_lem t p = ap (λ (n : ℕ). n + p + 1) (sym (block_is m t))

  -- the number of value v of component x in state t, and of choice c in the choice block after it
  pub state_number_lem : (t : ℕ) (x : Component) (v : ℕ)
      → variable_of (state_member one_hot_width m (block_at one_hot_width m t) x v) + 1 ≡ variable_number m t (offset one_hot_width m x + v)
  state_number_lem t x v = omega (arith, variable_number_lem t (offset one_hot_width m x + v))

  pub choice_number_lem : (t c : ℕ) → variable_of (choice_member one_hot_width m (block_at one_hot_width m t) c) + 1 ≡ variable_number m t (state_size m + c)
  choice_number_lem t c = omega (arith, variable_number_lem t (state_size m + c), state_width_is m)

  -- at most 64 blocks of 336 variables come before a block
  pub block_most : WellFormed m → (t : ℕ) → t ≤ 64 → block_at one_hot_width m t ≤ 21504
  block_most ok t h =
      let w : state_size m + choices m ≤ 336 = omega (arith, state_size_le m ok, choices_le m ok) in
      omega (arith, block_is m t, mul-le-mul h w)

  -- no value on the way to a number leaves 16 bits
  pub in_sixteen_bits : T (well_formed m) → (t p : ℕ) → t ≤ 64 → p < state_size m + choices m → InSixteenBits m t p
  unfolding variable_number
  in_sixteen_bits ok t p h l =
      let blocks : state_size m + choices m ≤ 336 = omega (arith, state_size_le m (formed m ok), choices_le m (formed m ok)) in
      let before : t * (state_size m + choices m) ≤ 64 * 336 = mul-le-mul h blocks in
      record {
        state_in = omega arith;
        choices_in = omega arith;
        blocks_in = omega arith;
        step_in = omega arith;
        before_in = omega arith;
        place_in = omega arith;
        variable_in = omega arith;
        number_in = omega arith;
      }

-- ---- by the totals that the code answers
-- H at most, of a well-formed record
pub choices_most : (m : Model) (z : Totals) → T (well_formed m) → KnownTotals m z → z.choices ≤ 64
choices_most m z ok k = omega (arith, choices_of_totals m z k, choices_le m (formed m ok))

module _ (m : Model) (z : Totals) (k : KnownTotals m z) where
  pub width_is : z.state ≡ state_width one_hot_width m
  width_is = state_of_totals m z k ∙ sym (state_width_is m)

  pub number_is : (t p : ℕ) → variable_number m t p ≡ t * (z.state + z.choices) + p + 1
  unfolding variable_number
  number_is t p = rw (state_of_totals m z k, choices_of_totals m z k) refl

  -- no value on the way leaves 16 bits, said of the lengths that the code has
  pub way_in : T (well_formed m) → (t p : ℕ) → t ≤ 64 → p < z.state + z.choices
      → (z.state < sixteen_bits) × (z.choices < sixteen_bits) × (z.state + z.choices < sixteen_bits) × (t * (z.state + z.choices) + p + 1 < sixteen_bits)
  way_in ok t p h l =
      let s = state_of_totals m z k in
      let c = choices_of_totals m z k in
      let way : InSixteenBits m t p = in_sixteen_bits m ok t p h (omega arith) in
      (omega (arith, way.state_in), omega (arith, way.choices_in), omega (arith, way.blocks_in), omega (arith, number_is t p, way.number_in))
