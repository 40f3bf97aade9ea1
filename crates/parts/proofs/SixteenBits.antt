-- Sixteen bits are enough for a number (Q-3): the members in document 01's order are counted from 1 on, and each declared one has its number on a way
-- that does not leave 16 bits.
use mathlib.Core.Path.{◌≡◌, sym, ap, ap₂, ◌∙◌}
use mathlib.Core.List.{List, [], ◌∷◌, ◌++◌, append-nil, append_assoc}
use Prim.Native.Nat.{ℕ, zero, suc, ◌+◌, ◌*◌, ◌≤◌, ◌<◌}
use native.Mathlib.Nat.{add_comm, suc-mul}
use native.Mathlib.Numerals.{suc-eq-add-one}
use native.Mathlib.Omega.{arith}
use lib.Dec.{T}
use Rattle.model.specs.declared.Model.{Model}
use Rattle.model.specs.Form.{well_formed}
use Rattle.model.specs.Indexed.{each, list_below, sum_below}
use Rattle.model.specs.Automaton.{Component, Declared, group_size, state_size, choices, variables}
use Rattle.model.proofs.IndexedLaws.{each_suc, each_zero, sum_none, sum_suc, sum_const, list_none, list_more}
use Rattle.model.proofs.FormLaws.{formed, variables_is, variables_le}
use Rattle.list.specs.Items.{offset}
use Rattle.list.specs.Clauses.{one_hot_width}
use Rattle.list.proofs.ListLaws.{each_cong, list_cong}
use Rattle.list.proofs.Layouts.{offset_le}
use Rattle.list.proofs.OneHot.{OneHot, state_width_is}
use Rattle.parts.specs.StateBlock.{component_at}
use Rattle.parts.specs.Numbering.{variable_number, most_variables, state_number, choice_number, state_numbers, choice_numbers, numbers_in_order, SixteenBits}
use Rattle.parts.proofs.GroupLaws.{over_groups, begins_is, block_is}
use Rattle.parts.proofs.NumberingLaws.{state_number_lem, choice_number_lem, in_sixteen_bits}

-- ---- stretches of numbers
-- the n numbers from b on
abbrev up_from : ℕ → ℕ → List ℕ
up_from b n = list_below (λ i. b + i) n

up_suc : (b n : ℕ) → up_from b (suc n) ≡ up_from b n ++ ((b + n) ∷ [])
up_suc b n = ap (up_from b) (suc-eq-add-one n) ∙ list_more (λ i. b + i) n

up_app : (b n k : ℕ) → up_from b n ++ up_from (b + n) k ≡ up_from b (n + k)
up_app b n zero =
    let e : n ≡ n + 0 = omega arith in
    ap (λ (l : List ℕ). up_from b n ++ l) (list_none (λ i. b + n + i)) ∙ append-nil (up_from b n) ∙ ap (up_from b) e
up_app b n (suc k) =
    let last : b + n + k ≡ b + (n + k) = omega arith in
    let e : suc (n + k) ≡ n + suc k = omega arith in
    ap (λ (l : List ℕ). up_from b n ++ l) (up_suc (b + n) k) ∙ sym (append_assoc (up_from b n) (up_from (b + n) k) ((b + n + k) ∷ []))
    ∙ ap₂ (λ (l : List ℕ) (x : ℕ). l ++ (x ∷ [])) (up_app b n k) last ∙ sym (up_suc b (n + k)) ∙ ap (up_from b) e

-- stretches one after the other
up_each : (b : ℕ) (len : ℕ → ℕ) (n : ℕ) → each n (λ i. up_from (b + sum_below len i) (len i)) ≡ up_from b (sum_below len n)
up_each b len zero = each_zero _ ∙ sym (list_none (λ i. b + i)) ∙ ap (up_from b) (sym (sum_none len))
up_each b len (suc n) =
    each_suc n (λ i. up_from (b + sum_below len i) (len i)) ∙ ap (λ (l : List ℕ). l ++ up_from (b + sum_below len n) (len n)) (up_each b len n)
    ∙ up_app b (sum_below len n) (len n) ∙ ap (up_from b) (sym (sum_suc len n))

module _ (m : Model) where
  abbrev S : ℕ
  S = state_size m

  abbrev H : ℕ
  H = choices m

  -- a place has a number as much greater than that of the block's first place
  number_from : (t p : ℕ) → variable_number m t p ≡ variable_number m t 0 + p
  unfolding variable_number
  number_from t p = omega arith

  -- the next block begins after S + H places
  number_next : (t : ℕ) → variable_number m (t + 1) 0 ≡ variable_number m t S + H
  unfolding variable_number
  number_next t = omega (arith, suc-mul t (S + H))

  number_first : (t : ℕ) → variable_number m t S ≡ 1 + S + t * (H + S)
  unfolding variable_number
  number_first t = omega (arith, ap (λ (n : ℕ). t * n) (add_comm S H))

  number_start : variable_number m 0 0 ≡ 1
  unfolding variable_number
  number_start = omega arith

  -- ---- blocks
  state_in_order : (t : ℕ) → state_numbers m t ≡ up_from (variable_number m t 0) S
  unfolding state_numbers
  state_in_order t =
      sym (over_groups m (λ x. list_below (state_number m t x) (group_size m x)))
      ∙ each_cong (1 + m.vars + m.clocks) (λ g. list_below (state_number m t (component_at m g)) (many g))
      (λ g. up_from (start + sum_below many g) (many g)) group
      ∙ up_each start many (1 + m.vars + m.clocks) ∙ ap (up_from start) (sym (block_is m))
    where
      many : ℕ → ℕ
      many g = group_size m (component_at m g)

      start : ℕ
      start = variable_number m t 0

      group : (g : ℕ) → g < 1 + m.vars + m.clocks → list_below (state_number m t (component_at m g)) (many g) ≡ up_from (start + sum_below many g) (many g)
      group g l = list_cong (state_number m t (component_at m g)) (λ i. start + sum_below many g + i) (many g)
          (λ i p. number_from t (begin + i) ∙ omega (arith, begins_is m g))
        where
          begin : ℕ
          begin = offset one_hot_width m (component_at m g)

  choice_in_order : (t : ℕ) → choice_numbers m t ≡ up_from (variable_number m t S) H
  unfolding choice_numbers
  choice_in_order t = list_cong (choice_number m t) (λ i. variable_number m t S + i) H (λ i p. number_from t (S + i) ∙ omega (arith, number_from t S))

  -- ---- all members
  step_in_order : (t : ℕ) → choice_numbers m t ++ state_numbers m (t + 1) ≡ up_from (1 + S + sum_below (λ _. H + S) t) (H + S)
  step_in_order t =
      ap₂ (λ (l r : List ℕ). l ++ r) (choice_in_order t) (state_in_order (t + 1) ∙ ap (λ (n : ℕ). up_from n S) (number_next t))
      ∙ up_app (variable_number m t S) H S ∙ ap (λ (n : ℕ). up_from n (H + S)) (omega (arith, number_first t, sum_const t (H + S)))

  pub members_in_order : (k : ℕ) → numbers_in_order m k ≡ list_below (λ i. 1 + i) (variables m k)
  unfolding numbers_in_order
  members_in_order k =
      ap₂ (λ (l r : List ℕ). l ++ r) (state_in_order 0 ∙ ap (λ (n : ℕ). up_from n S) number_start)
      (each_cong k (λ t. choice_numbers m t ++ state_numbers m (t + 1)) (λ t. up_from (1 + S + sum_below (λ _. H + S) t) (H + S)) (λ t l. step_in_order t)
      ∙ up_each (1 + S) (λ _. H + S) k)
      ∙ up_app 1 S (sum_below (λ _. H + S) k)
      ∙ ap (up_from 1) (omega (arith, variables_is m k, sum_const k (H + S), ap (λ (n : ℕ). k * n) (add_comm S H)))

  -- ---- declared members
  member_in : (x : Component) → Declared m x → (v : ℕ) → v < group_size m x → offset one_hot_width m x + v < S
  unfolding OneHot
  member_in x d v l = omega (arith, offset_le OneHot m x d, state_width_is m)

  module _ (ok : T (well_formed m)) where
    -- a place in the block of state t, and one in the choice block of step t + 1
    most_state : (t p : ℕ) → t ≤ 64 → p < S → variable_number m t p ≤ most_variables
    unfolding variable_number
    most_state t p h l = omega (arith, variables_is m t, variables_le m (formed m ok) t h)

    most_choice : (t c : ℕ) → t < 64 → c < H → variable_number m t (S + c) ≤ most_variables
    unfolding variable_number
    most_choice t c h l = omega (arith, variables_is m (t + 1), variables_le m (formed m ok) (t + 1) (omega arith), suc-mul t (S + H))

    pub sixteen_bits_lem : SixteenBits m
    sixteen_bits_lem = record {
      state_members = λ t h x d v l.
          let place = member_in x d v l in record {
            number_is = sym (state_number_lem m t x v);
            number_le = most_state t _ h place;
            in_sixteen_bits = in_sixteen_bits m ok t _ h (omega (arith, place));
          };
      choice_members = λ t h c l. record {
        number_is = sym (choice_number_lem m t c);
        number_le = most_choice t c h l;
        in_sixteen_bits = in_sixteen_bits m ok t _ (omega arith) (omega arith);
      };
      in_order = members_in_order;
    }
