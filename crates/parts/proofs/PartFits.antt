-- The variables of the parts lie in the state block at o, the choice block after it and the next state block.
use mathlib.Core.Path.{◌≡◌, refl, sym, ap, subst, ◌∙◌}
use mathlib.Core.Bool.{Bool, true, false, cond}
use mathlib.Core.List.{List}
use Prim.Native.Nat.{ℕ, ◌+◌, ◌-◌, ◌≤◌, ◌<◌}
use native.Mathlib.Omega.{arith}
use borrow.Author.Tests.{ltb-false}
use lib.Dec.{leb, ltb, leb→le, T}
use Rattle.model.specs.declared.Relation.{Relation}
use Rattle.model.specs.declared.Atom.{Atom}
use Rattle.model.specs.declared.Atom.TheVariants.{Blank, OnClock, OnCounter}
use Rattle.model.specs.declared.Update.{Update}
use Rattle.model.specs.declared.Update.TheVariants.{Constant, Sum, Keep as KeepIt}
use Rattle.model.specs.declared.ClockUpdate.{ClockUpdate}
use Rattle.model.specs.declared.ClockUpdate.TheVariants.{Unchanged, Reset, Copy}
use Rattle.model.specs.declared.Edge.{Edge}
use Rattle.model.specs.declared.Model.{Model}
use Rattle.model.specs.Record.{atom_at, update_at, reset_at, counter_at}
use Rattle.model.specs.Automaton.{ceiling, group_size, state_size, choices, set_earlier}
use Rattle.model.proofs.FormLaws.{WellFormed, WellFormedEdge, DeclaredAtom, DeclaredUpdate, DeclaredReset}
use Rattle.parts.specs.declared.Rule.{Rule}
use Rattle.parts.specs.declared.Rule.TheVariants.{Keep, Rise, Shift, Set, Forbid}
use Rattle.parts.specs.Rules.{reach, Fits}
use Rattle.parts.specs.StateBlock.{group_table, first_at, size_at}
use Rattle.parts.specs.PartsOf.{next_at, exclude_part, atom_part, leads_part, delay_part, set_part, greatest_at, read_at, update_part, reset_part, edge_part}
use Rattle.parts.proofs.GroupLaws.{comp_counter, comp_clock, first_is, size_is, group_in, many_le}
use Rattle.parts.proofs.EdgeParts.{edge_cases}
use Rattle.parts.proofs.PartPieces.{groups_are, vars_are, top_is, state_is, choices_are, greatest_is}

module _ (m : Model) (ok : WellFormed m) where
  -- a group of the table
  pub group_fits : (g : ℕ) → g < 1 + m.vars + m.clocks → first_at (group_table m) g + size_at (group_table m) g ≤ state_size m
  group_fits g l =
      let k : g < 9 = omega (arith, ok.vars_le, ok.clocks_le) in
      omega (arith, first_is m g k, size_is m g k, group_in m g l)

  pub group_small : (g : ℕ) → g < 1 + m.vars + m.clocks → size_at (group_table m) g ≤ 32
  group_small g l =
      let k : g < 9 = omega (arith, ok.vars_le, ok.clocks_le) in
      omega (arith, size_is m g k, many_le m ok g)

  -- the locations come first
  pub locations_in : m.locations ≤ state_size m
  locations_in = omega (arith, group_in m 0 (omega arith))

  counter_size_lem : (i : ℕ) → i < m.vars → size_at (group_table m) (1 + i) ≡ (counter_at m i).greatest + 1
  counter_size_lem i l = size_is m (1 + i) (omega (arith, ok.vars_le)) ∙ ap (group_size m) (comp_counter m i l)

  clock_size : (i : ℕ) → i < m.clocks → size_at (group_table m) (1 + m.vars + i) ≡ ceiling m + 1
  clock_size i l = size_is m (1 + m.vars + i) (omega (arith, ok.vars_le, ok.clocks_le)) ∙ ap (group_size m) (comp_clock m i)

  module _ (o n : ℕ) where
    exclude_fits : (g : ℕ) (relation : Relation) (constant : ℕ) → o + state_size m ≤ n → g < 1 + m.vars + m.clocks
        → Fits (exclude_part (group_table m) o g relation constant) n
    exclude_fits g relation constant h l = record { size_le = group_small g l; before_in = omega (arith, group_fits g l); after_in = omega arith }

    pub atom_fits : (atom : Atom) → o + state_size m ≤ n → DeclaredAtom m atom → Fits (atom_part (group_table m) o atom) n
    atom_fits Blank h d = record { size_le = omega arith; before_in = omega arith; after_in = omega arith }
    atom_fits (OnClock x relation constant) h d =
        subst (λ (v : ℕ). Fits (exclude_part (group_table m) o (1 + v + x) relation constant) n) (sym (vars_are m))
        (exclude_fits (1 + m.vars + x) relation constant h (omega arith))
    atom_fits (OnCounter x relation constant) h d = exclude_fits (1 + x) relation constant h (omega arith)

    module _ (h : o + state_size m + choices m + state_size m ≤ n) where
      next_at_lem : next_at (group_table m) o ≡ o + state_size m + choices m
      next_at_lem = omega (arith, state_is m, choices_are m)

      leads_fits : (from g k : ℕ) (rule : Rule) → from + state_size m ≤ n → g < 1 + m.vars + m.clocks → k < 1 + m.vars + m.clocks
          → reach (size_at (group_table m) g) rule ≤ size_at (group_table m) k → Fits (leads_part (group_table m) from o g k rule) n
      leads_fits from g k rule f p q r = record {
        size_le = group_small g p;
        before_in = omega (arith, group_fits g p);
        after_in = omega (arith, group_fits k q, next_at_lem, r);
      }

      -- the state block in which an update reads its source
      read_fits : (after : Bool) → cond after (next_at (group_table m) o) o + state_size m ≤ n
      read_fits true = omega (arith, next_at_lem)
      read_fits false = omega arith

      set_fits : (z w : ℕ) (rule : Rule) → z + reach 1 rule ≤ n → Fits (set_part z w rule) n
      set_fits z w rule r = record { size_le = omega arith; before_in = omega (arith, locations_in, ok.initial_ok); after_in = r }

      pub update_fits : (order : List ℕ) (i : ℕ) (u : Update) → i < m.vars → DeclaredUpdate m u → Fits (update_part (group_table m) o order i u) n
      update_fits order i KeepIt l d = leads_fits o (1 + i) (1 + i) Keep (omega arith) (omega arith) (omega arith) (omega arith)
      update_fits order i (Constant c) l d = by (leb c (greatest_at (group_table m) i)) refl
        where
          by : (t : Bool) → leb c (greatest_at (group_table m) i) ≡ t
              → Fits (set_part (next_at (group_table m) o + first_at (group_table m) (1 + i)) (size_at (group_table m) (1 + i)) (cond t (Set c) Forbid)) n
          by true e =
              set_fits _ _ (Set c) (omega (
                arith,
                leb→le c (greatest_at (group_table m) i) (subst T (sym e) tt),
                greatest_is m i,
                counter_size_lem i l,
                group_fits (1 + i) (omega arith),
                next_at_lem,
              ))
          by false e = set_fits _ _ Forbid (omega (arith, group_fits (1 + i) (omega arith), next_at_lem))
      update_fits order i (Sum w z) l d =
          leads_fits (read_at (group_table m) o order w i) (1 + w) (1 + i) (Shift z (greatest_at (group_table m) i)) (read_fits (set_earlier order w i))
          (omega arith) (omega arith) (omega (arith, greatest_is m i, counter_size_lem i l))

      pub reset_fits : (i : ℕ) (u : ClockUpdate) → i < m.clocks → DeclaredReset m u → Fits (reset_part (group_table m) o i u) n
      reset_fits i Unchanged l d =
          subst (λ (v : ℕ). Fits (leads_part (group_table m) o o (1 + v + i) (1 + v + i) Keep) n) (sym (vars_are m))
          (leads_fits o (1 + m.vars + i) (1 + m.vars + i) Keep (omega arith) (omega arith) (omega arith) (omega arith))
      reset_fits i Reset l d =
          subst (λ (v : ℕ). Fits (set_part (next_at (group_table m) o + first_at (group_table m) (1 + v + i)) (size_at (group_table m) (1 + v + i)) (Set 0)) n)
          (sym (vars_are m))
          (set_fits _ _ (Set 0) (omega (arith, clock_size i l, group_fits (1 + m.vars + i) (omega arith), next_at_lem)))
      reset_fits i (Copy w) l d =
          subst (λ (v : ℕ). Fits (leads_part (group_table m) o o (1 + v + w) (1 + v + i) Keep) n) (sym (vars_are m))
          (leads_fits o (1 + m.vars + w) (1 + m.vars + i) Keep (omega arith) (omega arith) (omega arith) (omega (arith, clock_size w d, clock_size i l)))

      pub delay_fits : (d g : ℕ) → g < 1 + m.vars + m.clocks → Fits (delay_part (group_table m) o d g) n
      delay_fits d g l = by (ltb g (1 + (group_table m).vars)) refl
        where
          by : (t : Bool) → ltb g (1 + (group_table m).vars) ≡ t → Fits (leads_part (group_table m) o o g g (cond t Keep (Rise d (group_table m).top))) n
          by true e = leads_fits o g g Keep (omega arith) l l (omega arith)
          by false e =
              let k : m.vars + 1 ≤ g = omega (arith, ltb-false g (1 + (group_table m).vars) e, vars_are m) in
              let z : g ≡ 1 + m.vars + (g - (1 + m.vars)) = omega arith in
              let s : size_at (group_table m) g ≡ ceiling m + 1 = ap (size_at (group_table m)) z ∙ clock_size (g - (1 + m.vars)) (omega arith) in
              leads_fits o g g (Rise d (group_table m).top) (omega arith) l l (omega (arith, s, top_is m))

      pub edge_fits : (e : Edge) → WellFormedEdge m e → (j : ℕ) → j < (group_table m).groups + 5 → Fits (edge_part (group_table m) e o j) n
      edge_fits e w j l =
          edge_cases (group_table m) e o (λ p. Fits p n) m.clocks
          (set_fits o _ (Set e.source) (omega (arith, w.source_ok, locations_in)))
          (set_fits (next_at (group_table m) o) _ (Set e.target) (omega (arith, w.target_ok, locations_in, next_at_lem)))
          (λ k p. atom_fits (atom_at e.guard k) (omega arith) (w.guard_ok k p))
          (λ i p. let q : i < m.vars = omega (arith, vars_are m) in update_fits e.order i (update_at e i) q (w.sets_ok i q))
          (λ i p. reset_fits i (reset_at e i) p (w.resets_ok i p)) j (omega (arith, groups_are m, vars_are m))
