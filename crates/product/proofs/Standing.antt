-- Standing still as an edge: it is formed, and it is allowed exactly in its location, whose invariant holds already, and changes nothing.
use mathlib.Core.Path.{◌≡◌, sym, ap, subst, ◌∙◌}
use mathlib.Core.Logic.{◌↔◌}
use mathlib.Core.List.{List}
use Rattle.std.specs.Prelude.{Some}
use Prim.Native.Nat.{ℕ, ◌<◌}
use native.Mathlib.Omega.{arith}
use lib.Dec.{T}
use Rattle.model.specs.declared.Atom.{Atom}
use Rattle.model.specs.declared.Atom.TheVariants.{Blank}
use Rattle.model.specs.declared.Update.{Update}
use Rattle.model.specs.declared.ClockUpdate.{ClockUpdate}
use Rattle.model.specs.declared.Model.{Model}
use Rattle.model.specs.declared.State.{State}
use Rattle.model.specs.Record.{atom_at, update_at, reset_at, counter_at}
use Rattle.model.specs.Automaton.{value, loc, counter, clock, invariant_holds, new_counter, new_clock, read_by, edge_step}
use Rattle.model.proofs.IndexedLaws.{some_inj}
use Rattle.model.proofs.FormLaws.{WellFormedEdge, WellFormed, ceiling_ge}
use Rattle.model.proofs.StepLaws.{Shaped, state_ext, EdgeTo, edge_iff}
use Rattle.compose.specs.Joined.{standing}
use Rattle.product.proofs.JoinedForm.{blank_atom_at, standing_guard, standing_keeps, standing_stays, standing_listed, standing_ends}
use Rattle.product.proofs.PartLaws.{PartAtoms}

standing_atom : (l k : ℕ) → k < 4 → atom_at (standing l).guard k ≡ Blank
standing_atom l k p = ap (λ (atoms : List Atom). atom_at atoms k) (standing_guard l) ∙ blank_atom_at k p

module _ (m : Model) (ok : WellFormed m) (l : ℕ) where
  pub standing_atoms : PartAtoms m (standing l).guard
  standing_atoms = record {
    declared = λ k p. rw (standing_atom l k p) tt;
    low = λ k p. rw (standing_atom l k p) (omega (arith, ceiling_ge m));
    past = λ k p q. rw (standing_atom l k p) tt;
  }

  pub standing_ok : l < m.locations → WellFormedEdge m (standing l)
  standing_ok h = record {
    source_ok = subst (λ (x : ℕ). x < m.locations) (sym (standing_ends l).0) h;
    target_ok = subst (λ (x : ℕ). x < m.locations) (sym (standing_ends l).1) h;
    guard_ok = λ k p. rw (standing_atom l k p) tt;
    sets_ok = λ i p. rw (standing_keeps l i (omega (arith, ok.vars_le))) tt;
    sets_rest = λ i p q. standing_keeps l i q;
    order_ok = record {
      slot_lt = λ k p. absurd (omega (arith, p, standing_listed l));
      slot_set = λ k p. absurd (omega (arith, p, standing_listed l));
      slot_first = λ k p. absurd (omega (arith, p, standing_listed l));
    };
    resets_ok = λ i p. rw (standing_stays l i (omega (arith, ok.clocks_le))) tt;
    resets_rest = λ i p q. standing_stays l i q;
  }

  pub standing_iff : l < m.locations → (s t : State) → Shaped m s → T (invariant_holds m s)
      → (edge_step m (standing l) s ≡ Some t) ↔ ((s.location ≡ l) × (s ≡ t))
  standing_iff h s t q i = (
    λ e. let g = (edge_iff m ok (standing l) (standing_ok h) s q t).0 e in (g.leaves ∙ (standing_ends l).0, stays g),
    λ g. (edge_iff m ok (standing l) (standing_ok h) s q t).1 (subst (EdgeTo m (standing l) s) g.1 (still g.0)),
  )
    where
      own : (t : State) (i : ℕ) → i < m.vars
          → new_counter (read_by (standing l) s t i) (counter_at m i).greatest (value s (counter i)) (update_at (standing l) i) ≡ Some (value s (counter i))
      own t i p =
          ap (λ (u : Update). new_counter (read_by (standing l) s t i) (counter_at m i).greatest (value s (counter i)) u)
          (standing_keeps l i (omega (arith, ok.vars_le)))

      kept : (i : ℕ) → i < m.clocks → new_clock (λ w. value s (clock w)) (value s (clock i)) (reset_at (standing l) i) ≡ value s (clock i)
      kept i p = ap (λ (u : ClockUpdate). new_clock (λ w. value s (clock w)) (value s (clock i)) u) (standing_stays l i (omega (arith, ok.clocks_le)))

      stays : EdgeTo m (standing l) s t → s ≡ t
      stays g = state_ext m q g.shape (elim [
        | loc ↦ λ p. g.leaves ∙ (standing_ends l).0 ∙ sym (standing_ends l).1 ∙ sym g.lands
        | counter i ↦ λ p. some_inj (sym (own t i p) ∙ g.sets i p)
        | clock i ↦ λ p. sym (kept i p) ∙ g.resets i p
      ])

      still : s.location ≡ l → EdgeTo m (standing l) s s
      still e = record {
        shape = q;
        leaves = e ∙ sym (standing_ends l).0;
        guard = λ k p. rw (standing_atom l k p) tt;
        sets = λ i p. own s i p;
        resets = λ i p. kept i p;
        lands = e ∙ sym (standing_ends l).1;
        allowed = i;
      }
