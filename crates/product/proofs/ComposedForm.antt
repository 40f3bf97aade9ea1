-- The composed model of two well-formed models that fit is well formed.
use mathlib.Core.Path.{◌≡◌, refl, sym, ap, subst, ◌∙◌}
use mathlib.Core.Logic.{⊎_elim}
use mathlib.Core.Bool.{true, ◌&&◌, cond}
use mathlib.Core.List.{List}
use Prim.Native.Nat.{ℕ, zero, suc, ◌+◌, ◌-◌, ◌*◌, ◌≤◌, ◌<◌}
use native.Mathlib.Nat.{not-suc-le-zero}
use native.Mathlib.Omega.{arith}
use lib.Dec.{T, leb, ltb, eqb, leb→le, le→leb, lt→ltb}
use lib.ListN.{length, replicate, get_or-eq_default}
use Rattle.model.specs.declared.Atom.{Atom}
use Rattle.model.specs.declared.Counter.{Counter}
use Rattle.model.specs.declared.Invariant.{Invariant}
use Rattle.model.specs.declared.Edge.{Edge}
use Rattle.model.specs.declared.Model.{Model}
use Rattle.model.specs.Indexed.{all_below}
use Rattle.model.specs.Record.{blank_atom, blank_counter, blank_invariant, blank_edge, past_invariant, past_edge, counter_at, invariant_at, edge_at}
use Rattle.model.specs.Form.{atoms_formed, counter_formed, is_blank_counter, counter_slot_formed, counters_formed, invariant_slot_formed, invariants_formed}
use Rattle.model.specs.Form.{edge_formed, is_blank_edge, edge_slot_formed, edges_formed, head_formed, well_formed}
use Rattle.model.proofs.IndexedLaws.{and_T, lt_or_le, cond_T, cond_F, not_lt, all_below_lem, get_d_list}
use Rattle.model.proofs.FormLaws.{formed, edge_parts, and₄, yes}
use Rattle.model.proofs.BlankSlots.{and₇_of, unused_counter}
use Rattle.compose.specs.declared.moves.Move.{Move}
use Rattle.compose.specs.declared.moves.Move.TheVariants.{FirstAlone, SecondAlone, Together}
use Rattle.compose.specs.Joined.{joined_location, atom_count, joined_atoms, standing}
use Rattle.compose.specs.Moves.{label_at, paired, moves, move_at, edge_of, MoveOf}
use Rattle.compose.specs.Composed.{invariants_fit, guard_fits, guards_fit, fits, joined_counters, joined_invariant, joined_invariants, composed_edge, composed}
use Rattle.compose.proofs.JoinedLaws.{invariant_formed_at, edge_formed_at}
use Rattle.compose.proofs.ComposedLaws.{held}
use Rattle.compose.proofs.MoveLaws.{move_of}
use Rattle.compose.proofs.PlacedLaws.{placed_blank}
use Rattle.product.proofs.JoinedForm.{slot_of, blank_formed, standing_formed, joined_atoms_formed, joined_edge_formed}
pub use Rattle.compose.proofs.Rows.{pair_lt}
use Rattle.compose.proofs.Rows.{length_rows, each_at}

-- ---- the fields of the composed model
module _ (a b : Model) where
  pub composed_locations : (composed a b).locations ≡ a.locations * b.locations
  unfolding composed
  composed_locations = refl

  pub composed_initial : (composed a b).initial ≡ joined_location b.locations a.initial b.initial
  unfolding composed
  composed_initial = refl

  pub composed_target : (composed a b).target ≡ joined_location b.locations a.target b.target
  unfolding composed
  composed_target = refl

  pub composed_clocks : (composed a b).clocks ≡ a.clocks + b.clocks
  unfolding composed
  composed_clocks = refl

  pub composed_vars : (composed a b).vars ≡ a.vars + b.vars
  unfolding composed
  composed_vars = refl

  pub composed_used : (composed a b).used ≡ length (moves a b)
  unfolding composed
  composed_used = refl

-- ---- pairs of numbers as one number
-- every number below the product is that of a pair
pub pair_of : (n m l : ℕ) → l < n * m → (i : ℕ) × (j : ℕ) × (i < n) × (j < m) × (l ≡ i * m + j)
pair_of zero m l p = absurd (not-suc-le-zero (let z : l < 0 = omega arith in z))
pair_of (suc n) m l p = ⊎_elim
    (λ q. let h = pair_of n m l q in (h.0, h.1, omega (arith, h.2), h.3, h.4))
    (λ q. (n, l - n * m, omega arith, omega arith, omega arith))
    (lt_or_le l (n * m))

-- ---- slot by slot
module _ (a b : Model) where
  -- the invariant of location (i, j)
  pub invariant_at_lem : (i j : ℕ) → i < a.locations → j < b.locations → a.locations * b.locations ≤ 16
      → invariant_at (composed a b) (i * b.locations + j) ≡ joined_atoms a.clocks a.vars (invariant_at a i) (invariant_at b j)
  unfolding composed joined_invariants
  invariant_at_lem i j p q h =
      let n = i * b.locations + j in
      ap (λ (v : Invariant). v.atoms) (
      placed_blank past_invariant blank_invariant 16 (joined_invariants a b) n (omega (arith, pair_lt a.locations b.locations i j p q))
      ∙ each_at (joined_invariant a b) b.locations blank_invariant a.locations i j p q)

  -- the slots after those of the locations are blank
  pub invariant_rest : (l : ℕ) → a.locations * b.locations ≤ l → l < 16 → invariant_at (composed a b) l ≡ replicate 4 blank_atom
  unfolding composed joined_invariants
  invariant_rest l p q =
      ap (λ (v : Invariant). v.atoms) (
      placed_blank past_invariant blank_invariant 16 (joined_invariants a b) l q
      ∙ get_or-eq_default (joined_invariants a b) blank_invariant (omega (arith, length_rows (joined_invariant a b) b.locations a.locations)))

  -- edge n
  pub edge_at_lem : (n : ℕ) → n < 32 → edge_at (composed a b) n ≡ composed_edge a b n
  unfolding composed
  edge_at_lem n l = get_d_list past_edge (composed_edge a b) 32 n l

  pub edge_of_move : (n : ℕ) → n < length (moves a b) → n < 32 → edge_at (composed a b) n ≡ edge_of a b (move_at a b n)
  edge_of_move n p l =
      edge_at_lem n l ∙ cond_T (ltb n (length (moves a b))) (edge_of a b (move_at a b n)) blank_edge (lt→ltb n (length (moves a b)) p)

  -- the slots after those of the moves are blank
  pub edge_rest : (n : ℕ) → length (moves a b) ≤ n → n < 32 → edge_at (composed a b) n ≡ blank_edge
  edge_rest n p l =
      edge_at_lem n l ∙ cond_F (ltb n (length (moves a b))) (edge_of a b (move_at a b n)) blank_edge (not_lt n (length (moves a b)) p)

  -- the first's counters
  pub counter_first : (i : ℕ) → i < 4 → i < a.vars → counter_at (composed a b) i ≡ counter_at a i
  unfolding composed joined_counters
  counter_first i l p =
      get_d_list blank_counter (λ i. cond (ltb i a.vars) (counter_at a i) (counter_at b (i - a.vars))) 4 i l
      ∙ cond_T (ltb i a.vars) (counter_at a i) (counter_at b (i - a.vars)) (lt→ltb i a.vars p)

  -- then the second's
  pub counter_second : (i : ℕ) → a.vars + i < 4 → counter_at (composed a b) (a.vars + i) ≡ counter_at b i
  unfolding composed joined_counters
  counter_second i l =
      let v = a.vars in
      let s : v + i - v ≡ i = omega arith in
      get_d_list blank_counter (λ i. cond (ltb i v) (counter_at a i) (counter_at b (i - v))) 4 (v + i) l
      ∙ cond_F (ltb (v + i) v) (counter_at a (v + i)) (counter_at b (v + i - v)) (not_lt (v + i) v (omega arith))
      ∙ ap (counter_at b) s

-- ---- the parts of a well-formed record
module _ (m : Model) (ok : T (well_formed m)) where
  pub counter_formed_at : (i : ℕ) → i < m.vars → T (counter_formed (counter_at m i))
  unfolding well_formed counters_formed
  counter_formed_at i l =
      let g = and₄ (head_formed m) (counters_formed m.vars m.counters) (invariants_formed m) (edges_formed m) ok in
      yes i m.vars (counter_formed (counter_at m i)) (is_blank_counter (counter_at m i))
      ((all_below_lem (λ k. counter_slot_formed m.vars (counter_at m k) k) 4).0 g.1 i (omega (arith, (formed m ok).vars_le))) l

-- ---- two models that fit
pub record Fits (a b : Model) : Type 0 where
  pub locations_fit : a.locations * b.locations ≤ 16
  pub clocks_fit : a.clocks + b.clocks ≤ 4
  pub vars_fit : a.vars + b.vars ≤ 4
  pub moves_fit : length (moves a b) ≤ 32
  pub invariants_fit_lem : (i j : ℕ) → i < a.locations → j < b.locations → atom_count (invariant_at a i) + atom_count (invariant_at b j) ≤ 4
  pub guards_fit_lem : (e f : ℕ) → e < a.used → f < b.used → T (paired a b e f) → atom_count (edge_at a e).guard + atom_count (edge_at b f).guard ≤ 4

pub fits_of : (a b : Model) → T (fits a b) → Fits a b
unfolding invariants_fit guards_fit
fits_of a b h =
    let g = held a b h in
    record {
      locations_fit = g.locations_le;
      clocks_fit = g.clocks_le;
      vars_fit = g.vars_le;
      moves_fit = g.moves_le;
      invariants_fit_lem = λ i j p q. leb→le (atom_count (invariant_at a i) + atom_count (invariant_at b j)) 4
          ((all_below_lem (λ j. leb (atom_count (invariant_at a i) + atom_count (invariant_at b j)) 4) b.locations).0
          ((all_below_lem (λ i. all_below (λ j. leb (atom_count (invariant_at a i) + atom_count (invariant_at b j)) 4) b.locations) a.locations).0
          g.invariants_fit_lem i p) j q);
      guards_fit_lem = λ e f p q t.
          let row = (all_below_lem (λ e. all_below (guard_fits a b e) b.used) a.used).0 g.guards_fit_lem e p in
          let few = leb (atom_count (edge_at a e).guard + atom_count (edge_at b f).guard) 4 in
          leb→le (atom_count (edge_at a e).guard + atom_count (edge_at b f).guard) 4
          (subst T (cond_T (paired a b e f) few true t) ((all_below_lem (guard_fits a b e) b.used).0 row f q));
    }

-- ---- the composed model is well formed
pub blank_slot : T (is_blank_edge blank_edge)
unfolding standing
blank_slot = (and_T (eqb 0 0) (edge_formed 1 0 0 blank_edge)).1 (tt, standing_formed 0 1 0 0 (omega arith))

module _ (a b : Model) (a-ok : T (well_formed a)) (b-ok : T (well_formed b)) (fit : T (fits a b)) where
  abbrev few : Fits a b
  few = fits_of a b fit

  -- the edge of a move
  pub move_formed : (w : Move) → MoveOf a b w → T (edge_formed (a.locations * b.locations) (a.clocks + b.clocks) (a.vars + b.vars) (edge_of a b w))
  move_formed (FirstAlone e j) h =
      let e-ok = edge_formed_at a a-ok e h.0 in
      joined_edge_formed a.locations a.clocks a.vars b.locations b.clocks b.vars (edge_at a e) (standing j) few.clocks_fit few.vars_fit
      e-ok (standing_formed j b.locations b.clocks b.vars h.1) (label_at a e)
      (edge_parts a.locations a.clocks a.vars (edge_at a e) e-ok).2
  move_formed (SecondAlone f i) h =
      let f-ok = edge_formed_at b b-ok f h.0 in
      joined_edge_formed a.locations a.clocks a.vars b.locations b.clocks b.vars (standing i) (edge_at b f) few.clocks_fit few.vars_fit
      (standing_formed i a.locations a.clocks a.vars h.1) f-ok (label_at b f)
      (edge_parts b.locations b.clocks b.vars (edge_at b f) f-ok).2
  move_formed (Together e f) h =
      let e-ok = edge_formed_at a a-ok e h.0 in
      joined_edge_formed a.locations a.clocks a.vars b.locations b.clocks b.vars (edge_at a e) (edge_at b f) few.clocks_fit few.vars_fit
      e-ok (edge_formed_at b b-ok f h.1) (label_at a e) (edge_parts a.locations a.clocks a.vars (edge_at a e) e-ok).2

  composed_edge_slot : (n : ℕ) → n < 32
      → T (cond (ltb n (length (moves a b)))
      (edge_formed (a.locations * b.locations) (a.clocks + b.clocks) (a.vars + b.vars) (edge_at (composed a b) n)) (is_blank_edge (edge_at (composed a b) n)))
  composed_edge_slot n l =
      let whole = edge_formed (a.locations * b.locations) (a.clocks + b.clocks) (a.vars + b.vars) in
      slot_of n (length (moves a b)) (whole (edge_at (composed a b) n)) (is_blank_edge (edge_at (composed a b) n))
      (λ p. subst (λ (e : Edge). T (whole e)) (sym (edge_of_move a b n p l)) (move_formed (move_at a b n) (move_of a b n p)))
      (λ p. subst (λ (e : Edge). T (is_blank_edge e)) (sym (edge_rest a b n p l)) blank_slot)

  composed_edges_formed : T (edges_formed (composed a b))
  unfolding edges_formed composed
  composed_edges_formed = (all_below_lem (edge_slot_formed (composed a b)) 32).1 composed_edge_slot

  -- the invariant of a pair of locations
  pub pair_invariant_formed : (i j : ℕ) → i < a.locations → j < b.locations
      → T (atoms_formed (a.clocks + b.clocks) 0 (joined_atoms a.clocks a.vars (invariant_at a i) (invariant_at b j)))
  pair_invariant_formed i j p q =
      joined_atoms_formed a.clocks a.vars (a.clocks + b.clocks) 0 a.clocks 0 b.clocks 0 (invariant_at a i) (invariant_at b j)
      (omega arith) (omega arith) (λ x l. omega arith) (λ x l. absurd (not-suc-le-zero l)) (invariant_formed_at a a-ok i p) (invariant_formed_at b b-ok j q)

  composed_invariant_slot : (l : ℕ) → l < 16
      → T (cond (ltb l (a.locations * b.locations)) (atoms_formed (a.clocks + b.clocks) 0 (invariant_at (composed a b) l))
      (atoms_formed 0 0 (invariant_at (composed a b) l)))
  composed_invariant_slot l q =
      let whole = atoms_formed (a.clocks + b.clocks) 0 in
      slot_of l (a.locations * b.locations) (whole (invariant_at (composed a b) l)) (atoms_formed 0 0 (invariant_at (composed a b) l))
      (λ p. let h = pair_of a.locations b.locations l p in
      subst (λ (x : List Atom). T (whole x))
      (sym (ap (invariant_at (composed a b)) h.4 ∙ invariant_at_lem a b h.0 h.1 h.2 h.3 few.locations_fit))
      (pair_invariant_formed h.0 h.1 h.2 h.3))
      (λ p. subst (λ (x : List Atom). T (atoms_formed 0 0 x)) (sym (invariant_rest a b l p q)) (blank_formed 0 0))

  composed_invariants_formed : T (invariants_formed (composed a b))
  unfolding invariants_formed composed
  composed_invariants_formed = (all_below_lem (invariant_slot_formed (composed a b)) 16).1 composed_invariant_slot

  composed_counter_slot : (i : ℕ) → i < 4 → T (counter_slot_formed (a.vars + b.vars) (counter_at (composed a b) i) i)
  composed_counter_slot i l =
      let c = composed a b in
      let fit = few.vars_fit in
      slot_of i (a.vars + b.vars) (counter_formed (counter_at c i)) (is_blank_counter (counter_at c i))
      (λ p. ⊎_elim (λ q. subst (λ (x : Counter). T (counter_formed x)) (sym (counter_first a b i l q)) (counter_formed_at a a-ok i q))
      (λ q. let j = i - a.vars in
      let here : i ≡ a.vars + j = omega arith in
      subst (λ (x : Counter). T (counter_formed x)) (sym (ap (counter_at c) here ∙ counter_second a b j (omega arith)))
      (counter_formed_at b b-ok j (omega arith)))
      (lt_or_le i a.vars))
      (λ p. let j = i - a.vars in
      let here : i ≡ a.vars + j = omega arith in
      subst (λ (x : Counter). T (is_blank_counter x))
      (sym (ap (counter_at c) here ∙ counter_second a b j (omega arith) ∙ unused_counter b b-ok j (omega arith) (omega arith))) tt)

  composed_counters_formed : T (counters_formed (composed a b).vars (composed a b).counters)
  unfolding counters_formed composed
  composed_counters_formed = (all_below_lem (λ i. counter_slot_formed (a.vars + b.vars) (counter_at (composed a b) i) i) 4).1 composed_counter_slot

  composed_head_formed : T (head_formed (composed a b))
  unfolding head_formed composed
  composed_head_formed =
      let n = a.locations * b.locations in
      let start = joined_location b.locations a.initial b.initial in
      let end = joined_location b.locations a.target b.target in
      let start_ok = pair_lt a.locations b.locations a.initial b.initial (formed a a-ok).initial_ok (formed b b-ok).initial_ok in
      let end-ok = pair_lt a.locations b.locations a.target b.target (formed a a-ok).target_ok (formed b b-ok).target_ok in
      and₇_of (leb 1 n) (leb n 16) (ltb start n) (ltb end n) (leb (a.clocks + b.clocks) 4) (leb (a.vars + b.vars) 4) (leb (length (moves a b)) 32)
      (le→leb 1 n (omega (arith, start_ok))) (le→leb n 16 few.locations_fit) (lt→ltb start n start_ok) (lt→ltb end n end-ok)
      (le→leb (a.clocks + b.clocks) 4 few.clocks_fit) (le→leb (a.vars + b.vars) 4 few.vars_fit)
      (le→leb (length (moves a b)) 32 few.moves_fit)

  -- the composed model of two well-formed models that fit is well formed
  pub composed_formed : T (well_formed (composed a b))
  unfolding well_formed
  composed_formed =
      let m = composed a b in
      (and_T (head_formed m && counters_formed m.vars m.counters && invariants_formed m) (edges_formed m)).1 (
        (and_T (head_formed m && counters_formed m.vars m.counters) (invariants_formed m)).1 (
          (and_T (head_formed m) (counters_formed m.vars m.counters)).1 (composed_head_formed, composed_counters_formed),
          composed_invariants_formed,
        ),
        composed_edges_formed,
      )
