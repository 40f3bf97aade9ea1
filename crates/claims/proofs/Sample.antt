-- The theorems say something: logger model B is well formed, its list for 3 steps is emitted into a buffer of its length, 5 3 7 is a run of it, and so by
-- demand 2 the emitted words can be satisfied. The list is not evaluated for it.
use mathlib.Core.Path.{refl}
use mathlib.Core.List.{[], ◌∷◌}
use native.Mathlib.Omega.{arith}
use lib.Dec.{T}
use lib.IntN.{pos}
use lib.ListN.{length, replicate, length-replicate}
use Rattle.model.specs.Indexed.{list_below, all_below, max_below, sum_below, first_below}
use Rattle.model.specs.Automaton.{greatest_constant, ceiling, choices, all_hold, invariant_holds, initial_state, delayed, delay_step, listed, applied}
use Rattle.model.specs.Automaton.{updated, place_in, after_edge, edge_allowed, edge_step, step}
use Rattle.model.specs.Run.{walk, start, is_run}
use Rattle.model.specs.Form.{well_formed, head_formed, each_formed, filled_from_first, atoms_formed, updates_formed, order_formed, resets_formed, edge_formed}
use Rattle.model.specs.Form.{counters_formed, invariants_formed, edges_formed}
use Rattle.list.specs.Clauses.{words}
use Rattle.list.specs.Demands.{RunOfSteps}
use Rattle.samples.specs.Models.{model_b}
use Rattle.claims.specs.Calls.{record_calls, Emitted, ListSolvable}
use Rattle.claims.proofs.Accepted.{emits}
use Rattle.claims.proofs.CallProofs.{demand_2}

pub B_formed : T (well_formed model_b)
unfolding model_b all_below sum_below first_below listed place_in well_formed head_formed each_formed filled_from_first atoms_formed updates_formed order_formed
    resets_formed edge_formed counters_formed invariants_formed edges_formed
B_formed = tt

B_run : RunOfSteps model_b 3 (5 ∷ 3 ∷ 7 ∷ [])
unfolding model_b list_below all_below max_below sum_below greatest_constant ceiling choices all_hold invariant_holds initial_state delayed
    delay_step listed applied updated after_edge edge_allowed edge_step step walk start is_run
B_run = record { long = refl; ends = tt }

pub B_emitted : Emitted (record_calls model_b) 3
B_emitted =
    let n = length (words model_b 3) in
    emits (λ n. n) model_b B_formed 3 (omega arith) (replicate n (pos 0)) (omega (arith, length-replicate n (pos 0)))

pub B_solvable : ListSolvable B_emitted
B_solvable =
    let d = demand_2 (λ n. n) model_b 3 B_emitted in
    d.exactly.1 (5 ∷ 3 ∷ 7 ∷ [], record { long = refl; walked = (d.walks (5 ∷ 3 ∷ 7 ∷ []) refl).1 B_run.ends })
