-- What is claimed of the clause list: demands 2 and 3, and the corollary on the shortest run. specs/Demands.antt says what the statements mean; each
-- proof is cited. No bound is asked of j and k, so all this holds up to 64 and beyond. What is claimed of the calls stands in the crate claims.
use Prim.Native.Nat.{ℕ, ◌≤◌}
use lib.Dec.{T}
use Rattle.model.specs.declared.Model.{Model}
use Rattle.model.specs.Form.{well_formed}
use Rattle.list.specs.Demands.{Demand2, Demand3, Shortest}
use Rattle.list.proofs.DemandProofs

-- For every accepted model and bound the list can be satisfied exactly if the automaton has a run of k steps that ends in the target location. Each
-- satisfying assignment, from whichever solver, decodes to such a run; each such run has exactly one satisfying assignment, and we can write it.
pub demand_2 : (m : Model) → T (well_formed m) → (k : ℕ) → Demand2 m k
demand_2 = DemandProofs.demand_2

-- For every accepted model and all bounds j and k with j at most k: the list for k begins, word for word, with the list for j less its last clause;
-- every assignment that satisfies the list for j goes on, no value changed, to one that satisfies the list for k; and every assignment that satisfies
-- the list for k, cut after step j's state, satisfies the list for j exactly when its run stands in the target after j steps.
pub demand_3 : (m : Model) → T (well_formed m) → (j k : ℕ) → j ≤ k → Demand3 m j k
demand_3 = DemandProofs.demand_3

-- So the smallest bound whose list can be satisfied, if there is one, is the length of a run, and every other run of the model has at least as many
-- steps; if there is none up to 64, every run has more than 64.
pub shortest_run : (m : Model) → T (well_formed m) → Shortest m
shortest_run = DemandProofs.shortest
