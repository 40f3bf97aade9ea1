-- The models that the worked cases use.
use Rattle.std.specs.Prelude.{ℕ, List, [], ◌∷◌, replicate, pos}
use Rattle.model.specs.declared.Relation.{Relation}
use Rattle.model.specs.declared.Relation.TheVariants.{LessEqual, GreaterEqual, Equal}
use Rattle.model.specs.declared.Atom.TheVariants.{OnClock, OnCounter}
use Rattle.model.specs.declared.Update.{Update}
use Rattle.model.specs.declared.Update.TheVariants.{Keep, Constant, Sum}
use Rattle.model.specs.declared.ClockUpdate.{ClockUpdate}
use Rattle.model.specs.declared.ClockUpdate.TheVariants.{Unchanged, Reset}
use Rattle.model.specs.declared.Atom.{Atom}
use Rattle.model.specs.declared.Edge.{Edge}
use Rattle.model.specs.declared.Invariant.{Invariant}
use Rattle.model.specs.declared.Model.{Model}
use Rattle.model.specs.Record.{blank_atom, blank_update, blank_reset, blank_counter, blank_invariant, blank_edge}

-- four slots of which the first holds an atom on a clock
abbrev pub on_clock : ℕ → Relation → ℕ → List Atom
on_clock x r c = OnClock x r c ∷ replicate 3 blank_atom

abbrev pub no_atoms : List Atom
no_atoms = replicate 4 blank_atom

abbrev pub holding : List Atom → Invariant
holding atoms = record { atoms = atoms }

-- a private edge that sets counter 0 and clock 0 only; its order names counter 0 or is blank
abbrev pub edge : ℕ → ℕ → List Atom → Update → ClockUpdate → Edge
edge source target guard update reset = record { source = source; target = target; label = 0; guard = guard; updates = update ∷ replicate 3 blank_update; order = replicate 4 0; resets = reset ∷ replicate 3 blank_reset }

-- model A: two locations, and one edge from 0 to 1 with nothing in when, set and reset
unfoldable pub model_a : Model
model_a = record {
  locations = 2;
  initial = 0;
  target = 1;
  clocks = 0;
  vars = 0;
  counters = replicate 4 blank_counter;
  invariants = replicate 16 blank_invariant;
  used = 1;
  edges = edge 0 1 no_atoms Keep Unchanged ∷ replicate 31 blank_edge;
}

-- A with one clock and x0>=1 as invariant of location 0
unfoldable pub waiting_a : Model
waiting_a = record {
  locations = 2;
  initial = 0;
  target = 1;
  clocks = 1;
  vars = 0;
  counters = replicate 4 blank_counter;
  invariants = holding (on_clock 0 GreaterEqual 1) ∷ replicate 15 blank_invariant;
  used = 1;
  edges = edge 0 1 no_atoms Keep Unchanged ∷ replicate 31 blank_edge;
}

-- logger model B
unfoldable pub model_b : Model
model_b = record {
  locations = 4;
  initial = 0;
  target = 3;
  clocks = 1;
  vars = 1;
  counters = record { greatest = 1; initial = 0 } ∷ replicate 3 blank_counter;
  invariants = blank_invariant ∷ holding (on_clock 0 LessEqual 3) ∷ replicate 14 blank_invariant;
  used = 3;
  edges =
      edge 0 1 no_atoms Keep Reset ∷
      edge 1 2 (on_clock 0 LessEqual 2) (Sum 0 (pos 1)) Unchanged ∷
      edge 1 3 (on_clock 0 GreaterEqual 3) Keep Unchanged ∷
      replicate 29 blank_edge;
}

-- an edge at every limit
abbrev pub full_edge : Edge
full_edge = record { source = 15; target = 15; label = 15; guard = replicate 4 (OnCounter 3 Equal 31); updates = replicate 4 (Constant 31); order = 3 ∷ 0 ∷ 1 ∷ 2 ∷ []; resets = replicate 4 Reset }

-- a model at every limit: 16 locations, 4 clocks, 4 counters of 0 to 31, 32 edges, 4 atoms wherever atoms stand, constants 30 and 31
unfoldable pub full_model : Model
full_model = record {
  locations = 16;
  initial = 15;
  target = 15;
  clocks = 4;
  vars = 4;
  counters = replicate 4 (record { greatest = 31; initial = 31 });
  invariants = replicate 16 (holding (replicate 4 (OnClock 3 LessEqual 30)));
  used = 32;
  edges = replicate 32 full_edge;
}
