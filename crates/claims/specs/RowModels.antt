-- The small models of the rows that pin the definitions: together they have every relation on clocks, in an invariant and in a guard, and on counters,
-- every sort of update, in range and out of it, updates that read a counter set earlier and one set later, clocks reset, copied, swapped and left
-- unchanged, private edges and labelled ones, two counters and two clocks. Each stands here as a text and as the record that the text is read as
-- (specs/Texts.antt: RowTexts).
use Rattle.std.specs.Prelude.{List, [], ◌∷◌, ◌++◌, ℕ, ◌-◌, pos, neg_ℤ, length, replicate}
use Prim.Native.String.{String}
use Rattle.model.specs.declared.Relation.TheVariants.{Less, LessEqual, Equal, GreaterEqual, Greater, NotEqual}
use Rattle.model.specs.declared.Atom.{Atom}
use Rattle.model.specs.declared.Atom.TheVariants.{OnClock, OnCounter}
use Rattle.model.specs.declared.Update.{Update}
use Rattle.model.specs.declared.Update.TheVariants.{Keep, Constant, Sum}
use Rattle.model.specs.declared.ClockUpdate.{ClockUpdate}
use Rattle.model.specs.declared.ClockUpdate.TheVariants.{Unchanged, Reset, Copy}
use Rattle.model.specs.declared.Counter.{Counter}
use Rattle.model.specs.declared.Invariant.{Invariant}
use Rattle.model.specs.declared.Edge.{Edge}
use Rattle.model.specs.declared.Model.{Model}
use Rattle.model.specs.Record.{blank_atom, blank_update, blank_reset, blank_counter, blank_invariant, blank_edge}
use Rattle.list.specs.OtherEdges.{with_edges}
use Rattle.samples.specs.Models.{model_a}

-- ---- slots filled from the first, the rest blank
abbrev filled : {A : Type 0} → A → ℕ → List A → List A
filled blank n l = l ++ replicate (n - length l) blank

abbrev atoms : List Atom → List Atom
atoms [] = []
atoms (a ∷ l) = a ∷ atoms l

abbrev updates : List Update → List Update
updates [] = []
updates (u ∷ l) = u ∷ updates l

abbrev resets : List ClockUpdate → List ClockUpdate
resets [] = []
resets (u ∷ l) = u ∷ resets l

abbrev pub invariant : List Atom → Invariant
invariant l = record { atoms = filled blank_atom 4 (atoms l) }

abbrev pub counter : ℕ → ℕ → Counter
counter greatest initial = record { greatest = greatest; initial = initial }

-- The counters that are set stand in the order of their updates.
abbrev pub edge : ℕ → ℕ → ℕ → List Atom → List Update → List ℕ → List ClockUpdate → Edge
edge source target label when set order reset = record {
  source = source;
  target = target;
  label = label;
  guard = filled blank_atom 4 (atoms when);
  updates = filled blank_update 4 (updates set);
  order = filled 0 4 order;
  resets = filled blank_reset 4 (resets reset);
}

-- A model of so many locations and clocks, with these counters, invariants and edges.
abbrev pub model : ℕ → ℕ → ℕ → ℕ → List Counter → List Invariant → List Edge → Model
model locations initial target clocks counters invariants edges = record {
  locations = locations;
  initial = initial;
  target = target;
  clocks = clocks;
  vars = length counters;
  counters = filled blank_counter 4 counters;
  invariants = filled blank_invariant 16 invariants;
  used = length edges;
  edges = filled blank_edge 32 edges;
}

-- ---- every relation on a clock, in an invariant and in a guard; a reset and no reset
abbrev pub clock_relations_text : List String
clock_relations_text =
    "locations=2" ∷ "init=0" ∷ "target=1" ∷ "clocks=1" ∷ "vars=0" ∷ "inv=x0<1,x0<=1,x0=1,x0>=1" ∷ "inv=x0>1" ∷ "edges=2" ∷
    "from=0" ∷ "to=1" ∷ "label=0" ∷ "when=x0<1,x0<=1,x0=1,x0>=1" ∷ "set=-" ∷ "reset=x0" ∷
    "from=1" ∷ "to=0" ∷ "label=1" ∷ "when=x0>1" ∷ "set=-" ∷ "reset=-" ∷ []

unfoldable pub clock_relations : Model
clock_relations =
    let four : List Atom = OnClock 0 Less 1 ∷ OnClock 0 LessEqual 1 ∷ OnClock 0 Equal 1 ∷ OnClock 0 GreaterEqual 1 ∷ [] in
    let more : List Atom = OnClock 0 Greater 1 ∷ [] in
    model 2 0 1 1 [] (invariant four ∷ invariant more ∷ []) (edge 0 1 0 four [] [] (Reset ∷ []) ∷ edge 1 0 1 more [] [] (Unchanged ∷ []) ∷ [])

-- ---- every relation on a counter; a constant in range and one out of range
abbrev pub counter_relations_text : List String
counter_relations_text =
    "locations=1" ∷ "init=0" ∷ "target=0" ∷ "clocks=0" ∷ "vars=1" ∷ "var=2,1" ∷ "inv=-" ∷ "edges=2" ∷
    "from=0" ∷ "to=0" ∷ "label=15" ∷ "when=v0<1,v0<=1,v0=1,v0>=1" ∷ "set=v0:=2" ∷ "reset=-" ∷
    "from=0" ∷ "to=0" ∷ "label=0" ∷ "when=v0>1,v0!=1" ∷ "set=v0:=3" ∷ "reset=-" ∷ []

unfoldable pub counter_relations : Model
counter_relations =
    let four : List Atom = OnCounter 0 Less 1 ∷ OnCounter 0 LessEqual 1 ∷ OnCounter 0 Equal 1 ∷ OnCounter 0 GreaterEqual 1 ∷ [] in
    let two : List Atom = OnCounter 0 Greater 1 ∷ OnCounter 0 NotEqual 1 ∷ [] in
    model 1 0 0 0 (counter 2 1 ∷ []) (invariant [] ∷ [])
    (edge 0 0 15 four (Constant 2 ∷ []) (0 ∷ []) [] ∷ edge 0 0 0 two (Constant 3 ∷ []) (0 ∷ []) [] ∷ [])

-- ---- keep, and sums up and down, in range and below and above it
abbrev pub counter_updates_text : List String
counter_updates_text =
    "locations=1" ∷ "init=0" ∷ "target=0" ∷ "clocks=0" ∷ "vars=2" ∷ "var=1,1" ∷ "var=2,0" ∷ "inv=-" ∷ "edges=2" ∷
    "from=0" ∷ "to=0" ∷ "label=0" ∷ "when=-" ∷ "set=v1:=v0+1" ∷ "reset=-" ∷
    "from=0" ∷ "to=0" ∷ "label=0" ∷ "when=-" ∷ "set=v0:=v1-1,v1:=v1+2" ∷ "reset=-" ∷ []

unfoldable pub counter_updates : Model
counter_updates =
    let rises : List Update = Keep ∷ Sum 0 (pos 1) ∷ [] in
    let falls : List Update = Sum 1 (neg_ℤ (pos 1)) ∷ Sum 1 (pos 2) ∷ [] in
    model 1 0 0 0 (counter 1 1 ∷ counter 2 0 ∷ []) (invariant [] ∷ [])
    (edge 0 0 0 [] rises (1 ∷ []) [] ∷ edge 0 0 0 [] falls (0 ∷ 1 ∷ []) [] ∷ [])

-- ---- two locations, two counters, two clocks, and an edge with a guard of both sorts, an update, a counter kept, a reset and a clock unchanged
abbrev pub two_of_each_text : List String
two_of_each_text =
    "locations=2" ∷ "init=1" ∷ "target=0" ∷ "clocks=2" ∷ "vars=2" ∷ "var=1,1" ∷ "var=2,0" ∷ "inv=x1<=1" ∷ "inv=-" ∷ "edges=1" ∷
    "from=1" ∷ "to=0" ∷ "label=7" ∷ "when=x1>=1,v1<2" ∷ "set=v0:=v1+0" ∷ "reset=x1" ∷ []

unfoldable pub two_of_each : Model
two_of_each =
    let guard : List Atom = OnClock 1 GreaterEqual 1 ∷ OnCounter 1 Less 2 ∷ [] in
    let sets : List Update = Sum 1 (pos 0) ∷ Keep ∷ [] in
    let invariants : List Invariant = invariant (OnClock 1 LessEqual 1 ∷ []) ∷ invariant [] ∷ [] in
    model 2 1 0 2 (counter 1 1 ∷ counter 2 0 ∷ []) invariants (edge 1 0 7 guard sets (0 ∷ []) (Unchanged ∷ Reset ∷ []) ∷ [])

-- ---- a counter raised, then copied: the copy reads the raised value
abbrev pub raised_then_copied_text : List String
raised_then_copied_text =
    "locations=2" ∷ "init=0" ∷ "target=1" ∷ "clocks=0" ∷ "vars=2" ∷ "var=1,0" ∷ "var=1,0" ∷ "inv=-" ∷ "inv=-" ∷ "edges=1" ∷
    "from=0" ∷ "to=1" ∷ "label=0" ∷ "when=-" ∷ "set=v0:=v0+1,v1:=v0+0" ∷ "reset=-" ∷ []

-- The raised counter and its copy.
abbrev raised_and_copied : List Update
raised_and_copied = Sum 0 (pos 1) ∷ Sum 0 (pos 0) ∷ []

unfoldable pub raised_then_copied : Model
raised_then_copied =
    model 2 0 1 0 (counter 1 0 ∷ counter 1 0 ∷ []) (invariant [] ∷ invariant [] ∷ []) (edge 0 1 0 [] raised_and_copied (0 ∷ 1 ∷ []) [] ∷ [])

-- ---- the same updates in the other order: the copy reads the value before
abbrev pub copied_then_raised_text : List String
copied_then_raised_text =
    "locations=2" ∷ "init=0" ∷ "target=1" ∷ "clocks=0" ∷ "vars=2" ∷ "var=1,0" ∷ "var=1,0" ∷ "inv=-" ∷ "inv=-" ∷ "edges=1" ∷
    "from=0" ∷ "to=1" ∷ "label=0" ∷ "when=-" ∷ "set=v1:=v0+0,v0:=v0+1" ∷ "reset=-" ∷ []

unfoldable pub copied_then_raised : Model
copied_then_raised =
    model 2 0 1 0 (counter 1 0 ∷ counter 1 0 ∷ []) (invariant [] ∷ invariant [] ∷ []) (edge 0 1 0 [] raised_and_copied (1 ∷ 0 ∷ []) [] ∷ [])

-- ---- two counters that read each other, and an edge that can't be taken twice
abbrev pub two_orders_text : List String
two_orders_text =
    "locations=1" ∷ "init=0" ∷ "target=0" ∷ "clocks=0" ∷ "vars=2" ∷ "var=1,0" ∷ "var=1,1" ∷ "inv=-" ∷ "edges=2" ∷
    "from=0" ∷ "to=0" ∷ "label=0" ∷ "when=-" ∷ "set=v0:=v1+0,v1:=v0+0" ∷ "reset=-" ∷
    "from=0" ∷ "to=0" ∷ "label=0" ∷ "when=-" ∷ "set=v0:=v0+1,v1:=v0+0" ∷ "reset=-" ∷ []

unfoldable pub two_orders : Model
two_orders =
    let eachOther : List Update = Sum 1 (pos 0) ∷ Sum 0 (pos 0) ∷ [] in
    let edges : List Edge = edge 0 0 0 [] eachOther (0 ∷ 1 ∷ []) [] ∷ edge 0 0 0 [] raised_and_copied (0 ∷ 1 ∷ []) [] ∷ [] in
    model 1 0 0 0 (counter 1 0 ∷ counter 1 1 ∷ []) (invariant [] ∷ []) edges

-- ---- a clock reset and copied to another: the copy reads the value before the reset
abbrev pub reset_and_copied_text : List String
reset_and_copied_text =
    "locations=2" ∷ "init=0" ∷ "target=1" ∷ "clocks=2" ∷ "vars=0" ∷ "inv=-" ∷ "inv=-" ∷ "edges=1" ∷
    "from=0" ∷ "to=1" ∷ "label=0" ∷ "when=x0>=1" ∷ "set=-" ∷ "reset=x0,x1:=x0" ∷ []

unfoldable pub reset_and_copied : Model
reset_and_copied =
    model 2 0 1 2 [] (invariant [] ∷ invariant [] ∷ []) (edge 0 1 0 (OnClock 0 GreaterEqual 1 ∷ []) [] [] (Reset ∷ Copy 0 ∷ []) ∷ [])

-- ---- two clocks swapped
abbrev pub clocks_swapped_text : List String
clocks_swapped_text =
    "locations=2" ∷ "init=0" ∷ "target=1" ∷ "clocks=2" ∷ "vars=0" ∷ "inv=-" ∷ "inv=-" ∷ "edges=1" ∷
    "from=0" ∷ "to=1" ∷ "label=0" ∷ "when=-" ∷ "set=-" ∷ "reset=x0:=x1,x1:=x0" ∷ []

unfoldable pub clocks_swapped : Model
clocks_swapped = model 2 0 1 2 [] (invariant [] ∷ invariant [] ∷ []) (edge 0 1 0 [] [] [] (Copy 1 ∷ Copy 0 ∷ []) ∷ [])

-- ---- model A with a label on its edge and one in the unused slot after it
unfoldable pub labelled_a : ℕ → ℕ → Model
labelled_a label unused = with_edges model_a (edge 0 1 label [] [] [] [] ∷ edge 0 0 unused [] [] [] [] ∷ replicate 30 blank_edge)
