-- The small models of the rows on two models composed: a logger and a watchdog, as texts and as records, with the model that they compose; A with itself;
-- models of so many locations, clocks, counters, edges or atoms, for both sides of each limit.
use Rattle.std.specs.Prelude.{List, [], ◌∷◌, ℕ, pos, neg_ℤ, replicate}
use Prim.Native.String.{String}
use Rattle.model.specs.declared.Relation.TheVariants.{LessEqual, GreaterEqual}
use Rattle.model.specs.declared.Atom.{Atom}
use Rattle.model.specs.declared.Atom.TheVariants.{OnClock, OnCounter}
use Rattle.model.specs.declared.Update.{Update}
use Rattle.model.specs.declared.Update.TheVariants.{Keep, Sum}
use Rattle.model.specs.declared.ClockUpdate.{ClockUpdate}
use Rattle.model.specs.declared.ClockUpdate.TheVariants.{Unchanged, Reset, Copy}
use Rattle.model.specs.declared.Invariant.{Invariant}
use Rattle.model.specs.declared.Edge.{Edge}
use Rattle.model.specs.declared.Model.{Model}
use Rattle.claims.specs.RowModels.{invariant, counter, edge, model}

-- ---- a logger and a watchdog that share label 3
abbrev pub logger_text : List String
logger_text =
    "locations=2" ∷ "init=0" ∷ "target=1" ∷ "clocks=1" ∷ "vars=1" ∷ "var=2,0" ∷ "inv=x0<=1" ∷ "inv=-" ∷ "edges=2" ∷
    "from=0" ∷ "to=0" ∷ "label=0" ∷ "when=-" ∷ "set=v0:=v0+1" ∷ "reset=x0" ∷
    "from=0" ∷ "to=1" ∷ "label=3" ∷ "when=x0>=1,v0>=1" ∷ "set=-" ∷ "reset=-" ∷ []

abbrev pub watchdog_text : List String
watchdog_text =
    "locations=2" ∷ "init=0" ∷ "target=1" ∷ "clocks=1" ∷ "vars=1" ∷ "var=1,1" ∷ "inv=-" ∷ "inv=x0<=4" ∷ "edges=2" ∷
    "from=0" ∷ "to=1" ∷ "label=3" ∷ "when=x0>=2" ∷ "set=v0:=v0-1" ∷ "reset=x0" ∷
    "from=1" ∷ "to=0" ∷ "label=5" ∷ "when=-" ∷ "set=-" ∷ "reset=x0:=x0" ∷ []

-- The update v := v + 1, and v := v - 1, of counter v.
abbrev raise : ℕ → Update
raise v = Sum v (pos 1)

abbrev lower : ℕ → Update
lower v = Sum v (neg_ℤ (pos 1))

unfoldable pub logger : Model
logger =
    let guard : List Atom = OnClock 0 GreaterEqual 1 ∷ OnCounter 0 GreaterEqual 1 ∷ [] in
    model 2 0 1 1 (counter 2 0 ∷ []) (invariant (OnClock 0 LessEqual 1 ∷ []) ∷ invariant [] ∷ [])
    (edge 0 0 0 [] (raise 0 ∷ []) (0 ∷ []) (Reset ∷ []) ∷ edge 0 1 3 guard [] [] [] ∷ [])

unfoldable pub watchdog : Model
watchdog =
    model 2 0 1 1 (counter 1 1 ∷ []) (invariant [] ∷ invariant (OnClock 0 LessEqual 4 ∷ []) ∷ [])
    (edge 0 1 3 (OnClock 0 GreaterEqual 2 ∷ []) (lower 0 ∷ []) (0 ∷ []) (Reset ∷ []) ∷ edge 1 0 5 [] [] [] (Copy 0 ∷ []) ∷ [])

-- The two as one: the logger's lone edge in both locations of the watchdog, the watchdog's in both of the logger, then the pair.
unfoldable pub logger_and_watchdog : Model
logger_and_watchdog =
    let early : Atom = OnClock 0 LessEqual 1 in
    let awake : Atom = OnClock 1 LessEqual 4 in
    let guard : List Atom = OnClock 0 GreaterEqual 1 ∷ OnCounter 0 GreaterEqual 1 ∷ OnClock 1 GreaterEqual 2 ∷ [] in
    let same : List ClockUpdate = Unchanged ∷ Copy 1 ∷ [] in
    let invariants : List Invariant = invariant (early ∷ []) ∷ invariant (early ∷ awake ∷ []) ∷ invariant [] ∷ invariant (awake ∷ []) ∷ [] in
    model 4 0 3 2 (counter 2 0 ∷ counter 1 1 ∷ []) invariants
    (edge 0 0 0 [] (raise 0 ∷ []) (0 ∷ []) (Reset ∷ []) ∷ edge 1 1 0 [] (raise 0 ∷ []) (0 ∷ []) (Reset ∷ []) ∷
    edge 1 0 5 [] [] [] same ∷ edge 3 2 5 [] [] [] same ∷ edge 0 3 3 guard (Keep ∷ lower 1 ∷ []) (1 ∷ []) (Unchanged ∷ Reset ∷ []) ∷ [])

-- ---- A with A: four locations, the target the last, and these edges
abbrev pub two_of_a : List Edge → Model
two_of_a edges = model 4 0 3 0 [] [] edges

abbrev plain : ℕ → ℕ → ℕ → Edge
plain source target label = edge source target label [] [] [] []

-- Labels x and y that are not shared: the first's edge in both locations of the second, then the second's.
unfoldable pub apart_a : ℕ → ℕ → Model
apart_a x y = two_of_a (plain 0 2 x ∷ plain 1 3 x ∷ plain 0 1 y ∷ plain 2 3 y ∷ [])

-- A shared label: one pair.
unfoldable pub paired_a : ℕ → Model
paired_a x = two_of_a (plain 0 3 x ∷ [])

-- ---- so many locations, clocks, counters; edges with a label; atoms of an invariant, of the guard of an edge with a label
abbrev pub bare : ℕ → Model
bare n = model n 0 0 0 [] [] []

abbrev pub clocked : ℕ → Model
clocked n = model 1 0 0 n [] [] []

abbrev pub counted : ℕ → Model
counted n = model 1 0 0 0 (replicate n (counter 0 0)) [] []

abbrev pub looped : ℕ → ℕ → ℕ → Model
looped locations n label = model locations 0 0 0 [] [] (replicate n (plain 0 0 label))

abbrev pub waiting : ℕ → Model
waiting n = model 1 0 0 1 [] (invariant (replicate n (OnClock 0 LessEqual 1)) ∷ []) []

abbrev pub guarded : ℕ → ℕ → Model
guarded n label = model 1 0 0 1 [] [] (edge 0 0 label (replicate n (OnClock 0 LessEqual 1)) [] [] [] ∷ [])
