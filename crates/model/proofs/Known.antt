-- What owning a record tells of its arrays: how long they are.
use mathlib.Core.List.{List}
use mathlib.Core.Path.{◌≡◌}
use lib.ListN.{length}
use mir.Val.{Val}
use denote.Laws.{Is}
use Rattle.model.specs.declared.Model.{Model}
use Rattle.model.specs.declared.Edge.{Edge}
use Rattle.model.specs.declared.State.{State}
use Rattle.model.specs.contracts.Model as ModelT
use Rattle.model.specs.contracts.Edge as EdgeT
use Rattle.model.specs.contracts.State as StateT

pub record Lengths (m : Model) : Type 0 where
  pub counters : length m.counters ≡ 4
  pub invariants : length m.invariants ≡ 16
  pub edges : length m.edges ≡ 32

pub lengths : (m : Model) (vs : List Val) → Is ModelT.the_row m vs → Lengths m
lengths m vs g = record {
  counters = g.1.1.1.1.1.1.1.0.1.0.1;
  invariants = g.1.1.1.1.1.1.1.1.0.1.0.1;
  edges = g.1.1.1.1.1.1.1.1.1.1.0.1.0.1;
}

pub updates_long : (e : Edge) (vs : List Val) → Is EdgeT.the_row e vs → length e.updates ≡ 4
updates_long e vs g = g.1.1.1.1.1.1.0.1.0.1

pub order_long : (e : Edge) (vs : List Val) → Is EdgeT.the_row e vs → length e.order ≡ 4
order_long e vs g = g.1.1.1.1.1.1.1.0.1.0.1

pub clocks_long : (s : State) (vs : List Val) → Is StateT.the_row s vs → length s.clocks ≡ 4
clocks_long s vs g = g.1.1.1.1.0.1.0.1
