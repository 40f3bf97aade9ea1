-- The automaton: its ceiling, its states, and what a delay and an edge do.
use Rattle.std.specs.Prelude.{ℕ, zero, suc, ◌+◌, ◌-◌, ◌*◌, ◌<◌, max, min, List, Bool, true, false, not, ◌&&◌, cond, get_or, set, ltb, leb, eqb}
use Rattle.std.specs.Prelude.{Option, None, Some, option_map}
use Rattle.model.specs.declared.Relation.{Relation}
use Rattle.model.specs.declared.Relation.TheVariants.{Less, LessEqual, Equal, GreaterEqual, Greater, NotEqual}
use Rattle.model.specs.declared.Atom.{Atom}
use Rattle.model.specs.declared.Atom.TheVariants.{Blank, OnClock, OnCounter}
use Rattle.model.specs.declared.Update.{Update}
use Rattle.model.specs.declared.Update.TheVariants.{Keep, Constant, Sum}
use Rattle.model.specs.declared.ClockUpdate.{ClockUpdate}
use Rattle.model.specs.declared.ClockUpdate.TheVariants.{Unchanged, Reset, Copy}
use Rattle.model.specs.declared.Counter.{Counter}
use Rattle.model.specs.declared.Edge.{Edge}
use Rattle.model.specs.declared.Model.{Model}
use Rattle.model.specs.declared.State.{State}
use Rattle.model.specs.declared.Totals.{Totals}
pub use Rattle.new_values.specs.NewValues.{in_range, moved, is_negative, shifted}
use Rattle.model.specs.Indexed.{list_below, all_below, max_below, sum_below, first_below, only_if, and_then}
use Rattle.model.specs.Record.{blank_counter, atom_at, update_at, counter_in, reset_at, counter_at, invariant_at, edge_at}

-- ---- the ceiling
-- the constant that an atom compares a clock with, and 0 where it compares none
abbrev pub clock_constant : Atom → ℕ
clock_constant Blank = 0
clock_constant (OnClock x r c) = c
clock_constant (OnCounter v r c) = 0

-- the greatest clock constant of an invariant or a guard
unfoldable pub greatest_constant : List Atom → ℕ
greatest_constant atoms = max_below (λ k. clock_constant (atom_at atoms k)) 4

-- the ceiling M: 1 plus the greatest clock constant in the model, or 1 if it has none
unfoldable pub ceiling : Model → ℕ
ceiling m = 1 + max (max_below (λ l. greatest_constant (invariant_at m l)) 16) (max_below (λ e. greatest_constant (edge_at m e).guard) 32)

-- ---- states
-- the components of a state, in block order: the location, each counter, each clock
pub data Component : Type 0 where
  loc : Component
  counter : ℕ → Component
  clock : ℕ → Component

-- what a component shows
abbrev pub value : State → Component → ℕ
value s loc = s.location
value s (counter i) = get_or s.counters i 0
value s (clock i) = get_or s.clocks i 0

-- the model declares the component
abbrev pub Declared : Model → Component → Type 0
Declared m loc = Unit {0}
Declared m (counter i) = i < m.vars
Declared m (clock i) = i < m.clocks

-- how many values a component shows, from 0: the size of its group
abbrev pub group_size : Model → Component → ℕ
group_size m loc = m.locations
group_size m (counter i) = (counter_at m i).greatest + 1
group_size m (clock i) = ceiling m + 1

-- ---- atoms, guards and invariants
-- < <= = >= > !=, between a value and a constant
abbrev pub meets : Relation → ℕ → ℕ → Bool
meets Less v c = ltb v c
meets LessEqual v c = leb v c
meets Equal v c = eqb v c
meets GreaterEqual v c = leb c v
meets Greater v c = ltb c v
meets NotEqual v c = not (eqb v c)

-- an atom compares a clock or a counter with its constant; a blank slot asks nothing
abbrev pub atom_holds : State → Atom → Bool
atom_holds s Blank = true
atom_holds s (OnClock x r c) = meets r (value s (clock x)) c
atom_holds s (OnCounter v r c) = meets r (value s (counter v)) c

-- all atoms of an invariant or a guard must hold
unfoldable pub all_hold : State → List Atom → Bool
all_hold s atoms = all_below (λ k. atom_holds s (atom_at atoms k)) 4

-- the invariant of the location in which the state stands
unfoldable pub invariant_holds : Model → State → Bool
invariant_holds m s = all_hold s (invariant_at m s.location)

-- ---- the initial state
-- the initial location, each counter's initial value, clocks all 0 at first
abbrev pub initial_value : Model → Component → ℕ
initial_value m loc = m.initial
initial_value m (counter i) = (counter_at m i).initial
initial_value m (clock i) = 0

-- the state that shows the initial values
unfoldable pub initial_state : Model → State
initial_state m = record { location = m.initial; counters = list_below (λ i. (counter_at m i).initial) 4; clocks = list_below (λ i. 0) 4 }

-- ---- delay d, under the ceiling `top`
-- each clock c becomes the smaller of c + d and the ceiling; a slot that is not declared stays
abbrev pub delayed_clock : ℕ → ℕ → ℕ → State → ℕ → ℕ
delayed_clock clocks top d s i = cond (ltb i clocks) (min (value s (clock i) + d) top) (value s (clock i))

-- all else stays
unfoldable pub delayed : ℕ → ℕ → ℕ → State → State
delayed clocks top d s = record { location = s.location; counters = s.counters; clocks = list_below (delayed_clock clocks top d s) 4 }

-- the state after the delay; the invariant must hold afterwards
unfoldable pub delay_step : Model → ℕ → ℕ → State → Option State
delay_step m top d s = only_if (invariant_holds m (delayed m.clocks top d s)) (delayed m.clocks top d s)

-- what delay d makes of the value of a component
abbrev pub delayed_value : Model → ℕ → Component → ℕ → ℕ
delayed_value m d loc v = v
delayed_value m d (counter i) v = v
delayed_value m d (clock i) v = min (v + d) (ceiling m)

-- ---- updates: keep, a constant, or another counter plus an offset
-- the new value of a counter, if it lies in its range; `read` gives the values that the update reads
abbrev pub new_counter : (ℕ → ℕ) → ℕ → ℕ → Update → Option ℕ
new_counter read greatest own Keep = Some own
new_counter read greatest own (Constant c) = in_range greatest c
new_counter read greatest own (Sum w offset) = shifted offset greatest (read w)

-- the update is keep
abbrev pub is_keep : Update → Bool
is_keep Keep = true
is_keep (Constant c) = false
is_keep (Sum w offset) = false

-- ---- clock updates: unchanged, reset, or a copy of a clock
-- the new value of a clock; `before` gives the clocks' values from before the edge, which every copy reads
abbrev pub new_clock : (ℕ → ℕ) → ℕ → ClockUpdate → ℕ
new_clock before own Unchanged = own
new_clock before own Reset = 0
new_clock before own (Copy w) = before w

-- ---- an edge
-- how many updates are listed: those that are not keep; so many slots of the order are used
unfoldable pub listed : Edge → ℕ
listed e = sum_below (λ i. cond (is_keep (update_at e i)) 0 1) 4

-- the new value of counter i, if it lies in its range, where the counters show vs
abbrev pub next_counter : List Counter → Edge → List ℕ → ℕ → Option ℕ
next_counter counters e vs i = new_counter (λ w. get_or vs w 0) (get_or counters i blank_counter).greatest (get_or vs i 0) (update_at e i)

-- the counters after the update of counter i alone
unfoldable pub applied : List Counter → Edge → List ℕ → ℕ → Option (List ℕ)
applied counters e vs i = option_map (set vs i) (next_counter counters e vs i)

-- the counters after the first n listed updates, in their listed order; each reads what those before it left, and none may leave its range
unfoldable pub updated : List Counter → Edge → List ℕ → ℕ → Option (List ℕ)
updated counters e vs zero = Some vs
updated counters e vs (suc n) = and_then (updated counters e vs n) (λ now. applied counters e now (counter_in e.order n))

-- the first place of counter x in an order, and 4 where it has none
unfoldable pub place_in : List ℕ → ℕ → ℕ
place_in order x = first_below (λ k. eqb (counter_in order k) x) 4

-- counter w is set earlier than counter i: an update of i reads w after its update
unfoldable pub set_earlier : List ℕ → ℕ → ℕ → Bool
set_earlier order w i = ltb (place_in order w) (place_in order i)

-- what the update of counter i reads of counter w, between the states s and t
abbrev pub read_by : Edge → State → State → ℕ → ℕ → ℕ
read_by e s t i w = cond (set_earlier e.order w i) (value t (counter w)) (value s (counter w))

-- the new value of clock i, by its update
abbrev pub next_clock : Edge → State → ℕ → ℕ
next_clock e s i = new_clock (λ x. value s (clock x)) (value s (clock i)) (reset_at e i)

-- the target location and the new values, where the counters become vs
unfoldable pub after_edge : Edge → State → List ℕ → State
after_edge e s vs = record { location = e.target; counters = vs; clocks = list_below (next_clock e s) 4 }

-- the state stands in the edge's source, the guard holds before, and the target's invariant holds afterwards
unfoldable pub edge_allowed : Model → Edge → State → List ℕ → Bool
edge_allowed m e s vs = eqb s.location e.source && all_hold s e.guard && invariant_holds m (after_edge e s vs)

-- the state after the edge; every new counter value must lie in its range, else the edge can't be taken
unfoldable pub edge_step : Model → Edge → State → Option State
edge_step m e s = and_then (updated m.counters e s.counters (listed e)) (λ vs. only_if (edge_allowed m e s vs) (after_edge e s vs))

-- ---- one step byte
-- H, the length of a choice block: delays 0 to M, then edges
unfoldable pub choices : Model → ℕ
choices m = ceiling m + 1 + m.used

-- d for delay d, M + 1 + e for edge e: the new state, if the step is allowed
unfoldable pub step : Model → State → ℕ → Option State
step m s b = cond (leb b (ceiling m)) (delay_step m (ceiling m) b s) (cond (ltb b (choices m)) (edge_step m (edge_at m (b - (ceiling m + 1))) s) None)

-- ---- numbering
-- S, the length of a state block: the locations, each counter (greatest + 1), each clock (M + 1)
unfoldable pub state_size : Model → ℕ
state_size m = m.locations + sum_below (λ i. group_size m (counter i)) m.vars + m.clocks * (ceiling m + 1)

-- N = S + k times (S + H)
unfoldable pub variables : Model → ℕ → ℕ
variables m k = state_size m + k * (state_size m + choices m)

-- ---- what the code answers
-- M, S and H
unfoldable pub totals : Model → Totals
totals m = record { ceiling = ceiling m; state = state_size m; choices = choices m }
