-- What the items of a set line do to the counters, one after the other, as they are written.
use Rattle.std.specs.Prelude.{ℕ, get_or, set}
use mathlib.Core.List.{List, foldl}
use Rattle.std.specs.Prelude.{Option, Some, option_map}
use Rattle.model.specs.declared.Counter.{Counter}
use Rattle.model.specs.Indexed.{and_then}
use Rattle.model.specs.Record.{blank_counter}
use Rattle.model.specs.Automaton.{new_counter}
use Rattle.text.specs.declared.updates.SetRead.{SetRead}
use Rattle.text.specs.updates.Sets.{counter_of, update_in}

-- one item: its counter gets the new value, if that lies in the counter's range; the values that it reads are those that the counters show then
abbrev pub after_item : List Counter → List ℕ → Option SetRead → Option (List ℕ)
after_item counters vs a =
    option_map (set vs (counter_of a)) (new_counter (λ w. get_or vs w 0) (get_or counters (counter_of a) blank_counter).greatest
    (get_or vs (counter_of a) 0) (update_in a))

-- the next item, unless one before it left its range
abbrev pub next_item : List Counter → Option (List ℕ) → Option SetRead → Option (List ℕ)
next_item counters vs a = and_then vs (λ now. after_item counters now a)

-- the fold over the items
abbrev pub after_items : List Counter → List ℕ → List (Option SetRead) → Option (List ℕ)
after_items counters vs items = foldl (next_item counters) (Some vs) items
