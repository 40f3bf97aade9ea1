-- The due lines of a model text, in their order.
use Rattle.std.specs.Prelude.{ℕ, zero, suc, List}
use Rattle.text.specs.lines.Progress.{Progress, unread}
use Rattle.text.specs.lines.Lines.{locations_line, init_line, target_line, clocks_line, vars_line, var_line, inv_line, edges_line}
use Rattle.text.specs.lines.Lines.{from_line, to_line, label_line, when_line, set_line, reset_line}

-- f 0, then f 1, .., n of them
unfoldable pub in_turn : {A : Type 0} → (ℕ → A → A) → ℕ → A → A
in_turn f zero p = p
in_turn f (suc n) p = f n (in_turn f n p)

-- locations, init, target, clocks, vars
unfoldable pub read_head : Progress → Progress
read_head p = vars_line (clocks_line (target_line (init_line (locations_line p))))

-- one var line a counter
unfoldable pub read_counters : Progress → Progress
read_counters p = in_turn var_line p.model.vars p

-- one inv line a location
unfoldable pub read_invariants : Progress → Progress
read_invariants p = in_turn inv_line p.model.locations p

-- for each edge from, to, label, when, set, reset
unfoldable pub read_edge : ℕ → Progress → Progress
read_edge e p = reset_line e (set_line e (when_line e (label_line e (to_line e (from_line e p)))))

unfoldable pub read_edges : Progress → Progress
read_edges p = in_turn read_edge p.model.used p

-- all lines of a model, from the start of the bytes; what follows them is left
unfoldable pub read_lines : List ℕ → Progress
read_lines t = read_edges (edges_line (read_invariants (read_counters (read_head (unread t)))))
