-- Where the variable of a delay, a location or an edge is false, all its clauses are true: they are passed over by the table's number.
use mathlib.Core.Path.{◌≡◌, sym, ap, subst, ◌∙◌}
use mathlib.Core.Bool.{false}
use mathlib.Core.List.{List}
use Prim.Native.Nat.{ℕ, ◌+◌, ◌<◌}
use lib.ListN.{length, get_or}
use Rattle.model.specs.declared.Model.{Model}
use Rattle.model.specs.Record.{atom_at, invariant_at, edge_at}
use Rattle.model.specs.Automaton.{ceiling, state_size}
use Rattle.list.specs.Items.{invariant_of, edge_of}
use Rattle.list.specs.Clauses.{one_hot_width}
use Rattle.list.specs.Assignments.{bit}
use Rattle.search.proofs.Skips.{AllTrue, all_each, part_true}
use Rattle.counts.specs.Tables.{Table, most_invariant_clauses, most_edge_clauses}
use Rattle.counts.proofs.TableLaws.{clauses_are}
use Rattle.parts.specs.declared.GroupTable.{GroupTable}
use Rattle.parts.specs.PartsOf.{atom_part, delay_part, edge_part}
use Rattle.parts.specs.Pieces.{Known, atom_piece, location_piece, delay_piece, delay_pieces, edge_piece, edge_clauses}
use Rattle.parts.proofs.KnownLaws.{wf, location_piece_of, edge_piece_of}

-- a delay that is false
pub delay_true : (a : List ℕ) (b : GroupTable) (o d : ℕ) → bit a (o + b.state + d) ≡ false → AllTrue a (delay_pieces b o d)
delay_true a b o d h = all_each a (delay_piece b o d) b.groups (λ g. part_true a (o + b.state + d) h (delay_part b o d g))

module _ {m : Model} {b : GroupTable} (k : Known m b) where
  -- a location that is false
  pub location_true : (a : List ℕ) (o l : ℕ) → bit a (o + l) ≡ false → AllTrue a (location_piece m b o l)
  location_true a o l h =
      all_each a (atom_piece b o (o + l) (invariant_at m l)) 4 (λ j. part_true a (o + l) h (atom_part b o (atom_at (invariant_at m l) j)))

  pub location_clauses : {table : List ℕ} (o l : ℕ) → l < m.locations → Table (invariant_of one_hot_width m) m.locations 16 most_invariant_clauses table
      → get_or table l 0 ≡ length (location_piece m b o l)
  location_clauses o l p t = clauses_are t (wf k).locations_le l p o ∙ ap length (sym (location_piece_of k o l p))

  -- an edge that is false
  pub edge_true : (a : List ℕ) (o x e : ℕ) → e < m.used → x ≡ o + state_size m + (ceiling m + 1 + e) → bit a x ≡ false → AllTrue a (edge_clauses m o e)
  edge_true a o x e l z h =
      subst (AllTrue a) (edge_piece_of k o x e l z)
      (all_each a (edge_piece x b (edge_at m e) o) (b.groups + 5) (λ j. part_true a x h (edge_part b (edge_at m e) o j)))

  pub edge_clauses_lem :
      {table : List ℕ} (o e : ℕ) → e < m.used → Table (edge_of one_hot_width m) m.used 32 most_edge_clauses table
      → get_or table e 0 ≡ length (edge_clauses m o e)
  unfolding edge_clauses
  edge_clauses_lem o e l t = clauses_are t (wf k).used_le e l o
