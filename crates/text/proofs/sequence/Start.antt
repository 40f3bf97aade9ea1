-- Reading from a place of the text on.
use Prim.Native.Nat.{ℕ, min}
use mathlib.Core.Path.{◌≡◌, sym, ap, ◌∙◌, subst}
use mathlib.Core.List.{List}
use mathlib.Core.Logic.{⊎_elim}
use native.Mathlib.Omega.{arith}
use lib.ListN.{length, drop, drop_of_length-le}
use lib.Seq.{drop-length}
use Rattle.std.specs.Prelude.{Result}
use Rattle.model.proofs.IndexedLaws.{lt_or_le}
use Rattle.model.specs.Record.{blank_model}
use Rattle.text.specs.declared.ReadRefusal.{ReadRefusal}
use Rattle.text.specs.declared.lines.Reading.{Reading}
use Rattle.text.specs.lines.Progress.{Progress, unread}
use Rattle.text.specs.lines.Readings.{Placed, progress, Comes, Reads, ReadsFrom}
use Rattle.text.specs.lines.Lines.{edges_line}
use Rattle.text.specs.lines.Sequence.{read_head, read_counters, read_invariants, read_edges, read_lines}

module _ (t : List ℕ) where
  -- a place past the end is the end
  pub drop_within : (at : ℕ) → drop (min at (length t)) t ≡ drop at t
  drop_within at =
      ⊎_elim (λ l. let e : min at (length t) ≡ at = omega arith in rw e)
      (λ l. let e : min at (length t) ≡ length t = omega arith in ap (λ (n : ℕ). drop n t) e ∙ drop-length t ∙ sym (drop_of_length-le t l))
      (lt_or_le at (length t))

  module _ (at n : ℕ) (r : Reading) (p : n ≡ min at (length t)) (e : r ≡ record { line = 1; at = n; model = blank_model }) where
    pub unread_placed : Placed t r
    unread_placed = rw (e, p) (record { counted = omega arith; within = omega arith })

    pub read_from : (q : Result Reading ReadRefusal) → Reads (λ p. read_edges (edges_line (read_invariants (read_counters (read_head p))))) t r q →
        ReadsFrom t at q
    unfolding read_lines
    read_from q h =
        let s : progress t r ≡ unread (drop at t) = ap (progress t) e ∙ rw (p, drop_within at) in
        subst (λ (x : Progress). Comes t (read_edges (edges_line (read_invariants (read_counters (read_head x))))) q) s h
