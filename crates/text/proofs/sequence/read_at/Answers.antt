-- `read_at`: the lines up to the edges, then those of the edges; the first that is refused makes the answer.
use Rattle.std.proofs.Common.{rules, ◌≡◌, Err}
use Rattle.text.specs.lines.Lines.{edges_line}
use Rattle.text.specs.lines.Sequence.{read_head, read_counters, read_invariants, read_edges}
use Rattle.text.proofs.lines.Turns.{stop, all_edges_stay}
use Rattle.text.proofs.sequence.Start.{unread_placed, read_from}
use Rattle.text.proofs.sequence.read_at.Goals as goal

pub read_declarations-requires : goal.read_declarations-requires
read_declarations-requires c = unread_placed c.args.text.now c.args.at _ _ c.within.ensures c.unread.ensures

pub returns-in_err-a : goal.returns-in_err-a
returns-in_err-a c =
    let e : c.from_residual.result ≡ Err c.in_err-a.field-0.0 = search rules in
    rw e
    (read_from c.args.text.now c.args.at _ _ c.within.ensures c.unread.ensures (Err c.in_err-a.field-0.0)
    (stop (λ p. edges_line (read_invariants (read_counters (read_head p)))) read_edges c.args.text.now _ _ c.in_err-a.ensures all_edges_stay))

pub read_edges-requires : goal.read_edges-requires
read_edges-requires c = c.in_ok-a.ensures.placed

pub returns : goal.returns
returns c =
    read_from c.args.text.now c.args.at _ _ c.within.ensures c.unread.ensures _ (rw (← c.in_ok-a.ensures.is) c.read_edges.ensures)
