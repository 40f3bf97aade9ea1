-- `with_edge`: the edge is put, and one that the model does not have is put nowhere.
use Rattle.std.proofs.Common.{◌≡◌, ◌≤◌, ◌∙◌, ap, length, set, arith}
use lib.Seq.{set_out}
use Rattle.model.specs.declared.Edge.{Edge}
use Rattle.model.specs.declared.Model.{Model}
use Rattle.model.proofs.Known.{lengths}
use Rattle.text.specs.lines.Store.{with_edge}
use Rattle.text.proofs.edges.with_edge.Goals as goal
use Rattle.text.proofs.edges.with_edge.Goals.{then-e-lt-EDGES, else-e-lt-EDGES}

out : (m : Model) (e : _) (edge : Edge) → length m.edges ≤ e → m ≡ with_edge m e edge
unfolding with_edge
out m e edge h = rw (set_out m.edges e edge h)

pub returns : goal.returns
unfolding with_edge
returns g c = λ h act.
    let m = c.args.m in
    elim c.if-e-lt-EDGES.branch [
      | then-e-lt-EDGES w ↦ w.next-is ∙ ap (λ (x : Edge). record m { edges = set m.edges c.args.e x }) (act _ _ w.change.ensures)
      | else-e-lt-EDGES w ↦ w.next-is ∙ out m c.args.e _ (omega (arith, (lengths m _ c.well_formed.0).edges))
    ]
