-- Without labels an edge has the same form, step and items, and so a record the same steps and the same list (MappedEdges).
use mathlib.Core.Path.{◌≡◌, refl, sym, ap, ◌∙◌}
use Prim.Native.Nat.{ℕ, ◌<◌}
use lib.Dec.{T}
use Rattle.model.specs.declared.Edge.{Edge}
use Rattle.model.specs.declared.Model.{Model}
use Rattle.model.specs.Record.{edge_at}
use Rattle.model.specs.Form.{well_formed}
use Rattle.list.specs.Items.{resets_items}
use Rattle.list.specs.Labels.{unlabelled_edge, unlabelled}
use Rattle.list.proofs.MappedEdges.{Keeps, same_step, same_items, same_form, edge_is, well_formed_lem}

pub keeps : Keeps unlabelled_edge
unfolding unlabelled_edge resets_items
keeps = record {
  guards = λ e. refl;
  private = λ e h. tt;
  form = λ locations clocks vars e h. same_form e 0 e.resets locations clocks vars (λ _. tt) (λ r. r) h;
  steps = λ m e s. same_step e 0 e.resets m s (λ i l. refl);
  clauses = λ width m ok o c e. same_items e 0 e.resets width m o c refl;
}

module _ (m : Model) where
  pub unlabelled_formed : T (well_formed m) → T (well_formed (unlabelled m))
  unfolding unlabelled
  unlabelled_formed h = well_formed_lem unlabelled_edge keeps m h

  -- a record that is the same without labels has none
  pub unlabelled_differs : (e : ℕ) → e < 32 → unlabelled m ≡ m → (edge_at m e).label ≡ 0
  unfolding unlabelled unlabelled_edge
  unlabelled_differs e l same = ap (λ (x : Model). (edge_at x e).label) (sym same) ∙ ap (λ (x : Edge). x.label) (edge_is unlabelled_edge m e l)
