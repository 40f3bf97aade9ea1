-- `edges`: what is declared is within the slots.
use Rattle.model.proofs.FormLaws.{formed}
use Rattle.compose.proofs.Fronts.{form_of}
use Rattle.compose.proofs.formed.Formed.edges.Goals as goal

pub shared_ref_as_front-result : goal.shared_ref_as_front-result
shared_ref_as_front-result c = (formed c.args.self.now.model (form_of c.args.self.now)).used_le
