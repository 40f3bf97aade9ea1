-- What is known of two models that a record may hold as one.
use Rattle.model.proofs.FormLaws.{WellFormed, formed}
use Rattle.model.proofs.IndexedLaws.{T_true}
use Rattle.compose.specs.declared.pair.Pair.{Pair}
use Rattle.compose.proofs.ComposedLaws.{Held, held}
use Rattle.compose.proofs.Fronts.{form_of}

module _ (p : Pair) where
  pub held_of : Held p.a.model p.b.model
  held_of = held p.a.model p.b.model ((T_true _).1 p.held)

  pub first_of : WellFormed p.a.model
  first_of = formed p.a.model (form_of p.a)

  pub second_of : WellFormed p.b.model
  second_of = formed p.b.model (form_of p.b)
