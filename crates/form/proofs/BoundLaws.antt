-- What the tests of a record and a bound tell.
use Rattle.std.proofs.Common.{ℕ, ◌≡◌, ◌≤◌, ◌<◌, true, false, Ok, Err, arith}
use Rattle.std.proofs.lemmas.Grind.{common_steps}
use Rattle.model.specs.declared.Model.{Model}
use Rattle.model.specs.Form.{well_formed}
use Rattle.form.specs.BoundCheck.{bound_checked}
use Rattle.form.specs.declared.ListRefusal.TheVariants.{NotWellFormed, BoundTooLarge}

-- a well-formed record and a bound up to 64
pub bound_accepted : (m : Model) (k : ℕ) {u : Unit {0}} → Ok u ≡ bound_checked m k → (well_formed m ≡ true) × (k ≤ 64)
unfolding bound_checked
bound_accepted m k e = grind (arith, common_steps)

pub bound_20 : (m : Model) (k : ℕ) → Err NotWellFormed ≡ bound_checked m k → well_formed m ≡ false
unfolding bound_checked
bound_20 m k e = grind (arith, common_steps)

pub bound_21 : (m : Model) (k : ℕ) → Err BoundTooLarge ≡ bound_checked m k → (well_formed m ≡ true) × (64 < k)
unfolding bound_checked
bound_21 m k e = grind (arith, common_steps)
