-- The tests of a record and a bound that every call on a list begins with.
use Rattle.std.specs.Prelude.{ℕ, cond, leb, Result, Ok, Err}
use Rattle.model.specs.declared.Model.{Model}
use Rattle.model.specs.Form.{well_formed}
use Rattle.form.specs.declared.ListRefusal.{ListRefusal}
use Rattle.form.specs.declared.ListRefusal.TheVariants.{NotWellFormed, BoundTooLarge}

-- the number of each refusal
abbrev pub list_refusal_number : ListRefusal → ℕ
list_refusal_number NotWellFormed = 20
list_refusal_number BoundTooLarge = 21

-- 20, then 21 a bound above 64
unfoldable pub bound_checked : Model → ℕ → Result (Unit {0}) ListRefusal
bound_checked m k = cond (well_formed m) (cond (leb k 64) (Ok tt) (Err BoundTooLarge)) (Err NotWellFormed)
