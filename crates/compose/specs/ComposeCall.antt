-- What the call on two records answers.
use Rattle.std.specs.Prelude.{ℕ, not, ◌&&◌, cond, Option, None, Some, Result, Ok, Err}
use Rattle.model.specs.declared.Model.{Model}
use Rattle.model.specs.Record.{blank_model}
use Rattle.model.specs.Form.{well_formed}
use Rattle.compose.specs.declared.ComposeRefusal.{ComposeRefusal}
use Rattle.compose.specs.declared.ComposeRefusal.TheVariants.{NotWellFormed, TooLarge}
use Rattle.compose.specs.Composed.{fits, composed}

-- the number of the refusal, or 0, and the composed model, or the blank model
pub record ComposeReport : Type 0 where
  pub number : ℕ
  pub model : Model

abbrev pub compose_reported : ℕ → Model → ComposeReport
compose_reported n m = record { number = n; model = m }

-- which refusal, if any: either record is not well formed, then the composed model is too large
abbrev pub refusal : Model → Model → Option ComposeRefusal
refusal a b = cond (not (well_formed a && well_formed b)) (Some NotWellFormed) (cond (not (fits a b)) (Some TooLarge) None)

-- 20 for either record, then 38 the composed model has more locations, clocks, counters, edges or atoms than a record may hold
unfoldable pub compose_report : Model → Model → ComposeReport
compose_report a b =
    cond (not (well_formed a && well_formed b)) (compose_reported 20 blank_model)
    (cond (not (fits a b)) (compose_reported 38 blank_model)
    (compose_reported 0 (composed a b)))

-- the number of each refusal
abbrev pub compose_number : ComposeRefusal → ℕ
compose_number NotWellFormed = 20
compose_number TooLarge = 38

-- what an answer tells: a refusal has the blank model
abbrev pub compose_told : Result Model ComposeRefusal → ComposeReport
compose_told (Ok m) = compose_reported 0 m
compose_told (Err e) = compose_reported (compose_number e) blank_model
