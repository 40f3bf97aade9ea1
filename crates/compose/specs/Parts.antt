-- A step of the composed model and the steps of its two parts.
use Rattle.std.specs.Prelude.{ℕ, ◌+◌, ◌-◌, min, not, ◌&&◌, cond, List, [], ◌∷◌, ◌++◌, leb}
use Rattle.std.specs.Prelude.{Option, None, Some, option_map, Result, Ok, Err}
use Rattle.model.specs.declared.Model.{Model}
use Rattle.model.specs.Indexed.{maybe}
use Rattle.model.specs.Automaton.{ceiling, choices}
use Rattle.model.specs.Form.{well_formed}
use Rattle.compose.specs.declared.moves.Move.{Move}
use Rattle.compose.specs.declared.moves.Move.TheVariants.{FirstAlone, SecondAlone, Together}
use Rattle.compose.specs.declared.PartSteps.{PartSteps}
use Rattle.compose.specs.declared.PartsRefusal.{PartsRefusal}
use Rattle.compose.specs.declared.PartsRefusal.TheVariants.{NotWellFormed, TooLarge, NoSuchChoice}
use Rattle.compose.specs.Moves.{move_at}
use Rattle.compose.specs.Composed.{fits, composed}

-- ---- which edge of a part a move takes, if any
abbrev pub first_edge : Move → Option ℕ
first_edge (FirstAlone e j) = Some e
first_edge (SecondAlone f i) = None
first_edge (Together e f) = Some e

abbrev pub second_edge : Move → Option ℕ
second_edge (FirstAlone e j) = None
second_edge (SecondAlone f i) = Some f
second_edge (Together e f) = Some f

-- ---- what a step byte of the composed model is in a part
-- the step byte of an edge, under a ceiling
abbrev pub edge_byte : ℕ → Option ℕ → Option ℕ
edge_byte top e = option_map (λ n. top + 1 + n) e

-- a delay is cut to the part's own ceiling; an edge of the part has its own byte there; none where the part stands still
abbrev pub part_step : (Move → Option ℕ) → Model → Model → Model → ℕ → Option ℕ
part_step edge part a b n =
    cond (leb n (ceiling (composed a b))) (Some (min n (ceiling part)))
    (edge_byte (ceiling part) (edge (move_at a b (n - (ceiling (composed a b) + 1)))))

unfoldable pub first_step : Model → Model → ℕ → Option ℕ
first_step a b n = part_step first_edge a a b n

unfoldable pub second_step : Model → Model → ℕ → Option ℕ
second_step a b n = part_step second_edge b a b n

-- the steps of a run that a part takes, in their order
unfoldable pub steps_of : (ℕ → Option ℕ) → List ℕ → List ℕ
steps_of part [] = []
steps_of part (n ∷ r) = maybe (part n) [] (λ x. x ∷ []) ++ steps_of part r

-- ---- the call
-- the number of the refusal, or 0, and what each part does: its own step byte, or 255 where it stands still
pub record PartsReport : Type 0 where
  pub number : ℕ
  pub first : ℕ
  pub second : ℕ

abbrev pub parts_reported : ℕ → ℕ → ℕ → PartsReport
parts_reported n x y = record { number = n; first = x; second = y }

abbrev pub stays : Option ℕ → ℕ
stays x = maybe x 255 (λ n. n)

-- 27 byte is H of the composed model or more, else what each part does
unfoldable pub steps_report : Model → Model → ℕ → PartsReport
steps_report a b n =
    cond (leb (choices (composed a b)) n) (parts_reported 27 0 0) (parts_reported 0 (stays (first_step a b n)) (stays (second_step a b n)))

-- 20 for either record, then 38, then 27; after these both are 0
unfoldable pub parts_report : Model → Model → ℕ → PartsReport
parts_report a b n =
    cond (not (well_formed a && well_formed b)) (parts_reported 20 0 0)
    (cond (not (fits a b)) (parts_reported 38 0 0)
    (steps_report a b n))

-- the number of each refusal
abbrev pub parts_number : PartsRefusal → ℕ
parts_number NotWellFormed = 20
parts_number TooLarge = 38
parts_number NoSuchChoice = 27

-- what an answer tells: after a refusal both are 0
abbrev pub parts_told : Result PartSteps PartsRefusal → PartsReport
parts_told (Ok s) = parts_reported 0 s.first s.second
parts_told (Err e) = parts_reported (parts_number e) 0 0
