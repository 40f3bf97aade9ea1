-- A reading by its place in the text, as the code holds it.
use Rattle.std.specs.Prelude.{ℕ, ◌+◌, ◌≤◌, ◌≡◌, List, length, drop, Result, Ok, Err}
use denote.Param.Members.{Once}
use denote.Ref.{Bor}
use Rattle.text.specs.Text.{outcome_number, outcome_line}
use Rattle.text.specs.bytes.Faulty.{Checked}
use Rattle.text.specs.declared.bytes.Faults.{Faults}
use Rattle.text.specs.declared.bytes.LineFault.{LineFault}
use Rattle.model.specs.declared.Model.{Model}
use Rattle.text.specs.declared.ReadRefusal.{ReadRefusal}
use Rattle.text.specs.declared.lines.Reading.{Reading}
use Rattle.text.specs.lines.Progress.{Progress}
use Rattle.text.specs.lines.Sequence.{read_lines}

-- the place lies within the text, and each line read took a byte at least
pub record Placed (t : List ℕ) (r : Reading) : Type 0 where
  pub counted : r.line ≤ r.at + 1
  pub within : r.at ≤ length t

-- what a reading of the text t that is not refused has come to
abbrev pub progress : List ℕ → Reading → Progress
progress t r = record { number = 0; line = r.line; rest = drop r.at t; model = r.model }

-- the answer q to a reading that has come to p: where it goes on, or the refusal
pub record GoesOn (t : List ℕ) (p : Progress) (q : Reading) : Type 0 where
  pub is : progress t q ≡ p
  pub placed : Placed t q

pub record Stopped (p : Progress) (e : ReadRefusal) : Type 0 where
  pub number_is : outcome_number e ≡ p.number
  pub line_is : outcome_line e ≡ p.line

abbrev pub Comes : List ℕ → Progress → Result Reading ReadRefusal → Type 0
Comes t p (Ok q) = GoesOn t p q
Comes t p (Err e) = Stopped p e

-- q is the answer to r after the step f of the reading
abbrev pub Reads : (Progress → Progress) → List ℕ → Reading → Result Reading ReadRefusal → Type 0
Reads f t r q = Comes t (f (progress t r)) q

-- q is the answer to the reading of the lines of a model from the place `at` on
abbrev pub ReadsFrom : List ℕ → ℕ → Result Reading ReadRefusal → Type 0
ReadsFrom t at q = Comes t (read_lines (drop at t)) q

-- the closure g puts the value of a line into the model, or tells the first of its faults
abbrev pub Stores : {F : Type 0} → Once F (Bor (List ℕ) × (Model × Unit {0})) (Result Model LineFault) → F → (Model → List ℕ → Faults)
    → (Model → List ℕ → Model) → Type 0
Stores g f faults put = (x : Bor (List ℕ)) (m : Model) (r : Result Model LineFault) → g.post f (x, (m, tt)) r → Checked (faults m x.now) (put m x.now) r
