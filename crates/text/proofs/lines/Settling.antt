-- A due line that the code reads by its place in the text is the due line of the definition, whatever its key and its value.
use Prim.Native.Nat.{ℕ, ◌+◌}
use mathlib.Core.Path.{◌≡◌, refl, sym, ap, ◌∙◌}
use mathlib.Core.List.{List}
use mathlib.Core.Bool.{Bool, true, false, false≢true}
use native.Mathlib.Omega.{arith}
use lib.ListN.{drop}
use lib.Seq.{drop-drop}
use lib.Dec.{eqb}
use borrow.Author.Tests.{eqb-true}
use Rattle.std.specs.Prelude.{Ok, Err}
use Rattle.text.specs.bytes.Bytes.{first_at, is_due, value_of, after}
use Rattle.text.specs.bytes.Faulty.{fault_number, line_number, line_told, Checked}
use Rattle.text.specs.declared.ReadRefusal.{ReadRefusal}
use Rattle.text.specs.declared.bytes.LineFault.{LineFault}
use Rattle.text.specs.declared.bytes.LineFault.TheVariants.{NotDue, NotOfItsForm, TooManyItems, OutOfRange, NotDeclared, SetTwiceOrNotRising}
use Rattle.text.specs.declared.bytes.Faults.{Faults}
use Rattle.text.specs.declared.line.Due.{Due}
use Rattle.text.specs.line.DueLines.{Found}
use Rattle.model.specs.declared.Model.{Model}
use Rattle.text.specs.Text.{outcome_number, outcome_line}
use Rattle.text.specs.declared.lines.Reading.{Reading}
use Rattle.text.specs.lines.Progress.{read_line}
use Rattle.text.specs.lines.Readings.{Placed, Reads}

-- a line without a fault is the due one, and its value has none
pub no_fault : (b : Bool) (f : Faults) → eqb (line_number b f) 0 ≡ true → (b ≡ true) × (fault_number f ≡ 0)
unfolding line_number
no_fault true f h = (refl, eqb-true (fault_number f) 0 h)
no_fault false f h = absurd (false≢true h)

fault_told : (k : LineFault) → eqb (line_told k) 0 ≡ false
fault_told NotDue = refl
fault_told NotOfItsForm = refl
fault_told TooManyItems = refl
fault_told OutOfRange = refl
fault_told NotDeclared = refl
fault_told SetTwiceOrNotRising = refl

module _ (key : List ℕ) (faults : Model → List ℕ → Faults) (put : Model → List ℕ → Model) (t : List ℕ) (r : Reading) where
  -- another line
  pub line_other : is_due key (drop r.at t) ≡ false → (e : ReadRefusal) → (outcome_number e ≡ line_told NotDue) × (outcome_line e ≡ r.line)
      → Reads (read_line key faults put) t r (Err e)
  unfolding read_line line_number
  line_other h e q = rw h (record { number_is = q.0; line_is = q.1 })

  module _ (d : Due) (due : Found key t r.at d) where
    -- a fault of its value
    pub line_fault : (k : LineFault) → Checked (faults r.model d.value.now) (put r.model d.value.now) (Err k)
        → (e : ReadRefusal) → (outcome_number e ≡ line_told k) × (outcome_line e ≡ r.line) → Reads (read_line key faults put) t r (Err e)
    unfolding read_line line_number
    line_fault k f e q =
        let n : fault_number (faults r.model (value_of key (drop r.at t))) ≡ line_told k = ap (λ (v : List ℕ). fault_number (faults r.model v))
        (sym due.value_is)
        ∙ f in
        rw (due.due, n, fault_told k) (record { number_is = q.0; line_is = q.1 })

    -- no fault: the line is read
    pub line_read : Placed t r → (m : Model) → Checked (faults r.model d.value.now) (put r.model d.value.now) (Ok m)
        → Reads (read_line key faults put) t r (Ok (record { line = r.line + 1; at = d.end + 1; model = m }))
    unfolding read_line line_number
    line_read p m f =
        let n : fault_number (faults r.model (value_of key (drop r.at t))) ≡ 0 = ap (λ (v : List ℕ). fault_number (faults r.model v)) (sym due.value_is)
        ∙ f.0 in
        let model : m ≡ put r.model (value_of key (drop r.at t)) = f.1 ∙ ap (put r.model) due.value_is in
        let place : d.end + 1 ≡ r.at + (first_at 10 (drop r.at t) + 1) = omega (arith, due.end_is) in
        let rest : drop (d.end + 1) t ≡ after 10 (drop r.at t) =
        ap (λ (k : ℕ). drop k t) place ∙ sym (drop-drop (first_at 10 (drop r.at t) + 1) r.at t) in
        record {
          is = rw (due.due, n) (λ i. record { number = 0; line = r.line + 1; rest = rest i; model = model i });
          placed = record { counted = omega (arith, p.counted, due.end_is); within = omega (arith, due.ended) };
        }
