-- What holds of the model so far, line after line.
use Prim.Native.Nat.{ℕ, zero, suc, ◌+◌, ◌<◌}
use mathlib.Core.Path.{◌≡◌, refl, subst}
use mathlib.Core.List.{List}
use mathlib.Core.Bool.{Bool, true, false, cond}
use native.Mathlib.Omega.{arith}
use native.Mathlib.Numerals.{add-one}
use lib.Dec.{eqb}
use borrow.Author.Tests.{eqb-true, eqb-false}
use Rattle.text.specs.bytes.Bytes.{is_due, value_of}
use Rattle.text.specs.bytes.Faulty.{fault_number, line_number}
use Rattle.text.specs.declared.bytes.Faults.{Faults}
use Rattle.model.specs.declared.Model.{Model}
use Rattle.text.specs.lines.Progress.{Progress, advanced, refused, tried, read_line}
use Rattle.text.specs.lines.Sequence.{in_turn}
use Rattle.text.proofs.lines.Settling.{no_fault}

-- P holds of the model, unless the reading was refused
abbrev pub Good : (Model → Type 0) → Progress → Type 0
Good P p = p.number ≡ 0 → P p.model

-- a line that turns a model with P into one with Q
pub line_keeps : (P Q : Model → Type 0) (key : List ℕ) (faults : Model → List ℕ → Faults) (store : Model → List ℕ → Model)
    → ((m : Model) (v : List ℕ) → P m → fault_number (faults m v) ≡ 0 → Q (store m v))
    → (p : Progress) → Good P p → Good Q (read_line key faults store p)
unfolding read_line
line_keeps P Q key faults store keeps p good = go (eqb p.number 0) refl
  where
    v : List ℕ
    v = value_of key p.rest

    n : ℕ
    n = line_number (is_due key p.rest) (faults p.model v)

    one : p.number ≡ 0 → (b : Bool) → eqb n 0 ≡ b → Good Q (cond b (advanced (store p.model v) p) (refused n p))
    one z true e h = keeps p.model v (good z) (no_fault (is_due key p.rest) (faults p.model v) e).1
    one z false e h = absurd (eqb-false n 0 e h)

    go : (b : Bool) → eqb p.number 0 ≡ b → Good Q (cond b (tried n (store p.model v) p) p)
    go true e = one (eqb-true p.number 0 e) (eqb n 0) refl
    go false e = λ h. absurd (eqb-false p.number 0 e h)

-- lines in turn
pub turns_keep : (P : ℕ → Model → Type 0) (f : ℕ → Progress → Progress) (n : ℕ)
    → ((i : ℕ) → i < n → (p : Progress) → Good (P i) p → Good (P (i + 1)) (f i p)) → (p : Progress) → Good (P 0) p → Good (P n) (in_turn f n p)
unfolding in_turn
turns_keep P f zero keeps p good h = good h
turns_keep P f (suc n) keeps p good h =
    let before = turns_keep P f n (λ i l. keeps i (omega arith)) p good in
    subst (λ (k : ℕ). P k (f n (in_turn f n p)).model) (add-one n) (keeps n (omega arith) (in_turn f n p) before h)
