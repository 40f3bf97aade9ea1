-- What the call from a run to its assignment answers, and what it leaves in the buffer.
use Rattle.std.specs.Prelude.{List, ◌++◌, cond, ℕ, ltb, length, drop, Result, Ok, Err}
use Rattle.model.specs.declared.Model.{Model}
use Rattle.model.specs.Automaton.{variables}
use Rattle.model.specs.Refusal.{Refusal, refusal, accepted, is_accepted}
use Rattle.walk.specs.Walker.{walk_report, run_refusal}
use Rattle.list.specs.Assignments.{assignment_of}
use Rattle.encode.specs.declared.EncodeRefusal.{EncodeRefusal}
use Rattle.encode.specs.declared.EncodeRefusal.TheVariants.{Run, BufferTooShort}

-- 20, 21 and the walker's rows for the run; after those, 31 buffer shorter than N, where `room` is the buffer's length.
unfoldable pub encode_report : Model → List ℕ → ℕ → Refusal
encode_report m r room = cond (is_accepted (walk_report m r)) (cond (ltb room (variables m (length r))) (refusal 31 0) accepted) (walk_report m r)

-- Accepted: the run's assignment from the start of the buffer, and beyond it what stood there. Refused: what stood there.
unfoldable pub encode_left : Model → List ℕ → List ℕ → List ℕ
encode_left m r old = cond (is_accepted (encode_report m r (length old))) (assignment_of m r ++ drop (variables m (length r)) old) old

-- The number and the place of each refusal.
abbrev pub encode_refusal : EncodeRefusal → Refusal
encode_refusal (Run e) = run_refusal e
encode_refusal BufferTooShort = refusal 31 0

-- What the call tells.
abbrev pub encode_told : Result (Unit {0}) EncodeRefusal → Refusal
encode_told (Ok u) = accepted
encode_told (Err e) = encode_refusal e
