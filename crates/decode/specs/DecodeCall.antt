-- What the call from an assignment to its run answers, and what it leaves in the run buffer.
use Rattle.std.specs.Prelude.{◌≡◌, List, [], ◌∷◌, ◌++◌, not, cond, ℕ, ◌+◌, ◌≤◌, ltb, eqb, length, drop, Option, None, Some, Result, Ok, Err}
use Rattle.model.specs.declared.Model.{Model}
use Rattle.model.specs.Indexed.{maybe}
use Rattle.model.specs.Automaton.{variables}
use Rattle.model.specs.Form.{well_formed}
use Rattle.model.specs.Refusal.{Refusal, refusal, accepted, is_accepted}
use Rattle.list.specs.Clauses.{clauses}
use Rattle.list.specs.Assignments.{place_of_true, first_false, run_of}
use Rattle.form.specs.declared.ListRefusal.{ListRefusal}
use Rattle.form.specs.declared.ListRefusal.TheVariants.{NotWellFormed as MalformedRecord, BoundTooLarge as LargeBound}
use Rattle.decode.specs.declared.DecodeRefusal.{DecodeRefusal}
use Rattle.decode.specs.declared.DecodeRefusal.TheVariants.{NotWellFormed, BoundTooLarge, WrongLength, WrongByte, RunBufferTooShort, FalseClause}

-- The index of the first byte that is not 0 or 1 (refusal 24), where the bytes are counted from i.
unfoldable pub first_wrong_byte : ℕ → List ℕ → Option ℕ
first_wrong_byte i [] = None
first_wrong_byte i (x ∷ a) = cond (ltb 1 x) (Some i) (first_wrong_byte (i + 1) a)

-- 20, then 21 bound above 64, then 23 length isn't N, then 24 a byte not 0 or 1, with the first one's index from 0, then 25 run buffer shorter than k,
-- where `room` is its length, then 26 a clause is false, with the first one's index from 0.
unfoldable pub decode_report : Model → ℕ → List ℕ → ℕ → Refusal
decode_report m k a room =
    cond (not (well_formed m)) (refusal 20 0)
    (cond (ltb 64 k) (refusal 21 0)
    (cond (not (eqb (length a) (variables m k))) (refusal 23 0)
    (maybe (first_wrong_byte 0 a) (cond (ltb room k) (refusal 25 0) (maybe (first_false a (clauses m k)) accepted (λ i. refusal 26 i))) (λ i. refusal 24 i))))

-- Accepted: the run's k bytes from the start of the run buffer, and beyond them what stood there. Refused: what stood there.
unfoldable pub decode_left : Model → ℕ → List ℕ → List ℕ → List ℕ
decode_left m k a old = cond (is_accepted (decode_report m k a (length old))) (run_of m k a ++ drop k old) old

-- The number and the place of each refusal.
abbrev pub decode_refusal : DecodeRefusal → Refusal
decode_refusal NotWellFormed = refusal 20 0
decode_refusal BoundTooLarge = refusal 21 0
decode_refusal WrongLength = refusal 23 0
decode_refusal (WrongByte i) = refusal 24 i
decode_refusal RunBufferTooShort = refusal 25 0
decode_refusal (FalseClause i) = refusal 26 i

-- What the call tells.
abbrev pub decode_told : Result (Unit {0}) DecodeRefusal → Refusal
decode_told (Ok u) = accepted
decode_told (Err e) = decode_refusal e

-- The refusal of a record and a bound, as this call's.
abbrev pub list_refused : ListRefusal → DecodeRefusal
list_refused MalformedRecord = NotWellFormed
list_refused LargeBound = BoundTooLarge

-- r is the place of the true member of the group of n members at b, or n where there is none.
pub record Place (a : List ℕ) (b n r : ℕ) : Type 0 where
  pub is : r ≡ place_of_true a b n
  pub most : r ≤ n
