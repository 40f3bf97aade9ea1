-- What the DIMACS file of an accepted call says, beside an accepted emission for the same bound: its numbers are the words that emission leaves, its first
-- line tells the counts that emission tells. The file is read by a reader of any bytes (dimacs/specs/ReadBack.antt). proofs/Claims.antt proves it.
use Rattle.std.specs.Prelude.{◌≡◌, List, [], ◌∷◌, ℕ, pos, take, drop}
use Rattle.text.specs.bytes.Ascii.{ascii}
use Rattle.dimacs.specs.ReadBack.{numbers_in, read_back}
use Rattle.claims.specs.Calls.{Calls, Emitted, variables_told, clauses_told, words_left}

-- An accepted call that writes the file for the bound k, into a buffer that held `old`.
pub record Filed (c : Calls) (k : ℕ) : Type 0 where
  pub old : List ℕ
  pub accepts : (c.files k old).number ≡ 0

-- The bytes that it leaves: as many as it tells, from the start of the buffer.
module _ {c : Calls} {k : ℕ} where
  abbrev pub bytes_left : Filed c k → List ℕ
  bytes_left f = take (c.files k f.old).bytes (c.filed k f.old)

-- What these bytes are.
pub record FiledBytes (c : Calls) (k : ℕ) (f : Filed c k) (e : Emitted c k) : Type 0 where
  -- the numbers after the first line are the words that emission leaves, in order
  pub words_are : read_back (bytes_left f) ≡ words_left e
  -- the first line begins with its key
  pub key : take 6 (bytes_left f) ≡ ascii "p cnf "
  -- the numbers after the key are first the variables and then the clauses that emission tells
  pub counts_are_lem : take 2 (numbers_in (drop 6 (bytes_left f))) ≡ pos (variables_told e) ∷ pos (clauses_told e) ∷ []
