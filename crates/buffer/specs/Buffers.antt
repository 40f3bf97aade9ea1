-- What a writer asks of a lent buffer, and what it leaves there.
use Rattle.std.specs.Prelude.{◌≡◌, List, ◌++◌, ℕ, ◌+◌, ◌≤◌, length, take, drop}

-- The buffer has room for the piece from index `at` on.
pub record Room {A : Type 0} (piece buffer : List A) (at : ℕ) : Type 0 where
  pub room : at + length piece ≤ length buffer

-- The piece was written from index `at` up to `end` into a buffer that held `old`, and nothing else changed.
pub record Wrote {A : Type 0} (piece old new : List A) (at end : ℕ) : Type 0 where
  pub ends : end ≡ at + length piece
  pub fits : end ≤ length old
  pub long : length new ≡ length old
  pub list : new ≡ take at old ++ piece ++ drop end old
