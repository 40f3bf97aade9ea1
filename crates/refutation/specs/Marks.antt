-- A table of marks, one for each code: the literals that are taken to be false bear the lemma's stamp.
use Rattle.std.specs.Prelude.{◌≡◌, Bool, List, ℤ, pos, ℕ, ◌<◌, ◌≤◌, eqb, length, get_or}
use Rattle.refutation.specs.Codes.{code_of}
use Rattle.refutation.specs.Refutation.{is_in}

-- The literal bears the stamp.
abbrev pub marked : List ℕ → ℕ → ℕ → Bool
marked ms s c = eqb (get_or ms c 0) s

-- No mark is above s.
abbrev pub Most : List ℕ → ℕ → Type 0
Most ms s = (c : ℕ) → get_or ms c 0 ≤ s

-- The code of every word lies below n.
abbrev pub Below : List ℤ → ℕ → Type 0
Below ws n = (i : ℕ) → i < length ws → code_of (get_or ws i (pos 0)) < n

-- The literals that bear the stamp s are those of fs.
pub record Shows (ms : List ℕ) (s : ℕ) (fs : List ℕ) : Type 0 where
  pub stamped : (c : ℕ) → marked ms s c ≡ is_in c fs
