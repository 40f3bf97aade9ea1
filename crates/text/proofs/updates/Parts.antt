-- A set item from its parts, as the code takes them.
use Prim.Native.Nat.{ℕ}
use mathlib.Core.Path.{◌≡◌}
use mathlib.Core.Bool.{cond, ◌&&◌}
use mathlib.Core.List.{List}
use lib.ListN.{get_or, drop}
use lib.Dec.{eqb}
use Rattle.std.specs.Prelude.{Option, None}
use Rattle.text.specs.bytes.Bytes.{number_of, leading, following, assigns}
use Rattle.text.specs.updates.Sets.{made_sum, sum_of, set_named, set_of}

-- t is what follows the name, i its number, u what follows that
module _ (s : List ℕ) {t u : List ℕ} {i : Option ℕ} (et : t ≡ drop 1 s) (ei : i ≡ leading t) (eu : u ≡ following t) where
  pub sum_parts : (v : ℕ) → sum_of v s ≡ made_sum v i (get_or u 0 0) (number_of (drop 1 u))
  unfolding sum_of
  sum_parts v = rw (ei, eu, et)

  pub set_parts : set_of s ≡ cond (eqb (get_or s 0 0) 118 && assigns u) (set_named i (drop 2 u)) None
  unfolding set_of
  set_parts = rw (ei, eu, et)
