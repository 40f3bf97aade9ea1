-- An atom from its parts, as the code takes them.
use Prim.Native.Nat.{ℕ}
use mathlib.Core.Path.{◌≡◌, refl}
use mathlib.Core.List.{List}
use lib.ListN.{get_or, drop}
use Rattle.std.specs.Prelude.{Option, Some, None}
use Rattle.text.specs.bytes.Bytes.{number_of, leading, following}
use Rattle.text.specs.atoms.Atoms.{atom_of, valued_atom, made_atom, relation_at, width}

-- t is what follows the name, i its number, u what follows that
pub atom_parts : (s : List ℕ) {t u : List ℕ} {i : Option ℕ} → t ≡ drop 1 s → i ≡ leading t → u ≡ following t
    → atom_of s
    ≡ made_atom (get_or s 0 0) i (relation_at (get_or u 0 0) (get_or u 1 0)) (number_of (drop (width (relation_at (get_or u 0 0) (get_or u 1 0))) u))
unfolding atom_of
atom_parts s et ei eu = rw (ei, eu, et)

pub no_sign : (name i : ℕ) (c : Option ℕ) → valued_atom name i None c ≡ None
no_sign name i None = refl
no_sign name i (Some c) = refl
