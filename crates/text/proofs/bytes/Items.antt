-- The items of a value: none where a hyphen stands alone, or else what stands between the commas.
use Prim.Native.Nat.{ℕ}
use mathlib.Core.Path.{◌≡◌}
use mathlib.Core.List.{List, []}
use mathlib.Core.Bool.{true, false}
use Rattle.text.specs.bytes.Bytes.{split_on, is_hyphen, items_of}

pub items_none : (v : List ℕ) → is_hyphen v ≡ true → items_of v ≡ []
unfolding items_of
items_none v h = rw h

pub items_some : (v : List ℕ) → is_hyphen v ≡ false → items_of v ≡ split_on 44 v
unfolding items_of
items_some v h = rw h
