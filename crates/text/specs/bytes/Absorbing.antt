-- A closure that takes up the items of a value into a state, one after the other.
use Rattle.std.specs.Prelude.{ℕ, ◌≡◌, List}
use Rattle.std.specs.Fn.{Called}
use denote.Param.Members.{Mut}
use denote.Ref.{Bor}

-- g takes the bytes of an item into a state as h does, and stays as it is
abbrev pub Absorbs : {S F : Type 0} → Mut F (S × (Bor (List ℕ) × Unit {0})) S → F → (S → List ℕ → S) → Type 0
Absorbs {S} {F} g f h = (s : S) (x : Bor (List ℕ)) (r : S) (q : F) → Called g f (s, (x, tt)) r q → (q ≡ f) × (r ≡ h s x.now)
