-- The tests of a line, and tests over all items of one.
use Rattle.std.specs.Prelude.{ℕ, ◌+◌, ◌≡◌, List, [], ◌∷◌, Bool, true, false, cond, ◌&&◌, ◌||◌, leb, Result, Ok, Err}
use Rattle.text.specs.declared.bytes.Faults.{Faults}
use Rattle.text.specs.declared.bytes.LineFault.{LineFault}
use Rattle.text.specs.declared.bytes.LineFault.TheVariants.{NotDue, NotOfItsForm, TooManyItems, OutOfRange, NotDeclared, SetTwiceOrNotRising}

-- the number of the first test of a value that fails, or 0. The value is tried whole in this order: 3 not of its form; 7 more than four items in
-- inv or when; 4 number outside its range; 5 location, clock or counter not declared; 6 a counter is set twice in one edge,
-- or reset isn't strictly rising.
unfoldable pub fault_number : Faults → ℕ
fault_number f = cond f.malformed 3 (cond f.crowded 7 (cond f.outside 4 (cond f.undeclared 5 (cond f.unordered 6 0))))

-- the same for the whole line: 2 no LF, or not the due key and =, comes first
unfoldable pub line_number : Bool → Faults → ℕ
line_number due f = cond due (fault_number f) 2

-- a value without faults
abbrev pub no_faults : Faults
no_faults = record { malformed = false; crowded = false; outside = false; undeclared = false; unordered = false }

-- the number of each fault
abbrev pub line_told : LineFault → ℕ
line_told NotDue = 2
line_told NotOfItsForm = 3
line_told TooManyItems = 7
line_told OutOfRange = 4
line_told NotDeclared = 5
line_told SetTwiceOrNotRising = 6

-- the answer to a value with the faults f: what it says, x, where it has none, and else the first of them
abbrev pub Checked : {A : Type 0} → Faults → A → Result A LineFault → Type 0
Checked f x (Ok y) = (fault_number f ≡ 0) × (y ≡ x)
Checked f x (Err fault) = fault_number f ≡ line_told fault

-- some item fails a test
unfoldable pub any_of : {A : Type 0} → (A → Bool) → List A → Bool
any_of f [] = false
any_of f (a ∷ l) = f a || any_of f l

-- the numbers are at least `least` and rise strictly
unfoldable pub rises_from : ℕ → List ℕ → Bool
rises_from least [] = true
rises_from least (n ∷ l) = leb least n && rises_from (n + 1) l
