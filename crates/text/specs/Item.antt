-- An item: a bound line, and the model text that follows it.
use Rattle.std.specs.Prelude.{ℕ, ◌+◌, ◌≡◌, List, drop}
use Rattle.text.specs.Bound.{BoundReport, bound_report, bound_told, if_bound}
use Rattle.text.specs.Text.{ReadReport, read_report, read_told}
use Rattle.text.specs.declared.ItemRead.{ItemRead}

-- what the bound line says, and what the text after it says; where there is no bound line, the text is all there is
pub record ItemReport : Type 0 where
  pub bound : BoundReport
  pub text : ReadReport

unfoldable pub item_report : List ℕ → ItemReport
item_report t = record { bound = bound_report t; text = read_report (drop (bound_report t).next t) }

-- A call on an item. A bound line: what the call says of the bound and of the text after the line. No bound line: what is said of the number.
abbrev pub if_item : {A : Type 0} → (ℕ → ReadReport → A) → (ℕ → A) → List ℕ → A
if_item call refused t = if_bound (bound_report t) (λ bound next. call bound (read_report (drop next t))) refused

-- the numbers of the answer
abbrev pub item_told : ItemRead → ItemReport
item_told r = record { bound = bound_told r.bound; text = read_told r.text }

-- i is what one reader finds from the place `at` on: the bound line there, and the model text after it
pub record ItemFrom (t : List ℕ) (at : ℕ) (i : ItemRead) : Type 0 where
  pub bound_is : bound_told i.bound ≡ bound_report (drop at t)
  pub reads : read_told i.text ≡ read_report (drop (at + (bound_report (drop at t)).next) t)
