-- What the size program prints for its input, and what it leaves in the lent words.
use Rattle.std.specs.Prelude.{ℕ, List, ℤ, length, drop}
use Rattle.text.specs.Bound.{BoundReport, bound_report, if_bound}
use Rattle.text.specs.Text.{ReadReport, read_report, if_read}
use Rattle.emission.specs.EmitCall.{EmitReport, emit_report, emit_left}
use Rattle.sizing.specs.declared.SizeAnswer.{SizeAnswer}

-- the five numbers: refusal (0 if none), line (of the model text, for 1 to 8, else 0), variables, clauses, words
pub record SizeReport : Type 0 where
  pub number : ℕ
  pub line : ℕ
  pub variables : ℕ
  pub clauses : ℕ
  pub words : ℕ

-- after a refusal the last three are 0
abbrev pub refused_sizes : ℕ → ℕ → SizeReport
refused_sizes number line = record { number = number; line = line; variables = 0; clauses = 0; words = 0 }

-- but words after 22 is the number needed: what emission tells
abbrev pub emitted_sizes : EmitReport → SizeReport
emitted_sizes e = record { number = e.number; line = 0; variables = e.variables; clauses = e.clauses; words = e.words }

-- the text, then 21, then 22
abbrev pub text_sizes : ReadReport → ℕ → ℕ → SizeReport
text_sizes t bound room = if_read t (λ m. emitted_sizes (emit_report m bound room)) refused_sizes

abbrev pub bound_sizes : BoundReport → List ℕ → ℕ → SizeReport
bound_sizes b input room = if_bound b (λ bound next. text_sizes (read_report (drop next input)) bound room) (λ number. refused_sizes number 0)

-- 9, then the model text that follows the bound line; `room` is the number of words lent
unfoldable pub size_report : List ℕ → ℕ → SizeReport
size_report input room = bound_sizes (bound_report input) input room

-- the program lends 16,384 words
abbrev pub program_words : ℕ
program_words = 16384

unfoldable pub program_report : List ℕ → SizeReport
program_report input = size_report input program_words

-- the lent words: the list where it is written, else unchanged
abbrev pub text_left : ReadReport → ℕ → List ℤ → List ℤ
text_left t bound out = if_read t (λ m. emit_left m bound (length out) out) (λ number line. out)

abbrev pub bound_left : BoundReport → List ℕ → List ℤ → List ℤ
bound_left b input out = if_bound b (λ bound next. text_left (read_report (drop next input)) bound out) (λ number. out)

unfoldable pub size_left : List ℕ → List ℤ → List ℤ
size_left input out = bound_left (bound_report input) input out

-- the numbers of the answer
abbrev pub size_told : SizeAnswer → SizeReport
size_told a = record { number = a.number; line = a.line; variables = a.variables; clauses = a.clauses; words = a.words }
