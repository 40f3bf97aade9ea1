-- What the calls on a model text answer: the text is read first, then the call is made on the model read.
use Rattle.std.specs.Prelude.{ℕ, [], ◌∷◌}
use Rattle.model.specs.declared.Model.{Model}
use Rattle.model.specs.declared.State.{State}
use Rattle.model.specs.Automaton.{ceiling, state_size, choices}
use Rattle.model.specs.Refusal.{Refusal, refusal}
use Rattle.text.specs.Text.{ReadReport}
use Rattle.walk.specs.StepCall.{StepReport}
use Rattle.counts.specs.CountsCall.{ListReport}
use Rattle.sizing.specs.SizeCall.{SizeReport}
use Rattle.dimacs.specs.DimacsCall.{FileReport}
use Rattle.output.specs.OutputCall.{OutputReport}
use Rattle.refute.specs.RefuteCall.{RefuteReport}
use Rattle.wirdoku.specs.declared.Answer.{Answer}
use Rattle.wirdoku.specs.declared.FileReply.{FileReply}
use Rattle.wirdoku.specs.declared.OutputReply.{OutputReply}
use Rattle.wirdoku.specs.declared.RefuteReply.{RefuteReply}
use Rattle.wirdoku.specs.declared.Shape.{Shape}
use Rattle.wirdoku.specs.declared.StateAnswer.{StateAnswer}

-- the number and the place of an answer
abbrev pub answer_told : Answer → Refusal
answer_told a = refusal a.number a.place

-- the number and the line of the text
abbrev pub text_report : ReadReport → Refusal
text_report t = refusal t.number t.line

-- the counts of the list, or the number of their refusal
abbrev pub counted_sizes : ListReport → SizeReport
counted_sizes r = record { number = r.number; line = 0; variables = r.variables; clauses = r.clauses; words = r.words }

-- the number and the bytes of the call that writes the file
abbrev pub file_reply : FileReport → FileReply
file_reply r = record { number = r.number; line = 0; bytes = r.bytes }

-- no byte is told of a refused text
abbrev pub refused_file : ℕ → ℕ → FileReply
refused_file n l = record { number = n; line = l; bytes = 0 }

-- what a model declares; M, S and H
abbrev pub shape_of : Model → Shape
shape_of m =
    record { number = 0; line = 0; locations = m.locations; initial = m.initial; target = m.target; clocks = m.clocks; counters = m.vars; edges = m.used; ceiling = ceiling m; state = state_size m; choices = choices m }

abbrev pub refused_shape : ℕ → ℕ → Shape
refused_shape n l = record { number = n; line = l; locations = 0; initial = 0; target = 0; clocks = 0; counters = 0; edges = 0; ceiling = 0; state = 0; choices = 0 }

abbrev pub state_answer : ℕ → ℕ → State → StateAnswer
state_answer n l s = record { number = n; line = l; state = s }

-- a state of zeros
abbrev pub zero_state : State
zero_state = record { location = 0; counters = 0 ∷ 0 ∷ 0 ∷ 0 ∷ []; clocks = 0 ∷ 0 ∷ 0 ∷ 0 ∷ [] }

-- the step call's number and the state that it hands back
abbrev pub step_answer : StepReport → StateAnswer
step_answer r = state_answer r.number 0 r.state

-- the three numbers of the answer on a solver's output
abbrev pub output_in : OutputReply → OutputReport
output_in r = record { number = r.number; line = r.line; outcome = r.outcome }

-- the number, the words and the outcome of the call that refutes the list
abbrev pub refute_reply : RefuteReport → RefuteReply
refute_reply r = record { number = r.number; line = 0; words = r.words; outcome = r.outcome }

-- nothing is told of the list of a refused text
abbrev pub refused_refute : ℕ → ℕ → RefuteReply
refused_refute n l = record { number = n; line = l; words = 0; outcome = 0 }
