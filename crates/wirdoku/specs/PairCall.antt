-- What the calls on two model texts answer: both are read, the models read are composed, then the call is made on the composed model.
use Rattle.std.specs.Prelude.{ℕ, cond, eqb, Result, Ok, Err}
use Rattle.model.specs.declared.Model.{Model}
use Rattle.model.specs.Record.{blank_model}
use Rattle.text.specs.Text.{ReadReport, if_read, outcome_number, outcome_line}
use Rattle.compose.specs.ComposeCall.{ComposeReport, compose_report, compose_number}
use Rattle.compose.specs.Parts.{PartsReport}
use Rattle.wirdoku.specs.declared.pairs.PairAnswer.{PairAnswer}
use Rattle.wirdoku.specs.declared.pairs.PairRefusal.{PairRefusal}
use Rattle.wirdoku.specs.declared.pairs.PairRefusal.TheVariants.{First, Second, NotComposed}
use Rattle.wirdoku.specs.declared.pairs.PartSteps.{PartSteps}

-- ---- two texts
-- A call on two texts. Both are read: what the call says of the two models. The first is refused, or else the second: what is said of the text, 1 or 2,
-- its number and its line.
unfoldable pub if_both : {A : Type 0} → ReadReport → ReadReport → (Model → Model → A) → (ℕ → ℕ → ℕ → A) → A
if_both a b call refused = if_read a (λ m. if_read b (call m) (refused 2)) (refused 1)

-- ---- two texts as one model
-- the number of the refusal, or 0; the text, 1 or 2, that is refused, or 0; its line, or 0; the composed model, or the blank model
pub record PairReport : Type 0 where
  pub number : ℕ
  pub text : ℕ
  pub line : ℕ
  pub model : Model

abbrev pub pair_reported : ℕ → ℕ → ℕ → Model → PairReport
pair_reported n t l m = record { number = n; text = t; line = l; model = m }

-- a refused text: there is no model
abbrev pub refused_pair : ℕ → ℕ → ℕ → PairReport
refused_pair t n l = pair_reported n t l blank_model

-- both are read: 38 is of neither text, and has no line
abbrev pub pair_composed : ComposeReport → PairReport
pair_composed c = pair_reported c.number 0 0 c.model

-- the first text, then the second, then what composing the models says
unfoldable pub pair_report : ReadReport → ReadReport → PairReport
pair_report a b = if_both a b (λ m n. pair_composed (compose_report m n)) refused_pair

-- A call on the composed model. There is one: what the call says of it. There is none: what is said of the number and the line.
unfoldable pub if_pair : {A : Type 0} → PairReport → (Model → A) → (ℕ → ℕ → A) → A
if_pair p call refused = cond (eqb p.number 0) (call p.model) (refused p.number p.line)

-- ---- what is told
-- the models of both texts; or the text that is refused, its number and its line
abbrev pub both_read : Model → Model → Result (Model × Model) (ℕ × ℕ × ℕ)
both_read m n = Ok (m, n)

abbrev pub text_refused : ℕ → ℕ → ℕ → Result (Model × Model) (ℕ × ℕ × ℕ)
text_refused t n l = Err (t, n, l)

-- why there is no composed model: the number, the text, 1 or 2, or 0, and its line, or 0
abbrev pub pair_refusal : PairRefusal → PairReport
pair_refusal (First e) = refused_pair 1 (outcome_number e) (outcome_line e)
pair_refusal (Second e) = refused_pair 2 (outcome_number e) (outcome_line e)
pair_refusal (NotComposed e) = refused_pair 0 (compose_number e) 0

-- what was read of both texts
abbrev pub both_told : Result (Model × Model) PairRefusal → Result (Model × Model) (ℕ × ℕ × ℕ)
both_told (Ok p) = Ok p
both_told (Err e) = text_refused (pair_refusal e).text (pair_refusal e).number (pair_refusal e).line

-- what was made of them
abbrev pub pair_told : Result Model PairRefusal → PairReport
pair_told (Ok m) = pair_reported 0 0 0 m
pair_told (Err e) = pair_refusal e

-- the number, the text and its line
abbrev pub pair_answer : PairReport → PairAnswer
pair_answer p = record { number = p.number; text = p.text; line = p.line }

-- ---- a step byte of the composed model in each part
-- 38, then 27, then what each part does; no line
abbrev pub parts_answer : PartsReport → PartSteps
parts_answer p = record { number = p.number; line = 0; first = p.first; second = p.second }

-- nothing is told of the parts after a refused text
abbrev pub refused_parts : ℕ → ℕ → PartSteps
refused_parts n l = record { number = n; line = l; first = 0; second = 0 }
