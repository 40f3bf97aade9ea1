-- What the program is asked: the bound and the model of its input, or the refusal that it prints.
use Rattle.std.specs.Prelude.{ℕ, cond, List, ltb, drop, Result, Ok, Err}
use Rattle.model.specs.declared.Model.{Model}
use Rattle.model.specs.Record.{blank_model}
use Rattle.text.specs.Bound.{bound_report, if_bound}
use Rattle.text.specs.Text.{ReadReport, read_report, if_read, outcome_number, outcome_line}
use Rattle.text.specs.declared.ReadRefusal.{ReadRefusal}
use Rattle.dimacs.specs.declared.Request.{Request}
use Rattle.dimacs.specs.declared.RequestRefusal.{RequestRefusal}
use Rattle.dimacs.specs.declared.RequestRefusal.TheVariants.{NotABound, Text, BoundTooLarge}

-- refusal (0 if none) and line (of the model text, for 1 to 8, else 0); after a refusal the bound is 0 and the model the blank one
pub record RequestReport : Type 0 where
  pub number : ℕ
  pub line : ℕ
  pub bound : ℕ
  pub model : Model

abbrev pub request_refused : ℕ → ℕ → RequestReport
request_refused number line = record { number = number; line = line; bound = 0; model = blank_model }

abbrev pub requested : ℕ → Model → RequestReport
requested k m = record { number = 0; line = 0; bound = k; model = m }

-- the text, then 21
abbrev pub text_request : ReadReport → ℕ → RequestReport
text_request t k = if_read t (λ m. cond (ltb 64 k) (request_refused 21 0) (requested k m)) request_refused

-- 9, then the model text that follows the bound line; 22 is not tested
unfoldable pub request_report : List ℕ → RequestReport
request_report input = if_bound (bound_report input) (λ k next. text_request (read_report (drop next input)) k) (λ number. request_refused number 0)

-- the number and the line of each refusal
abbrev pub request_refusal : RequestRefusal → RequestReport
request_refusal NotABound = request_refused 9 0
request_refusal (Text e) = request_refused (outcome_number e) (outcome_line e)
request_refusal BoundTooLarge = request_refused 21 0

-- a refusal of the text
abbrev pub as_request_refusal : ReadRefusal → RequestRefusal
as_request_refusal e = Text e

-- the numbers of the answer
abbrev pub request_told : Result Request RequestRefusal → RequestReport
request_told (Ok r) = requested r.bound r.model
request_told (Err e) = request_refusal e
