-- One pass over a text: variables are counted, not remembered, and a literal is refused after `limit` of them.
use Rattle.std.specs.Prelude.{ℕ, ◌+◌, List, [], map, not, cond, ◌||◌, length, ltb, leb, eqb, Option, Some, None}
use denote.Ref.{Bor}
use Rattle.text.specs.bytes.Bytes.{split_on}
use Rattle.output.specs.Literals.{number_after, unsigned, has_minus}
use Rattle.output.specs.Lines.{in_place, stage_after}
use Rattle.output.specs.Tokens.{Token, formed, literal}
use Rattle.output.specs.OutputCall.{Progress, is_no_fault}
use Rattle.output.specs.declared.lines.LineForm.{LineForm}
use Rattle.output.specs.declared.lines.Stage.TheVariants.{BeforeStatus, Closed}
use Rattle.output.specs.declared.literals.Literal.{Literal}
use Rattle.output.specs.declared.literals.Literals.{Literals}
use Rattle.output.specs.declared.reading.Fault.TheVariants.{OutOfFormOrPlace, AboveOrNamedBefore, Incomplete}
use Rattle.output.specs.declared.reading.Reading.{Reading}

-- a number of any length, or one more than `most` where it is above
abbrev pub capped : ℕ → ℕ → ℕ
capped most v = cond (ltb most v) (most + 1) v

-- a literal with such a number
unfoldable pub literal_up_to : ℕ → List ℕ → Literal
literal_up_to most w = record { variable = capped most (number_after 0 (unsigned w)); bare = not (has_minus w) }

-- the words that are left, one space (32) apart
abbrev pub words_left : Option (Bor (List ℕ)) → List (List ℕ)
words_left None = []
words_left (Some l) = split_on 32 l.now

-- the literals that they are
abbrev pub literals_left : Literals → List Literal
literals_left l = map (literal_up_to l.variables.most) (words_left l.words)

-- what was read so far, by numbers
abbrev pub counted_from : Progress → Reading
counted_from p = record { fault = p.fault; line = p.line; stage = p.stage; named = length p.named }

-- nothing is read yet
abbrev pub no_reading : Reading
no_reading = record { fault = None; line = 0; stage = BeforeStatus; named = 0 }

-- a line
unfoldable pub count_line : Option LineForm → Reading → Reading
count_line f r =
    cond (is_no_fault r.fault)
    (cond (in_place r.stage f)
    (record { fault = None; line = r.line + 1; stage = stage_after r.stage f; named = r.named })
    (record { fault = Some OutOfFormOrPlace; line = r.line + 1; stage = r.stage; named = r.named }))
    r

-- a literal: 34 above n or after `limit` variables, 35 if 0 comes after another number of variables than n
unfoldable pub count_literal : ℕ → ℕ → Literal → Reading → Reading
count_literal n limit l r =
    cond (is_no_fault r.fault)
    (cond (eqb l.variable 0)
    (cond (eqb r.named n)
    (record { fault = None; line = r.line; stage = Closed; named = r.named })
    (record { fault = Some Incomplete; line = r.line; stage = r.stage; named = r.named }))
    (cond (ltb n l.variable || leb limit r.named)
    (record { fault = Some AboveOrNamedBefore; line = r.line; stage = r.stage; named = r.named })
    (record { fault = None; line = r.line; stage = r.stage; named = r.named + 1 })))
    r

-- a line or a literal
abbrev pub count : ℕ → ℕ → Reading → Token → Reading
count n limit r (formed f) = count_line f r
count n limit r (literal l) = count_literal n limit l r
