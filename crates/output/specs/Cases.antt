-- Worked texts, and what the call says of each.
use Rattle.std.specs.Prelude.{ℕ, ◌≡◌, List, [], ◌∷◌, replicate}
use Prim.Native.String.{String}
use Rattle.text.specs.bytes.Ascii.{ascii}
use Rattle.output.specs.OutputCall.{OutputReport, output_accepted, output_refused, output_report, output_left}

-- a text, the number of variables, the report
pub record Case : Type 0 where
  pub text : String
  pub variables : ℕ
  pub report : OutputReport

abbrev case : ℕ → String → OutputReport → Case
case n t r = record { text = t; variables = n; report = r }

-- each text is reported as its row says
abbrev pub EachReported : List Case → Type 0
EachReported [] = Unit {0}
EachReported (c ∷ cs) = (output_report (ascii c.text) c.variables ≡ c.report) × EachReported cs

-- ---- satisfiable and unsatisfiable
unfoldable pub accepted : List Case
accepted =
    case 7 "s SATISFIABLE\nv 1 -2 -3 -4 5 -6 7 0\n" (output_accepted 10)
    ∷ case 7 "c x\ns SATISFIABLE\nc \nv 7 -6\nv 5 -4 -3\nc y\nv -2 1\nv 0\nc z\n" (output_accepted 10)
    ∷ case 7 "s UNSATISFIABLE\n" (output_accepted 20)
    ∷ case 7 "c \ns UNSATISFIABLE\nc v 1 0\n" (output_accepted 20)
    ∷ case 0 "s SATISFIABLE\nv 0\n" (output_accepted 10)
    ∷ []

-- ---- 33
unfoldable pub malformed : List Case
malformed =
    case 2 "s SATISFIABLE\nv 1 2 0" (output_refused 33 2)
    ∷ case 2 "s SATISFIABLE\nv 1 2 0\nv 0\n" (output_refused 33 3)
    ∷ case 2 "s SATISFIABLE\nv 1 1 x\n" (output_refused 33 2)
    ∷ case 2 "s SATISFIABLE\nv 3 x\n" (output_refused 33 2)
    ∷ case 2 "v 1 2 0\ns SATISFIABLE\n" (output_refused 33 1)
    ∷ case 2 "s SATISFIABLE\ns SATISFIABLE\nv 1 2 0\n" (output_refused 33 2)
    ∷ case 2 "s UNSATISFIABLE\nv 1 0\n" (output_refused 33 2)
    ∷ case 2 "s SATISFIABLE\nv 1 -0\n" (output_refused 33 2)
    ∷ case 2 "s SATISFIABLE\nv 01 2 0\n" (output_refused 33 2)
    ∷ case 2 "s SATISFIABLE\nv +1 2 0\n" (output_refused 33 2)
    ∷ case 2 "s SATISFIABLE\nv 0 1 2\n" (output_refused 33 2)
    ∷ case 2 "s SATISFIABLE\nv 1  2 0\n" (output_refused 33 2)
    ∷ case 2 "s SATISFIABLE\nv 1 2 0 \n" (output_refused 33 2)
    ∷ case 2 "s SATISFIABLE\nv\n" (output_refused 33 2)
    ∷ case 2 "s SATISFIABLE\nv \n" (output_refused 33 2)
    ∷ case 2 "s SATISFIABLE\nv 1 2 0 0\n" (output_refused 33 2)
    ∷ case 2 "s SATISFIABLE\nv 1 - 2 0\n" (output_refused 33 2)
    ∷ case 2 "s UNKNOWN\n" (output_refused 33 1)
    ∷ case 2 "s SATISFIABLE \n" (output_refused 33 1)
    ∷ case 2 "s SATISFIABLE\n\nv 1 2 0\n" (output_refused 33 2)
    ∷ case 2 "s SATISFIABLE\nv 1 2 0\r\n" (output_refused 33 2)
    ∷ case 2 "c\ns SATISFIABLE\nv 1 2 0\n" (output_refused 33 1)
    ∷ case 2 "s SATISFIABLE\nv 1 2 0\nc " (output_refused 33 3)
    ∷ []

-- ---- 34
unfoldable pub renamed : List Case
renamed =
    case 2 "s SATISFIABLE\nv 1 1\nx\n" (output_refused 34 2)
    ∷ case 2 "s SATISFIABLE\nv 1 -1 2 0\n" (output_refused 34 2)
    ∷ case 2 "s SATISFIABLE\nv 1\nv 2 1 0\n" (output_refused 34 3)
    ∷ case 2 "s SATISFIABLE\nv 3 0\n" (output_refused 34 2)
    ∷ case 2 "s SATISFIABLE\nv 1 2 1\n" (output_refused 34 2)
    ∷ case 2 "s SATISFIABLE\nv 4294967297 2 0\n" (output_refused 34 2)
    ∷ case 2 "s SATISFIABLE\nv 18446744073709551617 2 0\n" (output_refused 34 2)
    ∷ case 0 "s SATISFIABLE\nv 1 0\n" (output_refused 34 2)
    ∷ []

-- ---- 35
unfoldable pub unfinished : List Case
unfinished =
    case 2 "" (output_refused 35 1)
    ∷ case 2 "c x\n" (output_refused 35 2)
    ∷ case 2 "s SATISFIABLE\n" (output_refused 35 2)
    ∷ case 2 "s SATISFIABLE\nv 1 2\n" (output_refused 35 3)
    ∷ case 2 "s SATISFIABLE\nv 1 0\n" (output_refused 35 2)
    ∷ case 2 "s SATISFIABLE\nv 2 0\n" (output_refused 35 2)
    ∷ case 2 "s SATISFIABLE\nv 1 0\nx\n" (output_refused 35 2)
    ∷ case 2 "s SATISFIABLE\nv 1 0\nv 2 0\n" (output_refused 35 2)
    ∷ case 0 "s SATISFIABLE\n" (output_refused 35 2)
    ∷ []

-- what two texts write over seven bytes 9, and what a third leaves
abbrev pub LeftInTheBuffer : Type 0
LeftInTheBuffer =
    (output_left (ascii "s SATISFIABLE\nv 1 -2 -3 -4 5 -6 7 0\n") (replicate 7 9) ≡ 1 ∷ 0 ∷ 0 ∷ 0 ∷ 1 ∷ 0 ∷ 1 ∷ [])
    × (output_left (ascii "c x\ns SATISFIABLE\nc \nv 7 -6\nv 5 -4 -3\nc y\nv -2 1\nv 0\nc z\n") (replicate 7 9) ≡ 1 ∷ 0 ∷ 0 ∷ 0 ∷ 1 ∷ 0 ∷ 1 ∷ [])
    × (output_left (ascii "s UNSATISFIABLE\n") (replicate 7 9) ≡ replicate 7 9)
