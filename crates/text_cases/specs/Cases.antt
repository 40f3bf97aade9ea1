-- Texts, and what reading each comes to: the worked cases of document 01, and a line for each way of being refused. A row says which line of a base text
-- becomes what, and what the reading then says.
use Rattle.std.specs.Prelude.{ℕ, ◌-◌, ◌≡◌, List, [], ◌∷◌, ◌++◌, replicate, length, take, drop, pos}
use Prim.Native.String.{String}
use Rattle.text.specs.bytes.Ascii.{ascii, text_of}
use Rattle.text.specs.Text.{ReadReport, read_refused, read_accepted, read_report}
use Rattle.text.specs.Bound.{BoundReport, bound_refused, bound_accepted, bound_report}
use Rattle.model.specs.declared.Update.{Update}
use Rattle.model.specs.declared.Update.TheVariants.{Keep, Sum}
use Rattle.model.specs.declared.Relation.TheVariants.{GreaterEqual}
use Rattle.model.specs.declared.ClockUpdate.{ClockUpdate}
use Rattle.model.specs.declared.ClockUpdate.TheVariants.{Unchanged, Reset, Copy}
use Rattle.model.specs.declared.Edge.{Edge}
use Rattle.model.specs.declared.Model.{Model}
use Rattle.model.specs.Record.{blank_atom, blank_update, blank_reset, blank_counter, blank_invariant, blank_edge, edge_at}
use Rattle.samples.specs.Models.{on_clock, model_a, model_b}

-- ---- changes of a text, line by line; lines are counted from 1
-- line n becomes these lines
abbrev pub with_lines : ℕ → List String → List String → List String
with_lines n lines t = take (n - 1) t ++ lines ++ drop n t

-- line n becomes s
abbrev pub with_line : ℕ → String → List String → List String
with_line n s = with_lines n (s ∷ [])

-- line n is missing
abbrev pub without_line : ℕ → List String → List String
without_line n = with_lines n []

-- the last byte is missing
abbrev pub without_last : List ℕ → List ℕ
without_last t = take (length t - 1) t

-- ---- the base texts
-- the lines of a private edge: a new line of the format stands here once
abbrev pub edge_lines : String → String → String → String → String → List String
edge_lines from to when set reset = from ∷ to ∷ "label=0" ∷ when ∷ set ∷ reset ∷ []

-- model A
abbrev pub text_a : List String
text_a =
    "locations=2" ∷ "init=0" ∷ "target=1" ∷ "clocks=0" ∷ "vars=0" ∷ "inv=-" ∷ "inv=-" ∷ "edges=1" ∷
    edge_lines "from=0" "to=1" "when=-" "set=-" "reset=-"

-- model B
abbrev pub text_b : List String
text_b =
    "locations=4" ∷ "init=0" ∷ "target=3" ∷ "clocks=1" ∷ "vars=1" ∷ "var=1,0" ∷ "inv=-" ∷ "inv=x0<=3" ∷ "inv=-" ∷ "inv=-" ∷ "edges=3" ∷
    (edge_lines "from=0" "to=1" "when=-" "set=-" "reset=x0" ++
    edge_lines "from=1" "to=2" "when=x0<=2" "set=v0:=v0+1" "reset=-" ++
    edge_lines "from=1" "to=3" "when=x0>=3" "set=-" "reset=-")

-- A with two counters of 0 to 1; line 15 is set=
abbrev pub counters_text : List String
counters_text = with_lines 5 ("vars=2" ∷ "var=1,0" ∷ "var=1,0" ∷ []) text_a

-- A with two clocks, whose edge has x0>=1; line 14 is reset=
abbrev pub clocks_text : List String
clocks_text = with_line 4 "clocks=2" (with_line 12 "when=x0>=1" text_a)

-- how many bytes A and B have
abbrev pub Lengths : Type 0
Lengths = (length (text_of text_a) ≡ 105) × (length (text_of text_b) ≡ 227)

-- ---- models
-- A with two counters of 0 to 1, whose edge updates v0 and v1 as given, in the given order
abbrev pub two_counters : Update → Update → List ℕ → Model
two_counters u v order = record {
  locations = 2;
  initial = 0;
  target = 1;
  clocks = 0;
  vars = 2;
  counters = record { greatest = 1; initial = 0 } ∷ record { greatest = 1; initial = 0 } ∷ replicate 2 blank_counter;
  invariants = replicate 16 blank_invariant;
  used = 1;
  edges = record {
    source = 0;
    target = 1;
    label = 0;
    guard = replicate 4 blank_atom;
    updates = u ∷ v ∷ replicate 2 blank_update;
    order = order;
    resets = replicate 4 blank_reset;
  } ∷ replicate 31 blank_edge;
}

-- A with two clocks, whose edge has x0>=1 and updates x0 and x1 as given
abbrev pub two_clocks : ClockUpdate → ClockUpdate → Model
two_clocks u v = record {
  locations = 2;
  initial = 0;
  target = 1;
  clocks = 2;
  vars = 0;
  counters = replicate 4 blank_counter;
  invariants = replicate 16 blank_invariant;
  used = 1;
  edges = record {
    source = 0;
    target = 1;
    label = 0;
    guard = on_clock 0 GreaterEqual 1;
    updates = replicate 4 blank_update;
    order = replicate 4 0;
    resets = u ∷ v ∷ replicate 2 blank_reset;
  } ∷ replicate 31 blank_edge;
}

-- an edge with this label
abbrev pub labelled : ℕ → Edge → Edge
labelled n e = record {
  source = e.source;
  target = e.target;
  label = n;
  guard = e.guard;
  updates = e.updates;
  order = e.order;
  resets = e.resets;
}

-- B with these labels on its edges
abbrev pub labelled_b : ℕ → ℕ → ℕ → Model
labelled_b a b c = record {
  locations = model_b.locations;
  initial = model_b.initial;
  target = model_b.target;
  clocks = model_b.clocks;
  vars = model_b.vars;
  counters = model_b.counters;
  invariants = model_b.invariants;
  used = model_b.used;
  edges = labelled a (edge_at model_b 0) ∷ labelled b (edge_at model_b 1) ∷ labelled c (edge_at model_b 2) ∷ replicate 29 blank_edge;
}

-- ---- texts
-- a row: the bytes of a text, and what is told of it
pub record Reading : Type 0 where
  pub text : List ℕ
  pub report : ReadReport

-- what is told of these bytes
abbrev pub reading : List ℕ → ReadReport → Reading
reading t r = record { text = t; report = r }

-- these lines are read as this model
abbrev pub lines_accepted : List String → Model → Reading
lines_accepted t m = reading (text_of t) (read_accepted m)

-- these lines are refused with this number at this line
abbrev pub lines_refused : List String → ℕ → ℕ → Reading
lines_refused t number line = reading (text_of t) (read_refused number line)

-- line n becomes each of these, and is refused with the number beside it
abbrev pub line_refused : List String → ℕ → List (String × ℕ) → List Reading
line_refused t n [] = []
line_refused t n (s ∷ l) = lines_refused (with_line n s.0 t) s.1 n ∷ line_refused t n l

-- every text is read as its row says
abbrev pub EachRead : List Reading → Type 0
EachRead [] = Unit {0}
EachRead (r ∷ l) = (read_report r.text ≡ r.report) × EachRead l

-- texts that are read
unfoldable pub accepted : List Reading
accepted =
    lines_accepted text_a model_a ∷
    lines_accepted text_b model_b ∷
    -- the greatest label, in the first edge
    lines_accepted (with_line 14 "label=15" text_b) (labelled_b 15 0 0) ∷
    -- each edge has the label of its own line
    lines_accepted (with_line 14 "label=1" (with_line 20 "label=10" (with_line 26 "label=1" text_b))) (labelled_b 1 10 1) ∷
    -- the order of the record is the text's
    lines_accepted (with_line 15 "set=v0:=v0+1,v1:=v0+0" counters_text) (two_counters (Sum 0 (pos 1)) (Sum 0 (pos 0)) (0 ∷ 1 ∷ 0 ∷ 0 ∷ [])) ∷
    -- set items come in any order of counters
    lines_accepted (with_line 15 "set=v1:=v0+0,v0:=v0+1" counters_text) (two_counters (Sum 0 (pos 1)) (Sum 0 (pos 0)) (1 ∷ 0 ∷ 0 ∷ 0 ∷ [])) ∷
    -- each counter is the other's source
    lines_accepted (with_line 15 "set=v0:=v1+0,v1:=v0+0" counters_text) (two_counters (Sum 1 (pos 0)) (Sum 0 (pos 0)) (0 ∷ 1 ∷ 0 ∷ 0 ∷ [])) ∷
    -- v0:=v0+0 is no keep; one counter set, v0, has the blank order
    lines_accepted (with_line 15 "set=v0:=v0+0" counters_text) (two_counters (Sum 0 (pos 0)) Keep (replicate 4 0)) ∷
    -- two clocks reset
    lines_accepted (with_line 14 "reset=x0,x1" clocks_text) (two_clocks Reset Reset) ∷
    -- a clock reset, and copied by the other
    lines_accepted (with_line 14 "reset=x0,x1:=x0" clocks_text) (two_clocks Reset (Copy 0)) ∷
    -- each clock is the other's source
    lines_accepted (with_line 14 "reset=x0:=x1,x1:=x0" clocks_text) (two_clocks (Copy 1) (Copy 0)) ∷
    -- a clock that copies itself stays a copy
    lines_accepted (with_line 14 "reset=x0:=x0" clocks_text) (two_clocks (Copy 0) Unchanged) ∷
    -- a copy alone
    lines_accepted (with_line 14 "reset=x1:=x0" clocks_text) (two_clocks Unchanged (Copy 0)) ∷
    []

-- texts that are refused
unfoldable pub refused : List Reading
refused =
    -- bytes left: the line after the last
    reading (text_of text_a ++ ascii "x") (read_refused 8 15) ∷
    -- no LF at the end of the last line
    reading (without_last (text_of text_a)) (read_refused 2 14) ∷
    -- the empty text
    reading [] (read_refused 2 1) ∷
    -- the label line of the second edge missing; all label lines missing
    lines_refused (without_line 20 text_b) 2 20 ∷
    lines_refused (without_line 14 (without_line 20 (without_line 26 text_b))) 2 14 ∷
    -- 0 and 17 locations; a number of three digits, one of four, one with a leading zero
    line_refused text_a 1 (("locations=0", 4) ∷ ("locations=17", 4) ∷ ("locations=999", 4) ∷ ("locations=1000", 3) ∷ ("locations=02", 3) ∷ []) ++
    -- another key is due; a reference meets 5, never 4
    line_refused text_a 2 (("target=0", 2) ∷ ("init=999", 5) ∷ []) ++
    -- an undeclared target
    line_refused text_a 3 (("target=2", 5) ∷ []) ++
    -- no =
    line_refused text_a 4 (("clocks0", 2) ∷ []) ++
    -- a hyphen where a number is due; CR is part of the value
    line_refused text_a 5 (("vars=-", 3) ∷ ("vars=0\r", 3) ∷ []) ++
    -- an empty value
    line_refused text_a 6 (("inv=", 3) ∷ []) ++
    -- 33 edges
    line_refused text_a 8 (("edges=33", 4) ∷ []) ++
    -- initial above greatest, greatest above 31; one number, three numbers
    line_refused text_b 6 (("var=1,2", 4) ∷ ("var=32,0", 4) ∷ ("var=1", 3) ∷ ("var=1,0,0", 3) ∷ []) ++
    line_refused text_b 8 (
    -- a clock constant of 31
    ("inv=x0<=31", 4) ∷
    -- five atoms; with an undeclared clock and a constant out of range; with a malformed atom
    ("inv=x0<=3,x0<=3,x0<=3,x0<=3,x0<=3", 7) ∷ ("inv=x7<31,x0<=3,x0<=3,x0<=3,x0<=3", 7) ∷ ("inv=x0<=3,x0<=3,x0<=3,x0<=3,x0", 3) ∷
    -- a counter in inv
    ("inv=x0<=31,v9=1", 3) ∷ []) ++
    line_refused text_b 14 (
    -- a label above 15 meets 4, never 5
    ("label=16", 4) ∷ ("label=999", 4) ∷
    -- four digits, a leading zero, a hyphen, nothing, no number
    ("label=1000", 3) ∷ ("label=015", 3) ∷ ("label=-", 3) ∷ ("label=", 3) ∷ ("label=x1", 3) ∷
    -- another key is due
    ("when=-", 2) ∷ ("Label=1", 2) ∷ []) ++
    -- a clock reset twice; an undeclared clock reset
    line_refused text_b 17 (("reset=x0,x0", 6) ∷ ("reset=x1,x0", 5) ∷ []) ++
    line_refused text_b 21 (
    -- != on a clock
    ("when=x0!=2", 3) ∷
    -- out of range before undeclared; undeclared
    ("when=v9<40", 4) ∷ ("when=v1!=31", 5) ∷
    -- a clock of two digits with a leading zero, of four digits, of three
    ("when=x00<=2", 3) ∷ ("when=x1000<=2", 3) ∷ ("when=x999<=2", 5) ∷
    -- a hyphen beside items
    ("when=-,x0<=2", 3) ∷ []) ++
    line_refused text_b 22 (
    -- offset -0, no offset, offset -32, constant 32
    ("set=v0:=v0-0", 3) ∷ ("set=v0:=v0", 3) ∷ ("set=v0:=v0-32", 4) ∷ ("set=v0:=32", 4) ∷
    -- a counter set twice, one after the other; five items meet 6, not 7
    ("set=v0:=1,v0:=0", 6) ∷ ("set=v0:=1,v0:=0,v0:=0,v0:=0,v0:=0", 6) ∷ []) ++
    -- a label above 15 in the last edge
    line_refused text_b 26 (("label=16", 4) ∷ []) ++
    line_refused counters_text 15 (
    -- a set item not of its form; 3 before 6, 4 before 6, 5 before 6
    ("set=v1:=1,v0:=1,x", 3) ∷ ("set=v1:=1,v1:=1,x", 3) ∷ ("set=v0:=1,v1:=1,v0:=1,v1:=1,v0:=32", 4) ∷ ("set=v1:=1,v1:=v9+0", 5) ∷
    -- a counter set twice, with another between
    ("set=v1:=1,v0:=1,v1:=0", 6) ∷ []) ++
    line_refused clocks_text 14 (
    -- a clock reset after one with a greater number became a copy; a clock that becomes a copy and is reset
    ("reset=x1:=x0,x0", 6) ∷ ("reset=x0:=x1,x0", 6) ∷
    -- an undeclared clock copied, also of three digits; one that becomes a copy; 5 before 6
    ("reset=x0:=x2", 5) ∷ ("reset=x0:=x999", 5) ∷ ("reset=x2:=x0", 5) ∷ ("reset=x1:=x0,x0:=x9", 5) ∷
    -- a clock copied of four digits, one with a leading zero
    ("reset=x0:=x1000", 3) ∷ ("reset=x0:=x01", 3) ∷
    -- nothing after the comma, nothing after :=, no number of the clock copied, none of the clock set
    ("reset=x0:=x1,", 3) ∷ ("reset=x0:=", 3) ∷ ("reset=x0:=x", 3) ∷ ("reset=x:=x0", 3) ∷
    -- a clock set to a constant, to a sum, to a counter; a copy of a copy
    ("reset=x0:=0", 3) ∷ ("reset=x0:=x1+0", 3) ∷ ("reset=x0:=v0", 3) ∷ ("reset=x0:=x1:=x0", 3) ∷
    -- = alone, : alone
    ("reset=x0=x1", 3) ∷ ("reset=x0:x1", 3) ∷ [])

-- ---- bound lines
pub record BoundReading : Type 0 where
  pub text : String
  pub report : BoundReport

abbrev pub bound : String → BoundReport → BoundReading
bound t r = record { text = t; report = r }

abbrev pub EachBound : List BoundReading → Type 0
EachBound [] = Unit {0}
EachBound (r ∷ l) = (bound_report (ascii r.text) ≡ r.report) × EachBound l

unfoldable pub bounds : List BoundReading
bounds =
    -- A bound
    bound "bound=64\nx" (bound_accepted 64 9) ∷
    -- no LF
    bound "bound=64" bound_refused ∷
    -- four digits
    bound "bound=1000\n" bound_refused ∷
    -- a leading zero
    bound "bound=064\n" bound_refused ∷
    -- another key
    bound "bounds=6\n" bound_refused ∷
    []
