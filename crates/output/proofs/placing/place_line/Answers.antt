-- `place_line`: what is left to place, placed from here, comes to all placed from the first state; without the key there is no literal.
use mathlib.Core.Path.{sym, ap, ◌∙◌}
use Rattle.text.specs.bytes.Ascii.{ascii}
use Rattle.output.specs.Lines.{words_of}
use mathlib.Core.List.{foldl}
use Rattle.output.specs.Counting.{literals_left}
use Rattle.output.specs.Placing.{Marking, marking, placed, line_literals}
use Rattle.output.proofs.LiteralLaws.{left_is}
use Rattle.output.proofs.LineLaws.{stripped}
use Rattle.output.proofs.placing.place_line.Goals as goal

pub returns-in_default : goal.returns-in_default
unfolding line_literals
returns-in_default c = rw (stripped (ascii "v ") c.args.l.now c.in_default.ensures.cases)

pub loop-literal-preserved : goal.loop-literal-preserved
loop-literal-preserved c =
    let loop = c.loop-literal in
    let low = c.args.low in
    let left = literals_left c.next.new.self in
    ap (λ (m : Marking). foldl (placed low) m left) c.place-p.ensures
    ∙ sym (ap (foldl (placed low) (marking loop.p loop.marks)) c.in-Some-literal.ensures.steps) ∙ loop.invariant

pub returns : goal.returns
unfolding line_literals words_of
returns c =
    let loop = c.loop-literal in
    let low = c.args.low in
    let e = c.in-Some.ensures.cases in
    let new = c.new-literal-items in
    let all = ap literals_left c.into_iter-literal-iterator.ensures.into_iter_gives ∙ left_is new.result new.ensures.0 new.ensures.1 in
    rw (stripped (ascii "v ") c.args.l.now e.0, sym e.1)
    (sym (ap (foldl (placed low) (marking loop.p loop.marks)) c.in-None.ensures.steps.0) ∙ loop.invariant
    ∙ ap (foldl (placed low) (marking c.args.first c.args.marks.now)) all)
