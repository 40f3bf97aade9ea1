-- `read_output`: the first pass stands if no variable is named again, and else the pass that ends there; variables are cut off at `most` and one.
use mathlib.Core.Path.{◌≡◌, sym, ap, ◌∙◌}
use mathlib.Core.List.{List, [], foldl}
use Prim.Native.Nat.{ℕ}
use native.Mathlib.Omega.{arith}
use lib.ListN.{take}
use Rattle.output.specs.Tokens.{tokens_of, literals_in}
use Rattle.output.specs.Counting.{counted_from, no_reading, count, literal_up_to}
use Rattle.output.specs.Placing.{fresh_after, literals_of}
use Rattle.output.specs.declared.reading.Reading.{Reading}
use Rattle.output.proofs.CapLaws.{judged_cut}
use Rattle.output.proofs.CountLaws.{stands, again}
use Rattle.output.proofs.LiteralLaws.{counted_same}
use Rattle.output.proofs.read_output.Goals as goal

-- the literals that were looked at are those counted by the first pass
looked : (most n : ℕ) (text : List ℕ) (first : Reading)
    → first ≡ foldl (count most most) no_reading (tokens_of (literal_up_to most) text)
    → n ≡ fresh_after [] (take first.named (literals_of (literal_up_to most) text))
    → n ≡ fresh_after [] (take first.named (literals_in (tokens_of (literal_up_to most) text)))
looked most n text first e h =
    let many = ap (λ (r : Reading). r.named) e in
    let same = counted_same most most (literal_up_to most) text first.named no_reading (omega (arith, many)) in
    h ∙ ap (fresh_after []) (sym same)

pub returns-then-fresh-first : goal.returns-then-fresh-first
returns-then-fresh-first c =
    let args = c.args in
    let most = args.variables.most in
    let first = c.read_through-first.ensures in
    let ts = tokens_of (literal_up_to most) args.text.now in
    let same = ap counted_from (sym (judged_cut most args.text.now)) in
    (stands most ts first.0 (looked most _ args.text.now _ first.0 c.fresh-fresh.ensures) c.if-fresh-first.true ∙ same, first.1)

pub returns-else-fresh-first : goal.returns-else-fresh-first
returns-else-fresh-first c =
    let args = c.args in
    let most = args.variables.most in
    let first = c.read_through-first.ensures in
    let second = c.read_through.ensures in
    let ts = tokens_of (literal_up_to most) args.text.now in
    let same = ap counted_from (sym (judged_cut most args.text.now)) in
    (again most ts first.0 (looked most _ args.text.now _ first.0 c.fresh-fresh.ensures) c.if-fresh-first.false second.0 ∙ same, second.1)
