-- `read_through`: each turn of the loop judges a line. The invariant is `Passing`: what is left, judged from here, comes to the whole text; and that
-- no more lines were judged than bytes passed. A fault ends it, since no token changes a reading with a fault.
use Prim.Native.Nat.{ℕ, ◌+◌, ◌<◌, ◌≤◌}
use mathlib.Core.Path.{◌≡◌, sym, ap, ◌∙◌}
use mathlib.Core.Bool.{false}
use mathlib.Core.List.{List, ◌∷◌, foldl}
use native.Mathlib.Omega.{arith}
use lib.ListN.{length}
use Rattle.std.specs.Prelude.{None}
use Rattle.std.proofs.lemmas.Grind.{common_steps}
use Rattle.text.specs.bytes.Bytes.{split_on}
use Rattle.output.specs.Tokens.{line_tokens, part_tokens, tokens_of}
use Rattle.output.specs.OutputCall.{is_no_fault}
use Rattle.output.specs.Counting.{literal_up_to, no_reading, count}
use Rattle.output.specs.declared.reading.Reading.{Reading}
use Rattle.output.proofs.TokenLaws.{tokens_by_line, last_none, last_some, fault_stays, line_grows, one_line}
use Rattle.output.proofs.TokenLaws.{Passing, pass_none, pass_last, pass_more, pass_stays}
use Rattle.output.proofs.reading.read_through.Goals as goal

-- a line more
turned : (text : List ℕ) (most limit : ℕ) (before after : Reading) (rest line left : List ℕ)
    → Passing (count most limit) (part_tokens (literal_up_to most)) no_reading text before rest × (before.line + length rest ≤ length text)
    → (split_on 10 rest ≡ line ∷ split_on 10 left) × (length rest ≡ length line + length left + 1)
    → after ≡ foldl (count most limit) before (line_tokens (literal_up_to most) line)
    → Passing (count most limit) (part_tokens (literal_up_to most)) no_reading text after left × (after.line + length left ≤ length text)
turned text most limit before after rest line left v cut r =
    let number = ap (λ (r : Reading). r.line) r in (
      pass_more v.0 (tokens_by_line _) cut.0 r,
      omega (arith, number, one_line most limit (literal_up_to most) line before, v.1, cut.1),
    )

pub loop-line-init : goal.loop-line-init
loop-line-init c = (pass_none, omega arith)

pub loop-line-preserved : goal.loop-line-preserved
loop-line-preserved c =
    let a = c.args in
    turned a.text.now a.variables.most a.limit c.loop-line.r _ _ _ _ c.loop-line.invariant c.in-Some.ensures c.judge_whole_line-r.ensures

pub returns-then-has_ended : goal.returns-then-has_ended
unfolding tokens_of
returns-then-has_ended c =
    let a = c.args in
    let r = c.judge_whole_line-r.result in
    let fault : is_no_fault r.fault ≡ false = grind (arith, common_steps) in
    let after = turned a.text.now a.variables.most a.limit c.loop-line.r _ _ _ _ c.loop-line.invariant c.in-Some.ensures c.judge_whole_line-r.ensures in
    (pass_stays after.0 (fault_stays a.variables.most a.limit r fault), omega (arith, after.1))

pub returns-then-is_empty : goal.returns-then-is_empty
unfolding tokens_of
returns-then-is_empty c =
    let loop = c.loop-line in
    let a = c.args in
    let nothing = ap (foldl (count a.variables.most a.limit) loop.r) (sym (last_none loop.rest.now (grind (arith, common_steps)))) in
    (nothing ∙ pass_last loop.invariant.0 (tokens_by_line _) c.in_default.ensures, omega (arith, loop.invariant.1))

pub returns-else-is_empty : goal.returns-else-is_empty
unfolding tokens_of
returns-else-is_empty c =
    let loop = c.loop-line in
    let a = c.args in
    let long : 0 < length loop.rest.now = grind (arith, common_steps) in
    let some = ap (foldl (count a.variables.most a.limit) loop.r) (sym (last_some loop.rest.now (λ h. omega (arith, h, long)))) in
    let number = ap (λ (r : Reading). r.line) c.judge_line.ensures in (
      c.judge_line.ensures ∙ some ∙ pass_last loop.invariant.0 (tokens_by_line _) c.in_default.ensures,
      omega (arith, number, line_grows None loop.r, loop.invariant.1, long),
    )
