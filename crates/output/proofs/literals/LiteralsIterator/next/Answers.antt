-- `next`: the first of the words that are left is read, and the others are left.
use mathlib.Core.Path.{◌≡◌, sym, ap, ◌∙◌}
use mathlib.Core.Bool.{not}
use mathlib.Core.List.{◌∷◌, map}
use native.Mathlib.Omega.{arith}
use lib.ListN.{length}
use Rattle.std.proofs.lemmas.Grind.{common_steps}
use Rattle.text.specs.bytes.Bytes.{split_on}
use Rattle.output.specs.Literals.{has_minus}
use Rattle.output.specs.Counting.{literal_up_to, words_left, literals_left}
use Rattle.output.proofs.WordLaws.{begins_minus, word_read}
use Rattle.output.proofs.literals.LiteralsIterator.next.Goals as goal
use Rattle.output.proofs.literals.LiteralsIterator.next.Goals.{After-starts_with}

-- what is read, and what is left
read : (c : After-starts_with) → literals_left c.args.self.now
    ≡ record { variable = c.number-variable.result.0; bare = not c.starts_with.result }
    ∷ map (literal_up_to c.args.self.now.variables.most) (words_left c.number-variable.result.1)
read c =
    let w = c.in_ok-words.words.now in
    let most = c.args.self.now.variables.most in
    let n = c.number-variable.ensures in
    let minus : c.starts_with.result ≡ has_minus w = c.starts_with.ensures.value ∙ begins_minus w in
    let parts = ap (split_on 32) (sym c.unsigned.ensures) ∙ n.1 in
    let whole = word_read most w c.number-variable.result.0 n.0 (words_left c.number-variable.result.1) parts n.2 in
    ap (λ ws. map (literal_up_to most) (words_left ws)) c.in_ok-words.was ∙ rw minus whole

pub returns-clause-steps : goal.returns-clause-steps
returns-clause-steps c = read c

pub returns-clause-goes : goal.returns-clause-goes
returns-clause-goes c = let fewer = ap length (read c) in grind (arith, common_steps)
