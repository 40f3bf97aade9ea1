-- check_initial: the first groups stand at their initial values.
use Rattle.std.proofs.Common.{arith, ap, ◌∙◌, ◌≡◌, ℕ, ◌+◌, List, [], ◌∷◌, Bool}
use Rattle.list.specs.Assignments.{bit, clause_true}
use Rattle.list.specs.Clauses.{bare}
use Rattle.parts.proofs.KnownLaws.{at_most_nine, initial_piece_of, known_initial}
use Rattle.parts.proofs.LayoutLaws.{known_of_layout}
use Rattle.parts.specs.StateBlock.{first_at}
use Rattle.search.proofs.CheckLaws.{checked_as, checked_one, one_true, stopped, upto_done, upto_failed, upto_next, upto_none}
use Rattle.search.proofs.pieces.check_initial.Goals as goal

-- the truth of the clause that is looked at
looked : (a : List ℕ) (first : ℕ) {v w : ℕ} {p : Bool} → p ≡ bit a (first + v) → v ≡ w → p ≡ clause_true a (bare (first + w) ∷ [])
looked a first {v} {w} e f = one_true a (bare (first + w)) (e ∙ ap (λ (n : ℕ). bit a (first + n)) f)

pub loop-g-init : goal.loop-g-init
loop-g-init c = upto_none

pub offset_bounds-b-g : goal.offset_bounds-b-g
offset_bounds-b-g c = record { fits = omega (arith, at_most_nine (known_of_layout c.args.layout.now), c.loop-g-test.true) }

pub bounds-b-g : goal.bounds-b-g
bounds-b-g c = omega (arith, at_most_nine (known_of_layout c.args.layout.now), c.loop-g-test.true)

pub is_true-requires : goal.is_true-requires
is_true-requires c =
    omega (arith, known_initial (known_of_layout c.args.layout.now) c.loop-g.g c.loop-g-test.true, c.initial_value.ensures, c.requires.0)

pub counted-requires : goal.counted-requires
counted-requires c =
    omega (arith, c.loop-g.invariant.few, c.loop-g-test.true, at_most_nine (known_of_layout c.args.layout.now), c.requires.1)

pub returns-in_err-count : goal.returns-in_err-count
returns-in_err-count c =
    let k = known_of_layout c.args.layout.now in
    let seen = looked c.args.a.now (first_at c.args.layout.now.table c.loop-g.g) c.is_true.ensures c.initial_value.ensures in
    stopped c.from_residual.ensures.1
    (checked_as (initial_piece_of k)
    (upto_failed c.loop-g.invariant 9 c.loop-g-test.true (checked_one _ _ _ c.in_err-count.ensures seen)
    (omega (arith, c.loop-g-test.true, at_most_nine k))))

pub loop-g-preserved : goal.loop-g-preserved
loop-g-preserved c =
    let seen = looked c.args.a.now (first_at c.args.layout.now.table c.loop-g.g) c.is_true.ensures c.initial_value.ensures in
    upto_next c.loop-g.invariant c.loop-g-test.true (checked_one _ _ _ c.in_ok-count.ensures seen)

pub returns : goal.returns
returns c =
    let k = known_of_layout c.args.layout.now in
    checked_as (initial_piece_of k) (upto_done c.loop-g.invariant 9 c.loop-g-test.false (omega (arith, c.loop-g.invariant.le, at_most_nine k)))
