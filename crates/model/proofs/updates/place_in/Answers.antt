-- `place_in`: the first place, or the length where there is none.
use Rattle.std.proofs.Common.{rules, tests, arith, ◌∙◌, ap, ◌≡◌, ℕ, cond, Some, None, ltb, ◌≤◌}
use Rattle.std.specs.Option.{unwrap_or}
use Rattle.std.specs.Prelude.{Option}
use Rattle.std.proofs.lemmas.Grind.{common_steps}
use Rattle.std.proofs.lemmas.Iterator.{YieldsList-from_slice}
use Rattle.std.proofs.lemmas.Iterator.Search.{position_from_yields_List}
use Rattle.model.specs.Automaton.{place_in}
use Rattle.model.proofs.IndexedLaws.{first_law}
use Rattle.model.proofs.ByIndex.{first_by_index}
use Rattle.model.proofs.updates.place_in.Goals as goal
use lib.Dec.{eqb}

-- the place of the first, or the length where there is none
or_length : (k n : ℕ) → k ≤ n → unwrap_or (cond (ltb k n) (Some k) None) n ≡ k
or_length k n h = grind (arith, common_steps)

pub returns : goal.returns
unfolding place_in
returns c =
    let a = c.args in
    let long = c.well_formed.0.1.0.1 in
    let h = position_from_yields_List (λ x. eqb x a.counter) _ _ _ c.position.ensures.ran (YieldsList-from_slice a.order cc)
    (λ x b q k. search (rules, tests)) in
    let place = rw long at (first_by_index 0 (λ x. eqb x a.counter) a.order) in
    c.unwrap_or.ensures ∙ ap (λ (o : Option ℕ). unwrap_or o 4) (rw (long, place) at h) ∙ or_length _ 4 (first_law _ 4).within
