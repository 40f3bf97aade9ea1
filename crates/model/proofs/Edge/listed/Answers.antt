-- `listed`: how many updates pass the test, one for each slot that is not keep.
use Rattle.std.proofs.Common.{rules, tests, not, cond, ◌∙◌, ◌≡◌, Bool, true, false, ℕ, refl}
use Rattle.std.proofs.lemmas.Iterator.{YieldsList-from_slice}
use Rattle.std.proofs.lemmas.Iterator.Consumers.{count_from_yields_List, YieldsList-from_filter}
use Rattle.std.proofs.lemmas.List.Sums.{length-filter}
use Rattle.model.specs.Automaton.{listed, is_keep}
use Rattle.model.specs.Record.{blank_update, update_at}
use Rattle.model.proofs.ByIndex.{sum_by_index}
use Rattle.model.proofs.IndexedLaws.{sum_same}
use Rattle.model.proofs.Known.{updates_long}
use Rattle.model.proofs.Edge.listed.Goals as goal

one_or_none : (b : Bool) → ◌≡◌ {A = ℕ} (cond (not b) 1 0) (cond b 0 1)
one_or_none true = refl
one_or_none false = refl

pub returns : goal.returns
unfolding listed
returns c =
    let e = c.args.self in
    let g = count_from_yields_List _ _ c.count.ensures.ran
    (YieldsList-from_filter _ (λ u. not (is_keep u)) (YieldsList-from_slice e.updates cc) c.filter.ensures.closure (λ x r q k. search (rules, tests))) in
    g
    ∙ length-filter (λ u. not (is_keep u)) e.updates
    ∙ rw (updates_long e _ c.well_formed.0) at (sum_by_index blank_update (λ u. cond (not (is_keep u)) 1 0) e.updates)
    ∙ sum_same (λ i. cond (not (is_keep (update_at e i))) 1 0) (λ i. cond (is_keep (update_at e i)) 0 1) 4 (λ i l. one_or_none (is_keep (update_at e i)))
