-- `atom_count`: the slots that are not blank, by the index.
use Rattle.std.proofs.Common.{rules, tests, not, cond, arith, ◌∙◌, ◌≡◌, Bool, true, false, ℕ, refl}
use Rattle.std.proofs.lemmas.Iterator.{YieldsList-from_slice}
use Rattle.std.proofs.lemmas.Iterator.Consumers.{count_from_yields_List, YieldsList-from_filter}
use Rattle.std.proofs.lemmas.List.Sums.{length-filter}
use Rattle.model.specs.Form.{is_blank}
use Rattle.model.specs.Record.{blank_atom, atom_at}
use Rattle.model.proofs.ByIndex.{sum_by_index}
use Rattle.model.proofs.IndexedLaws.{sum_same}
use Rattle.compose.specs.Joined.{atom_count}
use Rattle.compose.proofs.JoinedLaws.{atom_count_le}
use Rattle.compose.proofs.joined.atom_count.Goals as goal

one_or_none : (b : Bool) → ◌≡◌ {A = ℕ} (cond (not b) 1 0) (cond b 0 1)
one_or_none true = refl
one_or_none false = refl

pub returns : goal.returns
unfolding atom_count
returns c =
    let atoms = c.args.atoms in
    let g = count_from_yields_List _ _ c.count.ensures.ran
    (YieldsList-from_filter _ (λ x. not (is_blank x)) (YieldsList-from_slice atoms cc) c.filter.ensures.closure (λ x r q k. search (rules, tests))) in
    let is : c.count.result ≡ atom_count atoms =
    g ∙ length-filter (λ x. not (is_blank x)) atoms ∙ rw c.well_formed.0.1.0.1 at (sum_by_index blank_atom (λ x. cond (not (is_blank x)) 1 0) atoms)
    ∙ sum_same (λ k. cond (not (is_blank (atom_at atoms k))) 1 0) (λ k. cond (is_blank (atom_at atoms k)) 0 1) 4
    (λ k l. one_or_none (is_blank (atom_at atoms k))) in
    (is, omega (arith, is, atom_count_le atoms))
