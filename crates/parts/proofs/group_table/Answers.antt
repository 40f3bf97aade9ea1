-- `group_table`: the first blocks are those of the definition; a group begins where the one before ends.
use Rattle.std.proofs.Common.{arith, refl, ap, sym, ◌≡◌, ◌∙◌, ℕ, ◌+◌, ◌<◌, length}
use Rattle.std.proofs.lemmas.List.{length-set}
use Rattle.list.specs.Clauses.{one_hot_width}
use Rattle.list.specs.Items.{offset}
use Rattle.model.proofs.FormLaws.{formed, ceiling_of_totals, state_of_totals, choices_of_totals}
use Rattle.model.proofs.Filled.{filled, whole}
use Rattle.model.proofs.IndexedLaws.{list_none}
use Rattle.parts.specs.StateBlock.{component_at, group_at, group_table}
use Rattle.parts.proofs.GroupLaws.{begins_next}
use Rattle.parts.proofs.group_table.Goals as goal

pub overflow_cast-top : goal.overflow_cast-top
overflow_cast-top c =
    record { fits = omega (arith, ceiling_of_totals _ _ c.requires.1, (formed _ c.requires.0).ceiling_le) }

pub loop-g-init : goal.loop-g-init
loop-g-init c = record { long = refl; sum_le = omega arith; sum_is = refl; blocks_are = sym (list_none _) }

pub group_size-n-requires : goal.group_size-n-requires
group_size-n-requires c = (c.requires.0, ceiling_of_totals _ _ c.requires.1)

pub overflow_add-sum : goal.overflow_add-sum
overflow_add-sum c = record { fits = omega (arith, c.loop-g.invariant.sum_le, c.loop-g-test.true, c.group_size-n.ensures.1) }

pub loop-g-preserved : goal.loop-g-preserved
loop-g-preserved c =
    let v = c.loop-g.invariant in
    let g = c.loop-g.g in
    let m = c.args.m.now in
    let size = c.group_size-n in
    let begins : ℕ → ℕ = λ n. offset one_hot_width m (component_at m g) + n in
    let here : g < length c.loop-g.block-items = omega (arith, v.long, c.loop-g-test.true) in
    record {
      long = length-set _ _ _ ∙ v.long;
      sum_le = omega (arith, v.sum_le, size.ensures.1);
      sum_is = ap (λ (n : ℕ). n + size.result) v.sum_is ∙ ap begins size.ensures.0 ∙ sym (begins_next m g);
      blocks_are = filled (group_at m) _ g _ here v.blocks_are (λ k. record { first = v.sum_is k; size = size.ensures.0 k });
    }

pub returns : goal.returns
unfolding group_table
returns c =
    let m = c.args.m.now in
    let at : c.loop-g.g ≡ 9 = omega (arith, c.loop-g-test.false, c.loop-g.auto.g-end) in
    let blocks = whole (group_at m) _ c.loop-g.invariant.long (rw at at c.loop-g.invariant.blocks_are) in
    λ k. record {
      groups = 1 + m.vars + m.clocks;
      blocks = blocks k;
      counters = m.counters;
      vars = m.vars;
      top = ceiling_of_totals m _ c.requires.1 k;
      state = state_of_totals m _ c.requires.1 k;
      choices = choices_of_totals m _ c.requires.1 k;
    }
