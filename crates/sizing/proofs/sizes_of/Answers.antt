-- `sizes_of`: 9, or what `read_sizes` says of the text after the bound line.
use Rattle.std.proofs.Common.{length, ◌∙◌}
use Rattle.text.proofs.Calls.{no_bound, after_bound}
use Rattle.sizing.specs.SizeCall.{refused_sizes, text_sizes, text_left, size_report, size_left}
use Rattle.sizing.proofs.sizes_of.Goals as goal

pub returns-in-Some : goal.returns-in-Some
unfolding size_report size_left
returns-in-Some c =
    let a = c.args in
    record {
      result_value = c.read_sizes.ensures.0
          ∙ after_bound (λ k r. text_sizes r k (length a.out.now)) (λ n. refused_sizes n 0) a.input.now c.read_item-item.result
          c.read_item-item.ensures c.in-Some.is;
      out_after = c.read_sizes.ensures.1
          ∙ after_bound (λ k r. text_left r k a.out.now) (λ n. a.out.now) a.input.now c.read_item-item.result c.read_item-item.ensures c.in-Some.is;
    }

pub returns-in-None : goal.returns-in-None
unfolding size_report size_left
returns-in-None c =
    let a = c.args in
    record {
      result_value = c.refused.ensures
          ∙ no_bound (λ k r. text_sizes r k (length a.out.now)) (λ n. refused_sizes n 0) a.input.now c.read_item-item.result
          c.read_item-item.ensures c.in-None.is;
      out_after = no_bound (λ k r. text_left r k a.out.now) (λ n. a.out.now) a.input.now c.read_item-item.result c.read_item-item.ensures c.in-None.is;
    }
