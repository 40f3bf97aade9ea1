-- `shape_of`, field by field; ceiling, state and choices are those of `totals`.
use Rattle.model.proofs.FormLaws.{ceiling_of_totals, state_of_totals, choices_of_totals}
use Rattle.wirdoku.proofs.calls.shape_of.Goals as goal

pub returns : goal.returns
returns c =
    let totals-ensures = c.totals-z.ensures in
    let m = c.args.m in
    λ i. record {
      number = 0;
      line = 0;
      locations = m.locations;
      initial = m.initial;
      target = m.target;
      clocks = m.clocks;
      counters = m.vars;
      edges = m.used;
      ceiling = ceiling_of_totals _ _ totals-ensures i;
      state = state_of_totals _ _ totals-ensures i;
      choices = choices_of_totals _ _ totals-ensures i;
    }
