-- `new`: a well-formed model has at most 4 clocks, 4 counters and 16 locations.
use Rattle.model.proofs.FormLaws.{formed}
use Rattle.compose.proofs.Fronts.{form_of}
use Rattle.compose.proofs.joined.Shift.new.Goals as goal

pub invariant_of-result : goal.invariant_of-result
invariant_of-result c =
    let v = formed c.args.a.now.model (form_of c.args.a.now) in
    let w = formed c.args.b.now.model (form_of c.args.b.now) in
    record { clocks_le = v.clocks_le; vars_le = v.vars_le; locations_le = w.locations_le }
