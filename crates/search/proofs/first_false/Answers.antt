-- first_false: the error of the check of the whole list.
use Rattle.std.proofs.Common.{ap, ◌∙◌}
use Rattle.model.specs.declared.Model.{Model}
use Rattle.list.specs.Clauses.{clauses}
use Rattle.list.specs.Assignments.{first_false}
use Rattle.search.proofs.Told.{found}
use Rattle.search.proofs.first_false.Goals as goal

pub returns : goal.returns
returns c =
    c.err.ensures.value ∙ found c.check_list.ensures ∙ ap (λ (m : Model). first_false c.args.a.now (clauses m c.args.bound)) c.new.ensures
