-- has_file: the tests of the record and the bound refuse nothing.
use Rattle.std.proofs.Common.{ap, ◌∙◌, is_ok}
use Rattle.dimacs.proofs.PrintLaws.{has_is}
use Rattle.dimacs.proofs.has_file.Goals as goal

pub returns : goal.returns
returns c = c.is_ok.ensures.value ∙ ap is_ok c.check_bound.ensures ∙ has_is c.args.m c.args.bound
