-- `program_sizes`: `sizes_of` with the program's words.
use Rattle.std.specs.Prelude.{ℤ, pos}
use Rattle.std.proofs.lemmas.List.{length-replicate}
use Rattle.sizing.proofs.SizeLaws.{program_is}
use Rattle.sizing.proofs.program_sizes.Goals as goal

pub returns : goal.returns
returns c = program_is c.args.input.now _ (length-replicate {A = ℤ} 16384 (pos 0)) _ c.sizes_of.ensures.result_value
