-- `text_sizes`: what `read_sizes` says of what was read is said of the text.
use Rattle.sizing.proofs.SizeLaws.{sizes_as}
use Rattle.sizing.proofs.text_sizes.Goals as goal

pub returns : goal.returns
returns c = sizes_as _ _ c.read_model.ensures c.args.bound c.args.out.now _ _ c.read_sizes.ensures
