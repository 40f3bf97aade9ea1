-- One word is stored.
use Rattle.std.proofs.Common.{arith, rules, refl}
use Rattle.buffer.proofs.BufferLaws.{wrote_one}
use Rattle.emission.proofs.ClauseLaws.{stored}
use Rattle.emission.proofs.words.put_word.Goals as goal

pub returns : goal.returns
returns c = rw (stored c.args.word refl (search rules)) (wrote_one _ _ _ (omega (arith, c.requires.room)))
