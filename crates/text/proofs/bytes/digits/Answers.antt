-- `digits`: what the chain counts is the length of the first digits.
use Rattle.std.proofs.Common.{arith, rules, tests, ◌≡◌, ◌∙◌, length, take}
use Rattle.std.proofs.lemmas.Iterator.{YieldsList-from_slice}
use Rattle.std.proofs.lemmas.Iterator.Consumers.{count_from_yields_List, YieldsList-at}
use Rattle.std.proofs.lemmas.Iterator.Search.{YieldsList-from_take_while}
use Rattle.std.proofs.lemmas.List.{length-take-le}
use Rattle.std.specs.List.{prefix_len}
use Rattle.text.specs.bytes.Bytes.{is_digit}
use Rattle.text.proofs.bytes.Library.{digits_are, prefix_le}
use Rattle.text.proofs.bytes.digits.Goals as goal

pub returns : goal.returns
returns c =
    let s = c.args.s.now in
    let n : length (take (prefix_len is_digit s) s) ≡ prefix_len is_digit s = length-take-le _ s (prefix_le is_digit s) in
    let e : c.count.result ≡ length (take (prefix_len is_digit s) s) = count_from_yields_List c.take_while.result _ c.count.ensures.ran
    (YieldsList-from_take_while _ is_digit (YieldsList-at c.take_while.ensures.source (YieldsList-from_slice s cc)) c.take_while.ensures.closure
    c.take_while.ensures.done
    (λ x b q k. search (rules, tests))) in
    record { is = e ∙ n ∙ digits_are s; most = omega (arith, e, n, prefix_le is_digit s) }
