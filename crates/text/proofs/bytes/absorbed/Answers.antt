-- `absorbed`: a hyphen alone has no items; any other value is split at its commas, and the chain folds its parts.
use Rattle.std.proofs.Common.{rules, tests, sym, ap, ◌∙◌, ◌==◌}
use mathlib.Core.List.{foldl}
use Rattle.std.specs.List.{slice_split}
use Rattle.std.proofs.lemmas.Iterator.Consumers.{fold_from_yields_List}
use Rattle.std.proofs.lemmas.Iterator.Splits.{YieldsList-from_slice_split}
use Rattle.text.proofs.bytes.Items.{items_none, items_some}
use Rattle.text.proofs.bytes.Library.{folds, parts_are}
use Rattle.text.proofs.bytes.absorbed.Goals as goal

pub returns-then-is_hyphen : goal.returns-then-is_hyphen
returns-then-is_hyphen g c = λ h act. ap (foldl h c.args.start) (sym (items_none _ (sym c.is_hyphen.ensures ∙ c.if-is_hyphen.true)))

pub returns-else-is_hyphen : goal.returns-else-is_hyphen
returns-else-is_hyphen g c =
    λ h act.
    fold_from_yields_List g.F.FnMut h c.args.start c.fold.result c.fold.ensures.ran
    (YieldsList-from_slice_split _ (λ x. x == 44) c.args.v.now c.split.ensures.rest c.split.ensures.done c.split.ensures.closure
    (λ x b q k. search (rules, tests)))
    act
    ∙ folds h c.args.start (slice_split (λ x. x == 44) c.args.v.now)
    ∙ ap (foldl h c.args.start) (parts_are 44 c.args.v.now
    ∙ sym (items_some _ (sym c.is_hyphen.ensures
    ∙ c.if-is_hyphen.false)))
