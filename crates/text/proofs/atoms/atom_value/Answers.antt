-- `atom_value`: what one pass collects comes to the tests over all items (`by_stages`, `by_fault`).
use Rattle.std.proofs.Common.{rules, tests, ◌≡◌, ◌∙◌, Err, map}
use mathlib.Core.List.{foldl}
use Rattle.text.specs.bytes.Bytes.{items_of}
use Rattle.text.specs.atoms.Atoms.{item_of}
use Rattle.text.specs.atoms.OnePass.{absorbed, no_atoms}
use Rattle.text.proofs.bytes.Library.{folds_each}
use Rattle.text.proofs.atoms.Stages.{by_stages, by_fault}
use Rattle.text.proofs.atoms.atom_value.Goals as goal

pub returns-in_err-check : goal.returns-in_err-check
unfolding no_atoms
returns-in_err-check c =
    let e : c.from_residual.result ≡ Err c.in_err-check.field-0.0 = search rules in
    let step = absorbed c.args.clocks c.args.vars in
    let items = items_of c.args.v.now in
    let read : c.absorbed-read.result ≡ foldl step no_atoms (map (item_of c.args.counters) items) =
    c.absorbed-read.ensures (λ s x. step s ((item_of c.args.counters) x)) (λ s x r q k. search (rules, tests))
    ∙ folds_each step (item_of c.args.counters) no_atoms items in
    rw e (by_fault c.args.clocks c.args.vars (search rules) (search rules) _ _ read _ c.in_err-check.ensures)

pub returns : goal.returns
unfolding no_atoms
returns c =
    let step = absorbed c.args.clocks c.args.vars in
    let items = items_of c.args.v.now in
    let read : c.absorbed-read.result ≡ foldl step no_atoms (map (item_of c.args.counters) items) =
    c.absorbed-read.ensures (λ s x. step s ((item_of c.args.counters) x)) (λ s x r q k. search (rules, tests))
    ∙ folds_each step (item_of c.args.counters) no_atoms items in
    by_stages c.args.clocks c.args.vars (search rules) (search rules) _ _ read c.in_ok-check.ensures
