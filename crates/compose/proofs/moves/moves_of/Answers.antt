-- `moves_of`: the three lists are added one after the other, and together they are at most 2,048 long.
use Rattle.std.proofs.Common.{rules, arith, ap, refl, ◌∙◌, ◌≡◌, ◌≤◌, ◌++◌}
use Rattle.model.specs.declared.Model.{Model}
use Rattle.model.specs.Indexed.{each}
use Rattle.model.proofs.FormLaws.{formed}
use Rattle.compose.specs.declared.moves.Moves.{Moves}
use Rattle.compose.specs.declared.moves.Move.TheVariants.{FirstAlone, SecondAlone}
use Rattle.compose.specs.Moves.{first_alone, second_alone, pairs_of, moves, no_moves, added}
use Rattle.compose.proofs.Adding.{added_on, counted, lone, first_lone, second_lone}
use Rattle.compose.proofs.Fronts.{form_of}
use Rattle.compose.proofs.MoveCounts.{each_most, first_most, second_most}
use Rattle.compose.proofs.moves.moves_of.Goals as goal

module _ (a b : Model) where
  first_is : {n r : Moves} → n ≡ no_moves → r ≡ added n (each a.used (lone a b FirstAlone)) → r ≡ added no_moves (each a.used (first_alone a b))
  first_is {n} p q = q ∙ ap (λ (h : Moves). added h (each a.used (lone a b FirstAlone))) p ∙ ap (added no_moves) (first_lone a b a.used)

  second_is : (n : Moves) {r : Moves} → r ≡ added n (each b.used (lone b a SecondAlone)) → r ≡ added n (each b.used (second_alone a b))
  second_is n q = q ∙ ap (added n) (second_lone a b b.used)

  first_few : {r : Moves} → a.used ≤ 32 → b.locations ≤ 16 → r ≡ added no_moves (each a.used (first_alone a b)) → r.count ≤ 512
  first_few p q e =
      let few = each_most a.used 16 (first_alone a b) (λ e. omega (arith, first_most a b e)) in
      omega (arith, counted no_moves (each a.used (first_alone a b)) e, few)

  second_few : (n : Moves) {r : Moves} → b.used ≤ 32 → a.locations ≤ 16 → n.count ≤ 512 → r ≡ added n (each b.used (second_alone a b)) → r.count ≤ 1024
  second_few n p q l e =
      let few = each_most b.used 16 (second_alone a b) (λ f. omega (arith, second_most a b f)) in
      omega (arith, counted n (each b.used (second_alone a b)) e, few)

pub lone_moves-alone-requires-clause-few : goal.lone_moves-alone-requires-clause-few
lone_moves-alone-requires-clause-few c =
    let a = c.args.a.now.model in
    let b = c.args.b.now.model in
    first_few a b (formed a (form_of c.args.a.now)).used_le (formed b (form_of c.args.b.now)).locations_le
    (first_is a b c.no_moves-none.ensures (c.lone_moves-first.ensures FirstAlone (λ e j x p q h. search rules)))

pub pair_moves-requires : goal.pair_moves-requires
pair_moves-requires c =
    let a = c.args.a.now.model in
    let b = c.args.b.now.model in
    let v = formed a (form_of c.args.a.now) in
    let w = formed b (form_of c.args.b.now) in
    second_few a b c.lone_moves-first.result w.used_le v.locations_le
    (first_few a b v.used_le w.locations_le (first_is a b c.no_moves-none.ensures (c.lone_moves-first.ensures FirstAlone (λ e j x p q h. search rules))))
    (second_is a b c.lone_moves-first.result (c.lone_moves-alone.ensures SecondAlone (λ e j x p q h. search rules)))

pub returns : goal.returns
unfolding moves
returns c =
    let a = c.args.a.now.model in
    let b = c.args.b.now.model in
    let first = first_is a b c.no_moves-none.ensures (c.lone_moves-first.ensures FirstAlone (λ e j x p q h. search rules)) in
    let second = second_is a b c.lone_moves-first.result (c.lone_moves-alone.ensures SecondAlone (λ e j x p q h. search rules)) in
    let alone = added_on no_moves (each a.used (first_alone a b)) (each b.used (second_alone a b)) first second refl in
    added_on no_moves (each a.used (first_alone a b) ++ each b.used (second_alone a b)) (each a.used (pairs_of a b)) alone c.pair_moves.ensures refl
