-- `lone_moves`: the loop has added the moves of the edges so far; an edge whose label is shared has none.
use Rattle.std.proofs.Common.{rules, arith, ap, sym, ◌∙◌, ◌≡◌}
use Rattle.model.proofs.FormLaws.{formed}
use Rattle.compose.specs.declared.moves.Moves.{Moves}
use Rattle.compose.proofs.Fronts.{form_of}
use Rattle.compose.proofs.Adding.{lone, lone_here, lone_none, each_start, each_turn, each_skip}
use Rattle.compose.proofs.moves.lone_moves.Goals as goal
use Rattle.compose.proofs.moves.lone_moves.Goals.{then-not-shared, else-not-shared}

pub loop-e-init : goal.loop-e-init
loop-e-init g c = (omega arith, λ f h. each_start _ _)

pub bounds-own-e : goal.bounds-own-e
bounds-own-e g c = omega (arith, (formed c.args.own.now.model (form_of c.args.own.now)).used_le)

pub alone-moves-requires-clause-few : goal.alone-moves-requires-clause-few
alone-moves-requires-clause-few g c =
    let v = formed c.args.own.now.model (form_of c.args.own.now) in
    let w = formed c.args.other.now.model (form_of c.args.other.now) in
    (omega (arith, c.requires.few, v.used_le), w.locations_le)

pub loop-e-preserved : goal.loop-e-preserved
loop-e-preserved g c =
    let loop = c.loop-e in
    let own = c.args.own.now.model in
    let other = c.args.other.now.model in
    let w = formed other (form_of c.args.other.now) in
    let told = sym c.shared.ensures in
    elim c.if-not-shared.branch [
      | then-not-shared r ↦ (
        omega (arith, r.alone-moves.ensures.count, ap (λ (m : Moves). m.count) r.moves-is, w.locations_le),
        λ f h.
            each_turn c.args.list (lone own other f) loop.e-counter _ (loop.invariant.1 f h) (r.moves-is
            ∙ r.alone-moves.ensures.moves (f loop.e-counter) (λ j x l p. search (rules, h)))
            (lone_here own other f loop.e-counter (told ∙ r.if-not-shared.true)),
      )
      | else-not-shared r ↦ (
        omega (arith, ap (λ (m : Moves). m.count) r.moves-is),
        λ f h.
            each_skip c.args.list (lone own other f) loop.e-counter (loop.invariant.1 f h) r.moves-is
            (lone_none own other f loop.e-counter (told ∙ r.if-not-shared.false)),
      )
    ]

pub returns : goal.returns
returns g c =
    let e : c.loop-e.e-counter ≡ c.args.own.now.model.used = omega arith in
    λ f h. rw e at (c.loop-e.invariant.1 f h)
