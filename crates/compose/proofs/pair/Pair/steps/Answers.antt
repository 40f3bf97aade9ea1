-- `steps`: refusal 27, then a delay, cut to each part's ceiling, or the move that the byte names, as it is in each part.
use Rattle.std.proofs.Common.{arith, ap, ◌∙◌, ◌+◌, ◌-◌, min, ℕ}
use Rattle.std.specs.Prelude.{Option}
use Rattle.compose.specs.Moves.{no_move}
use Rattle.compose.specs.Parts.{first_edge, second_edge, edge_byte, stays}
use Rattle.compose.proofs.Answers.{no_choice, delay_steps, move_steps, first_below, second_below, top_of, choices_of, byte_below, byte_move}
use Rattle.compose.proofs.ComposedLaws.{move_in}
use Rattle.compose.proofs.PairLaws.{held_of, first_of, second_of}
use Rattle.compose.proofs.pair.Pair.steps.Goals as goal

pub returns-then-byte-z : goal.returns-then-byte-z
returns-then-byte-z c =
    let p = c.args.self.now in
    let all = choices_of p.a.model p.b.model c.composed.ensures c.totals-z.ensures in
    no_choice p.a.model p.b.model c.args.byte (omega (arith, c.if-byte-z.true, all))

pub overflow_cast-top : goal.overflow_cast-top
overflow_cast-top c = record { fits = omega (arith, c.ceiling-top.ensures.is, (first_of c.args.self.now).ceiling_le) }

pub overflow_cast-other_top : goal.overflow_cast-other_top
overflow_cast-other_top c = record { fits = omega (arith, c.ceiling-other_top.ensures.is, (second_of c.args.self.now).ceiling_le) }

pub returns-then-byte-z-2 : goal.returns-then-byte-z-2
returns-then-byte-z-2 c =
    let p = c.args.self.now in
    let is = c.composed.ensures in
    let all = choices_of p.a.model p.b.model is c.totals-z.ensures in
    let top = top_of p.a.model p.b.model is c.totals-z.ensures in
    delay_steps p.a.model p.b.model c.args.byte (omega (arith, c.if-byte-z.false, all)) (omega (arith, c.if-byte-z-2.true, top))
    (c.min.ensures ∙ ap (min c.args.byte) c.ceiling-top.ensures.is)
    (c.min-then-byte-z-2.ensures ∙ ap (min c.args.byte) c.ceiling-other_top.ensures.is)

pub bounds-self-byte : goal.bounds-self-byte
bounds-self-byte c =
    let p = c.args.self.now in
    let low = byte_below p.a.model p.b.model c.composed.ensures c.totals-z.ensures c.args.byte c.if-byte-z-2.false c.if-byte-z.false in
    omega (arith, low, (held_of p).moves_le)

pub edge_byte-first-requires : goal.edge_byte-first-requires
edge_byte-first-requires c =
    let p = c.args.self.now in
    let n = c.args.byte - (c.totals-z.result.ceiling + 1) in
    let low = byte_below p.a.model p.b.model c.composed.ensures c.totals-z.ensures c.args.byte c.if-byte-z-2.false c.if-byte-z.false in
    let move = move_in p.a.model p.b.model p.listed no_move n (omega (arith, low, (held_of p).moves_le)) in (
      omega (arith, c.ceiling-top.ensures.is, (first_of p).ceiling_le),
      rw c.first_edge.ensures (first_below p.a.model p.b.model (first_of p).used_le (second_of p).used_le n move low),
    )

pub edge_byte-second-requires : goal.edge_byte-second-requires
edge_byte-second-requires c =
    let p = c.args.self.now in
    let n = c.args.byte - (c.totals-z.result.ceiling + 1) in
    let low = byte_below p.a.model p.b.model c.composed.ensures c.totals-z.ensures c.args.byte c.if-byte-z-2.false c.if-byte-z.false in
    let move = move_in p.a.model p.b.model p.listed no_move n (omega (arith, low, (held_of p).moves_le)) in (
      omega (arith, c.ceiling-other_top.ensures.is, (second_of p).ceiling_le),
      rw c.second_edge.ensures (second_below p.a.model p.b.model (first_of p).used_le (second_of p).used_le n move low),
    )

pub returns : goal.returns
returns c =
    let p = c.args.self.now in
    let a = p.a.model in
    let b = p.b.model in
    let is = c.composed.ensures in
    let known = c.totals-z.ensures in
    let low = byte_below a b is known c.args.byte c.if-byte-z-2.false c.if-byte-z.false in
    let move = byte_move a b is known p.listed _ c.args.byte (omega (arith, low, (held_of p).moves_le)) in
    let first = c.ceiling-top.ensures.is in
    let second = c.ceiling-other_top.ensures.is in
    move_steps a b c.args.byte (omega (arith, c.if-byte-z.false, choices_of a b is known)) (omega (arith, c.if-byte-z-2.false, top_of a b is known))
    (c.edge_byte-first.ensures
    ∙ ap (λ (x : Option ℕ). stays (edge_byte c.ceiling-top.result x)) c.first_edge.ensures
    ∙ (λ i. stays (edge_byte (first i) (first_edge (move i)))))
    (c.edge_byte-second.ensures
    ∙ ap (λ (x : Option ℕ). stays (edge_byte c.ceiling-other_top.result x)) c.second_edge.ensures
    ∙ (λ i. stays (edge_byte (second i) (second_edge (move i)))))
