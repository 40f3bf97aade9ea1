-- What the calls on two records answer, row by row.
use mathlib.Core.Path.{◌≡◌, sym, ap, ◌∙◌}
use mathlib.Core.Bool.{Bool, true, false, not, ◌&&◌, cond}
use Prim.Native.Nat.{ℕ, ◌+◌, ◌-◌, ◌≤◌, ◌<◌, min}
use native.Mathlib.Omega.{arith}
use borrow.Author.Tests.{le-leb, lt-leb}
use lib.ListN.{length, get_or}
use Rattle.std.specs.Prelude.{Some, None}
use Rattle.model.specs.declared.Model.{Model}
use Rattle.model.specs.declared.Totals.{Totals}
use Rattle.model.specs.Indexed.{maybe}
use Rattle.model.specs.Automaton.{ceiling, choices}
use Rattle.model.specs.Bounds.{KnownTotals}
use Rattle.model.specs.Form.{well_formed}
use Rattle.model.proofs.FormLaws.{ceiling_of_totals, choices_of_totals}
use Rattle.model.proofs.IndexedLaws.{some_inj, some_none}
use Rattle.compose.specs.declared.ComposeRefusal.{ComposeRefusal}
use Rattle.compose.specs.declared.ComposeRefusal.TheVariants.{NotWellFormed, TooLarge}
use Rattle.compose.specs.ComposeCall.{compose_number, refusal}
use Rattle.compose.specs.declared.moves.Move.{Move}
use Rattle.compose.specs.declared.moves.Move.TheVariants.{FirstAlone, SecondAlone, Together}
use Rattle.compose.specs.declared.moves.Moves.{Moves}
use Rattle.compose.specs.Moves.{moves, move_at, MoveOf, added, no_moves}
use Rattle.compose.specs.Composed.{fits, composed}
use Rattle.compose.specs.Parts.{first_edge, second_edge, edge_byte, first_step, second_step, stays, parts_reported, steps_report}
use Rattle.compose.proofs.ComposedLaws.{move_in, used-is}
use Rattle.compose.proofs.MoveLaws.{move_of}

-- ---- 20, 38
module _ {R : Type 0} (a b : Model) (told : ℕ → R) (accepted : R) where
  abbrev judged : R
  judged = cond (not (well_formed a && well_formed b)) (told 20) (cond (not (fits a b)) (told 38) accepted)

  -- what is refused, and why
  pub refused : (e : ComposeRefusal) → refusal a b ≡ Some e → told (compose_number e) ≡ judged
  refused e h = by (well_formed a && well_formed b) (fits a b) h
    where
      by : (p q : Bool) → cond (not p) (Some NotWellFormed) (cond (not q) (Some TooLarge) None) ≡ Some e
          → told (compose_number e) ≡ cond (not p) (told 20) (cond (not q) (told 38) accepted)
      by false q h = ap (λ (x : ComposeRefusal). told (compose_number x)) (sym (some_inj h))
      by true false h = ap (λ (x : ComposeRefusal). told (compose_number x)) (sym (some_inj h))
      by true true h = absurd (some_none h)

  pub taken : well_formed a ≡ true → well_formed b ≡ true → fits a b ≡ true → accepted ≡ judged
  taken p q r = λ i. cond (not (sym p i && sym q i)) (told 20) (cond (not (sym r i)) (told 38) accepted)

-- ---- 27, and what each part does
module _ (a b : Model) (n : ℕ) where
  pub no_choice : choices (composed a b) ≤ n → parts_reported 27 0 0 ≡ steps_report a b n
  unfolding steps_report
  no_choice l = sym (rw (le-leb (choices (composed a b)) n l))

  steps_are : {x y : ℕ} → n < choices (composed a b) → x ≡ stays (first_step a b n) → y ≡ stays (second_step a b n) → parts_reported 0 x y ≡ steps_report a b n
  unfolding steps_report
  steps_are l p q = (λ i. parts_reported 0 (p i) (q i)) ∙ sym (rw (lt-leb (choices (composed a b)) n l))

  -- a delay, cut to each part's ceiling
  pub delay_steps : {x y : ℕ} → n < choices (composed a b) → n ≤ ceiling (composed a b) → x ≡ min n (ceiling a) → y ≡ min n (ceiling b)
      → parts_reported 0 x y ≡ steps_report a b n
  unfolding first_step second_step
  delay_steps l h p q =
      let low = le-leb n (ceiling (composed a b)) h in
      steps_are l (p ∙ sym (rw low)) (q ∙ sym (rw low))

  -- a move
  pub move_steps : {x y : ℕ} → n < choices (composed a b) → ceiling (composed a b) < n
      → x ≡ stays (edge_byte (ceiling a) (first_edge (move_at a b (n - (ceiling (composed a b) + 1)))))
      → y ≡ stays (edge_byte (ceiling b) (second_edge (move_at a b (n - (ceiling (composed a b) + 1))))) → parts_reported 0 x y ≡ steps_report a b n
  unfolding first_step second_step
  move_steps l h p q =
      let high = lt-leb n (ceiling (composed a b)) h in
      steps_are l (p ∙ sym (rw high)) (q ∙ sym (rw high))

-- ---- the edges of a move are among the 32
module _ (a b : Model) (p : a.used ≤ 32) (q : b.used ≤ 32) where
  first_of : (w : Move) → MoveOf a b w → maybe (first_edge w) 0 (λ e. e) < 32
  first_of (FirstAlone e j) h = omega (arith, h.0)
  first_of (SecondAlone f i) h = omega arith
  first_of (Together e f) h = omega (arith, h.0)

  second_of : (w : Move) → MoveOf a b w → maybe (second_edge w) 0 (λ e. e) < 32
  second_of (FirstAlone e j) h = omega arith
  second_of (SecondAlone f i) h = omega (arith, h.0)
  second_of (Together e f) h = omega (arith, h.1)

  pub first_below : {w : Move} (n : ℕ) → w ≡ move_at a b n → n < length (moves a b) → maybe (first_edge w) 0 (λ e. e) < 32
  first_below n e l = rw e (first_of (move_at a b n) (move_of a b n l))

  pub second_below : {w : Move} (n : ℕ) → w ≡ move_at a b n → n < length (moves a b) → maybe (second_edge w) 0 (λ e. e) < 32
  second_below n e l = rw e (second_of (move_at a b n) (move_of a b n l))

-- ---- the move that a step byte names
module _ (a b : Model) {m : Model} {z : Totals} (is : m ≡ composed a b) (known : KnownTotals m z) where
  pub top_of : z.ceiling ≡ ceiling (composed a b)
  top_of = ceiling_of_totals m z known ∙ ap ceiling is

  pub choices_of : z.choices ≡ choices (composed a b)
  choices_of = choices_of_totals m z known ∙ ap choices is

  choices_sum : choices (composed a b) ≡ ceiling (composed a b) + 1 + length (moves a b)
  unfolding choices
  choices_sum = ap (λ (n : ℕ). ceiling (composed a b) + 1 + n) (used-is a b)

  pub byte_below : (n : ℕ) → z.ceiling < n → n < z.choices → n - (z.ceiling + 1) < length (moves a b)
  byte_below n l h = omega (arith, l, h, top_of, choices_of, choices_sum)

  pub byte_move : {h : Moves} → h ≡ added no_moves (moves a b) → (d : Move) (n : ℕ) → n - (z.ceiling + 1) < 32
      → get_or h.slots (n - (z.ceiling + 1)) d ≡ move_at a b (n - (ceiling (composed a b) + 1))
  byte_move given d n l = move_in a b given d (n - (z.ceiling + 1)) l ∙ ap (λ (t : ℕ). move_at a b (n - (t + 1))) top_of
