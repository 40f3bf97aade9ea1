-- What a layout's facts tell: its table is that of its well-formed model, and its totals are those of the model.
use Rattle.std.proofs.Common.{arith, ap, ◌≡◌, ◌<◌}
use Rattle.model.specs.declared.Totals.{Totals}
use Rattle.model.specs.Bounds.{KnownTotals}
use Rattle.model.specs.Automaton.{ceiling, state_size, choices, totals}
use Rattle.model.proofs.FormLaws.{formed, state_size_le, choices_le, choices_is}
use Rattle.parts.specs.declared.layout.Layout.{Layout}
use Rattle.parts.specs.Pieces.{Known}

module _ (l : Layout) where
  pub known_of_layout : Known l.model l.table
  known_of_layout = record { formed = l.formed; is = l.grouped }

  -- ---- M, S and H
  pub ceiling_of_layout : l.totals.ceiling ≡ ceiling l.model
  unfolding totals
  ceiling_of_layout = ap (λ (z : Totals). z.ceiling) l.counted

  pub state_of_layout : l.totals.state ≡ state_size l.model
  unfolding totals
  state_of_layout = ap (λ (z : Totals). z.state) l.counted

  pub choices_of_layout : l.totals.choices ≡ choices l.model
  unfolding totals
  choices_of_layout = ap (λ (z : Totals). z.choices) l.counted

  pub totals_of_layout : KnownTotals l.model l.totals
  totals_of_layout =
      let ok = formed l.model l.formed in record {
        is = l.counted;
        ceiling_most = omega (arith, ceiling_of_layout, ok.ceiling_le);
        state_most = omega (arith, state_of_layout, state_size_le l.model ok);
        choices_most = omega (arith, choices_of_layout, choices_le l.model ok);
      }

  -- a layout has a choice: the delay 0
  pub choice_in_layout : 0 < l.totals.choices
  choice_in_layout = omega (arith, choices_of_layout, choices_is l.model)
