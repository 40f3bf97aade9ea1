-- Every worked text is reported as its row says, by evaluation.
use mathlib.Core.Path.{refl}
use Rattle.text.specs.bytes.Bytes.{starts_with, split_on}
use Rattle.model.specs.Indexed.{all_below, list_below}
use Rattle.output.specs.Literals.{are_digits, is_positive, has_minus, unsigned, names_variable, is_zero, are_literals, number_after, literal_of}
use Rattle.output.specs.Lines.{is_text, words_of, is_values, form_of}
use Rattle.output.specs.Tokens.{line_tokens, part_tokens, tokens_of}
use Rattle.output.specs.OutputCall.{is_named, all_named, judge, judged, output_report, is_bare, bytes_of, output_left}
use Rattle.output.specs.Cases.{EachReported, LeftInTheBuffer, accepted, malformed, renamed, unfinished}

infixr 5 ◌&◌
◌&◌ : {A B : Type 0} → A → B → A × B
a & b = (a, b)

pub texts_reported : EachReported accepted × EachReported malformed × EachReported renamed × EachReported unfinished
unfolding accepted malformed renamed unfinished starts_with split_on all_below are_digits is_positive has_minus unsigned names_variable is_zero are_literals
    number_after literal_of is_text words_of is_values form_of line_tokens part_tokens tokens_of is_named all_named judge judged output_report
texts_reported = (
  refl & refl & refl & refl & refl & tt,
  refl & refl & refl & refl & refl & refl & refl & refl & refl & refl & refl & refl & refl & refl & refl & refl & refl & refl & refl & refl & refl &
      refl & refl & tt,
  refl & refl & refl & refl & refl & refl & refl & refl & tt,
  refl & refl & refl & refl & refl & refl & refl & refl & refl & tt,
)

pub texts_written : LeftInTheBuffer
unfolding starts_with split_on all_below list_below are_digits is_positive has_minus unsigned names_variable is_zero are_literals number_after literal_of
    is_text words_of is_values form_of line_tokens part_tokens tokens_of is_named all_named judge judged output_report is_bare bytes_of output_left
texts_written = (refl, refl, refl)
