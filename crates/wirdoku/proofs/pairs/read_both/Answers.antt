-- `read_both`: the first text refused, the second refused, or both read.
use Rattle.std.proofs.Common.{refl, ◌∙◌}
use Rattle.model.specs.declared.Model.{Model}
use Rattle.text.specs.Text.{read_report, if_read}
use Rattle.text.proofs.Calls.{read_text, refused_text}
use Rattle.wirdoku.specs.PairCall.{if_both, both_read, text_refused}
use Rattle.wirdoku.proofs.pairs.read_both.Goals as goal

pub returns-in-Err : goal.returns-in-Err
unfolding if_both
returns-in-Err c =
    let u = c.args.second.now in
    refused_text (λ (m : Model). if_read (read_report u) (both_read m) (text_refused 2)) (text_refused 1) c.read_model.result c.args.first.now
    c.read_model.ensures
    c.in-Err.is refl refl

pub returns-in-Ok-read_model : goal.returns-in-Ok-read_model
unfolding if_both
returns-in-Ok-read_model c =
    let a = c.args in
    read_text (both_read c.in-Ok.model) (text_refused 2) c.read_model-2.result a.second.now c.read_model-2.ensures c.in-Ok-read_model.is
    ∙ read_text (λ (m : Model). if_read (read_report a.second.now) (both_read m) (text_refused 2)) (text_refused 1) c.read_model.result
    a.first.now c.read_model.ensures c.in-Ok.is

pub returns-in-Err-read_model : goal.returns-in-Err-read_model
unfolding if_both
returns-in-Err-read_model c =
    let a = c.args in
    refused_text (both_read c.in-Ok.model) (text_refused 2) c.read_model-2.result a.second.now c.read_model-2.ensures c.in-Err-read_model.is refl refl
    ∙ read_text (λ (m : Model). if_read (read_report a.second.now) (both_read m) (text_refused 2)) (text_refused 1) c.read_model.result
    a.first.now c.read_model.ensures c.in-Ok.is
