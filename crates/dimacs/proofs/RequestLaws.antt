-- The steps of the request: each case of the answer is the one that the definition gives.
use Rattle.std.proofs.Common.{◌≡◌, ◌∙◌, refl, cond, ltb, ℕ, ◌≤◌, ◌<◌, List, None, Some, Ok, Err}
use borrow.Author.Tests.{lt-ltb, le-ltb}
use Rattle.model.specs.declared.Model.{Model}
use Rattle.text.specs.Text.{ReadReport, outcome_number, outcome_line}
use Rattle.text.specs.Item.{item_report, item_told}
use Rattle.text.specs.declared.BoundLine.{BoundLine}
use Rattle.text.specs.declared.ItemRead.{ItemRead}
use Rattle.text.specs.declared.ReadRefusal.{ReadRefusal}
use Rattle.text.proofs.Calls.{refused_told, read_told_lem, no_bound, after_bound}
use Rattle.dimacs.specs.Request.{RequestReport, request_refused, requested, text_request, request_report}

-- the text, then 21
abbrev asked : ℕ → Model → RequestReport
asked k m = cond (ltb 64 k) (request_refused 21 0) (requested k m)

module _ (t : List ℕ) (i : ItemRead) (is : item_told i ≡ item_report t) where
  abbrev after : ℕ → ReadReport → RequestReport
  after k r = text_request r k

  abbrev number_alone : ℕ → RequestReport
  number_alone n = request_refused n 0

  pub line_refused : i.bound ≡ None → request_refused 9 0 ≡ request_report t
  unfolding request_report
  line_refused q = no_bound after number_alone t i is q

  module _ {b : BoundLine} (q : i.bound ≡ Some b) where
    pub text_refused : {e : ReadRefusal} → i.text ≡ Err e → request_refused (outcome_number e) (outcome_line e) ≡ request_report t
    unfolding request_report
    text_refused h = refused_told (asked b.bound) request_refused i.text h refl refl ∙ after_bound after number_alone t i is q

    pub bound_refused : {m : Model} → i.text ≡ Ok m → 64 < b.bound → request_refused 21 0 ≡ request_report t
    unfolding request_report
    bound_refused {m} h l =
        let large : request_refused 21 0 ≡ asked b.bound m = rw (lt-ltb 64 b.bound l) in
        large ∙ read_told_lem (asked b.bound) request_refused i.text h ∙ after_bound after number_alone t i is q

    pub accepted : {m : Model} → i.text ≡ Ok m → b.bound ≤ 64 → requested b.bound m ≡ request_report t
    unfolding request_report
    accepted {m} h l =
        let small : requested b.bound m ≡ asked b.bound m = rw (le-ltb 64 b.bound l) in
        small ∙ read_told_lem (asked b.bound) request_refused i.text h ∙ after_bound after number_alone t i is q
