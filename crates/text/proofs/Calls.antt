-- A call on a text: a refused text, and a text that is read; the same of the answer alone. A call on an item: no bound line, and a bound line.
use Prim.Native.Nat.{ℕ}
use mathlib.Core.Path.{◌≡◌, sym, ap, ◌∙◌}
use mathlib.Core.List.{List}
use lib.ListN.{drop}
use Rattle.std.specs.Prelude.{Some, None, Result, Ok, Err}
use Rattle.model.specs.declared.Model.{Model}
use Rattle.text.specs.Text.{ReadReport, read_report, read_told, if_read, outcome_number, outcome_line}
use Rattle.text.specs.Bound.{BoundReport, bound_refused, bound_accepted, bound_report, bound_told, if_bound}
use Rattle.text.specs.Item.{ItemReport, item_report, item_told, if_item}
use Rattle.text.specs.declared.ReadRefusal.{ReadRefusal}
use Rattle.text.specs.declared.ItemRead.{ItemRead}
use Rattle.text.specs.declared.BoundLine.{BoundLine}
use Rattle.text.proofs.lines.Turns.{refusal_told}

module _ {A : Type 0} (call : Model → A) (refused : ℕ → ℕ → A) where
  if_refused : (e : ReadRefusal) → refused (outcome_number e) (outcome_line e) ≡ if_read (read_told (Err e)) call refused
  unfolding if_read
  if_refused e = rw (refusal_told e)

  if_ok : (m : Model) → call m ≡ if_read (read_told (Ok m)) call refused
  unfolding if_read
  if_ok m = λ i. call m

  module _ (a : Result Model ReadRefusal) where
    -- of the answer
    pub refused_told : {e : ReadRefusal} → a ≡ Err e → {n l : ℕ} → n ≡ outcome_number e → l ≡ outcome_line e
        → refused n l ≡ if_read (read_told a) call refused
    refused_told {e} q {n} {l} number line =
        (λ i. refused (number i) (line i)) ∙ if_refused e ∙ ap (λ (x : Result Model ReadRefusal). if_read (read_told x) call refused) (sym q)

    pub read_told_lem : {m : Model} → a ≡ Ok m → call m ≡ if_read (read_told a) call refused
    read_told_lem {m} q = if_ok m ∙ ap (λ (x : Result Model ReadRefusal). if_read (read_told x) call refused) (sym q)

    -- of the text that it is the answer to
    module _ (t : List ℕ) (is : read_told a ≡ read_report t) where
      as_read : if_read (read_told a) call refused ≡ if_read (read_report t) call refused
      as_read = ap (λ (x : ReadReport). if_read x call refused) is

      pub refused_text : {e : ReadRefusal} → a ≡ Err e → {n l : ℕ} → n ≡ outcome_number e → l ≡ outcome_line e
          → refused n l ≡ if_read (read_report t) call refused
      refused_text q number line = refused_told q number line ∙ as_read

      pub read_text : {m : Model} → a ≡ Ok m → call m ≡ if_read (read_report t) call refused
      read_text q = read_told_lem q ∙ as_read

-- ---- a bound line and the text after it
module _ {A : Type 0} (call : ℕ → ReadReport → A) (refused : ℕ → A) (t : List ℕ) (i : ItemRead) (is : item_told i ≡ item_report t) where
  bound_is : bound_told i.bound ≡ bound_report t
  unfolding item_report
  bound_is = ap (λ (x : ItemReport). x.bound) is

  text_is : read_told i.text ≡ read_report (drop (bound_report t).next t)
  unfolding item_report
  text_is = ap (λ (x : ItemReport). x.text) is

  call_at : (b : BoundReport) → bound_report t ≡ b → if_bound b (λ bound next. call bound (read_report (drop next t))) refused ≡ if_item call refused t
  call_at b h = ap (λ (x : BoundReport). if_bound x (λ bound next. call bound (read_report (drop next t))) refused) (sym h)

  pub no_bound : i.bound ≡ None → refused 9 ≡ if_item call refused t
  no_bound q = call_at bound_refused (sym bound_is ∙ ap bound_told q)

  pub after_bound : {b : BoundLine} → i.bound ≡ Some b → call b.bound (read_told i.text) ≡ if_item call refused t
  after_bound {b} q =
      let h : bound_report t ≡ bound_accepted b.bound b.next = sym bound_is ∙ ap bound_told q in
      let text : read_told i.text ≡ read_report (drop b.next t) = text_is ∙ ap (λ (b : BoundReport). read_report (drop b.next t)) h in
      ap (call b.bound) text ∙ call_at (bound_accepted b.bound b.next) h
