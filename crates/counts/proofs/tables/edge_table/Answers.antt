-- `edge_table`: slot after slot.
use Rattle.std.proofs.Common.{arith, rules, tests}
use Rattle.model.proofs.ByIndex.{made_by_index}
use Rattle.model.proofs.FormLaws.{formed}
use Rattle.list.specs.Items.{edge_of}
use Rattle.list.specs.Clauses.{one_hot_width}
use Rattle.counts.specs.Tables.{slot_of}
use Rattle.counts.proofs.PieceBounds.{edge_most}
use Rattle.counts.proofs.TableLaws.{table_made}
use Rattle.counts.proofs.tables.edge_table.Goals as goal

pub returns : goal.returns
returns c =
    let l = c.args.l.now in
    let m = l.model in
    table_made (formed m l.formed).used_le
    (λ o. made_by_index _ _ (slot_of (edge_of one_hot_width m o) m.used) 0 (λ k y q h. search (rules, tests)) c.from_fn.result 32 c.from_fn.ensures.items)
    (λ i p. let h = (edge_most m l.formed 0 i p).clauses_most in omega (arith, h))
