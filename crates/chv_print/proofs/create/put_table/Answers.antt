use Rattle.std.proofs.Common.{append_assoc}
use Rattle.chv_print.specs.StatementTexts.{table_text}
use Rattle.chv_print.proofs.create.put_table.Goals as goal

pub returns : goal.returns
unfolding table_text
returns c = record {
  ok = simp (
    c.in_ok-put_table_rest.ensures.ok,
    c.in_ok-put_enclosed.ensures.ok,
    c.as_slice-2.ensures,
    c.in_ok-push.ensures.items,
    c.in_ok-put_name.ensures.ok,
    c.as_slice.ensures,
    c.in_ok-extend_from_slice.ensures.items,
    append_assoc,
  );
}
