use Rattle.std.proofs.Common.{append_assoc}
use Rattle.chv_print.specs.StatementTexts.{table_rest}
use Rattle.chv_print.proofs.create.put_table_rest.Goals as goal

pub returns : goal.returns
unfolding table_rest
returns c = record {
  ok = simp (
    c.in_ok-put_digits.ensures.ok,
    c.in_ok-put_key.ensures.ok,
    c.as_slice.ensures,
    c.in_ok-extend_from_slice-2.ensures.items,
    c.in_ok-put_engine.ensures.ok,
    c.in_ok-extend_from_slice.ensures.items,
    append_assoc,
  );
}
