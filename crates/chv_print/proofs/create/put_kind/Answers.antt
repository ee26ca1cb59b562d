use Rattle.std.proofs.Common.{append_assoc}
use Rattle.chv_print.proofs.create.put_kind.Goals as goal

pub returns-in_ok-push-in-Agg : goal.returns-in_ok-push-in-Agg
returns-in_ok-push-in-Agg c = record {
  ok = rw c.in-Agg.is
      (simp (
        c.in_ok-push-in-Agg.ensures.items,
        c.in_ok-put_optional-in-Agg.ensures.ok,
        c.in_ok-put_name-in-Agg.ensures.ok,
        c.as_slice-in-Agg.ensures,
        c.in_ok-extend_from_slice-in-Agg.ensures.items,
        append_assoc,
      ));
}
