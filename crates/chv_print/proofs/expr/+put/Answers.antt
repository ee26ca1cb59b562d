use Rattle.std.proofs.Common.{◌∙◌, ap, sym, append_assoc, append-nil}
use Rattle.chv_print.specs.ExprTexts.{expr_text, argument_texts}
use Rattle.chv_print.proofs.ExprLaws.{text-Unary, text-Binary, text-Call, texts-End, texts-More}
use Rattle.chv_print.proofs.expr.+put.Goals as goal

pub put_args-returns-in-End : goal.put_args-returns-in-End
put_args-returns-in-End t c = record { ok = rw (ap argument_texts c.in-End.is ∙ texts-End) (sym (append-nil _)) }

pub put_args-returns-in_ok-put_expr-in-More : goal.put_args-returns-in_ok-put_expr-in-More
put_args-returns-in_ok-put_expr-in-More t c = record {
  ok = rw (ap argument_texts c.in-More.is ∙ texts-More _ _)
      (simp (c.get-in-More.ensures, c.in_ok-put_expr-in-More.ensures.ok, c.get.ensures, append_assoc) at c.put_args_behind.ensures.ok);
}

pub put_args_behind-returns-in-End : goal.put_args_behind-returns-in-End
put_args_behind-returns-in-End t c = record { ok = rw (ap argument_texts c.in-End.is ∙ texts-End) (sym (append-nil _)) }

pub put_args_behind-returns-in_ok-put_expr-in-More : goal.put_args_behind-returns-in_ok-put_expr-in-More
put_args_behind-returns-in_ok-put_expr-in-More t c = record {
  ok = rw (ap argument_texts c.in-More.is ∙ texts-More _ _)
      (simp (c.get-in-More.ensures, c.in_ok-put_expr-in-More.ensures.ok, c.get.ensures, c.in_ok-extend_from_slice-in-More.ensures.items, append_assoc)
      at c.put_args_behind.ensures.ok);
}

pub put_expr-returns-in_ok-push-in-Unary-2 : goal.put_expr-returns-in_ok-push-in-Unary-2
put_expr-returns-in_ok-push-in-Unary-2 t c = record {
  ok = rw (ap expr_text c.in-Unary.is ∙ text-Unary _ _)
      (simp (
        c.in_ok-push-in-Unary-2.ensures.items,
        c.in_ok-put_expr-in-Unary.ensures.ok,
        c.get.ensures,
        c.in_ok-put_unary_op-in-Unary.ensures.ok,
        c.in_ok-push-in-Unary.ensures.items,
        append_assoc,
      ));
}

pub put_expr-returns-in_ok-push-in-Binary-2 : goal.put_expr-returns-in_ok-push-in-Binary-2
put_expr-returns-in_ok-push-in-Binary-2 t c = record {
  ok = rw (ap expr_text c.in-Binary.is ∙ text-Binary _ _ _)
      (simp (
        c.in_ok-push-in-Binary-2.ensures.items,
        c.in_ok-put_expr-in-Binary-2.ensures.ok,
        c.get-in-Binary-2.ensures,
        c.in_ok-put_binary_op-in-Binary.ensures.ok,
        c.in_ok-put_expr-in-Binary.ensures.ok,
        c.get-in-Binary.ensures,
        c.in_ok-push-in-Binary.ensures.items,
        append_assoc,
      ));
}

pub put_expr-returns-in_ok-push-in-Call-2 : goal.put_expr-returns-in_ok-push-in-Call-2
put_expr-returns-in_ok-push-in-Call-2 t c = record {
  ok = rw (ap expr_text c.in-Call.is ∙ text-Call _ _)
      (simp (
        c.in_ok-push-in-Call-2.ensures.items,
        c.in_ok-put_args-in-Call.ensures.ok,
        c.in_ok-push-in-Call.ensures.items,
        c.in_ok-put_name-in-Call.ensures.ok,
        c.as_slice-in-Call.ensures,
        append_assoc,
      ));
}
