use Rattle.std.proofs.Common.{◌∙◌, ap, sym}
use Rattle.chv_expr.specs.Terms.{term_of, terms_of}
use Rattle.chv_expr.proofs.BindLemmas.{Binds-Unary, Binds-Binary, BindsAll-More}
use Rattle.chv_expr.proofs.TermLaws.{term-Column, term-Literal}
use Rattle.chv_expr.proofs.bind.+bind.Goals as goal

pub bind-returns-in-Column : goal.bind-returns-in-Column
bind-returns-in-Column t c = rw (c.in-Column.is, term-Column, ← c.as_slice.ensures) c.bind_column.ensures

pub bind-returns-in-Literal : goal.bind-returns-in-Literal
bind-returns-in-Literal t c = rw (c.in-Literal.is, term-Literal) (c.bind_literal.ensures c.args.columns.now)

pub bind-returns-in_ok-arg-in-Unary : goal.bind-returns-in_ok-arg-in-Unary
bind-returns-in_ok-arg-in-Unary t c =
    let a = c.in_ok-arg-in-Unary.ensures in
    let columns = c.args.columns.now in
    let given = ap (term_of columns) (sym c.get.ensures) ∙ a.1 in
    rw c.in-Unary.is (Binds-Unary columns c.in-Unary.op c.in-Unary.arg a.0 c.bind_unary.result given (c.bind_unary.ensures columns a.0 a.2))

pub bind-returns-in_ok-right-in-Binary : goal.bind-returns-in_ok-right-in-Binary
bind-returns-in_ok-right-in-Binary t c =
    let a = c.in_ok-left-in-Binary.ensures in
    let b = c.in_ok-right-in-Binary.ensures in
    let columns = c.args.columns.now in
    let left = ap (term_of columns) (sym c.get-in-Binary.ensures) ∙ a.1 in
    let right = ap (term_of columns) (sym c.get-in-Binary-2.ensures) ∙ b.1 in
    rw c.in-Binary.is (Binds-Binary columns c.in-Binary.op c.in-Binary.left c.in-Binary.right a.0 b.0 c.bind_binary.result left right
    (c.bind_binary.ensures columns a.0 b.0 a.2 b.2))

pub bind_args-returns-in_ok-rest-in-More : goal.bind_args-returns-in_ok-rest-in-More
bind_args-returns-in_ok-rest-in-More t c =
    let a = c.in_ok-first-in-More.ensures in
    let b = c.in_ok-rest-in-More.ensures in
    let columns = c.args.columns.now in
    let first = ap (term_of columns) (sym c.get.ensures) ∙ a.1 in
    let rest = ap (terms_of columns) (sym c.get-in-More.ensures) ∙ b.1 in
    rw c.in-More.is (BindsAll-More columns c.in-More.first c.in-More.rest a.0 b.0 c.behind.result first rest (c.behind.ensures columns a.0 b.0 a.2 b.2))
