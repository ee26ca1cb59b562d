-- The canonical text of a statement reads back as it.
use Rattle.std.specs.Prelude.{ℕ, List, ◌≡◌, codes}
use Rattle.std.proofs.Common.{refl, subst, sym}
use Rattle.chv_ast.specs.Formed.{FormedExpr, FormedSelect, FormedTable, FormedView, WellFormed}
use Rattle.chv_ast.specs.Grammar.{IsExpr}
use Rattle.chv_ast.specs.GrammarStatements.{create_table, create_view, plain_select, show_parts, optimize, flush_queue, IsPlain, IsStatement}
use Rattle.chv_ast.specs.Words.{IsName, is_word_text}
use Rattle.chv_ast.specs.declared.expr.Expr.{Expr}
use Rattle.chv_ast.specs.declared.statement.CreateTable.{CreateTable}
use Rattle.chv_ast.specs.declared.statement.CreateView.{CreateView}
use Rattle.chv_ast.specs.declared.statement.Optimize.{Optimize}
use Rattle.chv_ast.specs.declared.statement.Select.{Select}
use Rattle.chv_ast.specs.declared.statement.ShowParts.{ShowParts}
use Rattle.chv_ast.specs.declared.statement.Statement.{Statement}
use Rattle.chv_ast.specs.declared.statement.Statement.TheVariants as statement
use Rattle.chv_lex.specs.Writes.{Writes}
use Rattle.chv_print.specs.ExprTexts.{expr_text}
use Rattle.chv_print.specs.StatementTexts.{column_text, select_text, statement_text, table_rest, table_text, view_text}
use Rattle.chv_print.proofs.CreateBack.{prints_column, prints_engine, prints_key, prints_window}
use Rattle.chv_print.proofs.ExprBack.{printed_expr}
use Rattle.chv_print.proofs.InsertBack.{prints_insert}
use Rattle.chv_print.proofs.Lexed.{reads_back}
use Rattle.chv_print.proofs.Parts.{lexed_alone}
use Rattle.chv_print.proofs.Prints.{Prints, printed_as, spaced, then_, ends, passed, some, prints_keyword, prints_equal, prints_name, prints_enclosed, prints_listed}
use Rattle.chv_print.proofs.SelectBack.{prints_select, ends_optional}

prints_table : (made : CreateTable) → FormedTable made → Prints create_table made (table_text made)
unfolding create_table table_text table_rest is_word_text
prints_table made h =
    then_ (prints_keyword (codes "CREATE") refl) refl (spaced (then_ (prints_keyword (codes "TABLE") refl) refl (spaced
    (then_ (prints_name made.name h.0) refl (spaced (then_ (prints_enclosed (prints_listed column_text prints_column made.columns h.1)) refl (spaced
    (then_ (prints_keyword (codes "ENGINE") refl) refl (spaced (then_ (some prints_equal) refl (spaced (then_ (prints_engine made.engine) refl (passed (spaced
    (then_ (prints_keyword (codes "ORDER") refl) refl (spaced (then_ (prints_keyword (codes "BY") refl) refl (spaced
    (then_ (prints_key made.key h.2) (ends_optional (codes "SETTINGS non_replicated_deduplication_window = ") (λ digits. digits) made.window).is
    (ends (prints_window made.window h.3) (refl, refl)))))))))))))))))))))

prints_plain : (select : Select) → FormedSelect select → IsPlain select → Prints plain_select select (select_text select)
prints_plain select h plain = printed_as (λ us w. (w, plain)) (prints_select select h)

prints_view : (made : CreateView) → FormedView made → Prints create_view made (view_text made)
unfolding create_view view_text is_word_text
prints_view made h =
    then_ (prints_keyword (codes "CREATE") refl) refl (spaced (then_ (prints_keyword (codes "MATERIALIZED") refl) refl (spaced
    (then_ (prints_keyword (codes "VIEW") refl) refl (spaced (then_ (prints_name made.name h.0) refl (spaced
    (then_ (prints_keyword (codes "TO") refl) refl (spaced (then_ (prints_name made.target h.1) refl (spaced
    (then_ (prints_keyword (codes "AS") refl) refl (spaced (ends (prints_plain made.select h.2 h.3) (refl, refl)))))))))))))))

prints_show : (asked : ShowParts) → IsName asked.table → Prints show_parts asked (statement_text (statement.ShowParts asked))
unfolding show_parts statement_text is_word_text
prints_show asked h =
    then_ (prints_keyword (codes "SHOW") refl) refl (spaced (then_ (prints_keyword (codes "PARTS") refl) refl (spaced
    (ends (prints_name asked.table h) (refl, refl)))))

prints_optimize : (asked : Optimize) → IsName asked.table → Prints optimize asked (statement_text (statement.Optimize asked))
unfolding optimize statement_text is_word_text
prints_optimize asked h =
    then_ (prints_keyword (codes "OPTIMIZE") refl) refl (spaced (then_ (prints_keyword (codes "TABLE") refl) refl (spaced
    (then_ (prints_name asked.table h) refl (spaced (ends (prints_keyword (codes "FINAL") refl) (refl, refl)))))))

prints_flush : Prints flush_queue tt (statement_text statement.FlushQueue)
unfolding flush_queue statement_text is_word_text
prints_flush =
    then_ (prints_keyword (codes "SYSTEM") refl) refl (spaced (then_ (prints_keyword (codes "FLUSH") refl) refl (spaced
    (then_ (prints_keyword (codes "ASYNC") refl) refl (spaced (then_ (prints_keyword (codes "INSERT") refl) refl (spaced
    (prints_keyword (codes "QUEUE") refl))))))))

-- a statement is printed as it is written
prints_statement : (s : Statement) → WellFormed s → Prints IsStatement s (statement_text s)
unfolding statement_text
prints_statement (statement.CreateTable made) h = printed_as (λ us w. w) (prints_table made h)
prints_statement (statement.CreateView made) h = printed_as (λ us w. w) (prints_view made h)
prints_statement (statement.Insert brought) h = printed_as (λ us w. w) (prints_insert brought h)
prints_statement (statement.Query asked) h = printed_as (λ us w. w) (prints_select asked h)
prints_statement (statement.ShowParts asked) h = printed_as (λ us w. w) (prints_show asked h)
prints_statement (statement.Optimize asked) h = printed_as (λ us w. w) (prints_optimize asked h)
prints_statement statement.FlushQueue h = printed_as (λ us w. w) prints_flush

-- the canonical text of an expression reads back as it
pub expr_reads_back : (e : Expr) (text : List ℕ) → text ≡ expr_text e → FormedExpr e → Writes IsExpr e text
expr_reads_back e text same h =
    let p = printed_expr e h in
    subst (λ x. Writes IsExpr e x) (sym same) (reads_back IsExpr e (expr_text e) p.lexemes (lexed_alone (expr_text e) p.lexemes p.part) p.written)

-- the canonical text of a statement reads back as it
pub statement_reads_back : (s : Statement) (text : List ℕ) → text ≡ statement_text s → WellFormed s → Writes IsStatement s text
statement_reads_back s text same h =
    let p = prints_statement s h in
    subst (λ x. Writes IsStatement s x) (sym same)
    (reads_back IsStatement s (statement_text s) p.lexemes (lexed_alone (statement_text s) p.lexemes p.part) p.written)
