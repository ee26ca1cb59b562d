-- The canonical text of a table's columns, engine, key and window reads back as they.
use Rattle.std.specs.Prelude.{ℕ, List, [], ◌∷◌, ◌++◌, IsTrue, codes, Option, Some, None}
use Rattle.std.proofs.Common.{refl, append_assoc, inl, inr}
use Rattle.chv_ast.specs.Formed.{Each, IfThere, FormedKind, FormedColumn}
use Rattle.chv_ast.specs.Spellings.{◌>>◌, give, sign, name, optional}
use Rattle.chv_ast.specs.GrammarStatements.{column_kind, column, engine_word, key, window_setting}
use Rattle.chv_ast.specs.Words.{IsName, IsDigits, is_word_text}
use Rattle.chv_ast.specs.declared.statement.ColumnDef.{ColumnDef}
use Rattle.chv_ast.specs.declared.statement.EngineWord.{EngineWord}
use Rattle.chv_ast.specs.declared.statement.EngineWord.TheVariants as engine
use Rattle.chv_ast.specs.declared.statement.KindWord.{KindWord}
use Rattle.chv_ast.specs.declared.statement.KindWord.TheVariants as kind
use Rattle.chv_print.specs.Texts.{name_text, optional_text}
use Rattle.chv_print.specs.StatementTexts.{kind_text, column_text, engine_text, key_text, digits_text}
use Rattle.chv_print.proofs.Parts.{ends_tokens}
use Rattle.chv_print.proofs.Prints.{Prints, printed_as, prints_equal, spaced, then_, ends, absent, opened, prints_keyword, prints_word, prints_name, prints_digits, prints_comma, prints_closing, prints_names}

-- AggregateFunction (function) or AggregateFunction (function, arg)
prints_arg : (arg : Option (List ℕ)) → IfThere IsName arg → Prints (optional (sign (codes ",") >> name)) arg (optional_text (codes ", ") name_text arg)
prints_arg None h = absent
prints_arg (Some arg) h = printed_as (λ us w. w) (then_ prints_comma refl (spaced (prints_name arg h)))

ends_arg : (arg : Option (List ℕ)) → IsTrue (ends_tokens (optional_text (codes ", ") name_text arg ++ codes ")"))
ends_arg None = refl
ends_arg (Some arg) = refl

prints_kind : (k : KindWord) → FormedKind k → Prints column_kind k (kind_text k)
unfolding is_word_text
prints_kind (kind.Plain called) h = printed_as (λ us w. inl w) (ends {q = λ plain. give (kind.Plain plain)} (prints_name called h) (refl, refl))
prints_kind (kind.Agg function arg) h = printed_as (λ us w. inr w)
    (then_ (prints_word (codes "AggregateFunction") refl) refl (opened
    (rw (append_assoc (name_text function) (optional_text (codes ", ") name_text arg) (codes ")"))
    (then_ (prints_name function h.0) (ends_arg arg) (then_ (prints_arg arg h.1) refl (ends prints_closing (refl, refl)))))))

-- a column
pub prints_column : (c : ColumnDef) → FormedColumn c → Prints column c (column_text c)
prints_column c h = then_ (prints_name c.name h.0) refl (spaced (ends (prints_kind c.kind h.1) (refl, refl)))

pub prints_engine : (e : EngineWord) → Prints engine_word e (engine_text e)
unfolding is_word_text
prints_engine engine.MergeTree = printed_as (λ us w. w) (prints_word (codes "MergeTree") refl)
prints_engine engine.AggregatingMergeTree = printed_as (λ us w. w) (prints_word (codes "AggregatingMergeTree") refl)

-- a sorting key
pub prints_key : (list : List (List ℕ)) → Each IsName list → Prints key list (key_text list)
unfolding is_word_text
prints_key [] h = printed_as (λ us w. inr (inr w)) (then_ (prints_word (codes "tuple") refl) refl (ends (opened prints_closing) (refl, refl)))
prints_key (one ∷ rest) h = printed_as (λ us w. inr (inl w)) (prints_names (one ∷ rest) h)

-- digits behind their words, or nothing
pub prints_window : (digits : Option (List ℕ)) → IfThere IsDigits digits
    → Prints (optional window_setting) digits (digits_text (codes " SETTINGS non_replicated_deduplication_window = ") digits)
unfolding is_word_text
prints_window None h = absent
prints_window (Some digits) h = printed_as (λ us w. w) (spaced (then_ (prints_keyword (codes "SETTINGS") refl) refl
    (spaced (then_ (prints_word (codes "non_replicated_deduplication_window") refl) refl (spaced (then_ prints_equal refl
    (spaced (prints_digits digits h))))))))
