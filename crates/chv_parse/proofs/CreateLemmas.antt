-- Exactly the statements that make tables are read.
use Rattle.std.proofs.Common.{ℕ, List, [], ◌∷◌, ◌++◌, refl, sym, subst, ◌⊎◌, inl, inr}
use Rattle.std.specs.Prelude.{codes, IsTrue}
use Rattle.chv_ast.specs.Lexemes.{Lexeme, is_keyword, is_word, is_sign}
use Rattle.chv_ast.specs.Spellings.{Spelling, Then, give, optional, Listed, enclosed, word, sign, name}
use Rattle.chv_ast.specs.GrammarStatements.{names, aggregate, column_kind, column, engine_word, empty_parentheses, empty_key, key, window_setting, create_table}
use Rattle.chv_ast.specs.declared.statement.EngineWord.{EngineWord}
use Rattle.chv_ast.specs.declared.statement.EngineWord.TheVariants as engine
use Rattle.chv_ast.specs.declared.statement.KindWord.TheVariants as kind
use Rattle.chv_parse.specs.ExprReading.{sign_next, keyword_next}
use Rattle.chv_parse.specs.Reading.{next_is, Exact}
use Rattle.chv_parse.specs.StatementReading.{either_at, opens, read_name, read_names, read_state_arg, read_aggregate, read_kind, read_column, read_table_columns, read_engine, read_empty_key, read_single_key, read_key, read_equals_mark, read_engine_parentheses, read_window, read_create_table}
use Rattle.chv_parse.proofs.ExprTokens.{sign-sign}
use Rattle.chv_parse.proofs.ExactLemmas.{Anything, Isnt, Is, Leads, exact_then, exact_before, exact_behind, exact_given, exact_marked, exact_meant, exact_either, exact_optional, exact_enclosed, exact_listed, Standing, exact_standing, leads_standing, leads_nothing, leads_marked, leads_meant, leads_then, leads_first, leads_optional, leads_either}
use Rattle.chv_parse.proofs.PartLemmas.{keyword_isnt_sign, keyword_is, sign_is, sign_isnt_sign, word_is, word_isnt_sign, word_isnt_word, name_isnt_sign, and_false, AtEnd, end_isnt}

-- a sign behind a comma, or in front of it
comma_apart : (token : Lexeme) (rest : List Lexeme) → IsTrue (is_sign (codes ")") token) → Isnt (sign_next (codes ",")) (token ∷ rest)
unfolding next_is
comma_apart token rest h = sign-sign (codes ")") (codes ",") token refl h

-- names in parentheses
pub exact_names : {follows : List Lexeme → Type 0} → Exact read_names names follows
unfolding read_names
exact_names = exact_enclosed (exact_listed read_name name Anything (Isnt (sign_next (codes ","))) exact_meant (λ rest k. tt) (λ rest k. k) (λ token rest c. tt)) comma_apart

-- the second argument of an aggregate's state
exact_state_arg : Exact read_state_arg (optional (Then (sign (codes ",")) (λ _. name))) (Isnt (sign_next (codes ",")))
unfolding read_state_arg
exact_state_arg = exact_optional (exact_behind exact_marked (λ _. exact_meant)) (leads_first (sign_is (codes ","))) (λ rest k. k)

-- an aggregate's state
pub exact_aggregate : {follows : List Lexeme → Type 0} → Exact read_aggregate aggregate follows
unfolding read_aggregate
exact_aggregate =
    exact_behind exact_marked (λ _. exact_behind exact_marked (λ _. exact_behind exact_meant (λ function.
    exact_then exact_state_arg (λ arg. exact_behind exact_marked (λ _. exact_given)) (λ arg. leads_first (sign_isnt_sign (codes ")") (codes ",") refl)))))

-- a word with an opening parenthesis behind it
opens_is : {A : Type 0} (text : List ℕ) {q : Spelling A} {follows : List Lexeme → Type 0} → Leads q follows (Is (sign_next (codes "(")))
    → Leads (Then (word text) (λ _. q)) follows (Is (opens text))
unfolding next_is
opens_is text opening = leads_then {between = Is (sign_next (codes "("))} (leads_marked (λ token rest h k. rw (h, k) refl)) (λ _. opening)

-- a name without a parenthesis behind it
opens_isnt : (text : List ℕ) → Leads name (Isnt (sign_next (codes "("))) (Isnt (opens text))
unfolding next_is
opens_isnt text = leads_meant (λ token rest a h k. rw k (and_false (is_word text token)))

swap : {A B : Type 0} → A ⊎ B → B ⊎ A
swap (inl a) = inr a
swap (inr b) = inl b

-- the name of a kind, or an aggregate's state
pub exact_kind : Exact read_kind column_kind (Isnt (sign_next (codes "(")))
unfolding read_kind
exact_kind =
    exact_either {p = aggregate} {q = Then name (λ plain. give (kind.Plain plain))} {o = column_kind} exact_aggregate (exact_behind exact_meant (λ plain. exact_given))
    (opens_is (codes "AggregateFunction") (leads_first (sign_is (codes "(")))) (leads_then (opens_isnt (codes "AggregateFunction")) (λ plain. leads_nothing (λ rest k. k)))
    (λ a us h. inr h) (λ a us h. inl h) (λ a us h. swap h)

-- name kind
pub exact_column : Exact read_column column (Isnt (sign_next (codes "(")))
unfolding read_column
exact_column = exact_behind exact_meant (λ called. exact_then exact_kind (λ kind. exact_given) (λ kind. leads_nothing (λ rest k. k)))

-- the columns of a table
pub exact_table_columns : {follows : List Lexeme → Type 0} → Exact read_table_columns (enclosed (Listed column)) follows
unfolding read_table_columns next_is
exact_table_columns =
    exact_enclosed (exact_listed read_column column (Isnt (sign_next (codes "("))) (λ rest. Isnt (sign_next (codes "(")) rest × Isnt (sign_next (codes ",")) rest) exact_column
    (λ rest k. k.0) (λ rest k. k.1) (λ token rest c. sign-sign (codes ",") (codes "(") token refl c))
    (λ token rest h. (sign-sign (codes ")") (codes "(") token refl h, sign-sign (codes ")") (codes ",") token refl h))

-- the word of an engine
pub exact_engine : {follows : List Lexeme → Type 0} → Exact read_engine engine_word follows
unfolding read_engine
exact_engine {follows} =
    exact_either {p = Standing engine.MergeTree tree} {q = Standing engine.AggregatingMergeTree other} {o = engine_word}
    (exact_standing exact_marked) (exact_standing exact_marked) (leads_standing (word_is (codes "MergeTree")))
    (leads_standing (word_isnt_word (codes "AggregatingMergeTree") (codes "MergeTree") refl))
    (λ a us h. subst (λ (e : EngineWord). engine_word e us) (sym h.0) h.1) (λ a us h. subst (λ (e : EngineWord). engine_word e us) (sym h.0) h.1) apart
  where
    tree : Spelling (Unit {0})
    tree = word (codes "MergeTree")

    other : Spelling (Unit {0})
    other = word (codes "AggregatingMergeTree")

    apart : (a : EngineWord) (us : List Lexeme) → engine_word a us → Standing engine.MergeTree tree a us ⊎ Standing engine.AggregatingMergeTree other a us
    apart engine.MergeTree us h = inl (refl, h)
    apart engine.AggregatingMergeTree us h = inr (refl, h)

-- the word of an engine is no sign
engine_isnt_sign : (text : List ℕ) {follows : List Lexeme → Type 0} → Leads engine_word follows (Isnt (sign_next text))
engine_isnt_sign text {follows} = record { leads = leads }
  where
    leads : (a : EngineWord) (us rest : List Lexeme) → engine_word a us → follows rest → Isnt (sign_next text) (us ++ rest)
    leads engine.MergeTree us rest h k = (word_isnt_sign (codes "MergeTree") text {follows = follows}).leads tt us rest h k
    leads engine.AggregatingMergeTree us rest h k = (word_isnt_sign (codes "AggregatingMergeTree") text {follows = follows}).leads tt us rest h k

-- an equals sign, if it is written
exact_equals_mark : Exact read_equals_mark (optional (sign (codes "="))) (Isnt (sign_next (codes "=")))
unfolding read_equals_mark
exact_equals_mark = exact_optional exact_marked (sign_is (codes "=")) (λ rest k. k)

-- the parentheses behind an engine, if they are written
exact_engine_parentheses : Exact read_engine_parentheses (optional empty_parentheses) (Isnt (sign_next (codes "(")))
unfolding read_engine_parentheses
exact_engine_parentheses = exact_optional (exact_behind exact_marked (λ _. exact_marked)) (leads_first (sign_is (codes "("))) (λ rest k. k)

-- tuple ()
exact_empty_key : {follows : List Lexeme → Type 0} → Exact read_empty_key empty_key follows
unfolding read_empty_key
exact_empty_key = exact_behind exact_marked (λ _. exact_behind (exact_behind exact_marked (λ _. exact_marked)) (λ _. exact_given))

-- the key of one name
abbrev one_name : Spelling (List (List ℕ))
one_name = Then name (λ one. give (one ∷ []))

exact_single_key : {follows : List Lexeme → Type 0} → Exact read_single_key one_name follows
unfolding read_single_key
exact_single_key = exact_behind exact_meant (λ one. exact_given)

-- a key without parentheses
abbrev bare_key : Spelling (List (List ℕ))
bare_key written us = empty_key written us ⊎ one_name written us

-- the names of a sorting key
pub exact_key : Exact read_key key (Isnt (sign_next (codes "(")))
unfolding read_key
exact_key =
    exact_either {p = names} {q = bare_key} {o = key} exact_names exact_bare (leads_first (sign_is (codes "("))) bare_isnt
    (λ a us h. inr (inl h)) into apart
  where
    exact_bare : Exact (either_at (opens (codes "tuple")) read_empty_key read_single_key) bare_key (Isnt (sign_next (codes "(")))
    exact_bare =
        exact_either {p = empty_key} {q = one_name} {o = bare_key} exact_empty_key exact_single_key (opens_is (codes "tuple") (leads_first (leads_first (sign_is (codes "(")))))
        (leads_then (opens_isnt (codes "tuple")) (λ plain. leads_nothing (λ rest k. k))) (λ a us h. inl h) (λ a us h. inr h) (λ a us h. h)

    bare_isnt : Leads bare_key (Isnt (sign_next (codes "("))) (Isnt (sign_next (codes "(")))
    bare_isnt = leads_either {p = empty_key} {q = one_name} (leads_first (word_isnt_sign (codes "tuple") (codes "("))) (leads_first (name_isnt_sign (codes "("))) (λ a us h. h)

    into : (a : List (List ℕ)) (us : List Lexeme) → bare_key a us → key a us
    into a us (inl h) = inr (inr h)
    into a us (inr h) = inl h

    apart : (a : List (List ℕ)) (us : List Lexeme) → key a us → names a us ⊎ bare_key a us
    apart a us (inl h) = inr (inr h)
    apart a us (inr (inl h)) = inl h
    apart a us (inr (inr h)) = inr (inl h)

-- the window of a table, if it is written
exact_window : Exact read_window (optional window_setting) (Isnt (keyword_next (codes "SETTINGS")))
unfolding read_window
exact_window =
    exact_optional (exact_behind exact_marked (λ _. exact_behind exact_marked (λ _. exact_behind exact_marked (λ _. exact_meant))))
    (leads_first (keyword_is (codes "SETTINGS"))) (λ rest k. k)

-- a statement that makes a table
pub exact_create_table : Exact read_create_table create_table AtEnd
unfolding read_create_table create_table
exact_create_table =
    exact_behind exact_marked (λ _. exact_behind exact_marked (λ _. exact_behind exact_meant (λ called. exact_behind exact_table_columns (λ columns.
    exact_behind exact_marked (λ _. exact_before exact_equals_mark (λ _. leads_first (engine_isnt_sign (codes "="))) (λ _. exact_behind exact_engine (λ engine.
    exact_before exact_engine_parentheses (λ _. leads_first (keyword_isnt_sign (codes "ORDER") (codes "("))) (λ _. exact_behind exact_marked (λ _. exact_behind exact_marked (λ _.
    exact_before exact_key
    (λ sorted. leads_then (leads_optional (leads_first (keyword_isnt_sign (codes "SETTINGS") (codes "("))) (λ rest k. k)) (λ window. leads_nothing (end_isnt (is_sign (codes "(")))))
    (λ sorted. exact_before exact_window (λ window. leads_nothing (end_isnt (is_keyword (codes "SETTINGS")))) (λ window. exact_given))))))))))))
