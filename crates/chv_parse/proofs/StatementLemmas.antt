-- Exactly the statements are read.
use Rattle.std.proofs.Common.{◌≡◌, ℕ, List, [], Bool, false, Some, Result, Ok, Err, refl, sym, ap, subst, ◌∙◌, ◌⊎◌, inl, inr, append-nil}
use Rattle.std.specs.Prelude.{codes, IfOk, IfErr}
use Rattle.std.specs.Str.{bytes_eq, str_to_ascii_lowercase}
use Rattle.chv_ast.specs.Lexemes.{Lexeme}
use Rattle.chv_ast.specs.Spellings.{Spelling}
use Rattle.chv_ast.specs.GrammarStatements.{create_table, create_view, insert, select, show_parts, optimize, flush_queue, IsStatement}
use Rattle.chv_ast.specs.declared.statement.Statement.{Statement}
use Rattle.chv_ast.specs.declared.statement.Statement.TheVariants as statement
use Rattle.chv_parse.specs.ExprReading.{keyword_next}
use Rattle.chv_parse.specs.declared.fault.ParseFault.{ParseFault}
use Rattle.chv_parse.specs.declared.fault.ParseFault.TheVariants as fault
use Rattle.chv_parse.specs.Reading.{Exact}
use Rattle.chv_parse.specs.StatementReading.{either_at, as_statement, read_insert, read_select, read_show_parts, read_optimize, read_flush_queue, read_create, read_upkeep, read_statement, ReadsAll, Gives}
use Rattle.chv_parse.proofs.ListedLemmas.{read_same}
use Rattle.chv_parse.proofs.ExactLemmas.{Isnt, Is, Leads, exact_behind, exact_given, exact_marked, exact_meant, exact_either, Via, exact_via, leads_via, leads_marked, leads_then, leads_first, leads_either}
use Rattle.chv_parse.proofs.PartLemmas.{keyword_isnt_keyword, keyword_is, AtEnd}
use Rattle.chv_parse.proofs.CreateLemmas.{exact_create_table}
use Rattle.chv_parse.proofs.SelectLemmas.{exact_select, exact_create_view}
use Rattle.chv_parse.proofs.InsertLemmas.{exact_insert}

exact_show_parts : {follows : List Lexeme → Type 0} → Exact read_show_parts show_parts follows
unfolding read_show_parts show_parts
exact_show_parts = exact_behind exact_marked (λ _. exact_behind exact_marked (λ _. exact_behind exact_meant (λ table. exact_given)))

exact_optimize : {follows : List Lexeme → Type 0} → Exact read_optimize optimize follows
unfolding read_optimize optimize
exact_optimize = exact_behind exact_marked (λ _. exact_behind exact_marked (λ _. exact_behind exact_meant (λ table. exact_behind exact_marked (λ _. exact_given))))

exact_flush_queue : {follows : List Lexeme → Type 0} → Exact read_flush_queue flush_queue follows
unfolding read_flush_queue flush_queue
exact_flush_queue =
    exact_behind exact_marked (λ _. exact_behind exact_marked (λ _. exact_behind exact_marked (λ _. exact_behind exact_marked (λ _. exact_marked))))

-- the forms of statements, each made of what it carries
abbrev Tables : Spelling Statement
Tables = Via statement.CreateTable create_table

abbrev Views : Spelling Statement
Views = Via statement.CreateView create_view

abbrev Inserts : Spelling Statement
Inserts = Via statement.Insert insert

abbrev Queries : Spelling Statement
Queries = Via statement.Query select

abbrev Shows : Spelling Statement
Shows = Via statement.ShowParts show_parts

abbrev Optimizes : Spelling Statement
Optimizes = Via statement.Optimize optimize

abbrev Flushes : Spelling Statement
Flushes = Via (λ (_ : Unit {0}). statement.FlushQueue) flush_queue

-- what a form writes is a statement
is_written : {A : Type 0} (form : A → Statement) {p : Spelling A} → ((a : A) (us : List Lexeme) → p a us → IsStatement (form a) us)
    → (s : Statement) (us : List Lexeme) → Via form p s us → IsStatement s us
is_written form into s us h = subst (λ (x : Statement). IsStatement x us) (sym h.is) (into h.from us h.written)

-- a table or a view is made
abbrev Creates : Spelling Statement
Creates s us = Tables s us ⊎ Views s us

-- a merge is wished for, or that held inserts be written
abbrev Wishes : Spelling Statement
Wishes s us = Optimizes s us ⊎ Flushes s us

-- a statement that begins with none of CREATE, INSERT and SELECT
abbrev Upkeep : Spelling Statement
Upkeep s us = Shows s us ⊎ Wishes s us

-- a statement that begins neither with CREATE nor with INSERT
abbrev Asks : Spelling Statement
Asks s us = Queries s us ⊎ Upkeep s us

-- a statement that does not begin with CREATE
abbrev Others : Spelling Statement
Others s us = Inserts s us ⊎ Asks s us

exact_create : Exact read_create Creates AtEnd
unfolding read_create create_table create_view
exact_create =
    exact_either {p = Tables} {q = Views} {o = Creates} (exact_via exact_create_table) (exact_via exact_create_view)
    (leads_via (leads_then {between = Is (keyword_next (codes "TABLE"))} (leads_marked (λ token rest h k. k)) (λ _. leads_first (keyword_is (codes "TABLE")))))
    (leads_via (leads_then {between = Isnt (keyword_next (codes "TABLE"))} (leads_marked (λ token rest h k. k))
    (λ _. leads_first (keyword_isnt_keyword (codes "MATERIALIZED") (codes "TABLE") refl))))
    (λ s us h. inl h) (λ s us h. inr h) (λ s us h. h)

-- no statement of these forms begins with the word
wishes_isnt : (other : List ℕ) {follows : List Lexeme → Type 0} → bytes_eq (str_to_ascii_lowercase (codes "OPTIMIZE")) (str_to_ascii_lowercase other) ≡ false
    → bytes_eq (str_to_ascii_lowercase (codes "SYSTEM")) (str_to_ascii_lowercase other) ≡ false → Leads Wishes follows (Isnt (keyword_next other))
unfolding optimize flush_queue
wishes_isnt other a b =
    leads_either {p = Optimizes} {q = Flushes} {o = Wishes} (leads_via (leads_first (keyword_isnt_keyword (codes "OPTIMIZE") other a)))
    (leads_via (leads_first (keyword_isnt_keyword (codes "SYSTEM") other b))) (λ s us h. h)

upkeep_isnt : (other : List ℕ) {follows : List Lexeme → Type 0} → bytes_eq (str_to_ascii_lowercase (codes "SHOW")) (str_to_ascii_lowercase other) ≡ false
    → bytes_eq (str_to_ascii_lowercase (codes "OPTIMIZE")) (str_to_ascii_lowercase other) ≡ false
    → bytes_eq (str_to_ascii_lowercase (codes "SYSTEM")) (str_to_ascii_lowercase other) ≡ false → Leads Upkeep follows (Isnt (keyword_next other))
unfolding show_parts
upkeep_isnt other a b c =
    leads_either {p = Shows} {q = Wishes} {o = Upkeep} (leads_via (leads_first (keyword_isnt_keyword (codes "SHOW") other a))) (wishes_isnt other b c)
    (λ s us h. h)

asks_isnt : (other : List ℕ) {follows : List Lexeme → Type 0} → bytes_eq (str_to_ascii_lowercase (codes "SELECT")) (str_to_ascii_lowercase other) ≡ false
    → Leads Upkeep follows (Isnt (keyword_next other)) → Leads Asks follows (Isnt (keyword_next other))
unfolding select
asks_isnt other a behind =
    leads_either {p = Queries} {q = Upkeep} {o = Asks} (leads_via (leads_first (keyword_isnt_keyword (codes "SELECT") other a))) behind (λ s us h. h)

exact_wishes : {follows : List Lexeme → Type 0}
    → Exact (either_at (keyword_next (codes "OPTIMIZE")) (as_statement statement.Optimize read_optimize) (as_statement (λ _. statement.FlushQueue) read_flush_queue))
    Wishes follows
unfolding optimize flush_queue
exact_wishes =
    exact_either {p = Optimizes} {q = Flushes} {o = Wishes} (exact_via exact_optimize) (exact_via exact_flush_queue)
    (leads_via (leads_first (keyword_is (codes "OPTIMIZE")))) (leads_via (leads_first (keyword_isnt_keyword (codes "SYSTEM") (codes "OPTIMIZE") refl)))
    (λ s us h. inl h) (λ s us h. inr h) (λ s us h. h)

exact_upkeep : {follows : List Lexeme → Type 0} → Exact read_upkeep Upkeep follows
unfolding read_upkeep show_parts
exact_upkeep =
    exact_either {p = Shows} {q = Wishes} {o = Upkeep} (exact_via exact_show_parts) exact_wishes (leads_via (leads_first (keyword_is (codes "SHOW"))))
    (wishes_isnt (codes "SHOW") refl refl) (λ s us h. inl h) (λ s us h. inr h) (λ s us h. h)

exact_asks : Exact (either_at (keyword_next (codes "SELECT")) (as_statement statement.Query read_select) read_upkeep) Asks AtEnd
unfolding select
exact_asks =
    exact_either {p = Queries} {q = Upkeep} {o = Asks} (exact_via exact_select) exact_upkeep (leads_via (leads_first (keyword_is (codes "SELECT"))))
    (upkeep_isnt (codes "SELECT") refl refl refl) (λ s us h. inl h) (λ s us h. inr h) (λ s us h. h)

exact_others : Exact (either_at (keyword_next (codes "INSERT")) (as_statement statement.Insert read_insert)
    (either_at (keyword_next (codes "SELECT")) (as_statement statement.Query read_select) read_upkeep)) Others AtEnd
unfolding insert
exact_others =
    exact_either {p = Inserts} {q = Asks} {o = Others} (exact_via exact_insert) exact_asks (leads_via (leads_first (keyword_is (codes "INSERT"))))
    (asks_isnt (codes "INSERT") refl (upkeep_isnt (codes "INSERT") refl refl refl)) (λ s us h. inl h) (λ s us h. inr h) (λ s us h. h)

creates_lead : {follows : List Lexeme → Type 0} → Leads Creates follows (Is (keyword_next (codes "CREATE")))
unfolding create_table create_view
creates_lead =
    leads_either {p = Tables} {q = Views} {o = Creates} (leads_via (leads_first (keyword_is (codes "CREATE"))))
    (leads_via (leads_first (keyword_is (codes "CREATE")))) (λ s us h. h)

others_lead : {follows : List Lexeme → Type 0} → Leads Others follows (Isnt (keyword_next (codes "CREATE")))
unfolding insert
others_lead =
    leads_either {p = Inserts} {q = Asks} {o = Others} (leads_via (leads_first (keyword_isnt_keyword (codes "INSERT") (codes "CREATE") refl)))
    (asks_isnt (codes "CREATE") refl (upkeep_isnt (codes "CREATE") refl refl refl)) (λ s us h. h)

-- exactly the statements of the grammar are read
pub exact_statement : Exact read_statement IsStatement AtEnd
unfolding read_statement
exact_statement = exact_either {p = Creates} {q = Others} {o = IsStatement} exact_create exact_others creates_lead others_lead created other apart
  where
    created : (s : Statement) (us : List Lexeme) → Creates s us → IsStatement s us
    created s us (inl h) = is_written statement.CreateTable (λ a vs w. w) s us h
    created s us (inr h) = is_written statement.CreateView (λ a vs w. w) s us h

    other : (s : Statement) (us : List Lexeme) → Others s us → IsStatement s us
    other s us (inl h) = is_written statement.Insert (λ a vs w. w) s us h
    other s us (inr (inl h)) = is_written statement.Query (λ a vs w. w) s us h
    other s us (inr (inr (inl h))) = is_written statement.ShowParts (λ a vs w. w) s us h
    other s us (inr (inr (inr (inl h)))) = is_written statement.Optimize (λ a vs w. w) s us h
    other s us (inr (inr (inr (inr h)))) = is_written (λ (_ : Unit {0}). statement.FlushQueue) (λ a vs w. w) s us h

    apart : (s : Statement) (us : List Lexeme) → IsStatement s us → Creates s us ⊎ Others s us
    apart (statement.CreateTable made) us h = inl (inl (record { from = made; written = h; is = refl }))
    apart (statement.CreateView made) us h = inl (inr (record { from = made; written = h; is = refl }))
    apart (statement.Insert brought) us h = inr (inl (record { from = brought; written = h; is = refl }))
    apart (statement.Query asked) us h = inr (inr (inl (record { from = asked; written = h; is = refl })))
    apart (statement.ShowParts asked) us h = inr (inr (inr (inl (record { from = asked; written = h; is = refl }))))
    apart (statement.Optimize asked) us h = inr (inr (inr (inr (inl (record { from = asked; written = h; is = refl })))))
    apart statement.FlushQueue us h = inr (inr (inr (inr (inr (record { from = tt; written = h; is = refl })))))

-- tokens that write a statement are read as it, all of them
pub statement_read : (tokens : List Lexeme) (s : Statement) → IsStatement s tokens → read_statement tokens ≡ Some (s, [])
statement_read tokens s h = ap read_statement (sym (append-nil tokens)) ∙ exact_statement.complete tokens [] s h refl

-- tokens that are all read as a statement write it
pub read_is_statement : (tokens : List Lexeme) (s : Statement) → read_statement tokens ≡ Some (s, []) → IsStatement s tokens
read_is_statement tokens s e =
    let x = exact_statement.sound tokens [] s e in
    subst (IsStatement s) (sym (x.1 ∙ append-nil x.0)) x.2

-- what reading all tokens says of statements
pub all_found : (tokens : List Lexeme) (result : Result Statement ParseFault) → ReadsAll read_statement tokens result → IfOk result (λ read. IsStatement read tokens)
all_found tokens (Ok s) h = read_is_statement tokens s h
all_found tokens (Err e) h = tt

pub all_none : (tokens : List Lexeme) (result : Result Statement ParseFault) → ReadsAll read_statement tokens result
    → IfErr result (λ why. why ≡ fault.Syntax → (s : Statement) → IsStatement s tokens → ⊥)
all_none tokens (Ok s) h = tt
all_none tokens (Err fault.Syntax) h = λ e s k. h s (statement_read tokens s k)
all_none tokens (Err fault.NoMemory) h = λ e s k. cc

pub all_only : (tokens : List Lexeme) (result : Result Statement ParseFault) → ReadsAll read_statement tokens result
    → (s : Statement) → IsStatement s tokens → Gives result s
all_only tokens (Ok t) h s k = (read_same (sym h ∙ statement_read tokens s k)).0
all_only tokens (Err fault.Syntax) h s k = h s (statement_read tokens s k)
all_only tokens (Err fault.NoMemory) h s k = tt

-- tokens write one statement at most
pub one_statement : (tokens : List Lexeme) (s t : Statement) → IsStatement s tokens → IsStatement t tokens → s ≡ t
one_statement tokens s t h k = (read_same (sym (statement_read tokens s h) ∙ statement_read tokens t k)).0
