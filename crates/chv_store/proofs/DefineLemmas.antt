-- The canonical texts of statements that make tables and views.
use Rattle.std.proofs.Common.{◌≡◌, ◌≢◌, ℕ, List, Bool, true, false, not, Some, None, Ok, Err, Result, refl, sym, ap, subst, ◌∙◌}
use Rattle.std.specs.Str.{bytes_eq}
use Rattle.std.proofs.lemmas.Slice.Eq.{bytes_eq-Decides}
use Rattle.chv_ast.specs.Formed.{WellFormed}
use Rattle.chv_ast.specs.declared.refusal.Refusal.{Refusal}
use Rattle.chv_ast.specs.declared.statement.CreateTable.{CreateTable}
use Rattle.chv_ast.specs.declared.statement.CreateView.{CreateView}
use Rattle.chv_ast.specs.declared.statement.Statement.{Statement}
use Rattle.chv_ast.specs.declared.statement.Statement.TheVariants as statement
use Rattle.chv_catalog.specs.Schemas.{Catalog}
use Rattle.chv_catalog.specs.declared.definition.Definition.{Definition}
use Rattle.chv_catalog.specs.declared.definition.Definition.TheVariants.{Table, View}
use Rattle.chv_query.specs.Accepted.{Defines}
use Rattle.chv_query.specs.Definitions.{defined}
use Rattle.chv_query.specs.Views.{defined_view}
use Rattle.chv_parse.specs.StatementTexts.{statement_in}
use Rattle.chv_print.specs.StatementTexts.{statement_text}
use Rattle.chv_store.specs.Openings.{TextMakes, TextMakesNone}
use Rattle.chv_store.proofs.ReadingLemmas.{read_formed, read_back}

same_statement : (a b : Statement) → Some a ≡ Some b → a ≡ b
same_statement a b same = cc

-- a canonical text is read as one statement
pub statement_read : (text : List ℕ) (s create : Statement) → statement_in text ≡ Some s → WellFormed create → text ≡ statement_text create → s ≡ create
statement_read text s create read formed is = same_statement s create (sym read ∙ ap statement_in is ∙ read_back create formed)

-- a text that is no statement
pub none_read : (catalog : Catalog) (text : List ℕ) → statement_in text ≡ None → TextMakesNone catalog text
none_read catalog text unread create definition makes is = absurd (none_some create (sym unread ∙ ap statement_in is ∙ read_back create makes.formed))
  where
    none_some : (s : Statement) → None ≡ Some s → ⊥
    none_some s same = cc same

-- a text that is not the canonical one
pub other_text : (catalog : Catalog) (text : List ℕ) (s : Statement) → statement_in text ≡ Some s → statement_text s ≢ text → TextMakesNone catalog text
other_text catalog text s read other create definition makes is = other (ap statement_text (statement_read text s create read makes.formed is) ∙ sym is)

-- a text of a statement that is refused
undefined_read : (catalog : Catalog) (text : List ℕ) (s : Statement) → statement_in text ≡ Some s → ((definition : Definition) → Defines catalog s definition → ⊥) → TextMakesNone catalog text
undefined_read catalog text s read none create definition makes is =
    absurd (none definition (subst (λ (t : Statement). Defines catalog t definition) (sym (statement_read text s create read makes.formed is)) makes.defines))

refused_or : {A : Type 0} (r : Result A Refusal) (refusal : Refusal) (def : A) → r ≡ Err refusal → r ≡ Ok def → ⊥
refused_or r refusal def x y = cc

refused_table : (catalog : Catalog) (made : CreateTable) (refusal : Refusal) → defined catalog made ≡ Err refusal → (definition : Definition) → Defines catalog (statement.CreateTable made) definition → ⊥
refused_table catalog made refusal refused (Table def) defines = refused_or (defined catalog made) refusal def refused defines
refused_table catalog made refusal refused (View def) defines = defines

refused_view : (catalog : Catalog) (made : CreateView) (refusal : Refusal) → defined_view catalog made ≡ Err refusal → (definition : Definition) → Defines catalog (statement.CreateView made) definition → ⊥
refused_view catalog made refusal refused (Table def) defines = defines
refused_view catalog made refusal refused (View def) defines = refused_or (defined_view catalog made) refusal def refused defines

pub refused_table_read : (catalog : Catalog) (text : List ℕ) (made : CreateTable) (refusal : Refusal) → statement_in text ≡ Some (statement.CreateTable made) → defined catalog made ≡ Err refusal → TextMakesNone catalog text
refused_table_read catalog text made refusal read refused = undefined_read catalog text (statement.CreateTable made) read (refused_table catalog made refusal refused)

pub refused_view_read : (catalog : Catalog) (text : List ℕ) (made : CreateView) (refusal : Refusal) → statement_in text ≡ Some (statement.CreateView made) → defined_view catalog made ≡ Err refusal → TextMakesNone catalog text
refused_view_read catalog text made refusal read refused = undefined_read catalog text (statement.CreateView made) read (refused_view catalog made refusal refused)

-- a text of a statement that makes neither a table nor a view
no_definition : (catalog : Catalog) (s : Statement) → ((made : CreateTable) → s ≢ statement.CreateTable made) → ((made : CreateView) → s ≢ statement.CreateView made) → (definition : Definition) → Defines catalog s definition → ⊥
no_definition catalog (statement.CreateTable made) table view definition defines = table made refl
no_definition catalog (statement.CreateView made) table view definition defines = view made refl
no_definition catalog (statement.Insert brought) table view definition defines = defines
no_definition catalog (statement.Query asked) table view definition defines = defines
no_definition catalog (statement.ShowParts asked) table view definition defines = defines
no_definition catalog (statement.Optimize asked) table view definition defines = defines
no_definition catalog statement.FlushQueue table view definition defines = defines

pub neither_read : (catalog : Catalog) (text : List ℕ) (s : Statement) → statement_in text ≡ Some s → ((made : CreateTable) → s ≢ statement.CreateTable made) → ((made : CreateView) → s ≢ statement.CreateView made)
    → TextMakesNone catalog text
neither_read catalog text s read table view = undefined_read catalog text s read (no_definition catalog s table view)

-- a text of a statement that is accepted
pub accepted_read : (catalog : Catalog) (text : List ℕ) (s : Statement) (definition : Definition) → statement_in text ≡ Some s → statement_text s ≡ text → Defines catalog s definition
    → TextMakes catalog text definition
accepted_read catalog text s definition read written defines =
    (s, record { formed = read_formed text s read; defines = defines }, sym written)

-- what a test says of two texts
pub differs : (xs ys : List ℕ) (ne : Bool) → ne ≡ not (bytes_eq xs ys) → ne ≡ true → xs ≢ ys
differs xs ys ne is unequal same = contra (bytes_eq xs ys) (sym is ∙ unequal) ((bytes_eq-Decides xs ys).1 same)
  where
    contra : (b : Bool) → not b ≡ true → b ≡ true → ⊥
    contra true x y = cc x
    contra false x y = cc y

pub is_same : (xs ys : List ℕ) (ne : Bool) → ne ≡ not (bytes_eq xs ys) → ne ≡ false → xs ≡ ys
is_same xs ys ne is equal = (bytes_eq-Decides xs ys).0 (negated (bytes_eq xs ys) (sym is ∙ equal))
  where
    negated : (b : Bool) → not b ≡ false → b ≡ true
    negated true x = refl
    negated false x = cc x
