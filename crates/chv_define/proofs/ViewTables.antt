-- The tables that a view links.
use Rattle.std.proofs.Common.{◌≡◌, ◌∙◌, ◌-◌, ◌+◌, ◌<◌, ℕ, zero, suc, List, [], ◌∷◌, length, Option, None, Some, Result, Ok, Err, slice_get, option_map, refl, sym, ap, arith}
use Rattle.std.specs.Option.{ok_or}
use Rattle.chv_ast.specs.declared.refusal.Refusal.{Refusal}
use Rattle.chv_ast.specs.declared.refusal.Refusal.TheVariants.{UnknownTable}
use Rattle.chv_ast.specs.declared.statement.CreateView.{CreateView}
use Rattle.chv_catalog.proofs.SchemaLemmas.{length-table_names, place_of-within}
use Rattle.chv_catalog.specs.Schemas.{Catalog, table_names}
use Rattle.chv_catalog.specs.declared.link.Link.{Link}
use Rattle.chv_catalog.specs.declared.table_def.TableDef.{TableDef}
use Rattle.chv_types.specs.Names.{place_of}
use Rattle.chv_types.specs.Steps.{and_then}
use Rattle.chv_define.specs.Checks.{linked, number_in}
use Rattle.chv_query.proofs.TableLemmas.{table_of-found}
use Rattle.chv_query.specs.Tables.{table_of}

-- within a list there is something
there_is : {X : Type 0} (xs : List X) (place : ℕ) → place < length xs → (x : X) × (slice_get xs place ≡ Some x)
there_is [] place within = absurd (omega arith)
there_is (x ∷ xs) zero within = (x, refl)
there_is (x ∷ xs) (suc place) within = there_is xs place (omega arith)

-- the number of a table is one more than its place
pub number_in-place : (catalog : Catalog) (name : List ℕ)
    → number_in catalog name ≡ ok_or (option_map (λ place. place + 1) (place_of name (table_names catalog.tables))) UnknownTable
unfolding number_in
number_in-place catalog name = by (place_of name (table_names catalog.tables)) refl
  where
    by : (place : Option ℕ) → place_of name (table_names catalog.tables) ≡ place
        → and_then (table_of catalog name) (λ found. Ok found.0) ≡ ok_or (option_map (λ place. place + 1) (place_of name (table_names catalog.tables))) UnknownTable
    by None none = rw none refl
    by (Some place) some =
        let within : place < length (table_names catalog.tables) = place_of-within name (table_names catalog.tables) place some in
        let among : place < length catalog.tables = rw length-table_names at within in
        let there = there_is catalog.tables place among in
        rw (some, there.1) refl

found : (o : Option ℕ) (number : ℕ) → ok_or o UnknownTable ≡ Ok number → Some number ≡ o
found (Some n) number is = cc
found None number is = absurd cc

-- the number and the table of a name
pub number-table_of : (catalog : Catalog) (name : List ℕ) (number : ℕ) (def : TableDef) → number_in catalog name ≡ Ok number → slice_get catalog.tables (number - 1) ≡ Some def
    → table_of catalog name ≡ Ok (number, def)
number-table_of catalog name number def is stands =
    table_of-found catalog name number def (found _ number (sym (number_in-place catalog name) ∙ is)) stands

some_table : (r : Result (ℕ × TableDef) Refusal) (number : ℕ) → and_then r (λ found. Ok found.0) ≡ Ok number → (def : TableDef) × (r ≡ Ok (number, def))
some_table (Ok (n, def)) number is = (def, cc)
some_table (Err refusal) number is = absurd cc

-- a number is that of a table
pub number-some : (catalog : Catalog) (name : List ℕ) (number : ℕ) → number_in catalog name ≡ Ok number → (def : TableDef) × (table_of catalog name ≡ Ok (number, def))
unfolding number_in
number-some catalog name number is = some_table (table_of catalog name) number is

-- the tables of a link are those of the names
pub linked-numbers : (catalog : Catalog) (made : CreateView) (link : Link) → linked catalog made ≡ Ok link
    → (number_in catalog made.select.table ≡ Ok link.source) × (number_in catalog made.target ≡ Ok link.target)
unfolding linked
linked-numbers catalog made link is = by (number_in catalog made.select.table) (number_in catalog made.target) is
  where
    by : (r s : Result ℕ Refusal) → and_then {B = Link} r (λ source. and_then {B = Link} s (λ target. Ok (record { source = source; target = target }))) ≡ Ok link → (r ≡ Ok link.source) × (s ≡ Ok link.target)
    by (Ok source) (Ok target) is = (cc, cc)
    by (Ok source) (Err refusal) is = absurd cc
    by (Err refusal) s is = absurd cc

-- what follows two look-ups is refused where they are
pub linked-refused : {A : Type 0} (catalog : Catalog) (made : CreateView) (refusal : Refusal) (rest : ℕ × TableDef → ℕ × TableDef → Result A Refusal) → linked catalog made ≡ Err refusal
    → and_then (table_of catalog made.select.table) (λ source. and_then (table_of catalog made.target) (λ target. rest source target)) ≡ Err refusal
unfolding linked number_in
linked-refused catalog made refusal rest is = by (table_of catalog made.select.table) (table_of catalog made.target) is
  where
    by : (r s : Result (ℕ × TableDef) Refusal)
        → and_then {B = Link} (and_then r (λ found. Ok found.0)) (λ source. and_then {B = Link} (and_then s (λ found. Ok found.0)) (λ target. Ok (record { source = source; target = target }))) ≡ Err refusal
        → and_then r (λ source. and_then s (λ target. rest source target)) ≡ Err refusal
    by (Err other) s is = let same : other ≡ refusal = cc in ap (λ refused. Err refused) same
    by (Ok source) (Err other) is = let same : other ≡ refusal = cc in ap (λ refused. Err refused) same
    by (Ok source) (Ok target) is = absurd cc
