-- The places of names among tables.
use Rattle.std.proofs.Common.{◌≡◌, ◌∙◌, ◌<◌, ◌||◌, ℕ, Bool, false, List, [], ◌∷◌, ◌++◌, length, Option, Some, None, is_some, if◌then◌else◌, refl, sym, ap, ap₂, arith}
use Rattle.std.proofs.lemmas.Bool.{or_parts}
use Rattle.std.proofs.lemmas.List.Folds.{list_any-append}
use Rattle.std.specs.Str.{bytes_eq}
use Rattle.std.specs.Option.{option_or}
use Rattle.std.proofs.lemmas.Grind.{common_steps}
use Rattle.chv_catalog.proofs.Positions.{is_some-position, position-push}
use Rattle.chv_catalog.specs.Schemas.{Catalog, place_of, table_names}
use Rattle.chv_catalog.specs.declared.table_def.TableDef.{TableDef}

-- what has the same definitions has the same tables
pub same_tables : (a b : Catalog) → a ≡ b → a.tables ≡ b.tables
same_tables a b same = ap (λ (catalog : Catalog). catalog.tables) same

-- there are as many names as tables
pub length-table_names : (defs : List TableDef) → length (table_names defs) ≡ length defs
length-table_names [] = refl
length-table_names (def ∷ defs) = rw (length-table_names defs) refl

-- a name is one of two lists where it is one of the first or one of the second
pub is_some_names : (name : List ℕ) (xs ys : List (List ℕ)) → is_some (place_of name (xs ++ ys)) ≡ (is_some (place_of name xs) || is_some (place_of name ys))
is_some_names name xs ys =
    is_some-position is (xs ++ ys) ∙ list_any-append is xs ys ∙ ap₂ (λ (a b : Bool). a || b) (sym (is_some-position is xs)) (sym (is_some-position is ys))
  where
    is : List ℕ → Bool
    is other = bytes_eq other name

none : {A : Type 0} (o : Option A) → is_some o ≡ false → o ≡ None
none {A} None is = refl
none {A} (Some a) is = absurd cc

-- what is no name of two lists is none of the first and none of the second
pub new_among : (name : List ℕ) (xs ys : List (List ℕ)) → place_of name (xs ++ ys) ≡ None → (place_of name xs ≡ None) × (place_of name ys ≡ None)
new_among name xs ys new =
    let parts = or_parts (is_some (place_of name xs)) (is_some (place_of name ys)) (sym (is_some_names name xs ys) ∙ ap is_some new) in
    (none (place_of name xs) parts.0, none (place_of name ys) parts.1)

-- a table more is a name more
pub table_names-append : (defs : List TableDef) (def : TableDef) → table_names (defs ++ def ∷ []) ≡ table_names defs ++ def.name ∷ []
table_names-append [] def = refl
table_names-append (other ∷ defs) def = rw (table_names-append defs def) refl

-- a name stands within the list
pub place_of-within : (name : List ℕ) (names : List (List ℕ)) (place : ℕ) → place_of name names ≡ Some place → place < length names
place_of-within name names place found = grind (arith, common_steps)

-- a name among tables and one table more: it stands where it stood, or at the end
pub place_of-append : (name : List ℕ) (defs : List TableDef) (def : TableDef) → place_of name (table_names (defs ++ def ∷ []))
    ≡ option_or (place_of name (table_names defs)) (if bytes_eq def.name name then Some (length defs) else None)
place_of-append name defs def =
    ap (place_of name) (table_names-append defs def) ∙ position-push (λ other. bytes_eq other name) (table_names defs) def.name
    ∙ rw (length-table_names defs) refl

-- a name of the tables stays where it stood
pub place_of-append-Some : (name : List ℕ) (defs : List TableDef) (def : TableDef) (place : ℕ) → place_of name (table_names defs) ≡ Some place
    → place_of name (table_names (defs ++ def ∷ [])) ≡ Some place
place_of-append-Some name defs def place found = place_of-append name defs def ∙ rw found refl

-- a name of none of them can only be that of the new one
pub place_of-append-None : (name : List ℕ) (defs : List TableDef) (def : TableDef) → place_of name (table_names defs) ≡ None
    → place_of name (table_names (defs ++ def ∷ [])) ≡ (if bytes_eq def.name name then Some (length defs) else None)
place_of-append-None name defs def new = place_of-append name defs def ∙ rw new refl
