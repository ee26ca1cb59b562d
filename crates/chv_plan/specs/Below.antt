-- Blocks along paths, and what is held of them.
use Rattle.std.specs.Prelude.{ℕ, ◌≡◌, ◌≤◌, ◌^◌, ◌∷◌, ◌++◌, [], false, true, not, List, length, map}
use Rattle.std.specs.List.{filter, list_any}
use Rattle.chv_agg.specs.Sets.{SetsWithin}
use Rattle.chv_ast.specs.declared.refusal.Refusal.{Refusal}
use Rattle.chv_ast.specs.declared.refusal.Refusal.TheVariants.{DivisionByZero}
use Rattle.chv_block.specs.Spellings.{AllAreOf}
use Rattle.chv_catalog.specs.Paths.{paths_within, target_of}
use Rattle.chv_catalog.specs.Schemas.{Catalog}
use Rattle.chv_catalog.specs.declared.fault.StatementFault.{StatementFault}
use Rattle.chv_catalog.specs.declared.fault.StatementFault.TheVariants.{Refused}
use Rattle.chv_catalog.specs.declared.link.Link.{Link}
use Rattle.chv_group.specs.Groups.{is_empty}
use Rattle.chv_part.specs.Books.{MAX_ROWS, TableForm, normal_rows}
use Rattle.chv_part.specs.Parts.{part_file}
use Rattle.chv_query.specs.Derived.{derived, divides_along, form_at}
use Rattle.chv_query.specs.Plans.{Delivery, delivery_along}
use Rattle.chv_sip.specs.BlockIds.{SourceKey, source_id}
use Rattle.chv_sip.specs.declared.block_id.BlockId.{BlockId}
use Rattle.chv_types.specs.declared.value.Value.{Value}
use Rattle.chv_plan.specs.declared.delivery.Delivery.{Delivery as Held}

-- a block for a table of this form: rows of its kinds, no more than a block has, and with no larger sets in states than one
-- brings that is inserted
pub record IsBlockOf (form : TableForm) (rows : List (List Value)) : Type 0 where
  pub kinds_fit : AllAreOf form.kinds rows
  pub few : length rows ≤ MAX_ROWS
  pub sets : SetsWithin (2 ^ 40) form.kinds rows

-- what is held of rows that arrive in a table of this form under an id
pub record IsHeld (form : TableForm) (table : ℕ) (id : BlockId) (rows : List (List Value)) (held : Held) : Type 0 where
  pub table_is : held.table ≡ table
  pub id_is : held.id ≡ id
  pub count : held.rows ≡ length (normal_rows form rows)
  pub encoded : held.encoded ≡ part_file form.kinds (normal_rows form rows)

-- what is held of a delivery
pub record Holds (catalog : Catalog) (held : Held) (delivery : Delivery) : Type 0 where
  pub table : held.table ≡ delivery.table
  pub id : held.id ≡ delivery.entry.id
  pub rows : held.rows ≡ length delivery.entry.rows
  pub encoded : held.encoded ≡ part_file (form_at catalog delivery.table).kinds delivery.entry.rows

-- what is held of deliveries, in order
abbrev pub HoldsAll : Catalog → List Held → List Delivery → Type 0
HoldsAll catalog [] [] = Unit {0}
HoldsAll catalog [] (delivery ∷ plan) = ⊥
HoldsAll catalog (held ∷ rest) [] = ⊥
HoldsAll catalog (held ∷ rest) (delivery ∷ plan) = Holds catalog held delivery × HoldsAll catalog rest plan

-- the paths that begin with a view and have so many at most behind it, in preorder
abbrev pub paths_through : ℕ → List Link → ℕ → List (List ℕ)
paths_through room links view = (view ∷ []) ∷ map (λ path. view ∷ path) (paths_within room links (target_of links view))

-- the deliveries of a block along those of these paths on which rows are derived, behind a front of views
abbrev pub deliveries_behind : Catalog → ℕ → SourceKey → List (List Value) → List ℕ → List (List ℕ) → List Delivery
deliveries_behind catalog origin source block front paths =
    map (delivery_along catalog origin source block) (filter (λ path. not (is_empty (derived catalog block path))) (map (λ path. front ++ path) paths))

-- of each block that goes by this id, and of which these rows are derived along a front of views, this is held behind the front;
-- there no view divides by zero
pub record AreHeld (catalog : Catalog) (id : BlockId) (front : List ℕ) (rows : List (List Value)) (held : List Held) (paths : List (List ℕ)) : Type 0 where
  pub holds : (origin : ℕ) (source : SourceKey) (block : List (List Value)) → derived catalog block front ≡ rows → source_id source ≡ id
      → HoldsAll catalog held (deliveries_behind catalog origin source block front paths)
  pub sound : list_any (divides_along catalog rows) paths ≡ false

-- what refuses rows is that on one of these paths a view divides by zero
abbrev pub Refuses : Catalog → List (List Value) → List (List ℕ) → StatementFault → Type 0
Refuses catalog rows paths fault =
    (refusal : Refusal) → fault ≡ Refused refusal → (refusal ≡ DivisionByZero) × (list_any (divides_along catalog rows) paths ≡ true)
