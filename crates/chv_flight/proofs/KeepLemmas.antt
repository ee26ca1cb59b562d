-- What is held of planned deliveries stays that, and room stays, where a table or a view is made, or nothing.
use Rattle.std.proofs.Common.{◌≡◌, ℕ, List, [], ◌∷◌, ◌++◌, Some, Ok, Err, OnOk, sym, ap, subst, ◌∙◌}
use Rattle.std.specs.Prelude.{Result}
use Rattle.chv_ast.specs.declared.statement.Statement.{Statement}
use Rattle.chv_catalog.specs.Schemas.{Catalog, with_definition}
use Rattle.chv_catalog.specs.declared.definition.Definition.{Definition}
use Rattle.chv_plan.specs.Deliveries.{Delivers, DeliversAll}
use Rattle.chv_plan.specs.declared.delivery.Delivery.{Delivery as HeldDelivery}
use Rattle.chv_query.proofs.AcceptedLemmas.{IsSchema-push, catalog_of-push}
use Rattle.chv_query.proofs.GrowthLemmas.{IsArrival-more, def_at-more}
use Rattle.chv_query.specs.Accepted.{Accepted, IsAccepted, IsSchema, catalog_of}
use Rattle.chv_query.specs.Derived.{def_at}
use Rattle.chv_query.specs.Plans.{Delivery}
use Rattle.chv_store.specs.Calls.{HoldsSame}
use Rattle.chv_store.specs.Openings.{MakesDefinition}
use Rattle.chv_store.specs.Stores.{HasRoom, IsWithin}
use Rattle.chv_store.specs.declared.store.Store.{Store}
use Rattle.chv_flight.specs.Takes.{KeepsPlans}

module _ (schema : List Accepted) (accepted : Accepted) (lawful : IsSchema (schema ++ accepted ∷ [])) where
  grow_one : (held : HeldDelivery) (d : Delivery) → Delivers (catalog_of schema) held d → Delivers (catalog_of (schema ++ accepted ∷ [])) held d
  grow_one held d is = record {
    def = is.def;
    stands = subst (λ (c : Catalog). def_at c d.table ≡ Some is.def) (sym (catalog_of-push schema accepted)) (def_at-more accepted.definition (catalog_of schema) d.table is.def is.stands);
    numbered = is.numbered;
    table = is.table;
    lawful = IsArrival-more schema accepted lawful d.table d.entry is.lawful;
    id = is.id;
    rows = is.rows;
    encoded = is.encoded;
  }

  grow_all : (held : List HeldDelivery) (plan : List Delivery) → DeliversAll (catalog_of schema) held plan → DeliversAll (catalog_of (schema ++ accepted ∷ [])) held plan
  grow_all [] [] delivers = tt
  grow_all [] (d ∷ plan) delivers = absurd delivers
  grow_all (first ∷ held) [] delivers = absurd delivers
  grow_all (first ∷ held) (d ∷ plan) delivers = (grow_one first d delivers.0, grow_all held plan delivers.1)

-- a table or a view is made
pub keeps_made : (was is : Store) (create : Statement) (definition : Definition) → IsWithin was → MakesDefinition was.schema.catalog create definition → is.schema.catalog ≡ with_definition definition was.schema.catalog
    → ((table count : ℕ) → HasRoom count was table → HasRoom count is table) → KeepsPlans was is
keeps_made was is create definition within makes catalog rooms =
    let accepted : Accepted = record { statement = create; definition = definition } in
    let schema = within.defined.0 in
    let here : catalog_of schema ≡ was.schema.catalog = within.defined.2 in
    let passes : IsAccepted (catalog_of schema) accepted = subst (λ (c : Catalog). IsAccepted c accepted) (sym here) makes in
    let lawful = IsSchema-push schema accepted within.defined.1 passes in
    let next : catalog_of (schema ++ accepted ∷ []) ≡ is.schema.catalog = catalog_of-push schema accepted ∙ ap (with_definition definition) here ∙ sym catalog in
    record {
      plans = λ held plan delivers.
          subst (λ (c : Catalog). DeliversAll c held plan) next (grow_all schema accepted lawful held plan (subst (λ (c : Catalog). DeliversAll c held plan) (sym here) delivers));
      rooms = rooms;
    }

-- the same is held
pub keeps_same : (was is : Store) → HoldsSame was is → ((table count : ℕ) → HasRoom count was table → HasRoom count is table) → KeepsPlans was is
keeps_same was is same rooms = record {
  plans = λ held plan delivers. subst (λ (c : Catalog). DeliversAll c held plan) (sym (ap (λ s. s.catalog) same.schema)) delivers;
  rooms = rooms;
}

-- the store is as it was
pub keeps_itself : {T E : Type 0} (r : Result T E) (store : Store) → OnOk r (KeepsPlans store store)
keeps_itself (Ok x) store = record { plans = λ held plan delivers. delivers; rooms = λ table count room. room }
keeps_itself (Err e) store = tt

-- what is so in any case is so where a call does not fail
pub keeps_on : {T E : Type 0} (r : Result T E) (was is : Store) → KeepsPlans was is → OnOk r (KeepsPlans was is)
keeps_on (Ok x) was is keeps = keeps
keeps_on (Err e) was is keeps = tt
