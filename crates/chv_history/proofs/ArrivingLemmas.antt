-- Blocks that arrive under ids, by their entries.
use Rattle.std.proofs.Common.{◌≡◌, ◌≢◌, ℕ, ◌-◌, Bool, true, false, if◌then◌else◌, List, [], ◌∷◌, ◌++◌, length, map, take, drop, ◌==◌, Contains, refl, ap, subst, ◌∙◌, arith}
use Rattle.std.proofs.lemmas.Bool.{eq-eqb, ne_eqb}
use Rattle.std.proofs.lemmas.List.{take-append-drop}
use Rattle.std.proofs.lemmas.List.Elements.{Contains-append_right}
use Rattle.chv_catalog.specs.declared.definition.Definition.{Definition}
use Rattle.chv_catalog.specs.declared.definition.Definition.TheVariants.{Table, View}
use Rattle.chv_catalog.specs.declared.table_def.TableDef.{TableDef}
use Rattle.chv_part.specs.Arriving.{is_among_last, fresh}
use Rattle.chv_part.specs.Books.{Book, Entry, is_recent}
use Rattle.chv_part.proofs.BookLemmas.{is_recent-Decides}
use Rattle.chv_query.specs.Arrivals.{Arrival, entry_in}
use Rattle.chv_sip.specs.BlockIds.{last_ids}
use Rattle.chv_sip.specs.declared.block_id.BlockId.{BlockId}
use Rattle.chv_history.specs.Histories.{ids_in, put_at, with_none}

-- those that are left out are so by their entries too
pub fresh-entries : (window : ℕ) (ids : List BlockId) (arrivals : List Arrival) → fresh (λ (e : Entry). e.id) window ids (map entry_in arrivals) ≡ map entry_in (fresh (λ (a : Arrival). a.id) window ids arrivals)
fresh-entries window ids [] = refl
fresh-entries window ids (a ∷ arrivals) =
    elim (is_among_last window a.id ids)
    as (λ (b : Bool). (if b then fresh (λ (e : Entry). e.id) window ids (map entry_in arrivals) else entry_in a ∷ fresh (λ (e : Entry). e.id) window (ids ++ a.id ∷ []) (map entry_in arrivals))
    ≡ map entry_in (if b then fresh (λ (c : Arrival). c.id) window ids arrivals else a ∷ fresh (λ (c : Arrival). c.id) window (ids ++ a.id ∷ []) arrivals)) [
      | true ↦ fresh-entries window ids arrivals
      | false ↦ ap (λ (l : List Entry). entry_in a ∷ l) (fresh-entries window (ids ++ a.id ∷ []) arrivals)
    ]

-- the ids of entries are those of what arrived
pub ids-entries : (arrivals : List Arrival) → map (λ (e : Entry). e.id) (map entry_in arrivals) ≡ ids_in arrivals
ids-entries [] = refl
ids-entries (a ∷ arrivals) = ap (λ (l : List BlockId). a.id ∷ l) (ids-entries arrivals)

-- an id that is among the last of those under which blocks arrived is one of them
pub among_all : (window : ℕ) (arrivals : List Arrival) (id : BlockId) → is_among_last window id (ids_in arrivals) ≡ true → Contains (ids_in arrivals) id
among_all window arrivals id among =
    let book : Book = record { entries = map entry_in arrivals; layout = [] } in
    let ids = ids_in arrivals in
    let older = length ids - window in
    let recent : is_recent window id book ≡ true = ap (is_among_last window id) (ids-entries arrivals) ∙ among in
    let last : Contains (last_ids window ids) id = subst (λ (all : List BlockId). Contains (last_ids window all) id) (ids-entries arrivals) ((is_recent-Decides window id book).0 recent) in
    subst (λ (all : List BlockId). Contains all id) (take-append-drop older ids) (Contains-append_right (take older ids) (drop older ids) id last)

-- what was put at a number, and what is at every other one
pub put_at-same : {A : Type 0} (number : ℕ) (new : A) (old : ℕ → A) → put_at number new old number ≡ new
put_at-same {A} number new old = ap (λ (same : Bool). if same then new else old number) (eq-eqb number number refl)

pub put_at-other : {A : Type 0} (number n : ℕ) (new : A) (old : ℕ → A) → n ≢ number → put_at number new old n ≡ old n
put_at-other {A} number n new old other = ap (λ (same : Bool). if same then new else old n) (ne_eqb n number other)

-- of a new table there is none, and of every other number what was there
pub with_none-new : {A : Type 0} (definition : Definition) (def : TableDef) (number : ℕ) (each : ℕ → List A) → definition ≡ Table def → with_none definition number each number ≡ []
with_none-new {A} (Table new) def number each is = put_at-same number [] each
with_none-new {A} (View new) def number each is = absurd (cc is)

pub with_none-other : {A : Type 0} (definition : Definition) (number n : ℕ) (each : ℕ → List A) → n ≢ number → with_none definition number each n ≡ each n
with_none-other {A} (Table new) number n each other = put_at-other number n [] each other
with_none-other {A} (View new) number n each other = refl

-- what is there behind a definition was there before
pub with_none-among : {A : Type 0} (definition : Definition) (number n : ℕ) (each : ℕ → List A) (a : A) → Contains (with_none definition number each n) a → Contains (each n) a
with_none-among {A} (Table new) number n each a is =
    (elim (n == number) as (λ (b : Bool). Contains (if b then [] else each n) a → Contains (each n) a) [
      | true ↦ λ there. absurd (omega (arith, there.1))
      | false ↦ λ there. there
    ]) is
with_none-among {A} (View new) number n each a is = is
