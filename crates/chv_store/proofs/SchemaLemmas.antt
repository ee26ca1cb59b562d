-- Statements that are accepted one after the other, and the texts of a catalog.
use Rattle.std.proofs.Common.{◌≡◌, ℕ, List, [], ◌∷◌, ◌++◌, map, get_or, drop, true, refl, sym, ap, ap₂, subst}
use Rattle.chv_ast.specs.declared.statement.Statement.{Statement}
use Rattle.chv_catalog.specs.Schemas.{Catalog, no_definitions, with_definition}
use Rattle.chv_catalog.specs.declared.definition.Definition.{Definition}
use Rattle.chv_query.specs.Accepted.{Accepted, AreAccepted, AreTexts, Defines, IsAccepted, IsSchema, catalog_of, catalog_payload}
use Rattle.chv_query.proofs.AcceptedLemmas.{Defines-unique, with_schema, with_schema-cons, with_schema-nil}
use Rattle.chv_store.specs.Openings.{MakesDefinition}
use Rattle.chv_store.proofs.DefineLemmas.{statement_read}
use Rattle.chv_store.proofs.ReadingLemmas.{read_back}

-- an accepted text is that of one statement
text_unique : (catalog : Catalog) (a b : Accepted) → IsAccepted catalog a → IsAccepted catalog b → catalog_payload a ≡ catalog_payload b → a ≡ b
text_unique catalog a b lawful other same =
    let one = statement_read (catalog_payload a) a.statement b.statement (read_back a.statement lawful.formed) other.formed same in
    ap₂ (λ (s : Statement) (d : Definition). record { statement = s; definition = d }) one
    (Defines-unique catalog b.statement a.definition b.definition (subst (λ (s : Statement). Defines catalog s a.definition) one lawful.defines) other.defines)

-- statements that are accepted one after the other stay so where those behind another are the ones meant
same_next : (catalog : Catalog) (a b : Accepted) (schema : List Accepted) → a ≡ b → AreAccepted (with_definition b.definition catalog) schema → AreAccepted (with_definition a.definition catalog) schema
same_next catalog a b schema same are = subst (λ (s : Accepted). AreAccepted (with_definition s.definition catalog) schema) (sym same) are

-- schemas whose texts are the same are the same
accepted_unique : (catalog : Catalog) (xs ys : List Accepted) → AreAccepted catalog xs → AreAccepted catalog ys → map catalog_payload xs ≡ map catalog_payload ys → xs ≡ ys
accepted_unique catalog [] [] of_xs of_ys same = refl
accepted_unique catalog [] (y ∷ ys) of_xs of_ys same = cc
accepted_unique catalog (x ∷ xs) [] of_xs of_ys same = cc
accepted_unique catalog (x ∷ xs) (y ∷ ys) of_xs of_ys same =
    let text : catalog_payload x ≡ catalog_payload y = cc in
    let texts : map catalog_payload xs ≡ map catalog_payload ys = cc in
    let first = text_unique catalog x y of_xs.0 of_ys.0 text in
    ap₂ (λ (a : Accepted) (l : List Accepted). a ∷ l) first (accepted_unique (with_definition x.definition catalog) xs ys of_xs.1 (same_next catalog x y ys first of_ys.1) texts)

pub schema_unique : (xs ys : List Accepted) → IsSchema xs → IsSchema ys → map catalog_payload xs ≡ map catalog_payload ys → xs ≡ ys
schema_unique xs ys of_xs of_ys same = accepted_unique no_definitions xs ys of_xs of_ys same

-- the first texts of a schema are those of its first statements
first_texts : (catalog : Catalog) (xs ys : List (List ℕ)) (schema : List Accepted) → xs ++ ys ≡ map catalog_payload schema → AreAccepted catalog schema
    → (front : List Accepted) × (xs ≡ map catalog_payload front) × AreAccepted catalog front
first_texts catalog [] ys schema same are = ([], refl, tt)
first_texts catalog (x ∷ xs) ys [] same are = absurd (cc same)
first_texts catalog (x ∷ xs) ys (accepted ∷ schema) same are =
    let rest = first_texts (with_definition accepted.definition catalog) xs ys schema (ap (λ (l : List (List ℕ)). drop 1 l) same) are.1 in
    (accepted ∷ rest.0, ap₂ (λ (p : List ℕ) (ps : List (List ℕ)). p ∷ ps) (ap (λ (l : List (List ℕ)). get_or l 0 []) same) rest.1, (are.0, rest.2))

-- texts that are right stay so where the end of their list is left out
pub front-AreTexts : (xs ys : List (List ℕ)) → AreTexts (xs ++ ys) → AreTexts xs
front-AreTexts xs ys right =
    let front = first_texts no_definitions xs ys right.schema right.are right.lawful in
    record { schema = front.0; are = front.1; lawful = front.2 }

-- a text that is that of a statement which is accepted beside what is defined
abbrev pub IsNextText : Catalog → List ℕ → Type 0
IsNextText catalog payload = (accepted : Accepted) × IsAccepted catalog accepted × (payload ≡ catalog_payload accepted)

-- behind the texts of a schema, a text that is right is that of a statement that is accepted beside what it defines
next_text : (catalog : Catalog) (schema all : List Accepted) (payload : List ℕ) → AreAccepted catalog schema → AreAccepted catalog all → map catalog_payload schema ++ payload ∷ [] ≡ map catalog_payload all
    → IsNextText (with_schema catalog schema) payload
next_text catalog [] [] payload are others same = absurd (cc same)
next_text catalog [] (accepted ∷ all) payload are others same =
    (accepted, subst (λ (c : Catalog). IsAccepted c accepted) (sym (with_schema-nil catalog)) others.0, ap (λ (l : List (List ℕ)). get_or l 0 []) same)
next_text catalog (first ∷ schema) [] payload are others same = absurd (cc same)
next_text catalog (first ∷ schema) (other ∷ all) payload are others same =
    let one = text_unique catalog first other are.0 others.0 (ap (λ (l : List (List ℕ)). get_or l 0 []) same) in
    let last = next_text (with_definition first.definition catalog) schema all payload are.1 (same_next catalog first other all one others.1) (ap (λ (l : List (List ℕ)). drop 1 l) same) in
    (last.0, subst (λ (c : Catalog). IsAccepted c last.0) (with_schema-cons catalog first.definition schema) last.1, last.2)

-- and makes something there
pub next-AreTexts : (schema : List Accepted) (payload : List ℕ) → IsSchema schema → AreTexts (map catalog_payload schema ++ payload ∷ [])
    → (accepted : Accepted) × MakesDefinition (catalog_of schema) accepted.statement accepted.definition × (payload ≡ catalog_payload accepted)
next-AreTexts schema payload lawful right =
    next_text no_definitions schema right.schema payload lawful right.lawful right.are
