-- Places of columns.
use Rattle.std.proofs.Common.{◌≡◌, ◌<◌, ℕ, suc, true, false, List, [], ◌∷◌, length, get_or, drop, Option, None, Some, is_some, is_none, nat_eq, refl, sym, ap, subst, ◌∙◌}
use Rattle.std.specs.List.{list_any, cons_option}
use Rattle.std.specs.Str.{bytes_eq}
use Rattle.std.proofs.Math.Seq.{drop-cons}
use Rattle.std.proofs.lemmas.Bool.{or_parts, ne_eqb}
use Rattle.std.proofs.lemmas.List.{length-map}
use Rattle.std.proofs.lemmas.List.Quantifiers.{position-Some}
use Rattle.std.proofs.lemmas.Slice.Eq.{bytes_eq-Decides}
use Rattle.chv_catalog.proofs.Positions.{is_some-position}
use Rattle.chv_catalog.proofs.SchemaLemmas.{place_of-within}
use Rattle.chv_catalog.specs.Checks.{has_repeat, is_unknown, places_of}
use Rattle.chv_types.specs.Names.{place_of}
use Rattle.chv_plan.specs.Places.{ArePlaces, names_in}
use Rattle.chv_types.specs.declared.table.Column.{Column}

-- a column at a place has the name of that place
place_name : (name : List ℕ) (columns : List (List ℕ)) (place : ℕ) → place_of name columns ≡ Some place → get_or columns place [] ≡ name
place_name name columns place found =
    (bytes_eq-Decides (get_or columns place []) name).0 (position-Some (λ (other : List ℕ). bytes_eq other name) columns place [] found).1

-- names that differ have different places
differ : (columns : List (List ℕ)) (name other : List ℕ) (place found : ℕ) → place_of name columns ≡ Some place → place_of other columns ≡ Some found
    → bytes_eq other name ≡ false → nat_eq found place ≡ false
differ columns name other place found is other_is e =
    ne_eqb found place (λ same.
    let twice : other ≡ name = sym (place_name other columns found other_is) ∙ ap (λ (p : ℕ). get_or columns p []) same ∙ place_name name columns place is in
    let equal : bytes_eq other name ≡ true = (bytes_eq-Decides other name).1 twice in cc)

-- the place of a name is none of those of other names
apart_step : (columns : List (List ℕ)) (name other : List ℕ) (place : ℕ) (rest : List ℕ) (found : Option ℕ) → place_of name columns ≡ Some place → place_of other columns ≡ found
    → bytes_eq other name ≡ false → list_any (λ p. nat_eq p place) rest ≡ false → list_any (λ p. nat_eq p place) (cons_option found rest) ≡ false
apart_step columns name other place rest None is other_is e before = before
apart_step columns name other place rest (Some found) is other_is e before = rw (differ columns name other place found is other_is e) before

apart : (columns : List (List ℕ)) (name : List ℕ) (place : ℕ) (names : List (List ℕ)) → place_of name columns ≡ Some place → list_any (λ other. bytes_eq other name) names ≡ false
    → list_any (λ p. nat_eq p place) (places_of columns names) ≡ false
apart columns name place [] is none = refl
apart columns name place (other ∷ names) is none =
    let parts : (bytes_eq other name ≡ false) × (list_any (λ (o : List ℕ). bytes_eq o name) names ≡ false) = or_parts _ _ none in
    apart_step columns name other place (places_of columns names) (place_of other columns) is refl parts.0 (apart columns name place names is parts.1)

placed : (columns : List (List ℕ)) (name : List ℕ) (names : List (List ℕ)) (found : Option ℕ) → place_of name columns ≡ found → is_none found ≡ false
    → is_some (place_of name names) ≡ false → ArePlaces (length columns) (places_of columns names) → ArePlaces (length columns) (cons_option found (places_of columns names))
placed columns name names None is known once before = cc
placed columns name names (Some place) is known once before =
    (place_of-within name columns place is, apart columns name place names is (sym (is_some-position (λ (other : List ℕ). bytes_eq other name) names) ∙ once), before)

-- names of columns, each of them once, have places, each of them once
pub places_of-ArePlaces : (columns names : List (List ℕ)) → list_any (is_unknown columns) names ≡ false → has_repeat names ≡ false → ArePlaces (length columns) (places_of columns names)
places_of-ArePlaces columns [] known once = tt
places_of-ArePlaces columns (name ∷ names) known once =
    let k : (is_unknown columns name ≡ false) × (list_any (is_unknown columns) names ≡ false) = or_parts _ _ known in
    let o : (is_some (place_of name names) ≡ false) × (has_repeat names ≡ false) = or_parts _ _ once in
    placed columns name names (place_of name columns) refl k.0 o.0 (places_of-ArePlaces columns names k.1 o.1)

pub column_places : (columns : List Column) (names : List (List ℕ)) → list_any (is_unknown (names_in columns)) names ≡ false → has_repeat names ≡ false
    → ArePlaces (length columns) (places_of (names_in columns) names)
column_places columns names known once =
    subst (λ (n : ℕ). ArePlaces n (places_of (names_in columns) names)) (length-map columns (λ column. column.name)) (places_of-ArePlaces (names_in columns) names known once)

-- places that are left begin with the first of them
pub first_place : (columns : ℕ) (places : List ℕ) (i next : ℕ) → ArePlaces columns (drop i places) → i < length places → next ≡ suc i
    → (get_or places i 0 < columns) × ArePlaces columns (drop next places)
first_place columns places i next are within e =
    let split : ArePlaces columns (get_or places i 0 ∷ drop (suc i) places) = rw (drop-cons places i 0 within) at are in
    (split.0, rw e split.2)
