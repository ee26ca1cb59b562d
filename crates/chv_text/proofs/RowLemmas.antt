-- The values of a row beside the kinds of its columns, as far as both are there.
use Rattle.std.proofs.Common.{◌≡◌, ℕ, suc, ◌<◌, ◌≤◌, min, List, [], ◌∷◌, ◌++◌, length, drop, get_or, refl, sym, ap, ap₂, ◌∙◌, arith, append_assoc, append-nil, length-drop}
use Rattle.std.proofs.Math.Seq.{drop-cons}
use Rattle.std.specs.List.{flat_map, zip}
use Rattle.std.specs.Prelude.{codes}
use Rattle.chv_text.specs.Rows.{cell_text, value_text}
use Rattle.chv_types.specs.declared.kind.Kind.{Kind}
use Rattle.chv_types.specs.declared.value.Value.{Value}

-- values beside their kinds, each behind a tab
abbrev pub behind_tabs : List Kind → List Value → List ℕ
behind_tabs kinds values = flat_map (λ (cell : Kind × Value). codes "\t" ++ cell_text cell) (zip kinds values)

-- what is left begins with the first value that is left
behind_tabs-first : (kinds : List Kind) (values : List Value) (i : ℕ) (none : Kind) (nothing : Value) → i < length kinds → i < length values
    → behind_tabs (drop i kinds) (drop i values)
    ≡ (codes "\t" ++ value_text (get_or kinds i none) (get_or values i nothing)) ++ behind_tabs (drop (suc i) kinds) (drop (suc i) values)
behind_tabs-first kinds values i none nothing in_kinds in_values = rw (drop-cons kinds i none in_kinds, drop-cons values i nothing in_values) refl

-- one value more was put
pub behind_tabs-more : (kinds : List Kind) (values : List Value) (i next : ℕ) (none : Kind) (value : Value) (out tab put whole : List ℕ)
    → i < min (length kinds) (length values) → next ≡ suc i → value ≡ get_or values i value
    → tab ≡ out ++ codes "\t" → put ≡ tab ++ value_text (get_or kinds i none) value → out ++ behind_tabs (drop i kinds) (drop i values) ≡ whole
    → put ++ behind_tabs (drop next kinds) (drop next values) ≡ whole
behind_tabs-more kinds values i next none value out tab put whole within is at behind_tab behind_value before =
    let rest : List ℕ = behind_tabs (drop (suc i) kinds) (drop (suc i) values) in
    let text : List ℕ = value_text (get_or kinds i none) value in
    let first : behind_tabs (drop i kinds) (drop i values) ≡ (codes "\t" ++ text) ++ rest =
    behind_tabs-first kinds values i none value (omega (arith, within)) (omega (arith, within))
    ∙ ap (λ (v : Value). (codes "\t" ++ value_text (get_or kinds i none) v) ++ rest) (sym at) in
    let all : put ≡ out ++ (codes "\t" ++ text) = behind_value ∙ ap (λ (l : List ℕ). l ++ text) behind_tab ∙ append_assoc out (codes "\t") text in
    ap₂ (λ (l : List ℕ) (n : ℕ). l ++ behind_tabs (drop n kinds) (drop n values)) all is
    ∙ append_assoc out (codes "\t" ++ text) rest ∙ ap (λ (l : List ℕ). out ++ l) (sym first) ∙ before

zip-nothing : (kinds : List Kind) (values : List Value) → min (length kinds) (length values) ≡ 0 → zip kinds values ≡ []
zip-nothing [] values none = refl
zip-nothing (kind ∷ kinds) [] none = refl
zip-nothing (kind ∷ kinds) (value ∷ values) none = absurd (omega (arith, none))

-- where no value is left, all was put
pub behind_tabs-end : (kinds : List Kind) (values : List Value) (i : ℕ) (out whole : List ℕ) → min (length kinds) (length values) ≤ i
    → out ++ behind_tabs (drop i kinds) (drop i values) ≡ whole → out ≡ whole
behind_tabs-end kinds values i out whole end before =
    let none : zip (drop i kinds) (drop i values) ≡ [] =
    zip-nothing (drop i kinds) (drop i values) (omega (arith, end, length-drop i kinds, length-drop i values)) in
    sym (append-nil out) ∙ ap (λ (l : List (Kind × Value)). out ++ flat_map (λ (cell : Kind × Value). codes "\t" ++ cell_text cell) l) (sym none) ∙ before
