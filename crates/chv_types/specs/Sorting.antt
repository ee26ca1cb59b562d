-- Lists in order.
use Rattle.std.specs.Prelude.{Bool, List, [], ◌∷◌, if◌then◌else◌}

-- an item in front of the first that is not below it
abbrev pub put_in_order : {A : Type 0} → (A → A → Bool) → A → List A → List A
put_in_order below x [] = x ∷ []
put_in_order below x (y ∷ ys) = if below y x then y ∷ put_in_order below x ys else x ∷ (y ∷ ys)

-- a list in ascending order, each item put among those behind it
abbrev pub sorted_by : {A : Type 0} → (A → A → Bool) → List A → List A
sorted_by below [] = []
sorted_by below (x ∷ xs) = put_in_order below x (sorted_by below xs)
