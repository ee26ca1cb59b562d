-- What a list has, each once and in order.
use Rattle.std.specs.Prelude.{◌≡◌, ◌↔◌, List, [], ◌∷◌}
use Rattle.std.specs.List.{All, Contains}
use Rattle.std.specs.declared.cmp.Ordering.{Ordering}
use Rattle.std.specs.declared.cmp.Ordering.TheVariants.{Less, Equal, Greater}

-- one of three, by how two items stand to each other
abbrev pub by_order : {A : Type 0} → Ordering → A → A → A → A
by_order Less less equal greater = less
by_order Equal less equal greater = equal
by_order Greater less equal greater = greater

-- an item among those of a list that rises; where it is there, the list stays
abbrev pub put_member : {A : Type 0} → (A → A → Ordering) → A → List A → List A
put_member cmp x [] = x ∷ []
put_member cmp x (y ∷ ys) = by_order (cmp x y) (x ∷ (y ∷ ys)) (y ∷ ys) (y ∷ put_member cmp x ys)

-- the items of a list in ascending order, each once
abbrev pub members : {A : Type 0} → (A → A → Ordering) → List A → List A
members cmp [] = []
members cmp (x ∷ xs) = put_member cmp x (members cmp xs)

-- each item stands before those behind it
abbrev pub Rises : {A : Type 0} → (A → A → Ordering) → List A → Type 0
Rises cmp [] = Unit {0}
Rises cmp (x ∷ xs) = All (λ y. cmp x y ≡ Less) xs × Rises cmp xs

-- two lists have the same items, each as often as it likes
abbrev pub HaveSame : {A : Type 0} → List A → List A → Type 0
HaveSame {A} xs ys = (x : A) → Contains xs x ↔ Contains ys x
