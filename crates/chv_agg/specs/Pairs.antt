-- Pairs of a key and a value, those of one key as one.
use Rattle.std.specs.Prelude.{◌≡◌, Bool, if◌then◌else◌, List, [], ◌∷◌, map, Option, None, Some}
use Rattle.std.specs.List.{filter}
use Rattle.std.specs.Ordering.{is_eq}
use Rattle.std.specs.declared.cmp.Ordering.{Ordering}
use Rattle.chv_types.specs.Members.{by_order, members}

-- a joining gives the same however its steps are grouped
abbrev pub IsAssociative : {V : Type 0} → (V → V → V) → Type 0
IsAssociative {V} join = (a b c : V) → join (join a b) c ≡ join a (join b c)

-- a joining gives the same in either order
abbrev pub IsCommutative : {V : Type 0} → (V → V → V) → Type 0
IsCommutative {V} join = (a b : V) → join a b ≡ join b a

-- a function goes through two joinings: of joined values it gives the joined results
abbrev pub IsThrough : {V W : Type 0} → (V → V → V) → (W → W → W) → (V → W) → Type 0
IsThrough {V} join other f = (a b : V) → f (join a b) ≡ other (f a) (f b)

-- a function of lists is stepwise: the first item's result is joined in front of that of the others
abbrev pub IsStepwise : {A V : Type 0} → (V → V → V) → (List A → V) → Type 0
IsStepwise {A} join f = (first next : A) (items : List A) → f (first ∷ (next ∷ items)) ≡ join (f (first ∷ [])) (f (next ∷ items))

-- two values as one, where they are there
abbrev pub join_found : {V : Type 0} → (V → V → V) → Option V → Option V → Option V
join_found join None b = b
join_found join (Some a) None = Some a
join_found join (Some a) (Some b) = Some (join a b)

-- two lists of values as one, place by place; where one ends, the other goes on
abbrev pub join_each : {V : Type 0} → (V → V → V) → List V → List V → List V
join_each join [] bs = bs
join_each join (a ∷ rest) [] = a ∷ rest
join_each join (a ∷ rest) (b ∷ bs) = join a b ∷ join_each join rest bs

-- the keys of pairs
abbrev pub pair_keys : {K V : Type 0} → List (K × V) → List K
pair_keys pairs = map (λ pair. pair.0) pairs

-- the pairs whose key passes a test
abbrev pub kept : {K V : Type 0} → (K → Bool) → List (K × V) → List (K × V)
kept keep pairs = filter (λ pair. keep pair.0) pairs

-- pairs with other keys and other values
abbrev pub recast : {K L V W : Type 0} → (K → L) → (V → W) → List (K × V) → List (L × W)
recast key value pairs = map (λ pair. (key pair.0, value pair.1)) pairs

-- a pair among those that rise by their keys; where its key is there, its value is joined in front of the value there
abbrev pub put_pair : {K V : Type 0} → (K → K → Ordering) → (V → V → V) → K × V → List (K × V) → List (K × V)
put_pair cmp join pair [] = pair ∷ []
put_pair cmp join pair (first ∷ pairs) =
    by_order (cmp pair.0 first.0) (pair ∷ (first ∷ pairs)) ((first.0, join pair.1 first.1) ∷ pairs) (first ∷ put_pair cmp join pair pairs)

-- one pair for each key, in the order of keys, whose value is that of all values of the key, joined as they come
abbrev pub collapse : {K V : Type 0} → (K → K → Ordering) → (V → V → V) → List (K × V) → List (K × V)
collapse cmp join [] = []
collapse cmp join (pair ∷ pairs) = put_pair cmp join pair (collapse cmp join pairs)

-- the value of a pair, where it has the key
abbrev pub value_under : {K V : Type 0} → (K → K → Ordering) → K → K × V → Option V
value_under cmp key pair = if is_eq (cmp pair.0 key) then Some pair.1 else None

-- the values of a key as one, joined as they come, where a pair has the key
abbrev pub joint : {K V : Type 0} → (K → K → Ordering) → (V → V → V) → K → List (K × V) → Option V
joint cmp join key [] = None
joint cmp join key (pair ∷ pairs) = join_found join (value_under cmp key pair) (joint cmp join key pairs)

-- the items of a key
abbrev pub items_under : {A K : Type 0} → (K → K → Ordering) → (A → K) → K → List A → List A
items_under cmp key_of key items = filter (λ item. is_eq (cmp (key_of item) key)) items

-- items grouped by their keys: each key once and in order, with what a function gives of its items
abbrev pub grouped_by : {A K V : Type 0} → (K → K → Ordering) → (A → K) → (List A → V) → List A → List (K × V)
grouped_by cmp key_of f items = map (λ key. (key, f (items_under cmp key_of key items))) (members cmp (map key_of items))

-- items one by one: the key of each, with what the function gives of it alone
abbrev pub each_by_key : {A K V : Type 0} → (A → K) → (List A → V) → List A → List (K × V)
each_by_key key_of f items = map (λ item. (key_of item, f (item ∷ []))) items
