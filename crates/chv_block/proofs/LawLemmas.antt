-- Bytes begin with one row or block at most.
use Rattle.std.proofs.Common.{◌≡◌, ℕ, pos, ◌<◌, ◌^◌, List, [], ◌∷◌, ◌++◌, length, refl, sym, ap₂, ◌∙◌, arith, append_assoc}
use Rattle.std.specs.Int.{to_le_bytes, w32, w64}
use Rattle.std.proofs.lemmas.Int.{ints}
use Rattle.chv_bytes.specs.Integers.{InRange}
use Rattle.chv_bytes.specs.declared.integer.IntKind.TheVariants.{U64}
use Rattle.chv_bytes.proofs.IntegerLemmas.{one_integer}
use Rattle.chv_bytes.proofs.NumberLemmas.{same_split}
use Rattle.chv_types.specs.declared.kind.Kind.{Kind}
use Rattle.chv_types.specs.declared.value.Value.{Value}
use Rattle.chv_block.specs.Spellings.{value_spelling, codes_of, AreOf, row_spelling, AllAreOf, rows_spelling, block_spelling}
use Rattle.chv_block.proofs.ValueLemmas.{one_value}

-- two texts with something behind them, split once more
regroup : (a b c d x y : List ℕ) → (a ++ b) ++ x ≡ (c ++ d) ++ y → a ++ (b ++ x) ≡ c ++ (d ++ y)
regroup a b c d x y same = sym (append_assoc a b x) ∙ same ∙ append_assoc c d y

-- a beginning that two texts share can be left out
without : (a x y : List ℕ) → a ++ x ≡ a ++ y → x ≡ y
without a x y same = (same_split a a x y refl same).1

pub one_row : (kinds : List Kind) (a b : List Value) (x y : List ℕ) → AreOf kinds a → AreOf kinds b
    → row_spelling kinds a ++ x ≡ row_spelling kinds b ++ y → (a ≡ b) × (x ≡ y)
one_row [] [] [] x y h k same = (refl, same)
one_row [] [] (w ∷ b) x y h k same = absurd k
one_row [] (v ∷ a) b x y h k same = absurd h
one_row (kind ∷ kinds) [] b x y h k same = absurd h
one_row (kind ∷ kinds) (v ∷ a) [] x y h k same = absurd k
one_row (kind ∷ kinds) (v ∷ a) (w ∷ b) x y h k same =
    let first = one_value kind v w (row_spelling kinds a ++ x) (row_spelling kinds b ++ y) h.0 k.0
    (regroup (value_spelling kind v) (row_spelling kinds a) (value_spelling kind w) (row_spelling kinds b) x y same) in
    let rest = one_row kinds a b x y h.1 k.1 first.1 in
    (ap₂ (λ (z : Value) (zs : List Value). z ∷ zs) first.0 rest.0, rest.1)

-- bytes begin with one list of rows of a length at most
one_rows : (kinds : List Kind) (a b : List (List Value)) (x y : List ℕ) → length a ≡ length b → AllAreOf kinds a → AllAreOf kinds b
    → rows_spelling kinds a ++ x ≡ rows_spelling kinds b ++ y → (a ≡ b) × (x ≡ y)
one_rows kinds [] [] x y long h k same = (refl, same)
one_rows kinds [] (w ∷ b) x y long h k same = absurd (omega (arith, long))
one_rows kinds (v ∷ a) [] x y long h k same = absurd (omega (arith, long))
one_rows kinds (v ∷ a) (w ∷ b) x y long h k same =
    let first = one_row kinds v w (rows_spelling kinds a ++ x) (rows_spelling kinds b ++ y) h.0 k.0
    (regroup (row_spelling kinds v) (rows_spelling kinds a) (row_spelling kinds w) (rows_spelling kinds b) x y same) in
    let rest = one_rows kinds a b x y (omega (arith, long)) h.1 k.1 first.1 in
    (ap₂ (λ (z : List Value) (zs : List (List Value)). z ∷ zs) first.0 rest.0, rest.1)

-- a number of rows is an integer of 8 bytes
rows_number : (n : ℕ) → n < 2 ^ 64 → InRange U64 (pos n)
rows_number n h = record { least = omega (arith, ints); greatest = omega (arith, ints, h) }

pub one_block : (kinds : List Kind) (a b : List (List Value)) (x y : List ℕ) → length a < 2 ^ 64 → length b < 2 ^ 64 → AllAreOf kinds a → AllAreOf kinds b
    → block_spelling kinds a ++ x ≡ block_spelling kinds b ++ y → (a ≡ b) × (x ≡ y)
one_block kinds a b x y small_a small_b h k same =
    let front = to_le_bytes w32 (length kinds) ++ codes_of kinds in
    let rows_a = to_le_bytes w64 (length a) in
    let rows_b = to_le_bytes w64 (length b) in
    let all_a = rows_spelling kinds a in
    let all_b = rows_spelling kinds b in
    let numbers : (front ++ rows_a) ++ (all_a ++ x) ≡ (front ++ rows_b) ++ (all_b ++ y) = regroup (front ++ rows_a) all_a (front ++ rows_b) all_b x y same in
    let behind : rows_a ++ (all_a ++ x) ≡ rows_b ++ (all_b ++ y) = without front _ _ (regroup front rows_a front rows_b (all_a ++ x) (all_b ++ y) numbers) in
    let number = one_integer U64 (pos (length a)) (pos (length b)) (all_a ++ x) (all_b ++ y) (rows_number (length a) small_a) (rows_number (length b) small_b) behind in
    let long : length a ≡ length b = omega (arith, ints, number.0) in
    one_rows kinds a b x y long h k number.1
