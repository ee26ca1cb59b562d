-- Fronts and rests of lists of bytes.
use Rattle.std.proofs.Common.{◌≡◌, ℕ, ◌+◌, ◌-◌, List, ◌++◌, length, take, drop, sym}
use Rattle.std.proofs.lemmas.List.{take-append-drop, take_rest, drop-drop}

-- what is left is the next n of it, and what is left behind them
pub next_and_rest : (place n : ℕ) (xs : List ℕ) → drop place xs ≡ take n (drop place xs) ++ drop (place + n) xs
next_and_rest place n xs = rw (← drop-drop n place xs) (sym (take-append-drop n (drop place xs)))

-- the same of a slice to the end
pub next_of_slice : (place n : ℕ) (xs ys : List ℕ) → ys ≡ xs → drop place xs ≡ take n (take (length ys - place) (drop place ys)) ++ drop (place + n) xs
next_of_slice place n xs ys e = rw (e, take_rest xs place) (next_and_rest place n xs)
