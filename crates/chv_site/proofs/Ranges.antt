-- Ranges of places, and one more behind them.
use Rattle.std.proofs.Common.{◌⊎◌, ℕ, ◌+◌, ◌<◌, ◌≤◌, List, [], ◌∷◌, ◌++◌, length, take, get_or, subst, inl, inr}
use Rattle.std.proofs.lemmas.List.{take_more}
use Rattle.chv_site.specs.Files.{IsUntouched}
use Rattle.chv_site.specs.Crash.{IsTouched}

-- a place that no range has is in none of their front, nor in the last
pub untouched_front : (ranges : List (ℕ × ℕ)) (from to place : ℕ) → IsUntouched (ranges ++ (from, to) ∷ []) place → IsUntouched ranges place × ((place < from) ⊎ (to ≤ place))
untouched_front [] from to place h = (record {}, h.0)
untouched_front (range ∷ ranges) from to place h = let rest = untouched_front ranges from to place h.1 in ((h.0, rest.0), rest.1)

-- and the other way round
pub untouched_more : (ranges : List (ℕ × ℕ)) (from to place : ℕ) → IsUntouched ranges place → (place < from) ⊎ (to ≤ place) → IsUntouched (ranges ++ (from, to) ∷ []) place
untouched_more [] from to place h out = (out, record {})
untouched_more (range ∷ ranges) from to place h out = (h.0, untouched_more ranges from to place h.1 out)

-- a place that one of the ranges has is in their front or in the last
pub touched_front : (ranges : List (ℕ × ℕ)) (from to place : ℕ) → IsTouched (ranges ++ (from, to) ∷ []) place → IsTouched ranges place ⊎ ((from ≤ place) × (place < to))
touched_front [] from to place (inl here) = inr here
touched_front [] from to place (inr more) = elim more [ ]
touched_front (range ∷ ranges) from to place (inl here) = inl (inl here)
touched_front (range ∷ ranges) from to place (inr more) = elim (touched_front ranges from to place more) as (λ _. IsTouched (range ∷ ranges) place ⊎ ((from ≤ place) × (place < to))) [ inl front ↦ inl (inr front) | inr last ↦ inr last ]

-- the same of the ranges up to an index
pub untouched_next : (ranges : List (ℕ × ℕ)) (i place : ℕ) (d : ℕ × ℕ) → i < length ranges → IsUntouched (take (i + 1) ranges) place
    → IsUntouched (take i ranges) place × ((place < (get_or ranges i d).0) ⊎ ((get_or ranges i d).1 ≤ place))
untouched_next ranges i place d below h =
    untouched_front (take i ranges) (get_or ranges i d).0 (get_or ranges i d).1 place (subst (λ (xs : List (ℕ × ℕ)). IsUntouched xs place) (take_more ranges i d below) h)

pub touched_next : (ranges : List (ℕ × ℕ)) (i place : ℕ) (d : ℕ × ℕ) → i < length ranges → IsTouched (take (i + 1) ranges) place
    → IsTouched (take i ranges) place ⊎ (((get_or ranges i d).0 ≤ place) × (place < (get_or ranges i d).1))
touched_next ranges i place d below h =
    touched_front (take i ranges) (get_or ranges i d).0 (get_or ranges i d).1 place (subst (λ (xs : List (ℕ × ℕ)). IsTouched xs place) (take_more ranges i d below) h)
