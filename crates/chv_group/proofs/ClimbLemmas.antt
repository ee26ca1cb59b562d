-- Numbers that climb.
use Rattle.std.proofs.Common.{◌≡◌, ◌∙◌, ◌+◌, ◌<◌, ◌<ℤ◌, ◌++◌, ◌∷◌, [], ℕ, ℤ, zero, suc, List, Bool, true, false, Option, Some, None, cond, length, get_or, take, map, option_map, refl, sym, ap, ap₂, subst, arith}
use Rattle.std.proofs.lemmas.Bool.Decides.{Decides-int_eq}
use Rattle.std.proofs.lemmas.Int.{ints}
use Rattle.std.proofs.lemmas.List.{append-nil}
use Rattle.std.proofs.lemmas.List.Elements.{All-cons, All-head, All-nil, All-push, All-tail}
use Rattle.std.specs.List.{All, position}
use Rattle.std.specs.Ordering.{int_eq}
use Rattle.std.specs.Int.{w128}
use Rattle.std.specs.Int.RustNames.{FitsSigned}
use Rattle.std.specs.declared.alloc.Global.{Global}
use Rattle.std.specs.declared.vec.Vec.{Vec}
use Rattle.chv_group.proofs.KeyNameLemmas.{place_of-number, position-cons}
use Rattle.chv_group.specs.KeyBytes.{AreKept, Climb, names_of, number_name}
use Rattle.chv_types.specs.Names.{place_of}

int_eq-below : (n m : ℤ) → m <ℤ n → int_eq n m ≡ false
int_eq-below n m below =
    elim (int_eq n m) as (λ b. int_eq n m ≡ b → b ≡ false) [
      | true ↦ λ e. let same : n ≡ m = (Decides-int_eq n m).0 e in absurd (omega (arith, ints, below, same))
      | false ↦ λ e. refl
    ] refl

-- a number above others is none of them
pub position-above : (n : ℤ) (numbers : List ℤ) → All (λ m. m <ℤ n) numbers → position (int_eq n) numbers ≡ None
position-above n [] above = refl
position-above n (m ∷ numbers) above =
    position-cons (int_eq n) m numbers
    ∙ ap₂ (λ (b : Bool) (o : Option ℕ). cond b (Some 0) (option_map suc o)) (int_eq-below n m (All-head (λ m. m <ℤ n) m numbers above))
    (position-above n numbers (All-tail (λ m. m <ℤ n) m numbers above))

-- a number that climbing numbers have is at its place
pub position-at : (n : ℤ) (numbers : List ℤ) (i : ℕ) (d : ℤ) → Climb numbers → i < length numbers → get_or numbers i d ≡ n → position (int_eq n) numbers ≡ Some i
position-at n [] i d climb within is = absurd (omega arith)
position-at n (m ∷ numbers) zero d climb within is =
    position-cons (int_eq n) m numbers ∙ ap (λ (b : Bool). cond b (Some 0) (option_map suc (position (int_eq n) numbers))) ((Decides-int_eq n m).1 (sym is))
position-at n (m ∷ numbers) (suc i) d climb within is =
    let below : m <ℤ n = subst (λ (k : ℤ). m <ℤ k) is (climb.0 i d (omega arith)) in
    position-cons (int_eq n) m numbers
    ∙ ap₂ (λ (b : Bool) (o : Option ℕ). cond b (Some 0) (option_map suc o)) (int_eq-below n m below) (position-at n numbers i d climb.1 (omega arith) is)

-- what is above the last of climbing numbers is above all
pub above-all : (n m : ℤ) (numbers : List ℤ) (d : ℤ) → Climb (m ∷ numbers) → get_or (m ∷ numbers) (length numbers) d <ℤ n → All (λ k. k <ℤ n) (m ∷ numbers)
above-all n m [] d climb last = All-cons (λ k. k <ℤ n) m [] last (All-nil (λ k. k <ℤ n))
above-all n m (k ∷ numbers) d climb last =
    let rest : All (λ k. k <ℤ n) (k ∷ numbers) = above-all n k numbers d climb.1 last in
    All-cons (λ k. k <ℤ n) m (k ∷ numbers) (omega (arith, ints, All-head (λ j. m <ℤ j) k numbers climb.0, All-head (λ k. k <ℤ n) k numbers rest)) rest

pub above-last : (n : ℤ) (numbers : List ℤ) (i : ℕ) (d : ℤ) → Climb numbers → i + 1 ≡ length numbers → get_or numbers i d <ℤ n → All (λ k. k <ℤ n) numbers
above-last n [] i d climb is last = absurd (omega (arith, is))
above-last n (m ∷ numbers) i d climb is last =
    above-all n m numbers d climb (subst (λ (place : ℕ). get_or (m ∷ numbers) place d <ℤ n) (omega (arith, is)) last)

-- one number more
pub Climb-push : (numbers : List ℤ) (n : ℤ) → Climb numbers → All (λ m. m <ℤ n) numbers → Climb (numbers ++ n ∷ [])
Climb-push [] n climb above = (All-nil (λ m. n <ℤ m), tt)
Climb-push (m ∷ numbers) n climb above = (
  All-push (λ k. m <ℤ k) numbers n climb.0 (All-head (λ k. k <ℤ n) m numbers above),
  Climb-push numbers n climb.1 (All-tail (λ k. k <ℤ n) m numbers above),
)

-- a number of climbing numbers is above those before it
pub above-before : (numbers : List ℤ) (i : ℕ) (d : ℤ) → Climb numbers → i < length numbers → All (λ m. m <ℤ get_or numbers i d) (take i numbers)
above-before [] i d climb within = absurd (omega arith)
above-before (m ∷ numbers) zero d climb within = All-nil (λ k. k <ℤ m)
above-before (m ∷ numbers) (suc i) d climb within =
    All-cons (λ k. k <ℤ get_or numbers i d) m (take i numbers) (climb.0 i d (omega arith)) (above-before numbers i d climb.1 (omega arith))

-- what holds of two lists holds of the first
pub All-front : {A : Type 0} (P : A → Type 0) (xs ys : List A) → All P (xs ++ ys) → All P xs
All-front P [] ys all = All-nil P
All-front P (x ∷ xs) ys all = All-cons P x xs (All-head P x (xs ++ ys) all) (All-front P xs ys (All-tail P x (xs ++ ys) all))

-- the place of a number is that of its key, where there are no other keys
pub place-climbing : (n : ℤ) (climbing numbers : List ℤ) (keys : List (Vec ℕ Global)) → FitsSigned w128 n → All (FitsSigned w128) (climbing ++ numbers) → numbers ≡ [] → keys ≡ []
    → position (int_eq n) climbing ≡ place_of (number_name n) (names_of (climbing ++ numbers) keys)
place-climbing n climbing numbers keys fits all none empty =
    let names : names_of (climbing ++ numbers) keys ≡ map number_name climbing = rw (none, empty, append-nil climbing) (append-nil (map number_name climbing)) in
    sym (place_of-number n climbing fits (All-front (FitsSigned w128) climbing numbers all)) ∙ ap (place_of (number_name n)) (sym names)

-- climbing numbers with no others behind them, and one more
pub AreKept-push : (climbing numbers : List ℤ) (n : ℤ) → AreKept climbing numbers → numbers ≡ [] → FitsSigned w128 n → All (λ m. m <ℤ n) climbing → AreKept (climbing ++ n ∷ []) numbers
AreKept-push climbing numbers n kept none fits above = record {
  fit = rw (none, append-nil (climbing ++ n ∷ [])) (All-push (FitsSigned w128) climbing n (All-front (FitsSigned w128) climbing numbers kept.fit) fits);
  climb = Climb-push climbing n kept.climb above;
  alone = λ some. none;
}
