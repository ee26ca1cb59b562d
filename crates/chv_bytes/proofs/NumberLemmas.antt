-- Numbers of any width in bytes.
use Rattle.std.proofs.Common.{◌/◌, ◌%◌, ◌≡◌, ℕ, zero, suc, ◌+◌, ◌*◌, ◌^◌, ◌<◌, ◌≤◌, List, [], ◌∷◌, ◌++◌, length, take, drop, slice_index, refl, sym, ap, ap₂, ◌∙◌, arith}
use Rattle.std.proofs.Math.Nat.{div-div-eq-div-mul, div-one, pow-succ'}
use Rattle.std.proofs.lemmas.List.{get_or-drop, take_all}
use Rattle.std.specs.Int.{byte_at, bytes_low_first}
use Rattle.byteorder.specs.Endian.{little_bytes, little_from, little_number}
use Rattle.byteorder.specs.Numbers.{little_from-cons}
use Rattle.chv_bytes.specs.Places.{AreBytes}

-- a byte of a number, by its place
byte_at-quotient : (i x : ℕ) → byte_at i x ≡ x / 256 ^ i % 256
byte_at-quotient zero x = ap (λ (n : ℕ). n % 256) (sym (div-one x))
byte_at-quotient (suc i) x = refl

-- with a byte put below it, each byte of a number stands one place higher
byte_at-above : (i b x : ℕ) → b < 256 → byte_at (suc i) (b + 256 * x) ≡ byte_at i x
byte_at-above i b x h =
    let high : (b + 256 * x) / 256 ≡ x = omega (arith, h) in
    let quotient : (b + 256 * x) / 256 ^ suc i ≡ x / 256 ^ i =
    ap (λ (p : ℕ). (b + 256 * x) / p) (pow-succ' 256 i) ∙ sym (div-div-eq-div-mul (b + 256 * x) 256 (256 ^ i)) ∙ ap (λ (n : ℕ). n / 256 ^ i) high in
    ap (λ (n : ℕ). n % 256) quotient ∙ sym (byte_at-quotient i x)

-- with a byte put below it, the bytes of a number stand one place higher
bytes_low_first-above : (i n b x : ℕ) → b < 256 → bytes_low_first (suc i) n (b + 256 * x) ≡ bytes_low_first i n x
bytes_low_first-above i zero b x h = refl
bytes_low_first-above i (suc n) b x h =
    ap₂ (λ (y : ℕ) (ys : List ℕ). y ∷ ys) (byte_at-above i b x h) (bytes_low_first-above (suc i) n b x h)

-- what bytes read as is put as these bytes
pub bytes_of_number : (width : ℕ) (bytes : List ℕ) → width ≤ length bytes → AreBytes bytes → little_bytes width (little_number width bytes) ≡ take width bytes
bytes_of_number zero bytes within h = refl
bytes_of_number (suc width) [] within h = absurd (omega arith)
bytes_of_number (suc width) (b ∷ bytes) within h =
    let first : b < 256 = h 0 in
    let rest = little_number width bytes in
    let moved : little_from 1 width (b ∷ bytes) ≡ rest = little_from-cons 0 width b bytes in
    let low : (b + 256 * rest) % 256 ≡ b = omega (arith, first) in
    let high : bytes_low_first 1 width (b + 256 * rest) ≡ take width bytes =
    bytes_low_first-above 0 width b rest first ∙ bytes_of_number width bytes (omega arith) (λ i. h (suc i)) in
    rw moved (ap₂ (λ (y : ℕ) (ys : List ℕ). y ∷ ys) low high)

-- the same of exactly as many bytes as the width has
pub bytes_of_whole : (width : ℕ) (bytes : List ℕ) → length bytes ≡ width → AreBytes bytes → little_bytes width (little_number width bytes) ≡ bytes
bytes_of_whole width bytes same h = bytes_of_number width bytes (omega arith) h ∙ rw (sym same) (take_all (length bytes) bytes (omega arith))

-- texts of one length with something behind them are split in one way
pub same_split : (a b x y : List ℕ) → length a ≡ length b → a ++ x ≡ b ++ y → (a ≡ b) × (x ≡ y)
same_split [] [] x y same e = (refl, e)
same_split [] (c ∷ b) x y same e = absurd (omega arith)
same_split (c ∷ a) [] x y same e = absurd (omega arith)
same_split (c ∷ a) (d ∷ b) x y same e =
    let heads : c ≡ d = ap (λ (xs : List ℕ). slice_index xs 0) e in
    let tails : a ++ x ≡ b ++ y = ap (drop 1) e in
    let rest = same_split a b x y (omega arith) tails in
    (ap₂ (λ (z : ℕ) (zs : List ℕ). z ∷ zs) heads rest.0, rest.1)

-- bytes behind a place are bytes
pub AreBytes-drop : (n : ℕ) (bytes : List ℕ) → AreBytes bytes → AreBytes (drop n bytes)
AreBytes-drop n bytes are i = rw get_or-drop (are (n + i))
