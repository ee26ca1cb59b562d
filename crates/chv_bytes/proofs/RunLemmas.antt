-- Runs of bytes.
use Rattle.std.proofs.Common.{◌≡◌, ℕ, ◌+◌, ◌-◌, ◌^◌, ◌<◌, ◌≤◌, List, ◌++◌, length, take, drop, refl, sym, ap, ap₂, ◌∙◌, arith, length-append, length-take, length-drop}
use Rattle.std.proofs.lemmas.List.{drop-drop, length-take-le, take-append-drop}
use Rattle.byteorder.specs.Endian.{little_bytes, little_number}
use Rattle.byteorder.specs.Numbers.{little_from-lt, little_number-reads_back}
use Rattle.chv_bytes.specs.Places.{AreBytes}
use Rattle.chv_bytes.specs.Runs.{run_bytes, between, RunFits, RunStandsAt}
use Rattle.chv_bytes.proofs.NumberLemmas.{AreBytes-drop, bytes_of_number, same_split}

-- bytes begin with one run at most
pub one_run : (a b x y : List ℕ) → length a < 2 ^ 32 → length b < 2 ^ 32 → run_bytes a ++ x ≡ run_bytes b ++ y → (a ≡ b) × (x ≡ y)
one_run a b x y of_a of_b same =
    let long : length a ≡ length b =
    sym (little_number-reads_back 4 (length a) (a ++ x) of_a) ∙ ap (λ (l : List ℕ). little_number 4 l) same ∙ little_number-reads_back 4 (length b) (b ++ y) of_b in
    same_split a b x y long (ap (λ (l : List ℕ). drop 4 l) same)

-- a run that stands at a place fits there
pub run_fits : (run rest bytes : List ℕ) (at : ℕ) → length run < 2 ^ 32 → drop at bytes ≡ run_bytes run ++ rest → RunFits bytes at
run_fits run rest bytes at short stands =
    let whole : length (drop at bytes) ≡ length (run_bytes run ++ rest) = ap length stands in
    let size : length (drop at bytes) ≡ 4 + length run + length rest = omega (arith, whole, length-append run rest) in
    let number : little_number 4 (drop at bytes) ≡ length run = ap (λ (l : List ℕ). little_number 4 l) stands ∙ little_number-reads_back 4 (length run) (run ++ rest) short in
    let left = length-drop at bytes in
    record { length_fits = omega (arith, size, left); run_fits = omega (arith, size, left, number) }

-- where a run fits, it stands
pub run_stands : (bytes : List ℕ) (at n : ℕ) → n ≡ little_number 4 (drop at bytes) → at + 4 + n ≤ length bytes → AreBytes bytes → RunStandsAt bytes at (at + 4) (at + 4 + n)
run_stands bytes at n number within are =
    let start = at + 4 in
    let left = length-drop start bytes in
    let run = between start (start + n) bytes in
    let size : start + n - start ≡ n = omega arith in
    let long : length run ≡ n = rw size (length-take-le n (drop start bytes) (omega (arith, left))) in
    let front : little_bytes 4 (length run) ≡ take 4 (drop at bytes) =
    ap (λ (m : ℕ). little_bytes 4 m) (long ∙ number) ∙ bytes_of_number 4 (drop at bytes) (omega (arith, length-drop at bytes)) (AreBytes-drop at bytes are) in
    let behind : run ++ drop (start + n) bytes ≡ drop start bytes =
    rw size (ap (λ (l : List ℕ). take n (drop start bytes) ++ l) (sym (drop-drop n start bytes)) ∙ take-append-drop n (drop start bytes)) in
    let all : run_bytes run ++ drop (start + n) bytes ≡ drop at bytes =
    ap₂ (λ (x y : List ℕ). x ++ y) front (behind ∙ sym (drop-drop 4 at bytes)) ∙ take-append-drop 4 (drop at bytes) in
    record {
      behind_length = refl;
      in_order = omega arith;
      short = omega (arith, number, little_from-lt 0 4 (drop at bytes) (AreBytes-drop at bytes are));
      stands = record { next = omega (arith, long); within = within; spelled = sym all };
    }

-- a run that was put at a place is the one that stands there
pub run_reads_back : (run rest bytes : List ℕ) (at start end : ℕ) → length run < 2 ^ 32 → drop at bytes ≡ run_bytes run ++ rest → RunStandsAt bytes at start end
    → (between start end bytes ≡ run) × (drop end bytes ≡ rest)
run_reads_back run rest bytes at start end short put h =
    let long : length (between start end bytes) < 2 ^ 32 = omega (arith, h.short, length-take (end - start) (drop start bytes)) in
    one_run (between start end bytes) run (drop end bytes) rest long short (sym h.stands.spelled ∙ put)
