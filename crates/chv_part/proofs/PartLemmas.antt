-- The files of parts, and that each is read in one way.
use Rattle.std.proofs.Common.{◌≡◌, ◌≢◌, ℕ, ◌+◌, ◌-◌, ◌*◌, ◌/◌, ◌^◌, ◌<◌, ◌≤◌, min, List, [], ◌++◌, length, Result, Ok, Err, IfOk, subst, take, drop, codes, refl, sym, ap, ap₂, ◌∙◌, arith, append_assoc, length-append, length-drop, take_all, take-append-drop}
use Rattle.std.proofs.Math.Nat.{le-div_iff_mul-le}
use Rattle.std.specs.Int.{w32, w64, to_le_bytes}
use Rattle.byteorder.specs.Endian.{little_number}
use Rattle.byteorder.specs.Numbers.{little_number-reads_back}
use Rattle.chv_types.specs.declared.kind.Kind.{Kind}
use Rattle.chv_types.specs.declared.value.Value.{Value}
use Rattle.chv_bytes.proofs.NumberLemmas.{same_split}
use Rattle.chv_block.specs.Spellings.{AllAreOf, codes_of}
use Rattle.chv_sip.specs.BlockIds.{keyed_hash, first_key}
use Rattle.chv_part.specs.Books.{TableForm}
use Rattle.chv_part.specs.Columns.{head_spelling}
use Rattle.chv_part.specs.Parts.{columns_spelling, part_body, frame_head, framed, part_frame, part_file, IsPartFile, HashDiffers, IsShapeless}
use Rattle.chv_part.specs.declared.reading.PartFault.{PartFault}
use Rattle.chv_part.proofs.ColumnLemmas.{one_table}
use Rattle.chv_part.proofs.RoomLemmas.{columns_fit, rows_fit}

-- a number in front is read in one way
pub number-unique : (a b : ℕ) (x y : List ℕ) → a < 2 ^ 64 → b < 2 ^ 64 → to_le_bytes w64 a ++ x ≡ to_le_bytes w64 b ++ y → (a ≡ b) × (x ≡ y)
number-unique a b x y of_a of_b same = (
  sym (little_number-reads_back 8 a x of_a) ∙ ap (λ (l : List ℕ). little_number 8 l) same ∙ little_number-reads_back 8 b y of_b,
  ap (λ (l : List ℕ). drop 8 l) same,
)

-- framed bodies that are one file are one body
pub framed-body : (a b : ℕ) (x y : List ℕ) → framed a x ≡ framed b y → x ≡ y
framed-body a b x y same = ap (λ (l : List ℕ). drop 24 l) same

-- a file that begins with no head of a frame of its length is not framed
pub no_frame : (file head : List ℕ) (size count : ℕ) → size ≡ length file → count ≡ min 24 size → head ≡ take count file → (24 ≤ size → (kept : ℕ) → head ≢ frame_head (size - 24) kept)
    → (kept : ℕ) (body : List ℕ) → file ≢ framed kept body
no_frame file head size count long counts front none kept body same =
    let whole : length file ≡ 24 + length body = omega (arith, ap length same, length-append {A = ℕ}) in
    let sized : length body ≡ size - 24 = omega (arith, long, whole) in
    let full : count ≡ 24 = omega (arith, counts, long, whole) in
    none (omega (arith, long, whole)) kept
    (front ∙ ap (λ (n : ℕ). take n file) full ∙ ap (λ (l : List ℕ). take 24 l) same ∙ ap (λ (n : ℕ). frame_head n kept) sized)

-- a head tells one length, and has nothing behind the hash
pub fits_head : (head rest : List ℕ) (size length kept other : ℕ) → size < 2 ^ 64 → length < 2 ^ 64 → head ≡ codes "CHVPART1" ++ (to_le_bytes w64 length ++ (to_le_bytes w64 kept ++ rest)) → head ≡ frame_head size other
    → (length ≡ size) × (rest ≡ [])
fits_head head rest size length kept other of_size of_length spelled same =
    let sizes = number-unique length size (to_le_bytes w64 kept ++ rest) (to_le_bytes w64 other) of_length of_size (ap (λ (l : List ℕ). drop 8 l) (sym spelled ∙ same)) in
    (sizes.0, ap (λ (l : List ℕ). drop 8 l) sizes.1)

-- the head of a frame of its length, and the bytes behind it, are a framed file
pub framed_by_head : (file body : List ℕ) (size kept count : ℕ) → 24 ≤ size → size ≡ length file → take 24 file ≡ frame_head (size - 24) kept
    → count ≡ min (size - 24) (length file - 24) → body ≡ take count (drop 24 file) → file ≡ framed kept body
framed_by_head file body size kept count room long head counts read =
    let all : length (drop 24 file) ≤ count = omega (arith, counts, long, length-drop 24 file) in
    let behind : body ≡ drop 24 file = read ∙ take_all count (drop 24 file) all in
    let sized : size - 24 ≡ length body = omega (arith, ap length behind, long, length-drop 24 file) in
    sym (take-append-drop 24 file) ∙ ap₂ (λ (x y : List ℕ). x ++ y) (head ∙ ap (λ (n : ℕ). frame_head n kept) sized) (sym behind)

-- what is read of a frame is what its file has
pub read_of_frame : (kinds : List Kind) (file frame : List ℕ) (result : Result (List (List Value)) PartFault) → file ≡ frame → IfOk result (λ rows. frame ≡ part_file kinds rows)
    → IfOk result (λ rows. AllAreOf kinds rows) → IfOk result (λ rows. (form : TableForm) → form.kinds ≡ kinds → IsPartFile form rows file)
read_of_frame kinds file frame (Ok rows) is spelled fits = λ form same. record {
  kinds_fit = subst (λ (ks : List Kind). AllAreOf ks rows) (sym same) fits;
  spelled = is ∙ spelled ∙ ap (λ (ks : List Kind). part_file ks rows) (sym same);
}
read_of_frame kinds file frame (Err fault) is spelled fits = tt

-- a file without a frame is no part's
pub frameless : (form : TableForm) (file : List ℕ) → ((kept : ℕ) (body : List ℕ) → file ≢ framed kept body) → IsShapeless form file
unfolding part_file
frameless form file none = record {
  off = λ rows is. none (keyed_hash first_key (part_body form.kinds rows)) (part_body form.kinds rows) is.spelled;
  hash = λ kept body same. absurd (none kept body same);
}

-- nor is one whose body is that of no rows
pub off_body : (form : TableForm) (file : List ℕ) (kept : ℕ) (body : List ℕ) → file ≡ framed kept body → framed kept body ≡ part_frame body
    → ((rows : List (List Value)) → AllAreOf form.kinds rows → body ≢ part_body form.kinds rows) → IsShapeless form file
unfolding part_file
off_body form file kept body spelled right none =
    record {
      off = λ rows is.
          let theirs : List ℕ = part_body form.kinds rows in
          none rows is.kinds_fit (framed-body kept (keyed_hash first_key theirs) body theirs (sym spelled ∙ is.spelled));
      hash = λ hash other same. spelled ∙ right ∙ ap part_frame (framed-body kept hash body other (sym spelled ∙ same));
    }

-- two hashes of one body in one file are one
framed-hash : (a b : ℕ) (body : List ℕ) → a < 2 ^ 64 → b < 2 ^ 64 → framed a body ≡ framed b body → a ≡ b
framed-hash a b body of_a of_b same = (number-unique a b body body of_a of_b (ap (λ (l : List ℕ). drop 16 l) same)).0

-- a file that keeps another hash has not that of its body
other_hash : (kept found : ℕ) (file : List ℕ) → (d : HashDiffers kept found file) → file ≢ part_frame d.body
other_hash kept found file d same = d.differ (framed-hash kept found d.body d.words.0 d.words.1 (sym d.frame ∙ same ∙ ap (λ (hash : ℕ). framed hash d.body) (sym d.hash)))

-- a fault of the hash and one of the shape exclude each other
pub hash_or_shape : (form : TableForm) (kept found : ℕ) (file : List ℕ) → HashDiffers kept found file → IsShapeless form file → ⊥
hash_or_shape form kept found file d shape = other_hash kept found file d (shape.hash kept d.body d.frame)

-- the file of rows has no fault of the hash
pub hash_of_whole : (form : TableForm) (kept found : ℕ) (rows : List (List Value)) (file : List ℕ) → IsPartFile form rows file → HashDiffers kept found file → ⊥
unfolding part_file
hash_of_whole form kept found rows file whole d =
    let body = part_body form.kinds rows in
    other_hash kept found file d (whole.spelled ∙ ap part_frame (framed-body (keyed_hash first_key body) kept body d.body (sym whole.spelled ∙ d.frame)))

-- behind the kinds stand the number of rows and the columns
behind_kinds : (kinds : List Kind) (n : ℕ) (rows : List (List Value)) (columns : List ℕ) → head_spelling kinds n ++ columns ≡ part_body kinds rows
    → to_le_bytes w64 n ++ columns ≡ to_le_bytes w64 (length rows) ++ columns_spelling 0 kinds rows
behind_kinds kinds n rows columns same =
    let front = to_le_bytes w32 (length kinds) ++ codes_of kinds in
    let mine = to_le_bytes w64 n in
    let theirs = to_le_bytes w64 (length rows) in
    let all = columns_spelling 0 kinds rows in
    let split : front ++ (mine ++ columns) ≡ front ++ (theirs ++ all) = sym (append_assoc front mine columns) ∙ same ∙ append_assoc front theirs all in
    (same_split front front (mine ++ columns) (theirs ++ all) refl split).1

-- bodies of the same kinds have the same number of rows, and the same columns
pub body_agrees : (kinds : List Kind) (n : ℕ) (rows : List (List Value)) (columns : List ℕ) → n < 2 ^ 64 → length rows < 2 ^ 64
    → head_spelling kinds n ++ columns ≡ part_body kinds rows → (n ≡ length rows) × (columns ≡ columns_spelling 0 kinds rows)
body_agrees kinds n rows columns of_n of_rows same =
    number-unique n (length rows) columns (columns_spelling 0 kinds rows) of_n of_rows (behind_kinds kinds n rows columns same)

-- a body whose columns have fewer than 2 ^ 64 bytes has fewer rows than that
pub few_rows : (kinds : List Kind) (n : ℕ) (rows : List (List Value)) (columns : List ℕ) → 1 ≤ length kinds → AllAreOf kinds rows → length columns < 2 ^ 64
    → head_spelling kinds n ++ columns ≡ part_body kinds rows → length rows < 2 ^ 64
few_rows kinds n rows columns some of short same =
    let all : columns ≡ columns_spelling 0 kinds rows = ap (λ (l : List ℕ). drop 8 l) (behind_kinds kinds n rows columns same) in
    omega (arith, short, ap length all, rows_fit kinds rows some of)

-- where there are more rows than the columns have room for, the body is that of no rows
pub no_room : (kinds : List Kind) (n : ℕ) (columns body : List ℕ) → 1 ≤ length kinds → n < 2 ^ 64 → length columns < 2 ^ 64 → body ≡ head_spelling kinds n ++ columns
    → length columns / length kinds < n → (rows : List (List Value)) → AllAreOf kinds rows → body ≢ part_body kinds rows
no_room kinds n columns body some of_n short split more rows of same =
    let agree = body_agrees kinds n rows columns of_n (few_rows kinds n rows columns some of short (sym split ∙ same)) (sym split ∙ same) in
    let room : n * length kinds ≤ length columns = rw agree.0 (rw agree.1 (columns_fit kinds rows of)) in
    omega (arith, more, (le-div_iff_mul-le some).1 room)

-- a file is that of one list of rows
pub part_file-unique : (kinds : List Kind) (a b : List (List Value)) → length a < 2 ^ 64 → length b < 2 ^ 64 → AllAreOf kinds a → AllAreOf kinds b
    → part_file kinds a ≡ part_file kinds b → a ≡ b
unfolding part_file
part_file-unique kinds a b of_a of_b h k same =
    let bodies : part_body kinds a ≡ part_body kinds b = ap (λ (l : List ℕ). drop 24 l) same in
    let agree = body_agrees kinds (length a) b (columns_spelling 0 kinds a) of_a of_b bodies in
    (one_table kinds a b [] [] agree.0 h k (ap (λ (l : List ℕ). l ++ []) agree.1)).0

pub IsPartFile-unique : (form : TableForm) (a b : List (List Value)) (file : List ℕ) → length a < 2 ^ 64 → length b < 2 ^ 64 → IsPartFile form a file → IsPartFile form b file → a ≡ b
IsPartFile-unique form a b file of_a of_b is_a is_b = part_file-unique form.kinds a b of_a of_b is_a.kinds_fit is_b.kinds_fit (sym is_a.spelled ∙ is_b.spelled)
