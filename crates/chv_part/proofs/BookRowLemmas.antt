-- The rows of entries and of parts, and that those of all parts have the normal form of all rows.
use Rattle.std.proofs.Common.{◌≡◌, inl, inr, ℕ, ◌+◌, ◌-◌, ◌*◌, ◌<◌, ◌≤◌, ◌^◌, List, [], ◌∷◌, ◌++◌, length, take, drop, map, slice_range, refl, sym, ap, ap₂, subst, ◌∙◌, arith, append-nil}
use Rattle.std.specs.List.{All, flat_map}
use Rattle.std.proofs.lemmas.Bool.{cases_lt}
use Rattle.std.proofs.lemmas.Grind.{flat_map-append}
use Rattle.std.proofs.lemmas.List.{length-append, length-take, length-drop, take-append-drop, take-append-le, take-take, take_rest, drop-append-le, drop-drop, drop-take, drop_at}
use Rattle.std.proofs.lemmas.List.Elements.{All-head, All-tail, All-take, All-drop}
use Rattle.chv_agg.specs.Sets.{SetsWithin}
use Rattle.chv_block.specs.Spellings.{AllAreOf}
use Rattle.chv_commit.specs.Replays.{Span, AreRuns, span_of}
use Rattle.chv_commit.specs.declared.part_row.PartRow.{PartRow}
use Rattle.chv_commit.proofs.RunLemmas.{AreRuns-order}
use Rattle.chv_merge.proofs.EngineLemmas.{normal_form_of-again, normal_form_of-append, normal_form_of-kinds, normal_form_of-length, normal_form_of-some}
use Rattle.chv_types.specs.declared.value.Value.{Value}
use Rattle.chv_sip.specs.BlockIds.{SourceKey}
use Rattle.chv_part.specs.Books.{TableForm, Entry, Book, MAX_ROWS, normal_rows, IsEntry, appended, IsLawfulBook, rows_in, part_rows}
use Rattle.chv_part.specs.Naming.{entry_of}

-- the normal form of two lists may be taken of the first alone, and of what has the normal form of the second
normal_rows-first : (form : TableForm) (a b c : List (List Value)) → normal_rows form b ≡ normal_rows form c → normal_rows form (normal_rows form a ++ b) ≡ normal_rows form (a ++ c)
normal_rows-first form a b c same =
    normal_form_of-append form.engine form.kinds form.key (normal_rows form a) b
    ∙ ap₂ (λ (x y : List (List Value)). normal_rows form (x ++ y)) (normal_form_of-again form.engine form.kinds form.key a) same
    ∙ sym (normal_form_of-append form.engine form.kinds form.key a c)

-- the rows of entries, one behind the other
abbrev pub rows_of : List Entry → List (List Value)
rows_of entries = flat_map (λ (entry : Entry). entry.rows) entries

-- a range and the one behind it are one
pub slice_range-append : {A : Type 0} (xs : List A) (a b c : ℕ) → a ≤ b → b ≤ c → slice_range xs a b ++ slice_range xs b c ≡ slice_range xs a c
slice_range-append {A} xs a b c first second =
    let rest : List A = drop a xs in
    let long : (b - a) + (c - b) ≡ c - a = omega arith in
    let on : a + (b - a) ≡ b = omega arith in
    let front : take (b - a) (take (c - a) rest) ≡ take (b - a) rest = take-take (b - a) (c - a) rest (omega arith) in
    let back : drop (b - a) (take (c - a) rest) ≡ take (c - b) (drop b xs) =
    ap (λ (n : ℕ). drop (b - a) (take n rest)) (sym long) ∙ drop-take (b - a) (c - b) rest
    ∙ ap (take (c - b)) (drop-drop (b - a) a xs ∙ ap (λ (n : ℕ). drop n xs) on) in
    sym (ap₂ (λ (x y : List A). x ++ y) front back) ∙ take-append-drop (b - a) (take (c - a) rest)

-- a range that ends before what is put behind a list
pub slice_range-push : {A : Type 0} (xs : List A) (x : A) (a b : ℕ) → b ≤ length xs → slice_range (xs ++ x ∷ []) a b ≡ slice_range xs a b
slice_range-push {A} xs x a b within =
    elim (cases_lt a b) as (λ _. slice_range (xs ++ x ∷ []) a b ≡ slice_range xs a b) [
      | inl lt ↦
          ap (take (b - a)) (drop-append-le a xs (x ∷ []) (omega arith))
          ∙ take-append-le (b - a) (drop a xs) (x ∷ []) (omega (arith, length-drop a xs))
      | inr le ↦
          let none : b - a ≡ 0 = omega arith in
          ap (λ (n : ℕ). take n (drop a (xs ++ x ∷ []))) none ∙ sym (ap (λ (n : ℕ). take n (drop a xs)) none)
    ]

-- an older part has the rows that it had
pub part_rows-older : (form : TableForm) (entry : Entry) (book : Book) (lo hi : ℕ) → hi ≤ length book.entries → part_rows form (appended entry book) lo hi ≡ part_rows form book lo hi
part_rows-older form entry book lo hi within =
    ap (λ (entries : List Entry). normal_rows form (rows_of entries)) (slice_range-push book.entries entry (lo - 1) hi within)

-- the part of a new entry has its rows
pub part_rows-newest : (form : TableForm) (entry : Entry) (book : Book) → IsEntry form entry
    → part_rows form (appended entry book) (length book.entries + 1) (length book.entries + 1) ≡ entry.rows
part_rows-newest form entry book is =
    let n : ℕ = length book.entries in
    let before : n + 1 - 1 ≡ n = omega arith in
    let one : n + 1 - n ≡ 1 = omega arith in
    let alone : slice_range (book.entries ++ entry ∷ []) (n + 1 - 1) (n + 1) ≡ entry ∷ [] =
    ap (λ (k : ℕ). slice_range (book.entries ++ entry ∷ []) k (n + 1)) before
    ∙ ap₂ (λ (k : ℕ) (l : List Entry). take k l) one (drop_at book.entries (entry ∷ []) n refl) in
    ap (λ (entries : List Entry). normal_rows form (rows_of entries)) alone ∙ ap (normal_rows form) (append-nil entry.rows) ∙ is.normal

-- a block of one row or more arrives as an entry
pub IsEntry-entry_of : (form : TableForm) (source : SourceKey) (block : List (List Value)) → AllAreOf form.kinds block → SetsWithin (2 ^ 40) form.kinds block → 1 ≤ length block → length block ≤ MAX_ROWS
    → IsEntry form (entry_of form source block)
IsEntry-entry_of form source block are sets some most = record {
  kinds_fit = normal_form_of-kinds form.engine form.kinds form.key (2 ^ 40) block (omega arith) are (λ engine. sets);
  normal = normal_form_of-again form.engine form.kinds form.key block;
  some = normal_form_of-some form.engine form.kinds form.key block some;
  most = omega (arith, most, normal_form_of-length form.engine form.kinds form.key block);
}

-- entries have no more rows than so many blocks have
length-rows_of : (form : TableForm) (entries : List Entry) → All (IsEntry form) entries → length (rows_of entries) ≤ MAX_ROWS * length entries
length-rows_of form [] are = omega arith
length-rows_of form (entry ∷ entries) are =
    omega (
      arith,
      length-append entry.rows (rows_of entries),
      (All-head (IsEntry form) entry entries are).most,
      length-rows_of form entries (All-tail (IsEntry form) entry entries are),
    )

module _ (form : TableForm) (book : Book) (lawful : IsLawfulBook form book) where
  range_entries : (lo hi : ℕ) → All (IsEntry form) (slice_range book.entries (lo - 1) hi)
  range_entries lo hi = All-take (IsEntry form) (hi - (lo - 1)) (drop (lo - 1) book.entries) (All-drop (IsEntry form) (lo - 1) book.entries lawful.entries)

  -- a number of 64 bits counts the rows of a part
  pub length-part_rows : (lo hi : ℕ) → length (part_rows form book lo hi) < 2 ^ 64
  length-part_rows lo hi =
      let entries : List Entry = slice_range book.entries (lo - 1) hi in
      omega (
        arith,
        normal_form_of-length form.engine form.kinds form.key (rows_of entries),
        length-rows_of form entries (range_entries lo hi),
        length-take (hi - (lo - 1)) (drop (lo - 1) book.entries),
        length-drop (lo - 1) book.entries,
        lawful.bounded,
      )

-- the rows of parts, one behind the other
abbrev pub rows_of_parts : TableForm → Book → List PartRow → List (List Value)
rows_of_parts form book layout = flat_map (λ (row : PartRow). part_rows form book row.lo row.hi) layout

-- the rows of parts that cut the entries from one to another into runs have the normal form of the entries' rows
pub rows_of_runs-normal : (form : TableForm) (book : Book) (first last : ℕ) (layout : List PartRow) → 1 ≤ first → AreRuns first last (map span_of layout)
    → normal_rows form (rows_of_parts form book layout) ≡ normal_rows form (rows_of (slice_range book.entries (first - 1) last))
rows_of_runs-normal form book first last [] low runs =
    let none : last - (first - 1) ≡ 0 = omega (arith, runs) in
    sym (ap (λ (n : ℕ). normal_rows form (rows_of (take n (drop (first - 1) book.entries)))) none)
rows_of_runs-normal form book first last (row ∷ layout) low runs =
    let ordered = AreRuns-order (row.hi + 1) last (map span_of layout) runs.2 in
    let on : row.hi + 1 - 1 ≡ row.hi = omega arith in
    let begins : row.lo - 1 ≡ first - 1 = ap (λ (n : ℕ). n - 1) runs.0 in
    let here : List Entry = slice_range book.entries (row.lo - 1) row.hi in
    let behind : List Entry = slice_range book.entries row.hi last in
    normal_rows-first form (rows_of here) (rows_of_parts form book layout) (rows_of behind)
    (rows_of_runs-normal form book (row.hi + 1) last layout (omega arith) runs.2 ∙ ap (λ (n : ℕ). normal_rows form (rows_of (slice_range book.entries n last))) on)
    ∙ ap (normal_rows form) (sym (flat_map-append (λ (entry : Entry). entry.rows) here behind))
    ∙ ap (λ (entries : List Entry). normal_rows form (rows_of entries))
    (slice_range-append book.entries (row.lo - 1) row.hi last (omega (arith, begins, runs.1)) (omega (arith, ordered)) ∙ ap (λ (n : ℕ). slice_range book.entries n last) begins)

-- the rows of all live parts have the normal form of all rows
pub rows_of_parts-normal : (form : TableForm) (book : Book) (layout : List PartRow) → AreRuns 1 (length book.entries) book.layout → book.layout ≡ map span_of layout
    → normal_rows form (rows_of_parts form book layout) ≡ normal_rows form (rows_in book)
rows_of_parts-normal form book layout runs are =
    let first : 1 - 1 ≡ 0 = omega arith in
    rows_of_runs-normal form book 1 (length book.entries) layout (omega arith) (subst (λ (spans : List Span). AreRuns 1 (length book.entries) spans) are runs)
    ∙ ap (λ (entries : List Entry). normal_rows form (rows_of entries)) (take_rest book.entries (1 - 1) ∙ ap (λ (n : ℕ). drop n book.entries) first)
