-- Books: which ids are recent, into which runs parts cut the entries, and how both go on behind a new entry.
use Rattle.std.proofs.Common.{◌≡◌, ◌⊎◌, inl, inr, ℕ, ◌+◌, ◌-◌, ◌<◌, ◌≤◌, Bool, true, false, ◌==◌, if◌then◌else◌, List, [], ◌∷◌, ◌++◌, length, map, zero, suc, get_or, refl, sym, ap, ap₂, subst, ◌∙◌, arith, append_assoc, append-nil}
use Rattle.std.specs.Bool.{Decides}
use Rattle.std.specs.List.{All, Contains}
use Rattle.std.proofs.lemmas.Bool.{cases_lt}
use Rattle.std.proofs.lemmas.Bool.Decides.{Decides-eqb, Decides-and, Decides-like, not_from_Decides}
use Rattle.std.proofs.lemmas.List.{get_or-drop, get_or_at, length-append, length-drop, length_push, map_push, map-append, same_from_push}
use Rattle.std.proofs.lemmas.List.Elements.{All-nil, All-cons, All-head, All-tail, All-push, All-append}
use Rattle.std.proofs.lemmas.Map.Made.{is_member-Decides}
use Rattle.chv_commit.specs.Replays.{MAX_ENTRIES, Span, AreRuns}
use Rattle.chv_commit.proofs.RunLemmas.{AreRuns-append}
use Rattle.chv_part.specs.Arriving.{is_among_last, fresh, with_part}
use Rattle.chv_part.specs.Books.{TableForm, Entry, Book, IsEntry, ids_of, is_recent, appended, arrived, committed, IsSpaced, IsLawfulBook, no_book}
use Rattle.chv_sip.specs.BlockIds.{id_eq, last_ids}
use Rattle.chv_sip.specs.declared.block_id.BlockId.{BlockId}

-- the test tells whether two ids are the same
id_eq-Decides : (a b : BlockId) → Decides (id_eq a b) (a ≡ b)
id_eq-Decides a b =
    Decides-like (id_eq a b)
    (λ (same : (a.first ≡ b.first) × (a.second ≡ b.second)). ap₂ (λ (x y : ℕ). record { first = x; second = y }) same.0 same.1)
    (λ (same : a ≡ b). (ap (λ (id : BlockId). id.first) same, ap (λ (id : BlockId). id.second) same))
    (Decides-and (a.first == b.first) (a.second == b.second) (Decides-eqb a.first b.first) (Decides-eqb a.second b.second))

-- an id is found among the last ids exactly where it is there
is_among_last-Decides : (window : ℕ) (id : BlockId) (ids : List BlockId) → Decides (is_among_last window id ids) (Contains (last_ids window ids) id)
is_among_last-Decides window id ids = is_member-Decides id_eq-Decides (last_ids window ids) id

-- an id is recent exactly where it is among the last ids of a book
pub is_recent-Decides : (window : ℕ) (id : BlockId) (book : Book) → Decides (is_recent window id book) (Contains (last_ids window (ids_of book)) id)
is_recent-Decides window id book = is_among_last-Decides window id (ids_of book)

pub is_recent-Contains : (window : ℕ) (id : BlockId) (book : Book) → Contains (last_ids window (ids_of book)) id → is_recent window id book ≡ true
is_recent-Contains window id book = (is_recent-Decides window id book).1

pub is_recent-lacks : (window : ℕ) (id : BlockId) (book : Book) → (Contains (last_ids window (ids_of book)) id → ⊥) → is_recent window id book ≡ false
is_recent-lacks window id book new =
    elim (is_recent window id book) as (λ b. is_recent window id book ≡ b → b ≡ false) [
      | true ↦ λ recent. absurd (new ((is_recent-Decides window id book).0 recent))
      | false ↦ λ none. refl
    ] refl

-- an id with fewer others behind it than the window has is among the last
recent_again : (window : ℕ) (older between : List BlockId) (id : BlockId) → length between < window → Contains (last_ids window (older ++ id ∷ between)) id
recent_again window older between id near =
    let ids : List BlockId = older ++ id ∷ between in
    let gone : ℕ = length ids - window in
    let at : ℕ = length older - gone in
    let long : length ids ≡ length older + (length between + 1) = omega (arith, length-append older (id ∷ between)) in
    let place : gone + at ≡ length older = omega (arith, long) in
    (at, omega (arith, length-drop gone ids, long), get_or-drop gone ids at id ∙ ap (λ (n : ℕ). get_or ids n id) place ∙ get_or_at older id between id (length older) refl)

-- a list is empty or has a last item
ends : {A : Type 0} (xs : List A) → (xs ≡ []) ⊎ ((front : List A) × (last : A) × (xs ≡ front ++ last ∷ []))
ends {A} [] = inl refl
ends {A} (x ∷ xs) =
    elim (ends xs) as (λ _. (x ∷ xs ≡ []) ⊎ ((front : List A) × (last : A) × (x ∷ xs ≡ front ++ last ∷ []))) [
      | inl none ↦ inr ([], x, ap (λ (l : List A). x ∷ l) none)
      | inr some ↦ inr (x ∷ some.0, some.1, ap (λ (l : List A). x ∷ l) some.2)
    ]

-- ids stay spaced behind one that is not among the last
pub IsSpaced-push : (window : ℕ) (ids : List BlockId) (id : BlockId) → IsSpaced window ids → (Contains (last_ids window ids) id → ⊥) → IsSpaced window (ids ++ id ∷ [])
IsSpaced-push window ids id spaced new = record {
  apart = λ older between newer other same.
      elim (ends newer) as (λ _. window ≤ length between) [
        | inl none ↦
            let pushed = same_from_push ids (older ++ other ∷ between) id other
            (same ∙ ap (λ (l : List BlockId). older ++ other ∷ (between ++ other ∷ l)) none ∙ sym (append_assoc older (other ∷ between) (other ∷ []))) in
            elim (cases_lt (length between) window) as (λ _. window ≤ length between) [
              | inl near ↦ absurd (new (subst (λ (x : BlockId). Contains (last_ids window ids) x) (sym pushed.1)
                  (subst (λ (l : List BlockId). Contains (last_ids window l) other) (sym pushed.0) (recent_again window older between other near))))
              | inr far ↦ far
            ]
        | inr some ↦
            let front : List BlockId = some.0 in
            let last : BlockId = some.1 in
            spaced.apart older between front other
            (same_from_push ids (older ++ other ∷ (between ++ other ∷ front)) id last
            (same ∙ ap (λ (l : List BlockId). older ++ other ∷ (between ++ other ∷ l)) some.2
            ∙ ap (λ (l : List BlockId). older ++ other ∷ l) (sym (append_assoc between (other ∷ front) (last ∷ [])))
            ∙ sym (append_assoc older (other ∷ (between ++ other ∷ front)) (last ∷ [])))).0
      ];
}

-- a run of so many entries more goes behind the others
pub AreRuns-push : (first last count level : ℕ) (spans : List Span) → AreRuns first last spans → 1 ≤ count
    → AreRuns first (last + count) (spans ++ record { lo = last + 1; hi = last + count; level = level } ∷ [])
AreRuns-push first last count level spans runs some =
    AreRuns-append first last (last + count) spans (record { lo = last + 1; hi = last + count; level = level } ∷ []) runs (refl, omega arith, refl)

-- a table can have no block
pub IsLawfulBook-no_book : (form : TableForm) → IsLawfulBook form no_book
IsLawfulBook-no_book form = record {
  entries = All-nil _;
  bounded = omega arith;
  runs = refl;
  spaced = record { apart = λ older between newer id same. absurd (omega (arith, ap length same, length-append older (id ∷ (between ++ id ∷ newer)))) };
}

-- a table that has room can have one entry more, whose id is not among the last
pub IsLawfulBook-appended : (form : TableForm) (entry : Entry) (book : Book) → IsEntry form entry → length book.entries < MAX_ENTRIES
    → is_recent form.window entry.id book ≡ false → IsLawfulBook form book → IsLawfulBook form (appended entry book)
IsLawfulBook-appended form entry book is room new lawful = record {
  entries = All-push (IsEntry form) book.entries entry lawful.entries is;
  bounded = omega (arith, length_push book.entries entry);
  runs = subst (λ (n : ℕ). AreRuns 1 n (appended entry book).layout) (sym (length_push book.entries entry))
      (AreRuns-push 1 (length book.entries) 1 0 book.layout lawful.runs (omega arith));
  spaced = subst (λ (ids : List BlockId). IsSpaced form.window ids) (sym (map_push (λ (e : Entry). e.id) book.entries entry))
      (IsSpaced-push form.window (ids_of book) entry.id lawful.spaced
      (not_from_Decides (is_recent form.window entry.id book) (is_recent-Decides form.window entry.id book) new));
}

-- a block that arrives is skipped or appended
pub arrived-recent : (window : ℕ) (entry : Entry) (book : Book) → is_recent window entry.id book ≡ true → arrived window entry book ≡ book
arrived-recent window entry book recent = ap (λ (b : Bool). if b then book else appended entry book) recent

pub arrived-new : (window : ℕ) (entry : Entry) (book : Book) → is_recent window entry.id book ≡ false → arrived window entry book ≡ appended entry book
arrived-new window entry book new = ap (λ (b : Bool). if b then book else appended entry book) new

pub IsLawfulBook-arrived : (form : TableForm) (entry : Entry) (book : Book) → IsEntry form entry → length book.entries < MAX_ENTRIES
    → IsLawfulBook form book → IsLawfulBook form (arrived form.window entry book)
IsLawfulBook-arrived form entry book is room lawful =
    elim (is_recent form.window entry.id book) as (λ b. is_recent form.window entry.id book ≡ b → IsLawfulBook form (if b then book else appended entry book)) [
      | true ↦ λ recent. lawful
      | false ↦ λ new. IsLawfulBook-appended form entry book is room new lawful
    ] refl

-- of items that arrive one after the other, those that are fresh are no more
pub length-fresh : {A : Type 0} (id_of : A → BlockId) (window : ℕ) (ids : List BlockId) (items : List A) → length (fresh id_of window ids items) ≤ length items
length-fresh {A} id_of window ids [] = omega arith
length-fresh {A} id_of window ids (item ∷ items) =
    elim (is_among_last window (id_of item) ids) as
    (λ b. length (if b then fresh id_of window ids items else item ∷ fresh id_of window (ids ++ id_of item ∷ []) items) ≤ length (item ∷ items)) [
      | true ↦ omega (arith, length-fresh id_of window ids items)
      | false ↦ omega (arith, length-fresh id_of window (ids ++ id_of item ∷ []) items)
    ]

-- and each has what all items have
pub All-fresh : {A : Type 0} (P : A → Type 0) (id_of : A → BlockId) (window : ℕ) (ids : List BlockId) (items : List A) → All P items → All P (fresh id_of window ids items)
All-fresh {A} P id_of window ids [] all = all
All-fresh {A} P id_of window ids (item ∷ items) all =
    let rest : All P items = All-tail P item items all in
    elim (is_among_last window (id_of item) ids) as
    (λ b. All P (if b then fresh id_of window ids items else item ∷ fresh id_of window (ids ++ id_of item ∷ []) items)) [
      | true ↦ All-fresh P id_of window ids items rest
      | false ↦ All-cons P item (fresh id_of window (ids ++ id_of item ∷ []) items) (All-head P item items all)
          (All-fresh P id_of window (ids ++ id_of item ∷ []) items rest)
    ]

-- ids stay spaced behind the fresh ones
pub IsSpaced-fresh : {A : Type 0} (id_of : A → BlockId) (window : ℕ) (ids : List BlockId) (items : List A) → IsSpaced window ids → IsSpaced window (ids ++ map id_of (fresh id_of window ids items))
IsSpaced-fresh {A} id_of window ids [] spaced = subst (IsSpaced window) (sym (append-nil ids)) spaced
IsSpaced-fresh {A} id_of window ids (item ∷ items) spaced =
    let id : BlockId = id_of item in
    let pushed : List BlockId = ids ++ id ∷ [] in
    elim (is_among_last window id ids) as
    (λ b. is_among_last window id ids ≡ b → IsSpaced window (ids ++ map id_of (if b then fresh id_of window ids items else item ∷ fresh id_of window pushed items))) [
      | true ↦ λ recent. IsSpaced-fresh id_of window ids items spaced
      | false ↦ λ new.
          subst (IsSpaced window) (append_assoc ids (id ∷ []) (map id_of (fresh id_of window pushed items)))
          (IsSpaced-fresh id_of window pushed items
          (IsSpaced-push window ids id spaced (not_from_Decides (is_among_last window id ids) (is_among_last-Decides window id ids) new)))
    ] refl

-- some new entries have a part behind the others
AreRuns-with_part : (entries new : ℕ) (layout : List Span) → AreRuns 1 entries layout → AreRuns 1 (entries + new) (with_part entries new layout)
AreRuns-with_part entries zero layout runs = subst (λ (n : ℕ). AreRuns 1 n layout) (omega arith) runs
AreRuns-with_part entries (suc new) layout runs = AreRuns-push 1 entries (suc new) 0 layout runs (omega arith)

-- a table that has room stays lawful as blocks arrive in one commit
pub IsLawfulBook-committed : (form : TableForm) (entries : List Entry) (book : Book) → All (IsEntry form) entries → length book.entries + length entries ≤ MAX_ENTRIES
    → IsLawfulBook form book → IsLawfulBook form (committed form.window entries book)
IsLawfulBook-committed form entries book are room lawful =
    let id_of : Entry → BlockId = λ (entry : Entry). entry.id in
    let new : List Entry = fresh id_of form.window (ids_of book) entries in
    record {
      entries = All-append (IsEntry form) book.entries new lawful.entries (All-fresh (IsEntry form) id_of form.window (ids_of book) entries are);
      bounded = omega (arith, room, length-append book.entries new, length-fresh id_of form.window (ids_of book) entries);
      runs = subst (λ (n : ℕ). AreRuns 1 n (with_part (length book.entries) (length new) book.layout)) (sym (length-append book.entries new))
          (AreRuns-with_part (length book.entries) (length new) book.layout lawful.runs);
      spaced = subst (IsSpaced form.window) (sym (map-append id_of book.entries new)) (IsSpaced-fresh id_of form.window (ids_of book) entries lawful.spaced);
    }

-- one block that arrives is a commit of it alone
pub committed-arrived : (window : ℕ) (entry : Entry) (book : Book) → committed window (entry ∷ []) book ≡ arrived window entry book
committed-arrived window entry book =
    elim (is_recent window entry.id book) as
    (λ b. let new : List Entry = if b then [] else entry ∷ [] in
    record { entries = book.entries ++ new; layout = with_part (length book.entries) (length new) book.layout } ≡ (if b then book else appended entry book)) [
      | true ↦ ap (λ (entries : List Entry). record { entries = entries; layout = book.layout }) (append-nil book.entries)
      | false ↦ refl
    ]
