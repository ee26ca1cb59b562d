-- What a commit does to a history.
use Rattle.std.proofs.Common.{◌≡◌, ◌≢◌, ℕ, Bool, true, false, if◌then◌else◌, List, [], ◌∷◌, ◌++◌, refl, sym, ap}
use Rattle.std.proofs.lemmas.List.{append-nil}
use Rattle.chv_query.specs.Accepted.{tables_of}
use Rattle.chv_part.specs.Arriving.{is_among_last}
use Rattle.chv_query.specs.Arrivals.{Arrival}
use Rattle.chv_history.specs.Events.{with_arrivals, with_commit, written_in}
use Rattle.chv_history.specs.Histories.{History, ids_in, window_at}
use Rattle.chv_history.proofs.ArrivingLemmas.{put_at-same, put_at-other}

-- a block is skipped by a table where its id is among the last
abbrev pub is_skipped : ℕ → Arrival → History → Bool
is_skipped table arrival history = is_among_last (window_at (tables_of history.schema) table) arrival.id (ids_in (history.arrivals table))

-- one block is skipped or written
pub written_in-skipped : (table : ℕ) (arrival : Arrival) (history : History) → is_skipped table arrival history ≡ true → written_in table (arrival ∷ []) history ≡ []
written_in-skipped table arrival history skipped = ap (λ (b : Bool). if b then [] else arrival ∷ []) skipped

pub written_in-new : (table : ℕ) (arrival : Arrival) (history : History) → is_skipped table arrival history ≡ false → written_in table (arrival ∷ []) history ≡ arrival ∷ []
written_in-new table arrival history new = ap (λ (b : Bool). if b then [] else arrival ∷ []) new

-- nothing changes where it is skipped, and else it has arrived
pub with_commit-skipped : (table : ℕ) (arrival : Arrival) (history : History) → is_skipped table arrival history ≡ true → with_commit table (arrival ∷ []) history ≡ history
with_commit-skipped table arrival history skipped = ap (λ (new : List Arrival). with_arrivals table new history) (written_in-skipped table arrival history skipped)

pub with_commit-new : (table : ℕ) (arrival : Arrival) (history : History) → is_skipped table arrival history ≡ false → with_commit table (arrival ∷ []) history ≡ with_arrivals table (arrival ∷ []) history
with_commit-new table arrival history new = ap (λ (written : List Arrival). with_arrivals table written history) (written_in-new table arrival history new)

-- the schema stays
schema-with_arrivals : (table : ℕ) (new : List Arrival) (history : History) → (with_arrivals table new history).schema ≡ history.schema
schema-with_arrivals table [] history = refl
schema-with_arrivals table (a ∷ new) history = refl

pub schema-with_commit : (table : ℕ) (arrivals : List Arrival) (history : History) → (with_commit table arrivals history).schema ≡ history.schema
schema-with_commit table arrivals history = schema-with_arrivals table (written_in table arrivals history) history

-- those that are written are the last that arrived there
pub arrivals-with_arrivals : (table : ℕ) (new : List Arrival) (history : History) → (with_arrivals table new history).arrivals table ≡ history.arrivals table ++ new
arrivals-with_arrivals table [] history = sym (append-nil (history.arrivals table))
arrivals-with_arrivals table (a ∷ new) history = put_at-same table (history.arrivals table ++ a ∷ new) history.arrivals

pub arrivals-with_commit : (table : ℕ) (arrivals : List Arrival) (history : History) → (with_commit table arrivals history).arrivals table ≡ history.arrivals table ++ written_in table arrivals history
arrivals-with_commit table arrivals history = arrivals-with_arrivals table (written_in table arrivals history) history

-- every other table is as it was
other-with_arrivals : (table n : ℕ) (new : List Arrival) (history : History) → n ≢ table → (with_arrivals table new history).arrivals n ≡ history.arrivals n
other-with_arrivals table n [] history other = refl
other-with_arrivals table n (a ∷ new) history other = put_at-other table n (history.arrivals table ++ a ∷ new) history.arrivals other

pub arrivals-other : (table n : ℕ) (arrivals : List Arrival) (history : History) → n ≢ table → (with_commit table arrivals history).arrivals n ≡ history.arrivals n
arrivals-other table n arrivals history other = other-with_arrivals table n (written_in table arrivals history) history other
