-- The ids of each table stay spaced, and so do its contributions.
use Rattle.std.proofs.Common.{◌≡◌, inl, inr, ℕ, ◌+◌, ◌-◌, List, [], ◌∷◌, ◌++◌, length, Some, slice_get, All, Contains, sym, ap, subst, ◌∙◌, arith}
use Rattle.std.proofs.lemmas.Bool.{cases_eq}
use Rattle.std.proofs.lemmas.List.{length-append, length-map, map-append}
use Rattle.std.proofs.lemmas.List.Elements.{All-contains, Contains-append_left, Contains-append_right, Contains-push}
use Rattle.chv_catalog.specs.Schemas.{Catalog}
use Rattle.chv_catalog.specs.declared.table_def.TableDef.{TableDef}
use Rattle.chv_query.specs.Accepted.{Accepted, catalog_of, tables_of}
use Rattle.chv_query.proofs.AcceptedLemmas.{tables_of-push}
use Rattle.chv_part.specs.Books.{IsSpaced}
use Rattle.chv_part.proofs.BookLemmas.{IsSpaced-fresh}
use Rattle.chv_part.specs.Forms.{form_of}
use Rattle.chv_query.specs.Arrivals.{Arrival, Contribution, IsArrival, contribution_id}
use Rattle.chv_sip.specs.declared.block_id.BlockId.{BlockId}
use Rattle.chv_history.specs.Events.{Event, Created, Committed, Replied, Moment, behind, happen, with_commit, written_in}
use Rattle.chv_history.specs.Histories.{History, IsLawful, ids_in, window_at, window_in, with_accepted, with_none}
use Rattle.chv_history.specs.Spaced.{AreSpaced, ContributionsAreSpaced, KeepApart}
use Rattle.chv_history.proofs.ArrivingLemmas.{with_none-new, with_none-other}
use Rattle.chv_history.proofs.CommitLemmas.{arrivals-other, arrivals-with_commit, schema-with_commit}
use Rattle.chv_history.proofs.EntryLemmas.{ids_of-book_of}
use Rattle.chv_history.proofs.LawfulLemmas.{form_there, table_cases}

-- the first item is one
Contains-first : {X : Type 0} (x : X) (xs : List X) → Contains (x ∷ xs) x
Contains-first {X} x xs = Contains-append_left (x ∷ []) xs x (Contains-push [] x)

-- no ids are spaced
IsSpaced-none : (window : ℕ) → IsSpaced window []
IsSpaced-none window = record { apart = λ older between newer id same. absurd (omega (arith, ap length same, length-append older (id ∷ (between ++ id ∷ newer)))) }

-- a table or a view is made
spaced_created : (accepted : Accepted) (history : History) → AreSpaced history → AreSpaced (with_accepted accepted history)
spaced_created accepted history spaced place def stands =
    let number = length (tables_of history.schema) + 1 in
    let Spaced : List Arrival → Type 0 = λ arrivals. IsSpaced def.window (ids_in arrivals) in
    elim (table_cases (tables_of history.schema) accepted.definition place def (subst (λ (defs : List TableDef). slice_get defs place ≡ Some def) (tables_of-push history.schema accepted) stands))
    as (λ _. Spaced (with_none accepted.definition number history.arrivals (place + 1))) [
      | inl old ↦ subst Spaced (sym (with_none-other accepted.definition number (place + 1) history.arrivals (λ same. absurd (omega (arith, same, old.0))))) (spaced place def old.1)
      | inr new ↦
          subst (λ (p : ℕ). Spaced (with_none accepted.definition number history.arrivals (p + 1))) (sym new.0)
          (subst Spaced (sym (with_none-new accepted.definition def number history.arrivals new.1)) (IsSpaced-none def.window))
    ]

-- blocks arrive
module _ (table : ℕ) (arrivals : List Arrival) (history : History) (spaced : AreSpaced history) where
  abbrev next : History
  next = with_commit table arrivals history

  spaced_here : (place : ℕ) (def : TableDef) → place + 1 ≡ table → slice_get (tables_of history.schema) place ≡ Some def → IsSpaced def.window (ids_in (next.arrivals table))
  spaced_here place def same stands =
      let at : place + 1 - 1 ≡ place = omega arith in
      let window : window_at (tables_of history.schema) table ≡ def.window =
      subst (λ (n : ℕ). window_at (tables_of history.schema) n ≡ def.window) same (ap (λ (p : ℕ). window_in (slice_get (tables_of history.schema) p)) at ∙ ap window_in stands) in
      let ids = ids_in (history.arrivals table) in
      let old : IsSpaced def.window ids = subst (λ (n : ℕ). IsSpaced def.window (ids_in (history.arrivals n))) same (spaced place def stands) in
      let all : ids_in (next.arrivals table) ≡ ids ++ ids_in (written_in table arrivals history) =
      ap ids_in (arrivals-with_commit table arrivals history) ∙ map-append (λ (a : Arrival). a.id) (history.arrivals table) (written_in table arrivals history) in
      subst (IsSpaced def.window) (sym all)
      (subst (λ (w : ℕ). IsSpaced w (ids ++ ids_in (written_in table arrivals history))) window
      (IsSpaced-fresh (λ (a : Arrival). a.id) (window_at (tables_of history.schema) table) ids arrivals (subst (λ (w : ℕ). IsSpaced w ids) (sym window) old)))

  spaced_each : (place : ℕ) (def : TableDef) → slice_get (tables_of history.schema) place ≡ Some def → IsSpaced def.window (ids_in (next.arrivals (place + 1)))
  spaced_each place def stands = elim (cases_eq (place + 1) table) as (λ _. IsSpaced def.window (ids_in (next.arrivals (place + 1)))) [
    | inl same ↦ subst (λ (n : ℕ). IsSpaced def.window (ids_in (next.arrivals n))) (sym same) (spaced_here place def same stands)
    | inr other ↦ subst (λ (l : List Arrival). IsSpaced def.window (ids_in l)) (sym (arrivals-other table (place + 1) arrivals history other)) (spaced place def stands)
  ]

  spaced_committed : AreSpaced next
  spaced_committed place def stands = spaced_each place def (subst (λ (s : List Accepted). slice_get (tables_of s) place ≡ Some def) (schema-with_commit table arrivals history) stands)

-- and whatever happens
pub spaced_behind : (events : List Event) (m : Moment) → AreSpaced m.history → AreSpaced (behind events m).history
spaced_behind [] m spaced = spaced
spaced_behind (Created accepted ∷ events) m spaced = spaced_behind events (happen (Created accepted) m) (spaced_created accepted m.history spaced)
spaced_behind (Committed table arrivals ∷ events) m spaced = spaced_behind events (happen (Committed table arrivals) m) (spaced_committed table arrivals m.history spaced)
spaced_behind (Replied text plans refuses ∷ events) m spaced = spaced_behind events (happen (Replied text plans refuses) m) spaced

-- arrivals of one contribution have one id
same_id : (catalog : Catalog) (table : ℕ) (a b : Arrival) → IsArrival catalog table a → IsArrival catalog table b → a.contribution ≡ b.contribution → a.id ≡ b.id
same_id catalog table a b is_a is_b same =
    ap (λ (x : Arrival). x.id) is_a.is ∙ ap (λ (c : Contribution). contribution_id catalog c.source c.path) same ∙ sym (ap (λ (x : Arrival). x.id) is_b.is)

-- so they keep apart as their ids do
module _ (catalog : Catalog) (table window : ℕ) (arrivals : List Arrival) (all : All (IsArrival catalog table) arrivals) (spaced : IsSpaced window (ids_in arrivals)) where
  keep_apart : KeepApart window arrivals
  keep_apart older between newer a b split same =
      let parts : All (IsArrival catalog table) (older ++ a ∷ (between ++ b ∷ newer)) = subst (All (IsArrival catalog table)) split all in
      let at_a : IsArrival catalog table a = All-contains (IsArrival catalog table) _ a parts (Contains-append_right older (a ∷ (between ++ b ∷ newer)) a (Contains-first a (between ++ b ∷ newer))) in
      let at_b : IsArrival catalog table b =
      All-contains (IsArrival catalog table) _ b parts
      (Contains-append_right older (a ∷ (between ++ b ∷ newer)) b (Contains-append_right (a ∷ between) (b ∷ newer) b (Contains-first b newer))) in
      let id : b.id ≡ a.id = same_id catalog table b a at_b at_a (sym same) in
      let f : Arrival → BlockId = λ x. x.id in
      let ids : ids_in arrivals ≡ ids_in older ++ a.id ∷ (ids_in between ++ a.id ∷ ids_in newer) =
      ap ids_in split ∙ map-append f older (a ∷ (between ++ b ∷ newer))
      ∙ ap (λ (l : List BlockId). ids_in older ++ a.id ∷ l) (map-append f between (b ∷ newer) ∙ ap (λ (i : BlockId). ids_in between ++ i ∷ ids_in newer) id) in
      omega (arith, spaced.apart (ids_in older) (ids_in between) (ids_in newer) a.id ids, length-map between f)

-- the contributions of a lawful history are spaced
pub contributions_spaced : (history : History) → IsLawful history → ContributionsAreSpaced history
contributions_spaced history lawful place def stands =
    let book = lawful.books place (form_of def) (form_there (tables_of history.schema) place def stands) in
    keep_apart (catalog_of history.schema) (place + 1) def.window (history.arrivals (place + 1)) (lawful.arrivals place def stands)
    (subst (IsSpaced def.window) (ids_of-book_of history (place + 1)) book.spaced)
