-- What is held of blocks along paths.
use Rattle.std.proofs.Common.{◌≡◌, ◌∙◌, ◌≤◌, ◌+◌, ◌-◌, ◌≢◌, ◌||◌, ℕ, suc, Bool, true, false, not, List, [], ◌∷◌, ◌++◌, length, map, drop, Option, None, Some, Result, Ok, Err, get_or, slice_get, option_map, refl, sym, ap, ap₂, subst, arith, append_assoc}
use Rattle.std.specs.List.{All, filter, list_any}
use Rattle.std.proofs.lemmas.List.{append-nil, length-map, map-append}
use Rattle.std.proofs.lemmas.List.Elements.{All-tail, filter-append}
use Rattle.std.proofs.lemmas.List.Folds.{list_any-append}
use Rattle.std.proofs.lemmas.Option.{get_or_from_slice_get, slice_get-map, slice_get_within}
use Rattle.chv_ast.specs.declared.refusal.Refusal.{Refusal}
use Rattle.chv_catalog.proofs.WalkLemmas.{readers-end, readers-none, readers-some}
use Rattle.chv_catalog.specs.Paths.{end_of, link_of, links_of, paths_within, readers_from, target_of}
use Rattle.chv_catalog.specs.Schemas.{Catalog}
use Rattle.chv_catalog.specs.Walks.{paths_by}
use Rattle.chv_catalog.specs.declared.link.Link.{Link}
use Rattle.chv_catalog.specs.declared.view_def.ViewDef.{ViewDef}
use Rattle.chv_group.proofs.ClimbLemmas.{All-front}
use Rattle.chv_group.specs.Groups.{is_empty}
use Rattle.chv_query.specs.Arrivals.{contribution_id, end_at, names_along}
use Rattle.chv_query.specs.Derived.{derived, divides_along, divides_by, divides_in, form_at, through, viewed_by}
use Rattle.chv_query.specs.Plans.{Delivery, delivery_along}
use Rattle.chv_query.specs.Queries.{Asked, asked}
use Rattle.chv_sip.specs.BlockIds.{SourceKey, path_id, source_id}
use Rattle.chv_sip.specs.declared.block_id.BlockId.{BlockId}
use Rattle.chv_types.specs.declared.table.Column.{Column}
use Rattle.chv_types.specs.declared.value.Value.{Value}
use Rattle.chv_plan.specs.Below.{AreHeld, Holds, HoldsAll, IsHeld, deliveries_behind, paths_through}
use Rattle.chv_plan.specs.declared.delivery.Delivery.{Delivery as Held}

-- of no rows nothing is made
viewed_by-nil : (query : Result Asked Refusal) (columns : List Column) → viewed_by query columns [] ≡ []
viewed_by-nil (Ok query) columns = refl
viewed_by-nil (Err refusal) columns = refl

divides_by-nil : (query : Result Asked Refusal) → divides_by query [] ≡ false
divides_by-nil (Ok query) = refl
divides_by-nil (Err refusal) = refl

some_items : {A : Type 0} (xs : List A) → 1 ≤ length xs → not (is_empty xs) ≡ true
some_items {A} [] some = absurd (omega arith)
some_items {A} (x ∷ xs) some = refl

-- what holds of two lists holds of the second
All-behind : {A : Type 0} (P : A → Type 0) (xs ys : List A) → All P (xs ++ ys) → All P ys
All-behind P [] ys all = all
All-behind P (x ∷ xs) ys all = All-behind P xs ys (All-tail P x (xs ++ ys) all)

module _ (catalog : Catalog) where
  abbrev links : List Link
  links = links_of catalog.views

  abbrev at : ℕ → Option ViewDef
  at view = slice_get catalog.views view

  through-nil : (view : Option ViewDef) → through catalog view [] ≡ []
  through-nil None = refl
  through-nil (Some view) = viewed_by-nil (asked catalog view.select) _

  divides_in-nil : (view : Option ViewDef) → divides_in catalog view [] ≡ false
  divides_in-nil None = refl
  divides_in-nil (Some view) = divides_by-nil (asked catalog view.select)

  derived-nil : (path : List ℕ) → derived catalog [] path ≡ []
  derived-nil [] = refl
  derived-nil (view ∷ path) = rw (through-nil (at view)) (derived-nil path)

  divides_along-nil : (path : List ℕ) → divides_along catalog [] path ≡ false
  divides_along-nil [] = refl
  divides_along-nil (view ∷ path) = rw (divides_in-nil (at view), through-nil (at view)) (divides_along-nil path)

  -- along two paths, one behind the other
  derived-append : (block : List (List Value)) (front path : List ℕ) → derived catalog block (front ++ path) ≡ derived catalog (derived catalog block front) path
  derived-append block [] path = refl
  derived-append block (view ∷ front) path = derived-append (through catalog (at view) block) front path

  -- a path ends where its last view leads
  end-last : (table : ℕ) (front : List ℕ) (view : ℕ) → end_of links table (front ++ view ∷ []) ≡ target_of links view
  end-last table [] view = refl
  end-last table (first ∷ front) view = end-last (target_of links first) front view

  -- behind a view the names of the views count
  id-last : (source : SourceKey) (front : List ℕ) (view : ℕ) → contribution_id catalog source (front ++ view ∷ []) ≡ path_id (source_id source) (names_along catalog (front ++ view ∷ []))
  id-last source [] view = refl
  id-last source (first ∷ front) view = refl

  -- what is held of some deliveries, and of others behind them
  pub HoldsAll-append : (a b : List Held) (p q : List Delivery) → HoldsAll catalog a p → HoldsAll catalog b q → HoldsAll catalog (a ++ b) (p ++ q)
  HoldsAll-append [] b [] q front back = back
  HoldsAll-append [] b (delivery ∷ p) q front back = absurd front
  HoldsAll-append (held ∷ a) b [] q front back = absurd front
  HoldsAll-append (held ∷ a) b (delivery ∷ p) q front back = (front.0, HoldsAll-append a b p q front.1 back)

  -- what is held of rows is that of their delivery along a path
  pub Holds-along : (origin table : ℕ) (source : SourceKey) (block rows : List (List Value)) (path : List ℕ) (id : BlockId) (held : Held) → end_at catalog origin path ≡ table → derived catalog block path ≡ rows
      → contribution_id catalog source path ≡ id → IsHeld (form_at catalog table) table id rows held → Holds catalog held (delivery_along catalog origin source block path)
  Holds-along origin table source block rows path id held ends is named holds = record {
    table = holds.table_is ∙ sym ends;
    id = holds.id_is ∙ sym named;
    rows = rw (ends, is) holds.count;
    encoded = rw (ends, is) holds.encoded;
  }

  -- by way of a view
  map-behind : (front : List ℕ) (view : ℕ) (paths : List (List ℕ)) → map (λ (path : List ℕ). front ++ path) (map (λ (path : List ℕ). view ∷ path) paths) ≡ map (λ (path : List ℕ). (front ++ view ∷ []) ++ path) paths
  map-behind front view [] = refl
  map-behind front view (path ∷ paths) = ap₂ (λ (p : List ℕ) (ps : List (List ℕ)). p ∷ ps) (sym (append_assoc front (view ∷ []) path)) (map-behind front view paths)

  module _ (id : BlockId) (front : List ℕ) (rows : List (List Value)) where
    abbrev Are : List Held → List (List ℕ) → Type 0
    Are held paths = AreHeld catalog id front rows held paths

    pub AreHeld-none : Are [] []
    AreHeld-none = record { holds = λ origin source block is named. tt; sound = refl }

    behind-append : (origin : ℕ) (source : SourceKey) (block : List (List Value)) (xs ys : List (List ℕ))
        → deliveries_behind catalog origin source block front (xs ++ ys) ≡ deliveries_behind catalog origin source block front xs ++ deliveries_behind catalog origin source block front ys
    behind-append origin source block xs ys =
        let put = λ (path : List ℕ). front ++ path in
        let has = λ (path : List ℕ). not (is_empty (derived catalog block path)) in
        let D = delivery_along catalog origin source block in
        ap (λ (ps : List (List ℕ)). map D (filter has ps)) (map-append put xs ys)
        ∙ ap (map D) (filter-append has (map put xs) (map put ys))
        ∙ map-append D (filter has (map put xs)) (filter has (map put ys))

    pub AreHeld-append : (a b : List Held) (xs ys : List (List ℕ)) → Are a xs → Are b ys → Are (a ++ b) (xs ++ ys)
    AreHeld-append a b xs ys first second = record {
      holds = λ origin source block is named.
          subst (HoldsAll catalog (a ++ b)) (sym (behind-append origin source block xs ys))
          (HoldsAll-append a b _ _ (first.holds origin source block is named) (second.holds origin source block is named));
      sound = list_any-append (divides_along catalog rows) xs ys ∙ rw (first.sound, second.sound) refl;
    }

    module _ (view : ℕ) (made : List (List Value)) (is_made : made ≡ through catalog (at view) rows) where
      -- on a path by way of a view that divides nothing, what is made divides
      divides-through : divides_in catalog (at view) rows ≡ false → (paths : List (List ℕ)) → list_any (divides_along catalog rows) (map (λ (path : List ℕ). view ∷ path) paths) ≡ list_any (divides_along catalog made) paths
      divides-through sound [] = refl
      divides-through sound (path ∷ paths) = rw (sound, ← is_made) (ap (λ (b : Bool). divides_along catalog made path || b) (divides-through sound paths))

      pub refused-below : (room : ℕ) → divides_in catalog (at view) rows ≡ false → list_any (divides_along catalog made) (paths_within room links (target_of links view)) ≡ true
          → list_any (divides_along catalog rows) (paths_through room links view) ≡ true
      refused-below room sound divides = divides-through sound ([] ∷ paths_within room links (target_of links view)) ∙ divides

      sound-nil : (paths : List (List ℕ)) → list_any (divides_along catalog []) paths ≡ false
      sound-nil [] = refl
      sound-nil (path ∷ paths) = rw (divides_along-nil path) (sound-nil paths)

      skipped : (block : List (List Value)) → derived catalog block front ≡ rows → made ≡ [] → (paths : List (List ℕ))
          → filter (λ (path : List ℕ). not (is_empty (derived catalog block path))) (map (λ (path : List ℕ). front ++ path) (map (λ (path : List ℕ). view ∷ path) paths)) ≡ []
      skipped block is none [] = refl
      skipped block is none (path ∷ paths) =
          let here : derived catalog block (front ++ view ∷ path) ≡ [] =
          derived-append block front (view ∷ path) ∙ ap (λ (r : List (List Value)). derived catalog (through catalog (at view) r) path) is
          ∙ ap (λ (r : List (List Value)). derived catalog r path) (sym is_made ∙ none) ∙ derived-nil path in
          rw here (skipped block is none paths)

      -- nothing is made, and nothing is held
      pub AreHeld-empty : (room : ℕ) → made ≡ [] → divides_in catalog (at view) rows ≡ false → Are [] (paths_through room links view)
      AreHeld-empty room none sound = record {
        holds = λ origin source block is named.
            subst (λ (paths : List (List ℕ)). HoldsAll catalog [] (map (delivery_along catalog origin source block) paths))
            (sym (skipped block is none ([] ∷ paths_within room links (target_of links view)))) tt;
        sound =
            divides-through sound ([] ∷ paths_within room links (target_of links view))
            ∙ ap (λ (r : List (List Value)). list_any (divides_along catalog r) (paths_within room links (target_of links view))) none
            ∙ sound-nil (paths_within room links (target_of links view));
      }

      -- what is made is held in front of what is below it
      pub AreHeld-through : (room : ℕ) (first : Held) (below : List Held) → 1 ≤ length made → divides_in catalog (at view) rows ≡ false
          → AreHeld catalog id (front ++ view ∷ []) made below (paths_within room links (target_of links view))
          → IsHeld (form_at catalog (target_of links view)) (target_of links view) (path_id id (names_along catalog (front ++ view ∷ []))) made first
          → Are (first ∷ below) (paths_through room links view)
      AreHeld-through room first below some sound under holds = record {
        holds = λ origin source block is named.
            let D = delivery_along catalog origin source block in
            let has = λ (path : List ℕ). not (is_empty (derived catalog block path)) in
            let paths = paths_within room links (target_of links view) in
            let path = front ++ view ∷ [] in
            let reached : derived catalog block path ≡ made =
            derived-append block front (view ∷ []) ∙ ap (λ (r : List (List Value)). through catalog (at view) r) is ∙ sym is_made in
            let taken : has path ≡ true = ap (λ (r : List (List Value)). not (is_empty r)) reached ∙ some_items made some in
            let same : deliveries_behind catalog origin source block front (paths_through room links view) ≡ D path ∷ deliveries_behind catalog origin source block path paths =
            rw (taken, map-behind front view paths) refl in
            let id_is : contribution_id catalog source path ≡ path_id id (names_along catalog path) =
            id-last source front view ∙ ap (λ (i : BlockId). path_id i (names_along catalog path)) named in
            subst (HoldsAll catalog (first ∷ below)) (sym same) (
              Holds-along origin (target_of links view) source block made path (path_id id (names_along catalog path)) first (end-last origin front view) reached id_is holds,
              under.holds origin source block reached named,
            );
        sound = divides-through sound ([] ∷ paths_within room links (target_of links view)) ∙ under.sound;
      }

      -- the same, by names for what is equal
      pub held_through : (room target : ℕ) (path other : List ℕ) (own : BlockId) (first : Held) (below after : List Held) → 1 ≤ length made → divides_in catalog (at view) rows ≡ false
          → target_of links view ≡ target → path ≡ front ++ view ∷ [] → other ≡ front ++ view ∷ [] → own ≡ path_id id (names_along catalog other)
          → AreHeld catalog id path made below (paths_within room links target) → IsHeld (form_at catalog target) target own made first → after ≡ first ∷ below
          → Are after (paths_through room links view)
      held_through room target path other own first below after some sound fills path_is other_is own_is under holds joined =
          let Under = λ (t : ℕ) (p : List ℕ). AreHeld catalog id p made below (paths_within room links t) in
          let own_same : own ≡ path_id id (names_along catalog (front ++ view ∷ [])) = own_is ∙ ap (λ (p : List ℕ). path_id id (names_along catalog p)) other_is in
          subst (λ (held : List Held). Are held (paths_through room links view)) (sym joined)
          (AreHeld-through room first below some sound
          (subst (λ (t : ℕ). Under t (front ++ view ∷ [])) (sym fills) (subst (Under target) path_is under))
          (subst (λ (t : ℕ). IsHeld (form_at catalog t) t (path_id id (names_along catalog (front ++ view ∷ []))) made first) (sym fills)
          (subst (λ (i : BlockId). IsHeld (form_at catalog target) target i made first) own_same holds)))

    -- a view that divides refuses
    pub refused-here : (room view : ℕ) → divides_in catalog (at view) rows ≡ true → list_any (divides_along catalog rows) (paths_through room links view) ≡ true
    refused-here room view divides = rw divides refl

    -- of the paths from a table so many are done, and this is held of them
    pub record IsDone (room table view : ℕ) (held : List Held) : Type 0 where
      pub done : List (List ℕ)
      pub left : done ++ paths_by (room - 1) links (readers_from view (drop view links) table) ≡ paths_within room links table
      pub are : Are held done

    abbrev left_from : ℕ → ℕ → ℕ → List (List ℕ)
    left_from room table view = paths_by (room - 1) links (readers_from view (drop view links) table)

    module _ (room table : ℕ) where
      -- nothing is done
      pub IsDone-first : (held : List Held) → 1 ≤ room → held ≡ [] → IsDone room table 0 held
      IsDone-first held some none =
          let e : room ≡ suc (room - 1) = omega (arith, some) in
          rw none (record { done = []; left = sym (ap (λ (r : ℕ). paths_within r links table) e); are = AreHeld-none })

      module _ (view next : ℕ) (def : ViewDef) (there : slice_get catalog.views view ≡ Some def) (step : next ≡ view + 1) where
        link_there : slice_get links view ≡ Some (link_of def)
        link_there = slice_get-map link_of catalog.views view ∙ ap (option_map link_of) there

        link_at : get_or links view (link_of def) ≡ link_of def
        link_at = get_or_from_slice_get links view (link_of def) (link_of def) link_there

        next_left : def.source ≡ table → left_from room table view ≡ paths_through (room - 1) links view ++ left_from room table (view + 1)
        next_left reads =
            ap (paths_by (room - 1) links)
            (readers-some view links table (link_of def) (slice_get_within links view (link_of def) link_there) (ap (λ (l : Link). l.source) link_at ∙ reads))

        -- the paths that begin with the next view are done
        pub IsDone-more : (held more after : List Held) → IsDone room table view held → def.source ≡ table → Are more (paths_through (room - 1) links view) → after ≡ held ++ more → IsDone room table next after
        IsDone-more held more after is reads one joined =
            let P = paths_through (room - 1) links view in
            rw (joined, step)
            (record {
              done = is.done ++ P;
              left =
                  append_assoc is.done P (left_from room table (view + 1))
                  ∙ ap (λ (ps : List (List ℕ)). is.done ++ ps) (sym (next_left reads))
                  ∙ is.left;
              are = AreHeld-append held more is.done P is.are one;
            })

        -- the next view reads another table
        pub IsDone-skip : (held : List Held) → IsDone room table view held → def.source ≢ table → IsDone room table next held
        IsDone-skip held is other =
            rw step
            (record {
              done = is.done;
              left =
                  ap (λ (views : List ℕ). is.done ++ paths_by (room - 1) links views)
                  (sym (readers-none view links table (link_of def) (slice_get_within links view (link_of def) link_there) (λ same. other (ap (λ (l : Link). l.source) (sym link_at) ∙ same))))
                  ∙ is.left;
              are = is.are;
            })

        -- what holds of all paths holds of those that begin with the next view
        pub IsDone-next : (P : List ℕ → Type 0) (held : List Held) → IsDone room table view held → def.source ≡ table → All P (paths_within room links table) → All P (paths_through (room - 1) links view)
        IsDone-next P held is reads all =
            let left : All P (left_from room table view) = All-behind P is.done (left_from room table view) (subst (All P) (sym is.left) all) in
            All-front P (paths_through (room - 1) links view) (left_from room table (view + 1)) (subst (All P) (next_left reads) left)

        -- a path that begins with the next view refuses
        pub IsDone-refused : (held : List Held) → IsDone room table view held → def.source ≡ table → list_any (divides_along catalog rows) (paths_through (room - 1) links view) ≡ true
            → list_any (divides_along catalog rows) (paths_within room links table) ≡ true
        IsDone-refused held is reads divides =
            let D = divides_along catalog rows in
            let P = paths_through (room - 1) links view in
            let rest = left_from room table (view + 1) in
            ap (list_any D) (sym is.left)
            ∙ list_any-append D is.done (left_from room table view)
            ∙ ap₂ (λ (a b : Bool). a || b) is.are.sound (ap (list_any D) (next_left reads) ∙ list_any-append D P rest ∙ ap (λ (b : Bool). b || list_any D rest) divides)

      -- all are done
      pub IsDone-all : (view : ℕ) (held : List Held) → length catalog.views ≤ view → IsDone room table view held → Are held (paths_within room links table)
      IsDone-all view held end is =
          let none : readers_from view (drop view links) table ≡ [] = readers-end view links table (omega (arith, end, length-map catalog.views link_of)) in
          let whole : is.done ≡ paths_within room links table =
          sym (append-nil is.done) ∙ ap (λ (views : List ℕ). is.done ++ paths_by (room - 1) links views) (sym none) ∙ is.left in
          subst (Are held) whole is.are
