use Rattle.std.proofs.Common.{◌≡◌, ◌∙◌, ◌++◌, ◌∷◌, [], List, ℕ, None, Some, map, ap, sym}
use Rattle.std.proofs.lemmas.Result.{on_ok_weaker}
use Rattle.chv_group.proofs.FeedLemmas.{known-over, known-sound, known-taken, known-within, new-sound, new-taken}
use Rattle.chv_group.proofs.OverLemmas.{on_both, on_three}
use Rattle.chv_group.specs.KeyBytes.{key_bytes}
use Rattle.chv_types.specs.Names.{place_of}
use Rattle.chv_types.specs.Values.{seen_value}
use Rattle.chv_group.proofs.grouping.feed_groups.Goals as goal

pub take_all-requires-clause-within : goal.take_all-requires-clause-within
take_all-requires-clause-within c =
    known-within c.args.calls.now c.args.names.now c.args.keys.now.items c.args.tallies.now.items c.requires.sound (key_bytes (map seen_value c.args.key.now)) c.in-Some.place
    (sym c.in_ok-place.ensures.place ∙ c.in-Some.is)

pub take_all-requires-clause-over : goal.take_all-requires-clause-over
take_all-requires-clause-over c =
    known-over c.args.calls.now c.args.names.now c.args.keys.now.items c.args.tallies.now.items c.requires.sound (key_bytes (map seen_value c.args.key.now)) c.in-Some.place
    (sym c.in_ok-place.ensures.place ∙ c.in-Some.is)

pub returns-in-Some-clause-sound : goal.returns-in-Some-clause-sound
returns-in-Some-clause-sound c =
    let key = map seen_value c.args.key.now in
    let at : place_of (key_bytes key) c.args.names.now ≡ Some c.in-Some.place = sym c.in_ok-place.ensures.place ∙ c.in-Some.is in
    let kept : c.place.new.self ≡ c.args.names.now = c.in_ok-place.ensures.kept in
    on_three c.take_all.result c.take_all.ensures.over c.take_all.ensures.others c.take_all.ensures.size (λ over others size. rw kept (
    known-sound c.args.calls.now c.args.names.now c.args.keys.now.items c.args.tallies.now.items c.requires.sound c.take_all.new.tallies.items (key_bytes key) c.in-Some.place at others size over))

pub returns-in-Some-clause-taken : goal.returns-in-Some-clause-taken
returns-in-Some-clause-taken c =
    let key = map seen_value c.args.key.now in
    let at : place_of (key_bytes key) c.args.names.now ≡ Some c.in-Some.place = sym c.in_ok-place.ensures.place ∙ c.in-Some.is in
    let kept : c.place.new.self ≡ c.args.names.now = c.in_ok-place.ensures.kept in
    on_both c.take_all.result c.take_all.ensures.taken c.take_all.ensures.others (λ taken others inputs of. rw kept (
    known-taken c.args.calls.now c.args.names.now c.args.keys.now.items c.args.tallies.now.items c.requires.sound c.take_all.new.tallies.items inputs
    (record { key = key; args = map seen_value c.args.args.now }) c.in-Some.place at others c.in_ok-place.ensures.held c.requires.takes taken of))

pub returns-in_ok-push_group-in-None-clause-sound : goal.returns-in_ok-push_group-in-None-clause-sound
returns-in_ok-push_group-in-None-clause-sound c =
    let key = map seen_value c.args.key.now in
    on_ok_weaker c.add.result (λ added.
    let names : c.add.new.self ≡ c.args.names.now ++ key_bytes key ∷ [] = added ∙ ap (λ (some : List (List ℕ)). some ++ key_bytes key ∷ []) c.in_ok-place.ensures.kept in
    rw names (
    new-sound c.args.calls.now c.args.names.now c.args.keys.now.items c.args.tallies.now.items c.requires.sound c.push_group.new.keys.items c.push_group.new.tallies.items key
    (map seen_value c.args.args.now) c.in_ok-push_group-in-None.ensures.key c.in_ok-push_group-in-None.ensures.taken c.in_ok-push_group-in-None.ensures.over (key_bytes key))) c.add.ensures

pub returns-in_ok-push_group-in-None-clause-taken : goal.returns-in_ok-push_group-in-None-clause-taken
returns-in_ok-push_group-in-None-clause-taken c =
    let key = map seen_value c.args.key.now in
    let none : place_of (key_bytes key) c.args.names.now ≡ None = sym c.in_ok-place.ensures.place ∙ c.in-None.is in
    on_ok_weaker c.add.result (λ added inputs of.
    let names : c.add.new.self ≡ c.args.names.now ++ key_bytes key ∷ [] = added ∙ ap (λ (some : List (List ℕ)). some ++ key_bytes key ∷ []) c.in_ok-place.ensures.kept in
    rw names (
    new-taken c.args.calls.now c.args.names.now c.args.keys.now.items c.args.tallies.now.items c.requires.sound c.push_group.new.keys.items c.push_group.new.tallies.items inputs
    (record { key = key; args = map seen_value c.args.args.now }) c.in_ok-push_group-in-None.ensures.key c.in_ok-push_group-in-None.ensures.taken c.in_ok-push_group-in-None.ensures.over none
    c.in_ok-place.ensures.held c.requires.takes of)) c.add.ensures
