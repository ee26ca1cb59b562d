use Rattle.std.proofs.Common.{◌≡◌, ◌∙◌, ◌++◌, ◌∷◌, [], ℤ, None, ap, rules, subst, sym, to_z, of_z}
use Rattle.std.proofs.lemmas.List.Elements.{All-push}
use Rattle.std.specs.Int.{w128}
use Rattle.std.specs.Int.RustNames.{FitsSigned}
use Rattle.std.specs.List.{All, position}
use Rattle.std.specs.Ordering.{int_eq}
use Rattle.indexmap.specs.IndexSet.{insert_key}
use Rattle.chv_group.proofs.KeyNameLemmas.{insert-number, place_of-number}
use Rattle.chv_group.proofs.key_names.add_to_set.Goals as goal

pub returns-clause-added : goal.returns-clause-added
returns-clause-added c =
    let n = c.args.n in
    let numbers = c.args.numbers.now.keys in
    let fits : FitsSigned w128 n = search rules in
    let same : to_z w128 (of_z w128 n) ≡ n = search rules in
    let new : position (int_eq n) numbers ≡ None = sym (place_of-number n numbers fits c.requires.numbers) ∙ c.requires.new in
    c.in_ok-insert.ensures.keys ∙ ap (λ (k : ℤ). insert_key int_eq numbers k) same ∙ insert-number n numbers new

pub returns-clause-fit : goal.returns-clause-fit
returns-clause-fit c =
    let n = c.args.n in
    let numbers = c.args.numbers.now.keys in
    let fits : FitsSigned w128 n = search rules in
    let same : to_z w128 (of_z w128 n) ≡ n = search rules in
    let new : position (int_eq n) numbers ≡ None = sym (place_of-number n numbers fits c.requires.numbers) ∙ c.requires.new in
    let keys : c.insert.new.self.keys ≡ numbers ++ n ∷ [] =
    c.in_ok-insert.ensures.keys ∙ ap (λ (k : ℤ). insert_key int_eq numbers k) same ∙ insert-number n numbers new in
    subst (All (FitsSigned w128)) (sym keys) (All-push (FitsSigned w128) numbers n c.requires.numbers fits)
