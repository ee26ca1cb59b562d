use Rattle.std.proofs.Common.{◌≡◌, ◌∷◌, ◌++◌, [], List, append-nil, ap, subst, sym, ◌∙◌, rules}
use Rattle.chv_agg.specs.OfKinds.{AllAreOf}
use Rattle.chv_merge.proofs.AdjacentLemmas.{AllAreOf-append, AllAreOf-behind, AllAreOf-front, Ascending-behind, aggregated-none, aggregated-step, before-Ascending}
use Rattle.chv_merge.specs.NormalForms.{aggregated, before, merge_all}
use Rattle.chv_types.proofs.SortingLemmas.{Ascending}
use Rattle.chv_types.specs.declared.value.Value.{Value}
use Rattle.chv_merge.proofs.adjacent.merge_adjacent.Goals as goal

pub merge_run-requires-clause-others : goal.merge_run-requires-clause-others
merge_run-requires-clause-others c =
    let kinds = c.args.kinds.now in
    let others = c.in_ok-others.others.items in
    let rest = c.take_alike.new.left.items in
    let is : c.loop-first.left.items ≡ c.in-Some.first ∷ others ++ rest =
    c.in-Some.ensures.items ∙ ap (λ (rows : List (List Value)). c.in-Some.first ∷ rows) c.in_ok-others.ensures.taken in
    let all : AllAreOf kinds (c.in-Some.first ∷ others ++ rest) = subst (AllAreOf kinds) is c.loop-first.invariant.kinds in
    subst (AllAreOf kinds) (sym c.deref.ensures.value) (AllAreOf-front kinds others rest all.1)

pub loop-first-preserved : goal.loop-first-preserved
loop-first-preserved c =
    let kinds = c.args.kinds.now in
    let key = c.args.key.now in
    let first = c.in-Some.first in
    let others = c.in_ok-others.others.items in
    let rest = c.take_alike.new.left.items in
    let is : c.loop-first.left.items ≡ first ∷ others ++ rest = c.in-Some.ensures.items ∙ ap (λ (rows : List (List Value)). first ∷ rows) c.in_ok-others.ensures.taken in
    let all : AllAreOf kinds (first ∷ others ++ rest) = subst (AllAreOf kinds) is c.loop-first.invariant.kinds in
    let up : Ascending (before key) (first ∷ others ++ rest) = subst (Ascending (before key)) is c.loop-first.invariant.sorted in
    let joined : c.in_ok-merge_run.field-0 ≡ merge_all kinds key (first ∷ others) =
    c.in_ok-merge_run.ensures.row ∙ ap (λ (rows : List (List Value)). merge_all kinds key (first ∷ rows)) c.deref.ensures.value in
    record {
      so_far = aggregated-step kinds key c.loop-first.merged.items c.push.new.self.items c.loop-first.left.items others rest _ first c.in_ok-merge_run.field-0 is c.loop-first.invariant.sorted
          c.in_ok-others.ensures.alike c.in_ok-others.ensures.left joined c.in_ok-push.ensures.items c.loop-first.invariant.so_far;
      made = subst (AllAreOf kinds) (sym c.in_ok-push.ensures.items) (AllAreOf-append kinds c.loop-first.merged.items (c.in_ok-merge_run.field-0 ∷ []) c.loop-first.invariant.made (c.in_ok-merge_run.ensures.kinds, tt));
      kinds = AllAreOf-behind kinds others rest all.1;
      sorted = Ascending-behind (before key) others rest up.1;
    }

pub returns-clause-rows : goal.returns-clause-rows
returns-clause-rows c =
    let none : c.loop-first.left.items ≡ [] = search rules in
    let nothing : aggregated c.args.kinds.now c.args.key.now c.loop-first.left.items ≡ [] = ap (aggregated c.args.kinds.now c.args.key.now) none ∙ aggregated-none c.args.kinds.now c.args.key.now in
    sym (append-nil c.loop-first.merged.items) ∙ ap (λ (rows : List (List Value)). c.loop-first.merged.items ++ rows) (sym nothing) ∙ c.loop-first.invariant.so_far
    ∙ ap (aggregated c.args.kinds.now c.args.key.now) c.from_vec-left.ensures.items

pub loop-first-init : goal.loop-first-init
loop-first-init c =
    let kinds = c.args.kinds.now in
    let key = c.args.key.now in
    let is = c.from_vec-left.ensures.items in
    record {
      so_far = ap (λ (rows : List (List Value)). rows ++ aggregated kinds key c.from_vec-left.result.items) c.new-merged.ensures.items;
      made = subst (AllAreOf kinds) (sym c.new-merged.ensures.items) tt;
      kinds = subst (AllAreOf kinds) (sym is) c.requires.kinds;
      sorted = subst (Ascending (before key)) (sym is) (before-Ascending key c.args.rows.items c.requires.sorted);
    }
