-- Rows in the order in which they are shown.
use Rattle.std.proofs.Common.{◌≡◌, ◌∙◌, Bool, true, false, List, [], ◌∷◌, Less, Equal, Greater, refl, sym, ap}
use Rattle.std.proofs.lemmas.List.MinMax.{ranks_by}
use Rattle.std.specs.Cmp.{IsTotalOrder, IsStrictWeakOrder, on_total, then_total}
use Rattle.std.specs.List.Sorted.{IsPermutation, IsSortedBy}
use Rattle.std.specs.Ordering.{is_lt, on, ordering_reverse, ordering_then}
use Rattle.std.specs.declared.cmp.Ordering.{Ordering}
use Rattle.chv_types.proofs.SortingLemmas.{sorted_by-unique}
use Rattle.chv_types.specs.Order.{value_cmp}
use Rattle.chv_types.specs.OrderLaws.{row_cmp-IsAntisymmetric, row_cmp_total, value_cmp_total}
use Rattle.chv_types.specs.Sorting.{sorted_by}
use Rattle.chv_types.specs.declared.value.Value.{Value}
use Rattle.chv_expr.specs.Terms.{value_at}
use Rattle.chv_query.specs.Shown.{order_below, order_cmp, turned}
use Rattle.chv_query.specs.declared.query.Sort.{Sort}

reversed_equal : (r : Ordering) → ordering_reverse r ≡ Equal → r ≡ Equal
reversed_equal Less e = cc
reversed_equal Equal e = refl
reversed_equal Greater e = cc

-- an order that is turned is total where it is total itself
turned_total : {K : Type 0} (down : Bool) (R : K → K → Ordering) → IsTotalOrder R → IsTotalOrder (λ a b. turned down (R a b))
turned_total false R o = record { antisymm = o.antisymm; trans = o.trans; congr = o.congr }
turned_total true R o =
    let back : (a b : _) → ordering_reverse (R a b) ≡ R b a = λ a b. sym (o.antisymm b a) in
    record {
      antisymm = λ a b. ap ordering_reverse (o.antisymm a b);
      trans = λ a b c first second. back a c ∙ o.trans c b a (sym (back b c) ∙ second) (sym (back a b) ∙ first);
      congr = λ a b c same. ap ordering_reverse (o.congr a b c (reversed_equal (R a b) same));
    }

order_cmp_total : (sorts : List Sort) → IsTotalOrder (order_cmp sorts)
order_cmp_total [] = row_cmp_total
order_cmp_total (sort ∷ sorts) =
    then_total (turned_total sort.down (on (value_at sort.place) value_cmp) (on_total (value_at sort.place) value_cmp_total)) (order_cmp_total sorts)

pub order_below-IsStrictWeakOrder : (sorts : List Sort) → IsStrictWeakOrder (order_below sorts)
order_below-IsStrictWeakOrder sorts = ranks_by (order_cmp_total sorts) (λ (row : List Value). row)

-- the second of two orders tells what both together do not tell apart
second_equal : (first second : Ordering) → ordering_then first second ≡ Equal → second ≡ Equal
second_equal Less second e = cc
second_equal Equal second e = e
second_equal Greater second e = cc

order_cmp-Equal : (sorts : List Sort) (a b : List Value) → order_cmp sorts a b ≡ Equal → a ≡ b
order_cmp-Equal [] a b e = row_cmp-IsAntisymmetric a b e
order_cmp-Equal (sort ∷ sorts) a b e =
    order_cmp-Equal sorts a b (second_equal (turned sort.down (value_cmp (value_at sort.place a) (value_at sort.place b))) (order_cmp sorts a b) e)

-- rows of which neither is below the other are the same
order_below-apart : (sorts : List Sort) (a b : List Value) → order_below sorts a b ≡ false → order_below sorts b a ≡ false → a ≡ b
order_below-apart sorts a b =
    elim (order_cmp sorts a b) as (λ r. order_cmp sorts a b ≡ r → is_lt r ≡ false → order_below sorts b a ≡ false → a ≡ b) [
      | Less ↦ λ e f g. cc
      | Equal ↦ λ e f g. order_cmp-Equal sorts a b e
      | Greater ↦ λ e f g. let back : order_cmp sorts b a ≡ Less = (order_cmp_total sorts).antisymm b a ∙ ap ordering_reverse e in
          let below : is_lt (order_cmp sorts b a) ≡ true = ap is_lt back in cc
    ] refl

-- rows in this order are the only ones of all that are the same rows
pub sorted-unique : (sorts : List Sort) (rows sorted : List (List Value)) → IsPermutation rows sorted → IsSortedBy (order_below sorts) sorted
    → sorted ≡ sorted_by (order_below sorts) rows
sorted-unique sorts = sorted_by-unique (order_below-IsStrictWeakOrder sorts) (order_below-apart sorts)
