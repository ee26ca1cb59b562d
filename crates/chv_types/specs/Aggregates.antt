-- Aggregate functions: their names, and the kinds of their results.
use Rattle.std.specs.Prelude.{ℕ, Bool, true, false, cond, List, [], ◌++◌, codes, Option, Some, None}
use Rattle.std.specs.Str.{bytes_eq, str_eq_ignore_ascii_case}
use Rattle.chv_types.specs.declared.aggregate.AggForm.{AggForm}
use Rattle.chv_types.specs.declared.aggregate.AggForm.TheVariants as form
use Rattle.chv_types.specs.declared.aggregate.AggName.{AggName}
use Rattle.chv_types.specs.declared.aggregate.AggName.TheVariants.{Count, Sum, Min, Max, UniqExact}
use Rattle.chv_types.specs.declared.kind.Scalar.{Scalar}
use Rattle.chv_types.specs.declared.kind.Scalar.TheVariants as scalar

-- the name of a function
abbrev pub agg_word : AggName → List ℕ
agg_word Count = codes "count"
agg_word Sum = codes "sum"
agg_word Min = codes "min"
agg_word Max = codes "max"
agg_word UniqExact = codes "uniqExact"

-- what stands behind the name of a function, for each form
abbrev pub ending : AggForm → List ℕ
ending form.Plain = []
ending form.State = codes "State"
ending form.Merge = codes "Merge"
ending form.MergeState = codes "MergeState"

-- count, sum, min and max alone may be written in any letter case
abbrev pub in_any_case : AggName → AggForm → Bool
in_any_case UniqExact form.Plain = false
in_any_case agg form.Plain = true
in_any_case agg other = false

-- a name is that of the function in the form
unfoldable pub is_agg_name : AggName → AggForm → List ℕ → Bool
is_agg_name agg form name =
    cond (in_any_case agg form) (str_eq_ignore_ascii_case name (agg_word agg)) (bytes_eq name (agg_word agg ++ ending form))

-- the form in which a name is that of the function
abbrev pub form_of : AggName → List ℕ → Option AggForm
form_of agg name =
    cond (is_agg_name agg form.Plain name) (Some form.Plain)
    (cond (is_agg_name agg form.State name) (Some form.State)
    (cond (is_agg_name agg form.Merge name) (Some form.Merge)
    (cond (is_agg_name agg form.MergeState name) (Some form.MergeState) None)))

-- the function, where a name is its in a form, or else what others give
abbrev pub with_form : AggName → Option AggForm → Option (AggName × AggForm) → Option (AggName × AggForm)
with_form agg None others = others
with_form agg (Some form) others = Some (agg, form)

-- the function and the form with a name
unfoldable pub agg_of : List ℕ → Option (AggName × AggForm)
agg_of name =
    with_form Count (form_of Count name)
    (with_form Sum (form_of Sum name)
    (with_form Min (form_of Min name)
    (with_form Max (form_of Max name)
    (with_form UniqExact (form_of UniqExact name) None))))

-- the kind of a sum
abbrev pub sum_of : Scalar → Option Scalar
sum_of scalar.Bool = None
sum_of scalar.Text = None
sum_of scalar.Int8 = Some scalar.Int64
sum_of scalar.Int16 = Some scalar.Int64
sum_of scalar.Int32 = Some scalar.Int64
sum_of scalar.Int64 = Some scalar.Int64
sum_of unsigned = Some scalar.UInt64

-- a count takes no values, and its kind is written as UInt64
abbrev pub count_of : Scalar → Option Scalar
count_of scalar.UInt64 = Some scalar.UInt64
count_of other = None

-- the kind of a result over values of a kind
abbrev pub result_of : AggName → Scalar → Option Scalar
result_of Count arg = count_of arg
result_of Sum arg = sum_of arg
result_of Min arg = Some arg
result_of Max arg = Some arg
result_of UniqExact arg = Some scalar.UInt64
