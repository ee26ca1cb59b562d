use Rattle.chv_merge.proofs.NormalFormLemmas.{normal_form-IsPermutation, normal_form-IsSortedBy, normal_form-permuted, normal_form-append}
use Rattle.chv_merge.proofs.laws.law_normal_form.Goals as goal

pub returns : goal.returns
returns c = record { rows = normal_form-IsPermutation; sorted = normal_form-IsSortedBy; bag = normal_form-permuted; join = normal_form-append }
