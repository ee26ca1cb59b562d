use Rattle.chv_merge.proofs.EngineLemmas.{normal_form_of-IsSortedBy, normal_form_of-alike, normal_form_of-append, normal_form_of-filter, normal_form_of-kinds, normal_form_of-length, normal_form_of-permuted}
use Rattle.chv_merge.proofs.laws.law_normal_form_of.Goals as goal

pub returns : goal.returns
returns c = record {
  bag = normal_form_of-permuted;
  join = normal_form_of-append;
  key = normal_form_of-alike;
  filter = normal_form_of-filter;
  order = normal_form_of-IsSortedBy;
  kinds = normal_form_of-kinds;
  most = normal_form_of-length;
}
