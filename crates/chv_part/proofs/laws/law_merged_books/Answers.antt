use Rattle.chv_part.specs.Merging.{all_parts, due}
use Rattle.chv_part.proofs.MergingLemmas.{IsRunOf-due, IsLawfulBook-next_merged, IsLawfulBook-all_merged, rows_in-merged_where}
use Rattle.chv_part.proofs.laws.law_merged_books.Goals as goal

pub returns-clause-next : goal.returns-clause-next
returns-clause-next c = λ form book lawful. (IsLawfulBook-next_merged form book lawful, rows_in-merged_where (due book.layout) book)

pub returns-clause-all : goal.returns-clause-all
returns-clause-all c = λ form book lawful. (IsLawfulBook-all_merged form book lawful, rows_in-merged_where (all_parts book.layout) book)

pub returns-clause-due : goal.returns-clause-due
returns-clause-due c = IsRunOf-due
