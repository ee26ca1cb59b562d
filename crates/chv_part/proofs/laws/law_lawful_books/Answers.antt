use Rattle.chv_part.proofs.BookLemmas.{IsLawfulBook-no_book, IsLawfulBook-committed, committed-arrived}
use Rattle.chv_part.proofs.laws.law_lawful_books.Goals as goal

pub returns-clause-none : goal.returns-clause-none
returns-clause-none c = IsLawfulBook-no_book

pub returns-clause-committed : goal.returns-clause-committed
returns-clause-committed c = IsLawfulBook-committed

pub returns-clause-arrived : goal.returns-clause-arrived
returns-clause-arrived c = committed-arrived
