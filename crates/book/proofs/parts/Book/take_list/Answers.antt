use Rattle.book.proofs.parts.Book.take_list.Goals as goal

pub returns-in-Err : goal.returns-in-Err
returns-in-Err c = search
