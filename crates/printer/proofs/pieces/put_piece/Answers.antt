use Rattle.printer.specs.Pieces.{bytes_of}
use Rattle.printer.proofs.pieces.put_piece.Goals as goal

pub put_word-requires : goal.put_word-requires
unfolding bytes_of
put_word-requires c = rw c.in-Opening.is at c.requires

pub put_word-requires-in-Empty : goal.put_word-requires-in-Empty
unfolding bytes_of
put_word-requires-in-Empty c = rw c.in-Empty.is at c.requires

pub put_number-requires : goal.put_number-requires
unfolding bytes_of
put_number-requires c = rw c.in-Number.is at c.requires

pub put_word-requires-in-Space : goal.put_word-requires-in-Space
unfolding bytes_of
put_word-requires-in-Space c = rw c.in-Space.is at c.requires

pub put_dotted-requires : goal.put_dotted-requires
unfolding bytes_of
put_dotted-requires c = rw c.in-Dotted.is at c.requires

pub put_word-requires-in-Closing : goal.put_word-requires-in-Closing
unfolding bytes_of
put_word-requires-in-Closing c = rw c.in-Closing.is at c.requires

pub returns-in-Opening : goal.returns-in-Opening
unfolding bytes_of
returns-in-Opening c = rw c.in-Opening.is c.put_word.ensures

pub returns-in-Empty : goal.returns-in-Empty
unfolding bytes_of
returns-in-Empty c = rw c.in-Empty.is c.put_word-in-Empty.ensures

pub returns-in-Number : goal.returns-in-Number
unfolding bytes_of
returns-in-Number c = rw c.in-Number.is c.put_number.ensures

pub returns-in-Space : goal.returns-in-Space
unfolding bytes_of
returns-in-Space c = rw c.in-Space.is c.put_word-in-Space.ensures

pub returns-in-Dotted : goal.returns-in-Dotted
unfolding bytes_of
returns-in-Dotted c = rw c.in-Dotted.is c.put_dotted.ensures

pub returns-in-Closing : goal.returns-in-Closing
unfolding bytes_of
returns-in-Closing c = rw c.in-Closing.is c.put_word-in-Closing.ensures
