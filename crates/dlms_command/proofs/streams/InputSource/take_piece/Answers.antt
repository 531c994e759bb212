use Rattle.dlms_program.proofs.PieceLemmas.{forgets_piece}
use Rattle.dlms_command.proofs.streams.InputSource.take_piece.Goals as goal

pub returns-clause-piece : goal.returns-clause-piece
returns-clause-piece g c = forgets_piece _ _ _ _ c.take_piece.result c.take_piece.ensures.piece
