use Rattle.slate_board.proofs.Stepping.{run_kept}
use Rattle.slate_board.proofs.laws.no_word_goes_back.Goals as goal

pub returns-clause-run : goal.returns-clause-run
returns-clause-run c = run_kept
