use Rattle.tl_written.proofs.Texts.{spelled_written}
use Rattle.tl_written.proofs.spelled_tests_are_written.Goals as goal

pub returns : goal.returns
returns c = spelled_written
