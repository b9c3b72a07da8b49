use Rattle.cv_meaning_chances.proofs.LikeTests.{like_tests}
use Rattle.cv_meaning_chances.proofs.like_tests.Goals as goal

pub returns : goal.returns
returns c = like_tests
