use Rattle.cv_query_secrets.proofs.unread.Chances.{holds}
use Rattle.cv_query_secrets.proofs.unread.unread_choices_change_places_with_tests.Goals as goal

pub returns : goal.returns
returns c = λ s x formed secret. holds s x formed.phrase secret
