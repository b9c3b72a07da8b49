use Rattle.cv_inline_sites.proofs.results.Newest.{live_push}
use Rattle.cv_inline_sites.proofs.results.more.with_newest.Goals as goal

pub returns-clause-live : goal.returns-clause-live
returns-clause-live c = λ live all t. live_push live c.in_ok-more.more.items c.push.new.self.items _ c.in_ok-push.ensures.items (c.in_ok-more.ensures.live live all) t
