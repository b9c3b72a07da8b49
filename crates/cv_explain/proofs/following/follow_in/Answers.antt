use Rattle.std.proofs.Common.{◌≡◌, ℕ, ap, sym, ◌∙◌, Ok}
use Rattle.cv_accept.proofs.Readings.{accepted}
use Rattle.cv_accept.specs.Accepted.{Content, most_pool, read_of}
use Rattle.cv_library.specs.Givens.{Given}
use Rattle.cv_sequences.proofs.files.Ready.{equivalences}
use Rattle.cv_explain.proofs.following.follow_in.Goals as goal

reads_at : (n : ℕ) (given : Given) (c : Content) → n ≡ most_pool → read_of n given ≡ Ok c → read_of most_pool given ≡ Ok c
reads_at n given c e h = ap (λ m. read_of m given) (sym e) ∙ h

pub follow_accepted-requires-clause-formed : goal.follow_accepted-requires-clause-formed
follow_accepted-requires-clause-formed c = (accepted most_pool _ _ (reads_at _ _ _ c.requires.limit c.in-Ok.ensures.reads)).well_formed

pub follow_accepted-requires-clause-limit : goal.follow_accepted-requires-clause-limit
follow_accepted-requires-clause-limit c = c.read.ensures.limit ∙ c.requires.limit

pub follow_accepted-requires-clause-equivalences : goal.follow_accepted-requires-clause-equivalences
follow_accepted-requires-clause-equivalences c = λ y t e.
    let w = equivalences _ _ (reads_at _ _ _ c.requires.limit c.in-Ok.ensures.reads) y t e in
    (w.left, w.accepted)
