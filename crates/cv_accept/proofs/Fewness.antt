-- The tokens that are read are few.
use Rattle.std.proofs.Common.{◌≤◌, List, length, ap, arith}
use Rattle.cv_lex.specs.Lexis.{Token}
use Rattle.cv_library.specs.Givens.{Given}
use Rattle.cv_library.proofs.Lengths.{few_given}
use Rattle.cv_oracles.proofs.Lengths.{few_read}
use Rattle.cv_accept.specs.Accepted.{AreRead}

pub few_tokens_read : (g : Given) (ts : List Token) → length g.bytes ≤ 1048576 → AreRead g ts → length ts ≤ 10485773
few_tokens_read g ts h r =
    let few = few_given g r.source h r.lexed in
    let more = few_read r.source in
    let same = ap length r.stand in
    omega arith
