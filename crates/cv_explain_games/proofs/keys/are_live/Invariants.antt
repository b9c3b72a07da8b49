use Rattle.std.proofs.Common.{length, take}
use Rattle.std.specs.Prelude.{All}
use Rattle.cv_directory.specs.Live.{IsLive}
use Rattle.cv_explain_games.proofs.keys.are_live.Given as goal

abbrev pub invariant-decls : goal.invariant-decls
invariant-decls l = All (IsLive (length l.pool.trees)) (take l.k l.decls.list)
