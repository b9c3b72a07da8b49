use Rattle.std.proofs.Common.{◌≡◌, arith, get_or, length, rules, subst, sym}
use Rattle.std.proofs.lemmas.List.Elements.{All-more}
use Rattle.std.proofs.lemmas.Option.{slice_get_cases}
use Rattle.cv_directory.specs.Live.{IsLive}
use Rattle.cv_explain_games.proofs.keys.are_live.Goals as goal

pub decls-preserved : goal.decls-preserved
decls-preserved c =
    let n = length c.args.pool.now.trees in
    let ds = c.args.decls.now.list in
    let d = c.in-Some.decl.now in
    let there : get_or ds c.decls.k d ≡ d = grind (arith, slice_get_cases) in
    let live : IsLive n d = search rules in
    All-more (IsLive n) ds c.decls.k d (omega arith) c.decls.invariant (subst (IsLive n) (sym there) live)
