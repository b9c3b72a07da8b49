use Rattle.std.proofs.Common.{◌≡◌, ◌+◌, length, ap, subst, sym, ◌∙◌, arith, Some}
use Rattle.std.specs.Option.{option_copied}
use Rattle.std.proofs.lemmas.Result.{err_from_is_err_and}
use Rattle.cv_syntax.specs.Declarations.{declarations, declared}
use Rattle.cv_syntax.specs.PoolTrees.{tree_at}
use Rattle.cv_scope_rules.specs.typing.Parts.{declaration_parts, first_in}
use Rattle.cv_scope_rules.specs.typing.Refusals.{IsRefusalOf, parts_size}
use Rattle.cv_typing.proofs.Bodies.{behind_typed, refused_before, size_append}
use Rattle.cv_typing.proofs.Files.{arguments_live}
use Rattle.cv_typing.proofs.Sides.{file_end, file_start, file_step, live_at, rest_parts}
use Rattle.cv_typing.proofs.checking.check_parts.Goals as goal

pub decls-init : goal.decls-init
decls-init c =
    let e = file_start c.args.pool.now.trees c.args.decls.now.list (tree_at c.args.pool.now.trees (Some c.args.root)) in
    let s = ap parts_size e in
    record {
      same = ap (first_in (declarations c.args.pool.now.trees c.args.decls.now.list) 0) e;
      sum = omega (arith, s);
    }

pub check_declaration-requires-clause-live : goal.check_declaration-requires-clause-live
check_declaration-requires-clause-live c = live_at (length c.args.pool.now.trees) c.args.decls.now.list c.decls.k c.in-Some.decl.now (sym c.get.ensures ∙ ap option_copied c.in-Some.is) c.requires.declared

pub check_declaration-requires-clause-arguments : goal.check_declaration-requires-clause-arguments
check_declaration-requires-clause-arguments c = arguments_live (length c.args.pool.now.trees) c.args.decls.now.list c.requires.declared

pub check_declaration-requires-clause-fits : goal.check_declaration-requires-clause-fits
check_declaration-requires-clause-fits c =
    let trees = c.args.pool.now.trees in
    let ds = declarations trees c.args.decls.now.list in
    let game = tree_at trees (Some c.args.root) in
    let e = file_step trees ds c.args.decls.now.list c.decls.k game c.in-Some.decl.now (sym c.get.ensures ∙ ap option_copied c.in-Some.is) in
    let s = ap parts_size e in
    let f = size_append (declaration_parts ds (declared trees c.in-Some.decl.now)) (rest_parts trees ds c.args.decls.now.list (c.decls.k + 1) game) in
    omega (arith, s, f, c.decls.invariant.sum, c.requires.fits)

pub returns-in_err-place-clause-fault : goal.returns-in_err-place-clause-fault
returns-in_err-place-clause-fault c =
    let trees = c.args.pool.now.trees in
    let ds = declarations trees c.args.decls.now.list in
    let game = tree_at trees (Some c.args.root) in
    let e = file_step trees ds c.args.decls.now.list c.decls.k game c.in-Some.decl.now (sym c.get.ensures ∙ ap option_copied c.in-Some.is) in
    let p = err_from_is_err_and c.from_residual.result c.from_residual.ensures.1 in
    rw (p.1, p.2) (refused_before ds c.decls.place (declaration_parts ds (declared trees c.in-Some.decl.now)) (rest_parts trees ds c.args.decls.now.list (c.decls.k + 1) game) _ c.in_err-place.field-0.0 (sym (ap (first_in ds c.decls.place) e) ∙ c.decls.invariant.same) c.in_err-place.ensures)

pub decls-preserved : goal.decls-preserved
decls-preserved c =
    let trees = c.args.pool.now.trees in
    let ds = declarations trees c.args.decls.now.list in
    let game = tree_at trees (Some c.args.root) in
    let e = file_step trees ds c.args.decls.now.list c.decls.k game c.in-Some.decl.now (sym c.get.ensures ∙ ap option_copied c.in-Some.is) in
    let here = declaration_parts ds (declared trees c.in-Some.decl.now) in
    let more = rest_parts trees ds c.args.decls.now.list (c.decls.k + 1) game in
    let s = ap parts_size e in
    let f = size_append here more in
    record {
      same = sym (behind_typed ds c.decls.place c.in_ok-place.place here more c.in_ok-place.ensures.0 c.in_ok-place.ensures.1) ∙ (sym (ap (first_in ds c.decls.place) e) ∙ c.decls.invariant.same);
      sum = omega (arith, s, f, c.decls.invariant.sum, c.in_ok-place.ensures.1);
    }

pub check_process-requires-clause-arguments : goal.check_process-requires-clause-arguments
check_process-requires-clause-arguments c = arguments_live (length c.args.pool.now.trees) c.args.decls.now.list c.requires.declared

pub check_process-requires-clause-fits : goal.check_process-requires-clause-fits
check_process-requires-clause-fits c =
    let trees = c.args.pool.now.trees in
    let list = c.args.decls.now.list in
    let past : c.decls.k ≡ length list = omega arith in
    omega (arith, ap parts_size (file_end trees (declarations trees list) list c.decls.k (tree_at trees (Some c.args.root)) past), c.decls.invariant.sum, c.requires.fits)

pub returns-in_err-directory : goal.returns-in_err-directory
returns-in_err-directory c =
    let trees = c.args.pool.now.trees in
    let list = c.args.decls.now.list in
    let ds = declarations trees list in
    let past : c.decls.k ≡ length list = omega arith in
    let e = file_end trees ds list c.decls.k (tree_at trees (Some c.args.root)) past in
    let p = err_from_is_err_and c.from_residual-in_err-directory.result c.from_residual-in_err-directory.ensures.1 in
    rw (p.1, p.2) (record {
      place = tt;
      directory = tt;
      typed = tt;
      fault = subst (λ m. IsRefusalOf m c.in_err-directory.field-0.0) (sym (ap (first_in ds c.decls.place) e) ∙ c.decls.invariant.same) c.in_err-directory.ensures.fault;
    })

pub returns : goal.returns
returns c =
    let trees = c.args.pool.now.trees in
    let list = c.args.decls.now.list in
    let ds = declarations trees list in
    let past : c.decls.k ≡ length list = omega arith in
    let e = file_end trees ds list c.decls.k (tree_at trees (Some c.args.root)) past in
    record {
      place = omega (arith, ap parts_size e, c.decls.invariant.sum);
      directory = c.in_ok-directory.ensures.directory;
      typed = sym c.decls.invariant.same ∙ (ap (first_in ds c.decls.place) e ∙ c.in_ok-directory.ensures.typed);
      fault = tt;
    }
