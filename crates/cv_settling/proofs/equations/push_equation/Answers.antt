use Rattle.std.proofs.Common.{All, ◌++◌, map, sym, ap, subst, ◌∙◌, append-nil}
use Rattle.std.proofs.lemmas.List.Elements.{All-push}
use Rattle.cv_settling.specs.Instances.{HasRoot, seen_in}
use Rattle.cv_settling.proofs.Told.{seen_pushed}
use Rattle.cv_settling.proofs.equations.push_equation.Goals as goal

pub returns-in_default-clause-told : goal.returns-in_default-clause-told
returns-in_default-clause-told c =
    let there = map (seen_in c.args.pool.now.trees) c.args.equations.now.items in
    sym (append-nil there) ∙ ap (λ es. there ++ es) c.in_default.ensures.sides

pub returns-clause-told : goal.returns-clause-told
returns-clause-told c =
    let trees = c.args.pool.now.trees in
    let there = c.args.equations.now.items in
    seen_pushed trees there c.push.new.self.items c.in-Some.equation c.in_ok-push.ensures.items ∙ ap (λ es. map (seen_in trees) there ++ es) c.in-Some.ensures.sides

pub returns-clause-roots : goal.returns-clause-roots
returns-clause-roots c =
    let trees = c.args.pool.now.trees in
    λ roots. subst (All (HasRoot trees)) (sym c.in_ok-push.ensures.items) (All-push (HasRoot trees) c.args.equations.now.items c.in-Some.equation roots c.in-Some.ensures.root)
