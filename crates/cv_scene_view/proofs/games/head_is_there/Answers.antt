use Rattle.std.proofs.Common.{ap, sym, ◌∙◌}
use Rattle.cv_syntax.specs.Declarations.{declarations}
use Rattle.cv_scene.specs.Terms.{head_is_there}
use Rattle.cv_scene_view.specs.Kept.{names_there}
use Rattle.cv_scene_view.specs.phrases.Phrases.{phrase_of}
use Rattle.cv_scene_view.proofs.There.{apply_there, cell_there, leaf_there, other_there, read_there}
use Rattle.cv_scene_view.proofs.games.head_is_there.Goals as goal

pub returns-in-OneCell : goal.returns-in-OneCell
returns-in-OneCell c = λ trees. c.is_variable.ensures ∙ (cell_there (names_there (declarations trees c.args.decls.now.list) c.args.above.now c.args.arrays.now c.args.everywhere) c.args.phrase c.in-Leaf.x c.in-OneCell.is ∙ ap (head_is_there (names_there (declarations trees c.args.decls.now.list) c.args.above.now c.args.arrays.now c.args.everywhere) (phrase_of c.args.phrase)) (sym c.in-Leaf.is))

pub returns-in_default-phrase : goal.returns-in_default-phrase
returns-in_default-phrase c = λ trees. c.is_name_there.ensures trees ∙ (leaf_there (names_there (declarations trees c.args.decls.now.list) c.args.above.now c.args.arrays.now c.args.everywhere) c.args.phrase c.in-Leaf.x c.in_default-phrase.not-OneCell ∙ ap (head_is_there (names_there (declarations trees c.args.decls.now.list) c.args.above.now c.args.arrays.now c.args.everywhere) (phrase_of c.args.phrase)) (sym c.in-Leaf.is))

pub returns-in-Read : goal.returns-in-Read
returns-in-Read c = λ trees. c.is_variable-in-Read.ensures ∙ (read_there (names_there (declarations trees c.args.decls.now.list) c.args.above.now c.args.arrays.now c.args.everywhere) c.args.phrase c.in-Read.x ∙ ap (head_is_there (names_there (declarations trees c.args.decls.now.list) c.args.above.now c.args.arrays.now c.args.everywhere) (phrase_of c.args.phrase)) (sym c.in-Read.is))

pub returns-in-Apply : goal.returns-in-Apply
returns-in-Apply c = λ trees. c.is_function.ensures trees ∙ (apply_there (names_there (declarations trees c.args.decls.now.list) c.args.above.now c.args.arrays.now c.args.everywhere) c.args.phrase c.in-Apply.f ∙ ap (head_is_there (names_there (declarations trees c.args.decls.now.list) c.args.above.now c.args.arrays.now c.args.everywhere) (phrase_of c.args.phrase)) (sym c.in-Apply.is))

pub returns-in_default : goal.returns-in_default
returns-in_default c = λ trees. other_there (names_there (declarations trees c.args.decls.now.list) c.args.above.now c.args.arrays.now c.args.everywhere) c.args.phrase c.args.head c.in_default.not-Leaf c.in_default.not-Read c.in_default.not-Apply
