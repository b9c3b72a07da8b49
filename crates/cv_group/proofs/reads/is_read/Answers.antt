use Rattle.std.proofs.Common.{◌≡◌, ℕ, false, ◌&&◌, ◌||◌, ◌++◌, refl, ap, sym, ◌∙◌}
use Rattle.cv_syntax_trees.specs.Tree.{second}
use Rattle.cv_syntax.specs.PoolTrees.{tree_at}
use Rattle.cv_syntax_trees.specs.Tree.{bound_names, first}
use Rattle.cv_group_rules.specs.Rules as rule
use Rattle.cv_group.proofs.shapes.Steps as side
use Rattle.cv_group.proofs.shapes.Taking as taking
use Rattle.cv_group.specs.shapes.Shapes.{are_taken, without_all}
use Rattle.std.proofs.Common.{rules}
use Rattle.cv_syntax.specs.NameSets.{is_in}
use Rattle.std.proofs.Math.Path.{fun_ext}
use Rattle.cv_group.proofs.reads.is_read.Goals as goal

pub returns-then-not-take_names : goal.returns-then-not-take_names
returns-then-not-take_names c =
    let trees = c.args.pool.now.trees in
    let f = tree_at trees c.args.function in
    let key = bound_names (tree_at trees c.args.key) in
    let coins = bound_names (first (first f)) in
    let arguments = bound_names (second (first f)) in
    let body = rule.reads (second f) in
    let none : (x : ℕ) → is_in c.new-names.result x ≡ false = λ x. search rules in
    let free : is_in c.note_reads.new.names ≡ body = fun_ext (λ x. c.in_ok-note_reads.ensures x ∙ (ap (λ b. b || rule.reads (tree_at trees c.second_of.result) x) (none x) ∙ ap (λ t. rule.reads t x) c.second_of.ensures.tree)) in
    let all = taking.taken_read body (key ++ (coins ++ arguments)) ∙ (taking.taken_append body key (coins ++ arguments) ∙ ap (λ r. are_taken body key && r) (taking.taken_append (without_all body key) coins arguments)) in
    let one : c.take_names.result ≡ are_taken body key = c.take_names.ensures.taken ∙ ap (λ g. are_taken g key) free in
    side.and_false _ _ _ _ all refl (sym one ∙ c.if-not-take_names.true)

pub returns-then-not-take_names-2 : goal.returns-then-not-take_names-2
returns-then-not-take_names-2 c =
    let trees = c.args.pool.now.trees in
    let f = tree_at trees c.args.function in
    let key = bound_names (tree_at trees c.args.key) in
    let coins = bound_names (first (first f)) in
    let arguments = bound_names (second (first f)) in
    let body = rule.reads (second f) in
    let none : (x : ℕ) → is_in c.new-names.result x ≡ false = λ x. search rules in
    let free : is_in c.note_reads.new.names ≡ body = fun_ext (λ x. c.in_ok-note_reads.ensures x ∙ (ap (λ b. b || rule.reads (tree_at trees c.second_of.result) x) (none x) ∙ ap (λ t. rule.reads t x) c.second_of.ensures.tree)) in
    let all = taking.taken_read body (key ++ (coins ++ arguments)) ∙ (taking.taken_append body key (coins ++ arguments) ∙ ap (λ r. are_taken body key && r) (taking.taken_append (without_all body key) coins arguments)) in
    let one : c.take_names.result ≡ are_taken body key = c.take_names.ensures.taken ∙ ap (λ g. are_taken g key) free in
    let left : is_in c.take_names.new.names ≡ without_all body key = c.take_names.ensures.left c.if-not-take_names.false ∙ ap (λ g. without_all g key) free in
    let taken : tree_at trees c.first_of-taken.result ≡ first f = c.first_of-taken.ensures.tree in
    let binders : bound_names (tree_at trees c.first_of.result) ≡ coins = ap bound_names (c.first_of.ensures.tree ∙ ap first taken) in
    let two : c.take_names-2.result ≡ are_taken (without_all body key) coins = c.take_names-2.ensures.taken ∙ (ap (λ g. are_taken g (bound_names (tree_at trees c.first_of.result))) left ∙ ap (are_taken (without_all body key)) binders) in
    side.and_second _ _ _ _ _ all refl (sym one ∙ c.if-not-take_names.false) (sym two ∙ c.if-not-take_names-2.true)

pub returns : goal.returns
returns c =
    let trees = c.args.pool.now.trees in
    let f = tree_at trees c.args.function in
    let key = bound_names (tree_at trees c.args.key) in
    let coins = bound_names (first (first f)) in
    let arguments = bound_names (second (first f)) in
    let body = rule.reads (second f) in
    let none : (x : ℕ) → is_in c.new-names.result x ≡ false = λ x. search rules in
    let free : is_in c.note_reads.new.names ≡ body = fun_ext (λ x. c.in_ok-note_reads.ensures x ∙ (ap (λ b. b || rule.reads (tree_at trees c.second_of.result) x) (none x) ∙ ap (λ t. rule.reads t x) c.second_of.ensures.tree)) in
    let all = taking.taken_read body (key ++ (coins ++ arguments)) ∙ (taking.taken_append body key (coins ++ arguments) ∙ ap (λ r. are_taken body key && r) (taking.taken_append (without_all body key) coins arguments)) in
    let one : c.take_names.result ≡ are_taken body key = c.take_names.ensures.taken ∙ ap (λ g. are_taken g key) free in
    let left : is_in c.take_names.new.names ≡ without_all body key = c.take_names.ensures.left c.if-not-take_names.false ∙ ap (λ g. without_all g key) free in
    let taken : tree_at trees c.first_of-taken.result ≡ first f = c.first_of-taken.ensures.tree in
    let binders : bound_names (tree_at trees c.first_of.result) ≡ coins = ap bound_names (c.first_of.ensures.tree ∙ ap first taken) in
    let two : c.take_names-2.result ≡ are_taken (without_all body key) coins = c.take_names-2.ensures.taken ∙ (ap (λ g. are_taken g (bound_names (tree_at trees c.first_of.result))) left ∙ ap (are_taken (without_all body key)) binders) in
    let more : is_in c.take_names-2.new.names ≡ without_all (without_all body key) coins = c.take_names-2.ensures.left c.if-not-take_names-2.false ∙ (ap (λ g. without_all g (bound_names (tree_at trees c.first_of.result))) left ∙ ap (without_all (without_all body key)) binders) in
    let last : bound_names (tree_at trees c.second_of-2.result) ≡ arguments = ap bound_names (c.second_of-2.ensures.tree ∙ ap second taken) in
    let three : c.take_names-3.result ≡ are_taken (without_all (without_all body key) coins) arguments = c.take_names-3.ensures.taken ∙ (ap (λ g. are_taken g (bound_names (tree_at trees c.second_of-2.result))) more ∙ ap (are_taken (without_all (without_all body key) coins)) last) in
    three ∙ side.and_third _ _ _ _ _ all refl (sym one ∙ c.if-not-take_names.false) (sym two ∙ c.if-not-take_names-2.false)
