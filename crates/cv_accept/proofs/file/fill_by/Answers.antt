use Rattle.std.proofs.Common.{ap, arith, subst, sym, ◌≤◌, ◌∙◌, length, Ok, Err, All}
use Rattle.cv_parse_tables.specs.terminals.Signs.{signs_of}
use Rattle.cv_syntax_trees.specs.Tree.{size}
use Rattle.cv_parse.specs.Declaring.{IsBelow}
use Rattle.cv_parse.specs.Nodes.{file_nodes}
use Rattle.cv_parse.specs.Parsed.{held_in}
use Rattle.cv_scope_rules.specs.Refusals.{IsRefusalOf}
use Rattle.cv_scope_rules.specs.Scope.{first_scope_fault}
use Rattle.cv_accept.specs.Accepted.{content_of}
use Rattle.cv_accept.specs.Places.{behind}
use Rattle.cv_accept.proofs.Blocks.{below_grown, block_as, content_same, few_names, held_grown, root_grown}
use Rattle.cv_accept.proofs.Places.{none_behind, process_begins}
use Rattle.cv_accept.proofs.Readings.{all_reads, block_refuses, block_within, by_block, by_groups, by_scope, by_types, grammar_refuses, group_refuses, query_refuses, reads_on, scope_refuses, types_refuse}
use Rattle.cv_accept.proofs.Weights.{few_terms}
use Rattle.cv_accept.proofs.file.fill_by.Goals as goal

pub returns-in_err-file-clause-reads : goal.returns-in_err-file-clause-reads
returns-in_err-file-clause-reads c = reads_on c.args.work.now.pool.limit c.args.tokens.now c.file.new.work _ _ c.from_residual.ensures.1 (grammar_refuses c.args.work.now.pool.limit c.args.tokens.now _ c.in_err-file.ensures.parses)

pub read_block-requires-clause-within : goal.read_block-requires-clause-within
read_block-requires-clause-within c = block_within c.args.work.now.pool.limit _ _ c.len-tokens.ensures.tokens c.in_ok-file.ensures.parses

pub read_block-requires-clause-few : goal.read_block-requires-clause-few
read_block-requires-clause-few c =
    let few = few_names c.args.tokens.now in
    let same = ap length c.in_ok-file.ensures.names in
    omega (arith, few, same, c.requires.few)

pub returns-in_err-script-clause-reads : goal.returns-in_err-script-clause-reads
returns-in_err-script-clause-reads c =
    let limit = c.args.work.now.pool.limit in
    let f = c.in_ok-file.file in
    let ts = c.args.tokens.now in
    let old = c.file.new.work in
    let trees = c.read_block.new.work.pool.trees in
    let block = block_as old.pool.limit limit (length old.pool.trees) ts old.names (signs_of ts).names f.script trees (Err _) c.file.ensures.limit c.in_ok-file.ensures.names c.in_err-script.ensures.reads in
    reads_on limit ts c.read_block.new.work _ _ c.from_residual-in_err-script.ensures.1
    (block_refuses limit (length old.pool.trees) ts (held_in old.pool.trees old.decls.list f) c.in_ok-file.ensures.parses trees _ c.in_ok-file.ensures.nodes block)

pub check-requires-clause-declared : goal.check-requires-clause-declared
check-requires-clause-declared c =
    let old = c.file.new.work in
    let new = c.read_block.new.work in
    below_grown old.pool new.pool new.decls.list c.read_block.ensures.grows (subst (λ ds. All (IsBelow (length old.pool.trees)) ds.list) (sym c.read_block.ensures.decls) c.in_ok-file.ensures.below)

pub check_game-requires-clause-declared : goal.check_game-requires-clause-declared
check_game-requires-clause-declared c =
    let old = c.file.new.work in
    let new = c.read_block.new.work in
    below_grown old.pool new.pool new.decls.list c.read_block.ensures.grows (subst (λ ds. All (IsBelow (length old.pool.trees)) ds.list) (sym c.read_block.ensures.decls) c.in_ok-file.ensures.below)

pub check_all-requires : goal.check_all-requires
check_all-requires c =
    let old = c.file.new.work in
    let new = c.read_block.new.work in
    below_grown old.pool new.pool new.decls.list c.read_block.ensures.grows (subst (λ ds. All (IsBelow (length old.pool.trees)) ds.list) (sym c.read_block.ensures.decls) c.in_ok-file.ensures.below)

pub check-requires-2-clause-declared : goal.check-requires-2-clause-declared
check-requires-2-clause-declared c =
    let old = c.file.new.work in
    let new = c.read_block.new.work in
    below_grown old.pool new.pool new.decls.list c.read_block.ensures.grows (subst (λ ds. All (IsBelow (length old.pool.trees)) ds.list) (sym c.read_block.ensures.decls) c.in_ok-file.ensures.below)

pub returns-clause-below : goal.returns-clause-below
returns-clause-below c =
    let old = c.file.new.work in
    let new = c.read_block.new.work in
    below_grown old.pool new.pool new.decls.list c.read_block.ensures.grows (subst (λ ds. All (IsBelow (length old.pool.trees)) ds.list) (sym c.read_block.ensures.decls) c.in_ok-file.ensures.below)

pub check-requires-clause-fits : goal.check-requires-clause-fits
check-requires-clause-fits c =
    let limit = c.args.work.now.pool.limit in
    let ts = c.args.tokens.now in
    let f = c.in_ok-file.file in
    let old = c.file.new.work in
    let new = c.read_block.new.work in
    let p = held_in new.pool.trees new.decls.list f in
    let same = ap (λ ds. held_in new.pool.trees ds.list f) c.read_block.ensures.decls ∙ held_grown old.pool new.pool old.decls.list f c.read_block.ensures.grows c.in_ok-file.ensures.below c.in_ok-file.ensures.live in
    let parses = c.in_ok-file.ensures.parses ∙ ap Ok (sym same) in
    few_terms limit (signs_of ts).signs p c.requires.limit parses

pub check_game-requires-clause-fits : goal.check_game-requires-clause-fits
check_game-requires-clause-fits c =
    let limit = c.args.work.now.pool.limit in
    let ts = c.args.tokens.now in
    let f = c.in_ok-file.file in
    let old = c.file.new.work in
    let new = c.read_block.new.work in
    let p = held_in new.pool.trees new.decls.list f in
    let same = ap (λ ds. held_in new.pool.trees ds.list f) c.read_block.ensures.decls ∙ held_grown old.pool new.pool old.decls.list f c.read_block.ensures.grows c.in_ok-file.ensures.below c.in_ok-file.ensures.live in
    let parses = c.in_ok-file.ensures.parses ∙ ap Ok (sym same) in
    let few = few_terms limit (signs_of ts).signs p c.requires.limit parses in
    omega (arith, few, c.in_ok-nodes.ensures.place)

pub returns-in_err-nodes-clause-reads : goal.returns-in_err-nodes-clause-reads
returns-in_err-nodes-clause-reads c =
    let limit = c.args.work.now.pool.limit in
    let ts = c.args.tokens.now in
    let f = c.in_ok-file.file in
    let old = c.file.new.work in
    let new = c.read_block.new.work in
    let p = held_in new.pool.trees new.decls.list f in
    let same = ap (λ ds. held_in new.pool.trees ds.list f) c.read_block.ensures.decls ∙ held_grown old.pool new.pool old.decls.list f c.read_block.ensures.grows c.in_ok-file.ensures.below c.in_ok-file.ensures.live in
    let parses = c.in_ok-file.ensures.parses ∙ ap Ok (sym same) in
    let block = block_as old.pool.limit limit (length old.pool.trees) ts old.names (signs_of ts).names f.script new.pool.trees (Ok c.in_ok-script.script) c.file.ensures.limit c.in_ok-file.ensures.names c.in_ok-script.ensures.reads in
    let content = content_of ts p block.0 in
    let read = by_block limit (length old.pool.trees) ts p parses block.0 block.1 in
    reads_on limit ts new _ _ c.from_residual-in_err-nodes.ensures.1 (types_refuse limit ts content p _ read c.in_err-nodes.ensures.found)

pub returns-in_err-directory-2-clause-reads : goal.returns-in_err-directory-2-clause-reads
returns-in_err-directory-2-clause-reads c =
    let limit = c.args.work.now.pool.limit in
    let ts = c.args.tokens.now in
    let f = c.in_ok-file.file in
    let old = c.file.new.work in
    let new = c.read_block.new.work in
    let p = held_in new.pool.trees new.decls.list f in
    let same = ap (λ ds. held_in new.pool.trees ds.list f) c.read_block.ensures.decls ∙ held_grown old.pool new.pool old.decls.list f c.read_block.ensures.grows c.in_ok-file.ensures.below c.in_ok-file.ensures.live in
    let parses = c.in_ok-file.ensures.parses ∙ ap Ok (sym same) in
    let block = block_as old.pool.limit limit (length old.pool.trees) ts old.names (signs_of ts).names f.script new.pool.trees (Ok c.in_ok-script.script) c.file.ensures.limit c.in_ok-file.ensures.names c.in_ok-script.ensures.reads in
    let content = content_of ts p block.0 in
    let read = by_block limit (length old.pool.trees) ts p parses block.0 block.1 in
    let typed = by_types limit ts content p read c.in_ok-nodes.ensures.none in
    let begins = process_begins p.declarations p.game c.in_ok-nodes.nodes c.in_ok-nodes.ensures.place in
    let found = subst (λ n. IsRefusalOf (behind n (first_scope_fault p.declarations p.game)) c.in_err-directory-2.field-0.0) begins c.in_err-directory-2.ensures.found in
    reads_on limit ts new _ _ c.from_residual-in_err-directory-2.ensures.1 (scope_refuses limit ts content p _ typed found)

pub returns-in_err-check_all-clause-reads : goal.returns-in_err-check_all-clause-reads
returns-in_err-check_all-clause-reads c =
    let limit = c.args.work.now.pool.limit in
    let ts = c.args.tokens.now in
    let f = c.in_ok-file.file in
    let old = c.file.new.work in
    let new = c.read_block.new.work in
    let p = held_in new.pool.trees new.decls.list f in
    let same = ap (λ ds. held_in new.pool.trees ds.list f) c.read_block.ensures.decls ∙ held_grown old.pool new.pool old.decls.list f c.read_block.ensures.grows c.in_ok-file.ensures.below c.in_ok-file.ensures.live in
    let parses = c.in_ok-file.ensures.parses ∙ ap Ok (sym same) in
    let block = block_as old.pool.limit limit (length old.pool.trees) ts old.names (signs_of ts).names f.script new.pool.trees (Ok c.in_ok-script.script) c.file.ensures.limit c.in_ok-file.ensures.names c.in_ok-script.ensures.reads in
    let content = content_of ts p block.0 in
    let read = by_block limit (length old.pool.trees) ts p parses block.0 block.1 in
    let typed = by_types limit ts content p read c.in_ok-nodes.ensures.none in
    let scoped = by_scope limit ts content p typed (none_behind _ (first_scope_fault p.declarations p.game) c.in_ok-directory-2.ensures.none) in
    reads_on limit ts new _ _ c.from_residual-in_err-check_all.ensures.1 (group_refuses limit ts content p _ _ scoped c.in_err-check_all.ensures.fault)

pub returns-in_err-check-clause-reads : goal.returns-in_err-check-clause-reads
returns-in_err-check-clause-reads c =
    let limit = c.args.work.now.pool.limit in
    let ts = c.args.tokens.now in
    let f = c.in_ok-file.file in
    let old = c.file.new.work in
    let new = c.read_block.new.work in
    let p = held_in new.pool.trees new.decls.list f in
    let same = ap (λ ds. held_in new.pool.trees ds.list f) c.read_block.ensures.decls ∙ held_grown old.pool new.pool old.decls.list f c.read_block.ensures.grows c.in_ok-file.ensures.below c.in_ok-file.ensures.live in
    let parses = c.in_ok-file.ensures.parses ∙ ap Ok (sym same) in
    let block = block_as old.pool.limit limit (length old.pool.trees) ts old.names (signs_of ts).names f.script new.pool.trees (Ok c.in_ok-script.script) c.file.ensures.limit c.in_ok-file.ensures.names c.in_ok-script.ensures.reads in
    let content = content_of ts p block.0 in
    let read = by_block limit (length old.pool.trees) ts p parses block.0 block.1 in
    let typed = by_types limit ts content p read c.in_ok-nodes.ensures.none in
    let scoped = by_scope limit ts content p typed (none_behind _ (first_scope_fault p.declarations p.game) c.in_ok-directory-2.ensures.none) in
    let plain = by_groups limit ts content p scoped c.in_ok-check_all.ensures.none in
    reads_on limit ts new _ _ c.from_residual-in_err-check.ensures.1 (query_refuses limit ts content p _ plain c.in_err-check.ensures.found)

pub returns-clause-reads : goal.returns-clause-reads
returns-clause-reads c =
    let limit = c.args.work.now.pool.limit in
    let ts = c.args.tokens.now in
    let f = c.in_ok-file.file in
    let old = c.file.new.work in
    let new = c.read_block.new.work in
    let p = held_in new.pool.trees new.decls.list f in
    let same = ap (λ ds. held_in new.pool.trees ds.list f) c.read_block.ensures.decls ∙ held_grown old.pool new.pool old.decls.list f c.read_block.ensures.grows c.in_ok-file.ensures.below c.in_ok-file.ensures.live in
    let parses = c.in_ok-file.ensures.parses ∙ ap Ok (sym same) in
    let block = block_as old.pool.limit limit (length old.pool.trees) ts old.names (signs_of ts).names f.script new.pool.trees (Ok c.in_ok-script.script) c.file.ensures.limit c.in_ok-file.ensures.names c.in_ok-script.ensures.reads in
    let content = content_of ts p block.0 in
    let read = by_block limit (length old.pool.trees) ts p parses block.0 block.1 in
    let typed = by_types limit ts content p read c.in_ok-nodes.ensures.none in
    let scoped = by_scope limit ts content p typed (none_behind _ (first_scope_fault p.declarations p.game) c.in_ok-directory-2.ensures.none) in
    let plain = by_groups limit ts content p scoped c.in_ok-check_all.ensures.none in
    let own = ap (λ ds. ds.own) c.read_block.ensures.decls ∙ c.in_ok-file.ensures.own in
    let is = content_same ts new f c.in_ok-script.script old.names block.0 c.in_ok-file.ensures.names c.in_ok-script.ensures.names own block.2 in
    all_reads limit ts content p new (record { file = f; script = c.in_ok-script.script }) plain c.in_ok-check.ensures.none is

pub returns-clause-fits : goal.returns-clause-fits
returns-clause-fits c =
    let old = c.file.new.work in
    let new = c.read_block.new.work in
    let f = c.in_ok-file.file in
    let same = root_grown old.pool new.pool f.game.root c.read_block.ensures.grows c.in_ok-file.ensures.live in
    subst (λ t. size t ≤ 50000) (sym same) c.in_ok-file.ensures.fits

pub returns-clause-nodes : goal.returns-clause-nodes
returns-clause-nodes c =
    let limit = c.args.work.now.pool.limit in
    let ts = c.args.tokens.now in
    let f = c.in_ok-file.file in
    let old = c.file.new.work in
    let new = c.read_block.new.work in
    let p = held_in new.pool.trees new.decls.list f in
    let same = ap (λ ds. held_in new.pool.trees ds.list f) c.read_block.ensures.decls ∙ held_grown old.pool new.pool old.decls.list f c.read_block.ensures.grows c.in_ok-file.ensures.below c.in_ok-file.ensures.live in
    let parses = c.in_ok-file.ensures.parses ∙ ap Ok (sym same) in
    let few = c.in_ok-script.ensures.few in
    let nodes = subst (λ q. length old.pool.trees ≤ file_nodes q.declarations q.game) (sym same) c.in_ok-file.ensures.nodes in
    omega (arith, few, nodes)
