-- From the stages of reading a script to what its tokens say.
use Rattle.std.proofs.Common.{◌≡◌, ℕ, ◌+◌, ◌-◌, ◌<◌, ◌≤◌, nat_lt, if◌then◌else◌, List, [], ◌∷◌, ◌++◌, append-nil, drop, map, length, length-drop, length-append, refl, ap, subst, sym, ◌∙◌, arith, Option, None, Result, Ok, Err, Some}
use Rattle.std.specs.Prelude.{All, IfErr, IfOk, OnOk}
use Rattle.std.proofs.lemmas.List.Elements.{All-cons, All-nil}
use Rattle.std.proofs.lemmas.Bool.Decides.{nat_tests}
use Rattle.std.proofs.lemmas.List.{length-map}
use Rattle.std.specs.declared.vec.Vec.{Vec}
use Rattle.std.specs.declared.alloc.Global.{Global}
use Rattle.cv_pool.specs.declared.node.NodeId.{NodeId}
use Rattle.cv_pool.specs.KindTree.{KindTree}
use Rattle.cv_syntax.specs.declared.work.BuildError.TheVariants as build
use Rattle.cv_syntax.specs.declared.make.Make.{Make}
use Rattle.cv_syntax.specs.declared.make.Make.TheVariants as make
use Rattle.cv_syntax.proofs.Trees.{tree_at_None}
use Rattle.cv_syntax.specs.Planting.{overs}
use Rattle.cv_syntax.specs.Postorder.{postorder}
use Rattle.cv_syntax_trees.specs.declared.head.Head.{Head}
use Rattle.cv_syntax_trees.specs.Tree.{Tree, Empty, Node}
use Rattle.cv_syntax.specs.PoolTrees.{tree_at}
use Rattle.cv_parse_grammar.specs.declared.role.Role.{Role}
use Rattle.cv_parse_notation.specs.declared.sign.Sign.{Sign}
use Rattle.cv_parse_notation.specs.Reads.{Read, read_sort}
use Rattle.cv_parse_terms.specs.declared.lookahead.ReadError.{ReadError}
use Rattle.cv_parse_terms.specs.declared.lookahead.ReadError.TheVariants as reading
use Rattle.cv_parse_terms.specs.declared.trail.Trail.{Trail}
use Rattle.cv_parse_terms.specs.Gives.{Fails, IsMade, Makes}
use Rattle.std.specs.Borrow.{Bor}
use Rattle.cv_parse_tables.specs.declared.piece.Piece.{Piece}
use Rattle.cv_parse_tables.specs.Table.{Row, rows_of, table_heads, table_rule}
use Rattle.cv_script.specs.rows.Rows.{script_row, script_rows}
use Rattle.cv_script.specs.declared.steps.Step.{Step}
use Rattle.cv_script.specs.declared.reader.error.ScriptError.{ScriptError}
use Rattle.cv_script.specs.declared.reader.error.ScriptError.TheVariants.{Script, Build}
use Rattle.cv_script.specs.reader.Scripts.{ReadsScript, Refuses, to_end, items, of_read, read_script, with_room, script_of, trees_of}
use Rattle.cv_syntax.specs.limits.Limits.{nodes_of}
use Rattle.cv_script.specs.reader.Stages.{Crowds, IsScript, at_token}
use Rattle.cv_script.specs.reader.Trees.{in_room, of_whole, script_nodes, script_tree, whole}
use Rattle.cv_syntax.proofs.listing.Lists.{overs_append}
use Rattle.cv_syntax_trees.proofs.lists.Tests.{then_branch, else_branch}

-- reading stopped at a place

pub stops : (limit live from : ℕ) (signs : List Sign) (old new : Trail) (end : ℕ) → IsMade postorder signs old new (read_script signs) end → end < length signs → script_of limit live from signs ≡ Err (Script (from + end))
unfolding script_of
stops limit live from signs old new end d l =
    ap (of_read limit live (from + length signs)) d.read.is ∙ (more (drop end signs) (omega (arith, left, l)) ∙ ap (λ n. Err (Script n)) (omega (arith, left, l)))
  where
    more : (rest : List Sign) → 0 < length rest → to_end limit live (from + length signs) d.value rest ≡ Err (Script (from + length signs - length rest))
    more [] h = absurd (omega arith)
    more (s ∷ rest) h = refl

    left : length (drop end signs) ≡ length signs - end
    left = length-drop end signs

-- a fault of the table
pub faults : (limit live from : ℕ) (signs : List Sign) (fault : ReadError) → from + length signs < 4294967296 → Fails signs fault (read_script signs) → (e : ScriptError) → e ≡ at_token from fault → Refuses e (script_of limit live from signs)
unfolding script_of
faults limit live from signs (reading.Syntax k) few h e i = subst (λ z. Refuses z (script_of limit live from signs)) (sym i) (ap (of_read limit live (from + length signs)) h.1 ∙ ap (λ n. Err (Script n)) (let w = h.0 in omega arith))
faults limit live from signs (reading.Nesting k) few h e i = subst (λ z. Refuses z (script_of limit live from signs)) (sym i) (ap (of_read limit live (from + length signs)) h.1 ∙ ap (λ n. Err (Script n)) (let w = h.0 in omega arith))
faults limit live from signs reading.OutOfMemory few h e i = subst (λ z. Refuses z (script_of limit live from signs)) (sym i) tt

-- the whole was read
pub ends : (signs : List Sign) (old new : Trail) (end : ℕ) → IsMade postorder signs old new (read_script signs) end → length signs ≤ end → IsScript signs old new
ends signs old new end d l = record {
  value = d.value;
  uses = d.read.uses;
  is = d.read.is ∙ ap (λ r. Ok (record { value = d.value; uses = d.read.uses; rest = r })) (empty (drop end signs) (let n = length-drop end signs in omega (arith, n, l)));
  parts = d.makes;
}
  where
    empty : (rest : List Sign) → length rest ≡ 0 → rest ≡ []
    empty [] h = refl
    empty (s ∷ rest) h = absurd (omega arith)

-- the steps of a list

-- no item is left
pub finished : (trees : List KindTree) (steps : List Step) (at : Option NodeId) (l : List Tree) → ((n : NodeId) → at ≡ Some n → ⊥) → trees_of trees steps ++ items (tree_at trees at) ≡ l → trees_of trees steps ≡ l
finished trees steps None l none e = sym (append-nil (trees_of trees steps)) ∙ (ap (λ t. trees_of trees steps ++ items t) (sym (tree_at_None trees)) ∙ e)
finished trees steps (Some n) l none e = absurd (none n refl)

-- the parts of one tree make it alone
pub one_root : {A : Type 0} (f : A → Tree) (t : Tree) (roots s : List A) (x : A) → map f roots ≡ t ∷ [] → roots ≡ s ++ x ∷ [] → f x ≡ t
one_root f t roots [] x e g = let h : f x ∷ [] ≡ t ∷ [] = ap (map f) (sym g) ∙ e in cc
one_root f t roots (z ∷ s) x e g =
    absurd (let l = ap length (ap (map f) (sym g) ∙ e) in let m = length-map ((z ∷ s) ++ x ∷ []) f in let n = length-append s (x ∷ []) in omega arith)

-- the room of a pool

pub full : (limit live : ℕ) (t : Tree) → limit < live + nodes_of t → with_room limit live t ≡ Err (Build (build.Full (nodes_of t)))
full limit live t l = then_branch {A = Result (List Tree) ScriptError} (Err (Build (build.Full (nodes_of t)))) (Ok (items t)) (nat_lt limit (live + nodes_of t)) (grind (arith, nat_tests))

pub room : (limit live : ℕ) (t : Tree) → live + nodes_of t ≤ limit → with_room limit live t ≡ Ok (items t)
room limit live t l = else_branch {A = Result (List Tree) ScriptError} (Err (Build (build.Full (nodes_of t)))) (Ok (items t)) (nat_lt limit (live + nodes_of t)) (grind (arith, nat_tests))

module _ (limit live from : ℕ) (signs : List Sign) (old new : Trail) (d : IsScript signs old new) where
  by_read : script_of limit live from signs ≡ with_room limit live d.value
  unfolding script_of
  by_read = ap (of_read limit live (from + length signs)) d.is

  crowd_refuses : (e : ScriptError) → Crowds limit live (nodes_of d.value) e → Refuses e (script_of limit live from signs)
  crowd_refuses (Script k) h = by_read ∙ (full limit live d.value h.1 ∙ ap Err (sym h.0))
  crowd_refuses (Build (build.Full n)) h = by_read ∙ (full limit live d.value h.1 ∙ ap Err (sym h.0))
  crowd_refuses (Build (build.Nodes n)) h = by_read ∙ (full limit live d.value h.1 ∙ ap Err (sym h.0))
  crowd_refuses (Build (build.Depth n)) h = by_read ∙ (full limit live d.value h.1 ∙ ap Err (sym h.0))
  crowd_refuses (Build build.OutOfMemory) h = tt

  -- what is planted is what is read
  pub plants : (trees : List KindTree) (r : Result (Vec Step Global) ScriptError) → IfOk r (λ v. trees_of trees v.items ≡ items d.value) → OnOk r (live + nodes_of d.value ≤ limit) → IfErr r (λ e. Crowds limit live (nodes_of d.value) e) → ReadsScript (script_of limit live from signs) trees r
  plants trees (Ok steps) s r c = by_read ∙ (room limit live d.value r ∙ ap Ok (sym s))
  plants trees (Err e) s r c = crowd_refuses e c

-- how many nodes the steps of a planted script take, and how large each is

nodes_cons : (h : Head) (a b : Tree) → nodes_of (Node h a b) ≡ nodes_of a + nodes_of b + 1
unfolding postorder
nodes_cons h a b = omega (arith, overs_append (postorder a) (postorder b ++ make.Over h ∷ []), overs_append (postorder b) (make.Over h ∷ []))

nodes_none : nodes_of Empty ≡ 0
unfolding postorder
nodes_none = refl

pub items_nodes : (t : Tree) → script_nodes (items t) ≡ nodes_of t
items_nodes Empty = sym nodes_none
items_nodes (Node h a b) = omega (arith, items_nodes b, nodes_cons h a b)

item_small : (trees : List KindTree) (steps : List Step) (t : Tree) (most : ℕ) → trees_of trees steps ≡ items t → nodes_of t ≤ most → All (λ s. nodes_of (tree_at trees (Some s.0)) ≤ most) steps
item_small trees [] t most e l = All-nil (λ s. nodes_of (tree_at trees (Some s.0)) ≤ most)
item_small trees (s ∷ steps) Empty most e l = absurd (cc)
item_small trees (s ∷ steps) (Node h a b) most e l =
    let f : tree_at trees (Some s.0) ≡ a = cc in
    let g : trees_of trees steps ≡ items b = cc in
    All-cons (λ s. nodes_of (tree_at trees (Some s.0)) ≤ most) s steps (omega (arith, ap nodes_of f, nodes_cons h a b, l)) (item_small trees steps b most g (omega (arith, nodes_cons h a b, l)))

pub few_planted : (trees : List KindTree) (t : Tree) (live limit : ℕ) (r : Result (Vec Step Global) ScriptError) → IfOk r (λ v. trees_of trees v.items ≡ items t) → OnOk r (length trees ≤ live + nodes_of t) → IfOk r (λ v. length trees ≤ live + script_nodes (trees_of trees v.items))
few_planted trees t live limit (Ok v) e l = omega (arith, ap script_nodes e, items_nodes t, l)
few_planted trees t live limit (Err x) e l = e

pub room_planted : (trees : List KindTree) (t : Tree) (live limit : ℕ) (r : Result (Vec Step Global) ScriptError) → OnOk r (length trees ≤ live + nodes_of t) → OnOk r (live + nodes_of t ≤ limit) → OnOk r (length trees ≤ limit)
room_planted trees t live limit (Ok v) l m = omega arith
room_planted trees t live limit (Err x) l m = l

pub small_planted : (trees : List KindTree) (t : Tree) (live limit : ℕ) (r : Result (Vec Step Global) ScriptError) → IfOk r (λ v. trees_of trees v.items ≡ items t) → OnOk r (live + nodes_of t ≤ limit) → IfOk r (λ v. All (λ s. nodes_of (tree_at trees (Some s.0)) ≤ limit) v.items)
small_planted trees t live limit (Ok v) e m = item_small trees v.items t limit e (omega arith)
small_planted trees t live limit (Err x) e m = e

-- what is read is the tree of the script, where there is room for it
pub read_in_room : (limit live from : ℕ) (signs : List Sign) → script_of limit live from signs ≡ in_room limit live (script_tree from signs)
unfolding script_of
read_in_room limit live from signs = by_read (read_script signs)
  where
    by_rest : (end : ℕ) (t : Tree) (rest : List Sign) → to_end limit live end t rest ≡ in_room limit live (whole end t rest)
    by_rest end t [] = refl
    by_rest end t (s ∷ rest) = refl

    by_read : (r : Read Role Tree) → of_read limit live (from + length signs) r ≡ in_room limit live (of_whole (from + length signs) r)
    by_read (Ok x) = by_rest (from + length signs) x.value x.rest
    by_read (Err f) = refl

-- the parts are those of one tree
pub only_parts : (new old parts : List Make) → old ≡ [] → new ≡ old ++ parts → new ≡ parts
only_parts new old parts e h = h ∙ ap (λ l. l ++ parts) e

-- the program's rows

pub reads_there : (rows : List (Bor (List Piece))) → rows_of rows ≡ script_rows → (signs : List Sign) (old new : Trail) (r : Result ℕ ReadError) → Makes postorder signs old new r (read_sort (table_heads (rows_of rows)) (table_rule (rows_of rows)) 200 (Row script_row) signs) → Makes postorder signs old new r (read_script signs)
reads_there rows e signs old new r d = subst (λ table. Makes postorder signs old new r (read_sort (table_heads table) (table_rule table) 200 (Row script_row) signs)) e d
