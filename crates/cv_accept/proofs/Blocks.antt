-- Proof blocks that are read into a pool, and what stays of a work then.
use Rattle.std.proofs.Common.{◌≡◌, ℕ, zero, suc, ◌+◌, ◌<◌, ◌≤◌, min, Bool, true, false, nat_lt, if◌then◌else◌, List, [], ◌∷◌, codes, length, refl, ap, ap₂, subst, sym, ◌∙◌, arith, Option, Some, Result, Ok, Err}
use Rattle.std.proofs.lemmas.Bool.Decides.{nat_tests}
use Rattle.std.specs.Prelude.{All, IsErrAnd, option_map, slice_index_or}
use Rattle.std.specs.declared.vec.Vec.{Vec}
use Rattle.std.specs.declared.alloc.Global.{Global}
use Rattle.cv_lex.specs.Lexis.{Token}
use Rattle.cv_pool.specs.declared.node.NodeId.{NodeId}
use Rattle.cv_pool.specs.KindTree.{KindTree}
use Rattle.cv_pool.specs.PoolView.{PoolView, Grows}
use Rattle.cv_pool.proofs.Growth.{ChildBelow_more, Grows_length}
use Rattle.cv_syntax.specs.declared.decls.Decl.{Decl}
use Rattle.cv_syntax.specs.declared.decls.Decl.TheVariants as decl
use Rattle.cv_syntax.specs.declared.work.BuildError.{BuildError}
use Rattle.cv_syntax.specs.declared.work.BuildError.TheVariants as build
use Rattle.cv_syntax.specs.declared.work.File.{File}
use Rattle.cv_syntax_trees.specs.Declarations.{Named, Equation, Equiv, Query}
use Rattle.cv_syntax.specs.Declarations.{declared, declarations, number}
use Rattle.cv_syntax_trees.specs.Tree.{Tree}
use Rattle.cv_syntax.specs.PoolTrees.{tree_at}
use Rattle.cv_syntax.proofs.Buildings.{child_grown}
use Rattle.cv_parse_notation.specs.declared.sign.Sign.{Sign}
use Rattle.cv_parse_notation.specs.Reads.{Read}
use Rattle.cv_parse_notation.specs.Reads as fault
use Rattle.cv_parse_grammar.specs.declared.role.Role.{Role}
use Rattle.cv_parse_tables.specs.declared.terminals.pass.Counts.{Counts}
use Rattle.cv_parse_tables.specs.terminals.ScriptSigns.{between, script_signs}
use Rattle.cv_parse_tables.specs.terminals.Signs.{first_text, no_counts, signs_from, signs_of, step_before}
use Rattle.cv_parse_tables.proofs.terminals.FileTokens.{length_read_from}
use Rattle.cv_parse_tables.proofs.terminals.Walk.{signs_from_cons, small}
use Rattle.cv_parse_tables.specs.terminals.Braces.{file_tokens}
use Rattle.cv_parse.specs.Declaring.{IsBelow}
use Rattle.cv_parse.specs.Parsed.{held_in}
use Rattle.cv_script.specs.declared.reader.error.ScriptError.{ScriptError}
use Rattle.cv_script.specs.declared.reader.error.ScriptError.TheVariants as script
use Rattle.cv_script.specs.reader.Scripts.{items, read_script, script_read, trees_of}
use Rattle.cv_syntax.specs.limits.Limits.{nodes_of}
use Rattle.cv_script.specs.reader.Scripts as scripts
use Rattle.cv_script.specs.reader.Trees.{in_room, of_whole, tree_read, whole}
use Rattle.cv_script.proofs.reader.Steps.{read_in_room}
use Rattle.cv_script.specs.declared.steps.Step.{Step}
use Rattle.cv_accept.specs.declared.error.FileError.{FileError}
use Rattle.cv_syntax.specs.declared.work.Work.{Work}
use Rattle.cv_accept.specs.Accepted.{Content, block_by, content_of, names_by, of_block, there}
use Rattle.cv_accept.specs.Faults.{IsBlock, of_script}
use Rattle.cv_accept.specs.Works.{content_at, script_in}

-- reading the tree of a script asks for no room

no_build_whole : (end : ℕ) (t : Tree) (rest : List Sign) (b : BuildError) → whole end t rest ≡ Err (script.Build b) → ⊥
no_build_whole end t [] b e = absurd (cc)
no_build_whole end t (s ∷ rest) b e = absurd (cc)

no_build : (end : ℕ) (r : Read Role Tree) (b : BuildError) → of_whole end r ≡ Err (script.Build b) → ⊥
no_build end (Ok x) b e = no_build_whole end x.value x.rest b e
no_build end (Err (fault.Syntax k)) b e = absurd (cc)
no_build end (Err (fault.Nesting k)) b e = absurd (cc)

-- without room

full : (limit live : ℕ) (t : Tree) (v : Bool) → nat_lt limit (live + nodes_of t) ≡ v → (e : ScriptError) → (if v then Err (script.Build (build.Full (nodes_of t))) else Ok (items t)) ≡ Err e → (e ≡ script.Build (build.Full (nodes_of t))) × (limit < live + nodes_of t)
full limit live t true w e h = (cc, grind (arith, nat_tests))
full limit live t false w e h = absurd (cc)

roomy : (t : Tree) (v : Bool) (f : ScriptError) (ts : List Tree) → (if v then Err f else Ok (items t)) ≡ Ok ts → items t ≡ ts
roomy t true f ts h = absurd (cc)
roomy t false f ts h = cc

module _ (limit live : ℕ) (trees : List KindTree) where
  -- where its error isn't that of a pool without room, it is none
  refuses_full : (t : Tree) (e : ScriptError) → in_room limit live (Ok t) ≡ Err e → IsBlock limit live (there (Ok t)) trees (Err (of_script e))
  refuses_full t e h =
      let f = full limit live t (nat_lt limit (live + nodes_of t)) refl e h in
      subst (λ x. IsBlock limit live (there (Ok t)) trees (Err (of_script x))) (sym f.0) (t, refl, refl, f.1)

  refuses_same : (end : ℕ) (r : Read Role Tree) (x e : ScriptError) → of_whole end r ≡ Err x → x ≡ e → IsBlock limit live (there (Err x)) trees (Err (of_script e))
  refuses_same end r x (script.Script token) h f = (x, refl, ap of_block (sym f))
  refuses_same end r x (script.Build b) h f = absurd (no_build end r b (h ∙ ap Err f))

  -- why a block isn't read
  refused_by : (end : ℕ) (r : Read Role Tree) (s : Result Tree ScriptError) → of_whole end r ≡ s → (e : ScriptError) → scripts.Refuses e (in_room limit live s) → IsBlock limit live (there s) trees (Err (of_script e))
  refused_by end r (Ok t) i (script.Build build.OutOfMemory) h = tt
  refused_by end r (Err x) i (script.Build build.OutOfMemory) h = tt
  refused_by end r (Ok t) i (script.Script token) h = refuses_full t (script.Script token) h
  refused_by end r (Ok t) i (script.Build (build.Full n)) h = refuses_full t (script.Build (build.Full n)) h
  refused_by end r (Ok t) i (script.Build (build.Nodes n)) h = refuses_full t (script.Build (build.Nodes n)) h
  refused_by end r (Ok t) i (script.Build (build.Depth n)) h = refuses_full t (script.Build (build.Depth n)) h
  refused_by end r (Err x) i (script.Script token) h = refuses_same end r x (script.Script token) i (cc)
  refused_by end r (Err x) i (script.Build (build.Full n)) h = refuses_same end r x (script.Build (build.Full n)) i (cc)
  refused_by end r (Err x) i (script.Build (build.Nodes n)) h = refuses_same end r x (script.Build (build.Nodes n)) i (cc)
  refused_by end r (Err x) i (script.Build (build.Depth n)) h = refuses_same end r x (script.Build (build.Depth n)) i (cc)

  -- a block that is read
  taken_by : (s : Result Tree ScriptError) (v : Vec Step Global) → in_room limit live s ≡ Ok (trees_of trees v.items) → IsBlock limit live (there s) trees (Ok (Some v))
  taken_by (Ok t) v h = (Some t, refl, ap Some (sym (roomy t (nat_lt limit (live + nodes_of t)) (script.Build (build.Full (nodes_of t))) (trees_of trees v.items) h)))
  taken_by (Err x) v h = absurd (cc)

-- what is read of a block

module _ (limit live : ℕ) (trees : List KindTree) (names : List (List ℕ)) (ts : List Token) (from to : ℕ) where
  abbrev first : ℕ
  first = min from to

  abbrev signs : List Sign
  signs = (script_signs names (between first to ts)).signs

  pub block_refused : (e : ScriptError) → scripts.Refuses e (script_read limit live names ts first to) → IsBlock limit live (block_by ts names (Some (from, to))) trees (Err (of_script e))
  block_refused e h =
      refused_by limit live trees (first + length signs) (read_script signs) (tree_read names ts first to) refl e (subst (scripts.Refuses e) (read_in_room limit live first signs) h)

  pub block_taken : (v : Vec Step Global) → script_read limit live names ts first to ≡ Ok (trees_of trees v.items) → IsBlock limit live (block_by ts names (Some (from, to))) trees (Ok (Some v))
  block_taken v h = taken_by limit live trees (tree_read names ts first to) v (sym (read_in_room limit live first signs) ∙ h)

pub block_on : (limit live : ℕ) (ts : List Token) (names : List (List ℕ)) (block : Option (ℕ × ℕ)) (trees : List KindTree) (r : Result (Option (Vec Step Global)) FileError) (e : FileError) → IsErrAnd r (λ x. x ≡ e) → IsBlock limit live (block_by ts names block) trees (Err e) → IsBlock limit live (block_by ts names block) trees r
block_on limit live ts names block trees (Ok v) e i h = absurd i
block_on limit live ts names block trees (Err x) e i h = subst (λ y. IsBlock limit live (block_by ts names block) trees (Err y)) (sym i) h

-- the same block, in the pool's own limit, behind the file's own names
pub block_as : (l m live : ℕ) (ts : List Token) (ns ms : List (List ℕ)) (block : Option (ℕ × ℕ)) (trees : List KindTree) (r : Result (Option (Vec Step Global)) FileError) → l ≡ m → ns ≡ ms → IsBlock l live (block_by ts ns block) trees r → IsBlock m live (block_by ts ms block) trees r
block_as l m live ts ns ms block trees r e f h = subst (λ x. IsBlock m live (block_by ts x block) trees r) f (subst (λ x. IsBlock x live (block_by ts ns block) trees r) e h)

-- what was read is what the work holds
pub content_same : (ts : List Token) (w : Work) (f : File) (v : Option (Vec Step Global)) (names : List (List ℕ)) (block : Option Tree) → names ≡ (signs_of ts).names → w.names ≡ names_by ts names f.script → w.decls.own ≡ length names → script_in w.pool.trees v ≡ option_map items block
    → content_of ts (held_in w.pool.trees w.decls.list f) block ≡ content_at w f.game.root v
content_same ts w f v names block n b o s =
    ap (λ ns. held ns (length (signs_of ts).names) (option_map items block)) (ap (λ ns. names_by ts ns f.script) (sym n) ∙ sym b)
    ∙ (ap (λ k. held w.names k (option_map items block)) (ap length (sym n) ∙ sym o) ∙ ap (held w.names w.decls.own) (sym s))
  where
    held : List (List ℕ) → ℕ → Option (List Tree) → Content
    held ns k steps = record { names = ns; own = k; declarations = declarations w.pool.trees w.decls.list; game = tree_at w.pool.trees (Some f.game.root); script = steps }

-- the names of a file are no more than its tokens, and `bool`

names_few : (names : List (List ℕ)) (counts : Counts) (ts : List Token) → length (signs_from names counts ts).names ≤ length names + length ts
unfolding signs_from
names_few names counts [] = omega arith
names_few names counts (t ∷ ts) =
    let s = step_before names counts t.kind t.text (first_text ts) in
    omega (arith, names_few s.names s.counts ts, (small names counts t.kind t.text (first_text ts)).names_more, ap (λ x. length x.names) (signs_from_cons names counts t ts s refl))

pub few_names : (ts : List Token) → length (signs_of ts).names ≤ length ts + 1
few_names ts = omega (arith, names_few (codes "bool" ∷ []) no_counts (file_tokens ts), length_read_from 0 ts)

-- what stays while a pool grows

pub root_grown : (old new : PoolView) (n : NodeId) → Grows old new → n.0 < length old.trees → tree_at new.trees (Some n) ≡ tree_at old.trees (Some n)
root_grown old new n g l = child_grown old new (Some n) g l

decl_grown : (old new : PoolView) (d : Decl) → Grows old new → IsBelow (length old.trees) d → declared new.trees d ≡ declared old.trees d
decl_grown old new (decl.Name id class args result) g b = ap (λ t. Named id.0 class t (number result)) (child_grown old new args g b)
decl_grown old new (decl.Equation n) g b = ap Equation (root_grown old new n g b)
decl_grown old new (decl.Equiv id n) g b = ap (Equiv id.0) (root_grown old new n g b)
decl_grown old new (decl.Query n) g b = ap Query (root_grown old new n g b)

pub declarations_grown : (old new : PoolView) (ds : List Decl) → Grows old new → All (IsBelow (length old.trees)) ds → declarations new.trees ds ≡ declarations old.trees ds
declarations_grown old new [] g a = refl
declarations_grown old new (d ∷ ds) g a = ap₂ (λ t ts. t ∷ ts) (decl_grown old new d g (a zero d (omega arith))) (declarations_grown old new ds g (λ k e l. a (suc k) e (omega arith)))

decl_more : (m n : ℕ) (d : Decl) → m ≤ n → IsBelow m d → IsBelow n d
decl_more m n (decl.Name id class args result) l b = ChildBelow_more m n args l b
decl_more m n (decl.Equation k) l b = omega arith
decl_more m n (decl.Equiv id k) l b = omega arith
decl_more m n (decl.Query k) l b = omega arith

pub below_grown : (old new : PoolView) (ds : List Decl) → Grows old new → All (IsBelow (length old.trees)) ds → All (IsBelow (length new.trees)) ds
below_grown old new ds g a = λ k d l. decl_more (length old.trees) (length new.trees) (slice_index_or ds k d) (Grows_length old new g) (a k d l)

pub held_grown : (old new : PoolView) (ds : List Decl) (f : File) → Grows old new → All (IsBelow (length old.trees)) ds → f.game.root.0 < length old.trees → held_in new.trees ds f ≡ held_in old.trees ds f
held_grown old new ds f g a l = ap₂ (λ es t. record { declarations = es; script = f.script; game = t }) (declarations_grown old new ds g a) (root_grown old new f.game.root g l)

pub ruleset blocks = (few_names)
