-- What was read of a file, built in a pool.
use Rattle.std.proofs.Common.{◌≡◌, ℕ, ◌+◌, ◌<◌, ◌≤◌, true, false, List, [], ◌∷◌, ◌++◌, length, length-append, map, All, slice_index_or, refl, ap, ap₂, subst, sym, ◌∙◌, arith, append_assoc, append-nil, Option, Some, None}
use Rattle.std.proofs.lemmas.List.{length-map}
use Rattle.std.proofs.lemmas.List.Elements.{recursion_from_All, All-from_recursion}
use Rattle.std.specs.Prelude.{flat_map, option_map}
use Rattle.std.specs.List.{AllByRecursion}
use Rattle.cv_pool.specs.declared.node.NodeId.{NodeId}
use Rattle.cv_pool.specs.KindTree.{KindTree}
use Rattle.cv_pool.specs.Nodes.{ChildBelow}
use Rattle.cv_syntax_trees.specs.declared.class.Class.TheVariants.{TypeName}
use Rattle.cv_syntax.specs.declared.decls.Decl.{Decl}
use Rattle.cv_syntax.specs.declared.make.Make.{Make}
use Rattle.cv_syntax.specs.declared.make.Make.TheVariants as make
use Rattle.cv_syntax_trees.specs.Declarations.{Declaration, Named, Equation, Equiv, Query}
use Rattle.cv_syntax.specs.Declarations.{declared, declarations, number}
use Rattle.cv_syntax.specs.Planting.{overs}
use Rattle.cv_syntax.specs.Postorder.{postorder}
use Rattle.cv_syntax_trees.specs.Tree.{Tree, Empty, Node}
use Rattle.cv_syntax.specs.PoolTrees.{tree_at}
use Rattle.cv_syntax.proofs.Trees.{tree_at_None}
use Rattle.cv_parse_grammar.specs.Filled.{filled}
use Rattle.cv_parse_grammar.specs.Identities.{AreDistinct, ids_of}
use Rattle.cv_parse_grammar.specs.Rules.{File}
use Rattle.cv_parse_declarations.specs.declared.signature.heard.Heard.{Heard}
use Rattle.cv_parse_declarations.specs.signature.Declares.{IsWhole, heard_of, parts_of, tree_in}
use Rattle.cv_parse_declarations.specs.declared.file.Reading.{Reading}
use Rattle.cv_parse.specs.Building.{Builds}
use Rattle.cv_parse.specs.Declaring.{IsBelow, IsNameable, all_decls, bool_decl, decl_of, named_by, names_by}
use Rattle.cv_parse.specs.Parsed.{bool_type}
use Rattle.cv_syntax.proofs.limits.Counting.{few_overs}

pub ruleset buildings = (few_overs)

-- declarations

bool_same : (trees : List KindTree) → declared trees bool_decl ≡ bool_type
bool_same trees = ap (λ t. Named 0 (TypeName true false) t None) (tree_at_None trees)

sort_same : (o : Option ℕ) → number (option_map named_by o) ≡ o
sort_same None = refl
sort_same (Some x) = refl

declared_same : (trees : List KindTree) (d : Declaration) (r : Option NodeId) → IsWhole d → tree_at trees r ≡ tree_in d → declared trees (decl_of (heard_of d) r) ≡ d
declared_same trees (Named id c args result) r w e = ap₂ (λ t o. Named id c t o) e (sort_same result)
declared_same trees (Equation t) (Some n) w e = ap Equation e
declared_same trees (Equation t) None w e = absurd (w (sym e ∙ tree_at_None trees))
declared_same trees (Equiv id t) (Some n) w e = ap (Equiv id) e
declared_same trees (Equiv id t) None w e = absurd (w (sym e ∙ tree_at_None trees))
declared_same trees (Query t) (Some n) w e = ap Query e
declared_same trees (Query t) None w e = absurd (w (sym e ∙ tree_at_None trees))

below_one : (trees : List KindTree) (bound : ℕ) (d : Declaration) (r : Option NodeId) → IsWhole d → tree_at trees r ≡ tree_in d → ChildBelow bound r → IsBelow bound (decl_of (heard_of d) r)
below_one trees bound (Named id c args result) r w e l = l
below_one trees bound (Equation t) (Some n) w e l = l
below_one trees bound (Equation t) None w e l = absurd (w (sym e ∙ tree_at_None trees))
below_one trees bound (Equiv id t) (Some n) w e l = l
below_one trees bound (Equiv id t) None w e l = absurd (w (sym e ∙ tree_at_None trees))
below_one trees bound (Query t) (Some n) w e l = l
below_one trees bound (Query t) None w e l = absurd (w (sym e ∙ tree_at_None trees))

front : {A : Type 0} (x y : A) (xs ys : List A) → x ∷ xs ≡ y ∷ ys → (x ≡ y) × (xs ≡ ys)
front x y xs ys e = (cc, cc)

all_read : (trees : List KindTree) (ds : List Declaration) (roots : List (Option NodeId)) (rest : List Tree) → AllByRecursion IsWhole ds → map (tree_at trees) roots ≡ map tree_in ds ++ rest → declarations trees (all_decls (map heard_of ds) roots) ≡ ds
unfolding all_decls
all_read trees [] roots rest w e = refl
all_read trees (d ∷ ds) [] rest w e = absurd (cc)
all_read trees (d ∷ ds) (r ∷ roots) rest w e =
    let p = front (tree_at trees r) (tree_in d) (map (tree_at trees) roots) (map tree_in ds ++ rest) e in
    ap₂ (λ x xs. x ∷ xs) (declared_same trees d r w.0 p.0) (all_read trees ds roots rest w.1 p.1)

all_below : (trees : List KindTree) (bound : ℕ) (ds : List Declaration) (roots : List (Option NodeId)) (rest : List Tree) → AllByRecursion IsWhole ds → map (tree_at trees) roots ≡ map tree_in ds ++ rest → AllByRecursion (ChildBelow bound) roots → AllByRecursion (IsBelow bound) (all_decls (map heard_of ds) roots)
unfolding all_decls
all_below trees bound [] roots rest w e l = tt
all_below trees bound (d ∷ ds) [] rest w e l = tt
all_below trees bound (d ∷ ds) (r ∷ roots) rest w e l =
    let p = front (tree_at trees r) (tree_in d) (map (tree_at trees) roots) (map tree_in ds ++ rest) e in
    (below_one trees bound d r w.0 p.0 l.0, all_below trees bound ds roots rest w.1 p.1 l.1)

-- the trees of a file, that of its game at the end
abbrev pub all_trees : File → List Tree
all_trees f = map tree_in f.decls ++ filled f.game ∷ []

flat_parts : (ds : List Declaration) (t : Tree) → flat_map parts_of ds ++ postorder t ≡ flat_map postorder (map tree_in ds ++ t ∷ [])
flat_parts [] t = sym (append-nil (postorder t))
flat_parts (d ∷ ds) t = append_assoc (parts_of d) (flat_map parts_of ds) (postorder t) ∙ ap (λ ms. parts_of d ++ ms) (flat_parts ds t)

some_parts : (t : Tree) → 0 < length (postorder t)
unfolding postorder
some_parts Empty = omega arith
some_parts (Node h a b) = omega (arith, some_parts a, length-append (postorder a) (postorder b ++ make.Over h ∷ []))

few_heard : (ds : List Declaration) → length ds ≤ length (flat_map parts_of ds)
few_heard [] = omega arith
few_heard (d ∷ ds) = omega (arith, few_heard ds, some_parts (tree_in d), length-append (parts_of d) (flat_map parts_of ds))

names_heard : (ds : List Declaration) → flat_map names_by (map heard_of ds) ≡ ids_of ds
names_heard [] = refl
names_heard (Named id c args result ∷ ds) = ap (λ l. id ∷ l) (names_heard ds)
names_heard (Equation t ∷ ds) = names_heard ds
names_heard (Equiv id t ∷ ds) = ap (λ l. id ∷ l) (names_heard ds)
names_heard (Query t ∷ ds) = names_heard ds

all_nameable : (ds : List Declaration) → AllByRecursion IsWhole ds → AllByRecursion IsNameable (map heard_of ds)
all_nameable [] w = tt
all_nameable (Named id c args result ∷ ds) w = (w.0, all_nameable ds w.1)
all_nameable (Equation t ∷ ds) w = (tt, all_nameable ds w.1)
all_nameable (Equiv id t ∷ ds) w = (tt, all_nameable ds w.1)
all_nameable (Query t ∷ ds) w = (tt, all_nameable ds w.1)

at_last : (trees : List KindTree) (roots : List (Option NodeId)) (ds : List Declaration) (t : Tree) (o : Option NodeId) → map (tree_at trees) roots ≡ map tree_in ds ++ t ∷ [] → tree_at trees (slice_index_or roots (length ds) o) ≡ t
at_last trees [] [] t o e = absurd (cc)
at_last trees [] (d ∷ ds) t o e = absurd (cc)
at_last trees (r ∷ rs) [] t o e = cc
at_last trees (r ∷ rs) (d ∷ ds) t o e = let f : map (tree_at trees) rs ≡ map tree_in ds ++ t ∷ [] = cc in at_last trees rs ds t o f

module _ (r : Reading) (makes : List Make) (b : Builds r makes) where
  pub parts_are : makes ≡ flat_map postorder (all_trees b.file)
  parts_are = b.parts ∙ (ap (λ l. l ++ postorder (filled b.file.game)) b.hears.trees ∙ flat_parts b.file.decls (filled b.file.game))

  heard_length : length r.heard.items ≡ length b.file.decls
  heard_length = ap length b.hears.heard ∙ length-map b.file.decls heard_of

  pub roots_length : (trees : List KindTree) (roots : List (Option NodeId)) → map (tree_at trees) roots ≡ all_trees b.file → length roots ≡ length r.heard.items + 1
  roots_length trees roots e =
      let a = length-map roots (tree_at trees) in
      let c = ap length e in
      let d = length-append (map tree_in b.file.decls) (filled b.file.game ∷ []) in
      let f = length-map b.file.decls tree_in in
      let g = heard_length in
      omega arith

  pub few_read : (n : ℕ) → length makes < n → length r.heard.items < n
  few_read n l =
      let a = ap length b.parts in
      let c = length-append r.trees.items (postorder (filled b.file.game)) in
      let d = ap length b.hears.trees in
      let f = few_heard b.file.decls in
      let g = heard_length in
      omega arith

  pub nameable : AllByRecursion IsNameable r.heard.items
  nameable = subst (AllByRecursion IsNameable) (sym b.hears.heard) (all_nameable b.file.decls b.hears.whole)

  pub distinct : AreDistinct (0 ∷ flat_map names_by r.heard.items)
  distinct = subst (λ l. AreDistinct (0 ∷ l)) (sym (ap (flat_map names_by) b.hears.heard ∙ names_heard b.file.decls)) b.distinct

  -- the last tree is the game
  pub last_game : (trees : List KindTree) (roots : List (Option NodeId)) (k : ℕ) (o root : Option NodeId) → map (tree_at trees) roots ≡ all_trees b.file → k ≡ length r.heard.items → slice_index_or roots k o ≡ root → tree_at trees root ≡ filled b.file.game
  last_game trees roots k o root e l f = ap (tree_at trees) (sym f ∙ ap (λ n. slice_index_or roots n o) (l ∙ heard_length)) ∙ at_last trees roots b.file.decls (filled b.file.game) o e

  pub decls_same : (trees : List KindTree) (hs : List Heard) (roots : List (Option NodeId)) (list : List Decl) → hs ≡ r.heard.items → map (tree_at trees) roots ≡ all_trees b.file → list ≡ bool_decl ∷ all_decls hs roots → declarations trees list ≡ bool_type ∷ b.file.decls
  decls_same trees hs roots list h e l =
      ap (declarations trees) l
      ∙ ap₂ (λ d ds. d ∷ ds) (bool_same trees) (ap (λ x. declarations trees (all_decls x roots)) (h ∙ b.hears.heard) ∙ all_read trees b.file.decls roots (filled b.file.game ∷ []) b.hears.whole e)

  pub decls_below : (trees : List KindTree) (bound : ℕ) (hs : List Heard) (roots : List (Option NodeId)) (list : List Decl) → hs ≡ r.heard.items → map (tree_at trees) roots ≡ all_trees b.file → All (ChildBelow bound) roots → list ≡ bool_decl ∷ all_decls hs roots → All (IsBelow bound) list
  decls_below trees bound hs roots list h e live l =
      subst (All (IsBelow bound)) (sym l)
      (All-from_recursion (IsBelow bound) (bool_decl ∷ all_decls hs roots)
      (tt, subst (λ x. AllByRecursion (IsBelow bound) (all_decls x roots)) (sym (h ∙ b.hears.heard)) (all_below trees bound b.file.decls roots (filled b.file.game ∷ []) b.hears.whole e (recursion_from_All (ChildBelow bound) roots live))))

pub last_live : (bound : ℕ) (roots : List (Option NodeId)) (k : ℕ) (o : Option NodeId) (root : NodeId) → All (ChildBelow bound) roots → k < length roots → slice_index_or roots k o ≡ Some root → root.0 < bound
last_live bound roots k o root live l e = subst (ChildBelow bound) e (live k o l)
