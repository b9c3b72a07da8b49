-- What walks over trees test, node by node.
use Rattle.std.proofs.Common.{◌≡◌, ℕ, Bool, true, false, not, ◌&&◌, cond, List, ◌∷◌, Option, Some, None, refl, sym, ap, ◌∙◌}
use Rattle.std.specs.Prelude.{◌||◌, option_map}
use Rattle.std.specs.List.{list_any}
use Rattle.cv_syntax_trees.specs.declared.head.Head.{Head}
use Rattle.cv_pool.specs.KindTree.{KindTree}
use Rattle.cv_syntax_trees.specs.declared.class.Class.{Class}
use Rattle.cv_syntax_trees.specs.declared.class.Class.TheVariants as class
use Rattle.cv_syntax.specs.declared.decls.Decl.{Decl}
use Rattle.cv_syntax.specs.declared.decls.Decl.TheVariants as decl
use Rattle.cv_syntax.specs.Classes.{class_by, class_in, declaration_in}
use Rattle.cv_syntax.specs.Declarations.{declarations, declared}
use Rattle.cv_syntax_trees.specs.Tree.{Tree, Empty, Node, first_place, second_place}
use Rattle.cv_syntax_trees.specs.sites.Sites.{first_of}
use Rattle.cv_scope_rules.specs.Sites.{Variable}
use Rattle.cv_scope_rules.specs.Made.{made_by}
use Rattle.cv_scope_rules.specs.Phrases.{binds_none, head_binds_none}
use Rattle.cv_scene.specs.Scenes.{asks_for, first_reading, has_news_alone, has_some_new, head_names, head_reads, is_new_head, is_type_by, names}
use Rattle.cv_scope_rules.specs.typing.Signature.{declaration_of}
use Rattle.cv_typing.proofs.Bridges.{declaration_same}
use Rattle.cv_scene_view.specs.Kept.{is_type_class}

-- a test of a node, of its first child and of its second

pub some_here : (v p q r a : Bool) → v ≡ (p || (q || r)) → a ≡ p → a ≡ true → v ≡ true
some_here v true q r a e f g = e
some_here v false q r a e f g = absurd (cc)

pub some_first : (v p q r a : Bool) → v ≡ (p || (q || r)) → a ≡ q → a ≡ true → v ≡ true
some_first v true q r a e f g = e
some_first v false true r a e f g = e
some_first v false false r a e f g = absurd (cc)

pub some_rest : (v p q r a b : Bool) → v ≡ (p || (q || r)) → a ≡ p → a ≡ false → b ≡ q → b ≡ false → v ≡ r
some_rest v true q r a b e f g h i = absurd (cc)
some_rest v false true r a b e f g h i = absurd (cc)
some_rest v false false r a b e f g h i = e

pub all_here : (v p q r a : Bool) → v ≡ (p && (q && r)) → a ≡ p → a ≡ false → v ≡ false
all_here v true q r a e f g = absurd (cc)
all_here v false q r a e f g = e

pub all_first : (v p q r a : Bool) → v ≡ (p && (q && r)) → a ≡ q → a ≡ false → v ≡ false
all_first v false q r a e f g = e
all_first v true true r a e f g = absurd (cc)
all_first v true false r a e f g = e

pub all_rest : (v p q r a b : Bool) → v ≡ (p && (q && r)) → a ≡ p → a ≡ true → b ≡ q → b ≡ true → v ≡ r
all_rest v false q r a b e f g h i = absurd (cc)
all_rest v true false r a b e f g h i = absurd (cc)
all_rest v true true r a b e f g h i = e

-- names

pub names_node : (x : ℕ) (t : Tree) (h : Head) (a b : Tree) → t ≡ Node h a b → names x t ≡ (head_names x h || (names x a || names x b))
unfolding names
names_node x t h a b e = ap (names x) e

pub names_end : (x : ℕ) (t : Tree) → t ≡ Empty → names x t ≡ false
unfolding names
names_end x t e = ap (names x) e

-- sites

pub drawn_node : (x : ℕ) (t : Tree) (h : Head) (a b : Tree) → t ≡ Node h a b → has_some_new x t ≡ ((is_new_head h && made_by h a (Variable x)) || (has_some_new x a || has_some_new x b))
unfolding has_some_new
drawn_node x t h a b e = ap (has_some_new x) e

pub drawn_end : (x : ℕ) (t : Tree) → t ≡ Empty → has_some_new x t ≡ false
unfolding has_some_new
drawn_end x t e = ap (has_some_new x) e

pub only_node : (x : ℕ) (t : Tree) (h : Head) (a b : Tree) → t ≡ Node h a b → has_news_alone x t ≡ ((is_new_head h || not (made_by h a (Variable x))) && (has_news_alone x a && has_news_alone x b))
unfolding has_news_alone
only_node x t h a b e = ap (has_news_alone x) e

pub only_end : (x : ℕ) (t : Tree) → t ≡ Empty → has_news_alone x t ≡ true
unfolding has_news_alone
only_end x t e = ap (has_news_alone x) e

-- readings

pub reading_node : (x p : ℕ) (t : Tree) (h : Head) (a b : Tree) → t ≡ Node h a b → first_reading x p t ≡ cond (head_reads x h) (Some p) (first_of (first_reading x (first_place p h) a) (first_reading x (second_place p h a) b))
unfolding first_reading
reading_node x p t h a b e = ap (first_reading x p) e

pub reading_end : (x p : ℕ) (t : Tree) → t ≡ Empty → first_reading x p t ≡ None
unfolding first_reading
reading_end x p t e = ap (first_reading x p) e

-- a reading here, in the first child, or none in either
pub reads_here : {A : Type 0} (v o : Option A) (p : A) (b c : Bool) → v ≡ cond c (Some p) o → b ≡ c → b ≡ true → v ≡ Some p
reads_here v o p b true e f g = e
reads_here v o p b false e f g = absurd (cc)

pub reads_first : {A : Type 0} (v o q : Option A) (p r : A) (b c : Bool) → v ≡ cond c (Some p) (first_of o q) → b ≡ c → b ≡ false → o ≡ Some r → v ≡ Some r
reads_first v o q p r b true e f g h = absurd (cc)
reads_first v o q p r b false e f g h = e ∙ ap (λ s. first_of s q) h

pub reads_rest : {A : Type 0} (v o q : Option A) (p : A) (b c : Bool) → v ≡ cond c (Some p) (first_of o q) → b ≡ c → b ≡ false → o ≡ None → v ≡ q
reads_rest v o q p b true e f g h = absurd (cc)
reads_rest v o q p b false e f g h = e ∙ ap (λ s. first_of s q) h

-- whole games

pub binds_node : (xs : ℕ → Bool) (t : Tree) (h : Head) (a b : Tree) → t ≡ Node h a b → binds_none xs t ≡ (head_binds_none xs h && (binds_none xs a && binds_none xs b))
unfolding binds_none
binds_node xs t h a b e = ap (binds_none xs) e

pub binds_end : (xs : ℕ → Bool) (t : Tree) → t ≡ Empty → binds_none xs t ≡ true
unfolding binds_none
binds_end xs t e = ap (binds_none xs) e

-- queries

pub asked_here : (x : ℕ) (q : Tree) (qs all : List Tree) (d : Bool) → all ≡ q ∷ qs → d ≡ asks_for x q → d ≡ true → list_any (asks_for x) all ≡ true
asked_here x q qs all d e f g = ap (list_any (asks_for x)) e ∙ ap (λ b. b || list_any (asks_for x) qs) (sym f ∙ g)

pub asked_later : (x : ℕ) (q : Tree) (qs all : List Tree) (d : Bool) → all ≡ q ∷ qs → d ≡ asks_for x q → d ≡ false → list_any (asks_for x) all ≡ list_any (asks_for x) qs
asked_later x q qs all d e f g = ap (list_any (asks_for x)) e ∙ ap (λ b. b || list_any (asks_for x) qs) (sym f ∙ g)

-- declarations

type_by : (trees : List KindTree) (o : Option Decl) → is_type_class (class_by o) ≡ is_type_by (option_map (declared trees) o)
type_by trees None = refl
type_by trees (Some (decl.Name id (class.TypeName fixed large) args r)) = refl
type_by trees (Some (decl.Name id class.Param args r)) = refl
type_by trees (Some (decl.Name id class.Channel args r)) = refl
type_by trees (Some (decl.Name id (class.Fun d) args r)) = refl
type_by trees (Some (decl.Name id class.Event args r)) = refl
type_by trees (Some (decl.Name id class.Proba args r)) = refl
type_by trees (Some (decl.Name id class.Equiv args r)) = refl
type_by trees (Some (decl.Name id class.Free args r)) = refl
type_by trees (Some (decl.Equation n)) = refl
type_by trees (Some (decl.Equiv id n)) = refl
type_by trees (Some (decl.Query n)) = refl

pub type_same : (trees : List KindTree) (ds : List Decl) (T : ℕ) (k : Class) → k ≡ class_in ds T → is_type_class k ≡ is_type_by (declaration_of (declarations trees ds) T)
type_same trees ds T k e = ap is_type_class e ∙ (type_by trees (declaration_in ds T) ∙ ap is_type_by (sym (declaration_same trees ds T)))
