-- The names that trees read, node by node.
use Rattle.std.proofs.Common.{◌≡◌, ℕ, Bool, true, false, ◌&&◌, ◌||◌, not, ◌==◌, cond, List, [], ◌∷◌, ◌++◌, append_assoc, filter, nat_eq, refl, ap, ap₂, sym, ◌∙◌}
use Rattle.std.proofs.lemmas.List.{append-nil}
use Rattle.std.specs.HashSet.{Updates}
use Rattle.std.specs.List.{list_any}
use Rattle.cv_syntax_trees.proofs.lists.Tests.{or_false}
use Rattle.cv_syntax_trees.specs.declared.head.Head.{Head}
use Rattle.cv_syntax_trees.specs.declared.head.Head.TheVariants.{Binder, Leaf, Read}
use Rattle.cv_syntax.specs.NameSets.{NameSet, is_in, is_one_of}
use Rattle.cv_syntax_trees.specs.Tree.{Tree, Empty, Node, head_reads_only, reads_only}
use Rattle.cv_syntax.proofs.Trees.{reads_open, tree_of_NoTree}
use Rattle.cv_meaning.specs.Correspondences.{leaf_name, leaf_names, reads, typed_names}
use Rattle.cv_query_entries.specs.terms.Reads.{head_is}

-- one name more in a set

cond_or : (b c : Bool) → cond b true c ≡ (b || c)
cond_or true c = refl
cond_or false c = refl

exchange : (a b c : Bool) → (b || (a || c)) ≡ ((a || b) || c)
exchange true true c = refl
exchange true false c = refl
exchange false b c = or b c
  where
    or : (b c : Bool) → (b || c) ≡ (b || c)
    or b c = refl

pub leaf_more : (t : Tree) (h : Head) (a b : Tree) (m n : NameSet) (x : ℕ) → t ≡ Node h a b → x ≡ leaf_name a → Updates nat_eq m n x true → (y : ℕ) → (is_one_of (leaf_names b) y || is_in n y) ≡ (is_one_of (leaf_names t) y || is_in m y)
leaf_more t h a b m n x e f u y =
    ap (λ c. is_one_of (leaf_names b) y || c) (u.0 y ∙ cond_or (x == y) (is_in m y))
    ∙ (exchange (x == y) (is_one_of (leaf_names b) y) (is_in m y)
    ∙ ap₂ (λ z s. (z == y || is_one_of (leaf_names b) y) || s) f refl
    ∙ ap (λ s. is_one_of (leaf_names s) y || is_in m y) (sym e))

pub no_leaf : (t : Tree) (m : NameSet) → t ≡ Empty → (y : ℕ) → is_in m y ≡ (is_one_of (leaf_names t) y || is_in m y)
no_leaf t m e y = ap (λ s. is_one_of (leaf_names s) y || is_in m y) (sym e)

-- the names that a node reads, and those below it

not_and : (a b : Bool) → not (a && b) ≡ (not a || not b)
not_and true b = refl
not_and false b = refl

not_not : (a : Bool) → not (not a) ≡ a
not_not true = refl
not_not false = refl

head_reads : (h : Head) (y : ℕ) → not (head_reads_only (λ z. not (z == y)) h) ≡ head_is h y
head_reads (Leaf x) y = not_not (x == y)
head_reads (Read x) y = not_not (x == y)
head_reads h y = refl

pub reads_node : (t : Tree) (h : Head) (a b : Tree) (y : ℕ) → t ≡ Node h a b → reads t y ≡ (head_is h y || (reads a y || reads b y))
reads_node t h a b y e =
    let only : (ℕ → Bool) = λ z. not (z == y) in
    ap (λ s. reads s y) e
    ∙ (ap not (reads_open only (Node h a b))
    ∙ (not_and (head_reads_only only h) (reads_only only a && reads_only only b)
    ∙ ap₂ ◌||◌ (head_reads h y) (not_and (reads_only only a) (reads_only only b))))

pub reads_empty : (t : Tree) (y : ℕ) → t ≡ Empty → reads t y ≡ false
reads_empty t y e = ap (λ s. reads s y) e ∙ ap not (reads_open (λ z. not (z == y)) Empty)

pub reads_more : (t : Tree) (h : Head) (a b : Tree) (m n k : NameSet) → t ≡ Node h a b → ((y : ℕ) → is_in n y ≡ (head_is h y || is_in m y)) → ((y : ℕ) → is_in k y ≡ (reads a y || is_in n y)) → (y : ℕ) → (reads b y || is_in k y) ≡ (reads t y || is_in m y)
reads_more t h a b m n k e f g y =
    ap (λ c. reads b y || c) (g y ∙ ap (λ c. reads a y || c) (f y))
    ∙ (cases (reads b y) (reads a y) (head_is h y) (is_in m y) ∙ ap (λ c. c || is_in m y) (sym (reads_node t h a b y e)))
  where
    cases : (p q r s : Bool) → (p || (q || (r || s))) ≡ ((r || (q || p)) || s)
    cases true true true s = refl
    cases true true false s = refl
    cases true false true s = refl
    cases true false false s = refl
    cases false true true s = refl
    cases false true false s = refl
    cases false false true s = refl
    cases false false false s = refl

pub reads_end : (t : Tree) (m : NameSet) → t ≡ Empty → (y : ℕ) → is_in m y ≡ (reads t y || is_in m y)
reads_end t m e y = ap (λ c. c || is_in m y) (sym (reads_empty t y e))

-- the variables on the right alone, binder by binder

abbrev pub alone_in : (variables : List ℕ) → (atoms : Tree) → ℕ × ℕ → Bool
alone_in xs atoms b = reads atoms b.0 && not (list_any (λ x. x == b.0) xs)

abbrev pub alone_of : (variables : List ℕ) → (atoms : Tree) → Tree → List (ℕ × ℕ)
alone_of xs atoms bs = filter (alone_in xs atoms) (typed_names bs)

module _ (xs : List ℕ) (atoms t : Tree) where
  pub alone_end : (found : List (ℕ × ℕ)) → t ≡ Empty → found ≡ found ++ alone_of xs atoms t
  alone_end found e = sym (append-nil found) ∙ ap (λ s. found ++ alone_of xs atoms s) (sym e)

  module _ (h : Head) (a b : Tree) (e : t ≡ Node h a b) where
    pub alone_other : (found : List (ℕ × ℕ)) → ((y T : ℕ) → h ≡ Binder y T → ⊥) → found ≡ found ++ alone_of xs atoms t
    alone_other found n = sym (append-nil found) ∙ ap (λ ys. found ++ filter (alone_in xs atoms) ys) (sym (ap typed_names e ∙ none h n))
      where
        none : (h : Head) → ((y T : ℕ) → h ≡ Binder y T → ⊥) → typed_names (Node h a b) ≡ []
        none (Binder y T) n = absurd (n y T refl)
        none h n = refl

    module _ (x T : ℕ) (f : h ≡ Binder x T) where
      one : alone_of xs atoms t ≡ (cond (alone_in xs atoms (x, T)) ((x, T) ∷ alone_of xs atoms b) (alone_of xs atoms b))
      one = ap (alone_of xs atoms) (e ∙ ap (λ k. Node k a b) f)

      pub alone_kept : (found : List (ℕ × ℕ)) → alone_in xs atoms (x, T) ≡ true → (found ++ (x, T) ∷ []) ++ alone_of xs atoms b ≡ found ++ alone_of xs atoms t
      alone_kept found g = append_assoc found ((x, T) ∷ []) (alone_of xs atoms b) ∙ ap (λ ys. found ++ ys) (sym (one ∙ ap (λ c. cond c ((x, T) ∷ alone_of xs atoms b) (alone_of xs atoms b)) g))

      pub alone_dropped : (found : List (ℕ × ℕ)) → alone_in xs atoms (x, T) ≡ false → found ++ alone_of xs atoms b ≡ found ++ alone_of xs atoms t
      alone_dropped found g = ap (λ ys. found ++ ys) (sym (one ∙ ap (λ c. cond c ((x, T) ∷ alone_of xs atoms b) (alone_of xs atoms b)) g))

-- by the sets of both sides
pub alone_by : (xs : List ℕ) (atoms : Tree) (left right : NameSet) (x T : ℕ) (b : Bool) → ((y : ℕ) → is_in left y ≡ is_one_of xs y) → ((y : ℕ) → is_in right y ≡ reads atoms y) → b ≡ (is_in right x && not (is_in left x)) → alone_in xs atoms (x, T) ≡ b
alone_by xs atoms left right x T b f g e = sym (e ∙ ap₂ (λ r l. r && not l) (g x) (f x))

pub ruleset reading = (tree_of_NoTree, or_false)
