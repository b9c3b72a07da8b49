-- Lists that are gathered item by item.
use Rattle.std.proofs.Common.{◌≡◌, ℕ, List, [], ◌∷◌, ◌++◌, map, refl, ap, sym, ◌∙◌}
use Rattle.std.proofs.lemmas.List.{append-nil, append_assoc}
use Rattle.cv_syntax_trees.specs.declared.head.Head.{Head}
use Rattle.cv_syntax_trees.specs.declared.head.Head.TheVariants.{Binder, Let, New}
use Rattle.cv_syntax_trees.specs.Tree.{Tree, Empty, Node}
use Rattle.cv_meaning.specs.Correspondences.{typed_names}
use Rattle.cv_inline.specs.NextGame.{names_assigned}

-- one part more, where what is left after it is this
pub more : {A : Type 0} (old new part rest left all : List A) → new ≡ old ++ part → left ≡ part ++ rest → old ++ left ≡ all → new ++ rest ≡ all
more old new part rest left all n l so_far = ap (λ xs. xs ++ rest) n ∙ (append_assoc old part rest ∙ (ap (λ xs. old ++ xs) (sym l) ∙ so_far))

pub none_left : {A : Type 0} (old left all : List A) → left ≡ [] → old ++ left ≡ all → old ≡ all
none_left old left all l so_far = sym (append-nil old) ∙ (ap (λ xs. old ++ xs) (sym l) ∙ so_far)

-- binders

abbrev pub variables : Tree → List ℕ
variables t = map (λ (x : ℕ × ℕ). x.0) (typed_names t)

pub variables_more : (t : Tree) (h : Head) (a b : Tree) (x n : ℕ) → t ≡ Node h a b → h ≡ Binder x n → variables t ≡ (x ∷ []) ++ variables b
variables_more t h a b x n e f = ap variables (e ∙ ap (λ k. Node k a b) f)

pub variables_other : (t : Tree) (h : Head) (a b : Tree) → t ≡ Node h a b → ((x n : ℕ) → h ≡ Binder x n → ⊥) → variables t ≡ []
variables_other t h a b e other = ap variables e ∙ by_head h other
  where
    by_head : (h : Head) → ((x n : ℕ) → h ≡ Binder x n → ⊥) → variables (Node h a b) ≡ []
    by_head (Binder x n) o = absurd (o x n refl)
    by_head h o = refl

pub variables_end : (t : Tree) → t ≡ Empty → variables t ≡ []
variables_end t e = ap variables e

-- the names that a body assigns

pub assigned_New : (t : Tree) (h : Head) (a b : Tree) (z n : ℕ) → t ≡ Node h a b → h ≡ New z n → names_assigned t ≡ (z ∷ []) ++ names_assigned b
unfolding names_assigned
assigned_New t h a b z n e f = ap names_assigned (e ∙ ap (λ k. Node k a b) f)

pub assigned_Let : (t : Tree) (h : Head) (a b : Tree) (z n : ℕ) → t ≡ Node h a b → h ≡ Let z n → names_assigned t ≡ (z ∷ []) ++ names_assigned b
unfolding names_assigned
assigned_Let t h a b z n e f = ap names_assigned (e ∙ ap (λ k. Node k a b) f)

pub assigned_other : (t : Tree) (h : Head) (a b : Tree) → t ≡ Node h a b → ((z n : ℕ) → h ≡ New z n → ⊥) → ((z n : ℕ) → h ≡ Let z n → ⊥) → names_assigned t ≡ names_assigned a ++ names_assigned b
unfolding names_assigned
assigned_other t h a b e new let_ = ap names_assigned e ∙ by_head h new let_
  where
    by_head : (h : Head) → ((z n : ℕ) → h ≡ New z n → ⊥) → ((z n : ℕ) → h ≡ Let z n → ⊥) → names_assigned (Node h a b) ≡ names_assigned a ++ names_assigned b
    by_head (New z n) o p = absurd (o z n refl)
    by_head (Let z n) o p = absurd (p z n refl)
    by_head h o p = refl

pub assigned_end : (t : Tree) → t ≡ Empty → names_assigned t ≡ []
unfolding names_assigned
assigned_end t e = ap names_assigned e
