-- Places of definitions, listed in preorder, and their names.
use Rattle.std.proofs.Common.{◌≡◌, ℕ, zero, suc, ◌+◌, ◌<◌, ◌≤◌, Bool, List, [], ◌∷◌, ◌++◌, length, take, get_or, Option, Some, None, refl, sym, ap, ◌∙◌, subst, arith, append_assoc}
use Rattle.std.specs.Prelude.{if◌then◌else◌, slice_get}
use Rattle.cv_syntax_trees.specs.declared.head.Head.{Head}
use Rattle.cv_syntax_trees.specs.Head.{weight}
use Rattle.cv_syntax_trees.specs.Tree.{Tree, Empty, Node, size}
use Rattle.cv_scope_rules.specs.Context.{Context}
use Rattle.cv_scope_rules.specs.Made.{made_by}
use Rattle.cv_scope_rules.specs.Sites.{Variable}
use Rattle.cv_derive_facts.specs.Definitions.{places, places_of}
use Rattle.cv_edit_names.specs.Naming.{named_places}

pub places_go : (x here next : ℕ) (t : Tree) (h : Head) (a b : Tree) (v : Bool) (P Q R goal : List ℕ) → t ≡ Node h a b → v ≡ made_by h a (Variable x) → Q ≡ P ++ (if v then here ∷ [] else [])
    → R ≡ Q ++ places_of x (here + weight h) a → next ≡ here + weight h + size a → P ++ places_of x here t ≡ goal → R ++ places_of x next b ≡ goal
unfolding places_of
places_go x here next t h a b v P Q R goal e f g k l m =
    let A : List ℕ = places_of x (here + weight h) a in
    let B : List ℕ = places_of x (here + weight h + size a) b in
    let one : List ℕ = if v then here ∷ [] else [] in
    ap (λ n. R ++ places_of x n b) l
    ∙ (ap (λ r. r ++ B) (k ∙ ap (λ q. q ++ A) g)
    ∙ (append_assoc (P ++ one) A B ∙ (append_assoc P one (A ++ B)
    ∙ (ap (λ w. P ++ ((if w then here ∷ [] else []) ++ (A ++ B))) f
    ∙ (ap (λ u. P ++ places_of x here u) (sym e) ∙ m)))))

pub places_end : (x here : ℕ) (t : Tree) (P : List ℕ) → t ≡ Empty → P ++ places_of x here t ≡ P ++ []
unfolding places_of
places_end x here t P e = ap (λ u. P ++ places_of x here u) e

-- with one more name

pub none_named : (ds : List (ℕ × Context)) → named_places ds [] ≡ []
none_named [] = refl
none_named (d ∷ ds) = refl

pub named_more : (ds : List (ℕ × Context)) (ys : List ℕ) (k p e : ℕ) → k < length (places ds) → p ≡ get_or (places ds) k p → k < length ys → named_places ds (take (suc k) ys) ≡ named_places ds (take k ys) ++ (p, get_or ys k e) ∷ []
named_more [] ys k p e l f m = absurd (omega arith)
named_more (d ∷ ds) [] k p e l f m = absurd (omega arith)
named_more (d ∷ ds) (y ∷ ys) zero p e l f m = ap (λ r. (d.0, y) ∷ r) (none_named ds) ∙ ap (λ q. (q, y) ∷ []) (sym f)
named_more (d ∷ ds) (y ∷ ys) (suc k) p e l f m = ap (λ r. (d.0, y) ∷ r) (named_more ds ys k p e (omega arith) f (omega arith))

pub named_all : (ds : List (ℕ × Context)) (ys : List ℕ) (k : ℕ) → length (places ds) ≤ k → named_places ds (take k ys) ≡ named_places ds ys
named_all [] ys k l = refl
named_all (d ∷ ds) [] zero l = absurd (omega arith)
named_all (d ∷ ds) [] (suc k) l = refl
named_all (d ∷ ds) (y ∷ ys) zero l = absurd (omega arith)
named_all (d ∷ ds) (y ∷ ys) (suc k) l = ap (λ r. (d.0, y) ∷ r) (named_all ds ys k (omega arith))
