-- The labels of a tree, node by node; and those that are drawn, one by one.
use Rattle.std.proofs.Common.{◌≡◌, ℕ, suc, ◌+◌, ◌<◌, Bool, List, [], ◌∷◌, ◌++◌, length, drop, arith, refl, ap, sym, ◌∙◌}
use Rattle.std.proofs.Math.Path.{fun_ext}
use Rattle.std.proofs.lemmas.List.{append-nil, append_assoc, drop_more}
use Rattle.cv_syntax_trees.specs.declared.head.Head.{Head}
use Rattle.cv_syntax_trees.specs.declared.head.Head.TheVariants.{Find}
use Rattle.cv_syntax_trees.specs.Tree.{Tree, Empty, Node}
use Rattle.cv_inline.specs.Draws.{labels_from, labels_in, least_free}
use Rattle.cv_inline_draws.specs.names.Labels.{label_of}
use Rattle.cv_inline_draws.specs.names.Texts.{is_listed}

labels_in_Node : (h : Head) (a b : Tree) → labels_in (Node h a b) ≡ label_of h ++ (labels_in a ++ labels_in b)
unfolding labels_in
labels_in_Node (Find l) a b = refl
labels_in_Node h a b = refl

labels_in_Empty : labels_in Empty ≡ []
unfolding labels_in
labels_in_Empty = refl

-- one more node: its label, and the labels below it
pub nodes_more : (before one two all : List ℕ) (h : Head) (t a b : Tree) → t ≡ Node h a b → one ≡ before ++ label_of h → two ≡ one ++ labels_in a → before ++ labels_in t ≡ all → two ++ labels_in b ≡ all
nodes_more before one two all h t a b e f g so_far =
    ap (λ xs. xs ++ labels_in b) (g ∙ ap (λ xs. xs ++ labels_in a) f)
    ∙ (append_assoc (before ++ label_of h) (labels_in a) (labels_in b)
    ∙ (append_assoc before (label_of h) (labels_in a ++ labels_in b) ∙ (ap (λ xs. before ++ xs) (sym (ap labels_in e ∙ labels_in_Node h a b)) ∙ so_far)))

pub nodes_end : (before all : List ℕ) (t : Tree) → t ≡ Empty → before ++ labels_in t ≡ all → before ≡ all
nodes_end before all t e so_far = sym (append-nil before) ∙ (ap (λ xs. before ++ xs) (sym (ap labels_in e ∙ labels_in_Empty)) ∙ so_far)

-- one more label
pub labels_more : (taken all labels : List ℕ) (is_taken : ℕ → Bool) (finds : List (ℕ × ℕ)) (from i label : ℕ) → ((k : ℕ) → is_taken k ≡ is_listed taken k) → i < length finds →
    label ≡ least_free is_taken (length taken) from → labels ++ labels_from taken from (drop i finds) ≡ all → (labels ++ label ∷ []) ++ labels_from taken (label + 1) (drop (i + 1) finds) ≡ all
labels_more taken all labels is_taken finds from i label same small least so_far =
    let p : is_taken ≡ is_listed taken = fun_ext same in
    let l : label ≡ least_free (is_listed taken) (length taken) from = least ∙ ap (λ q. least_free q (length taken) from) p in
    let next : suc label ≡ label + 1 = omega arith in
    append_assoc labels (label ∷ []) (labels_from taken (label + 1) (drop (i + 1) finds))
    ∙ (ap (λ ls. labels ++ ls) (ap (λ n. label ∷ labels_from taken n (drop (i + 1) finds)) (sym next) ∙ ap (λ n. n ∷ labels_from taken (suc n) (drop (i + 1) finds)) l ∙ sym (ap (labels_from taken from) (drop_more finds i (0, 0) small)))
    ∙ so_far)
