-- The sizes of a tree are those of its parts.
use Rattle.std.proofs.Common.{◌≡◌, ℕ, zero, suc, ◌+◌, ◌<◌, ◌≤◌, List, [], ◌∷◌, ◌++◌, length, take, drop, get_or, reverse, refl, ap, sym, ◌∙◌, append_assoc, append-nil, length-append, arith, Option, Some, None, IsSome}
use Rattle.std.specs.Prelude.{max, unwrap_or}
use Rattle.std.specs.Option.{option_to_list}
use Rattle.std.proofs.lemmas.List.{reverse-reverse, drop_more, drop_all, take_all}
use Rattle.cv_syntax_trees.specs.declared.head.Head.{Head}
use Rattle.cv_syntax.specs.declared.make.Make.{Make}
use Rattle.cv_syntax.specs.declared.make.Make.TheVariants.{Nothing, Over}
use Rattle.cv_syntax_trees.specs.Head.{weight}
use Rattle.cv_syntax.specs.Postorder.{postorder}
use Rattle.cv_syntax_trees.specs.Tree.{Tree, Empty, Node, depth, size}
use Rattle.cv_parse.specs.Weights.{capped}
use Rattle.cv_parse.specs.Measures.{depth_over, depths_behind, depths_in, part_size, parts_size}

-- syntax nodes

size_both : (a b : List Make) → parts_size (a ++ b) ≡ parts_size a + parts_size b
size_both [] b = omega arith
size_both (m ∷ a) b = let e = size_both a b in omega arith

tree_size : (t : Tree) → parts_size (postorder t) ≡ size t
unfolding postorder size
tree_size Empty = refl
tree_size (Node h a b) =
    let e = size_both (postorder a) (postorder b ++ Over h ∷ []) in
    let f = size_both (postorder b) (Over h ∷ []) in
    let i = tree_size a in
    let j = tree_size b in
    omega arith

size_next : (ms : List Make) (d : Make) (k : ℕ) → k < length ms → parts_size (take (k + 1) ms) ≡ parts_size (take k ms) + part_size (get_or ms k d)
size_next [] d k l = absurd (omega arith)
size_next (m ∷ ms) d zero l = omega arith
size_next (m ∷ ms) d (suc k) l = let e : suc k + 1 ≡ suc (k + 1) = omega arith in ap (λ n. parts_size (take n (m ∷ ms))) e ∙ (let i = size_next ms d k (omega arith) in omega arith)

-- depths

capped_over : (h : Head) (a b : ℕ) → depth_over h (capped a) (capped b) ≡ capped (weight h + max a b)
capped_over h a b = omega arith

depths_postorder : (t : Tree) (depths : List ℕ) (rest : List Make) → depths_in depths (postorder t ++ rest) ≡ depths_in (capped (depth t) ∷ depths) rest
unfolding postorder depths_in depth
depths_postorder Empty depths rest = refl
depths_postorder (Node h a b) depths rest =
    ap (depths_in depths) (append_assoc (postorder a) (postorder b ++ Over h ∷ []) rest)
    ∙ (depths_postorder a depths ((postorder b ++ Over h ∷ []) ++ rest)
    ∙ (ap (depths_in (capped (depth a) ∷ depths)) (append_assoc (postorder b) (Over h ∷ []) rest)
    ∙ (depths_postorder b (capped (depth a) ∷ depths) (Over h ∷ rest)
    ∙ ap (λ n. depths_in (n ∷ depths) rest) (capped_over h (depth a) (depth b)))))

-- So many parts were measured.
pub record IsMeasured (ms : List Make) (k nodes : ℕ) (depths : List ℕ) : Type 0 where
  pub size : nodes ≡ capped (parts_size (take k ms))
  pub depth : depths_in (reverse depths) (drop k ms) ≡ depths_in [] ms

pub measured_next : (ms : List Make) (k nodes more : ℕ) (depths now : List ℕ) → IsMeasured ms k nodes depths → k < length ms → more ≡ capped (nodes + part_size (get_or ms k Nothing)) → reverse now ≡ depths_behind (get_or ms k Nothing) (reverse depths) → IsMeasured ms (k + 1) more now
unfolding depths_in
measured_next ms k nodes more depths now d h f g = record {
  size = (let n = size_next ms Nothing k h in let i = d.size in omega arith);
  depth = ap (λ l. depths_in l (drop (k + 1) ms)) g ∙ (ap (depths_in (reverse depths)) (sym (drop_more ms k Nothing h)) ∙ d.depth);
}

pub measured_nodes : (ms : List Make) (k nodes : ℕ) (depths : List ℕ) (t : Tree) → IsMeasured ms k nodes depths → length ms ≤ k → ms ≡ postorder t → nodes ≡ capped (size t)
measured_nodes ms k nodes depths t d h e = d.size ∙ ap capped (ap parts_size (take_all k ms h ∙ e) ∙ tree_size t)

depths_at_end : (ms : List Make) (k nodes : ℕ) (depths : List ℕ) (t : Tree) → IsMeasured ms k nodes depths → length ms ≤ k → ms ≡ postorder t → reverse depths ≡ capped (depth t) ∷ []
unfolding depths_in
depths_at_end ms k nodes depths t d h e =
    ap (depths_in (reverse depths)) (sym (drop_all k ms h)) ∙ (d.depth ∙ (ap (depths_in []) (e ∙ sym (append-nil (postorder t))) ∙ depths_postorder t [] []))

only_one : (d : ℕ) (s : List ℕ) (x : Option ℕ) → d ∷ [] ≡ s ++ option_to_list x → IsSome x → unwrap_or x 0 ≡ d
only_one d [] (Some v) e i = cc
only_one d (z ∷ s) (Some v) e i = absurd (let l = ap length e in let m = length-append s (v ∷ []) in omega arith)
only_one d s None e i = absurd (cc)

pub measured_depth : (ms : List Make) (k nodes : ℕ) (depths s : List ℕ) (x : Option ℕ) (t : Tree) → IsMeasured ms k nodes depths → length ms ≤ k → ms ≡ postorder t → depths ≡ s ++ option_to_list x → (0 < length depths → IsSome x) → unwrap_or x 0 ≡ capped (depth t)
measured_depth ms k nodes depths s x t d h e f g =
    let one : depths ≡ capped (depth t) ∷ [] = sym (reverse-reverse depths) ∙ ap reverse (depths_at_end ms k nodes depths t d h e) in
    only_one (capped (depth t)) s x (sym one ∙ f) (g (let l = ap length one in omega arith))
