-- What callers use of growth: nodes that are there keep their numbers and trees.
use Rattle.std.proofs.Common.{◌≡◌, ℕ, ◌<◌, ◌≤◌, ◌++◌, length, take, drop, refl, ap, sym, ◌∙◌, append_assoc, arith, length-append, Option, Some, None}
use Rattle.std.proofs.lemmas.List.{get_or_append_left, take-append-drop}
use Rattle.std.proofs.Math.Seq.{take-append_seam, take-length}
use Rattle.cv_pool.specs.KindTree.{NoTree}
use Rattle.cv_pool.specs.Nodes.{at, child, ChildBelow}
use Rattle.cv_pool.specs.PoolView.{PoolView, Grows}
use Rattle.cv_pool.specs.declared.node.NodeId.{NodeId}

pub Grows_split : (old new : PoolView) → Grows old new → old.trees ++ drop (length old.trees) new.trees ≡ new.trees
Grows_split old new g = ap (λ ts. ts ++ drop (length old.trees) new.trees) (sym g.kept) ∙ take-append-drop (length old.trees) new.trees

pub Grows_length : (old new : PoolView) → Grows old new → length old.trees ≤ length new.trees
Grows_length old new g = omega (arith, ap length (Grows_split old new g), length-append old.trees (drop (length old.trees) new.trees))

pub Grows_at : (old new : PoolView) (n : ℕ) → Grows old new → n < length old.trees → at new.trees n ≡ at old.trees n
Grows_at old new n g h = ap (λ ts. at ts n) (sym (Grows_split old new g)) ∙ get_or_append_left old.trees (drop (length old.trees) new.trees) NoTree n h

pub Grows_child : (old new : PoolView) (o : Option NodeId) → Grows old new → ChildBelow (length old.trees) o → child new.trees o ≡ child old.trees o
Grows_child old new None g h = refl
Grows_child old new (Some n) g h = Grows_at old new n.0 g h

pub ChildBelow_more : (m n : ℕ) (o : Option NodeId) → m ≤ n → ChildBelow m o → ChildBelow n o
ChildBelow_more m n None h b = tt
ChildBelow_more m n (Some k) h b = omega arith

pub Grows_same : (old new : PoolView) → new.trees ≡ old.trees → new.limit ≡ old.limit → Grows old new
Grows_same old new e l = record { kept = ap (take (length old.trees)) e ∙ take-length old.trees; limit = l }

pub Grows_refl : (s : PoolView) → Grows s s
Grows_refl s = record { kept = take-length s.trees; limit = refl }

pub Grows_trans : (a b c : PoolView) → Grows a b → Grows b c → Grows a c
Grows_trans a b c g h = record {
  kept =
      let s : a.trees ++ (drop (length a.trees) b.trees ++ drop (length b.trees) c.trees) ≡ c.trees =
      sym (append_assoc a.trees _ _) ∙ (ap (λ ts. ts ++ drop (length b.trees) c.trees) (Grows_split a b g) ∙ Grows_split b c h) in
      ap (take (length a.trees)) (sym s) ∙ take-append_seam a.trees (drop (length a.trees) b.trees ++ drop (length b.trees) c.trees);
  limit = h.limit ∙ g.limit;
}

-- what a release gives back
pub Grows_back : (old new : PoolView) → Grows old new → take (length old.trees) new.trees ≡ old.trees
Grows_back old new g = g.kept

pub ruleset growth = (Grows_length, Grows_at, Grows_child, ChildBelow_more, Grows_trans)
