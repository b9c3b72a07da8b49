-- What is made at the end of a list of parts.
use Rattle.std.proofs.Common.{◌≡◌, suc, ◌+◌, List, [], ◌∷◌, ◌++◌, length, refl, ap, sym, ◌∙◌, arith, append_assoc}
use Rattle.std.proofs.lemmas.List.{replicate_more}
use Rattle.std.specs.Prelude.{replicate, flat_map}
use Rattle.cv_syntax_trees.specs.declared.head.Head.TheVariants.{Cons}
use Rattle.cv_syntax.specs.declared.make.Make.TheVariants.{Nothing, Over}
use Rattle.cv_syntax_trees.specs.Tree.{Tree, chain}
use Rattle.cv_syntax.specs.Postorder.{postorder}

-- a list of trees
pub chain_made : (ts : List Tree) → flat_map postorder ts ++ (Nothing ∷ replicate (length ts) (Over Cons)) ≡ postorder (chain ts)
unfolding postorder
chain_made [] = refl
chain_made (t ∷ ts) =
    append_assoc (postorder t) (flat_map postorder ts) (Nothing ∷ replicate (suc (length ts)) (Over Cons))
    ∙ ap (λ l. postorder t ++ l) (ap (λ l. flat_map postorder ts ++ Nothing ∷ l) (ap (λ k. replicate k (Over Cons)) (let e : suc (length ts) ≡ length ts + 1 = omega arith in e) ∙ sym (replicate_more (length ts) (Over Cons)))
    ∙ (sym (append_assoc (flat_map postorder ts) (Nothing ∷ replicate (length ts) (Over Cons)) (Over Cons ∷ [])) ∙ ap (λ l. l ++ Over Cons ∷ []) (chain_made ts)))

pub ruleset makes = (replicate_more, append_assoc)
